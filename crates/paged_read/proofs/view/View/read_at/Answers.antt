use Rattle.std.proofs.Common.{rules, refl, Ok, Err, Result, ◌≡◌, ◌+◌, ◌≤◌, ◌∙◌, ◌++◌, List, ℕ, [], ◌∷◌, length, take, drop, sym, ap, subst, arith}
use Rattle.std.proofs.lemmas.Grind.{common_steps}
use Rattle.std.specs.List.{concat}
use Rattle.std.proofs.lemmas.List.{take_all}
use Rattle.paged_read.specs.Failures.{NoneFailed, none_failed_start}
use Rattle.paged_read.specs.Tail.{tail_at, logical_bytes, tail_size}
use Rattle.paged_read.specs.Ranges.{slice, AreMissingFull, Reads}
use Rattle.paged_read.proofs.WholeReads.{vec_written}
use Rattle.std.proofs.lemmas.Result.{err_from_is_err_and}
use Rattle.disk.specs.declared.error.Error.{Error}
use Rattle.disk.specs.declared.error.Error.TheVariants.{BlobInsufficientLength, OffsetOverflow, OutOfMemory}
use Rattle.paged_read.specs.Reads.{ReadCosts}
use Rattle.paged_read.proofs.ReadLaws.{read_goes, reads_refused, leaves_nothing, costs_nothing, costs_again, costs_refused_again, costs_refused}
use Rattle.paged_read.proofs.view.View.read_at.Goals as goal

pub returns-in_default-clause-goes : goal.returns-in_default-clause-goes
returns-in_default-clause-goes g c =
    let t = tail_at c.args.self.page_size c.args.self.id c.args.self.tip.now in
    read_goes g.H.Sum.sum_of t c.args.cache.now (g.B.Blob.life c.args.blob.now) (g.B.Blob.life c.args.blob.now) c.requires.can (c.args.offset, c.args.len) concat (Err OffsetOverflow) (search rules) (λ over. refl) (search rules)

pub returns-in_default-clause-leaves : goal.returns-in_default-clause-leaves
returns-in_default-clause-leaves g c =
    leaves_nothing g.H.Sum.sum_of (tail_at c.args.self.page_size c.args.self.id c.args.self.tip.now) c.args.cache.now (g.B.Blob.life c.args.blob.now) c.args.self.page_size.ok c.requires.can

pub returns-in_default-clause-costs : goal.returns-in_default-clause-costs
returns-in_default-clause-costs g c =
    let t = tail_at c.args.self.page_size c.args.self.id c.args.self.tip.now in
    costs_nothing g.H.Sum.sum_of t (c.args.offset, c.args.len) c.args.cache.now (g.B.Blob.life c.args.blob.now) OffsetOverflow

pub returns-then-size-end-clause-goes : goal.returns-then-size-end-clause-goes
returns-then-size-end-clause-goes g c =
    let t = tail_at c.args.self.page_size c.args.self.id c.args.self.tip.now in
    read_goes g.H.Sum.sum_of t c.args.cache.now (g.B.Blob.life c.args.blob.now) (g.B.Blob.life c.args.blob.now) c.requires.can (c.args.offset, c.args.len) concat (Err BlobInsufficientLength) (search rules) (search rules) (λ fits past. refl)

pub returns-then-size-end-clause-leaves : goal.returns-then-size-end-clause-leaves
returns-then-size-end-clause-leaves g c =
    leaves_nothing g.H.Sum.sum_of (tail_at c.args.self.page_size c.args.self.id c.args.self.tip.now) c.args.cache.now (g.B.Blob.life c.args.blob.now) c.args.self.page_size.ok c.requires.can

pub returns-then-size-end-clause-costs : goal.returns-then-size-end-clause-costs
returns-then-size-end-clause-costs g c =
    let t = tail_at c.args.self.page_size c.args.self.id c.args.self.tip.now in
    costs_nothing g.H.Sum.sum_of t (c.args.offset, c.args.len) c.args.cache.now (g.B.Blob.life c.args.blob.now) BlobInsufficientLength

pub returns-in_err-resize-clause-goes : goal.returns-in_err-resize-clause-goes
returns-in_err-resize-clause-goes g c =
    let t = tail_at c.args.self.page_size c.args.self.id c.args.self.tip.now in
    read_goes g.H.Sum.sum_of t c.args.cache.now (g.B.Blob.life c.args.blob.now) (g.B.Blob.life c.args.blob.now) c.requires.can (c.args.offset, c.args.len) concat c.from_residual.result
    (let is : c.from_residual.result ≡ Err OutOfMemory = search rules in
    subst (λ (r : Result (List (List ℕ)) Error). Reads g.H.Sum.sum_of t c.args.cache.now (c.args.offset, c.args.len) concat (g.B.Blob.life c.args.blob.now) (g.B.Blob.life c.args.blob.now) r) (sym is) (none_failed_start (g.B.Blob.life c.args.blob.now).present))
    (search rules) (search rules)

pub returns-in_err-resize-clause-leaves : goal.returns-in_err-resize-clause-leaves
returns-in_err-resize-clause-leaves g c =
    leaves_nothing g.H.Sum.sum_of (tail_at c.args.self.page_size c.args.self.id c.args.self.tip.now) c.args.cache.now (g.B.Blob.life c.args.blob.now) c.args.self.page_size.ok c.requires.can

pub returns-in_err-resize-clause-costs : goal.returns-in_err-resize-clause-costs
returns-in_err-resize-clause-costs g c =
    let t = tail_at c.args.self.page_size c.args.self.id c.args.self.tip.now in
    let p = err_from_is_err_and c.from_residual.result c.from_residual.ensures.1 in
    rw p.1 (costs_nothing g.H.Sum.sum_of t (c.args.offset, c.args.len) c.args.cache.now (g.B.Blob.life c.args.blob.now) p.0)

pub returns-in_err-read_into-clause-goes : goal.returns-in_err-read_into-clause-goes
returns-in_err-read_into-clause-goes g c =
    let t = tail_at c.args.self.page_size c.args.self.id c.args.self.tip.now in
    let old = g.B.Blob.life c.args.blob.now in
    let new = g.B.Blob.life c.read_into.new.blob in
    let len = c.args.len in
    let many : length c.deref_mut.result.now ≡ len = c.deref_mut.ensures.len ∙ c.in_ok-resize.ensures.len in
    let ends : c.in-Some.end ≡ c.args.offset + len = grind arith in
    let p = err_from_is_err_and c.from_residual-in_err-read_into.result c.from_residual-in_err-read_into.ensures.1 in
    let result = c.from_residual-in_err-read_into.result in
    let cause : Reads g.H.Sum.sum_of t c.args.cache.now (c.args.offset, len) (λ (u : Unit {0}). c.read_into.new.buf) old new (Err c.in_err-read_into.field-0.0) =
    subst (λ n. Reads g.H.Sum.sum_of t c.args.cache.now (c.args.offset, n) (λ (u : Unit {0}). c.read_into.new.buf) old new (Err c.in_err-read_into.field-0.0)) many c.in_err-read_into.ensures.goes.answers in
    let answers : Reads g.H.Sum.sum_of t c.args.cache.now (c.args.offset, len) concat old new result =
    rw (p.1, p.2) (reads_refused g.H.Sum.sum_of t c.args.cache.now (c.args.offset, len) (λ (u : Unit {0}). c.read_into.new.buf) concat old new c.in_err-read_into.field-0.0 cause) in
    read_goes g.H.Sum.sum_of t c.args.cache.now old new c.requires.can (c.args.offset, len) concat result answers
    (λ over. absurd (omega (arith, over, ends)))
    (λ fits past. absurd (omega (arith, past, ends, c.size.ensures, c.if-size-end.false)))

pub returns-in_err-read_into-clause-leaves : goal.returns-in_err-read_into-clause-leaves
returns-in_err-read_into-clause-leaves g c = c.read_into.ensures.leaves

pub returns-in_err-read_into-clause-costs : goal.returns-in_err-read_into-clause-costs
returns-in_err-read_into-clause-costs g c =
    let t = tail_at c.args.self.page_size c.args.self.id c.args.self.tip.now in
    let old = g.B.Blob.life c.args.blob.now in
    let new = g.B.Blob.life c.read_into.new.blob in
    let len = c.args.len in
    let many : length c.deref_mut.result.now ≡ len = c.deref_mut.ensures.len ∙ c.in_ok-resize.ensures.len in
    let p = err_from_is_err_and c.from_residual-in_err-read_into.result c.from_residual-in_err-read_into.ensures.1 in
    let e = c.in_err-read_into.field-0.0 in
    rw p.1 (costs_refused_again {A = Unit {0}} g.H.Sum.sum_of t (c.args.offset, len) c.args.cache.now c.read_into.new.cache old new e p.0
    (subst (λ n. ReadCosts {A = Unit {0}} g.H.Sum.sum_of t (c.args.offset, n) c.args.cache.now c.read_into.new.cache old new (Err e)) many c.in_err-read_into.ensures.costs))

pub returns-in_err-append_front-clause-goes : goal.returns-in_err-append_front-clause-goes
returns-in_err-append_front-clause-goes g c =
    let t = tail_at c.args.self.page_size c.args.self.id c.args.self.tip.now in
    let old = g.B.Blob.life c.args.blob.now in
    let new = g.B.Blob.life c.read_into.new.blob in
    let len = c.args.len in
    let many : length c.deref_mut.result.now ≡ len = c.deref_mut.ensures.len ∙ c.in_ok-resize.ensures.len in
    let ends : c.in-Some.end ≡ c.args.offset + len = grind arith in
    read_goes g.H.Sum.sum_of t c.args.cache.now old new c.requires.can (c.args.offset, len) concat c.from_residual-in_err-append_front.result
    (let is : c.from_residual-in_err-append_front.result ≡ Err OutOfMemory = search rules in
    subst (λ (r : Result (List (List ℕ)) Error). Reads g.H.Sum.sum_of t c.args.cache.now (c.args.offset, len) concat old new r) (sym is) c.in_ok-read_into.ensures.goes.answers.3)
    (λ over. absurd (omega (arith, over, ends)))
    (λ fits past. absurd (omega (arith, past, ends, c.size.ensures, c.if-size-end.false)))

pub returns-in_err-append_front-clause-leaves : goal.returns-in_err-append_front-clause-leaves
returns-in_err-append_front-clause-leaves g c = c.read_into.ensures.leaves

pub returns-in_err-append_front-clause-costs : goal.returns-in_err-append_front-clause-costs
returns-in_err-append_front-clause-costs g c =
    let t = tail_at c.args.self.page_size c.args.self.id c.args.self.tip.now in
    let old = g.B.Blob.life c.args.blob.now in
    let new = g.B.Blob.life c.read_into.new.blob in
    let len = c.args.len in
    let many : length c.deref_mut.result.now ≡ len = c.deref_mut.ensures.len ∙ c.in_ok-resize.ensures.len in
    let p = err_from_is_err_and c.from_residual-in_err-append_front.result c.from_residual-in_err-append_front.ensures.1 in
    let count = length c.deref_mut.result.now in
    rw p.1 (subst (λ n. ReadCosts {A = List (List ℕ)} g.H.Sum.sum_of t (c.args.offset, n) c.args.cache.now c.read_into.new.cache old new (Err p.0)) many
    (costs_refused {A = Unit {0}} g.H.Sum.sum_of t (c.args.offset, count) c.args.cache.now c.read_into.new.cache old new _ p.0 c.in_ok-read_into.ensures.goes.answers.2 c.in_ok-read_into.ensures.costs))

pub returns-clause-goes : goal.returns-clause-goes
returns-clause-goes g c =
    let t = tail_at c.args.self.page_size c.args.self.id c.args.self.tip.now in
    let d = (g.B.Blob.life c.args.blob.now).present in
    let len = c.args.len in
    let room : c.resize.new.self.len ≡ len = c.in_ok-resize.ensures.len in
    let many : length c.deref_mut.result.now ≡ len = c.deref_mut.ensures.len ∙ room in
    let bytes = c.read_into.new.buf in
    let size : length bytes ≡ len = c.read_into.ensures.goes.size ∙ many in
    let written : take c.resize.new.self.len (bytes ++ drop (length bytes) c.resize.new.self.items) ≡ bytes = vec_written c.resize.new.self.len bytes c.resize.new.self.items (size ∙ sym room) in
    let read : (c.args.offset + length c.deref_mut.result.now ≤ tail_size t) × (bytes ≡ slice (logical_bytes t d.readable) (c.args.offset, length c.deref_mut.result.now)) × AreMissingFull g.H.Sum.sum_of c.args.cache.now t ((c.args.offset, length c.deref_mut.result.now) ∷ []) d.readable × NoneFailed d (g.B.Blob.life c.read_into.new.blob).present = c.in_ok-read_into.ensures.goes.answers in
    let old = g.B.Blob.life c.args.blob.now in
    let new = g.B.Blob.life c.read_into.new.blob in
    let ends : c.in-Some.end ≡ c.args.offset + len = grind arith in
    read_goes g.H.Sum.sum_of t c.args.cache.now old new c.requires.can (c.args.offset, len) concat (Ok c.append_front.new.self) (
      omega (arith, read.0, many),
      c.in_ok-append_front.ensures.bytes ∙ ap (λ (l : List (List ℕ)). concat l ++ take len (take c.resize.new.self.len (bytes ++ drop (length bytes) c.resize.new.self.items))) c.new-bufs.ensures
          ∙ ap (λ (l : List ℕ). take len l) written ∙ take_all len bytes (omega (arith, size)) ∙ read.1 ∙ ap (λ n. slice (logical_bytes t d.readable) (c.args.offset, n)) many,
      subst (λ n. AreMissingFull g.H.Sum.sum_of c.args.cache.now t ((c.args.offset, n) ∷ []) d.readable) many read.2,
      read.3,
    )
    (λ over. absurd (omega (arith, over, ends)))
    (λ fits past. absurd (omega (arith, past, ends, c.size.ensures, c.if-size-end.false)))

pub returns-clause-leaves : goal.returns-clause-leaves
returns-clause-leaves g c = c.read_into.ensures.leaves

pub returns-clause-costs : goal.returns-clause-costs
returns-clause-costs g c =
    let t = tail_at c.args.self.page_size c.args.self.id c.args.self.tip.now in
    let old = g.B.Blob.life c.args.blob.now in
    let new = g.B.Blob.life c.read_into.new.blob in
    let len = c.args.len in
    let many : length c.deref_mut.result.now ≡ len = c.deref_mut.ensures.len ∙ c.in_ok-resize.ensures.len in
    costs_again {A = Unit {0}} g.H.Sum.sum_of t (c.args.offset, len) c.args.cache.now c.read_into.new.cache old new _ _
    (subst (λ n. ReadCosts {A = Unit {0}} g.H.Sum.sum_of t (c.args.offset, n) c.args.cache.now c.read_into.new.cache old new (Ok _)) many c.in_ok-read_into.ensures.costs)

pub append_front-requires : goal.append_front-requires
append_front-requires g c = grind (arith, common_steps)
