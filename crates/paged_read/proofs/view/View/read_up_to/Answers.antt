use Rattle.std.proofs.Common.{rules, refl, Ok, Err, Result, ℕ, ◌≡◌, ◌+◌, ◌-◌, ◌≤◌, ◌∙◌, ◌++◌, [], ◌∷◌, length, take, drop, min, inr, ap, subst, sym, arith}
use Rattle.paged_read.specs.Failures.{NoneFailed, none_failed_start}
use Rattle.paged_read.specs.Tail.{tail_at, logical_bytes, tail_size}
use Rattle.paged_read.specs.Ranges.{slice, AreMissingFull, ReadsUpTo, range_up_to}
use Rattle.std.proofs.lemmas.Result.{err_from_is_err_and}
use Rattle.std.specs.Prelude.{Vec}
use Rattle.std.specs.declared.alloc.Global.{Global}
use Rattle.disk.specs.declared.error.Error.{Error}
use Rattle.disk.specs.declared.error.Error.TheVariants.{BlobInsufficientLength, OutOfMemory}
use Rattle.paged_read.specs.Reads.{ReadCosts}
use Rattle.paged_read.proofs.Windows.{missing_none}
use Rattle.paged_read.proofs.ReadLaws.{read_up_to_goes, up_to_refused, leaves_nothing, costs_nothing, costs_empty, costs_again, costs_refused_again}
use Rattle.paged_read.proofs.WholeReads.{reads_nothing, vec_written}
use Rattle.paged_read.proofs.view.View.read_up_to.Goals as goal

pub returns-then-len-eq0-clause-goes : goal.returns-then-len-eq0-clause-goes
returns-then-len-eq0-clause-goes g c =
    let t = tail_at c.args.self.page_size c.args.self.id c.args.self.tip.now in
    read_up_to_goes g.H.Sum.sum_of t c.args.cache.now (g.B.Blob.life c.args.blob.now) (g.B.Blob.life c.args.blob.now) c.requires.can c.args.offset c.args.len (Ok (c.clear.new.self, 0))
    (reads_nothing g.H.Sum.sum_of t c.args.cache.now c.args.offset c.args.len (g.B.Blob.life c.args.blob.now) c.clear.new.self c.if-len-eq0.true c.clear.ensures.items)
    (λ some past. absurd (some c.if-len-eq0.true)) tt

pub returns-then-len-eq0-clause-leaves : goal.returns-then-len-eq0-clause-leaves
returns-then-len-eq0-clause-leaves g c =
    leaves_nothing g.H.Sum.sum_of (tail_at c.args.self.page_size c.args.self.id c.args.self.tip.now) c.args.cache.now (g.B.Blob.life c.args.blob.now) c.args.self.page_size.ok c.requires.can

pub returns-then-len-eq0-clause-costs : goal.returns-then-len-eq0-clause-costs
returns-then-len-eq0-clause-costs g c =
    let t = tail_at c.args.self.page_size c.args.self.id c.args.self.tip.now in
    costs_empty g.H.Sum.sum_of t (range_up_to t c.args.offset c.args.len) c.args.cache.now (g.B.Blob.life c.args.blob.now) _ (missing_none c.args.cache.now t c.args.offset (min c.args.len (tail_size t - c.args.offset)) (omega (arith, c.if-len-eq0.true)))

pub returns-then-offset-size-clause-goes : goal.returns-then-offset-size-clause-goes
returns-then-offset-size-clause-goes g c =
    let t = tail_at c.args.self.page_size c.args.self.id c.args.self.tip.now in
    read_up_to_goes g.H.Sum.sum_of t c.args.cache.now (g.B.Blob.life c.args.blob.now) (g.B.Blob.life c.args.blob.now) c.requires.can c.args.offset c.args.len (Err BlobInsufficientLength) (search rules) (λ some past. refl) (search rules)

pub returns-then-offset-size-clause-leaves : goal.returns-then-offset-size-clause-leaves
returns-then-offset-size-clause-leaves g c =
    leaves_nothing g.H.Sum.sum_of (tail_at c.args.self.page_size c.args.self.id c.args.self.tip.now) c.args.cache.now (g.B.Blob.life c.args.blob.now) c.args.self.page_size.ok c.requires.can

pub returns-then-offset-size-clause-costs : goal.returns-then-offset-size-clause-costs
returns-then-offset-size-clause-costs g c =
    let t = tail_at c.args.self.page_size c.args.self.id c.args.self.tip.now in
    costs_nothing g.H.Sum.sum_of t (range_up_to t c.args.offset c.args.len) c.args.cache.now (g.B.Blob.life c.args.blob.now) BlobInsufficientLength

pub returns-in_err-resize-clause-goes : goal.returns-in_err-resize-clause-goes
returns-in_err-resize-clause-goes g c =
    let t = tail_at c.args.self.page_size c.args.self.id c.args.self.tip.now in
    read_up_to_goes g.H.Sum.sum_of t c.args.cache.now (g.B.Blob.life c.args.blob.now) (g.B.Blob.life c.args.blob.now) c.requires.can c.args.offset c.args.len c.from_residual.result
    (let is : c.from_residual.result ≡ Err OutOfMemory = search rules in
    subst (λ (r : Result (Vec ℕ Global × ℕ) Error). ReadsUpTo g.H.Sum.sum_of t c.args.cache.now c.args.offset c.args.len (g.B.Blob.life c.args.blob.now) (g.B.Blob.life c.args.blob.now) r) (sym is) (none_failed_start (g.B.Blob.life c.args.blob.now).present))
    (λ some past. absurd (omega (arith, past, c.size-size.ensures, c.if-offset-size.false))) (search rules)

pub returns-in_err-resize-clause-leaves : goal.returns-in_err-resize-clause-leaves
returns-in_err-resize-clause-leaves g c =
    leaves_nothing g.H.Sum.sum_of (tail_at c.args.self.page_size c.args.self.id c.args.self.tip.now) c.args.cache.now (g.B.Blob.life c.args.blob.now) c.args.self.page_size.ok c.requires.can

pub returns-in_err-resize-clause-costs : goal.returns-in_err-resize-clause-costs
returns-in_err-resize-clause-costs g c =
    let t = tail_at c.args.self.page_size c.args.self.id c.args.self.tip.now in
    let p = err_from_is_err_and c.from_residual.result c.from_residual.ensures.1 in
    rw p.1 (costs_nothing g.H.Sum.sum_of t (range_up_to t c.args.offset c.args.len) c.args.cache.now (g.B.Blob.life c.args.blob.now) p.0)

pub returns-in_err-read_into-clause-goes : goal.returns-in_err-read_into-clause-goes
returns-in_err-read_into-clause-goes g c =
    let t = tail_at c.args.self.page_size c.args.self.id c.args.self.tip.now in
    let old = g.B.Blob.life c.args.blob.now in
    let new = g.B.Blob.life c.read_into.new.blob in
    let count : c.min-count.result ≡ min c.args.len (tail_size t - c.args.offset) = omega (arith, c.min-count.ensures, c.size-size.ensures) in
    let many : length c.deref_mut.result.now ≡ min c.args.len (tail_size t - c.args.offset) = c.deref_mut.ensures.len ∙ c.in_ok-resize.ensures.len ∙ count in
    let p = err_from_is_err_and c.from_residual-in_err-read_into.result c.from_residual-in_err-read_into.ensures.1 in
    let result = c.from_residual-in_err-read_into.result in
    let within : c.args.offset + length c.deref_mut.result.now ≤ tail_size t = omega (arith, many, c.size-size.ensures, c.if-offset-size.false) in
    let answers : ReadsUpTo g.H.Sum.sum_of t c.args.cache.now c.args.offset c.args.len old new result =
    rw (p.1, p.2) (up_to_refused g.H.Sum.sum_of t c.args.cache.now c.args.offset c.args.len (length c.deref_mut.result.now) (λ (u : Unit {0}). c.read_into.new.buf) old new c.in_err-read_into.field-0.0 many within (omega (arith, within, c.size-size.ensures)) c.in_err-read_into.ensures.goes.answers) in
    read_up_to_goes g.H.Sum.sum_of t c.args.cache.now old new c.requires.can c.args.offset c.args.len result answers (λ some past. absurd (omega (arith, past, c.size-size.ensures, c.if-offset-size.false))) (search rules)

pub returns-in_err-read_into-clause-leaves : goal.returns-in_err-read_into-clause-leaves
returns-in_err-read_into-clause-leaves g c = c.read_into.ensures.leaves

pub returns-in_err-read_into-clause-costs : goal.returns-in_err-read_into-clause-costs
returns-in_err-read_into-clause-costs g c =
    let t = tail_at c.args.self.page_size c.args.self.id c.args.self.tip.now in
    let old = g.B.Blob.life c.args.blob.now in
    let new = g.B.Blob.life c.read_into.new.blob in
    let count : c.min-count.result ≡ min c.args.len (tail_size t - c.args.offset) = omega (arith, c.min-count.ensures, c.size-size.ensures) in
    let many : length c.deref_mut.result.now ≡ min c.args.len (tail_size t - c.args.offset) = c.deref_mut.ensures.len ∙ c.in_ok-resize.ensures.len ∙ count in
    let p = err_from_is_err_and c.from_residual-in_err-read_into.result c.from_residual-in_err-read_into.ensures.1 in
    let e = c.in_err-read_into.field-0.0 in
    rw p.1 (costs_refused_again {A = Unit {0}} g.H.Sum.sum_of t (range_up_to t c.args.offset c.args.len) c.args.cache.now c.read_into.new.cache old new e p.0
    (subst (λ n. ReadCosts {A = Unit {0}} g.H.Sum.sum_of t (c.args.offset, n) c.args.cache.now c.read_into.new.cache old new (Err e)) many c.in_err-read_into.ensures.costs))

pub returns-clause-goes : goal.returns-clause-goes
returns-clause-goes g c =
    let t = tail_at c.args.self.page_size c.args.self.id c.args.self.tip.now in
    let d = (g.B.Blob.life c.args.blob.now).present in
    let count : c.min-count.result ≡ min c.args.len (tail_size t - c.args.offset) = omega (arith, c.min-count.ensures, c.size-size.ensures) in
    let room : c.resize.new.self.len ≡ c.min-count.result = c.in_ok-resize.ensures.len in
    let many : length c.deref_mut.result.now ≡ min c.args.len (tail_size t - c.args.offset) = c.deref_mut.ensures.len ∙ room ∙ count in
    let bytes = c.read_into.new.buf in
    let written : take c.resize.new.self.len (bytes ++ drop (length bytes) c.resize.new.self.items) ≡ bytes =
    vec_written c.resize.new.self.len bytes c.resize.new.self.items (c.read_into.ensures.goes.size ∙ c.deref_mut.ensures.len) in
    let read : (c.args.offset + length c.deref_mut.result.now ≤ tail_size t) × (bytes ≡ slice (logical_bytes t d.readable) (c.args.offset, length c.deref_mut.result.now)) × AreMissingFull g.H.Sum.sum_of c.args.cache.now t ((c.args.offset, length c.deref_mut.result.now) ∷ []) d.readable × NoneFailed d (g.B.Blob.life c.read_into.new.blob).present = c.in_ok-read_into.ensures.goes.answers in
    read_up_to_goes g.H.Sum.sum_of t c.args.cache.now (g.B.Blob.life c.args.blob.now) (g.B.Blob.life c.read_into.new.blob) c.requires.can c.args.offset c.args.len _ (
      inr (omega (arith, c.size-size.ensures, c.if-offset-size.false)),
      written ∙ read.1 ∙ ap (λ n. slice (logical_bytes t d.readable) (c.args.offset, n)) many,
      count,
      subst (λ n. AreMissingFull g.H.Sum.sum_of c.args.cache.now t ((c.args.offset, n) ∷ []) d.readable) many read.2,
      read.3,
    )
    (λ some past. absurd (omega (arith, past, c.size-size.ensures, c.if-offset-size.false))) tt

pub returns-clause-leaves : goal.returns-clause-leaves
returns-clause-leaves g c = c.read_into.ensures.leaves

pub returns-clause-costs : goal.returns-clause-costs
returns-clause-costs g c =
    let t = tail_at c.args.self.page_size c.args.self.id c.args.self.tip.now in
    let old = g.B.Blob.life c.args.blob.now in
    let new = g.B.Blob.life c.read_into.new.blob in
    let count : c.min-count.result ≡ min c.args.len (tail_size t - c.args.offset) = omega (arith, c.min-count.ensures, c.size-size.ensures) in
    let many : length c.deref_mut.result.now ≡ min c.args.len (tail_size t - c.args.offset) = c.deref_mut.ensures.len ∙ c.in_ok-resize.ensures.len ∙ count in
    costs_again {A = Unit {0}} g.H.Sum.sum_of t (range_up_to t c.args.offset c.args.len) c.args.cache.now c.read_into.new.cache old new _ _
    (subst (λ n. ReadCosts {A = Unit {0}} g.H.Sum.sum_of t (c.args.offset, n) c.args.cache.now c.read_into.new.cache old new (Ok _)) many c.in_ok-read_into.ensures.costs)
