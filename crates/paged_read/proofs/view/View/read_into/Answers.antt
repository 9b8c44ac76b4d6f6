use Rattle.disk.specs.declared.error.Error.TheVariants.{BlobInsufficientLength}
use Rattle.std.specs.Prelude.{nat_eq}
use borrow.Rule.Slice.PartMut.{post_of}
use Rattle.std.proofs.Common.{rules, refl, ℕ, List, Ok, Err, length-append, length-drop, ◌≡◌, ◌+◌, ◌-◌, ◌*◌, ◌≤◌, ◌∙◌, ◌++◌, [], ◌∷◌, length, take, drop, ap, subst, arith, sym, true}
use Rattle.std.proofs.lemmas.List.{length-take-le}
use Rattle.std.proofs.lemmas.Result.{err_from_is_err_and}
use Rattle.paged_read.specs.Tail.{tail_at, logical_bytes, tail_size}
use Rattle.paged_read.specs.Ranges.{slice, is_served, AreMissingFull, ReadFault, Reads, missing}
use Rattle.paged_read.proofs.ReadLaws.{read_into_goes, read_leaves, leaves_nothing, costs_nothing, costs_part, costs_part_refused}
use Rattle.paged_read.proofs.WholeReads.{part_missing, part_fault, part_full, parts_join, two_parts, second_len}
use Rattle.paged_read.proofs.view.View.read_into.Goals as goal

pub returns-in_err-end-clause-goes : goal.returns-in_err-end-clause-goes
returns-in_err-end-clause-goes g c =
    let t = tail_at c.args.self.page_size c.args.self.id c.args.self.tip.now in
    read_into_goes g.H.Sum.sum_of t c.args.cache.now (g.B.Blob.life c.args.blob.now) (g.B.Blob.life c.args.blob.now) c.requires.can c.args.offset c.args.buf.now c.args.buf.now c.from_residual.result (search rules) (search rules) (search rules) (search rules) refl

pub returns-in_err-end-clause-leaves : goal.returns-in_err-end-clause-leaves
returns-in_err-end-clause-leaves g c =
    leaves_nothing g.H.Sum.sum_of (tail_at c.args.self.page_size c.args.self.id c.args.self.tip.now) c.args.cache.now (g.B.Blob.life c.args.blob.now) c.args.self.page_size.ok c.requires.can

pub returns-in_err-end-clause-costs : goal.returns-in_err-end-clause-costs
returns-in_err-end-clause-costs g c =
    let p = err_from_is_err_and c.from_residual.result c.from_residual.ensures.1 in
    rw p.1 (costs_nothing g.H.Sum.sum_of (tail_at c.args.self.page_size c.args.self.id c.args.self.tip.now) (c.args.offset, length c.args.buf.now) c.args.cache.now (g.B.Blob.life c.args.blob.now) p.0)

pub returns-then-end-size-clause-goes : goal.returns-then-end-size-clause-goes
returns-then-end-size-clause-goes g c =
    let t = tail_at c.args.self.page_size c.args.self.id c.args.self.tip.now in
    read_into_goes g.H.Sum.sum_of t c.args.cache.now (g.B.Blob.life c.args.blob.now) (g.B.Blob.life c.args.blob.now) c.requires.can c.args.offset c.args.buf.now c.args.buf.now (Err BlobInsufficientLength) (search rules) (search rules) (λ fits past. refl) (search rules) refl

pub returns-then-end-size-clause-leaves : goal.returns-then-end-size-clause-leaves
returns-then-end-size-clause-leaves g c =
    leaves_nothing g.H.Sum.sum_of (tail_at c.args.self.page_size c.args.self.id c.args.self.tip.now) c.args.cache.now (g.B.Blob.life c.args.blob.now) c.args.self.page_size.ok c.requires.can

pub returns-then-end-size-clause-costs : goal.returns-then-end-size-clause-costs
returns-then-end-size-clause-costs g c =
    costs_nothing g.H.Sum.sum_of (tail_at c.args.self.page_size c.args.self.id c.args.self.tip.now) (c.args.offset, length c.args.buf.now) c.args.cache.now (g.B.Blob.life c.args.blob.now) BlobInsufficientLength

pub returns-in_err-read_below-clause-goes : goal.returns-in_err-read_below-clause-goes
returns-in_err-read_below-clause-goes g c =
    let t = tail_at c.args.self.page_size c.args.self.id c.args.self.tip.now in
    let old = g.B.Blob.life c.args.blob.now in
    let new = g.B.Blob.life c.read_below.new.blob in
    let below = c.len_below-below.result in
    let len = length c.args.buf.now in
    let many : length (take below c.args.buf.now) ≡ below = length-take-le below c.args.buf.now (omega (arith, c.len_below-below.ensures)) in
    let same : missing c.args.cache.now t ((c.args.offset, len) ∷ []) ≡ missing c.args.cache.now t ((c.args.offset, length (take below c.args.buf.now)) ∷ []) =
    part_missing t c.args.cache.now c.args.offset len below c.len_below-below.ensures ∙ ap (λ n. missing c.args.cache.now t ((c.args.offset, n) ∷ [])) (sym many) in
    let after = c.read_below.new.buf ++ drop below c.args.buf.now in
    let ends : c.in_ok-end.end ≡ c.args.offset + len = grind arith in
    let p = err_from_is_err_and c.from_residual-in_err-read_below.result c.from_residual-in_err-read_below.ensures.1 in
    let cause : ReadFault g.H.Sum.sum_of c.args.cache.now t ((c.args.offset, below) ∷ []) old new c.in_err-read_below.field-0.0 =
    subst (λ n. ReadFault g.H.Sum.sum_of c.args.cache.now t ((c.args.offset, n) ∷ []) old new c.in_err-read_below.field-0.0) many c.in_err-read_below.ensures.reads in
    let answers : Reads g.H.Sum.sum_of t c.args.cache.now (c.args.offset, len) (λ (u : Unit {0}). after) old new c.from_residual-in_err-read_below.result =
    rw (p.1, p.2) (part_fault t c.args.cache.now c.args.offset len below c.len_below-below.ensures g.H.Sum.sum_of (λ (u : Unit {0}). after) old new c.in_err-read_below.field-0.0 cause) in
    read_into_goes g.H.Sum.sum_of t c.args.cache.now old new c.requires.can c.args.offset c.args.buf.now after c.from_residual-in_err-read_below.result answers
    (λ over. absurd (omega (arith, over, ends)))
    (λ fits past. absurd (omega (arith, past, ends, c.size.ensures, c.if-end-size.false)))
    (λ small within served.
    let part : is_served c.args.cache.now t (c.args.offset, length (take below c.args.buf.now)) ≡ true = ap (λ (l : List ℕ). nat_eq (length l) 0) (sym same) ∙ served in
    let ok = c.in_err-read_below.ensures.served part in absurd (cc ok))
    (omega (arith, length-append c.read_below.new.buf (drop below c.args.buf.now), c.read_below.ensures.size, many, length-drop below c.args.buf.now, c.len_below-below.ensures))

pub returns-in_err-read_below-clause-leaves : goal.returns-in_err-read_below-clause-leaves
returns-in_err-read_below-clause-leaves g c =
    let t = tail_at c.args.self.page_size c.args.self.id c.args.self.tip.now in
    read_leaves g.H.Sum.sum_of t c.args.cache.now c.read_below.new.cache (g.B.Blob.life c.args.blob.now) (g.B.Blob.life c.read_below.new.blob) c.args.self.page_size.ok c.requires.can c.read_below.ensures.looked (c.args.offset, length (take c.len_below-below.result c.args.buf.now)) c.read_below.result c.read_below.ensures.puts

pub returns-in_err-read_below-clause-costs : goal.returns-in_err-read_below-clause-costs
returns-in_err-read_below-clause-costs g c =
    let t = tail_at c.args.self.page_size c.args.self.id c.args.self.tip.now in
    let old = g.B.Blob.life c.args.blob.now in
    let new = g.B.Blob.life c.read_below.new.blob in
    let below = c.len_below-below.result in
    let len = length c.args.buf.now in
    let many : length (take below c.args.buf.now) ≡ below = length-take-le below c.args.buf.now (omega (arith, c.len_below-below.ensures)) in
    let same : missing c.args.cache.now t ((c.args.offset, len) ∷ []) ≡ missing c.args.cache.now t ((c.args.offset, length (take below c.args.buf.now)) ∷ []) =
    part_missing t c.args.cache.now c.args.offset len below c.len_below-below.ensures ∙ ap (λ n. missing c.args.cache.now t ((c.args.offset, n) ∷ [])) (sym many) in
    let p = err_from_is_err_and c.from_residual-in_err-read_below.result c.from_residual-in_err-read_below.ensures.1 in
    rw p.1 (costs_part_refused g.H.Sum.sum_of t (c.args.offset, length (take below c.args.buf.now)) (c.args.offset, len) c.args.cache.now c.read_below.new.cache old new p.0 same c.read_below.ensures.asks c.in_err-read_below.ensures.puts)

pub returns-clause-goes : goal.returns-clause-goes
returns-clause-goes g c =
    let t = tail_at c.args.self.page_size c.args.self.id c.args.self.tip.now in
    let old = g.B.Blob.life c.args.blob.now in
    let new = g.B.Blob.life c.read_below.new.blob in
    let below = c.len_below-below.result in
    let len = length c.args.buf.now in
    let many : length (take below c.args.buf.now) ≡ below = length-take-le below c.args.buf.now (omega (arith, c.len_below-below.ensures)) in
    let same : missing c.args.cache.now t ((c.args.offset, len) ∷ []) ≡ missing c.args.cache.now t ((c.args.offset, length (take below c.args.buf.now)) ∷ []) =
    part_missing t c.args.cache.now c.args.offset len below c.len_below-below.ensures ∙ ap (λ n. missing c.args.cache.now t ((c.args.offset, n) ∷ [])) (sym many) in
    let d = old.present in
    let within : below ≤ len = omega (arith, c.len_below-below.ensures) in
    let ends : c.in_ok-end.end ≡ c.args.offset + len = grind arith in
    let inside : c.args.offset + len ≤ tail_size t = omega (arith, ends, c.size.ensures, c.if-end-size.false) in
    let front : c.read_below.new.buf ≡ slice (logical_bytes t d.readable) (c.args.offset, below) = c.in_ok-read_below.ensures.reads.0 ∙ ap (λ n. slice (logical_bytes t d.readable) (c.args.offset, n)) many in
    let back : c.copy_tip.new.buf ≡ take (len - below) (drop (c.args.offset + below - t.full_pages * t.page_size) t.bytes) =
    c.copy_tip.ensures ∙ ap (λ n. take n (drop (c.args.offset + below - t.full_pages * t.page_size) t.bytes)) (second_len below c.args.buf.now c.read_below.new.buf within c.read_below.ensures.size) in
    let mid = c.read_below.new.buf ++ drop below c.args.buf.now in
    let after = take below mid ++ (c.copy_tip.new.buf ++ post_of below (length mid - below) mid) in
    let are : after ≡ c.read_below.new.buf ++ c.copy_tip.new.buf = two_parts below c.args.buf.now c.read_below.new.buf c.copy_tip.new.buf within c.read_below.ensures.size in
    read_into_goes g.H.Sum.sum_of t c.args.cache.now old new c.requires.can c.args.offset c.args.buf.now after (Ok tt) (
      inside,
      are ∙ parts_join t c.args.cache.now c.args.offset len below c.len_below-below.ensures d c.read_below.new.buf c.copy_tip.new.buf c.requires.can front back,
      part_full t c.args.cache.now c.args.offset len below c.len_below-below.ensures g.H.Sum.sum_of d.readable (subst (λ n. AreMissingFull g.H.Sum.sum_of c.args.cache.now t ((c.args.offset, n) ∷ []) d.readable) many c.in_ok-read_below.ensures.reads.1),
      c.in_ok-read_below.ensures.reads.2,
    )
    (λ over. absurd (omega (arith, over, ends)))
    (λ fits past. absurd (omega (arith, past, inside)))
    (λ small there served. refl)
    (ap length are ∙ omega (arith, length-append c.read_below.new.buf c.copy_tip.new.buf, c.read_below.ensures.size, many, ap length back, length-take-le (len - below) (drop (c.args.offset + below - t.full_pages * t.page_size) t.bytes) (omega (arith, length-drop (c.args.offset + below - t.full_pages * t.page_size) t.bytes, inside, c.len_below-below.ensures)), within))

pub returns-clause-leaves : goal.returns-clause-leaves
returns-clause-leaves g c =
    let t = tail_at c.args.self.page_size c.args.self.id c.args.self.tip.now in
    read_leaves g.H.Sum.sum_of t c.args.cache.now c.read_below.new.cache (g.B.Blob.life c.args.blob.now) (g.B.Blob.life c.read_below.new.blob) c.args.self.page_size.ok c.requires.can c.read_below.ensures.looked (c.args.offset, length (take c.len_below-below.result c.args.buf.now)) c.read_below.result c.read_below.ensures.puts

pub returns-clause-costs : goal.returns-clause-costs
returns-clause-costs g c =
    let t = tail_at c.args.self.page_size c.args.self.id c.args.self.tip.now in
    let old = g.B.Blob.life c.args.blob.now in
    let new = g.B.Blob.life c.read_below.new.blob in
    let below = c.len_below-below.result in
    let len = length c.args.buf.now in
    let many : length (take below c.args.buf.now) ≡ below = length-take-le below c.args.buf.now (omega (arith, c.len_below-below.ensures)) in
    let same : missing c.args.cache.now t ((c.args.offset, len) ∷ []) ≡ missing c.args.cache.now t ((c.args.offset, length (take below c.args.buf.now)) ∷ []) =
    part_missing t c.args.cache.now c.args.offset len below c.len_below-below.ensures ∙ ap (λ n. missing c.args.cache.now t ((c.args.offset, n) ∷ [])) (sym many) in
    costs_part g.H.Sum.sum_of t (c.args.offset, length (take below c.args.buf.now)) (c.args.offset, len) c.args.cache.now c.read_below.new.cache old new tt same c.read_below.ensures.asks c.in_ok-read_below.ensures.puts
