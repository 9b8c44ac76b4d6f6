use Rattle.std.proofs.Common.{Err, Result, rules, refl, subst, ◌≡◌, ◌∙◌, sym, ap, ℕ, List, sum_by}
use Rattle.std.specs.Int.NonZero.{non_zero_usize_get}
use Rattle.disk.specs.declared.error.Error.{Error}
use Rattle.disk.specs.declared.error.Error.TheVariants.{OutOfMemory}
use Rattle.paged_read.specs.Failures.{none_failed_start}
use Rattle.paged_read.specs.Tail.{tail_at, tail_size}
use Rattle.paged_read.specs.Batch.{ranges_of}
use Rattle.std.proofs.lemmas.Result.{err_from_is_err_and}
use Rattle.page.specs.Geometry.{AreInOrder, EndWithin, RangesGo}
use Rattle.paged_read.specs.Ranges.{ReadsMany}
use Rattle.paged_read.specs.Reads.{ReadManyCosts, ReadManyGoes}
use Rattle.paged_read.proofs.ReadLaws.{read_many_goes, ranges_goes, many_outside, leaves_nothing, many_costs_nothing}
use Rattle.paged_read.proofs.RangedLists.{sum_ranges_of}
use Rattle.paged_read.proofs.view.View.read_many_into.Goals as goal

pub returns-in_err-validate_offsets-clause-goes : goal.returns-in_err-validate_offsets-clause-goes
returns-in_err-validate_offsets-clause-goes g c =
    let t = tail_at c.args.self.page_size c.args.self.id c.args.self.tip.now in
    let p = err_from_is_err_and c.from_residual.result c.from_residual.ensures.1 in
    let e = c.in_err-validate_offsets.field-0.0 in
    let goes : RangesGo c.size.result (ranges_of (non_zero_usize_get c.args.len) c.args.offsets.now) (Err e) = subst (λ (n : ℕ). RangesGo c.size.result (ranges_of n c.args.offsets.now) (Err e)) c.get.ensures.value c.in_err-validate_offsets.ensures in
    let answers : ReadsMany g.H.Sum.sum_of t c.args.cache.now (ranges_of (non_zero_usize_get c.args.len) c.args.offsets.now) c.args.buf.now (g.B.Blob.life c.args.blob.now) (g.B.Blob.life c.args.blob.now) c.from_residual.result =
    rw (p.1, p.2) (many_outside g.H.Sum.sum_of t c.args.cache.now (ranges_of (non_zero_usize_get c.args.len) c.args.offsets.now) c.size.result c.args.buf.now (g.B.Blob.life c.args.blob.now) e c.size.ensures goes) in
    read_many_goes g.H.Sum.sum_of t c.args.cache.now (g.B.Blob.life c.args.blob.now) (g.B.Blob.life c.args.blob.now) c.requires.can (ranges_of (non_zero_usize_get c.args.len) c.args.offsets.now) c.args.buf.now c.args.buf.now c.from_residual.result answers refl

pub returns-in_err-validate_offsets-clause-leaves : goal.returns-in_err-validate_offsets-clause-leaves
returns-in_err-validate_offsets-clause-leaves g c =
    leaves_nothing g.H.Sum.sum_of (tail_at c.args.self.page_size c.args.self.id c.args.self.tip.now) c.args.cache.now (g.B.Blob.life c.args.blob.now) c.args.self.page_size.ok c.requires.can

pub returns-in_err-validate_offsets-clause-costs : goal.returns-in_err-validate_offsets-clause-costs
returns-in_err-validate_offsets-clause-costs g c =
    let t = tail_at c.args.self.page_size c.args.self.id c.args.self.tip.now in
    let p = err_from_is_err_and c.from_residual.result c.from_residual.ensures.1 in
    rw p.1 (many_costs_nothing g.H.Sum.sum_of t (ranges_of (non_zero_usize_get c.args.len) c.args.offsets.now) c.args.cache.now (g.B.Blob.life c.args.blob.now) p.0)

pub returns-in_err-ranges-clause-goes : goal.returns-in_err-ranges-clause-goes
returns-in_err-ranges-clause-goes g c =
    let t = tail_at c.args.self.page_size c.args.self.id c.args.self.tip.now in
    read_many_goes g.H.Sum.sum_of t c.args.cache.now (g.B.Blob.life c.args.blob.now) (g.B.Blob.life c.args.blob.now) c.requires.can (ranges_of (non_zero_usize_get c.args.len) c.args.offsets.now) c.args.buf.now c.args.buf.now c.from_residual-in_err-ranges.result
    (let within : EndWithin (tail_size t) (ranges_of (non_zero_usize_get c.args.len) c.args.offsets.now) = search rules in
    let is : c.from_residual-in_err-ranges.result ≡ Err OutOfMemory = search rules in
    subst (λ (r : Result ℕ Error). ReadsMany g.H.Sum.sum_of t c.args.cache.now (ranges_of (non_zero_usize_get c.args.len) c.args.offsets.now) c.args.buf.now (g.B.Blob.life c.args.blob.now) (g.B.Blob.life c.args.blob.now) r) (sym is) (within, none_failed_start (g.B.Blob.life c.args.blob.now).present))
    refl

pub returns-in_err-ranges-clause-leaves : goal.returns-in_err-ranges-clause-leaves
returns-in_err-ranges-clause-leaves g c =
    leaves_nothing g.H.Sum.sum_of (tail_at c.args.self.page_size c.args.self.id c.args.self.tip.now) c.args.cache.now (g.B.Blob.life c.args.blob.now) c.args.self.page_size.ok c.requires.can

pub returns-in_err-ranges-clause-costs : goal.returns-in_err-ranges-clause-costs
returns-in_err-ranges-clause-costs g c =
    let t = tail_at c.args.self.page_size c.args.self.id c.args.self.tip.now in
    let p = err_from_is_err_and c.from_residual-in_err-ranges.result c.from_residual-in_err-ranges.ensures.1 in
    rw p.1 (many_costs_nothing g.H.Sum.sum_of t (ranges_of (non_zero_usize_get c.args.len) c.args.offsets.now) c.args.cache.now (g.B.Blob.life c.args.blob.now) p.0)

pub read_ranges_into-requires-clause-asked : goal.read_ranges_into-requires-clause-asked
read_ranges_into-requires-clause-asked g c =
    let len = non_zero_usize_get c.args.len in
    let same : c.deref.result.now ≡ ranges_of len c.args.offsets.now = c.deref.ensures.value ∙ c.in_ok-ranges.ensures.items ∙ ap (λ (n : ℕ). ranges_of n c.args.offsets.now) c.get-2.ensures.value in
    (subst (λ (l : List (ℕ × ℕ)). AreInOrder l) (sym same) c.requires.asked.0, c.requires.asked.1 ∙ sym (sum_ranges_of len c.args.offsets.now) ∙ ap (λ (l : List (ℕ × ℕ)). sum_by (λ (r : ℕ × ℕ). r.1) l) (sym same))

pub returns-clause-goes : goal.returns-clause-goes
returns-clause-goes g c =
    let t = tail_at c.args.self.page_size c.args.self.id c.args.self.tip.now in
    let len = non_zero_usize_get c.args.len in
    let same : c.deref.result.now ≡ ranges_of len c.args.offsets.now = c.deref.ensures.value ∙ c.in_ok-ranges.ensures.items ∙ ap (λ (n : ℕ). ranges_of n c.args.offsets.now) c.get-2.ensures.value in
    subst (λ (rs : List (ℕ × ℕ)). ReadManyGoes g.H.Sum.sum_of t c.args.cache.now rs c.args.buf.now c.read_ranges_into.new.buf (g.B.Blob.life c.args.blob.now) (g.B.Blob.life c.read_ranges_into.new.blob) c.read_ranges_into.result) same
    (ranges_goes g.H.Sum.sum_of t c.args.cache.now c.deref.result.now c.args.buf.now c.read_ranges_into.new.buf (g.B.Blob.life c.args.blob.now) (g.B.Blob.life c.read_ranges_into.new.blob) c.read_ranges_into.result c.read_ranges_into.ensures.goes)

pub returns-clause-leaves : goal.returns-clause-leaves
returns-clause-leaves g c = c.read_ranges_into.ensures.leaves

pub returns-clause-costs : goal.returns-clause-costs
returns-clause-costs g c =
    let t = tail_at c.args.self.page_size c.args.self.id c.args.self.tip.now in
    let len = non_zero_usize_get c.args.len in
    let same : c.deref.result.now ≡ ranges_of len c.args.offsets.now = c.deref.ensures.value ∙ c.in_ok-ranges.ensures.items ∙ ap (λ (n : ℕ). ranges_of n c.args.offsets.now) c.get-2.ensures.value in
    subst (λ (rs : List (ℕ × ℕ)). ReadManyCosts g.H.Sum.sum_of t rs c.args.cache.now c.read_ranges_into.new.cache (g.B.Blob.life c.args.blob.now) (g.B.Blob.life c.read_ranges_into.new.blob) c.read_ranges_into.result) same c.read_ranges_into.ensures.costs
