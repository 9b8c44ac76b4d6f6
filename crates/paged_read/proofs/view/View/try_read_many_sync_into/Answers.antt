use Rattle.std.proofs.Common.{refl, ◌≡◌, ◌∙◌, sym, ap, subst, ℕ, List, sum_by}
use Rattle.std.specs.Int.NonZero.{non_zero_usize_get}
use Rattle.std.proofs.lemmas.Result.{err_from_is_err_and}
use Rattle.disk.specs.declared.error.Error.TheVariants.{OutOfMemory}
use Rattle.page.specs.Geometry.{AreInOrder}
use Rattle.paged_read.specs.Tail.{tail_at}
use Rattle.paged_read.specs.Reads.{TryReadManyGoes}
use Rattle.paged_read.specs.Batch.{ranges_of}
use Rattle.paged_read.proofs.RangedLists.{sum_ranges_of}
use Rattle.paged_read.proofs.view.View.try_read_many_sync_into.Goals as goal

pub try_read_ranges_sync_into-requires-clause-asked : goal.try_read_ranges_sync_into-requires-clause-asked
try_read_ranges_sync_into-requires-clause-asked g c =
    let len = non_zero_usize_get c.args.len in
    let same : c.deref.result.now ≡ ranges_of len c.args.offsets.now = c.deref.ensures.value ∙ c.in_ok-ranges.ensures.items ∙ ap (λ (n : ℕ). ranges_of n c.args.offsets.now) c.get.ensures.value in
    (subst (λ (l : List (ℕ × ℕ)). AreInOrder l) (sym same) c.requires.asked.0, c.requires.asked.1 ∙ sym (sum_ranges_of len c.args.offsets.now) ∙ ap (λ (l : List (ℕ × ℕ)). sum_by (λ (r : ℕ × ℕ). r.1) l) (sym same))

pub returns-in_err-ranges : goal.returns-in_err-ranges
returns-in_err-ranges g c =
    let t = tail_at c.args.self.page_size c.args.self.id c.args.self.tip.now in
    let error = err_from_is_err_and c.from_residual.result c.from_residual.ensures.1 in
    let memory : c.in_err-ranges.field-0.0 ≡ OutOfMemory = c.in_err-ranges.ensures.err in
    rw (error.1, error.2, memory) (record { goes = refl })

pub returns : goal.returns
returns g c =
    let len = non_zero_usize_get c.args.len in
    let t = tail_at c.args.self.page_size c.args.self.id c.args.self.tip.now in
    let same : c.deref.result.now ≡ ranges_of len c.args.offsets.now = c.deref.ensures.value ∙ c.in_ok-ranges.ensures.items ∙ ap (λ (n : ℕ). ranges_of n c.args.offsets.now) c.get.ensures.value in
    record { goes = subst (λ (rs : List (ℕ × ℕ)). TryReadManyGoes t rs c.args.cache.now c.args.buf.now c.try_read_ranges_sync_into.new.buf c.try_read_ranges_sync_into.result) same c.try_read_ranges_sync_into.ensures.goes }
