use Rattle.std.proofs.Common.{refl, ◌∙◌, ap, ℕ, arith, subst}
use Rattle.std.specs.Prelude.{not}
use Rattle.page.specs.Geometry.{EndWithin}
use Rattle.disk.specs.Disk.{Disk}
use Rattle.paged_read.specs.Ranges.{HasServed}
use Rattle.paged_read.specs.Tail.{tail_at, tail_size, logical_bytes, CanRead}
use Rattle.paged_read.proofs.RangedLists.{err_refused, misses_all, misses_within, ok_ends, on_refused}
use Rattle.paged_read.proofs.ReadLaws.{tries_many, on_also}
use Rattle.paged_read.proofs.view.View.try_read_ranges_sync_into.Goals as goal

pub returns-then-is_err : goal.returns-then-is_err
returns-then-is_err g c =
    let t = tail_at c.args.self.page_size c.args.self.id c.args.self.tip.now in
    let refused = subst (λ (n : ℕ). EndWithin n c.args.ranges.now → ⊥) c.size.ensures
    (err_refused c.size.result c.args.ranges.now c.validate_read_ranges.result (omega arith) (c.is_err.ensures.negation ∙ ap not c.if-is_err.true) c.validate_read_ranges.ensures) in
    record {
      goes = tries_many t c.args.ranges.now c.args.cache.now c.args.buf.now c.args.buf.now c.all_below.result
          (misses_all t c.args.ranges.now c.args.cache.now c.all_below.result refused c.all_below.ensures.items)
          (on_refused c.all_below.result (EndWithin (tail_size t) c.args.ranges.now) _ refused)
          refl c.all_below.ensures.err;
    }

pub returns : goal.returns
returns g c =
    let t = tail_at c.args.self.page_size c.args.self.id c.args.self.tip.now in
    let within = subst (λ (n : ℕ). EndWithin n c.args.ranges.now) c.size.ensures
    (ok_ends c.size.result c.args.ranges.now c.validate_read_ranges.result (c.is_err.ensures.negation ∙ ap not c.if-is_err.false) c.validate_read_ranges.ensures) in
    record {
      goes = tries_many t c.args.ranges.now c.args.cache.now c.args.buf.now c.try_each.new.buf c.try_each.result
          (misses_within t c.args.ranges.now c.args.cache.now c.try_each.result within c.try_each.ensures.missed)
          (on_also c.try_each.result ((d : Disk) → CanRead t c.args.cache.now d → HasServed c.args.cache.now t c.args.ranges.now (logical_bytes t d.readable) c.try_each.new.buf) (EndWithin (tail_size t) c.args.ranges.now) c.try_each.ensures.served)
          c.try_each.ensures.size c.try_each.ensures.err;
    }
