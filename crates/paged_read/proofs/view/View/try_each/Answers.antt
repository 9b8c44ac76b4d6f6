use Rattle.std.proofs.Common.{◌≡◌, ◌∙◌, sym, ap, ℕ, ◌+◌, ◌-◌, ◌≤◌, length, get_or, arith}
use Rattle.std.proofs.lemmas.Grind.{common_steps}
use Rattle.std.proofs.lemmas.List.Sums.{sum_by_more, sum_by_more_le}
use Rattle.std.proofs.lemmas.Slice.{take-put_mid}
use Rattle.paged_read.specs.Tail.{logical_bytes, tail_at}
use Rattle.paged_read.proofs.BatchSteps.{tried_part, tried_is, length_part}
use Rattle.paged_read.proofs.RangedLists.{missed_more, served_more_bytes}
use Rattle.paged_read.proofs.view.View.try_each.Goals as goal

pub loop-index-preserved : goal.loop-index-preserved
loop-index-preserved g c =
    let t = tail_at c.args.self.page_size c.args.self.id c.args.self.tip.now in
    let cache = c.args.cache.now in
    let ranges = c.args.ranges.now in
    let i = c.loop-index.index in
    let inv = c.loop-index.invariant in
    let there = c.loop-index-test.true in
    let range = get_or ranges i (0, 0) in
    let buf_offset = c.loop-index.buf_offset in
    let buf = c.loop-index.buf in
    let part = c.try_read_sync_into-served.new.buf in
    let answer = c.try_read_sync_into-served.result in
    let room : buf_offset + range.1 ≤ length buf = omega (arith, sum_by_more_le (λ (r : ℕ × ℕ). r.1) ranges i (0, 0) there, inv.buf_offset, c.requires.filled, c.loop-index.auto.buf) in
    let tries = tried_part t range.0 range.1 buf_offset cache buf part answer room c.try_read_sync_into-served.ensures.goes in
    let size : length part ≡ range.1 = c.try_read_sync_into-served.ensures.size ∙ length_part buf_offset range.1 buf room in
    let is = tried_is t range cache part answer tries (c.requires.ends i (0, 0) there) in
    let front = take-put_mid buf_offset (buf_offset + range.1 - buf_offset) buf part (buf_offset + range.1) (omega (arith, size)) (omega (arith, room)) in
    record {
      buf_offset = ap (λ (n : ℕ). n + range.1) inv.buf_offset ∙ sym (sum_by_more (λ (r : ℕ × ℕ). r.1) ranges i (0, 0) there);
      missed = missed_more cache t ranges i (0, 0) c.loop-index.missed.items c.note.new.missed.items answer there is c.in_ok-note.ensures.ok inv.missed;
      served = λ d can. served_more_bytes cache t ranges i (0, 0) (logical_bytes t d.readable) buf _ part buf_offset there (omega (arith, room)) inv.buf_offset front size (λ served. tries.1 (is ∙ served) d can) (inv.served d can);
    }

pub returns-clause-missed : goal.returns-clause-missed
returns-clause-missed c = grind (arith, common_steps)

pub returns-clause-served : goal.returns-clause-served
returns-clause-served c = grind (arith, common_steps)
