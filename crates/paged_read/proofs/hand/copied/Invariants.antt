use Rattle.std.proofs.Common.{◌≡◌, ◌≤◌, ◌<◌, ◌-◌, length, drop, take}
use Rattle.paged_read.specs.Hand.{payloads_at, IsCursor}
use Rattle.paged_read.proofs.hand.copied.Given as goal

abbrev pub invariant-loop-at : goal.invariant-loop-at
invariant-loop-at l =
    let P = l.page_size in
    let all = l.runs.items in
    let from = l.initial.at in
    let told = payloads_at P all from.run from.start from.left in
    let done = length l.bytes.items in
    record {
      run : l.at.run ≤ length all;
      cursor : IsCursor (drop l.at.run all) l.at.start l.at.left;
      within : done ≤ l.count;
      copied : l.bytes.items ≡ take done told;
      rest : done < l.count → payloads_at P all l.at.run l.at.start l.at.left ≡ drop done told;
    }

abbrev pub decreases-loop-at : goal.decreases-loop-at
decreases-loop-at l = l.count - length l.bytes.items
