use Rattle.std.proofs.Common.{ℕ, List, subst}
use Rattle.disk.specs.Disk.{IsWithin, Delivers}
use Rattle.disk.proofs.Deliveries.{delivers_moved}
use Rattle.disk.proofs.memory.MemBlob.ranges.Goals as goal

pub returns-then-self-clause-ranges : goal.returns-then-self-clause-ranges
returns-then-self-clause-ranges c =
    let ranges = c.args.ranges.now in
    let copied = c.in_ok-copy_ranges.ensures.ranges in
    let out = c.reverse.new.self.items in
    let moved = delivers_moved ranges c.bytes.result.now c.copy_ranges.new.out.items out c.reverse.ensures.permutation copied.1 in
    (subst (λ (l : List ℕ). IsWithin ranges l) c.bytes.ensures copied.0, subst (λ (l : List ℕ). Delivers ranges l out) c.bytes.ensures moved)
