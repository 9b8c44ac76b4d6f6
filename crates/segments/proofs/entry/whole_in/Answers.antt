use Rattle.std.specs.Prelude.{◌≡◌, ◌-◌, ℕ, List, length, take, drop}
use Rattle.std.proofs.Common.{arith, take_all, ◌∙◌}
use Rattle.std.proofs.lemmas.List.{length-drop}
use Rattle.segments.proofs.Entries.{made, made_whole, others_behind, zeros_behind}
use Rattle.segments.proofs.entry.whole_in.Goals as goal

-- what stands behind the first 49 bytes
behind : (bytes : List ℕ) → take (length bytes - 49) (drop 49 bytes) ≡ drop 49 bytes
behind bytes = take_all (length bytes - 49) (drop 49 bytes) (omega (arith, length-drop 49 bytes))

pub returns-then-not-are_zeros : goal.returns-then-not-are_zeros
returns-then-not-are_zeros c =
    others_behind (take (length c.args.bytes.now - 49) (drop 49 c.args.bytes.now)) (drop 49 c.args.bytes.now) c.are_zeros.result _ (behind c.args.bytes.now) c.are_zeros.ensures c.if-not-are_zeros.true

pub returns : goal.returns
returns c =
    made c.number_at.ensures (made_whole c.number_at-2.ensures c.digest_at-digest.ensures)
    ∙ zeros_behind (take (length c.args.bytes.now - 49) (drop 49 c.args.bytes.now)) (drop 49 c.args.bytes.now) c.are_zeros.result _ (behind c.args.bytes.now) c.are_zeros.ensures c.if-not-are_zeros.false
