use Rattle.std.specs.Prelude.{◌≡◌, ◌-◌, ℕ, List, length, take, drop, Some, None}
use Rattle.std.proofs.Common.{ap, arith, take_all, ◌∙◌}
use Rattle.std.proofs.lemmas.List.{length-drop}
use Rattle.segments.specs.Manifest.{paged_with}
use Rattle.segments.proofs.Entries.{others_behind, zeros_behind}
use Rattle.segments.proofs.entry.paged_in.Goals as goal

-- what stands behind the first 50 bytes
behind : (bytes : List ℕ) → take (length bytes - 50) (drop 50 bytes) ≡ drop 50 bytes
behind bytes = take_all (length bytes - 50) (drop 50 bytes) (omega (arith, length-drop 50 bytes))

pub returns-then-not-are_zeros : goal.returns-then-not-are_zeros
returns-then-not-are_zeros c =
    others_behind (take (length c.args.bytes.now - 50) (drop 50 c.args.bytes.now)) (drop 50 c.args.bytes.now) c.are_zeros.result _ (behind c.args.bytes.now) c.are_zeros.ensures c.if-not-are_zeros.true

pub returns : goal.returns
returns c =
    ap Some c.paged_with.ensures
    ∙ zeros_behind (take (length c.args.bytes.now - 50) (drop 50 c.args.bytes.now)) (drop 50 c.args.bytes.now) c.are_zeros.result (Some (paged_with c.args.bytes.now None)) (behind c.args.bytes.now) c.are_zeros.ensures c.if-not-are_zeros.false
