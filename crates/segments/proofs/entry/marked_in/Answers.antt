use Rattle.std.specs.Prelude.{◌≡◌, ◌-◌, ℕ, List, length, take, drop, Some}
use Rattle.std.proofs.Common.{ap, arith, take_all, ◌∙◌}
use Rattle.std.proofs.lemmas.List.{length-drop}
use Rattle.segments.specs.Manifest.{paged_with}
use Rattle.segments.proofs.Entries.{others_behind, zeros_behind}
use Rattle.segments.proofs.entry.marked_in.Goals as goal

-- what stands behind the first 82 bytes
behind : (bytes : List ℕ) → take (length bytes - 82) (drop 82 bytes) ≡ drop 82 bytes
behind bytes = take_all (length bytes - 82) (drop 82 bytes) (omega (arith, length-drop 82 bytes))

pub returns-then-not-are_zeros : goal.returns-then-not-are_zeros
returns-then-not-are_zeros c =
    others_behind (take (length c.args.bytes.now - 82) (drop 82 c.args.bytes.now)) (drop 82 c.args.bytes.now) c.are_zeros.result _ (behind c.args.bytes.now) c.are_zeros.ensures c.if-not-are_zeros.true

pub returns : goal.returns
returns c =
    ap Some (c.paged_with.ensures ∙ ap (λ (marks : List ℕ). paged_with c.args.bytes.now (Some marks)) c.digest_at-marks.ensures)
    ∙ zeros_behind (take (length c.args.bytes.now - 82) (drop 82 c.args.bytes.now)) (drop 82 c.args.bytes.now) c.are_zeros.result _ (behind c.args.bytes.now) c.are_zeros.ensures c.if-not-are_zeros.false
