use Rattle.std.proofs.Common.{◌≡◌, ◌∙◌, ap, rules, ℕ, ◌<◌, ◌^◌, List, [], ◌∷◌, get_or}
use Rattle.page.specs.Footer.{footer_bytes, footer_of}
use Rattle.page.proofs.Footers.{footer_of-footer_bytes}
use Rattle.page.proofs.checksum.Checksum.to_bytes.Goals as goal

pub returns-clause-inverse : goal.returns-clause-inverse
returns-clause-inverse c =
    let self = c.args.self.now in
    let len1 : self.len1 < 2 ^ 16 = search rules in
    let crc1 : self.crc1 < 2 ^ 32 = search rules in
    let len2 : self.len2 < 2 ^ 16 = search rules in
    let crc2 : self.crc2 < 2 ^ 32 = search rules in
    let first : ℕ → ℕ = λ i. get_or c.slot_bytes.result i 0 in
    let second : ℕ → ℕ = λ i. get_or c.slot_bytes-2.result i 0 in
    let bytes : List ℕ = first 0 ∷ first 1 ∷ first 2 ∷ first 3 ∷ first 4 ∷ first 5 ∷ second 0 ∷ second 1 ∷ second 2 ∷ second 3 ∷ second 4 ∷ second 5 ∷ [] in
    let same : bytes ≡ footer_bytes self = search rules in
    ap footer_of same ∙ footer_of-footer_bytes self len1 crc1 len2 crc2
