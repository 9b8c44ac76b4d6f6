use Rattle.std.proofs.Common.{◌≡◌, ◌∙◌, ap, rules, ℕ, ◌<◌, length, get_or}
use Rattle.page.specs.Footer.{footer_bytes, footer_of}
use Rattle.page.specs.declared.checksum.Checksum.{Checksum}
use Rattle.page.proofs.Footers.{footer_bytes-footer_of}
use Rattle.page.proofs.checksum.Checksum.from_bytes.Goals as goal

pub returns-clause-inverse : goal.returns-clause-inverse
returns-clause-inverse c =
    let below : (i : ℕ) → get_or c.args.bytes i 0 < 256 = search rules in
    let twelve : length c.args.bytes ≡ 12 = search rules in
    let made : Checksum = record { len1 = c.from_be_bytes.result; crc1 = c.from_be_bytes-2.result; len2 = c.from_be_bytes-3.result; crc2 = c.from_be_bytes-4.result } in
    let same : made ≡ footer_of c.args.bytes = search rules in
    ap footer_bytes same ∙ footer_bytes-footer_of c.args.bytes twelve below
