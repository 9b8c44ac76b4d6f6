use Rattle.std.proofs.Common.{◌∙◌, ap, ◌-◌}
use Rattle.crc32c.specs.Crc.{after_bytes}
use Rattle.crc32c.proofs.Folding.{goes_on}
use Rattle.crc32c.proofs.Crc32cSum.sum_from.Goals as goal

pub returns : goal.returns
returns c =
    let a = c.args in
    goes_on a.bytes.now a.known a.sum c.after.result c.requires.sum (c.after.ensures ∙ ap (after_bytes (4294967295 - a.sum)) c.split_at.ensures.back)
