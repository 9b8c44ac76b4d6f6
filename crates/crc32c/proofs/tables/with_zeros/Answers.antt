use Rattle.std.proofs.Common.{ap, ◌∙◌, ◌+◌, ◌*◌, [], arith}
use Rattle.crc32c.specs.Crc.{after_bits}
use Rattle.crc32c.proofs.Steps.{in_tables}
use Rattle.crc32c.proofs.tables.with_zeros.Goals as goal

pub returns : goal.returns
returns c = in_tables c.args.zeros c.from.result 0 [] (omega (arith, c.requires)) (omega (arith, c.from.ensures)) ∙ ap (after_bits (8 * (c.args.zeros + 1))) c.from.ensures
