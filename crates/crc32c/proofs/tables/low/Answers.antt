use Rattle.std.proofs.lemmas.Nat.{and_mask}
use Rattle.crc32c.proofs.tables.low.Goals as goal

pub returns : goal.returns
returns c = and_mask c.args.state 8
