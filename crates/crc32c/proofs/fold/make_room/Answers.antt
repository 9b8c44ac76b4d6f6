use Rattle.std.proofs.Common.{◌∙◌, ap, take, arith}
use Rattle.crc32c.proofs.Folding.{moves_to_front}
use Rattle.crc32c.proofs.fold.make_room.Goals as goal

pub returns-clause-window : goal.returns-clause-window
returns-clause-window c = ap (take 290) c.copy_within.ensures.after ∙ moves_to_front c.args.at 290 c.args.quotient.now (omega arith)
