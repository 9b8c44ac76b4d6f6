use Rattle.std.proofs.Common.{arith}
use Rattle.journal.proofs.Frames.{length-frame}
use Rattle.journal.proofs.frame.FramedEncodeSize.encode_size.Goals as goal

pub returns : goal.returns
returns g c = omega (arith, length-frame g.R.Sum.sum_of c.args.self.now.bytes.now)
