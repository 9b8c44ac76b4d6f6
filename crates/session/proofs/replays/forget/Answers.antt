use Rattle.std.proofs.Common.{arith}
use Rattle.session.proofs.Numbered.{forgot_more}
use Rattle.session.proofs.replays.forget.Goals as goal

pub loop-index-preserved : goal.loop-index-preserved
loop-index-preserved g c = forgot_more c.args.replays.now.items c.loop-index.replays.items c.loop-index.index (omega (arith, c.len-index-end.ensures)) c.loop-index.invariant
