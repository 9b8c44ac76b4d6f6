use Rattle.std.proofs.Common.{arith}
use Rattle.std.proofs.lemmas.Grind.{common_steps}
use Rattle.disk.proofs.Bufs.{concat_more}
use Rattle.disk.proofs.buf.IoBufs.coalesce.Goals as goal

pub loop-buf-preserved : goal.loop-buf-preserved
loop-buf-preserved c = grind (arith, concat_more, c.in_ok-extend_from_slice.ensures.items)

pub returns-clause-ok : goal.returns-clause-ok
returns-clause-ok c = grind (arith, common_steps)
