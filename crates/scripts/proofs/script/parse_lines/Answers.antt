use Rattle.scripts.proofs.ScriptLines.{one_more, stops_at}
use Rattle.scripts.proofs.script.parse_lines.Goals as goal

pub returns-in-Err : goal.returns-in-Err
returns-in-Err g c = record { reads = rw c.at.ensures (stops_at g.L.AnyLine.words g.L.AnyLine.is_line c.args.others.now c.loop-index.lines.items c.loop-index.index _ _ c.loop-index-test.true c.loop-index.invariant c.in-Err.ensures.reads) }

pub loop-index-preserved : goal.loop-index-preserved
loop-index-preserved g c = rw c.in_ok-push-in-Ok.ensures.items (one_more g.L.AnyLine.words c.loop-index.lines.items c.args.others.now c.loop-index.index c.in-Ok.line _ c.loop-index-test.true c.loop-index.invariant c.in-Ok.ensures.reads.0)
