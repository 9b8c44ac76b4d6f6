use Rattle.bench.proofs.work.append_started.Goals as goal

pub loop-preserved : goal.loop-preserved
loop-preserved g c = (c.in_ok-writer-2.ensures.ready c.start_sync.new.cache).0 (c.in_ok-next.ensures.ready.0 c.in_ok-writer.ensures)
