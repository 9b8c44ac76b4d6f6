use Rattle.workloads.proofs.commit.start_all.Goals as goal

pub loop-preserved : goal.loop-preserved
loop-preserved g c = (c.in_ok-writer-3.ensures.ready c.append_all-in-loop.new.cache).0 c.in_ok-writer-2.ensures
