use Rattle.std.proofs.Common.{◌-◌}
use Rattle.cache.proofs.Reading.{HasCome}
use Rattle.cache.proofs.cache.CacheRef.read_cached.Given as goal

abbrev pub invariant-loop-done : goal.invariant-loop-done
invariant-loop-done l = HasCome l.self l.id l.offset l.most l.done l.initial.buf l.buf

abbrev pub decreases-loop-done : goal.decreases-loop-done
decreases-loop-done l = l.most - l.done
