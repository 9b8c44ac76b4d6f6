use Rattle.session.specs.Run.{IsSessionReady}
use Rattle.pagedd.proofs.appending.append_input.Given as goal

abbrev pub invariant-loop : goal.invariant-loop
invariant-loop g l = IsSessionReady g.H.Sum.sum_of l.appender.session l.appender.cache (g.B.Blob.life l.blob).present
