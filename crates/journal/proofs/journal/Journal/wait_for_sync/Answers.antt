use Rattle.std.proofs.Common.{subst, sym}
use Rattle.writer_state.specs.WriterState.{WriterState}
use Rattle.paged.specs.Ready.{IsReady}
use Rattle.journal.proofs.journal.Journal.wait_for_sync.Goals as goal

pub returns-in-Ok-clause-ready : goal.returns-in-Ok-clause-ready
returns-in-Ok-clause-ready g c = λ cache ready.
    let sum = g.H.Sum.sum_of in
    let given : IsReady sum c.self.inside.writer cache (g.B.Blob.life c.args.blob.now) = subst (λ (w : WriterState). IsReady sum w cache (g.B.Blob.life c.args.blob.now)) (sym c.self.view_is) ready in
    subst (λ (w : WriterState). IsReady sum w cache (g.B.Blob.life c.wait_for_sync.new.blob)) (sym c.new.ensures) ((c.in-Ok.ensures.ready cache).0 given)
