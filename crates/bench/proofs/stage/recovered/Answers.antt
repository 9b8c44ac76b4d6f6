use Rattle.std.proofs.Common.{sym, subst}
use Rattle.writer_state.specs.WriterState.{WriterState}
use Rattle.paged.specs.Ready.{IsReady}
use Rattle.bench.proofs.stage.recovered.Goals as goal

pub returns : goal.returns
returns g c =
    subst (λ (w : WriterState). IsReady g.H.Sum.sum_of w c.recover.new.cache (g.B.Blob.life c.recover.new.blob)) (sym c.from.ensures)
    (c.in_ok-recovery.ensures.ready c.requires.fresh)
