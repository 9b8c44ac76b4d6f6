use Rattle.std.specs.Prelude.{Ok}
use Rattle.std.proofs.Common.{ap, ◌∙◌, refl, subst}
use Rattle.segments.specs.Owned.{OwnedSealGoes, owned_size}
use Rattle.segments.specs.Log.{LogState}
use Rattle.segments.proofs.Sealing.{sealed_of}
use Rattle.segments.proofs.log.SegmentedLog.close_current.Goals as goal

pub returns-clause-goes : goal.returns-clause-goes
returns-clause-goes g c =
    let sum = g.H.Sum.sum_of in
    let own = g.R.Sum.sum_of in
    let d = g.D.Digest.digest_of in
    let s = c.args.self.now in
    let levels = c.in_ok-levels.levels in
    let goes = subst (λ (l : LogState). OwnedSealGoes d sum own l.current c.seal.new.self (Ok levels)) c.self.view_is c.in_ok-levels.ensures.goes in
    sealed_of sum own d s (record s { current = c.seal.new.self }) _ _ levels c.requires.log goes refl
    (c.records-records.ensures ∙ ap (λ (l : LogState). l.current.records) c.self.view_is)
    (c.size-len.ensures ∙ ap (λ (l : LogState). owned_size l.current.journal) c.self.view_is) refl refl
