use Rattle.std.proofs.Common.{subst, sym}
use Rattle.segments.specs.Owned.{OwnedKeeps, OwnedSealGoes, OwnedState}
use Rattle.segments.proofs.Sealing.{seal_goes, seal_keeps}
use Rattle.segments.proofs.owned.OwnedJournal.seal.Goals as goal

pub returns-clause-goes : goal.returns-clause-goes
returns-clause-goes g c =
    let d = g.D.Digest.digest_of in
    let sum = g.H.Sum.sum_of in
    let own = g.R.Sum.sum_of in
    subst (λ (t : OwnedState). OwnedSealGoes d sum own c.args.self.now t c.levels-levels.result) (sym c.forget.ensures.lets)
    (seal_goes d sum own c.args.self.now c.commit.new.self c.levels-levels.new.self _ c.levels-levels.result c.requires.owned c.commit.ensures.leaves c.in_ok-commit.ensures.goes
    c.commit.ensures.page_size c.levels-levels.ensures.leaves c.levels-levels.ensures.goes)

pub returns-clause-kept : goal.returns-clause-kept
returns-clause-kept g c =
    let sum = g.H.Sum.sum_of in
    let own = g.R.Sum.sum_of in
    subst (λ (t : OwnedState). OwnedKeeps sum own c.args.self.now t) (sym c.forget.ensures.lets)
    (seal_keeps sum own c.args.self.now c.commit.new.self c.levels-levels.new.self _ c.requires.owned c.commit.ensures.leaves c.in_ok-commit.ensures.goes c.levels-levels.ensures.leaves)
