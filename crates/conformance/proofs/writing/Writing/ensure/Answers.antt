use Rattle.std.proofs.Common.{subst}
use Rattle.std.specs.Prelude.{Option}
use Rattle.disk.specs.History.{life_of}
use Rattle.paged_read.specs.Replay.{ReplayState}
use Rattle.conformance.specs.Writing.{AreReadable}
use Rattle.conformance.proofs.WritingLaws.{after_ensure}
use Rattle.conformance.proofs.writing.Writing.ensure.Goals as goal

pub invariant_of-self-in_err-ensure : goal.invariant_of-self-in_err-ensure
invariant_of-self-in_err-ensure g c =
    let held = c.self.inside in
    let old = life_of held.blob.inner in
    let all = subst (λ (o : Option ReplayState). AreReadable g.H.Sum.sum_of held.writer held.snapshot o held.cache old) c.in-Some.is c.self.invariant in
    after_ensure all c.ensure.ensures.leaves c.ensure.ensures.goes.can

pub invariant_of-self-2 : goal.invariant_of-self-2
invariant_of-self-2 g c =
    let held = c.self.inside in
    let old = life_of held.blob.inner in
    let all = subst (λ (o : Option ReplayState). AreReadable g.H.Sum.sum_of held.writer held.snapshot o held.cache old) c.in-Some.is c.self.invariant in
    after_ensure all c.ensure.ensures.leaves c.ensure.ensures.goes.can
