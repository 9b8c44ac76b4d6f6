use Rattle.std.proofs.Common.{subst}
use Rattle.std.specs.Prelude.{Option}
use Rattle.disk.specs.History.{life_of}
use Rattle.writer_state.specs.WriterState.{WriterState}
use Rattle.conformance.specs.Writing.{AreReadable}
use Rattle.conformance.proofs.WritingLaws.{after_try}
use Rattle.conformance.proofs.writing.Writing.try_value.Goals as goal

pub invariant_of-self-in-Some-2 : goal.invariant_of-self-in-Some-2
invariant_of-self-in-Some-2 g c =
    let held = c.self.inside in
    let old = life_of held.blob.inner in
    let all = subst (λ (o : Option WriterState). AreReadable g.H.Sum.sum_of o held.snapshot held.replay held.cache old) c.in-Some-writer.is c.self.invariant in
    after_try all c.try_append_value.ensures.consistent c.try_append_value.ensures.keeps_reads
