use Rattle.conformance.proofs.WritingLaws.{after_read}
use Rattle.conformance.proofs.writing.Writing.read_into.Goals as goal

pub invariant_of-self-in-Snapshot : goal.invariant_of-self-in-Snapshot
invariant_of-self-in-Snapshot g c = after_read c.self.invariant c.read_into-read.ensures.leaves

pub invariant_of-self-2 : goal.invariant_of-self-2
invariant_of-self-2 g c = after_read c.self.invariant c.read_into-read-2.ensures.leaves
