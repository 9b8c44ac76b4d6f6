use Rattle.conformance.proofs.WritingLaws.{after_look}
use Rattle.conformance.proofs.writing.Writing.scan.Goals as goal

pub invariant_of-self : goal.invariant_of-self
invariant_of-self g c = after_look c.self.invariant c.recoverable_prefix_len.ensures.leaves

pub invariant_of-self-2 : goal.invariant_of-self-2
invariant_of-self-2 g c = after_look c.self.invariant c.recoverable_prefix_len.ensures.leaves
