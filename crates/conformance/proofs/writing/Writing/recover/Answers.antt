use Rattle.conformance.proofs.writing.Writing.recover.Goals as goal

pub invariant_of-self-2 : goal.invariant_of-self-2
invariant_of-self-2 g c = record {
  fresh = c.recover.ensures.owes.fresh c.self.invariant.fresh;
  usable = tt;
  reads = tt;
  replays = tt;
}
