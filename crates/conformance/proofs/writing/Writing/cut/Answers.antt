use Rattle.std.proofs.Common.{rules}
use Rattle.conformance.proofs.writing.Writing.cut.Goals as goal

pub invariant_of-self-in_err-recovery-2 : goal.invariant_of-self-in_err-recovery-2
invariant_of-self-in_err-recovery-2 g c = record {
  fresh = c.truncate.ensures.owes.fresh (search rules) (c.open.ensures.owes.fresh c.self.invariant.fresh);
  usable = tt;
  reads = tt;
  replays = tt;
}

pub invariant_of-self-2 : goal.invariant_of-self-2
invariant_of-self-2 g c = record {
  fresh = c.truncate.ensures.owes.fresh (search rules) (c.open.ensures.owes.fresh c.self.invariant.fresh);
  usable = tt;
  reads = tt;
  replays = tt;
}
