use Rattle.std.proofs.Common.{rules}
use Rattle.paged_read.specs.Tail.{tail_at}
use Rattle.conformance.proofs.views.Viewed.read_into.Goals as goal

pub invariant_of-self : goal.invariant_of-self
invariant_of-self c = record {
  view = search rules;
  can = c.read_into.ensures.leaves.can_read (tail_at c.args.self.now.page_size c.args.self.now.id c.args.self.now.tip) (search rules);
}
