use Rattle.crash.proofs.DistinctLaws.{distinct_is_chance_free}
use Rattle.crash.proofs.laws.chance_needs_a_collision.Goals as goal

pub returns : goal.returns
returns c = distinct_is_chance_free
