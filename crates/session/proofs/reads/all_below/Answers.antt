use Rattle.std.proofs.Common.{◌∙◌, ap, ℕ, List, [], ◌∷◌, ◌++◌}
use Rattle.paged_read.proofs.RangedLists.{range_push}
use Rattle.session.proofs.reads.all_below.Goals as goal

pub loop-index-preserved : goal.loop-index-preserved
loop-index-preserved c = c.in_ok-push.ensures.items ∙ ap (λ (l : List ℕ). l ++ c.loop-index.index ∷ []) c.loop-index.invariant ∙ range_push c.loop-index.index
