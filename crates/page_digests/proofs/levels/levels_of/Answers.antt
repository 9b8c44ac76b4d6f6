use Rattle.std.proofs.Common.{◌≡◌, ◌∙◌, ap, arith}
use Rattle.std.specs.Int.NonZero.{non_zero_u16_get}
use Rattle.page_digests.specs.Pages.{list_of}
use Rattle.page_digests.proofs.Twins.{levels_tell, levels_whole}
use Rattle.page_digests.proofs.levels.levels_of.Given
use Rattle.page_digests.proofs.levels.levels_of.Goals as goal
use Rattle.page_digests.proofs.levels.levels_of.Goals.{After-levels_of_list}

is_list : (g : Given.Over) (c : After-levels_of_list g) → c.in_ok-list.list.items ≡ list_of g.D.Digest.digest_of (non_zero_u16_get c.args.page_size) c.args.content.now
is_list g c = c.in_ok-list.ensures ∙ ap (λ P. list_of g.D.Digest.digest_of P c.args.content.now) (c.from.ensures ∙ c.get.ensures.value)

pub returns-clause-levels : goal.returns-clause-levels
returns-clause-levels g c = levels_whole g.D.Digest.digest_of _ c.args.content.now _ _ (is_list g c) c.levels_of_list.ensures.over

pub returns-clause-apart : goal.returns-clause-apart
returns-clause-apart g c = levels_tell g.D.Digest.digest_of _ c.args.content.now _ _ (λ i. grind (arith)) (is_list g c) c.levels_of_list.ensures.each
