use Rattle.std.proofs.Common.{◌≡◌, ℕ, List, ap, subst, length}
use Rattle.std.specs.Prelude.{slice_index_or, MatchOption}
use Rattle.std.proofs.lemmas.List.{get_or_read_under}
use Rattle.cache.specs.Chain.{IsLink, NoneHolds}
use Rattle.cache.proofs.Linked.{chain_as}
use Rattle.cache.proofs.slots.Slots.link_at.Goals as goal

pub returns : goal.returns
returns c =
    let t = c.args.self.now in
    let first : ℕ = slice_index_or t.firsts.items c.args.place 0 in
    let first_is : c.index.result.now ≡ first =
    get_or_read_under t.firsts.items c.args.place (length t.firsts.items) c.index.result.now 0
    c.index.ensures c.requires.below (λ i. length t.firsts.items) in
    λ slots chain. subst (λ (k : List (ℕ × ℕ)). MatchOption c.walk.result (NoneHolds k c.args.key slots)
    (λ link. IsLink k c.args.key slots link)) c.deref.ensures.value
    (c.walk.ensures slots
    (chain_as t.nexts.items c.deref-2.result.now (length t.keys.items) (length c.deref.result.now)
    first c.index.result.now slots c.deref-2.ensures.value (ap length c.deref.ensures.value) first_is
    chain))
