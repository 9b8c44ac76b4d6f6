use Rattle.std.proofs.Common.{◌∙◌, ℕ, ap, sym, subst, length, ◌<◌, arith}
use Rattle.std.specs.Prelude.{slice_set}
use Rattle.std.specs.Vec.{with_item}
use Rattle.std.proofs.lemmas.List.{get_or_read_under, length-set}
use Rattle.cache.specs.Chain.{place_of, AreLinked}
use Rattle.cache.proofs.Linked.{linked_again}
use Rattle.cache.proofs.Table.{rekeyed}
use Rattle.cache.proofs.slots.Slots.link.Goals as goal

pub returns-clause-are : goal.returns-clause-are
returns-clause-are c =
    let t = c.args.self.now in
    let are = c.requires.are in
    let slot : ℕ = c.args.slot in
    let home : ℕ = c.place-place.result in
    let many = c.len.ensures ∙ t.firsts.ok.0 in
    let below : home < length t.firsts.items = omega (arith, c.place-place.ensures.below, many) in
    let next_is = get_or_read_under t.firsts.items home (length t.firsts.items) c.index.result.now 0
    c.index.ensures below (λ i. length t.firsts.items) in
    rekeyed t slot (with_item t.keys slot c.args.key) (with_item t.hints home slot)
    (with_item t.firsts home slot) (with_item t.nexts slot c.index.result.now) are
    (length-set t.keys.items slot c.args.key) (length-set t.hints.items home slot)
    (length-set t.firsts.items home slot) (length-set t.nexts.items slot c.index.result.now)
    (subst (λ (n : ℕ). AreLinked (slice_set t.keys.items slot c.args.key)
    (slice_set t.nexts.items slot n) (slice_set t.firsts.items home slot)
    (length (slice_set t.keys.items slot c.args.key)) (length (slice_set t.firsts.items home slot))
    t.used (length (slice_set t.keys.items slot c.args.key))) (sym next_is)
    (linked_again t.keys.items t.nexts.items t.firsts.items (length t.keys.items)
    (length t.firsts.items) t.used slot are.linked c.args.key home
    (sym (c.place-place.ensures.is ∙ ap (λ (n : ℕ). place_of n c.args.key) many)) below
    c.requires.slot are.within (λ i. length t.keys.items) are.nexts (λ i. length t.firsts.items)
    c.requires.absent))
