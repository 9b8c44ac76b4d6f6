use Rattle.std.proofs.Common.{◌≡◌, ◌∙◌, ℕ, ap, sym, subst, length, arith, refl}
use Rattle.std.specs.Prelude.{slice_index_or, slice_set}
use Rattle.std.specs.Vec.{with_item}
use Rattle.std.proofs.lemmas.List.{get_or_read_under, length-set}
use Rattle.cache.specs.Chain.{place_of, AreLinked}
use Rattle.cache.proofs.Linked.{nowhere, unlinked_none, unlinked_some, before_below}
use Rattle.cache.proofs.Table.{relinked}
use Rattle.cache.proofs.slots.Slots.unlink.Goals as goal

pub index_mut-requires : goal.index_mut-requires
index_mut-requires c =
    let t = c.args.self.now in
    let many = c.len.ensures ∙ t.firsts.ok.0 in
    let key_is = get_or_read_under t.keys.items c.args.slot (length t.keys.items) c.index-key.result.now (0, 0)
    c.index-key.ensures (omega (arith, c.requires.slot, c.requires.are.within)) (λ i. length t.keys.items) in
    let home_is : place_of (length t.firsts.items) (slice_index_or t.keys.items c.args.slot (0, 0)) ≡ c.place-place.result =
    ap (place_of (length t.firsts.items)) (sym key_is) ∙ sym (c.place-place.ensures.is ∙ ap (λ (n : ℕ). place_of n c.index-key.result.now) many) in
    let low = before_below t.keys.items t.nexts.items t.firsts.items (length t.keys.items)
    (length t.firsts.items) t.used c.requires.are.within c.requires.are.linked c.args.slot c.requires.slot
    c.place-place.result home_is (omega (arith, c.place-place.ensures.below, many)) c.in-Some.link
    c.index-key.result.now (sym key_is) c.in-Some.ensures c.in-Some-before.before c.in-Some-before.is in
    omega (arith, low, c.requires.are.nexts, t.nexts.ok.0)

pub returns-in-Some-before-clause-are : goal.returns-in-Some-before-clause-are
returns-in-Some-before-clause-are c =
    let t = c.args.self.now in
    let many = c.len.ensures ∙ t.firsts.ok.0 in
    let key_is = get_or_read_under t.keys.items c.args.slot (length t.keys.items) c.index-key.result.now (0, 0)
    c.index-key.ensures (omega (arith, c.requires.slot, c.requires.are.within)) (λ i. length t.keys.items) in
    let next_is = get_or_read_under t.nexts.items c.args.slot (length t.nexts.items) c.index-next.result.now 0
    c.index-next.ensures (omega (arith, c.requires.slot, c.requires.are.within, c.requires.are.nexts)) (λ i. length t.nexts.items) in
    let home_is : place_of (length t.firsts.items) (slice_index_or t.keys.items c.args.slot (0, 0)) ≡ c.place-place.result =
    ap (place_of (length t.firsts.items)) (sym key_is) ∙ sym (c.place-place.ensures.is ∙ ap (λ (n : ℕ). place_of n c.index-key.result.now) many) in
    relinked t (length t.keys.items) c.args.slot t.firsts (with_item t.nexts c.in-Some-before.before c.index-next.result.now)
    c.requires.are
    (length-set t.nexts.items c.in-Some-before.before c.index-next.result.now ∙ c.requires.are.nexts) refl
    (subst (λ (n : ℕ). AreLinked t.keys.items (slice_set t.nexts.items c.in-Some-before.before n) t.firsts.items (length t.keys.items) (length t.firsts.items) t.used c.args.slot) (sym next_is)
    (unlinked_some t.keys.items t.nexts.items t.firsts.items (length t.keys.items)
    (length t.firsts.items) t.used c.requires.are.within c.requires.are.linked c.args.slot c.requires.slot
    c.place-place.result home_is (omega (arith, c.place-place.ensures.below, many)) c.in-Some.link
    c.index-key.result.now (sym key_is) c.in-Some.ensures c.in-Some-before.before c.in-Some-before.is c.requires.are.nexts))

pub returns-in-None-clause-are : goal.returns-in-None-clause-are
returns-in-None-clause-are c =
    let t = c.args.self.now in
    let many = c.len.ensures ∙ t.firsts.ok.0 in
    let key_is = get_or_read_under t.keys.items c.args.slot (length t.keys.items) c.index-key.result.now (0, 0)
    c.index-key.ensures (omega (arith, c.requires.slot, c.requires.are.within)) (λ i. length t.keys.items) in
    let next_is = get_or_read_under t.nexts.items c.args.slot (length t.nexts.items) c.index-next.result.now 0
    c.index-next.ensures (omega (arith, c.requires.slot, c.requires.are.within, c.requires.are.nexts)) (λ i. length t.nexts.items) in
    let home_is : place_of (length t.firsts.items) (slice_index_or t.keys.items c.args.slot (0, 0)) ≡ c.place-place.result =
    ap (place_of (length t.firsts.items)) (sym key_is) ∙ sym (c.place-place.ensures.is ∙ ap (λ (n : ℕ). place_of n c.index-key.result.now) many) in
    relinked t (length t.keys.items) c.args.slot (with_item t.firsts c.place-place.result c.index-next.result.now) t.nexts
    c.requires.are c.requires.are.nexts (length-set t.firsts.items c.place-place.result c.index-next.result.now)
    (subst (λ (n : ℕ). AreLinked t.keys.items t.nexts.items (slice_set t.firsts.items c.place-place.result n) (length t.keys.items) (length (slice_set t.firsts.items c.place-place.result n)) t.used c.args.slot) (sym next_is)
    (unlinked_none t.keys.items t.nexts.items t.firsts.items (length t.keys.items)
    (length t.firsts.items) t.used c.requires.are.within c.requires.are.linked c.args.slot c.requires.slot
    c.place-place.result home_is (omega (arith, c.place-place.ensures.below, many)) c.in-Some.link
    c.index-key.result.now (sym key_is) c.in-Some.ensures c.in-None.is refl))

pub returns-in_default-clause-are : goal.returns-in_default-clause-are
returns-in_default-clause-are c =
    let t = c.args.self.now in
    let many = c.len.ensures ∙ t.firsts.ok.0 in
    let key_is = get_or_read_under t.keys.items c.args.slot (length t.keys.items) c.index-key.result.now (0, 0)
    c.index-key.ensures (omega (arith, c.requires.slot, c.requires.are.within)) (λ i. length t.keys.items) in
    absurd (nowhere t.keys.items t.nexts.items t.firsts.items (length t.keys.items)
    (length t.firsts.items) t.used c.requires.are.within c.requires.are.linked c.index-key.result.now
    c.place-place.result
    (sym (c.place-place.ensures.is ∙ ap (λ (n : ℕ). place_of n c.index-key.result.now) many))
    (omega (arith, c.place-place.ensures.below, many)) c.in_default.ensures c.args.slot c.requires.slot
    (sym key_is))
