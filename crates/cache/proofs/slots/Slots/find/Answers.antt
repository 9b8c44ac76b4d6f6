use Rattle.std.proofs.Common.{◌∙◌, ℕ, ap, sym, length, arith}
use Rattle.cache.specs.Chain.{place_of}
use Rattle.cache.proofs.Linked.{nowhere, somewhere}
use Rattle.cache.proofs.slots.Slots.find.Goals as goal

pub returns-in-Some : goal.returns-in-Some
returns-in-Some c =
    let t = c.args.self.now in
    let many = c.len.ensures ∙ t.firsts.ok.0 in
    somewhere t.keys.items t.nexts.items t.firsts.items (length t.keys.items)
    (length t.firsts.items) t.used c.requires.within c.requires.linked c.args.key
    c.place-place.result
    (sym (c.place-place.ensures.is ∙ ap (λ (n : ℕ). place_of n c.args.key) many))
    (omega (arith, c.place-place.ensures.below, many)) c.in-Some.link c.in-Some.ensures

pub returns-in-None : goal.returns-in-None
returns-in-None c =
    let t = c.args.self.now in
    let many = c.len.ensures ∙ t.firsts.ok.0 in
    nowhere t.keys.items t.nexts.items t.firsts.items (length t.keys.items)
    (length t.firsts.items) t.used c.requires.within c.requires.linked c.args.key
    c.place-place.result
    (sym (c.place-place.ensures.is ∙ ap (λ (n : ℕ). place_of n c.args.key) many))
    (omega (arith, c.place-place.ensures.below, many)) c.in-None.ensures
