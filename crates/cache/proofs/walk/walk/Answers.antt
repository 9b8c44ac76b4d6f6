use Rattle.std.proofs.Common.{length, sym, ◌∙◌}
use Rattle.cache.proofs.Chains.{walk_begins, walk_ends, walk_passed, walk_finds, walk_goes, key_eq, key_ne}
use Rattle.cache.proofs.walk.walk.Goals as goal

pub loop-init : goal.loop-init
loop-init c =
    walk_begins c.args.keys.now c.args.nexts.now (length c.args.keys.now) c.args.first c.args.key
    c.requires.chain

pub returns-then-keys-slot : goal.returns-then-keys-slot
returns-then-keys-slot c =
    walk_ends c.args.keys.now c.args.nexts.now (length c.args.keys.now) c.args.first c.args.key
    c.loop.before c.loop.slot c.loop.counter c.loop.invariant c.if-keys-slot.true

pub returns-then-eq : goal.returns-then-eq
returns-then-eq c =
    walk_finds c.args.keys.now c.args.nexts.now (length c.args.keys.now) c.args.first c.args.key
    c.loop.before c.loop.slot c.loop.counter c.loop.invariant c.if-keys-slot.false
    (key_eq _ c.args.key (sym c.eq.ensures ∙ c.if-eq.true))

pub loop-preserved : goal.loop-preserved
loop-preserved c =
    walk_goes c.args.keys.now c.args.nexts.now (length c.args.keys.now) c.args.first c.args.key
    c.loop.before c.loop.slot c.loop.counter c.loop.invariant c.if-keys-slot.false
    (key_ne _ c.args.key (sym c.eq.ensures ∙ c.if-eq.false))

pub returns : goal.returns
returns c =
    walk_passed c.args.keys.now c.args.nexts.now (length c.args.keys.now) c.args.first c.args.key
    c.loop.before c.loop.slot c.loop.counter c.loop.invariant c.loop-test.false
