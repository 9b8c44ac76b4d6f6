use Rattle.std.proofs.Common.{rules, ◌≡◌, ◌+◌, List, [], ◌∷◌, ◌++◌, take, ap, sym, ◌∙◌, subst, arith}
use Rattle.std.proofs.lemmas.Grind.{common_steps}
use Rattle.std.proofs.lemmas.List.{take_more}
use Rattle.items.specs.declared.run.ItemStep.{ItemStep}
use Rattle.items.specs.Run.{RanItems}
use Rattle.items.proofs.Runs.{fresh_in, opened, ran_more, ran_none}
use Rattle.items.proofs.run.run_items.Goals as goal

pub loop-step-init : goal.loop-step-init
loop-step-init g c = record {
  room = search rules;
  stands = c.requires.open;
  ran = ran_none g.H.Sum.sum_of c.args.session.now c.args.cache.now (g.B.Blob.life c.args.blob.now) c.try_reserve.new.self.items c.requires.open;
}

pub loop-step-preserved : goal.loop-step-preserved
loop-step-preserved g c =
    let sum = g.H.Sum.sum_of in
    let old = g.B.Blob.life c.args.blob.now in
    let between = g.B.Blob.life c.loop-step.blob in
    let new = g.B.Blob.life c.step-reply.new.blob in
    let steps = c.args.steps.now in
    let before = take c.loop-step.step-index steps in
    let one : take (c.loop-step.step-index + 1) steps ≡ before ++ c.step-item.result ∷ [] =
    take_more steps c.loop-step.step-index c.step-item.result c.loop-step-test.true ∙ ap (λ (s : ItemStep). before ++ s ∷ []) (sym c.step-item.is) in
    record {
      room = omega (arith, c.loop-step.invariant.room, c.push_reserved.ensures.len, c.push_reserved.ensures.capacity, c.loop-step-test.true);
      stands = opened sum c.step-item.result c.loop-step.session c.step-reply.new.self c.loop-step.cache c.step-reply.new.cache between new c.step-reply.result c.step-reply.ensures.did;
      ran = subst (λ (taken : List ItemStep). RanItems sum taken c.args.session.now c.step-reply.new.self c.args.cache.now c.step-reply.new.cache old new c.try_reserve.new.self.items c.push_reserved.new.self.items) (sym one)
          (ran_more sum before c.step-item.result c.step-reply.result c.args.session.now c.loop-step.session c.step-reply.new.self c.args.cache.now c.loop-step.cache c.step-reply.new.cache old between new c.try_reserve.new.self.items c.loop-step.replies.items c.push_reserved.new.self.items
          c.loop-step.invariant.ran c.step-reply.ensures.did c.push_reserved.ensures.items);
    }

pub returns-clause-ready : goal.returns-clause-ready
returns-clause-ready g c = (c.loop-step.invariant.stands, fresh_in g.H.Sum.sum_of c.loop-step.session c.loop-step.cache (g.B.Blob.life c.loop-step.blob) c.loop-step.invariant.stands)

pub returns-in_err-try_reserve-clause-ready : goal.returns-in_err-try_reserve-clause-ready
returns-in_err-try_reserve-clause-ready g c = (c.requires.open, fresh_in g.H.Sum.sum_of c.args.session.now c.args.cache.now (g.B.Blob.life c.args.blob.now) c.requires.open)

pub returns-clause-goes : goal.returns-clause-goes
returns-clause-goes g c = grind (arith, common_steps)
