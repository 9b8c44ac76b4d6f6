use Rattle.std.proofs.Common.{rules, ◌≡◌, ◌+◌, List, [], ◌∷◌, ◌++◌, take, ap, sym, ◌∙◌, refl, subst, arith}
use Rattle.std.proofs.lemmas.List.{take_more, take_all}
use Rattle.session.specs.declared.steps.Step.{Step}
use Rattle.session.specs.declared.steps.Reply.{Reply}
use Rattle.session.specs.Calls.{RunGoes}
use Rattle.session.specs.Promise.{Promises}
use Rattle.session.proofs.OtherLaws.{others_idle, others_then}
use Rattle.session.proofs.RunLaws.{goes_none, goes_more}
use Rattle.session.proofs.PromiseLaws.{promises}
use Rattle.session.proofs.sessions.run.Goals as goal

pub loop-step-init : goal.loop-step-init
loop-step-init g c = record {
  room = search rules;
  ready = c.requires.ready;
  runs = goes_none g.H.Sum.sum_of c.args.session.now c.args.cache.now (g.B.Blob.life c.args.blob.now) c.try_reserve.new.self.items;
  others = others_idle c.args.session.now c.args.session.now c.args.cache.now refl refl;
}

pub step-reply-requires : goal.step-reply-requires
step-reply-requires g c =
    let ready = c.loop-step.invariant.ready in
    record { ready = ready.steps; cached = ready.cached; fresh = ready.fresh }

pub loop-step-preserved : goal.loop-step-preserved
loop-step-preserved g c =
    let sum = g.H.Sum.sum_of in
    let old = g.B.Blob.life c.args.blob.now in
    let between = g.B.Blob.life c.loop-step.blob in
    let new = g.B.Blob.life c.step-reply.new.blob in
    let steps = c.args.steps.now in
    let before = take c.loop-step.step-index steps in
    let one : take (c.loop-step.step-index + 1) steps ≡ before ++ c.step-item.result ∷ [] =
    take_more steps c.loop-step.step-index c.step-item.result c.loop-step-test.true ∙ ap (λ (s : Step). before ++ s ∷ []) (sym c.step-item.is) in
    record {
      room = omega (arith, c.loop-step.invariant.room, c.push_reserved.ensures.len, c.push_reserved.ensures.capacity, c.loop-step-test.true);
      ready = record { steps = c.step-reply.ensures.goes.ready; cached = c.step-reply.ensures.cached; fresh = c.step-reply.ensures.fresh_ids c.loop-step.invariant.ready.fresh };
      runs = subst (λ (taken : List Step). RunGoes sum taken c.args.session.now c.step-reply.new.self c.args.cache.now c.step-reply.new.cache old new c.try_reserve.new.self.items c.push_reserved.new.self.items) (sym one)
          (goes_more sum before c.step-item.result c.step-reply.result c.args.session.now c.loop-step.session c.step-reply.new.self c.args.cache.now c.loop-step.cache c.step-reply.new.cache old between new c.try_reserve.new.self.items c.loop-step.replies.items c.push_reserved.new.self.items
          c.loop-step.invariant.runs c.loop-step.invariant.ready c.step-reply.ensures.goes c.step-reply.ensures.calls c.push_reserved.ensures.items);
      others = others_then c.args.session.now c.loop-step.session c.step-reply.new.self c.args.cache.now c.loop-step.cache c.step-reply.new.cache c.loop-step.invariant.others c.step-reply.ensures.others;
    }

pub returns-clause-runs : goal.returns-clause-runs
returns-clause-runs g c =
    let old = g.B.Blob.life c.args.blob.now in
    let new = g.B.Blob.life c.loop-step.blob in
    let all : take c.loop-step.step-index c.args.steps.now ≡ c.args.steps.now = take_all c.loop-step.step-index c.args.steps.now (omega (arith, c.loop-step-test.false)) in
    subst (λ (earlier : List Reply). RunGoes g.H.Sum.sum_of c.args.steps.now c.args.session.now c.loop-step.session c.args.cache.now c.loop-step.cache old new earlier c.loop-step.replies.items) c.try_reserve.ensures.items
    (subst (λ (taken : List Step). RunGoes g.H.Sum.sum_of taken c.args.session.now c.loop-step.session c.args.cache.now c.loop-step.cache old new c.try_reserve.new.self.items c.loop-step.replies.items) all c.loop-step.invariant.runs)

pub returns-clause-promises : goal.returns-clause-promises
returns-clause-promises g c =
    let old = g.B.Blob.life c.args.blob.now in
    let new = g.B.Blob.life c.loop-step.blob in
    let steps = c.args.steps.now in
    let all : take c.loop-step.step-index steps ≡ steps = take_all c.loop-step.step-index steps (omega (arith, c.loop-step-test.false)) in
    let runs : RunGoes g.H.Sum.sum_of steps c.args.session.now c.loop-step.session c.args.cache.now c.loop-step.cache old new c.try_reserve.new.self.items c.loop-step.replies.items =
    subst (λ (taken : List Step). RunGoes g.H.Sum.sum_of taken c.args.session.now c.loop-step.session c.args.cache.now c.loop-step.cache old new c.try_reserve.new.self.items c.loop-step.replies.items) all c.loop-step.invariant.runs in
    subst (λ (earlier : List Reply). Promises g.H.Sum.sum_of steps c.args.session.now c.loop-step.session old new earlier c.loop-step.replies.items) c.try_reserve.ensures.items
    (promises g.H.Sum.sum_of steps c.args.session.now c.loop-step.session old new c.try_reserve.new.self.items c.loop-step.replies.items runs.always)

pub returns-clause-others : goal.returns-clause-others
returns-clause-others g c = c.loop-step.invariant.others
