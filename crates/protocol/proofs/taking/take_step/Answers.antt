use Rattle.std.proofs.Common.{◌∷◌, [], List, refl, subst}
use Rattle.std.specs.Prelude.{Bool, is_some}
use Rattle.session.specs.declared.steps.Reply.{Reply}
use Rattle.protocol.specs.Serve.{IsAnswer}
use Rattle.protocol.specs.Taking.{IsStepAnswer, WritesAnswer}
use Rattle.protocol.specs.declared.request.Request.TheVariants.{Step}
use Rattle.protocol.proofs.Requested.{runs_request, step_answers, writer_there}
use Rattle.protocol.proofs.Taken.{writes_as}
use Rattle.protocol.proofs.taking.take_step.Goals as goal

pub returns-clause-takes : goal.returns-clause-takes
returns-clause-takes g c =
    let replies = c.take_steps.new.replies.items in
    let now = c.take_steps.new.session in
    let out = g.W.Write.contents c.args.out.now in
    let written = g.W.Write.contents c.answer-written.new.out in
    let failed = g.B.Cause.sync_failed c.take_steps.new.blob in
    let there = writer_there c.is_some-has_writer.result c.size.result now c.is_some-has_writer.ensures c.size.ensures in
    let told : WritesAnswer (IsStepAnswer c.args.version c.deref.result.now c.is_some-has_writer.result failed) out written c.answer-written.result =
    subst (λ (b : Bool). WritesAnswer (IsStepAnswer c.args.version c.deref.result.now c.is_some-has_writer.result b) out written c.answer-written.result) c.failed_sync-failed.ensures c.answer-written.ensures in
    let wrote : WritesAnswer (IsStepAnswer c.args.version replies (is_some now.writer) failed) out written c.answer-written.result =
    subst (λ (b : Bool). WritesAnswer (IsStepAnswer c.args.version replies b failed) out written c.answer-written.result) there
    (subst (λ (rs : List Reply). WritesAnswer (IsStepAnswer c.args.version rs c.is_some-has_writer.result failed) out written c.answer-written.result) c.deref.ensures.value told) in
    runs_request g.H.Sum.sum_of c.args.setting.now c.args.version (Step c.args.step) (c.args.step ∷ []) c.args.session.now now c.args.cache.now c.take_steps.new.cache (g.B.Blob.life c.args.blob.now) (g.B.Blob.life c.take_steps.new.blob) failed replies out written c.answer-written.result c.finish.result
    c.requires.may refl c.in_ok-take_steps.ensures.runs
    (writes_as (IsStepAnswer c.args.version replies (is_some now.writer) failed) (IsAnswer c.args.version (Step c.args.step) replies now failed) out written c.answer-written.result (λ answer is. step_answers c.args.version c.args.step replies now failed answer is) wrote) c.finish.ensures.told
