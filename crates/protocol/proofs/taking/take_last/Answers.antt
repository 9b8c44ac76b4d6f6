use Rattle.std.proofs.Common.{List, subst}
use Rattle.std.specs.Prelude.{Bool, is_some}
use Rattle.session.specs.declared.steps.Reply.{Reply}
use Rattle.protocol.specs.Answer.{IsAnswerWith}
use Rattle.protocol.specs.Serve.{IsAnswer, last_payload}
use Rattle.protocol.specs.Taking.{WritesAnswer}
use Rattle.protocol.specs.declared.version.Version.TheVariants.{Two}
use Rattle.protocol.proofs.Requested.{last_answers, runs_request, writer_there}
use Rattle.protocol.proofs.Taken.{writes_as}
use Rattle.protocol.proofs.taking.take_last.Goals as goal

pub returns-clause-takes : goal.returns-clause-takes
returns-clause-takes g c =
    let replies = c.take_steps.new.replies.items in
    let now = c.take_steps.new.session in
    let out = g.W.Write.contents c.args.out.now in
    let written = g.W.Write.contents c.answer_last-written.new.out in
    let failed = g.B.Cause.sync_failed c.take_steps.new.blob in
    let there = writer_there c.is_some-has_writer.result c.size.result now c.is_some-has_writer.ensures c.size.ensures in
    let told : WritesAnswer (IsAnswerWith (last_payload c.deref.result.now) c.deref.result.now c.is_some-has_writer.result failed) out written c.answer_last-written.result =
    subst (λ (b : Bool). WritesAnswer (IsAnswerWith (last_payload c.deref.result.now) c.deref.result.now c.is_some-has_writer.result b) out written c.answer_last-written.result) c.failed_sync-failed.ensures c.answer_last-written.ensures in
    let wrote : WritesAnswer (IsAnswerWith (last_payload replies) replies (is_some now.writer) failed) out written c.answer_last-written.result =
    subst (λ (b : Bool). WritesAnswer (IsAnswerWith (last_payload replies) replies b failed) out written c.answer_last-written.result) there
    (subst (λ (rs : List Reply). WritesAnswer (IsAnswerWith (last_payload rs) rs c.is_some-has_writer.result failed) out written c.answer_last-written.result) c.deref.ensures.value told) in
    runs_request g.H.Sum.sum_of c.args.setting.now Two c.args.request c.args.steps.now c.args.session.now now c.args.cache.now c.take_steps.new.cache (g.B.Blob.life c.args.blob.now) (g.B.Blob.life c.take_steps.new.blob) failed replies out written c.answer_last-written.result c.finish.result
    c.requires.may c.requires.steps c.in_ok-take_steps.ensures.runs
    (writes_as (IsAnswerWith (last_payload replies) replies (is_some now.writer) failed) (IsAnswer Two c.args.request replies now failed) out written c.answer_last-written.result
    (λ answer is. last_answers c.args.setting.now c.args.request c.args.steps.now replies now failed answer c.requires.last c.requires.steps c.requires.some is) wrote) c.finish.ensures.told
