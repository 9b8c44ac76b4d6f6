use Rattle.std.proofs.Common.{rules, subst}
use Rattle.std.specs.Prelude.{Bool, Err}
use Rattle.std.specs.Io.Buffered.{writer_contents}
use Rattle.session.specs.declared.steps.Reply.TheVariants.{Fault}
use Rattle.protocol.specs.Answer.{PutsAnswer, answer_bytes}
use Rattle.protocol.proofs.Serving.{greeting_cut, greeting_fails, greeting_unsent, greeted, refusal_cut, refusal_unheaded}
use Rattle.protocol.proofs.server.greet.Goals as goal

pub returns-in_err-take_request-clause-greets : goal.returns-in_err-take_request-clause-greets
returns-in_err-take_request-clause-greets g c =
    greeting_fails g.H.Sum.sum_of c.args.setting.now c.in-Ok.begun.0 c.take_request.new.session (g.B.Blob.life c.args.blob.now) (g.B.Blob.life c.recover.new.blob) (g.B.Blob.life c.take_request.new.blob) (g.B.Cause.sync_failed c.take_request.new.blob)
    (writer_contents g.W.Write.contents c.args.out.now) (writer_contents g.W.Write.contents c.put-2.new.out) (writer_contents g.W.Write.contents c.take_request.new.out) c.in_err-take_request.field-0.0 c.from_residual-in_err-take_request.result c.from_residual-in_err-take_request.ensures.1
    c.in-Ok.ensures.recovers c.in_ok-put.ensures c.in_err-take_request.ensures.takes

pub returns-in_err-flush-clause-greets : goal.returns-in_err-flush-clause-greets
returns-in_err-flush-clause-greets g c =
    greeting_unsent g.H.Sum.sum_of c.args.setting.now c.in-Ok.begun.0 c.take_request.new.session (g.B.Blob.life c.args.blob.now) (g.B.Blob.life c.recover.new.blob) (g.B.Blob.life c.take_request.new.blob) (g.B.Cause.sync_failed c.take_request.new.blob)
    (writer_contents g.W.Write.contents c.args.out.now) (writer_contents g.W.Write.contents c.put-2.new.out) (writer_contents g.W.Write.contents c.take_request.new.out) (writer_contents g.W.Write.contents c.flush.new.self) c.in_ok-take_request.field-0 c.from_residual-in_err-flush.result c.from_residual-in_err-flush.ensures.1
    c.in-Ok.ensures.recovers c.in_ok-put.ensures c.in_ok-take_request.ensures.takes c.in_err-flush.ensures.bytes

pub returns-clause-greets : goal.returns-clause-greets
returns-clause-greets g c =
    greeted g.H.Sum.sum_of c.args.setting.now c.in-Ok.begun.0 c.take_request.new.session (g.B.Blob.life c.args.blob.now) (g.B.Blob.life c.recover.new.blob) (g.B.Blob.life c.take_request.new.blob) (g.B.Cause.sync_failed c.take_request.new.blob)
    (writer_contents g.W.Write.contents c.args.out.now) (writer_contents g.W.Write.contents c.put-2.new.out) (writer_contents g.W.Write.contents c.take_request.new.out) (writer_contents g.W.Write.contents c.flush.new.self) c.in_ok-take_request.field-0
    c.in-Ok.ensures.recovers c.in_ok-put.ensures c.in_ok-take_request.ensures.takes c.in_ok-flush.ensures.bytes

pub returns-in_err-put-clause-greets : goal.returns-in_err-put-clause-greets
returns-in_err-put-clause-greets g c =
    greeting_cut g.H.Sum.sum_of c.args.setting.now c.in-Ok.begun.0 (g.B.Blob.life c.args.blob.now) (g.B.Blob.life c.recover.new.blob) (g.B.Cause.sync_failed c.recover.new.blob) (writer_contents g.W.Write.contents c.args.out.now) (writer_contents g.W.Write.contents c.put-2.new.out)
    c.in_err-put.field-0.0 c.from_residual-in_err-put.result c.from_residual-in_err-put.ensures.1 c.in-Ok.ensures.recovers c.in_err-put.ensures

pub returns-in_err-put-in-Err-Refused-clause-greets : goal.returns-in_err-put-in-Err-Refused-clause-greets
returns-in_err-put-in-Err-Refused-clause-greets g c =
    refusal_unheaded g.H.Sum.sum_of c.args.setting.now (g.B.Blob.life c.args.blob.now) (g.B.Blob.life c.recover.new.blob) (g.B.Cause.sync_failed c.recover.new.blob) (writer_contents g.W.Write.contents c.args.out.now) (writer_contents g.W.Write.contents c.put.new.out) c.in-Err-Refused.error
    c.in_err-put-in-Err-Refused.field-0.0 c.from_residual.result c.from_residual.ensures.1 (search rules) c.in_err-put-in-Err-Refused.ensures

pub returns-in_err-write_answer-in-Err-Refused-clause-greets : goal.returns-in_err-write_answer-in-Err-Refused-clause-greets
returns-in_err-write_answer-in-Err-Refused-clause-greets g c =
    let error = c.in-Err-Refused.error in
    let failed = g.B.Cause.sync_failed c.recover.new.blob in
    let first = writer_contents g.W.Write.contents c.put.new.out in
    let written = writer_contents g.W.Write.contents c.write_answer.new.out in
    let stop = c.in_err-write_answer-in-Err-Refused.field-0.0 in
    let wrote : PutsAnswer (answer_bytes (Fault error) failed) first written (Err stop) = search rules in
    refusal_cut g.H.Sum.sum_of c.args.setting.now (g.B.Blob.life c.args.blob.now) (g.B.Blob.life c.recover.new.blob) failed (writer_contents g.W.Write.contents c.args.out.now) first written error stop
    c.from_residual-in_err-write_answer-in-Err-Refused.result c.from_residual-in_err-write_answer-in-Err-Refused.ensures.1 (search rules) (search rules) wrote
