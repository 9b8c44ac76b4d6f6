use Rattle.std.proofs.Common.{◌≡◌, ◌∙◌, [], inl, inr, subst, sym}
use Rattle.std.specs.Prelude.{Option, Some, Ok, IfSome}
use Rattle.std.specs.Io.Buffered.{reader_remaining, writer_contents}
use Rattle.protocol.specs.Serve.{ReadsNext}
use Rattle.protocol.specs.declared.request.Request.{Request}
use Rattle.std.proofs.KnownBytes.{Keeps-refl}
use Rattle.session.specs.declared.steps.Step.TheVariants.{Append}
use Rattle.protocol.specs.declared.request.Request.TheVariants.{Step as StepOf}
use Rattle.protocol.proofs.Lent.{lent_reads, lent_takes}
use Rattle.protocol.proofs.Serving.{at_end, close_read, serving_begins, serving_ends, serving_fails, serving_more, serving_over, serving_stops}
use Rattle.protocol.proofs.server.serve.Goals as goal

pub loop-number-init : goal.loop-number-init
loop-number-init g c = record {
  none = c.new-replies.ensures.items;
  ready = c.requires.ready;
  serving = serving_begins g.H.Sum.sum_of c.args.setting.now c.args.version c.args.session.now (g.B.Blob.life c.args.blob.now) (g.B.Cause.sync_failed c.args.blob.now) (reader_remaining g.R.Read.remaining c.args.input.now) (writer_contents g.W.Write.contents c.args.out.now);
}

pub returns-in-Ok-None-clause-serves : goal.returns-in-Ok-None-clause-serves
returns-in-Ok-None-clause-serves g c =
    let rest = reader_remaining g.R.Read.remaining c.loop-number.input in
    let last = reader_remaining g.R.Read.remaining c.next_request.new.input in
    let none : IfSome rest (λ bytes. bytes ≡ []) = subst (λ (o : Option Request). ReadsNext c.args.version c.loop-number.number rest last (Ok o)) c.in-Ok-None.field-0-is c.in-Ok-None.ensures.reads in
    serving_ends g.H.Sum.sum_of c.args.setting.now c.args.version c.args.session.now c.loop-number.session (g.B.Blob.life c.args.blob.now) (g.B.Blob.life c.loop-number.blob) (g.B.Cause.sync_failed c.loop-number.blob) (reader_remaining g.R.Read.remaining c.args.input.now)
    rest last (writer_contents g.W.Write.contents c.args.out.now) (writer_contents g.W.Write.contents c.loop-number.out) (writer_contents g.W.Write.contents c.next_request.new.out)
    c.loop-number.fault c.loop-number.number c.end.result c.loop-number.invariant.serving c.next_request.ensures.keeps (inl (at_end rest none)) c.end.ensures

pub returns-in-Err-clause-serves : goal.returns-in-Err-clause-serves
returns-in-Err-clause-serves g c =
    serving_stops g.H.Sum.sum_of c.args.setting.now c.args.version c.args.session.now c.loop-number.session (g.B.Blob.life c.args.blob.now) (g.B.Blob.life c.loop-number.blob) (g.B.Cause.sync_failed c.loop-number.blob) (reader_remaining g.R.Read.remaining c.args.input.now)
    (reader_remaining g.R.Read.remaining c.loop-number.input) (reader_remaining g.R.Read.remaining c.next_request.new.input) (writer_contents g.W.Write.contents c.args.out.now) (writer_contents g.W.Write.contents c.loop-number.out) (writer_contents g.W.Write.contents c.next_request.new.out)
    (writer_contents g.W.Write.contents c.tell_flaw.new.out) c.loop-number.fault c.loop-number.number c.in-Err.stop c.tell_flaw.result c.loop-number.invariant.serving c.next_request.ensures.keeps c.in-Err.ensures.reads c.tell_flaw.ensures

pub returns-then-is_close-clause-serves : goal.returns-then-is_close-clause-serves
returns-then-is_close-clause-serves g c =
    let rest = reader_remaining g.R.Read.remaining c.loop-number.input in
    let last = reader_remaining g.R.Read.remaining c.next_request.new.input in
    let reads : ReadsNext c.args.version c.loop-number.number rest last (Ok (Some c.in-Ok-Some.request)) = subst (λ (o : Option Request). ReadsNext c.args.version c.loop-number.number rest last (Ok o)) c.in-Ok-Some.field-0-is c.in-Ok-Some.ensures.reads in
    serving_ends g.H.Sum.sum_of c.args.setting.now c.args.version c.args.session.now c.loop-number.session (g.B.Blob.life c.args.blob.now) (g.B.Blob.life c.loop-number.blob) (g.B.Cause.sync_failed c.loop-number.blob) (reader_remaining g.R.Read.remaining c.args.input.now)
    rest last (writer_contents g.W.Write.contents c.args.out.now) (writer_contents g.W.Write.contents c.loop-number.out) (writer_contents g.W.Write.contents c.next_request.new.out)
    c.loop-number.fault c.loop-number.number c.end-then-is_close.result c.loop-number.invariant.serving c.next_request.ensures.keeps
    (inr (close_read c.args.version c.loop-number.number c.in-Ok-Some.request rest last (sym c.is_close.ensures ∙ c.if-is_close.true) reads)) c.end-then-is_close.ensures

pub returns-in_err-next-clause-serves : goal.returns-in_err-next-clause-serves
returns-in_err-next-clause-serves g c =
    let rest = reader_remaining g.R.Read.remaining c.loop-number.input in
    let last = reader_remaining g.R.Read.remaining c.next_request.new.input in
    let reads : ReadsNext c.args.version c.loop-number.number rest last (Ok (Some c.in-Ok-Some.request)) = subst (λ (o : Option Request). ReadsNext c.args.version c.loop-number.number rest last (Ok o)) c.in-Ok-Some.field-0-is c.in-Ok-Some.ensures.reads in
    serving_fails g.H.Sum.sum_of c.args.setting.now c.args.version c.in-Ok-Some.request c.args.session.now c.loop-number.session c.take_request.new.session (g.B.Blob.life c.args.blob.now) (g.B.Blob.life c.loop-number.blob) (g.B.Blob.life c.take_request.new.blob) (g.B.Cause.sync_failed c.loop-number.blob) (g.B.Cause.sync_failed c.take_request.new.blob)
    (reader_remaining g.R.Read.remaining c.args.input.now) rest last (writer_contents g.W.Write.contents c.args.out.now) (writer_contents g.W.Write.contents c.loop-number.out) (writer_contents g.W.Write.contents c.next_request.new.out) (writer_contents g.W.Write.contents c.take_request.new.out)
    c.loop-number.fault c.loop-number.number c.in_err-next.field-0.0 c.from_residual-in_err-next.result c.from_residual-in_err-next.ensures.1 c.loop-number.invariant.serving c.next_request.ensures.keeps reads c.in_err-next.ensures.takes

pub loop-number-preserved : goal.loop-number-preserved
loop-number-preserved g c =
    let rest = reader_remaining g.R.Read.remaining c.loop-number.input in
    let last = reader_remaining g.R.Read.remaining c.next_request.new.input in
    let reads : ReadsNext c.args.version c.loop-number.number rest last (Ok (Some c.in-Ok-Some.request)) = subst (λ (o : Option Request). ReadsNext c.args.version c.loop-number.number rest last (Ok o)) c.in-Ok-Some.field-0-is c.in-Ok-Some.ensures.reads in
    record {
      none = c.in_ok-next.ensures.none;
      ready = c.take_request.ensures.ready;
      serving = serving_more g.H.Sum.sum_of c.args.setting.now c.args.version c.in-Ok-Some.request c.args.session.now c.loop-number.session c.take_request.new.session (g.B.Blob.life c.args.blob.now) (g.B.Blob.life c.loop-number.blob) (g.B.Blob.life c.take_request.new.blob) (g.B.Cause.sync_failed c.loop-number.blob) (g.B.Cause.sync_failed c.take_request.new.blob)
          (reader_remaining g.R.Read.remaining c.args.input.now) rest last (writer_contents g.W.Write.contents c.args.out.now) (writer_contents g.W.Write.contents c.loop-number.out) (writer_contents g.W.Write.contents c.next_request.new.out) (writer_contents g.W.Write.contents c.take_request.new.out)
          c.loop-number.fault c.in_ok-next.next c.later-fault-in-loop-number.result c.is_some-had_writer.result c.loop-number.number c.later-fault-in-loop-number.ensures c.loop-number.invariant.serving c.next_request.ensures.keeps reads c.in_ok-next.ensures.takes;
    }

pub returns-in_err-taken-clause-serves : goal.returns-in_err-taken-clause-serves
returns-in_err-taken-clause-serves g c =
    let rest = reader_remaining g.R.Read.remaining c.loop-number.input in
    let last = reader_remaining g.R.Read.remaining c.pass.new.input in
    let taken = c.in_err-taken.ensures.takes in
    let owned = taken.0 in
    let took = lent_takes c.buffer.result.now c.in-Some.lent.now rest last c.in-Some.ensures (λ front after whole long. c.pass.ensures front after (sym c.buffer.ensures ∙ whole) long) in
    let reads = lent_reads c.args.version c.loop-number.number c.in-Some.lent.now owned rest last taken.1 took.1 took.0 in
    serving_fails g.H.Sum.sum_of c.args.setting.now c.args.version (StepOf (Append owned)) c.args.session.now c.loop-number.session c.take_append-taken.new.session (g.B.Blob.life c.args.blob.now) (g.B.Blob.life c.loop-number.blob) (g.B.Blob.life c.take_append-taken.new.blob) (g.B.Cause.sync_failed c.loop-number.blob) (g.B.Cause.sync_failed c.take_append-taken.new.blob)
    (reader_remaining g.R.Read.remaining c.args.input.now) rest last (writer_contents g.W.Write.contents c.args.out.now) (writer_contents g.W.Write.contents c.loop-number.out) (writer_contents g.W.Write.contents c.loop-number.out) (writer_contents g.W.Write.contents c.take_append-taken.new.out)
    c.loop-number.fault c.loop-number.number c.in_err-taken.field-0.0 c.from_residual.result c.from_residual.ensures.1 c.loop-number.invariant.serving (Keeps-refl (writer_contents g.W.Write.contents c.loop-number.out)) reads taken.2

pub loop-number-preserved-in-loop-number : goal.loop-number-preserved-in-loop-number
loop-number-preserved-in-loop-number g c =
    let rest = reader_remaining g.R.Read.remaining c.loop-number.input in
    let last = reader_remaining g.R.Read.remaining c.pass.new.input in
    let taken = c.in_ok-taken.ensures.takes in
    let owned = taken.0 in
    let took = lent_takes c.buffer.result.now c.in-Some.lent.now rest last c.in-Some.ensures (λ front after whole long. c.pass.ensures front after (sym c.buffer.ensures ∙ whole) long) in
    let reads = lent_reads c.args.version c.loop-number.number c.in-Some.lent.now owned rest last taken.1 took.1 took.0 in
    record {
      none = c.loop-number.invariant.none;
      ready = c.take_append-taken.ensures.ready;
      serving = serving_more g.H.Sum.sum_of c.args.setting.now c.args.version (StepOf (Append owned)) c.args.session.now c.loop-number.session c.take_append-taken.new.session (g.B.Blob.life c.args.blob.now) (g.B.Blob.life c.loop-number.blob) (g.B.Blob.life c.take_append-taken.new.blob) (g.B.Cause.sync_failed c.loop-number.blob) (g.B.Cause.sync_failed c.take_append-taken.new.blob)
          (reader_remaining g.R.Read.remaining c.args.input.now) rest last (writer_contents g.W.Write.contents c.args.out.now) (writer_contents g.W.Write.contents c.loop-number.out) (writer_contents g.W.Write.contents c.loop-number.out) (writer_contents g.W.Write.contents c.take_append-taken.new.out)
          c.loop-number.fault c.in_ok-taken.field-0 c.later-fault.result c.is_some-held_writer.result c.loop-number.number c.later-fault.ensures c.loop-number.invariant.serving (Keeps-refl (writer_contents g.W.Write.contents c.loop-number.out)) reads taken.2;
    }

pub returns-clause-serves : goal.returns-clause-serves
returns-clause-serves g c =
    serving_over g.H.Sum.sum_of c.args.setting.now c.args.version c.args.session.now c.loop-number.session (g.B.Blob.life c.args.blob.now) (g.B.Blob.life c.loop-number.blob) (g.B.Cause.sync_failed c.loop-number.blob) (reader_remaining g.R.Read.remaining c.args.input.now)
    (reader_remaining g.R.Read.remaining c.loop-number.input) (writer_contents g.W.Write.contents c.args.out.now) (writer_contents g.W.Write.contents c.loop-number.out) c.loop-number.fault c.loop-number.number c.loop-number.invariant.serving
