use Rattle.std.proofs.Common.{◌≡◌, ◌∙◌, ◌+◌, ◌∷◌, List, ℕ, sym, ap, subst, length, true, false, rules}
use Rattle.std.specs.Prelude.{is_some, Bool, ◌&&◌, take, drop}
use Rattle.std.specs.List.{sum}
use Rattle.session.specs.declared.steps.Reply.{Reply}
use Rattle.session.specs.declared.steps.Step.TheVariants.{Append}
use Rattle.protocol.specs.Answer.{IsAnswerWith}
use Rattle.protocol.specs.Serve.{IsAnswer, records_payload, steps_then}
use Rattle.protocol.specs.Taking.{IsAppendReply, WritesAnswer}
use Rattle.protocol.specs.Together.{tells_records, lengths_in, lengths_size, record_lengths}
use Rattle.protocol.specs.declared.request.Request.TheVariants.{Records}
use Rattle.protocol.specs.declared.version.Version.TheVariants.{Two}
use Rattle.protocol.proofs.Appended.{bytes_after, records_reply}
use Rattle.protocol.proofs.Requested.{no_record_steps, record_answers, record_steps, runs_request, unreadable, writer_there}
use Rattle.protocol.proofs.Taken.{writes_as}
use Rattle.protocol.proofs.taking.take_records.Goals as goal

pub returns-in_default-clause-takes : goal.returns-in_default-clause-takes
returns-in_default-clause-takes g c =
    let none : tells_records c.args.fields.items ≡ false = ap tells_records (sym c.deref.ensures.value) ∙ sym c.record_lengths.ensures.tells ∙ ap is_some c.in_default.is in
    unreadable g.H.Sum.sum_of c.args.setting.now (Records c.args.fields c.args.then) c.args.session.now (g.B.Blob.life c.args.blob.now) (g.B.Cause.sync_failed c.args.blob.now) (g.W.Write.contents c.args.out.now) (g.W.Write.contents c.tell_unreadable.new.out) c.tell_unreadable.result
    (ap (λ (b : Bool). b && true) c.requires.may) (no_record_steps c.args.setting.now c.args.fields c.args.then none) none c.tell_unreadable.ensures

pub answer_records-written-requires-clause-at : goal.answer_records-written-requires-clause-at
answer_records-written-requires-clause-at g c =
    let fields = c.args.fields.items in
    let lengths = c.in-Some.lengths.now in
    let are : tells_records fields ≡ true = ap tells_records (sym c.deref.ensures.value) ∙ sym c.record_lengths.ensures.tells ∙ ap is_some c.in-Some.is in
    let is : lengths ≡ take (lengths_size fields) (drop 4 fields) = search rules in
    let tail : c.in_ok-bytes.bytes.items ≡ drop (4 + length lengths) fields = search rules in
    let all : IsAppendReply (sum (lengths_in lengths)) c.append_then.new.replies.items =
    records_reply g.H.Sum.sum_of fields lengths c.in_ok-bytes.bytes (steps_then c.args.then) c.append_then.new.replies.items c.args.session.now c.append_then.new.session c.args.cache.now c.append_then.new.cache (g.B.Blob.life c.args.blob.now) (g.B.Blob.life c.append_then.new.blob)
    are is (bytes_after fields lengths c.in_ok-bytes.bytes.items are is tail) c.in_ok-append_then.ensures.runs in
    subst (λ (rs : List Reply). IsAppendReply (sum (lengths_in lengths)) rs) (sym c.deref-3.ensures.value) all

pub returns-clause-takes : goal.returns-clause-takes
returns-clause-takes g c =
    let fields = c.args.fields.items in
    let lengths = c.in-Some.lengths.now in
    let bytes = c.in_ok-bytes.bytes in
    let replies = c.append_then.new.replies.items in
    let now = c.append_then.new.session in
    let out = g.W.Write.contents c.args.out.now in
    let written = g.W.Write.contents c.answer_records-written.new.out in
    let are : tells_records fields ≡ true = ap tells_records (sym c.deref.ensures.value) ∙ sym c.record_lengths.ensures.tells ∙ ap is_some c.in-Some.is in
    let is : lengths ≡ take (lengths_size fields) (drop 4 fields) = search rules in
    let tail : bytes.items ≡ drop (4 + length lengths) fields = search rules in
    let content = bytes_after fields lengths bytes.items are is tail in
    let failed = g.B.Cause.sync_failed c.append_then.new.blob in
    let there = writer_there c.is_some-has_writer.result c.size.result now c.is_some-has_writer.ensures c.size.ensures in
    let payload = records_payload (record_lengths fields) replies in
    let told : WritesAnswer (IsAnswerWith (records_payload (lengths_in lengths) c.deref-3.result.now) c.deref-3.result.now c.is_some-has_writer.result failed) out written c.answer_records-written.result =
    subst (λ (b : Bool). WritesAnswer (IsAnswerWith (records_payload (lengths_in lengths) c.deref-3.result.now) c.deref-3.result.now c.is_some-has_writer.result b) out written c.answer_records-written.result) c.failed_sync-failed.ensures c.answer_records-written.ensures in
    let wrote : WritesAnswer (IsAnswerWith payload replies (is_some now.writer) failed) out written c.answer_records-written.result =
    subst (λ (b : Bool). WritesAnswer (IsAnswerWith payload replies b failed) out written c.answer_records-written.result) there
    (subst (λ (rs : List Reply). WritesAnswer (IsAnswerWith (records_payload (record_lengths fields) rs) rs c.is_some-has_writer.result failed) out written c.answer_records-written.result) c.deref-3.ensures.value
    (subst (λ (ls : List ℕ). WritesAnswer (IsAnswerWith (records_payload (lengths_in ls) c.deref-3.result.now) c.deref-3.result.now c.is_some-has_writer.result failed) out written c.answer_records-written.result) is told)) in
    runs_request g.H.Sum.sum_of c.args.setting.now Two (Records c.args.fields c.args.then) (Append bytes ∷ steps_then c.args.then) c.args.session.now now c.args.cache.now c.append_then.new.cache (g.B.Blob.life c.args.blob.now) (g.B.Blob.life c.append_then.new.blob) failed replies out written c.answer_records-written.result c.finish.result
    (ap (λ (b : Bool). b && true) c.requires.may) (record_steps c.args.setting.now c.args.fields bytes c.args.then are content) c.in_ok-append_then.ensures.runs
    (writes_as (IsAnswerWith payload replies (is_some now.writer) failed) (IsAnswer Two (Records c.args.fields c.args.then) replies now failed) out written c.answer_records-written.result
    (λ answer given. record_answers c.args.fields c.args.then replies now failed answer are given) wrote) c.finish.ensures.told
