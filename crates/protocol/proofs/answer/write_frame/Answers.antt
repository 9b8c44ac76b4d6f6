use Rattle.std.proofs.Common.{◌≡◌, ◌+◌, ◌++◌, ◌∙◌, [], ◌∷◌, length, length-append, refl, sym, arith, rules}
use Rattle.std.proofs.lemmas.Grind.{common_steps}
use Rattle.protocol.specs.declared.stop.Stop.TheVariants.{LongAnswer}
use Rattle.std.proofs.KnownBytes.{Appends-trans}
use Rattle.protocol.specs.Answer.{IsLong, head_bytes}
use Rattle.protocol.proofs.Written.{frame_breaks, frame_ends, frame_stops, head_alone, long_unwritten}
use Rattle.protocol.proofs.answer.write_frame.Goals as goal

pub returns-in_err-len : goal.returns-in_err-len
returns-in_err-len g c =
    let payload = c.args.front.now ++ c.args.bytes.now in
    let is : c.in_err-len.field-0.0 ≡ LongAnswer = grind (arith, common_steps) in
    let long : IsLong (length payload) = grind (arith, common_steps) in
    long_unwritten c.args.status payload (g.W.Write.contents c.args.out.now) c.in_err-len.field-0.0 c.from_residual.result c.from_residual.ensures.1 is long

pub returns-in_err-write_head : goal.returns-in_err-write_head
returns-in_err-write_head g c =
    let payload = c.args.front.now ++ c.args.bytes.now in
    let long : c.in_ok-len.len ≡ length c.args.front.now + length c.args.bytes.now = search rules in
    frame_stops c.args.status c.in_ok-len.len payload (g.W.Write.contents c.args.out.now) (g.W.Write.contents c.write_head.new.out) c.in_err-write_head.field-0.0 c.from_residual-in_err-write_head.result c.from_residual-in_err-write_head.ensures.1
    (long ∙ sym (length-append c.args.front.now c.args.bytes.now)) c.in_err-write_head.ensures

pub returns-in_err-put : goal.returns-in_err-put
returns-in_err-put g c =
    let payload = c.args.front.now ++ c.args.bytes.now in
    let long : c.in_ok-len.len ≡ length c.args.front.now + length c.args.bytes.now = search rules in
    let len = c.in_ok-len.len in
    let old = g.W.Write.contents c.args.out.now in
    let mid = g.W.Write.contents c.write_head.new.out in
    frame_breaks c.args.status len payload [] c.args.front.now c.args.bytes.now old mid (g.W.Write.contents c.put.new.out) c.in_err-put.field-0.0 c.from_residual-in_err-put.result c.from_residual-in_err-put.ensures.1
    (long ∙ sym (length-append c.args.front.now c.args.bytes.now)) refl (head_alone (head_bytes c.args.status len) old mid c.in_ok-write_head.ensures) c.in_err-put.ensures

pub returns : goal.returns
returns g c =
    let payload = c.args.front.now ++ c.args.bytes.now in
    let long : c.in_ok-len.len ≡ length c.args.front.now + length c.args.bytes.now = search rules in
    let len = c.in_ok-len.len in
    let old = g.W.Write.contents c.args.out.now in
    let mid = g.W.Write.contents c.write_head.new.out in
    let last = g.W.Write.contents c.put.new.out in
    frame_ends c.args.status len payload c.args.front.now c.args.bytes.now old last (g.W.Write.contents c.put-2.new.out) c.put-2.result
    (long ∙ sym (length-append c.args.front.now c.args.bytes.now)) refl (Appends-trans old mid last (head_bytes c.args.status len) c.args.front.now c.in_ok-write_head.ensures c.in_ok-put.ensures) c.put-2.ensures
