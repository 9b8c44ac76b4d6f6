use Rattle.std.proofs.Common.{◌∙◌, ◌∷◌, ℕ, List, sym, ap, subst, arith, drop, suc}
use Rattle.std.specs.Prelude.{Option}
use Rattle.session.specs.declared.steps.Reply.{Reply}
use Rattle.protocol.specs.Answer.{AppendsRefusal, AppendsRefusalPart, advice_byte, told_status}
use Rattle.std.proofs.lemmas.List.{length-drop}
use Rattle.std.proofs.Math.Seq.{drop-cons}
use Rattle.protocol.proofs.Taken.{no_refusal, refusal_here, told_in_part}
use Rattle.protocol.proofs.refusal.tell_refusal.Goals as goal

pub returns-then-status-ne0 : goal.returns-then-status-ne0
returns-then-status-ne0 g c =
    let l = c.loop-reply in
    let reply = c.reply-item.result in (
      l.taken,
      reply,
      refusal_here l.taken reply (drop l.reply-index c.args.replies.now) (drop (suc l.reply-index) c.args.replies.now) c.args.replies.now
          (drop-cons c.args.replies.now l.reply-index reply c.loop-reply-test.true ∙ ap (λ (r : Reply). r ∷ drop (suc l.reply-index) c.args.replies.now) (sym c.reply-item.is)) (omega (arith, c.status-status.ensures, c.if-status-ne0.true)) l.invariant.rest,
      subst (λ (o : Option (List ℕ)). AppendsRefusal (told_status reply c.args.sync_failed) (advice_byte reply c.args.has_writer c.args.sync_failed) l.taken o (g.W.Write.contents c.write_told.new.out)) l.invariant.same
          (subst (λ (n : ℕ). AppendsRefusal n (advice_byte reply c.args.has_writer c.args.sync_failed) l.taken (g.W.Write.contents l.out) (g.W.Write.contents c.write_told.new.out)) c.told_status-told.ensures
          (subst (λ (n : ℕ). AppendsRefusal c.told_status-told.result n l.taken (g.W.Write.contents l.out) (g.W.Write.contents c.write_told.new.out)) c.advice-advice.ensures c.in_ok-write_told.ensures.tells)),
    )

pub returns-in_err-write_told : goal.returns-in_err-write_told
returns-in_err-write_told g c =
    let l = c.loop-reply in
    let reply = c.reply-item.result in
    let old = g.W.Write.contents c.args.out.now in
    let new = g.W.Write.contents c.write_told.new.out in
    let why = c.in_err-write_told.ensures.failed in
    told_in_part c.args.replies.now c.args.has_writer c.args.sync_failed old new l.taken reply c.in_err-write_told.field-0.0 c.from_residual.result c.from_residual.ensures.1
    (refusal_here l.taken reply (drop l.reply-index c.args.replies.now) (drop (suc l.reply-index) c.args.replies.now) c.args.replies.now
    (drop-cons c.args.replies.now l.reply-index reply c.loop-reply-test.true ∙ ap (λ (r : Reply). r ∷ drop (suc l.reply-index) c.args.replies.now) (sym c.reply-item.is)) (omega (arith, c.status-status.ensures, c.if-status-ne0.true)) l.invariant.rest)
    why.0
    (subst (λ (o : Option (List ℕ)). AppendsRefusalPart (told_status reply c.args.sync_failed) (advice_byte reply c.args.has_writer c.args.sync_failed) l.taken o new) l.invariant.same
    (subst (λ (n : ℕ). AppendsRefusalPart n (advice_byte reply c.args.has_writer c.args.sync_failed) l.taken (g.W.Write.contents l.out) new) c.told_status-told.ensures
    (subst (λ (n : ℕ). AppendsRefusalPart c.told_status-told.result n l.taken (g.W.Write.contents l.out) new) c.advice-advice.ensures why.1)))

pub returns : goal.returns
returns g c =
    let l = c.loop-reply in
    (no_refusal l.taken (drop l.reply-index c.args.replies.now) c.args.replies.now (length-drop l.reply-index c.args.replies.now ∙ omega (arith, c.loop-reply-test.false)) l.invariant.rest, l.invariant.same)
