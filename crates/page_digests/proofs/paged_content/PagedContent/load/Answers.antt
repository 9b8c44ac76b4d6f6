use Rattle.std.proofs.Common.{◌∙◌, sym, true≢false}
use Rattle.std.proofs.lemmas.Result.{err_from_is_err_and}
use Rattle.page_digests.proofs.ContentReads.{page_lost, page_loaded, page_wrong}
use Rattle.page_digests.proofs.paged_content.PagedContent.load.Goals as goal

pub returns-then-is_sound : goal.returns-then-is_sound
returns-then-is_sound g c =
    page_loaded g.D.Digest.digest_of c.args.number c.args.self.now c.page_is_sound.new.self (λ held. true≢false (sym (c.holds.ensures.1 held) ∙ c.if-holds.false))
    (rw c.if-is_sound.true at c.in_ok-is_sound.ensures)

pub returns-else-is_sound : goal.returns-else-is_sound
returns-else-is_sound g c =
    page_wrong g.D.Digest.digest_of c.args.number c.args.self.now c.page_is_sound.new.self (λ held. true≢false (sym (c.holds.ensures.1 held) ∙ c.if-holds.false))
    (rw c.if-is_sound.false at c.in_ok-is_sound.ensures)

pub returns-in_err-is_sound : goal.returns-in_err-is_sound
returns-in_err-is_sound g c =
    let p = err_from_is_err_and c.from_residual.result c.from_residual.ensures.1 in
    rw (p.1, p.2) (page_lost g.D.Digest.digest_of c.args.number c.args.self.now c.page_is_sound.new.self c.in_err-is_sound.field-0.0 (λ held. true≢false (sym (c.holds.ensures.1 held) ∙ c.if-holds.false)) c.in_err-is_sound.ensures)
