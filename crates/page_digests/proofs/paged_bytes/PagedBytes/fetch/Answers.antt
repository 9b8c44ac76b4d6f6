use Rattle.std.proofs.lemmas.Result.{err_from_is_err_and}
use Rattle.page_digests.proofs.BytesReads.{page_fetched, page_refused, page_wrong}
use Rattle.page_digests.proofs.paged_bytes.PagedBytes.fetch.Goals as goal

pub returns-in_err-is_sound : goal.returns-in_err-is_sound
returns-in_err-is_sound g c =
    let p = err_from_is_err_and c.from_residual.result c.from_residual.ensures.1 in
    rw (p.1, p.2) (page_refused g.D.Digest.digest_of _ c.args.self.now c.args.number c.args.len c.args.digest.now c.read_compared.new.bytes.items _ c.in_err-is_sound.field-0.0 c.self.view_is
    c.requires.len c.in_err-is_sound.ensures)

pub returns-then-not-is_sound : goal.returns-then-not-is_sound
returns-then-not-is_sound g c =
    page_wrong g.D.Digest.digest_of _ c.args.self.now c.args.number c.args.len c.args.digest.now c.read_compared.new.bytes.items _ c.self.view_is
    c.requires.len c.requires.digest (rw c.if-not-is_sound.true at c.in_ok-is_sound.ensures)

pub returns : goal.returns
returns g c =
    page_fetched g.D.Digest.digest_of _ c.args.self.now c.args.number c.args.len c.args.digest.now c.read_compared.new.bytes.items _ c.self.view_is (rw c.if-not-is_sound.false at c.in_ok-is_sound.ensures)
