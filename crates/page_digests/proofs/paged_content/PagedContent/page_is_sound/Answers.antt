use Rattle.std.proofs.lemmas.Result.{err_from_is_err_and}
use Rattle.page_digests.proofs.ContentReads.{sound_lost, sound_no, sound_page, sound_paged, sound_refused, sound_yes}
use Rattle.page_digests.proofs.paged_content.PagedContent.page_is_sound.Goals as goal

pub returns-in_err-digest : goal.returns-in_err-digest
returns-in_err-digest g c =
    let p = err_from_is_err_and c.from_residual.result c.from_residual.ensures.1 in
    rw (p.1, p.2) (sound_lost g.D.Digest.digest_of c.self.inside.list c.digest.new.self c.self.inside.seal c.self.inside.page_size c.args.number c.self.inside.cached c.self.inside.page.items _ c.args.self.now
    c.in_err-digest.field-0.0 c.self.view_is c.self.invariant c.in_err-digest.ensures)

pub invariant_of-self-2 : goal.invariant_of-self-2
invariant_of-self-2 g c =
    sound_paged g.D.Digest.digest_of c.self.inside.list c.digest.new.self c.self.inside.seal c.self.inside.page_size c.args.number c.self.inside.cached c.self.inside.page.items
    c.read_compared.new.bytes.items c.self.invariant c.in_ok-digest.ensures.same
    (sound_page g.D.Digest.digest_of c.self.inside.list c.digest.new.self c.self.inside.seal c.self.inside.page_size c.args.number c.page_len-len.result c.self.inside.cached c.self.inside.page.items
    c.in_ok-digest.digest c.read_compared.new.bytes.items _ _ c.args.self.now c.self.view_is c.self.invariant c.in_ok-digest.ensures c.requires c.page_len-len.ensures
    (rw c.if-not-is_sound.false at c.in_ok-is_sound.ensures))

pub returns : goal.returns
returns g c =
    sound_yes g.D.Digest.digest_of c.self.inside.list c.digest.new.self c.self.inside.seal c.self.inside.page_size c.args.number c.self.inside.cached c.self.inside.page.items c.in_ok-digest.digest
    c.read_compared.new.bytes.items _ _ c.args.self.now c.self.view_is c.self.invariant c.in_ok-digest.ensures
    (sound_page g.D.Digest.digest_of c.self.inside.list c.digest.new.self c.self.inside.seal c.self.inside.page_size c.args.number c.page_len-len.result c.self.inside.cached c.self.inside.page.items
    c.in_ok-digest.digest c.read_compared.new.bytes.items _ _ c.args.self.now c.self.view_is c.self.invariant c.in_ok-digest.ensures c.requires c.page_len-len.ensures
    (rw c.if-not-is_sound.false at c.in_ok-is_sound.ensures))
    c.in_ok-is_sound.ensures.0

pub returns-then-not-is_sound : goal.returns-then-not-is_sound
returns-then-not-is_sound g c =
    sound_no g.D.Digest.digest_of c.self.inside.list c.digest.new.self c.self.inside.seal c.self.inside.page_size c.args.number c.page_len-len.result c.self.inside.cached c.self.inside.page.items
    c.in_ok-digest.digest c.read_compared.new.bytes.items _ _ c.args.self.now c.self.view_is c.self.invariant c.in_ok-digest.ensures c.page_len-len.ensures
    (rw c.if-not-is_sound.true at c.in_ok-is_sound.ensures)

pub returns-in_err-is_sound : goal.returns-in_err-is_sound
returns-in_err-is_sound g c =
    let p = err_from_is_err_and c.from_residual-in_err-is_sound.result c.from_residual-in_err-is_sound.ensures.1 in
    rw (p.1, p.2) (sound_refused g.D.Digest.digest_of c.self.inside.list c.digest.new.self c.self.inside.seal c.self.inside.page_size c.args.number c.page_len-len.result c.self.inside.cached c.self.inside.page.items c.in_ok-digest.digest
    c.read_compared.new.bytes.items _ _ c.args.self.now c.in_err-is_sound.field-0.0 c.self.view_is c.self.invariant c.in_ok-digest.ensures c.page_len-len.ensures c.in_err-is_sound.ensures)
