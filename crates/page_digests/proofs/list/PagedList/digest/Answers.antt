use Rattle.std.proofs.Common.{◌<◌, ◌≤◌, ◌+◌, ◌*◌, ℕ, subst, sym, refl}
use Rattle.std.specs.Prelude.{Ok, Err}
use Rattle.std.proofs.lemmas.Result.{err_from_is_err_and}
use Rattle.page_digests.specs.Lists.{DigestGoes, ListState, list_over}
use Rattle.page_digests.specs.Pages.{list_len}
use Rattle.page_digests.proofs.ListReads.{digest_lost, digest_read, digest_within}
use Rattle.page_digests.proofs.list.PagedList.digest.Goals as goal

pub read-requires : goal.read-requires
read-requires g c =
    subst (λ (n : ℕ). c.args.i * 32 + 32 ≤ n) (sym c.self.invariant.len)
    (subst (λ (s : ListState). c.args.i * 32 + 32 ≤ list_len s.page_size s.seal.len) (sym c.self.view_is)
    (digest_within c.args.self.now.page_size c.args.self.now.seal.len c.args.i c.requires.positive c.requires.within))

pub returns-in_err-read : goal.returns-in_err-read
returns-in_err-read g c =
    let p = err_from_is_err_and c.from_residual.result c.from_residual.ensures.1 in
    let within : c.args.i * c.self.inside.list.page_size < c.self.inside.seal.len =
    subst (λ (s : ListState). c.args.i * s.page_size < s.seal.len) (sym c.self.view_is) c.requires.within in
    rw (p.1, p.2) (subst (λ (s : ListState). DigestGoes g.D.Digest.digest_of c.args.i s (list_over c.self.inside.seal c.read.new.self) (Err c.in_err-read.field-0.0)) c.self.view_is
    (digest_lost g.D.Digest.digest_of g.met.D.Digest.sized c.self.inside.seal c.self.inside.list c.self.invariant c.args.i c.read.new.self _ c.read.new.bytes c.in_err-read.field-0.0 refl within c.in_err-read.ensures))

pub returns : goal.returns
returns g c =
    let within : c.args.i * c.self.inside.list.page_size < c.self.inside.seal.len =
    subst (λ (s : ListState). c.args.i * s.page_size < s.seal.len) (sym c.self.view_is) c.requires.within in
    subst (λ (s : ListState). DigestGoes g.D.Digest.digest_of c.args.i s (list_over c.self.inside.seal c.read.new.self) (Ok c.read.new.bytes)) c.self.view_is
    (digest_read g.D.Digest.digest_of g.met.D.Digest.sized c.self.inside.seal c.self.inside.list c.self.invariant c.args.i c.read.new.self _ c.read.new.bytes refl within c.in_ok-read.ensures)
