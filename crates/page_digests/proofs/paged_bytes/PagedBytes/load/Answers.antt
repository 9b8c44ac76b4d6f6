use Rattle.std.proofs.Common.{◌∙◌, ap, sym, true≢false}
use Rattle.page_digests.specs.declared.held_pages.TheConstants.{HELD}
use Rattle.page_digests.specs.PagedBytes.{BytesState}
use Rattle.page_digests.specs.Pages.{digest_at, page_len}
use Rattle.page_digests.proofs.Loading.{fetched_holds, fetched_loaded, held_holds, held_loaded}
use Rattle.page_digests.proofs.paged_bytes.PagedBytes.load.Goals as goal

pub returns-then-branch-clause-loads : goal.returns-then-branch-clause-loads
returns-then-branch-clause-loads g c =
    held_loaded g.D.Digest.digest_of HELD c.args.number c.digest_at-digest.result c.page_len-len.result c.args.self.now c.turn_to.new.self (λ held. true≢false (sym (c.holds.ensures.1 held) ∙ c.if-holds.false))
    (rw c.if-branch.true at c.in_ok-turn_to.ensures)

pub returns-then-branch-clause-holds : goal.returns-then-branch-clause-holds
returns-then-branch-clause-holds g c =
    held_holds g.D.Digest.digest_of HELD c.args.number c.digest_at-digest.result c.page_len-len.result c.args.self.now c.turn_to.new.self (λ held. true≢false (sym (c.holds.ensures.1 held) ∙ c.if-holds.false))
    (rw c.if-branch.true at c.in_ok-turn_to.ensures)
    (c.digest_at-digest.ensures ∙ ap (digest_at c.args.number) c.deref.ensures.value ∙ ap (λ (v : BytesState). digest_at c.args.number v.top) c.self.view_is)
    (c.page_len-len.ensures ∙ ap (λ (v : BytesState). page_len v.page_size v.len c.args.number) c.self.view_is)

pub returns-clause-loads : goal.returns-clause-loads
returns-clause-loads g c =
    fetched_loaded g.D.Digest.digest_of HELD c.args.number c.digest_at-digest.result c.page_len-len.result c.args.self.now c.turn_to.new.self c.fetch.new.self c.fetch.result (λ held. true≢false (sym (c.holds.ensures.1 held) ∙ c.if-holds.false))
    (rw c.if-branch.false at c.in_ok-turn_to.ensures) c.fetch.ensures

pub returns-clause-holds : goal.returns-clause-holds
returns-clause-holds g c =
    fetched_holds g.D.Digest.digest_of HELD c.args.number c.digest_at-digest.result c.page_len-len.result c.args.self.now c.turn_to.new.self c.fetch.new.self c.fetch.result (λ held. true≢false (sym (c.holds.ensures.1 held) ∙ c.if-holds.false))
    (rw c.if-branch.false at c.in_ok-turn_to.ensures) c.fetch.ensures
    (c.digest_at-digest.ensures ∙ ap (digest_at c.args.number) c.deref.ensures.value ∙ ap (λ (v : BytesState). digest_at c.args.number v.top) c.self.view_is)
    (c.page_len-len.ensures ∙ ap (λ (v : BytesState). page_len v.page_size v.len c.args.number) c.self.view_is)
