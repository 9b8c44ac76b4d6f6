use Rattle.std.proofs.Common.{◌≡◌, ◌≤◌, ◌/◌, ◌∙◌, ap, arith, ℕ}
use Rattle.segments.specs.Owned.{OwnedState, owned_size}
use Rattle.segments.proofs.Ahead.{ahead_done, asks_few, leaves_after, leaves_before, pages_few, whole_pages}
use Rattle.segments.proofs.Digested.{size_there, there_is}
use Rattle.segments.proofs.Joining.{reads_start}
use Rattle.segments.proofs.owned.OwnedJournal.digest_ahead.Goals as goal

pub returns-in_default-clause-leaves : goal.returns-in_default-clause-leaves
returns-in_default-clause-leaves g c = reads_start g.H.Sum.sum_of g.R.Sum.sum_of c.args.self.now c.requires.owned

pub digest_pages-result-requires-clause-whole : goal.digest_pages-result-requires-clause-whole
digest_pages-result-requires-clause-whole g c =
    let s = c.args.self.now in
    let size : c.size.result ≡ owned_size s.journal = size_there _ s c.in-Some.journal c.size.result c.self.view_is c.in-Some.is c.size.ensures in
    let sized : c.get.result ≡ s.page_size = c.get.ensures.value ∙ ap (λ (o : OwnedState). o.page_size) c.self.view_is in
    whole_pages s c.take_digesting-digesting.new.self 0 c.get.result c.size.result c.min-end.result c.take_digesting-digesting.ensures.taken sized size (omega (arith, c.min-end.ensures))

pub returns-clause-goes : goal.returns-clause-goes
returns-clause-goes g c =
    let s = c.args.self.now in
    let size : c.size.result ≡ owned_size s.journal = size_there _ s c.in-Some.journal c.size.result c.self.view_is c.in-Some.is c.size.ensures in
    let sized : c.get.result ≡ s.page_size = c.get.ensures.value ∙ ap (λ (o : OwnedState). o.page_size) c.self.view_is in
    let full : c.size.result / c.get.result ≡ owned_size s.journal / s.page_size = ap (λ (n : ℕ). n / c.get.result) size ∙ ap (λ (P : ℕ). owned_size s.journal / P) sized in
    let fits : c.size.result / c.get.result ≤ c.size.result = pages_few c.get.result c.size.result c.get.ensures.nonzero in
    let end = c.min-end.ensures in
    ahead_done c.args.most s c.take_digesting-digesting.new.self c.digest_pages-result.new.self c.keep_digesting.new.self c.take_digesting-digesting.result.digested.pages _ c.min-end.result c.digest_pages-result.result
    c.take_digesting-digesting.ensures.taken c.keep_digesting.ensures (there_is _ s c.in-Some.journal c.self.view_is c.in-Some.is) c.take_digesting-digesting.ensures.pages
    c.digest_pages-result.ensures.further c.digest_pages-result.ensures.few (omega (arith, c.pages.ensures, end, c.saturating_add.ensures))
    (omega (arith, full, fits, c.size.type_inv, c.pages.ensures, end, c.saturating_add.ensures, c.take_digesting-digesting.ensures.pages)) c.digest_pages-result.ensures.all c.digest_pages-result.ensures.goes

pub returns-clause-leaves : goal.returns-clause-leaves
returns-clause-leaves g c =
    let sum = g.H.Sum.sum_of in
    let own = g.R.Sum.sum_of in
    leaves_after sum own c.args.self.now c.digest_pages-result.new.self c.keep_digesting.new.self _ c.keep_digesting.ensures
    (leaves_before sum own c.args.self.now c.take_digesting-digesting.new.self c.digest_pages-result.new.self 0 c.take_digesting-digesting.ensures.taken c.digest_pages-result.ensures.leaves)

pub returns-clause-costs : goal.returns-clause-costs
returns-clause-costs g c =
    asks_few c.args.self.now c.take_digesting-digesting.new.self c.digest_pages-result.new.self c.keep_digesting.new.self _ c.min-end.result c.take_digesting-digesting.result.digested.pages c.args.most
    c.take_digesting-digesting.ensures.taken c.keep_digesting.ensures (omega (arith, c.pages.ensures, c.min-end.ensures)) c.digest_pages-result.ensures.costs
