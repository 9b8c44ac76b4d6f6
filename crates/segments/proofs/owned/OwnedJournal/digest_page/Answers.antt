use Rattle.std.specs.Prelude.{◌≡◌, ◌*◌, ℕ, Ok, drop, length}
use Rattle.std.proofs.Common.{ap, ap₂, sym, ◌∙◌, subst, arith, take_at}
use Rattle.page_digests.specs.Seals.{EachIsByte}
use Rattle.segments.specs.SegmentLevels.{GoesOnWith}
use Rattle.segments.specs.Owned.{OwnedContentGoes, OwnedState}
use Rattle.segments.proofs.Ahead.{marks_sized, page_ahead, page_costs, page_not_ahead, read_there}
use Rattle.segments.proofs.Digested.{read_is}
use Rattle.segments.proofs.owned.OwnedJournal.digest_page.Goals as goal

pub returns-in_err-read_content-clause-costs : goal.returns-in_err-read_content-clause-costs
returns-in_err-read_content-clause-costs g c =
    page_costs g.H.Sum.sum_of g.R.Sum.sum_of c.args.self.now c.read_content-2.new.self c.args.n c.get.result (length c.deref_mut.result.now) c.requires.owned
    (c.get.ensures.value ∙ ap (λ (o : OwnedState). o.page_size) c.read_content.view_is) (ap length c.deref_mut.ensures.value ∙ c.requires.buffer) c.read_content-2.ensures.costs

pub returns-in_err-take_page-clause-costs : goal.returns-in_err-take_page-clause-costs
returns-in_err-take_page-clause-costs g c =
    page_costs g.H.Sum.sum_of g.R.Sum.sum_of c.args.self.now c.read_content-2.new.self c.args.n c.get.result (length c.deref_mut.result.now) c.requires.owned
    (c.get.ensures.value ∙ ap (λ (o : OwnedState). o.page_size) c.read_content.view_is) (ap length c.deref_mut.ensures.value ∙ c.requires.buffer) c.read_content-2.ensures.costs

pub returns-clause-costs : goal.returns-clause-costs
returns-clause-costs g c =
    page_costs g.H.Sum.sum_of g.R.Sum.sum_of c.args.self.now c.read_content-2.new.self c.args.n c.get.result (length c.deref_mut.result.now) c.requires.owned
    (c.get.ensures.value ∙ ap (λ (o : OwnedState). o.page_size) c.read_content.view_is) (ap length c.deref_mut.ensures.value ∙ c.requires.buffer) c.read_content-2.ensures.costs

pub take_page-requires-clause-whole : goal.take_page-requires-clause-whole
take_page-requires-clause-whole g c =
    let sum = g.H.Sum.sum_of in
    let own = g.R.Sum.sum_of in
    let d = g.D.Digest.digest_of in
    let s = c.args.self.now in
    let t = c.read_content-2.new.self in
    let P = s.page_size in
    let pages : c.get.result ≡ P = c.get.ensures.value ∙ ap (λ (o : OwnedState). o.page_size) c.read_content.view_is in
    let before = c.deref_mut.result.now in
    let after = c.read_content-2.new.bytes in
    let u = c.in_ok-read_content.field-0 in
    let read = subst (λ (k : ℕ). OwnedContentGoes (c.args.n * k) before after s t (Ok u)) pages c.in_ok-read_content.ensures.goes in
    let len : length before ≡ P = ap length c.deref_mut.ensures.value ∙ c.requires.buffer in
    let filled : length after ≡ c.args.page.now.len = omega (arith, (read_is (c.args.n * P) before after s t u read).1, c.deref_mut.ensures.len) in
    let same = take_at after (drop (length after) c.args.page.now.items) c.args.page.now.len filled in
    let sized = marks_sized d s c.args.digesting.now (read_there (c.args.n * P) before after s t u read) c.requires.digested in
    let long : length c.deref-2.result.now ≡ length after = ap length (c.deref-2.ensures.value ∙ same) in
    let filled_by = (read_is (c.args.n * P) before after s t u read).1 in
    long ∙ filled_by ∙ len ∙ sym sized

pub take_page-requires-clause-fits : goal.take_page-requires-clause-fits
take_page-requires-clause-fits g c =
    let sum = g.H.Sum.sum_of in
    let own = g.R.Sum.sum_of in
    let d = g.D.Digest.digest_of in
    let s = c.args.self.now in
    let t = c.read_content-2.new.self in
    let P = s.page_size in
    let pages : c.get.result ≡ P = c.get.ensures.value ∙ ap (λ (o : OwnedState). o.page_size) c.read_content.view_is in
    let before = c.deref_mut.result.now in
    let after = c.read_content-2.new.bytes in
    let u = c.in_ok-read_content.field-0 in
    let read = subst (λ (k : ℕ). OwnedContentGoes (c.args.n * k) before after s t (Ok u)) pages c.in_ok-read_content.ensures.goes in
    let len : length before ≡ P = ap length c.deref_mut.ensures.value ∙ c.requires.buffer in
    let filled : length after ≡ c.args.page.now.len = omega (arith, (read_is (c.args.n * P) before after s t u read).1, c.deref_mut.ensures.len) in
    let same = take_at after (drop (length after) c.args.page.now.items) c.args.page.now.len filled in
    let sized = marks_sized d s c.args.digesting.now (read_there (c.args.n * P) before after s t u read) c.requires.digested in
    let long : length c.deref-2.result.now ≡ length after = ap length (c.deref-2.ensures.value ∙ same) in
    let filled_by = (read_is (c.args.n * P) before after s t u read).1 in
    let place : c.args.digesting.now.digested.pages * c.args.digesting.now.marked.page_size ≡ c.args.n * P = ap₂ (λ (k p : ℕ). k * p) c.requires.next sized in
    omega (arith, place, long, filled_by, len, c.requires.whole, c.size.ensures, c.size.type_inv)

pub returns-clause-digested : goal.returns-clause-digested
returns-clause-digested g c =
    let sum = g.H.Sum.sum_of in
    let own = g.R.Sum.sum_of in
    let d = g.D.Digest.digest_of in
    let s = c.args.self.now in
    let t = c.read_content-2.new.self in
    let P = s.page_size in
    let pages : c.get.result ≡ P = c.get.ensures.value ∙ ap (λ (o : OwnedState). o.page_size) c.read_content.view_is in
    let before = c.deref_mut.result.now in
    let after = c.read_content-2.new.bytes in
    let u = c.in_ok-read_content.field-0 in
    let read = subst (λ (k : ℕ). OwnedContentGoes (c.args.n * k) before after s t (Ok u)) pages c.in_ok-read_content.ensures.goes in
    let len : length before ≡ P = ap length c.deref_mut.ensures.value ∙ c.requires.buffer in
    let filled : length after ≡ c.args.page.now.len = omega (arith, (read_is (c.args.n * P) before after s t u read).1, c.deref_mut.ensures.len) in
    let same = take_at after (drop (length after) c.args.page.now.items) c.args.page.now.len filled in
    let taken = subst (λ page. GoesOnWith d page c.args.digesting.now c.take_page.new.self) (c.deref-2.ensures.value ∙ same) c.in_ok-take_page.ensures.2 in
    page_ahead sum own d c.args.n s t before after c.args.digesting.now c.take_page.new.self u c.requires.owned c.read_content-2.ensures.leaves read len c.requires.whole
    c.requires.next c.requires.digested taken c.in_ok-take_page.ensures.0 (subst EachIsByte (c.deref.ensures.value ∙ same) c.are_bytes.ensures)

pub returns-in_err-take_page-clause-digested : goal.returns-in_err-take_page-clause-digested
returns-in_err-take_page-clause-digested g c =
    let sum = g.H.Sum.sum_of in
    let own = g.R.Sum.sum_of in
    let d = g.D.Digest.digest_of in
    let s = c.args.self.now in
    let t = c.read_content-2.new.self in
    let P = s.page_size in
    let pages : c.get.result ≡ P = c.get.ensures.value ∙ ap (λ (o : OwnedState). o.page_size) c.read_content.view_is in
    let before = c.deref_mut.result.now in
    let after = c.read_content-2.new.bytes in
    let u = c.in_ok-read_content.field-0 in
    let read = subst (λ (k : ℕ). OwnedContentGoes (c.args.n * k) before after s t (Ok u)) pages c.in_ok-read_content.ensures.goes in
    let len : length before ≡ P = ap length c.deref_mut.ensures.value ∙ c.requires.buffer in
    let filled : length after ≡ c.args.page.now.len = omega (arith, (read_is (c.args.n * P) before after s t u read).1, c.deref_mut.ensures.len) in
    let same = take_at after (drop (length after) c.args.page.now.items) c.args.page.now.len filled in
    let taken = subst (λ page. GoesOnWith d page c.args.digesting.now c.take_page.new.self) (c.deref-2.ensures.value ∙ same) c.in_err-take_page.ensures.2 in
    page_not_ahead sum own d c.args.n s t before after c.args.digesting.now c.take_page.new.self u c.requires.owned c.read_content-2.ensures.leaves read len c.requires.whole
    c.requires.next c.requires.digested taken c.in_err-take_page.ensures.0
