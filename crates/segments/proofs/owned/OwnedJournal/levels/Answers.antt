use Rattle.std.specs.Prelude.{◌≡◌, ◌<◌, ◌*◌, ◌-◌, ◌/◌, ℕ, List, drop, length}
use Rattle.std.proofs.Common.{ap, sym, ◌∙◌, subst, arith, take_at}
use Rattle.page_digests.specs.Seals.{EachIsByte}
use Rattle.segments.specs.SegmentLevels.{FinishesSegment}
use Rattle.segments.specs.Owned.{OwnedReadLeaves, OwnedState, owned_size}
use Rattle.segments.proofs.Ahead.{leaves_before, levels_ahead, pages_fail, rest_fits, rest_less, whole_pages}
use Rattle.segments.proofs.Digested.{levels_refused, memory_failed, read_failed, read_is, size_there, there_is}
use Rattle.segments.proofs.Joining.{owned_joins}
use Rattle.segments.proofs.owned.OwnedJournal.levels.Given.{Over}
use Rattle.segments.proofs.owned.OwnedJournal.levels.Goals as goal
use Rattle.segments.proofs.owned.OwnedJournal.levels.Goals.{After-digest_pages}

-- the pages were read
before : (g : Over) (c : After-digest_pages g) → OwnedReadLeaves g.H.Sum.sum_of g.R.Sum.sum_of c.args.self.now c.digest_pages.new.self
before g c =
    leaves_before g.H.Sum.sum_of g.R.Sum.sum_of c.args.self.now c.take_digesting-digesting.new.self c.digest_pages.new.self 0 c.take_digesting-digesting.ensures.taken c.digest_pages.ensures.leaves

pub digest_pages-requires-clause-whole : goal.digest_pages-requires-clause-whole
digest_pages-requires-clause-whole g c =
    let s = c.args.self.now in
    let P = c.get-page_size.result in
    let size : c.size-size.result ≡ owned_size s.journal = size_there _ s c.in-Some.journal c.size-size.result c.self.view_is c.in-Some.is c.size-size.ensures in
    let sized : P ≡ s.page_size = c.get-page_size.ensures.value ∙ ap (λ (o : OwnedState). o.page_size) c.self.view_is in
    whole_pages s c.take_digesting-digesting.new.self 0 P c.size-size.result (c.size-size.result / P) c.take_digesting-digesting.ensures.taken sized size (omega arith)

pub returns-in_err-digest_pages-clause-goes : goal.returns-in_err-digest_pages-clause-goes
returns-in_err-digest_pages-clause-goes g c =
    let s = c.args.self.now in
    let a = c.digest_pages.new.self in
    levels_refused g.D.Digest.digest_of s a _ c.from_residual.result c.from_residual.ensures.1
    (pages_fail s c.take_digesting-digesting.new.self a 0 _ c.take_digesting-digesting.ensures.taken c.in_err-digest_pages.ensures.goes)

pub returns-in_err-resize-clause-goes : goal.returns-in_err-resize-clause-goes
returns-in_err-resize-clause-goes g c =
    let s = c.args.self.now in
    levels_refused g.D.Digest.digest_of s c.digest_pages.new.self _ c.from_residual-in_err-resize.result c.from_residual-in_err-resize.ensures.1
    (memory_failed s c.digest_pages.new.self (there_is _ s c.in-Some.journal c.self.view_is c.in-Some.is))

pub returns-in_err-read_content-clause-goes : goal.returns-in_err-read_content-clause-goes
returns-in_err-read_content-clause-goes g c =
    let s = c.args.self.now in
    let a = c.digest_pages.new.self in
    let b = c.read_content.new.self in
    let leaves = before g (goal.at.returns-in_err-read_content-clause-goes g c).After-digest_pages in
    levels_refused g.D.Digest.digest_of s b _ c.from_residual-in_err-read_content.result c.from_residual-in_err-read_content.ensures.1
    (read_failed _ c.deref_mut.result.now c.read_content.new.bytes s a b _ leaves.journal c.in_err-read_content.ensures.goes)

pub returns-in_err-finish-clause-goes : goal.returns-in_err-finish-clause-goes
returns-in_err-finish-clause-goes g c =
    let s = c.args.self.now in
    levels_refused g.D.Digest.digest_of s c.read_content.new.self _ c.from_residual-in_err-finish.result c.from_residual-in_err-finish.ensures.1
    (memory_failed s c.read_content.new.self (there_is _ s c.in-Some.journal c.self.view_is c.in-Some.is))

pub returns-in_err-digest_pages-clause-leaves : goal.returns-in_err-digest_pages-clause-leaves
returns-in_err-digest_pages-clause-leaves g c = before g (goal.at.returns-in_err-digest_pages-clause-leaves g c).After-digest_pages

pub returns-in_err-resize-clause-leaves : goal.returns-in_err-resize-clause-leaves
returns-in_err-resize-clause-leaves g c = before g (goal.at.returns-in_err-resize-clause-leaves g c).After-digest_pages

pub returns-in_err-read_content-clause-leaves : goal.returns-in_err-read_content-clause-leaves
returns-in_err-read_content-clause-leaves g c =
    owned_joins g.H.Sum.sum_of g.R.Sum.sum_of c.args.self.now c.digest_pages.new.self c.read_content.new.self (before g (goal.at.returns-in_err-read_content-clause-leaves g c).After-digest_pages) c.read_content.ensures.leaves

pub returns-in_err-finish-clause-leaves : goal.returns-in_err-finish-clause-leaves
returns-in_err-finish-clause-leaves g c =
    owned_joins g.H.Sum.sum_of g.R.Sum.sum_of c.args.self.now c.digest_pages.new.self c.read_content.new.self (before g (goal.at.returns-in_err-finish-clause-leaves g c).After-digest_pages) c.read_content.ensures.leaves

pub returns-clause-leaves : goal.returns-clause-leaves
returns-clause-leaves g c =
    owned_joins g.H.Sum.sum_of g.R.Sum.sum_of c.args.self.now c.digest_pages.new.self c.read_content.new.self (before g (goal.at.returns-clause-leaves g c).After-digest_pages) c.read_content.ensures.leaves

pub finish-requires-clause-short : goal.finish-requires-clause-short
finish-requires-clause-short g c =
    let sum = g.H.Sum.sum_of in
    let own = g.R.Sum.sum_of in
    let d = g.D.Digest.digest_of in
    let P = c.get-page_size.result in
    let s = c.args.self.now in
    let a = c.digest_pages.new.self in
    let b = c.read_content.new.self in
    let N = c.size-size.result / P in
    let leaves = before g (goal.at.finish-requires-clause-short g c).After-digest_pages in
    let there = there_is _ s c.in-Some.journal c.self.view_is c.in-Some.is in
    let size : c.size-size.result ≡ owned_size s.journal = size_there _ s c.in-Some.journal c.size-size.result c.self.view_is c.in-Some.is c.size-size.ensures in
    let sized : P ≡ s.page_size = c.get-page_size.ensures.value ∙ ap (λ (o : OwnedState). o.page_size) c.self.view_is in
    let full : N ≡ owned_size s.journal / P = ap (λ k. k / P) size in
    let len : length c.deref_mut.result.now ≡ owned_size s.journal - N * P = omega (arith, c.deref_mut.ensures.len, c.in_ok-resize.ensures.len, size) in
    let read = read_is (N * P) c.deref_mut.result.now c.read_content.new.bytes a b c.in_ok-read_content.field-0 c.in_ok-read_content.ensures.goes in
    let filled : length c.read_content.new.bytes ≡ c.resize.new.self.len = omega (arith, read.1, c.deref_mut.ensures.len) in
    let same = take_at c.read_content.new.bytes (drop (length c.read_content.new.bytes) c.resize.new.self.items) c.resize.new.self.len filled in
    let less = rest_less sum own d P N s a b c.deref_mut.result.now c.read_content.new.bytes c.digest_pages.new.digesting c.in_ok-read_content.field-0
    c.requires.owned leaves there c.digest_pages.ensures.digested sized c.get-page_size.ensures.nonzero full c.in_ok-digest_pages.ensures.all c.in_ok-read_content.ensures.goes len in
    subst (λ (rest : List ℕ). length rest < c.digest_pages.new.digesting.marked.page_size) (sym (c.deref-2.ensures.value ∙ same)) less

pub finish-requires-clause-fits : goal.finish-requires-clause-fits
finish-requires-clause-fits g c =
    let sum = g.H.Sum.sum_of in
    let own = g.R.Sum.sum_of in
    let d = g.D.Digest.digest_of in
    let P = c.get-page_size.result in
    let s = c.args.self.now in
    let a = c.digest_pages.new.self in
    let b = c.read_content.new.self in
    let N = c.size-size.result / P in
    let leaves = before g (goal.at.finish-requires-clause-fits g c).After-digest_pages in
    let there = there_is _ s c.in-Some.journal c.self.view_is c.in-Some.is in
    let size : c.size-size.result ≡ owned_size s.journal = size_there _ s c.in-Some.journal c.size-size.result c.self.view_is c.in-Some.is c.size-size.ensures in
    let sized : P ≡ s.page_size = c.get-page_size.ensures.value ∙ ap (λ (o : OwnedState). o.page_size) c.self.view_is in
    let full : N ≡ owned_size s.journal / P = ap (λ k. k / P) size in
    let len : length c.deref_mut.result.now ≡ owned_size s.journal - N * P = omega (arith, c.deref_mut.ensures.len, c.in_ok-resize.ensures.len, size) in
    let read = read_is (N * P) c.deref_mut.result.now c.read_content.new.bytes a b c.in_ok-read_content.field-0 c.in_ok-read_content.ensures.goes in
    let filled : length c.read_content.new.bytes ≡ c.resize.new.self.len = omega (arith, read.1, c.deref_mut.ensures.len) in
    let same = take_at c.read_content.new.bytes (drop (length c.read_content.new.bytes) c.resize.new.self.items) c.resize.new.self.len filled in
    let fits = rest_fits sum own d P N s a b c.deref_mut.result.now c.read_content.new.bytes c.digest_pages.new.digesting c.in_ok-read_content.field-0
    c.requires.owned leaves there c.digest_pages.ensures.digested sized c.get-page_size.ensures.nonzero full c.in_ok-digest_pages.ensures.all c.in_ok-read_content.ensures.goes len in
    let long : length c.deref-2.result.now ≡ length c.read_content.new.bytes = ap length (c.deref-2.ensures.value ∙ same) in
    omega (arith, fits, long, size, c.size-size.type_inv)

pub returns-clause-goes : goal.returns-clause-goes
returns-clause-goes g c =
    let sum = g.H.Sum.sum_of in
    let own = g.R.Sum.sum_of in
    let d = g.D.Digest.digest_of in
    let P = c.get-page_size.result in
    let s = c.args.self.now in
    let a = c.digest_pages.new.self in
    let b = c.read_content.new.self in
    let N = c.size-size.result / P in
    let leaves = before g (goal.at.returns-clause-goes g c).After-digest_pages in
    let there = there_is _ s c.in-Some.journal c.self.view_is c.in-Some.is in
    let size : c.size-size.result ≡ owned_size s.journal = size_there _ s c.in-Some.journal c.size-size.result c.self.view_is c.in-Some.is c.size-size.ensures in
    let sized : P ≡ s.page_size = c.get-page_size.ensures.value ∙ ap (λ (o : OwnedState). o.page_size) c.self.view_is in
    let full : N ≡ owned_size s.journal / P = ap (λ k. k / P) size in
    let len : length c.deref_mut.result.now ≡ owned_size s.journal - N * P = omega (arith, c.deref_mut.ensures.len, c.in_ok-resize.ensures.len, size) in
    let read = read_is (N * P) c.deref_mut.result.now c.read_content.new.bytes a b c.in_ok-read_content.field-0 c.in_ok-read_content.ensures.goes in
    let filled : length c.read_content.new.bytes ≡ c.resize.new.self.len = omega (arith, read.1, c.deref_mut.ensures.len) in
    let same = take_at c.read_content.new.bytes (drop (length c.read_content.new.bytes) c.resize.new.self.items) c.resize.new.self.len filled in
    let parts = levels_ahead sum own d P N s a b c.deref_mut.result.now c.read_content.new.bytes c.digest_pages.new.digesting c.in_ok-read_content.field-0
    c.requires.owned leaves there c.digest_pages.ensures.digested sized c.get-page_size.ensures.nonzero full c.in_ok-digest_pages.ensures.all c.in_ok-read_content.ensures.goes len c.in_ok-finish.field-0
    (subst EachIsByte (c.deref.ensures.value ∙ same) c.are_bytes.ensures)
    (subst (λ rest. FinishesSegment d rest c.digest_pages.new.digesting c.in_ok-finish.field-0) (c.deref-2.ensures.value ∙ same) c.in_ok-finish.ensures) in
    (there, parts.0, parts.1)
