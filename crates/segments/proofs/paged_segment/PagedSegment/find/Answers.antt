use Rattle.std.specs.Prelude.{◌≡◌, ◌-◌, ℕ, Ok}
use Rattle.std.proofs.Common.{subst, sym, arith}
use Rattle.std.proofs.lemmas.Result.{err_from_is_err_and}
use Rattle.segments.specs.PagedReads.{CountStartGoes, PagedSegmentState}
use Rattle.segments.specs.Seeks.{CountGoes}
use Rattle.segments.proofs.SegmentMarks.{only_content_its}
use Rattle.segments.proofs.SegmentSearches.{found_from, not_counted}
use Rattle.segments.proofs.paged_segment.PagedSegment.find.Goals as goal

pub invariant_of-self : goal.invariant_of-self
invariant_of-self g c =
    let i : PagedSegmentState = record { number = c.self.inside.number; content = c.self.inside.content; is_settled = c.self.inside.is_settled; marks_root = c.self.inside.marks_root; marks = c.self.inside.marks; ended = c.self.inside.ended } in
    only_content_its g.D.Digest.digest_of i c.count_to.new.content i.is_settled c.count_to.ensures.same.seal c.count_to.ensures.same.page_size c.self.invariant

pub invariant_of-self-2 : goal.invariant_of-self-2
invariant_of-self-2 g c =
    let i : PagedSegmentState = record { number = c.self.inside.number; content = c.self.inside.content; is_settled = c.self.inside.is_settled; marks_root = c.self.inside.marks_root; marks = c.self.inside.marks; ended = c.self.inside.ended } in
    only_content_its g.D.Digest.digest_of i c.count_to.new.content i.is_settled c.count_to.ensures.same.seal c.count_to.ensures.same.page_size c.self.invariant

pub returns-in_err-left : goal.returns-in_err-left
returns-in_err-left g c =
    let i : PagedSegmentState = record { number = c.self.inside.number; content = c.self.inside.content; is_settled = c.self.inside.is_settled; marks_root = c.self.inside.marks_root; marks = c.self.inside.marks; ended = c.self.inside.ended } in
    let b = c.in_ok-start.start in
    let start = subst (λ (x : PagedSegmentState). CountStartGoes g.D.Digest.digest_of c.args.n c.args.self.now x (Ok b)) (sym c.self.view_is) c.in_ok-start.ensures in
    let p = err_from_is_err_and c.from_residual-in_err-left.result c.from_residual-in_err-left.ensures.1 in
    rw (p.1, p.2) (not_counted g.D.Digest.digest_of c.args.n c.saturating_sub-count.result c.args.self.now i b c.count_to.new.content c.in_err-left.field-0.0 start c.in_err-left.ensures)

pub returns : goal.returns
returns g c =
    let i : PagedSegmentState = record { number = c.self.inside.number; content = c.self.inside.content; is_settled = c.self.inside.is_settled; marks_root = c.self.inside.marks_root; marks = c.self.inside.marks; ended = c.self.inside.ended } in
    let b = c.in_ok-start.start in
    let left = c.in_ok-left.left in
    let there = c.in_ok-left.there in
    let start = subst (λ (x : PagedSegmentState). CountStartGoes g.D.Digest.digest_of c.args.n c.args.self.now x (Ok b)) (sym c.self.view_is) c.in_ok-start.ensures in
    let count : c.saturating_sub-count.result ≡ c.args.n - b.number = omega (arith, c.saturating_sub-count.ensures) in
    let counted = subst (λ (k : ℕ). CountGoes g.D.Digest.digest_of b.offset k i.content c.count_to.new.content (Ok (left, there))) count c.in_ok-left.ensures in
    found_from g.D.Digest.digest_of c.args.n left there c.len.result c.args.self.now i b c.count_to.new.content c.begin_at.result start counted c.len.ensures.len c.begin_at.ensures.found c.begin_at.ensures.some c.begin_at.ensures.none
