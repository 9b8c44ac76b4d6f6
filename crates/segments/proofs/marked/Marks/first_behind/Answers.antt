use Rattle.std.proofs.Common.{◌≡◌, ◌+◌, ◌*◌, ◌/◌, ◌∙◌, ℕ, ap, ap₂, min, refl, arith}
use Rattle.std.proofs.lemmas.Result.{err_from_is_err_and}
use Rattle.page_digests.specs.Pages.{pages_of_len}
use Rattle.segments.specs.MarkReads.{MarksState}
use Rattle.segments.specs.declared.marked.Begin.{Begin}
use Rattle.segments.proofs.Behind.{behind_at_once, behind_by_frames, behind_unmarked, behind_unread}
use Rattle.segments.proofs.MarksRead.{ArePartsOf, parts_of}
use Rattle.segments.proofs.marked.Marks.first_behind.Goals as goal

pub returns-in_err-first : goal.returns-in_err-first
returns-in_err-first g c =
    let m : MarksState = record { len = c.self.inside.len; root = c.self.inside.root; bytes = c.self.inside.bytes } in
    let is : ArePartsOf c.self.inside.page_size c.self.inside.len c.args.self.now = parts_of g.D.Digest.digest_of c.self.inside.page_size m c.args.self.now c.self.invariant c.self.view_is in
    let page : c.args.offset / c.self.inside.page_size ≡ c.args.offset / c.args.self.now.bytes.page_size = ap (λ (P : ℕ). c.args.offset / P) is.page_size in
    let p = err_from_is_err_and c.from_residual.result c.from_residual.ensures.1 in
    rw (p.1, p.2) (behind_unmarked g.D.Digest.digest_of c.args.offset (c.args.offset / c.self.inside.page_size) c.args.self.now c.first_from.new.self c.args.content.now c.in_err-first.field-0.0 page c.in_err-first.ensures)

pub returns-then-offset-first : goal.returns-then-offset-first
returns-then-offset-first g c =
    let m : MarksState = record { len = c.self.inside.len; root = c.self.inside.root; bytes = c.self.inside.bytes } in
    let is : ArePartsOf c.self.inside.page_size c.self.inside.len c.args.self.now = parts_of g.D.Digest.digest_of c.self.inside.page_size m c.args.self.now c.self.invariant c.self.view_is in
    let page : c.args.offset / c.self.inside.page_size ≡ c.args.offset / c.args.self.now.bytes.page_size = ap (λ (P : ℕ). c.args.offset / P) is.page_size in
    behind_at_once g.D.Digest.digest_of c.args.offset (c.args.offset / c.self.inside.page_size) c.args.self.now c.first_from.new.self c.args.content.now c.in_ok-first.first is.positive page c.if-offset-first.true
    c.in_ok-first.ensures

pub returns-in_err-frames : goal.returns-in_err-frames
returns-in_err-frames g c =
    let m : MarksState = record { len = c.self.inside.len; root = c.self.inside.root; bytes = c.self.inside.bytes } in
    let is : ArePartsOf c.self.inside.page_size c.self.inside.len c.args.self.now = parts_of g.D.Digest.digest_of c.self.inside.page_size m c.args.self.now c.self.invariant c.self.view_is in
    let page : c.args.offset / c.self.inside.page_size ≡ c.args.offset / c.args.self.now.bytes.page_size = ap (λ (P : ℕ). c.args.offset / P) is.page_size in
    let p = err_from_is_err_and c.from_residual-in_err-frames.result c.from_residual-in_err-frames.ensures.1 in
    rw (p.1, p.2) (behind_unread g.D.Digest.digest_of c.args.offset (c.args.offset / c.self.inside.page_size) c.args.self.now c.first_from.new.self c.args.content.now c.pass_to.new.content c.in_ok-first.first
    c.in_err-frames.field-0.0 is.positive page c.requires.page_size c.in_ok-first.ensures c.in_err-frames.ensures)

pub returns : goal.returns
returns g c =
    let m : MarksState = record { len = c.self.inside.len; root = c.self.inside.root; bytes = c.self.inside.bytes } in
    let is : ArePartsOf c.self.inside.page_size c.self.inside.len c.args.self.now = parts_of g.D.Digest.digest_of c.self.inside.page_size m c.args.self.now c.self.invariant c.self.view_is in
    let page : c.args.offset / c.self.inside.page_size ≡ c.args.offset / c.args.self.now.bytes.page_size = ap (λ (P : ℕ). c.args.offset / P) is.page_size in
    let end = c.div_ceil.result * c.self.inside.page_size in
    let count : c.div_ceil.result ≡ pages_of_len c.self.inside.page_size c.self.inside.len = c.div_ceil.ensures in
    let ends : end ≡ pages_of_len c.args.self.now.bytes.page_size c.args.self.now.len * c.args.self.now.bytes.page_size =
    ap₂ (λ (n P : ℕ). n * P) (count ∙ ap₂ pages_of_len is.page_size is.len) is.page_size in
    let place : c.min.result ≡ min c.in_ok-frames.there end = omega (arith, c.min.ensures) in
    let b : Begin = record { number = c.in_ok-first.first.number + c.in_ok-frames.frames; offset = c.min.result } in
    behind_by_frames g.D.Digest.digest_of c.args.offset (c.args.offset / c.self.inside.page_size) c.in_ok-frames.frames c.in_ok-frames.there end c.args.self.now c.first_from.new.self c.args.content.now c.pass_to.new.content
    c.in_ok-first.first b is.positive page c.requires.within ends c.requires.page_size c.if-offset-first.false refl place c.in_ok-first.ensures c.in_ok-frames.ensures
