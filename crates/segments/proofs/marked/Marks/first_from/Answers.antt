use Rattle.std.proofs.Common.{◌≡◌, ◌<◌, ◌+◌, ◌*◌, ◌∙◌, ℕ, ap₂, subst, sym, refl, arith}
use Rattle.std.proofs.lemmas.Result.{err_from_is_err_and}
use Rattle.page_digests.specs.Pages.{pages_of_len}
use Rattle.page_digests.proofs.Paging.{page_within}
use Rattle.segments.specs.MarkReads.{MarksState}
use Rattle.segments.specs.declared.marked.Begin.{Begin}
use Rattle.segments.proofs.MarksRead.{ArePartsOf, parts_of, seek_begins, seek_ends, seek_fails, seek_fails_at_once, seek_more, seek_reads}
use Rattle.segments.proofs.marked.Marks.first_from.Goals as goal

pub loop-mark-init : goal.loop-mark-init
loop-mark-init g c =
    let m : MarksState = record { len = c.self.inside.len; root = c.self.inside.root; bytes = c.self.inside.bytes } in
    let is : ArePartsOf c.self.inside.page_size c.self.inside.len c.args.self.now = parts_of g.D.Digest.digest_of c.self.inside.page_size m c.args.self.now c.self.invariant c.self.view_is in
    seek_begins g.D.Digest.digest_of c.args.page c.args.self.now c.mark.new.self c.in_ok-mark.mark is.positive c.requires c.in_ok-mark.ensures

pub returns-in_err-mark : goal.returns-in_err-mark
returns-in_err-mark g c =
    let m : MarksState = record { len = c.self.inside.len; root = c.self.inside.root; bytes = c.self.inside.bytes } in
    let is : ArePartsOf c.self.inside.page_size c.self.inside.len c.args.self.now = parts_of g.D.Digest.digest_of c.self.inside.page_size m c.args.self.now c.self.invariant c.self.view_is in
    let p = err_from_is_err_and c.from_residual.result c.from_residual.ensures.1 in
    rw (p.1, p.2) (seek_fails_at_once g.D.Digest.digest_of c.args.page c.args.self.now c.mark.new.self c.in_err-mark.field-0.0 is.positive c.in_err-mark.ensures)

pub mark-requires-in-loop-mark : goal.mark-requires-in-loop-mark
mark-requires-in-loop-mark g c =
    let m : MarksState = record { len = c.self.inside.len; root = c.self.inside.root; bytes = c.self.inside.bytes } in
    let is : ArePartsOf c.self.inside.page_size c.self.inside.len c.args.self.now = parts_of g.D.Digest.digest_of c.self.inside.page_size m c.args.self.now c.self.invariant c.self.view_is in
    let pages : pages_of_len c.self.inside.page_size c.self.inside.len ≡ pages_of_len c.args.self.now.bytes.page_size c.args.self.now.len = ap₂ pages_of_len is.page_size is.len in
    let on = c.leads_on.ensures.on c.loop-mark-test.true in
    seek_reads g.D.Digest.digest_of c.args.page c.args.self.now c.loop-mark.self c.loop-mark.i c.loop-mark.mark is.positive (omega (arith, on.1, pages, c.div_ceil-count.ensures)) c.loop-mark.invariant

pub returns-in_err-mark-2 : goal.returns-in_err-mark-2
returns-in_err-mark-2 g c =
    let m : MarksState = record { len = c.self.inside.len; root = c.self.inside.root; bytes = c.self.inside.bytes } in
    let is : ArePartsOf c.self.inside.page_size c.self.inside.len c.args.self.now = parts_of g.D.Digest.digest_of c.self.inside.page_size m c.args.self.now c.self.invariant c.self.view_is in
    let p = err_from_is_err_and c.from_residual-in_err-mark-2.result c.from_residual-in_err-mark-2.ensures.1 in
    rw (p.1, p.2) (seek_fails g.D.Digest.digest_of c.args.page c.args.self.now c.loop-mark.self c.mark-in-loop-mark.new.self c.loop-mark.i c.loop-mark.mark c.in_err-mark-2.field-0.0 is.positive c.loop-mark.invariant
    c.in_err-mark-2.ensures)

pub loop-mark-preserved : goal.loop-mark-preserved
loop-mark-preserved g c =
    let m : MarksState = record { len = c.self.inside.len; root = c.self.inside.root; bytes = c.self.inside.bytes } in
    let is : ArePartsOf c.self.inside.page_size c.self.inside.len c.args.self.now = parts_of g.D.Digest.digest_of c.self.inside.page_size m c.args.self.now c.self.invariant c.self.view_is in
    let pages : pages_of_len c.self.inside.page_size c.self.inside.len ≡ pages_of_len c.args.self.now.bytes.page_size c.args.self.now.len = ap₂ pages_of_len is.page_size is.len in
    let on = c.leads_on.ensures.on c.loop-mark-test.true in
    seek_more g.D.Digest.digest_of c.args.page c.args.self.now c.loop-mark.self c.mark-in-loop-mark.new.self c.loop-mark.i c.loop-mark.mark c.in_ok-mark-2.mark is.positive (on.0 ∙ is.page_size)
    (omega (arith, on.1, pages, c.div_ceil-count.ensures)) c.loop-mark.invariant c.in_ok-mark-2.ensures

pub overflow_mul-result : goal.overflow_mul-result
overflow_mul-result g c =
    let m : MarksState = record { len = c.self.inside.len; root = c.self.inside.root; bytes = c.self.inside.bytes } in
    let is : ArePartsOf c.self.inside.page_size c.self.inside.len c.args.self.now = parts_of g.D.Digest.digest_of c.self.inside.page_size m c.args.self.now c.self.invariant c.self.view_is in
    let within : c.loop-mark.i * c.args.self.now.bytes.page_size < c.args.self.now.len =
    page_within c.args.self.now.bytes.page_size c.args.self.now.len c.loop-mark.i is.positive c.loop-mark.invariant.within in
    let here : c.loop-mark.i * c.self.inside.page_size < c.args.self.now.len = subst (λ (P : ℕ). c.loop-mark.i * P < c.args.self.now.len) (sym is.page_size) within in
    omega (arith, here, is.fits)

pub overflow_add-result : goal.overflow_add-result
overflow_add-result g c =
    let m : MarksState = record { len = c.self.inside.len; root = c.self.inside.root; bytes = c.self.inside.bytes } in
    let is : ArePartsOf c.self.inside.page_size c.self.inside.len c.args.self.now = parts_of g.D.Digest.digest_of c.self.inside.page_size m c.args.self.now c.self.invariant c.self.view_is in
    let within : c.loop-mark.i * c.args.self.now.bytes.page_size < c.args.self.now.len =
    page_within c.args.self.now.bytes.page_size c.args.self.now.len c.loop-mark.i is.positive c.loop-mark.invariant.within in
    let here : c.loop-mark.i * c.self.inside.page_size < c.args.self.now.len = subst (λ (P : ℕ). c.loop-mark.i * P < c.args.self.now.len) (sym is.page_size) within in
    omega (arith, here, is.fits, c.from.ensures, c.loop-mark.invariant.near)

pub returns : goal.returns
returns g c =
    let m : MarksState = record { len = c.self.inside.len; root = c.self.inside.root; bytes = c.self.inside.bytes } in
    let is : ArePartsOf c.self.inside.page_size c.self.inside.len c.args.self.now = parts_of g.D.Digest.digest_of c.self.inside.page_size m c.args.self.now c.self.invariant c.self.view_is in
    let pages : pages_of_len c.self.inside.page_size c.self.inside.len ≡ pages_of_len c.args.self.now.bytes.page_size c.args.self.now.len = ap₂ pages_of_len is.page_size is.len in
    let skip : c.from.result ≡ c.loop-mark.mark.skip = omega (arith, c.from.ensures) in
    let there : c.loop-mark.i * c.self.inside.page_size + c.from.result ≡ c.loop-mark.i * c.args.self.now.bytes.page_size + c.loop-mark.mark.skip =
    ap₂ (λ (P k : ℕ). c.loop-mark.i * P + k) is.page_size skip in
    let b : Begin = record { number = c.loop-mark.mark.before; offset = c.loop-mark.i * c.self.inside.page_size + c.from.result } in
    seek_ends g.D.Digest.digest_of c.args.page c.args.self.now c.loop-mark.self c.loop-mark.i c.loop-mark.mark b is.positive
    (λ whole. let last = c.leads_on.ensures.last c.loop-mark-test.false (whole ∙ sym is.page_size) in omega (arith, last, pages, c.div_ceil-count.ensures)) refl there c.loop-mark.invariant
