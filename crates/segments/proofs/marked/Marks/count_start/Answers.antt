use Rattle.std.proofs.lemmas.Result.{err_from_is_err_and}
use Rattle.segments.specs.MarkReads.{MarksState}
use Rattle.segments.proofs.MarksRead.{ArePartsOf, parts_of}
use Rattle.segments.proofs.NthBegins.{nth_within, start_page_fails, started}
use Rattle.segments.proofs.marked.Marks.count_start.Goals as goal

pub first_from-requires : goal.first_from-requires
first_from-requires g c = nth_within g.D.Digest.digest_of c.args.n c.in_ok-page.page c.args.self.now c.nth.new.self c.in_ok-page.ensures

pub returns-in_err-page : goal.returns-in_err-page
returns-in_err-page g c =
    let m : MarksState = record { len = c.self.inside.len; root = c.self.inside.root; bytes = c.self.inside.bytes } in
    let is : ArePartsOf c.self.inside.page_size c.self.inside.len c.args.self.now = parts_of g.D.Digest.digest_of c.self.inside.page_size m c.args.self.now c.self.invariant c.self.view_is in
    let p = err_from_is_err_and c.from_residual.result c.from_residual.ensures.1 in
    rw (p.1, p.2) (start_page_fails g.D.Digest.digest_of c.args.n c.args.self.now c.nth.new.self c.in_err-page.field-0.0 is.positive c.in_err-page.ensures)

pub returns : goal.returns
returns g c =
    let m : MarksState = record { len = c.self.inside.len; root = c.self.inside.root; bytes = c.self.inside.bytes } in
    let is : ArePartsOf c.self.inside.page_size c.self.inside.len c.args.self.now = parts_of g.D.Digest.digest_of c.self.inside.page_size m c.args.self.now c.self.invariant c.self.view_is in
    started g.D.Digest.digest_of c.args.n c.in_ok-page.page c.args.self.now c.nth.new.self c.first_from.new.self c.first_from.result is.positive c.in_ok-page.ensures c.first_from.ensures
