use Rattle.std.proofs.Common.{◌<◌, ◌+◌, ◌-◌, ◌/◌, refl, arith}
use Rattle.std.proofs.lemmas.Result.{err_from_is_err_and}
use Rattle.segments.specs.MarkReads.{MarksState}
use Rattle.segments.proofs.Halving.{halves_down, halves_up, halving_ends, halving_fails, halving_reads}
use Rattle.segments.proofs.MarksRead.{ArePartsOf, parts_of}
use Rattle.segments.proofs.marked.Marks.nth.Goals as goal

pub mark-requires : goal.mark-requires
mark-requires g c =
    let m : MarksState = record { len = c.self.inside.len; root = c.self.inside.root; bytes = c.self.inside.bytes } in
    let is : ArePartsOf c.self.inside.page_size c.self.inside.len c.args.self.now = parts_of g.D.Digest.digest_of c.self.inside.page_size m c.args.self.now c.self.invariant c.self.view_is in
    let low = c.loop-low.low in
    let high = c.loop-low.high in
    let below : low + (high - low) / 2 < high = omega (arith, c.loop-low-test.true) in
    halving_reads g.D.Digest.digest_of c.args.n c.args.self.now c.loop-low.self low high (low + (high - low) / 2) is.positive below c.loop-low.invariant

pub returns-in_err-mark : goal.returns-in_err-mark
returns-in_err-mark g c =
    let m : MarksState = record { len = c.self.inside.len; root = c.self.inside.root; bytes = c.self.inside.bytes } in
    let is : ArePartsOf c.self.inside.page_size c.self.inside.len c.args.self.now = parts_of g.D.Digest.digest_of c.self.inside.page_size m c.args.self.now c.self.invariant c.self.view_is in
    let low = c.loop-low.low in
    let high = c.loop-low.high in
    let p = err_from_is_err_and c.from_residual.result c.from_residual.ensures.1 in
    rw (p.1, p.2) (halving_fails g.D.Digest.digest_of c.args.n c.args.self.now c.loop-low.self c.mark.new.self low high (low + (high - low) / 2) c.in_err-mark.field-0.0 is.positive c.loop-low-test.true c.loop-low.invariant
    c.in_err-mark.ensures)

pub loop-low-preserved-then-mark-n : goal.loop-low-preserved-then-mark-n
loop-low-preserved-then-mark-n g c =
    let m : MarksState = record { len = c.self.inside.len; root = c.self.inside.root; bytes = c.self.inside.bytes } in
    let is : ArePartsOf c.self.inside.page_size c.self.inside.len c.args.self.now = parts_of g.D.Digest.digest_of c.self.inside.page_size m c.args.self.now c.self.invariant c.self.view_is in
    let low = c.loop-low.low in
    let high = c.loop-low.high in
    halves_up g.D.Digest.digest_of c.args.n c.args.self.now c.loop-low.self c.mark.new.self low high (low + (high - low) / 2) c.in_ok-mark.mark is.positive c.loop-low-test.true refl c.if-mark-n.true c.loop-low.invariant
    c.in_ok-mark.ensures

pub loop-low-preserved : goal.loop-low-preserved
loop-low-preserved g c =
    let m : MarksState = record { len = c.self.inside.len; root = c.self.inside.root; bytes = c.self.inside.bytes } in
    let is : ArePartsOf c.self.inside.page_size c.self.inside.len c.args.self.now = parts_of g.D.Digest.digest_of c.self.inside.page_size m c.args.self.now c.self.invariant c.self.view_is in
    let low = c.loop-low.low in
    let high = c.loop-low.high in
    halves_down g.D.Digest.digest_of c.args.n c.args.self.now c.loop-low.self c.mark.new.self low high (low + (high - low) / 2) c.in_ok-mark.mark is.positive c.loop-low-test.true refl c.if-mark-n.false c.loop-low.invariant
    c.in_ok-mark.ensures

pub returns : goal.returns
returns g c =
    let m : MarksState = record { len = c.self.inside.len; root = c.self.inside.root; bytes = c.self.inside.bytes } in
    let is : ArePartsOf c.self.inside.page_size c.self.inside.len c.args.self.now = parts_of g.D.Digest.digest_of c.self.inside.page_size m c.args.self.now c.self.invariant c.self.view_is in
    halving_ends g.D.Digest.digest_of c.args.n c.args.self.now c.loop-low.self c.loop-low.low c.loop-low.high is.positive c.loop-low-test.false c.loop-low.invariant
