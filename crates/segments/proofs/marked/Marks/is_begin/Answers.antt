use Rattle.std.proofs.Common.{◌≡◌, ◌↔◌, nat_eq, eq-eqb}
use Rattle.std.specs.Prelude.{IsTrue}
use Rattle.std.proofs.lemmas.Bool.{eqb-true}
use Rattle.segments.specs.MarkReads.{MarksState}
use Rattle.segments.proofs.Behind.{begin_is}
use Rattle.segments.proofs.MarksRead.{ArePartsOf, parts_of}
use Rattle.segments.proofs.marked.Marks.is_begin.Goals as goal

pub returns : goal.returns
returns g c =
    let m : MarksState = record { len = c.self.inside.len; root = c.self.inside.root; bytes = c.self.inside.bytes } in
    let is : ArePartsOf c.self.inside.page_size c.self.inside.len c.args.self.now = parts_of g.D.Digest.digest_of c.self.inside.page_size m c.args.self.now c.self.invariant c.self.view_is in
    let there = c.in_ok-first.first.offset in
    let says : IsTrue (nat_eq there c.args.offset) ↔ (there ≡ c.args.offset) = ((λ yes. eqb-true there c.args.offset yes), (λ same. eq-eqb there c.args.offset same)) in
    begin_is g.D.Digest.digest_of c.args.offset c.args.self.now c.first_behind.new.self c.args.content.now c.first_behind.new.content c.in_ok-first.first (nat_eq there c.args.offset) is.positive c.requires.within says
    c.in_ok-first.ensures
