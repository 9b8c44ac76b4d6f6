use Rattle.std.proofs.Common.{◌<◌, subst}
use Rattle.segments.specs.Marking.{MarkingState}
use Rattle.segments.proofs.Pushes.{page_takes}
use Rattle.segments.proofs.marking.Marking.take_page.Goals as goal

pub returns : goal.returns
returns c =
    let positive : 0 < c.args.self.now.page_size = subst (λ (v : MarkingState). 0 < v.page_size) c.self.view_is c.self.invariant.positive in
    page_takes c.args.page.now c.args.self.now c.push_page.new.self c.push_page.result c.requires.whole positive c.push_page.ensures
