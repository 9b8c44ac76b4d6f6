use Rattle.std.specs.Prelude.{◌≡◌, ◌+◌, ◌++◌, List, drop, slice_index_or, take}
use Rattle.std.proofs.Common.{subst}
use Rattle.segments.specs.PagedReads.{PagedSegmentState}
use Rattle.segments.proofs.Recents.{taken_at}
use Rattle.segments.proofs.recent.Recent.take.Goals as goal

pub returns-in-Some : goal.returns-in-Some
returns-in-Some g c =
    let k = c.in-Some.place in
    let p = c.remove.result in
    taken_at c.args.number c.args.seal.now c.args.marks_root c.args.self.now c.remove.new.self.items k p c.in-Some.ensures.within
    (subst (λ (l : List PagedSegmentState). p ≡ slice_index_or l k p) c.self.view_is c.remove.ensures.value)
    (subst (λ (l : List PagedSegmentState). c.remove.new.self.items ≡ take k l ++ drop (k + 1) l) c.self.view_is c.remove.ensures.by_index.2)
    (c.in-Some.ensures.number p) (c.in-Some.ensures.of p) (c.in-Some.ensures.marks p)
