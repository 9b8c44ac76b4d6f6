use Rattle.std.specs.Prelude.{◌<◌, length}
use Rattle.std.proofs.Common.{◌∙◌, arith}
use Rattle.segments.proofs.Recents.{marked_at, numbered_at, sealed_at}
use Rattle.segments.proofs.recent.Recent.place_of.Goals as goal

pub returns-then-is_of-clause-number : goal.returns-then-is_of-clause-number
returns-then-is_of-clause-number g c =
    let l = c.deref-segment-items.result.now in
    let within : c.loop-place.place < length l = omega arith in
    numbered_at l c.args.self.now c.loop-place.place c.args.number c.segment-item.result (c.deref-segment-items.ensures.value ∙ c.self.view_is) within c.segment-item.is (c.is_of.ensures.number c.if-is_of.true)

pub returns-then-is_of-clause-of : goal.returns-then-is_of-clause-of
returns-then-is_of-clause-of g c =
    let l = c.deref-segment-items.result.now in
    let within : c.loop-place.place < length l = omega arith in
    sealed_at l c.args.self.now c.loop-place.place c.args.seal.now c.segment-item.result (c.deref-segment-items.ensures.value ∙ c.self.view_is) within c.segment-item.is (c.is_of.ensures.of c.if-is_of.true)

pub returns-then-is_of-clause-marks : goal.returns-then-is_of-clause-marks
returns-then-is_of-clause-marks g c =
    let l = c.deref-segment-items.result.now in
    let within : c.loop-place.place < length l = omega arith in
    marked_at l c.args.self.now c.loop-place.place c.args.marks_root c.segment-item.result (c.deref-segment-items.ensures.value ∙ c.self.view_is) within c.segment-item.is (c.is_of.ensures.marks c.if-is_of.true)
