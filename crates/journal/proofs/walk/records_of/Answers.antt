use Rattle.std.proofs.Common.{◌≡◌, ◌<◌, ◌+◌, ◌++◌, ◌∙◌, Ok, ℕ, List, length, length-drop, drop, refl, ap, ap₂, subst, arith}
use Rattle.std.specs.Prelude.{Option}
use Rattle.journal.specs.declared.frame.Found.{Found}
use Rattle.journal.specs.Frame.{frame_len, records, whole_frames}
use Rattle.journal.specs.Walk.{IsPassed, PassesFrame}
use Rattle.journal.proofs.Frames.{records-next, whole-next, records-end, whole-end}
use Rattle.journal.proofs.walk.records_of.Given.{Over}
use Rattle.journal.proofs.walk.records_of.Goals as goal
use Rattle.journal.proofs.walk.records_of.Goals.{Left-loop-offset, else-loop-offset-test, then-loop-offset-test+in_ok-frame+in_default}

pub loop-offset-init : goal.loop-offset-init
loop-offset-init g c =
    let held = c.args.content.bytes in
    let n = length (whole_frames held) in
    let same : 0 + n ≡ n = omega arith in
    record {
      rest = refl;
      found = ap (λ rs. rs ++ records g.R.Sum.sum_of held) c.new-found.ensures.items;
      whole = same;
      within = omega arith;
    }

pub next_frame-requires : goal.next_frame-requires
next_frame-requires g c =
    let held = c.args.content.bytes in
    let so_far = c.loop-offset.invariant in
    omega (arith, ap (λ (l : List ℕ). length l) so_far.rest, length-drop c.loop-offset.offset held, so_far.within, c.remaining-size.ensures, c.remaining-size.type_inv)

pub loop-offset-preserved : goal.loop-offset-preserved
loop-offset-preserved g c =
    let own = g.R.Sum.sum_of in
    let held = c.args.content.bytes in
    let now = c.next_frame.new.hand.bytes in
    let offset = c.loop-offset.offset in
    let f = c.in-Some.frame in
    let so_far = c.loop-offset.invariant in
    let here : IsPassed own held offset now f.bytes f.end =
    subst (λ (o : Option Found). PassesFrame own held offset now (Ok o)) c.in-Some.is (c.in_ok-frame.ensures.passes held so_far.rest so_far.within) in
    let n = frame_len (drop offset held) in
    let lt : offset < length held = omega (arith, c.loop-offset-test.true, c.remaining-size.ensures) in
    record {
      rest = here.rest;
      found = ap₂ (λ rs e. rs ++ records own (drop e held)) c.in_ok-push_record.ensures.adds here.after
          ∙ records-next own held offset n c.loop-offset.found.items f.bytes lt refl here.held so_far.found;
      whole = ap (λ e. e + length (whole_frames (drop e held))) here.after
          ∙ whole-next held offset n (omega (arith, here.after, here.within)) refl so_far.whole;
      within = here.within;
    }

-- no whole frame is left where the loop ends
ended : (g : Over) (c : Left-loop-offset g) → length c.args.content.bytes < c.loop-offset.offset + frame_len (drop c.loop-offset.offset c.args.content.bytes)
ended g c = elim c.loop-offset-test.branch [
  | else-loop-offset-test w ↦ omega (arith, w.loop-offset-test.false, c.remaining-size.ensures)
  | then-loop-offset-test+in_ok-frame+in_default w ↦
      subst (λ (o : Option Found). PassesFrame g.R.Sum.sum_of c.args.content.bytes c.loop-offset.offset w.next_frame.new.hand.bytes (Ok o)) w.in_default.is
      (w.in_ok-frame.ensures.passes c.args.content.bytes c.loop-offset.invariant.rest c.loop-offset.invariant.within)
]

pub returns-clause-records : goal.returns-clause-records
returns-clause-records g c = records-end g.R.Sum.sum_of c.args.content.bytes c.loop-offset.offset c.loop-offset.found.items (ended g (goal.at.returns-clause-records g c).Left-loop-offset) c.loop-offset.invariant.found

pub returns-clause-whole : goal.returns-clause-whole
returns-clause-whole g c = whole-end c.args.content.bytes c.loop-offset.offset (ended g (goal.at.returns-clause-whole g c).Left-loop-offset) c.loop-offset.invariant.whole
