use Rattle.std.proofs.Common.{◌⊎◌, inl, inr, ◌≤◌, ◌<◌, arith, ◌∙◌, refl, drop, sym}
use Rattle.paged_read.specs.Hand.{payloads_at}
use Rattle.paged_read.proofs.Hands.{some_left, step_passed, step_there, few_left, passed}
use Rattle.paged_read.proofs.hand.Cursor.passed.Goals as goal
use Rattle.paged_read.proofs.hand.Cursor.passed.Goals.{then-loop-at-test+else-at-more, else-loop-at-test}

pub loop-at-init : goal.loop-at-init
loop-at-init c = record {
  run = c.requires.run;
  cursor = c.requires.cursor;
  fits = c.requires.fits;
  there = c.requires.there;
  bytes = refl;
}

pub after-at-requires-clause-cursor : goal.after-at-requires-clause-cursor
after-at-requires-clause-cursor c = c.loop-at.invariant.cursor

pub after-at-requires-clause-within : goal.after-at-requires-clause-within
after-at-requires-clause-within c =
    let at = c.loop-at.at in
    let so_far = c.loop-at.invariant in
    some_left c.args.runs.now.items at.run at.start at.left so_far.run so_far.cursor
    c.loop-at-test.true

pub loop-at-smaller : goal.loop-at-smaller
loop-at-smaller c = let some = c.loop-at-test.true in let enough = c.if-at-more.true in
    omega (arith, some, enough)

pub loop-at-preserved : goal.loop-at-preserved
loop-at-preserved c =
    let at = c.loop-at.at in
    let next = c.after-at.result in
    let so_far = c.loop-at.invariant in
    let all = c.args.runs.now.items in
    let here = payloads_at c.args.page_size all at.run at.start at.left in
    let then = payloads_at c.args.page_size all next.run next.start next.left in
    let is = c.after-at.ensures.bytes in
    record {
      run = c.after-at.ensures.run.1;
      cursor = c.after-at.ensures.cursor;
      fits = c.after-at.ensures.fits;
      there = step_there here then at.left c.loop-at.more is so_far.there;
      bytes = step_passed here then at.left c.loop-at.more is c.if-at-more.true ∙ so_far.bytes;
    }

-- whether the loop ends after all, or in a page
few : (c : goal.After-struct_known-2-1) → (c.loop-at.at.left ≤ 0) ⊎ (c.loop-at.more < c.loop-at.at.left)
few c = elim c.loop-at-test.branch [
  | then-loop-at-test+else-at-more w ↦ inr w.if-at-more.false
  | else-loop-at-test w ↦ inl w.loop-at-test.false
]

pub overflow_add-result : goal.overflow_add-result
overflow_add-result c =
    let at = c.loop-at.at in
    let so_far = c.loop-at.invariant in
    let less = few_left c.args.page_size (drop at.run c.args.runs.now.items) at.start at.left
    c.loop-at.more so_far.cursor so_far.there (few c) in
    let enough = less.0 in
    let fits = so_far.fits in
    Prim.grind (arith, enough, fits)

pub overflow_sub-result : goal.overflow_sub-result
overflow_sub-result c =
    let at = c.loop-at.at in
    let so_far = c.loop-at.invariant in
    (few_left c.args.page_size (drop at.run c.args.runs.now.items) at.start at.left c.loop-at.more
    so_far.cursor so_far.there (elim c.loop-at-test.branch [
      | then-loop-at-test+else-at-more w ↦ inr w.if-at-more.false
      | else-loop-at-test w ↦ inl w.loop-at-test.false
    ])).0

pub returns-clause-bytes : goal.returns-clause-bytes
returns-clause-bytes c =
    let at = c.loop-at.at in
    let so_far = c.loop-at.invariant in
    let rest = drop at.run c.args.runs.now.items in
    let less = few_left c.args.page_size rest at.start at.left c.loop-at.more so_far.cursor
    so_far.there (elim c.loop-at-test.branch [
      | then-loop-at-test+else-at-more w ↦ inr w.if-at-more.false
      | else-loop-at-test w ↦ inl w.loop-at-test.false
    ]) in
    sym (passed c.args.page_size rest at.start at.left c.loop-at.more so_far.cursor less.1
    so_far.there)
    ∙ so_far.bytes
