use Rattle.std.proofs.Common.{◌≡◌, ◌≤◌, ◌+◌, length, take, drop, arith, ap, ◌∙◌, sym, length-take}
use Rattle.std.proofs.lemmas.Grind.{common_steps}
use Rattle.std.proofs.lemmas.List.{drop-drop}
use Rattle.paged_read.specs.Hand.{payloads_at}
use Rattle.paged_read.proofs.Hands.{copied_more}
use Rattle.paged_read.proofs.hand.copied.Goals as goal

pub loop-at-preserved : goal.loop-at-preserved
loop-at-preserved c =
    let P = c.args.page_size in
    let all = c.args.runs.now.items in
    let from = c.args.from in
    let at = c.loop-at.at in
    let told = payloads_at P all from.run from.start from.left in
    let here = payloads_at P all at.run at.start at.left in
    let bytes = c.loop-at.bytes.items in
    let now = c.extend_from_slice.new.self.items in
    let so_far = c.loop-at.invariant in
    let more = c.loop-at-test.true in
    let size = c.chunk-chunk.ensures.len in
    let least = c.min-len.ensures in
    let added = c.in_ok-extend_from_slice.ensures.items in
    let len = c.min-len.result in
    let done = length bytes in
    let rest : here ≡ drop done told = so_far.rest (omega (arith, more, c.len.ensures)) in
    let less : len ≤ at.left = omega (arith, least, size, c.len-in-loop-at.ensures) in
    let copied : now ≡ take (done + len) told =
    added ∙ copied_more told bytes c.chunk-chunk.result.now here at.left len so_far.copied rest (c.chunk-chunk.ensures.bytes P) less in
    let part : length now ≡ done + len =
    let sizes = ap (λ l. length l) copied in
    let there = c.requires.there in
    omega (arith, sizes, least, more, there, c.len.ensures, length-take (done + len) told) in
    record {
      run = c.after-at.ensures.run.1;
      cursor = c.after-at.ensures.cursor;
      within = omega (arith, part, least, more);
      copied = copied ∙ ap (λ n. take n told) (sym part);
      rest = λ less.
          let whole : len ≡ at.left = omega (arith, part, least, less, size, c.len.ensures) in
          sym c.after-at.ensures.bytes ∙ ap (λ l. drop at.left l) rest ∙ drop-drop at.left done told ∙ ap (λ n. drop n told) (omega (arith, part, whole));
    }

pub after-at-requires-clause-within : goal.after-at-requires-clause-within
after-at-requires-clause-within c = grind (arith, common_steps)

pub loop-at-smaller : goal.loop-at-smaller
loop-at-smaller c = grind (arith, common_steps)
