use Rattle.std.proofs.Common.{◌≡◌, ◌≤◌, ◌+◌, ◌-◌, ◌++◌, length, take, drop, arith, ap, ◌∙◌, length-take, length-drop}
use Rattle.std.proofs.lemmas.Grind.{common_steps}
use Rattle.std.proofs.lemmas.List.{drop-drop}
use Rattle.std.proofs.lemmas.Slice.{take-put_mid}
use Rattle.paged_read.proofs.Hands.{overwritten, sliced_more}
use Rattle.paged_read.proofs.hand.Hand.try_copy_to_slice.Goals as goal

pub loop-done-preserved : goal.loop-done-preserved
loop-done-preserved c =
    let done = c.loop-done.done in
    let len = c.min-len.result in
    let out = c.loop-done.out in
    let all = c.args.self.now.bytes in
    let here = c.loop-done.self.bytes in
    let chunk = c.chunk-chunk.result.now in
    let part = c.copy_from_slice.new.self in
    let so_far = c.loop-done.invariant in
    let least = c.min-len.ensures in
    let more = c.loop-done-test.true in
    let size : length part ≡ len = omega (arith, c.copy_from_slice.ensures.len, least, more, length-take (done + len - done) (drop done out), length-drop done out) in
    let within : done ≤ length out = so_far.within in
    let front = take-put_mid done (done + len - done) out part (done + len) (omega (arith, size)) within in
    let enough = so_far.enough in
    let whole = overwritten done len out part size (omega (arith, least, more)) in
    record {
      page_size = c.advance.ensures.page_size ∙ so_far.page_size;
      size = whole ∙ so_far.size;
      within = omega (arith, whole, least, more);
      enough = omega (arith, whole, enough);
      rest = c.advance.ensures.bytes ∙ ap (λ l. drop len l) so_far.rest ∙ drop-drop len done all;
      copied = front ∙ ap (λ l. take done out ++ l) c.copy_from_slice.ensures.after
          ∙ sliced_more all out chunk here done (length chunk) len so_far.copied so_far.rest c.chunk-chunk.ensures.chunk (omega (arith, least));
    }

pub returns-clause-taken : goal.returns-clause-taken
returns-clause-taken c = grind (arith, common_steps)
