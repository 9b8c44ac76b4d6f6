use Rattle.std.proofs.Common.{◌≡◌, ◌+◌, ◌≤◌, ◌++◌, ◌∙◌, ℕ, List, length, length-drop, take, drop, ap, sym, arith}
use Rattle.std.proofs.lemmas.Grind.{common_steps}
use Rattle.std.proofs.lemmas.List.{length-take-le}
use Rattle.journal.specs.Frame.{record_len}
use Rattle.journal.proofs.Walks.{after, left, parted, said, took}
use Rattle.journal.proofs.walk.next_frame.Given.{Over}
use Rattle.journal.proofs.walk.next_frame.Goals as goal
use Rattle.journal.proofs.walk.next_frame.Goals.{After-record_len_of-len}

-- the length is taken
record Taken (g : Over) (c : After-record_len_of-len g) (content : List ℕ) : Type 0 where
  rest : c.take_into.new.hand.bytes ≡ drop (c.args.offset + 2) content
  says : c.record_len_of-len.result ≡ record_len (drop c.args.offset content)
  size : length c.take_into.new.hand.bytes + (c.args.offset + 2) ≡ length content

taken : (g : Over) (c : After-record_len_of-len g) (content : List ℕ) → c.args.hand.now.bytes ≡ drop c.args.offset content → c.args.offset ≤ length content → Taken g c content
taken g c content is within =
    let offset = c.args.offset in
    let hand = c.args.hand.now.bytes in
    let now = c.take_into.new.hand.bytes in
    let rest : now ≡ drop (offset + 2) content = left content hand now offset 2 is c.take_into.ensures.taken in
    let head : c.take_into.new.out ≡ take 2 (drop offset content) = took content hand c.take_into.new.out offset 2 is c.take_into.ensures.bytes in
    record {
      rest = rest;
      says = said content c.take_into.new.out offset c.record_len_of-len.result head c.record_len_of-len.ensures.len;
      size = omega (arith, ap (λ (l : List ℕ). length l) rest, length-drop (offset + 2) content, within, ap (λ (l : List ℕ). length l) is, length-drop offset content);
    }

pub returns-then-remaining-lt-IN_FRONT-clause-passes : goal.returns-then-remaining-lt-IN_FRONT-clause-passes
returns-then-remaining-lt-IN_FRONT-clause-passes g c = λ content is within.
    omega (arith, c.if-remaining-lt-IN_FRONT.true, c.remaining.ensures, ap (λ (l : List ℕ). length l) is, length-drop c.args.offset content, within)

pub returns-then-remaining-len-clause-passes : goal.returns-then-remaining-len-clause-passes
returns-then-remaining-len-clause-passes g c = λ content is within.
    let had = taken g (goal.at.returns-then-remaining-len-clause-passes g c).After-record_len_of-len content is within in
    omega (arith, c.if-remaining-len.true, c.remaining-2.ensures, had.says, had.size)

pub returns-clause-passes : goal.returns-clause-passes
returns-clause-passes g c = λ content is within.
    let offset = c.args.offset in
    let n = c.record_len_of-len.result in
    let hand = c.take_into.new.hand.bytes in
    let now = c.copy_to_bytes.new.self.bytes in
    let bytes = c.in_ok-bytes.bytes in
    let had = taken g (goal.at.returns-clause-passes g c).After-record_len_of-len content is within in
    let enough : n + 5 ≤ length hand = omega (arith, c.if-remaining-len.false, c.remaining-2.ensures) in
    let first : bytes ≡ take n (drop (offset + 2) content) = took content hand bytes (offset + 2) n had.rest c.in_ok-bytes.ensures.taken in
    let rest : now ≡ drop (offset + 2 + n) content = left content hand now (offset + 2) n had.rest c.in_ok-bytes.ensures.bytes in
    let second : c.take_into-2.new.out ≡ take 5 (drop (offset + 2 + n) content) = took content now c.take_into-2.new.out (offset + 2 + n) 5 rest c.take_into-2.ensures.bytes in
    let size : length bytes ≡ n = ap (λ (l : List ℕ). length l) c.in_ok-bytes.ensures.taken ∙ length-take-le n hand (omega (arith, enough)) in
    let is_after = after g.R.Sum.sum_of content offset n (bytes ++ c.take_into-2.new.out) had.says (parted content (offset + 2) n bytes c.take_into-2.new.out first second) in
    let end : offset + 2 + n + 5 ≡ offset + (2 + n + 5) = omega arith in
    record {
      rest = left content now c.take_into-2.new.hand.bytes (offset + 2 + n) 5 rest c.take_into-2.ensures.taken ∙ ap (λ (m : ℕ). drop m content) end;
      held = c.record_before.ensures (take (n + 7) (drop offset content)) (is_after.says ∙ sym size) is_after.is ∙ is_after.held;
      after = omega (arith, is_after.long);
      within = omega (arith, enough, had.size);
    }

pub take_into-requires-2 : goal.take_into-requires-2
take_into-requires-2 g c = grind (arith, common_steps)
