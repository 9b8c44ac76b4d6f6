use Rattle.std.proofs.Common.{◌≡◌, ◌+◌, ◌-◌, ◌++◌, ◌∷◌, [], ℕ, List, take, drop, slice_index_or, sym, ap, ap₂, ◌∙◌, subst, arith}
use Rattle.std.proofs.lemmas.List.{take_all}
use Rattle.disk.specs.Disk.{Delivers}
use Rattle.disk.proofs.Deliveries.{rising, rising_more, delivers_rising}
use Rattle.disk.proofs.ranges.copy_ranges.Goals as goal

pub loop-index-preserved : goal.loop-index-preserved
loop-index-preserved c =
    let bytes = c.args.bytes.now in
    let i = c.loop-index.index in
    let r = slice_index_or c.args.ranges.now i (0, 0) in
    let len : r.0 + r.1 - r.0 ≡ r.1 = omega arith in
    let range = c.in_ok-range.ensures.ok ∙ ap (λ (n : ℕ). take n (drop r.0 bytes)) len in
    c.in_ok-push.ensures.items
    ∙ ap₂ (λ (l : List (ℕ × List ℕ)) (b : List ℕ). l ++ (i, b) ∷ []) c.loop-index.invariant range
    ∙ sym (rising_more c.args.ranges.now bytes i (0, 0) c.loop-index-test.true)

pub returns-clause-ranges : goal.returns-clause-ranges
returns-clause-ranges c =
    let ranges = c.args.ranges.now in
    let bytes = c.args.bytes.now in
    let whole : take c.loop-index.index ranges ≡ ranges = take_all c.loop-index.index ranges (omega (arith, c.loop-index-test.false)) in
    let is = c.loop-index.invariant ∙ ap (λ (rs : List (ℕ × ℕ)). rising rs bytes) whole in
    (c.are_within.ensures.0 c.if-not-are_within.false, subst (Delivers ranges bytes) (sym is) (delivers_rising ranges bytes))

pub returns-clause-rising : goal.returns-clause-rising
returns-clause-rising c =
    let ranges = c.args.ranges.now in
    let whole : take c.loop-index.index ranges ≡ ranges = take_all c.loop-index.index ranges (omega (arith, c.loop-index-test.false)) in
    c.loop-index.invariant ∙ ap (λ (rs : List (ℕ × ℕ)). rising rs c.args.bytes.now) whole
