use Rattle.std.proofs.Common.{◌≡◌, ◌+◌, ◌-◌, ◌%◌, ℕ, suc, ◌∙◌, ap, sym, arith, drop, take}
use Rattle.digest.specs.Poly.{poly_value}
use Rattle.digest.specs.Powers.{dot}
use Rattle.digest.proofs.Sums.{ending_value}
use Rattle.digest.proofs.poly.ending.Goals as goal

pub returns : goal.returns
returns c x table =
    let n = c.div_ceil-n.result in
    let m : ℕ = n - 1 in
    let some : n ≡ suc m = omega arith in
    let places : 32 - n + m ≡ 31 = omega arith in
    let after : 33 - n ≡ suc (32 - n) = omega arith in
    ending_value x c.args.h (32 - n) m c.args.table.now c.args.bytes.now c.times.result c.with_words-total.result c.last_word.result c.reduced.result places table c.times.ensures.value
    (c.with_words-total.ensures.value ∙ ap (λ (f : ℕ). c.times.result + dot (take m (drop f c.args.table.now)) c.args.bytes.now) after)
    c.last_word.ensures.word
    (c.reduced.ensures.value ∙ ap (λ (w : ℕ). (c.with_words-total.result + w) % 2305843009213693951) c.from.ensures)
    ∙ ap (λ (k : ℕ). poly_value x c.args.h k c.args.bytes.now) (sym some ∙ c.div_ceil-n.ensures)
