use Rattle.std.proofs.Common.{◌≡◌, ◌+◌, ◌-◌, ◌*◌, ◌/◌, ◌∙◌, ℕ, List, ap, arith, refl, length, drop, length-drop}
use Rattle.std.specs.Int.{div_ceil}
use Rattle.std.proofs.lemmas.List.{take_rest}
use Rattle.digest.specs.Poly.{poly_value}
use Rattle.digest.proofs.Sums.{value_of_none, words_after}
use Rattle.digest.proofs.poly.value_at.Goals as goal

pub returns-then-len-eq0 : goal.returns-then-len-eq0
returns-then-len-eq0 c x table = value_of_none x c.args.bytes.now (omega arith)

pub loop-k-init : goal.loop-k-init
unfolding poly_value
loop-k-init c = record { value = λ x table. refl; small = omega arith }

pub loop-k-preserved : goal.loop-k-preserved
loop-k-preserved c = record {
  value = λ x table.
      words_after x (length c.args.bytes.now) c.loop-k.k c.loop-k.h 32 (32 * (c.loop-k.k + 1)) c.block-h.result c.args.bytes.now (c.loop-k.invariant.value x table)
      (c.block-h.ensures.value x table ∙ ap (poly_value x c.loop-k.h 32) (take_rest c.args.bytes.now (224 * c.loop-k.k))) (omega arith);
  small = omega arith;
}

pub returns : goal.returns
returns c x table =
    let bytes = c.args.bytes.now in
    let len = length bytes in
    let blocks : ℕ = (len - 1) / 224 in
    let all : c.loop-k.k ≡ blocks = omega arith in
    let rest = drop (224 * blocks) bytes in
    let count : 32 * blocks + div_ceil (length rest) 7 ≡ div_ceil len 7 = omega (arith, length-drop (224 * blocks) bytes) in
    words_after x len blocks c.loop-k.h (div_ceil (length rest) 7) (div_ceil len 7) c.ending.result bytes
    (c.loop-k.invariant.value x table ∙ ap (λ (k : ℕ). poly_value x len (32 * k) bytes) all)
    (c.ending.ensures x table ∙ ap (λ (l : List ℕ). poly_value x c.loop-k.h (div_ceil (length l) 7) l) (take_rest bytes (224 * blocks))) count
