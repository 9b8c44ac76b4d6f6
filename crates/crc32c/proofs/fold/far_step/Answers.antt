use Rattle.std.proofs.Common.{◌≡◌, ◌∙◌, ◌++◌, ap, sym, take, drop, length, arith, lit≤, refl, ◌+◌, ◌-◌, take-take}
use Rattle.std.proofs.lemmas.Simd.{length-chunk}
use lib.Lanes.{chunk}
use Rattle.crc32c.specs.Division.{far, next_quotient}
use Rattle.crc32c.proofs.Multiples.{far_is}
use Rattle.crc32c.proofs.Folding.{step_slides, step_keeps, fits_far, to_end}
use Rattle.crc32c.proofs.fold.far_step.Goals as goal

pub returns-clause-same : goal.returns-clause-same
returns-clause-same c =
    let a = c.args in
    let bytes = a.bytes.now in
    let h = chunk a.at 290 a.quotient.now in
    let after = chunk (a.at + 32) 290 c.store.new.bytes in
    let slid : after ≡ drop 32 h ++ next_quotient 32 far h (take 32 bytes) =
    ap (chunk (a.at + 32) 290) c.store.ensures
    ∙ step_slides a.at 32 290 far a.quotient.now bytes c.far_quotient-lanes.result fits_far (lit≤ tt) (omega (arith, c.requires.room)) (omega (arith, c.requires.long))
    (c.far_quotient-lanes.ensures ∙ ap (λ n. next_quotient 32 far (take (n - a.at) (drop a.at a.quotient.now)) (take 32 bytes)) (sym c.told-quotient)) in
    step_keeps 32 290 far far_is fits_far h after (take 32 bytes) _ bytes (length-chunk a.at 290 a.quotient.now (omega (arith, c.requires.room))) (lit≤ tt) (omega (arith, c.requires.long))
    refl (to_end 32 (length bytes) bytes refl) (slid ∙ ap (λ k. drop 32 h ++ next_quotient 32 far h k) (sym (take-take 32 32 bytes (lit≤ tt))))
