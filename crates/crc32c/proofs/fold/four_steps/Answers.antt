use Rattle.std.proofs.Common.{◌∙◌, ap, arith, ◌≡◌, ◌+◌, ℕ, List}
use lib.Lanes.{chunk}
use Rattle.crc32c.specs.Crc.{after_bytes}
use Rattle.crc32c.specs.Division.{remaining, far}
use Rattle.crc32c.proofs.fold.four_steps.Goals as goal

pub returns-clause-same : goal.returns-clause-same
returns-clause-same c =
    let at = c.args.at in
    let one : at + 128 ≡ at + 96 + 32 = omega arith in
    let two : at + 96 ≡ at + 64 + 32 = omega arith in
    let three : at + 64 ≡ at + 32 + 32 = omega arith in
    let back : (n m : ℕ) (q rest : List ℕ) → n ≡ m → after_bytes 0 (remaining far (chunk n 290 q) rest) ≡ after_bytes 0 (remaining far (chunk m 290 q) rest) =
    (λ n m q rest e. ap (λ k. after_bytes 0 (remaining far (chunk k 290 q) rest)) e) in
    back (at + 128) (at + 96 + 32) _ _ one ∙ c.far_step.ensures.same
    ∙ back (at + 96) (at + 64 + 32) _ _ two ∙ c.far_step-rest-3.ensures.same
    ∙ back (at + 64) (at + 32 + 32) _ _ three ∙ c.far_step-rest-2.ensures.same
    ∙ c.far_step-rest.ensures.same
