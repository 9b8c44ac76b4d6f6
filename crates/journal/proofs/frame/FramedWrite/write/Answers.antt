use Rattle.std.proofs.Common.{◌≤◌, ℕ, arith, refl, Ok, Err, Result}
use Rattle.bytes.specs.Filled.{UsesSpare}
use Rattle.std.specs.Prelude.{IsOk}
use Rattle.journal.proofs.Frames.{length-frame}
use Rattle.journal.proofs.frame.FramedWrite.write.Goals as goal

-- a write for which there was room answers `Ok`
has_room : {T E : Type 0} (r : Result T E) (old new n : ℕ) → UsesSpare r old new n → n ≤ old → IsOk r
has_room (Ok v) old new n uses enough = refl
has_room (Err e) old new n uses enough = absurd (omega (arith, uses.0, enough))

pub returns-in_err-put_slice-clause-room : goal.returns-in_err-put_slice-clause-room
returns-in_err-put_slice-clause-room g c = λ enough.
    absurd (omega (arith, enough, length-frame g.R.Sum.sum_of c.args.self.now.bytes.now, c.in_err-put_slice.ensures.spare.0))

pub returns-in_err-put_slice-2-clause-room : goal.returns-in_err-put_slice-2-clause-room
returns-in_err-put_slice-2-clause-room g c = λ enough.
    absurd (omega (
      arith,
      enough,
      length-frame g.R.Sum.sum_of c.args.self.now.bytes.now,
      c.in_ok-put_slice.ensures.spare,
      c.in_err-put_slice-2.ensures.spare.0,
    ))

pub returns-in_err-put_slice-3-clause-room : goal.returns-in_err-put_slice-3-clause-room
returns-in_err-put_slice-3-clause-room g c = λ enough.
    absurd (omega (
      arith,
      enough,
      length-frame g.R.Sum.sum_of c.args.self.now.bytes.now,
      c.in_ok-put_slice.ensures.spare,
      c.in_ok-put_slice-2.ensures.spare,
      c.in_err-put_slice-3.ensures.spare.0,
    ))

pub returns-clause-room : goal.returns-clause-room
returns-clause-room g c = λ enough.
    has_room c.put_u8.result (g.O.BufMut.spare c.put_slice-3.new.self) (g.O.BufMut.spare c.put_u8.new.self) 1 c.put_u8.ensures.spare
    (omega (
      arith,
      enough,
      length-frame g.R.Sum.sum_of c.args.self.now.bytes.now,
      c.in_ok-put_slice.ensures.spare,
      c.in_ok-put_slice-2.ensures.spare,
      c.in_ok-put_slice-3.ensures.spare,
    ))
