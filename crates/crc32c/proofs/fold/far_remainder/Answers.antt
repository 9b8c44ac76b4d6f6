use Rattle.std.proofs.Common.{◌≡◌, ◌∙◌, ◌++◌, ap, sym, take, drop, replicate, arith, ◌+◌, ◌-◌, length, take-append-drop, length-take-le}
use Rattle.std.proofs.lemmas.Simd.{length-put_chunk}
use Rattle.crc32c.specs.Division.{far, next_quotient}
use Rattle.crc32c.proofs.Folding.{end_step, end_all, fits_far}
use Rattle.crc32c.proofs.fold.far_remainder.Goals as goal

pub loop-i-preserved : goal.loop-i-preserved
loop-i-preserved c =
    let l = c.loop-i in
    let y = c.far_quotient-lanes.result in
    let window = c.args.window.now in
    let bytes = c.args.bytes.now in
    let of_window : length (take 290 window) ≡ 290 = length-take-le 290 window (omega (arith, c.requires.window)) in
    record {
      whole = omega arith;
      within = omega arith;
      long = omega (arith, length-put_chunk l.i l.remainder y);
      so_far =
          ap (take (l.i + 32)) c.store.ensures
          ∙ end_step l.i 32 290 320 far l.remainder window (take 290 window) c.args.bytes.now y fits_far (omega (arith, l.invariant.long)) (omega arith) of_window c.requires.bytes
          (sym (take-append-drop 290 window) ∙ ap (λ l. take 290 window ++ l) (c.requires.zeros ∙ sym (ap (λ n. drop n (replicate 610 0)) of_window)))
          (c.far_quotient-lanes.ensures ∙ ap (λ n. next_quotient 32 far (take (n - l.i) (drop l.i window)) (take 32 (take (length bytes - l.i) (drop l.i bytes)))) c.requires.window)
          l.invariant.so_far;
    }

pub returns : goal.returns
returns c = end_all c.loop-i.i 320 far c.loop-i.remainder (take 290 c.args.window.now) c.args.bytes.now (omega arith) c.requires.bytes c.loop-i.invariant.so_far
