use Rattle.std.proofs.Common.{◌∙◌, ◌≡◌, ap, take, drop, arith, lit≤, ◌+◌, ◌-◌, ◌++◌, ◌∷◌, [], length, replicate, take_at, drop_at}
use Rattle.std.proofs.lemmas.Simd.{length-chunk}
use lib.Lanes.{chunk}
use Rattle.crc32c.specs.Crc.{after_bytes}
use Rattle.crc32c.specs.Division.{remaining, far}
use Rattle.crc32c.proofs.Folding.{started, stays_long, far_window, fits_far, fours_far}
use Rattle.crc32c.proofs.fold.fold.Goals as goal

pub loop-rest-init : goal.loop-rest-init
loop-rest-init c =
    let q = c.to_le_bytes.result in
    record {
      lanes = c.requires.lanes;
      long = c.requires.long;
      within = omega arith;
      room = ap length c.put_first.ensures ∙ stays_long q (replicate 2658 0) (omega (arith, ap length c.to_le_bytes.ensures));
      same =
          ap (λ k. after_bytes 0 (remaining far (chunk 0 290 k) c.args.bytes.now)) c.put_first.ensures
          ∙ started 32 290 (32 ∷ 107 ∷ 113 ∷ 136 ∷ []) fits_far fours_far c.args.state (chunk 0 290 (q ++ drop (length q) (replicate 2658 0))) q c.args.bytes.now (omega arith) c.to_le_bytes.ensures (omega arith) (lit≤ tt)
          (far_window q (ap length c.to_le_bytes.ensures));
    }

pub loop-rest-preserved : goal.loop-rest-preserved
loop-rest-preserved c =
    let l = c.loop-rest in
    record {
      lanes = omega (arith, l.invariant.lanes, c.four_steps-rest.ensures.len);
      long = omega (arith, c.four_steps-rest.ensures.len);
      within = omega (arith, c.make_room-at.ensures.room);
      room = c.four_steps-rest.array_long;
      same = c.four_steps-rest.ensures.same ∙ ap (λ k. after_bytes 0 (remaining far k l.rest.now)) c.make_room-at.ensures.window ∙ l.invariant.same;
    }

pub loop-rest-2-init : goal.loop-rest-2-init
loop-rest-2-init c =
    let l = c.loop-rest in
    record {
      lanes = l.invariant.lanes;
      long = l.invariant.long;
      within = omega (arith, l.invariant.lanes, c.make_room-at-2.ensures.room);
      room = c.make_room-at-2.array_long;
      same = ap (λ k. after_bytes 0 (remaining far k l.rest.now)) c.make_room-at-2.ensures.window ∙ l.invariant.same;
    }

pub loop-rest-2-preserved : goal.loop-rest-2-preserved
loop-rest-2-preserved c =
    let l = c.loop-rest-2 in
    record {
      lanes = omega (arith, l.invariant.lanes, c.far_step-rest.ensures.len);
      long = omega (arith, l.invariant.lanes, c.far_step-rest.ensures.len);
      within = omega (arith, l.invariant.within, c.far_step-rest.ensures.len);
      room = c.far_step-rest.array_long;
      same = c.far_step-rest.ensures.same ∙ l.invariant.same;
    }

pub far_remainder-requires-clause-zeros : goal.far_remainder-requires-clause-zeros
far_remainder-requires-clause-zeros c =
    let l = c.loop-rest-2 in
    let e : l.at + 610 - l.at ≡ 610 = omega arith in
    ap (λ n. drop 290 (take n (drop l.at c.zeros_behind.new.quotient))) e ∙ ap (drop 290) c.zeros_behind.ensures
    ∙ drop_at (chunk l.at 290 l.quotient) (replicate 320 0) 290 (length-chunk l.at 290 l.quotient (omega (arith, l.invariant.room, l.invariant.within, l.invariant.long)))

pub returns : goal.returns
returns c =
    let l = c.loop-rest-2 in
    let q = c.zeros_behind.new.quotient in
    let e : l.at + 610 - l.at ≡ 610 = omega arith in
    let window : take 290 (take (l.at + 610 - l.at) (drop l.at q)) ≡ chunk l.at 290 l.quotient =
    ap (λ n. take 290 (take n (drop l.at q))) e ∙ ap (take 290) c.zeros_behind.ensures ∙ take_at (chunk l.at 290 l.quotient) (replicate 320 0) 290 (length-chunk l.at 290 l.quotient (omega (arith, l.invariant.room, l.invariant.within, l.invariant.long))) in
    ap (after_bytes 0) (c.far_remainder.ensures ∙ ap (λ k. remaining far k l.rest.now) window) ∙ l.invariant.same
