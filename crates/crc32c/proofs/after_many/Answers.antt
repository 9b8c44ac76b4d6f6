use Rattle.std.proofs.Common.{◌∙◌, ◌≡◌, ◌++◌, ◌+◌, ◌-◌, ap, take, length, ◌%◌, refl, arith}
use Rattle.crc32c.specs.Crc.{after_bytes}
use Rattle.crc32c.proofs.Steps.{bytes_more}
use Rattle.crc32c.proofs.Folding.{in_two}
use Rattle.crc32c.proofs.after_many.Goals as goal

pub returns : goal.returns
returns c =
    let a = c.args in
    let cut = c.split_at in
    let odd = length a.bytes.now % 32 in
    let lanes = cut.result.0.now in
    let folded = c.fold.new.remainder in
    let behind = cut.result.1.now in
    let few : odd ≡ length behind = omega (arith, cut.ensures.back_len) in
    let whole : take (320 + odd) c.put_behind.new.bytes ≡ take 320 folded ++ behind = ap (λ n. take (320 + n) c.put_behind.new.bytes) few ∙ c.put_behind.ensures in
    in_two a.state a.bytes.now lanes behind (after_bytes a.state lanes) c.by_rows.result (length a.bytes.now - odd) cut.ensures.front cut.ensures.back refl
    (c.by_rows.ensures ∙ ap (after_bytes 0) whole ∙ bytes_more 0 (take 320 folded) behind ∙ ap (λ s. after_bytes s behind) c.fold.ensures)
