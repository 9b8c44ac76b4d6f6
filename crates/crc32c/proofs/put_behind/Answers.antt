use Rattle.std.proofs.Common.{◌≡◌, ◌∙◌, ◌+◌, ◌-◌, ◌++◌, ℕ, List, ap, sym, take, drop, length, append_assoc, take_at, length-append, length-take-le, arith}
use Rattle.crc32c.proofs.put_behind.Goals as goal

pub returns : goal.returns
returns c =
    let bytes = c.args.bytes.now in
    let behind = c.args.behind.now in
    let n = length behind in
    let rest = drop (320 + n - 320) (drop 320 bytes) in
    let both : List ℕ = take 320 bytes ++ behind in
    let of_both : length both ≡ 320 + n = omega (arith, length-append (take 320 bytes) behind, length-take-le 320 bytes (omega arith)) in
    ap (λ l. take (320 + n) (take 320 bytes ++ (l ++ rest))) c.copy_from_slice.ensures.after
    ∙ ap (take (320 + n)) (sym (append_assoc (take 320 bytes) behind rest)) ∙ take_at both rest (320 + n) of_both
