use Rattle.std.proofs.Common.{◌≡◌, ◌∙◌, ◌++◌, ◌-◌, ℕ, ap, sym, take, drop, length, replicate, length-append, length-drop, arith}
use Rattle.std.specs.Int.Bits.{bit_xor}
use Rattle.std.proofs.lemmas.Simd.{length-chunk, length-zip2, length-replicate}
use lib.Lanes.{zip2, chunk}
use Rattle.crc32c.proofs.RowMoves.{started_rows}
use Rattle.crc32c.proofs.rows.first_rows.Goals as goal

pub returns-clause-same : goal.returns-clause-same
returns-clause-same c =
    let bytes = c.args.bytes.now in
    let count = c.args.count in
    let lanes = c.lanes_of-lanes.ensures in
    started_rows c.args.state count bytes c.to_end-first.result (zip2 bit_xor (chunk count 16 bytes) c.from_lane.result) c.ranges.state.fits c.requires.count c.requires.long
    (c.to_end-first.ensures ∙ ap (λ l. replicate (16 - count) 0 ++ take count (zip2 bit_xor (take 16 bytes) l)) lanes)
    (ap (zip2 bit_xor (chunk count 16 bytes)) (c.from_lane.ensures ∙ ap (λ l. drop count l ++ replicate count 0) lanes))

pub returns-clause-second : goal.returns-clause-second
returns-clause-second c =
    let bytes = c.args.bytes.now in
    let count = c.args.count in
    let lanes = c.lanes_of-lanes.result in
    let of_lanes : length lanes ≡ 16 = ap length c.lanes_of-lanes.ensures in
    let of_chunk : length (chunk count 16 bytes) ≡ 16 = length-chunk count 16 bytes (omega (arith, c.requires.long, c.requires.count)) in
    let of_other : length c.from_lane.result ≡ 16 = ap length c.from_lane.ensures ∙ (omega (arith, length-append (drop count lanes) (replicate count 0), length-drop count lanes, length-replicate {A = ℕ} count 0, c.requires.count)) in
    length-zip2 bit_xor (chunk count 16 bytes) c.from_lane.result (of_chunk ∙ sym of_other) ∙ of_chunk
