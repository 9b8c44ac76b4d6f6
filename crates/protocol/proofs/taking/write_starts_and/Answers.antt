use Rattle.std.proofs.Common.{◌≡◌, ◌∷◌, ◌+◌, ◌*◌, ◌/◌, ◌++◌, [], List, ℕ, length, length-append, refl, arith}
use Rattle.std.specs.List.{flat_map}
use Rattle.std.proofs.KnownBytes.{Appends-trans}
use Rattle.protocol.specs.Answer.{head_bytes}
use Rattle.protocol.specs.Request.{frame_bytes, number_bytes}
use Rattle.protocol.specs.Together.{lengths_in, record_starts}
use Rattle.protocol.proofs.Taken.{starts_size}
use Rattle.protocol.proofs.Written.{frame_breaks, frame_ends, frame_stops, head_alone}
use Rattle.protocol.proofs.taking.write_starts_and.Goals as goal

-- how many bytes are behind the status
size_of : (first : ℕ) (lengths more : List ℕ) → length lengths ≡ 4 * (length lengths / 4) → 2 * length lengths + length more ≡ length (flat_map number_bytes (record_starts first (lengths_in lengths)) ++ more)
size_of first lengths more is =
    let all = flat_map number_bytes (record_starts first (lengths_in lengths)) in
    let size = starts_size lengths first (length lengths / 4) is in
    omega (arith, size, length-append all more)

pub returns-in_err-write_head : goal.returns-in_err-write_head
returns-in_err-write_head g c =
    let all = flat_map number_bytes (record_starts c.args.first (lengths_in c.args.lengths.now)) in
    let payload = all ++ c.args.more.now in
    let len = 2 * length c.args.lengths.now + length c.args.more.now in (
      frame_bytes (0 ∷ payload),
      refl,
      frame_stops 0 len payload (g.W.Write.contents c.args.out.now) (g.W.Write.contents c.write_head.new.out) c.in_err-write_head.field-0.0 c.from_residual.result c.from_residual.ensures.1
          (size_of c.args.first c.args.lengths.now c.args.more.now (omega (arith, c.requires.whole))) c.in_err-write_head.ensures,
    )

pub returns-in_err-write_starts : goal.returns-in_err-write_starts
returns-in_err-write_starts g c =
    let all = flat_map number_bytes (record_starts c.args.first (lengths_in c.args.lengths.now)) in
    let payload = all ++ c.args.more.now in
    let len = 2 * length c.args.lengths.now + length c.args.more.now in
    let old = g.W.Write.contents c.args.out.now in
    let mid = g.W.Write.contents c.write_head.new.out in (
      frame_bytes (0 ∷ payload),
      refl,
      frame_breaks 0 len payload [] all c.args.more.now old mid (g.W.Write.contents c.write_starts.new.out) c.in_err-write_starts.field-0.0 c.from_residual-in_err-write_starts.result c.from_residual-in_err-write_starts.ensures.1
          (size_of c.args.first c.args.lengths.now c.args.more.now (omega (arith, c.requires.whole))) refl (head_alone (head_bytes 0 len) old mid c.in_ok-write_head.ensures) c.in_err-write_starts.ensures,
    )

pub returns : goal.returns
returns g c =
    let all = flat_map number_bytes (record_starts c.args.first (lengths_in c.args.lengths.now)) in
    let payload = all ++ c.args.more.now in
    let len = 2 * length c.args.lengths.now + length c.args.more.now in
    let old = g.W.Write.contents c.args.out.now in
    let mid = g.W.Write.contents c.write_head.new.out in
    let last = g.W.Write.contents c.write_starts.new.out in (
      frame_bytes (0 ∷ payload),
      refl,
      frame_ends 0 len payload all c.args.more.now old last (g.W.Write.contents c.put.new.out) c.put.result
          (size_of c.args.first c.args.lengths.now c.args.more.now (omega (arith, c.requires.whole))) refl (Appends-trans old mid last (head_bytes 0 len) all c.in_ok-write_head.ensures c.in_ok-write_starts.ensures) c.put.ensures,
    )
