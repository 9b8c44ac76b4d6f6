use Rattle.std.proofs.Common.{◌+◌, ◌*◌, ◌/◌, ◌%◌, min, arith, ap}
use Rattle.paged_read.proofs.Hands.{payload_size}
use Rattle.paged_read.proofs.hand.payload_bytes.Goals as goal

pub returns : goal.returns
returns c = λ run is.
    let P = c.args.page_size in
    let least = c.min.ensures in
    let size = payload_size P run in
    let bytes = ap (λ n. n / (P + 12) * P + min (n % (P + 12)) P) is in
    omega (arith, least, size, bytes)
