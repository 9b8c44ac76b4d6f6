use Rattle.std.proofs.Common.{◌+◌, ◌*◌, sym}
use Rattle.std.specs.Int.NonZero.{non_zero_u16_get}
use Rattle.page.specs.Page.{pieces}
use Rattle.paged_read.specs.Prefix.{prefix_of}
use Rattle.paged_read.specs.Scans.{prefix_from}
use Rattle.paged_read.proofs.Looking.{look_finds}
use Rattle.paged_read.proofs.Prefixes.{stands_first}
use Rattle.paged_read.proofs.search.scan.Goals as goal

pub returns-clause-finds : goal.returns-clause-finds
returns-clause-finds g c =
    let sum = g.H.Sum.sum_of in
    let P = non_zero_u16_get c.args.page_size in
    let n = c.args.pages in
    let old = g.B.Blob.life c.args.blob.now in
    let readable = old.present.readable in
    look_finds (n * (P + 12)) (prefix_from sum P 0 n readable) (prefix_of sum P (pieces n (P + 12) readable)) old (g.B.Blob.life c.scan_keeping.new.blob) c.scan_keeping.result
    c.requires.there.0 (sym (stands_first sum P n readable)) c.scan_keeping.ensures.finds
