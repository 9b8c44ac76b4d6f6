use Rattle.std.proofs.Common.{◌≡◌, ◌≤◌, ◌+◌, ◌*◌}
use Rattle.std.specs.Int.NonZero.{non_zero_u16_get}
use Rattle.crash.specs.Looks.{Looked}
use Rattle.paged_read.specs.Failures.{NoneFailed}
use Rattle.paged_read.specs.Prefix.{last_prefix}
use Rattle.paged_read.specs.Backward.{ReadsDownTo}
use Rattle.paged_read.proofs.search.last_pages.Given as goal

abbrev pub invariant-loop-pages : goal.invariant-loop-pages
invariant-loop-pages g l =
    let readable = (g.B.Blob.life l.initial.blob).present.readable in
    let P = non_zero_u16_get l.page_size in
    record {
      fewer : l.pages ≤ l.initial.pages;
      same : last_prefix g.H.Sum.sum_of P l.pages readable ≡ last_prefix g.H.Sum.sum_of P l.initial.pages readable;
      looked : Looked (g.B.Blob.life l.initial.blob) (g.B.Blob.life l.blob);
      answered : NoneFailed (g.B.Blob.life l.initial.blob).present (g.B.Blob.life l.blob).present;
      reads : ReadsDownTo (P + 12) (l.pages * (P + 12)) (g.B.Blob.life l.initial.blob) (g.B.Blob.life l.blob);
    }

abbrev pub decreases-loop-pages : goal.decreases-loop-pages
decreases-loop-pages g l = l.pages
