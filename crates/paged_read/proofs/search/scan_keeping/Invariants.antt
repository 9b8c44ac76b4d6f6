use Rattle.std.proofs.Common.{◌≡◌, ◌≤◌, ◌<◌, ◌-◌, ◌+◌, ◌*◌}
use Rattle.std.specs.Int.NonZero.{non_zero_u16_get}
use Rattle.crash.specs.Looks.{Looked}
use Rattle.paged_read.specs.Failures.{NoneFailed}
use Rattle.paged_read.specs.Scans.{prefix_from, StopsAt}
use Rattle.paged_read.proofs.Prefixes.{StandsAt}
use Rattle.paged_read.proofs.Forward.{ReadsTo}
use Rattle.paged_read.proofs.Keeping.{KeptTo}
use Rattle.paged_read.proofs.search.scan_keeping.Given as goal

abbrev pub invariant-loop-done : goal.invariant-loop-done
invariant-loop-done g l =
    let sum = g.H.Sum.sum_of in
    let P = non_zero_u16_get l.page_size in
    let old = g.B.Blob.life l.initial.blob in
    let now = g.B.Blob.life l.blob in
    record {
      some : 0 < l.most;
      begun : l.first ≤ l.done;
      within : l.done ≤ l.pages;
      stands : StandsAt sum P (prefix_from sum P l.first l.pages old.present.readable) l.pages l.done old.present.readable;
      looked : Looked old now;
      answered : NoneFailed old.present now.present;
      none : l.done ≡ l.first → now ≡ old;
      kept : KeptTo sum P l.first l.pages l.done old.present.readable l.initial.kept l.kept;
      stops : StopsAt P (prefix_from sum P l.first l.pages old.present.readable).full_pages old now;
      reads : ReadsTo (l.most * (P + 12)) (l.first * (P + 12)) (l.done * (P + 12)) old now;
    }

abbrev pub decreases-loop-done : goal.decreases-loop-done
decreases-loop-done g l = l.pages - l.done
