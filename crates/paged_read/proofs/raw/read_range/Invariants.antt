use Rattle.std.proofs.Common.{◌≤◌, ◌-◌, max}
use Rattle.std.specs.Int.NonZero.{non_zero_u16_get}
use Rattle.std.specs.List.{concat}
use Rattle.crash.specs.Looks.{Looked}
use Rattle.paged_read.specs.Failures.{NoneFailed}
use Rattle.paged_read.specs.RawReads.{ReadsEachPage}
use Rattle.paged_read.proofs.RawReading.{IsFound}
use Rattle.paged_read.proofs.raw.read_range.Given as goal

abbrev pub invariant-loop-page : goal.invariant-loop-page
invariant-loop-page g l =
    let old = g.B.Blob.life l.initial.blob in
    record {
      found : IsFound g.H.Sum.sum_of (non_zero_u16_get l.page_size) l.offset l.end l.initial.page l.page-end old.present.readable l.page (concat l.bytes);
      looked : Looked old (g.B.Blob.life l.blob);
      answered : NoneFailed old.present (g.B.Blob.life l.blob).present;
      from : l.initial.page ≤ l.page;
      within : l.page ≤ max l.initial.page l.page-end;
      reads : ReadsEachPage (non_zero_u16_get l.page_size) l.initial.page (l.page - l.initial.page) old (g.B.Blob.life l.blob);
    }
