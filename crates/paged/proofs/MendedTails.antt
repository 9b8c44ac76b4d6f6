-- Once a blob is recovered, no slot of its last page is bad.
use Rattle.std.proofs.Common.{◌≡◌, ℕ, ◌^◌, ◌<◌, List, refl, sym, ◌∙◌, subst, arith, Bool, true, false}
use Rattle.std.specs.Prelude.{Result, Ok, Err, IfOk, if◌then◌else◌, nat_lt}
use Rattle.std.proofs.lemmas.Bool.Decides.{nat_tests}
use Rattle.disk.specs.Disk.{Life}
use Rattle.disk.specs.declared.error.Error.{Error}
use Rattle.cache.specs.CacheState.{CacheState}
use Rattle.writer_state.specs.WriterState.{WriterState}
use Rattle.crash.proofs.BuiltLaws.{IsSmall}
use Rattle.crash.proofs.LookLaws.{looked_readable}
use Rattle.paged.specs.Flush.{synced}
use Rattle.paged.specs.Reads.{size_of}
use Rattle.paged.specs.Recovery.{IsAsOpened, TailIsMended}
use Rattle.paged.specs.Truncate.{IsCut, Truncates, cut_bytes, cut_writer, shortened, shortened_writer}
use Rattle.paged.proofs.Opened.{tail_is_mended}
use Rattle.paged.proofs.Recovered.{CutToText, scanned_as_opened}
use Rattle.paged.proofs.Truncated.{shortened_mended}

-- a cut, or none, leaves no bad slot
cut_mended : (sum : List ℕ → ℕ) (n : ℕ) (w : WriterState) (old : Life) → IsSmall sum → w.page_size < 2 ^ 16 → IsAsOpened sum w old.present → 0 < w.page_size → TailIsMended sum w old.present.readable
    → (less : Bool) → nat_lt n (size_of w) ≡ less
    → TailIsMended sum (if less then shortened_writer sum w n old.present.readable else synced w) (if less then shortened sum w.page_size n old.present.readable else old.present.readable)
cut_mended sum n w old small_sum small opened some mended true is = shortened_mended sum n w old some opened (grind (arith, nat_tests, is)) small_sum small
cut_mended sum n w old small_sum small opened some mended false is = mended

module _ (sum : List ℕ → ℕ) (cache : CacheState) (capacity n : ℕ) (old mid scanned : Life) (w : WriterState) (cuts : CutToText sum cache capacity n old mid scanned w) (small_sum : IsSmall sum) (some : 0 < w.page_size) (small : w.page_size < 2 ^ 16) where
  -- a recovery that ends leaves no bad slot
  pub recovers_mended : (new : Life) (answer : Result WriterState Error) → Truncates sum n w scanned new answer → IfOk answer (IsCut sum n w scanned new) → IfOk answer (λ v. TailIsMended sum v new.present.base)
  recovers_mended new (Ok now) is exact =
      let bytes = scanned.present.readable in
      let before : TailIsMended sum w bytes = subst (λ (l : List ℕ). TailIsMended sum w l) (sym (looked_readable mid scanned cuts.looked)) (tail_is_mended sum cache capacity old mid w cuts.opened) in
      let after : TailIsMended sum (cut_writer sum w n bytes) (cut_bytes sum w n bytes) =
      cut_mended sum n w scanned small_sum small (scanned_as_opened sum cache capacity n old mid scanned w cuts) some before (nat_lt n (size_of w)) refl in
      subst (λ (l : List ℕ). TailIsMended sum now l) (sym (is.durable.base ∙ exact.readable)) (subst (λ (v : WriterState). TailIsMended sum v (cut_bytes sum w n bytes)) (sym exact.state) after)
  recovers_mended new (Err e) is exact = tt
