-- What each moment of emptying a bad slot keeps, and which text it has.
use Rattle.std.proofs.Common.{◌≡◌, inl, inr, ℕ, ◌+◌, ◌*◌, ◌<◌, ◌≤◌, List, length, refl, sym, subst, arith, Bool, true, false, Result, Ok, Err}
use Rattle.disk.specs.Disk.{Disk, Life, HasOperated, Request, SyncGoes, WriteGoes, settled_disk}
use Rattle.disk.specs.Disk.Operation.{Write}
use Rattle.disk.specs.Disk.Request.{WriteAt}
use Rattle.disk.specs.declared.error.Error.{Error}
use Rattle.page.specs.Slot.{slot_offset, other}
use Rattle.page.specs.Page.{slot_bytes, text, verified_len}
use Rattle.page.specs.declared.slot.Slot.{Slot}
use Rattle.page.specs.declared.slot.ActiveChecksum.{ActiveChecksum}
use Rattle.crash.specs.Kept.{AllKeep, Through}
use Rattle.crash.specs.Moments.{through_end, through_joins, through_then}
use Rattle.crash.specs.Shrink.{HoldsText}
use Rattle.crash.specs.Stays.{KeepsFloors, Stays, StaysThrough}
use Rattle.crash.proofs.Disks.{operated_base, operated_readable, operated_since}
use Rattle.crash.proofs.FloorLaws.{ReadsImage, floors_joins, floors_sync}
use Rattle.crash.proofs.Texts.{AreBytes}
use Rattle.crash.proofs.Promise.{keeps_settle}
use Rattle.writer_state.proofs.MendLaws.{bad_is, bad_verifies, mend_holds}
use Rattle.writer_state.proofs.ShortenLaws.{holds_keeps, holds_only, rest_latest, sync_holds, write_latest, write_through}
use Rattle.writer_state.proofs.TailLaws.{clear_keeps}
use Rattle.paged_read.specs.Ranges.{page_at}
use Rattle.paged.specs.Mends.{Empties}
use Rattle.paged.specs.Recovery.{IsDurable}
use Rattle.paged.proofs.Emptied.{Mending}

module _ (sum : List ℕ → ℕ) (P page : ℕ) (t : Slot) (old : Life) (mending : Mending sum P page t old.present.readable) where
  abbrev a : ActiveChecksum
  a = mending.value

  abbrev bytes : List ℕ
  bytes = page_at P page old.present.readable

  abbrev zeros : List ℕ
  zeros = slot_bytes 0 0

  abbrev offset : ℕ
  offset = page * (P + 12) + P + slot_offset (other a.slot)

  is_other : t ≡ other a.slot
  is_other = bad_is sum P bytes a t mending.told mending.bad

  reach : (page + 1) * (P + 12) ≤ length old.present.readable
  reach = omega (arith, mending.size)

  -- ---- floors, whatever is unsynced

  idle : verified_len sum P (other a.slot) bytes ≡ 0
  idle = bad_verifies sum P bytes a t mending.told mending.bad

  module _ (content : List ℕ) (image : ReadsImage old) where
    write_floors : (sync : Bool) (new : Life) (answer : Result (Unit {0}) Error) → WriteGoes offset zeros sync old new answer → KeepsFloors sum P content old new
    write_floors sync new answer goes = λ floor enough keeps.
        let later : (request : Request) (failed : Bool) (d : Disk) → HasOperated (Write offset zeros) request failed old.present d → AllKeep sum P content floor d = λ request failed d operated.
        clear_keeps sum P page (other a.slot) old.present d image idle
        (operated_base (Write offset zeros) request failed old.present d operated) (operated_since (Write offset zeros) request failed old.present d operated) content floor keeps in
        write_through (AllKeep sum P content floor) old new keeps offset zeros sync answer (λ failed d operated. later (WriteAt offset (length zeros) sync) failed d operated)
        (λ d is operated.
        let request = WriteAt offset (length zeros) true in
        keeps_settle sum P content floor d (settled_disk d) (operated_readable (Write offset zeros) request false old.present d operated image) refl (later request false d operated)) goes

    write_image : (new : Life) → WriteGoes offset zeros false old new (Ok tt) → ReadsImage new
    write_image new (d, is, operated) = subst ReadsImage (sym is) (operated_readable (Write offset zeros) (WriteAt offset (length zeros) false) false old.present d operated image)

    each_floor : (unsynced : Bool) (new : Life) (answer : Result (Unit {0}) Error) → Empties P page (other a.slot) unsynced old new answer → KeepsFloors sum P content old new
    each_floor false new answer goes = write_floors true new answer goes
    each_floor true new (Ok u) (mid, first, second) = floors_joins sum P content old mid new (write_floors false mid (Ok tt) first) (floors_sync sum P content mid new (Ok tt) (write_image mid first) second)
    each_floor true new (Err e) (inl first) = write_floors false new (Err e) first
    each_floor true new (Err e) (inr (mid, first, second)) =
        floors_joins sum P content old mid new (write_floors false mid (Ok tt) first) (floors_sync sum P content mid new (Err e) (write_image mid first) second)

    pub empties_floors : (unsynced : Bool) (new : Life) (answer : Result (Unit {0}) Error) → Empties P page t unsynced old new answer → KeepsFloors sum P content old new
    empties_floors unsynced new answer goes = each_floor unsynced new answer (subst (λ (u : Slot). Empties P page u unsynced old new answer) is_other goes)

  -- ---- the text, where all is durable

  module _ (some : 0 < P) (durable : IsDurable old.present) (are : AreBytes bytes) where
    abbrev told : List ℕ
    told = text sum P old.present.readable

    abbrev Holds : Life → Life → Type 0
    Holds from to = Through (HoldsText sum P told (length told)) from to

    write_holds : (sync : Bool) (new : Life) (answer : Result (Unit {0}) Error) → WriteGoes offset zeros sync old new answer → Holds old new
    write_holds sync new answer goes = mend_holds sum P page a sync old new answer some durable.since durable.base reach are mending.told mending.ends goes

    then_sync : (mid new : Life) (answer : Result (Unit {0}) Error) → WriteGoes offset zeros false old mid (Ok tt) → SyncGoes mid new answer → Holds old new
    then_sync mid new answer first second =
        let held = write_holds false mid (Ok tt) first in
        let done = write_latest offset zeros false old mid tt first (rest_latest old.present durable.since durable.base) in
        through_joins (HoldsText sum P told (length told)) old mid new held
        (sync_holds sum P told (length told) mid new answer second done (through_end (HoldsText sum P told (length told)) old mid held))

    each_holds : (unsynced : Bool) (new : Life) (answer : Result (Unit {0}) Error) → Empties P page (other a.slot) unsynced old new answer → Holds old new
    each_holds false new answer goes = write_holds true new answer goes
    each_holds true new (Ok u) (mid, first, second) = then_sync mid new (Ok tt) first second
    each_holds true new (Err e) (inl first) = write_holds false new (Err e) first
    each_holds true new (Err e) (inr (mid, first, second)) = then_sync mid new (Err e) first second

    pub empties_stay : (unsynced : Bool) (new : Life) (answer : Result (Unit {0}) Error) → Empties P page t unsynced old new answer → StaysThrough sum P told old new
    empties_stay unsynced new answer goes =
        through_then (HoldsText sum P told (length told)) (Stays sum P told old.present) old new (λ d holds. record {
          kept = λ floor enough keeps. holds_keeps sum P told (length told) d holds floor enough;
          only = holds_only sum P told (length told) d holds;
          vouched = holds.vouched;
        })
        (each_holds unsynced new answer (subst (λ (u : Slot). Empties P page u unsynced old new answer) is_other goes))
