-- A read of the open segment, and where a read goes on.
use Rattle.std.specs.Prelude.{◌≡◌, ℕ, List, Some, None, Option, Result, Ok, Err}
use Rattle.std.proofs.Common.{refl, inl, arith}
use Rattle.disk.specs.Disk.{Life}
use Rattle.writer_state.specs.WriterState.{WriterState}
use Rattle.writer_state.specs.Sound.{content}
use Rattle.journal.specs.declared.frame.Found.{Found}
use Rattle.journal.specs.Journal.{ReadRecordGoes}
use Rattle.segments.specs.declared.error.Error.{Error}
use Rattle.segments.specs.declared.error.Error.TheVariants as errors
use Rattle.segments.specs.declared.place.Place.{Place}
use Rattle.segments.specs.Manifest.{open_in}
use Rattle.segments.specs.Owned.{HasJournal, OwnedReadGoes}
use Rattle.segments.specs.Log.{LogReadGoes, LogState}
use Rattle.segments.specs.FrameReads.{EndsBehind, IsReadOf}

pub read_of : (own : List ℕ → ℕ) (held : List ℕ) (offset : ℕ) (old new : Life) (found : Option Found)
    → ReadRecordGoes own held offset old new (Ok found) → IsReadOf own held offset found
read_of own held offset old new None is = is.0
read_of own held offset old new (Some f) is = is.0

-- a frame ends behind its offset
pub read_forward : (own : List ℕ → ℕ) (content : List ℕ) (offset : ℕ) (found : Option Found) → IsReadOf own content offset found → EndsBehind offset found
read_forward own content offset None is = tt
read_forward own content offset (Some f) is = omega (arith, is.after, is.within)

pub reads_by : (own : List ℕ → ℕ) (j k : Option WriterState) (offset : ℕ) (old new : Life) (found : Option Found)
    → HasJournal j (λ w. (k ≡ Some w) × ReadRecordGoes own (content w old.present.readable) offset old new (Ok found))
    → (held : List ℕ) × HasJournal j (λ w. held ≡ content w old.present.readable) × IsReadOf own held offset found
reads_by own None k offset old new found is = absurd is
reads_by own (Some w) k offset old new found is =
    (content w old.present.readable, refl, read_of own (content w old.present.readable) offset old new found is.1)

pub reads_current : (sum own : List ℕ → ℕ) (d : List ℕ → List ℕ) (s t : LogState) (p : Place) (result : Result (Option Found) Error) → p.segment ≡ open_in s.listing
    → OwnedReadGoes own p.offset s.current t.current result → LogReadGoes sum own d s t p result
reads_current sum own d s t p (Ok found) at is =
    inl (at, reads_by own s.current.journal t.current.journal p.offset s.current.life t.current.life found is)
reads_current sum own d s t p (Err (errors.Layer e)) at is = inl (at, is)
reads_current sum own d s t p (Err errors.Closed) at is = (at, is.0)
reads_current sum own d s t p (Err (errors.System e)) at is = absurd is
reads_current sum own d s t p (Err (errors.Unsynced e)) at is = absurd is
reads_current sum own d s t p (Err (errors.Damaged n)) at is = absurd is
reads_current sum own d s t p (Err (errors.Unlisted n)) at is = absurd is
reads_current sum own d s t p (Err (errors.Missing n)) at is = absurd is
reads_current sum own d s t p (Err (errors.Short n)) at is = absurd is
reads_current sum own d s t p (Err (errors.AnotherDigest n)) at is = absurd is
reads_current sum own d s t p (Err (errors.Outdated n)) at is = absurd is
reads_current sum own d s t p (Err errors.Manifest) at is = absurd is
reads_current sum own d s t p (Err (errors.NoSegment n)) at is = absurd is
reads_current sum own d s t p (Err errors.NumbersExhausted) at is = absurd is
reads_current sum own d s t p (Err (errors.NoFrame its byte)) at is = absurd is
reads_current sum own d s t p (Err (errors.Unmarked n)) at is = absurd is
