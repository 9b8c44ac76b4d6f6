-- A walk through the frames of the open segment.
use Rattle.std.specs.Prelude.{◌≡◌, ◌<◌, ◌≤◌, ◌+◌, ◌-◌, ℕ, suc, List, length, drop, min, Option, Some, None, Ok, Err}
use Rattle.std.proofs.Common.{sym, ◌∙◌, ap, subst, arith}
use Rattle.disk.specs.Disk.{Life}
use Rattle.writer_state.specs.WriterState.{WriterState}
use Rattle.writer_state.specs.Sound.{content}
use Rattle.journal.specs.declared.frame.Found.{Found}
use Rattle.journal.specs.Frame.{frame_len}
use Rattle.journal.specs.Journal.{IsFound, ReadRecordGoes}
use Rattle.segments.specs.declared.error.Error.{Error}
use Rattle.segments.specs.declared.error.Error.TheVariants as errors
use Rattle.segments.specs.FrameReads.{IsReadOf}
use Rattle.segments.specs.Log.{LeavesReading, LogState}
use Rattle.segments.specs.Marks.{frame_begin}
use Rattle.segments.specs.Nth.{NthOfOpenGoes}
use Rattle.segments.specs.Owned.{HasJournal, OwnedReadGoes, content_now, content_of}
use Rattle.segments.specs.PagedReads.{IsNthOffset}
use Rattle.segments.proofs.Begins.{begins_in_order}
use Rattle.segments.proofs.Readings.{read_of}

-- so many frames are left of the walk to frame n: the next one begins there, or the content ends
pub record IsWalking (content : List ℕ) (n left at : ℕ) : Type 0 where
  pub few : left ≤ n
  pub there : at ≡ min (frame_begin content (n - left)) (length content)

pub walk_begins : (content : List ℕ) (n : ℕ) → IsWalking content n n 0
walk_begins content n =
    let none : n - n ≡ 0 = omega arith in
    record { few = omega arith; there = subst (λ (k : ℕ). 0 ≡ min (frame_begin content k) (length content)) (sym none) (omega arith) }

walk_on : (own : List ℕ → ℕ) (content : List ℕ) (n left at : ℕ) (f : Found) → 0 < left → IsWalking content n left at → IsFound own content at f.bytes f.end → IsWalking content n (left - 1) f.end
walk_on own content n left at f some is found =
    let few = is.few in
    let there = is.there in
    let within = found.within in
    let after = found.after in
    let here : at ≡ frame_begin content (n - left) = omega (arith, there, within) in
    let next : n - (left - 1) ≡ suc (n - left) = omega (arith, few, some) in
    let step : frame_begin content (suc (n - left)) ≡ at + frame_len (drop at content) = ap (λ (k : ℕ). k + frame_len (drop k content)) (sym here) in
    let end : f.end ≡ min (frame_begin content (suc (n - left))) (length content) = omega (arith, after, within, step) in
    record { few = omega (arith, few); there = subst (λ (k : ℕ). f.end ≡ min (frame_begin content k) (length content)) (sym next) end }

walk_ends : (own : List ℕ → ℕ) (content : List ℕ) (n left at : ℕ) (f : Found) → left ≡ 0 → IsWalking content n left at → IsFound own content at f.bytes f.end → IsNthOffset content n (Some at)
walk_ends own content n left at f none is found =
    let there = is.there in
    let within = found.within in
    let all : n - left ≡ n = omega (arith, none) in
    let here : at ≡ min (frame_begin content n) (length content) = subst (λ (k : ℕ). at ≡ min (frame_begin content k) (length content)) all there in
    (omega (arith, here, within), within)

walk_stops : (content : List ℕ) (n left at : ℕ) → IsWalking content n left at → length content ≤ at → IsNthOffset content n None
walk_stops content n left at is long =
    let there = is.there in
    let order : frame_begin content (n - left) ≤ frame_begin content n = begins_in_order content (n - left) n (omega arith) in
    omega (arith, there, long, order)

-- ---- the same, of the open segment

opened : (own : List ℕ → ℕ) (j k : Option WriterState) (offset : ℕ) (old new : Life) (found : Option Found)
    → HasJournal j (λ w. (k ≡ Some w) × ReadRecordGoes own (content w old.present.readable) offset old new (Ok found)) → HasJournal j (λ w. Unit {0}) × IsReadOf own (content_of j old) offset found
opened own None k offset old new found is = absurd is
opened own (Some w) k offset old new found is = (tt, read_of own (content w old.present.readable) offset old new found is.1)

-- a read of the open segment, after others
pub read_open : (sum own : List ℕ → ℕ) (s m t : LogState) (at : ℕ) (found : Option Found) → LeavesReading sum own s m → OwnedReadGoes own at m.current t.current (Ok found)
    → HasJournal s.current.journal (λ w. Unit {0}) × IsReadOf own (content_now s.current) at found
read_open sum own s m t at found leaves is =
    let read = opened own m.current.journal t.current.journal at m.current.life t.current.life found is in
    (subst (λ (j : Option WriterState). HasJournal j (λ w. Unit {0})) leaves.journal read.0, subst (λ (c : List ℕ). IsReadOf own c at found) leaves.holds read.1)

pub open_on : (sum own : List ℕ → ℕ) (s m t : LogState) (n left at : ℕ) (f : Found) → 0 < left → LeavesReading sum own s m → IsWalking (content_now s.current) n left at → OwnedReadGoes own at m.current t.current (Ok (Some f))
    → IsWalking (content_now s.current) n (left - 1) f.end
open_on sum own s m t n left at f some leaves is goes = walk_on own (content_now s.current) n left at f some is (read_open sum own s m t at (Some f) leaves goes).1

pub open_ends : (sum own : List ℕ → ℕ) (s m t u : LogState) (n left at : ℕ) (f : Found) → left ≡ 0 → LeavesReading sum own s m → IsWalking (content_now s.current) n left at → OwnedReadGoes own at m.current t.current (Ok (Some f))
    → NthOfOpenGoes sum own s u n (Ok (Some at))
open_ends sum own s m t u n left at f none leaves is goes =
    let read = read_open sum own s m t at (Some f) leaves goes in
    (read.0, walk_ends own (content_now s.current) n left at f none is read.1)

pub open_stops : (sum own : List ℕ → ℕ) (s m t u : LogState) (n left at : ℕ) → LeavesReading sum own s m → IsWalking (content_now s.current) n left at → OwnedReadGoes own at m.current t.current (Ok None)
    → NthOfOpenGoes sum own s u n (Ok None)
open_stops sum own s m t u n left at leaves is goes =
    let read = read_open sum own s m t at None leaves goes in
    (read.0, walk_stops (content_now s.current) n left at is read.1)

pub open_fails : (sum own : List ℕ → ℕ) (s m t : LogState) (n at : ℕ) (e : Error) → LeavesReading sum own s m → OwnedReadGoes own at m.current t.current (Err e) → NthOfOpenGoes sum own s t n (Err e)
open_fails sum own s m t n at (errors.Layer e) leaves is = record { mid = m; at = at; before = leaves; fails = is }
open_fails sum own s m t n at errors.Closed leaves is = sym leaves.journal ∙ is.0
open_fails sum own s m t n at (errors.NoSegment k) leaves is = absurd is
open_fails sum own s m t n at (errors.System e) leaves is = absurd is
open_fails sum own s m t n at (errors.Damaged k) leaves is = absurd is
open_fails sum own s m t n at (errors.Unsynced e) leaves is = absurd is
open_fails sum own s m t n at (errors.Unlisted k) leaves is = absurd is
open_fails sum own s m t n at (errors.Missing k) leaves is = absurd is
open_fails sum own s m t n at (errors.Short k) leaves is = absurd is
open_fails sum own s m t n at (errors.AnotherDigest k) leaves is = absurd is
open_fails sum own s m t n at (errors.Outdated k) leaves is = absurd is
open_fails sum own s m t n at errors.Manifest leaves is = absurd is
open_fails sum own s m t n at (errors.NoFrame k b) leaves is = absurd is
open_fails sum own s m t n at (errors.Unmarked k) leaves is = absurd is
open_fails sum own s m t n at errors.NumbersExhausted leaves is = absurd is
