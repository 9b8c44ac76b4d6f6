-- A whole run with a truncate that ends inside a page, moment by moment: of "ab", which is durable, one byte is to stay. The page is
-- read, and three writes into its footer are each made durable: the checksum of "a" into the second slot, then its length, and then
-- zeros into the first. Pages have 4 bytes, and the checksum is their sum.
use Rattle.std.proofs.Common.{◌≡◌, ◌≤◌, ℕ, List, [], ◌∷◌, ◌++◌, append-nil, length, take, drop, min, refl, sym, ap, subst, ◌∙◌, inl, inr, arith, lit<, true, false}
use Rattle.std.specs.Prelude.{Some, Ok}
use Rattle.disk.specs.Disk.{Disk, HasOperated, Life, life_after, logged, settled_disk}
use Rattle.disk.specs.Disk.Operation.{Write}
use Rattle.disk.specs.Disk.Request.{ReadAt, WriteAt}
use Rattle.page.specs.Page.{slot_bytes}
use Rattle.page.specs.Sums.{add_sum}
use Rattle.page.specs.declared.slot.Slot.TheVariants.{Second}
use Rattle.page.specs.declared.slot.ActiveChecksum.{ActiveChecksum}
use Rattle.crash.specs.Kept.{Each}
use Rattle.crash.specs.Shrink.{HeldBy, HoldsText}
use Rattle.crash.proofs.Disks.{base_is_image, fixed_at_rest, partial_whole}
use Rattle.crash.proofs.Promise.{keeps_at_rest}
use Rattle.writer_state.specs.WriterState.{WriterState}
use Rattle.writer_state.proofs.ShortenLaws.{alike_holds, holds_at_rest, holds_keeps, holds_only, stage_holds, publish_holds, clear_holds}
use Rattle.writer_state.specs.Sound.{IsSound}
use Rattle.writer_state.proofs.Soundness.{sound_leaves}
use Rattle.writer_state.proofs.Examples.{at_rest, and_then}
use Rattle.paged.specs.Recovers.{IsRecovered}
use Rattle.session.specs.declared.steps.Step.TheVariants.{Truncate}
use Rattle.session.specs.declared.steps.Reply.TheVariants.{Length}
use Rattle.session.specs.Run.{RunState, SessionState, Represents}
use Rattle.session.specs.Promise.{ComesBack, Survives, EachStepIsExact, RunIsExact, Promises, session_of, fresh}
use Rattle.session.specs.Promise.ComesBack.{recovered}
use Rattle.session.proofs.PromiseLaws.{survives}
use Rattle.session.proofs.StepLaws.{keeps_fewer, through_each}
use Rattle.session.proofs.ComesBackExamples.{ab, ab_page, ab_slot, ab_writer, a_cache, empty, empty_durable, empty_writer, empty_writer_sound, life_of, rests, saved, saved_keeps}
use Rattle.session.proofs.PromiseExamples.{ab_stands, same_standing, no_covers, told_by}

-- ---- the disks

-- a write that was asked to be durable, and then is
abbrev done_once : ℕ → List ℕ → Disk → Disk
done_once offset bytes d = and_then (Write offset bytes) (WriteAt offset (length bytes) true) d

-- the page was read
abbrev pub was_read : Disk
was_read = logged (ReadAt 0 16) false saved

-- the second slot has the checksum of "a", and no length
abbrev pub staged_a : Disk
staged_a = done_once 10 (0 ∷ 0 ∷ 0 ∷ 0 ∷ 0 ∷ 97 ∷ []) was_read

-- then the second slot has its length: from here on one slot holds "ab" and the other "a"
abbrev pub published_a : Disk
published_a = done_once 10 (0 ∷ 1 ∷ []) (settled_disk staged_a)

-- then the first slot is emptied, and the page holds "a"
abbrev pub cleared_ab : Disk
cleared_ab = done_once 4 (0 ∷ 0 ∷ 0 ∷ 0 ∷ 0 ∷ 0 ∷ []) (settled_disk published_a)

abbrev pub a_saved : Disk
a_saved = settled_disk cleared_ab

abbrev pub inside : List Disk
inside = was_read ∷ staged_a ∷ settled_disk staged_a ∷ published_a ∷ settled_disk published_a ∷ cleared_ab ∷ a_saved ∷ []

abbrev pub a : List ℕ
a = 97 ∷ []

abbrev pub a_slot : ActiveChecksum
a_slot = record { slot = Second; len = 1; crc = 97 }

-- ---- what holds at each of them

written : (offset : ℕ) (bytes : List ℕ) (d : Disk) → HasOperated (Write offset bytes) (WriteAt offset (length bytes) true) false d (done_once offset bytes d)
written offset bytes d = record { readable = partial_whole (Write offset bytes) d.readable; done = λ fine. refl; rest = refl }

-- a page at rest holds "ab" by its first slot, or "a" by its second
holds_ab : (d : Disk) → d.since ≡ [] → 16 ≤ length d.base → take 2 (drop 0 d.base) ≡ ab → take 6 (drop 4 d.base) ≡ slot_bytes 2 195 → HeldBy add_sum 4 ab 0 ab_slot d
holds_ab d since long payload slot = record {
  pages = λ p below. absurd (omega (arith, below));
  guard = record {
    there = omega arith;
    held = record {
      some = omega arith;
      fits = omega arith;
      payload = fixed_at_rest d 0 ab since (omega (arith, long)) payload;
      is_slot = record { size = refl; len = refl; crc = refl };
      fixed_slot = fixed_at_rest d 4 (slot_bytes 2 195) since (omega (arith, long)) slot;
      end = fixed_at_rest d 16 [] since (omega (arith, long)) refl;
    };
  };
}

holds_a : (d : Disk) → d.since ≡ [] → 16 ≤ length d.base → take 1 (drop 0 d.base) ≡ a → take 6 (drop 10 d.base) ≡ slot_bytes 1 97 → HeldBy add_sum 4 ab 0 a_slot d
holds_a d since long payload slot = record {
  pages = λ p below. absurd (omega (arith, below));
  guard = record {
    there = omega arith;
    held = record {
      some = omega arith;
      fits = omega arith;
      payload = fixed_at_rest d 0 a since (omega (arith, long)) payload;
      is_slot = record { size = refl; len = refl; crc = refl };
      fixed_slot = fixed_at_rest d 10 (slot_bytes 1 97) since (omega (arith, long)) slot;
      end = fixed_at_rest d 16 [] since (omega (arith, long)) refl;
    };
  };
}

-- "a" is held at each moment, and there is nothing but "ab"
as_it_is_read : HoldsText add_sum 4 ab 1 was_read
as_it_is_read = alike_holds add_sum 4 ab 1 saved was_read refl refl (holds_at_rest add_sum 4 ab_page 1 saved (omega arith) refl refl (omega arith))

as_it_is_staged : Each (HoldsText add_sum 4 ab 1) (staged_a ∷ settled_disk staged_a ∷ [])
as_it_is_staged =
    let old : Life = life_of was_read in
    let new : Life = life_after old (staged_a ∷ settled_disk staged_a ∷ []) in
    through_each (HoldsText add_sum 4 ab 1) old new (staged_a ∷ settled_disk staged_a ∷ [])
    (stage_holds add_sum 4 ab 1 0 ab_slot 97 true old new (Ok tt) (staged_a, refl, written 10 (0 ∷ 0 ∷ 0 ∷ 0 ∷ 0 ∷ 97 ∷ []) was_read) (omega arith) refl (inr (ab_slot, holds_ab was_read refl (omega arith) refl refl, refl, omega arith)) as_it_is_read) refl

as_it_is_published : Each (HoldsText add_sum 4 ab 1) (published_a ∷ settled_disk published_a ∷ [])
as_it_is_published =
    let old : Life = life_of (settled_disk staged_a) in
    let new : Life = life_after old (published_a ∷ settled_disk published_a ∷ []) in
    through_each (HoldsText add_sum 4 ab 1) old new (published_a ∷ settled_disk published_a ∷ [])
    (publish_holds add_sum 4 ab 1 0 ab_slot 1 97 true old new (Ok tt) (published_a, refl, written 10 (0 ∷ 1 ∷ []) (settled_disk staged_a)) (omega arith) refl (omega arith) (lit< tt) (lit< tt) refl refl (λ reached. refl)
    (inr (ab_slot, holds_ab (settled_disk staged_a) refl (omega arith) refl refl, refl, omega arith)) as_it_is_staged.1.0) refl

as_it_is_cleared : Each (HoldsText add_sum 4 ab 1) (cleared_ab ∷ a_saved ∷ [])
as_it_is_cleared =
    let old : Life = life_of (settled_disk published_a) in
    let new : Life = life_after old (cleared_ab ∷ a_saved ∷ []) in
    through_each (HoldsText add_sum 4 ab 1) old new (cleared_ab ∷ a_saved ∷ [])
    (clear_holds add_sum 4 ab 1 0 ab_slot true old new (Ok tt) (cleared_ab, refl, written 4 (0 ∷ 0 ∷ 0 ∷ 0 ∷ 0 ∷ 0 ∷ []) (settled_disk published_a)) (omega arith) refl
    (inr (a_slot, holds_a (settled_disk published_a) refl (omega arith) refl refl, refl, omega arith)) as_it_is_published.1.0) refl

-- so it survives with a floor up to one, of "ab" or of "a"
it_survives : (d : Disk) (floor : ℕ) → floor ≤ 1 → HoldsText add_sum 4 ab 1 d → Survives add_sum 4 ab a floor d
it_survives d floor few holds =
    survives add_sum 4 ab a floor d (omega arith) (holds_keeps add_sum 4 ab 1 d holds floor few) (record { only = λ image is_image free. inl (holds_only add_sum 4 ab 1 d holds image is_image free); vouched = holds.vouched })

ab_survives : (other : List ℕ) (floor : ℕ) → floor ≤ 2 → Survives add_sum 4 ab other floor saved
ab_survives other floor few = survives add_sum 4 ab other floor saved few (keeps_fewer add_sum 4 ab floor 2 saved few saved_keeps) (rests ab other ab saved refl refl refl)

pub a_survives : Survives add_sum 4 a a 1 a_saved
a_survives = survives add_sum 4 a a 1 a_saved (omega arith) (keeps_at_rest add_sum 4 a_saved refl) (rests a a a a_saved refl refl refl)

pub inside_survives : (floor : ℕ) → floor ≤ 1 → Each (Survives add_sum 4 ab a floor) (saved ∷ inside)
inside_survives floor few = (
  ab_survives a floor (omega arith),
  (
    it_survives was_read floor few as_it_is_read,
    (
      it_survives staged_a floor few as_it_is_staged.0,
      (
        it_survives (settled_disk staged_a) floor few as_it_is_staged.1.0,
        (
          it_survives published_a floor few as_it_is_published.0,
          (it_survives (settled_disk published_a) floor few as_it_is_published.1.0, (it_survives cleared_ab floor few as_it_is_cleared.0, (it_survives a_saved floor few as_it_is_cleared.1.0, tt))),
        ),
      ),
    ),
  ),
)

-- ---- the run

abbrev ab_with : (floor : ℕ) → RunState
ab_with floor = record (fresh 4 8 ab) { floor = floor }

pub a_cut_inside_tells : (floor : ℕ) → floor ≤ 2 → EachStepIsExact add_sum 4 (Truncate 1 ∷ []) (Length 1 ∷ []) saved inside (ab_with floor) (fresh 4 8 a)
a_cut_inside_tells floor few = (ab_survives ab floor few, inside, [], refl, fresh 4 8 a, ((refl, refl), (λ over. absurd over, λ passes. absurd passes)), inside_survives (min 1 floor) (omega arith), (refl, refl, a_survives))

-- the writer of "a"
abbrev pub a_writer : WriterState
a_writer = record ab_writer { tip = a; flushed = Some a_slot; durable = Some a_slot }

pub a_stands : Represents add_sum 4 (session_of a_writer) (fresh 4 8 a) a_saved
a_stands = record {
  fits = record { page_size = refl; has_writer = refl; content = refl; otherwise = refl; capacity = refl; buffered = refl; within = omega arith; written = refl; awaited = refl };
  phase = refl;
  names = λ name. refl;
  floor = omega arith;
  within = λ k x lt. absurd (omega (arith, lt));
  kept = keeps_at_rest add_sum 4 a_saved refl;
  covered = λ k x lt. absurd (omega (arith, lt));
  only = rests a a a a_saved refl refl refl;
  snapshots = refl;
  replays = refl;
}

ab_stood_for : (P : ℕ) (before : RunState) → Represents add_sum P (session_of ab_writer) before saved → (P ≡ 4) × (before ≡ ab_with before.floor) × (before.floor ≤ 2)
ab_stood_for P before stands = (
  sym stands.fits.page_size,
  same_standing before (ab_with before.floor) stands.fits.has_writer (sym stands.phase) stands.fits.content refl (stands.fits.otherwise ∙ stands.fits.content) (sym stands.fits.capacity) (sym stands.fits.buffered) stands.fits.written stands.fits.awaited
      (no_covers before.covers stands.names) stands.snapshots stands.replays,
  omega (arith, stands.floor, ap length stands.fits.content),
)

a_cut_inside_is_told : (floor : ℕ) → floor ≤ 2 → RunIsExact add_sum 4 (Truncate 1 ∷ []) (session_of a_writer) (life_of saved) (life_after (life_of saved) inside) [] (Length 1 ∷ []) (ab_with floor)
a_cut_inside_is_told floor few = record { added = Length 1 ∷ []; adds = refl; moments = inside; goes = refl; after = fresh 4 8 a; tells = a_cut_inside_tells floor few; stands = a_stands }

-- "ab" is cut to "a": that is promised
pub a_promise_of_a_cut_inside : Promises add_sum (Truncate 1 ∷ []) (session_of ab_writer) (session_of a_writer) (life_of saved) (life_after (life_of saved) inside) [] (Length 1 ∷ [])
a_promise_of_a_cut_inside P before stands =
    let stood = ab_stood_for P before stands in
    subst (λ (n : ℕ). RunIsExact add_sum n (Truncate 1 ∷ []) (session_of a_writer) (life_of saved) (life_after (life_of saved) inside) [] (Length 1 ∷ []) before) (sym stood.0)
    (subst (λ (s : RunState). RunIsExact add_sum 4 (Truncate 1 ∷ []) (session_of a_writer) (life_of saved) (life_after (life_of saved) inside) [] (Length 1 ∷ []) s) (sym stood.1) (a_cut_inside_is_told before.floor stood.2))

-- ---- a run for which it doesn't hold

-- the first slot was emptied before the second had a length: "ab" stands under no slot
abbrev pub blank : Disk
blank = at_rest (97 ∷ 98 ∷ 0 ∷ 0 ∷ 0 ∷ 0 ∷ 0 ∷ 0 ∷ 0 ∷ 0 ∷ 0 ∷ 0 ∷ 0 ∷ 0 ∷ 0 ∷ 97 ∷ [])

blank_recovered : IsRecovered add_sum a_cache 8 (life_of blank) (life_of empty) empty_writer
unfolding IsSound
blank_recovered = record {
  state = refl;
  sound = empty_writer_sound;
  page_size = refl;
  size = refl;
  only = sound_leaves add_sum empty_writer empty empty_writer_sound;
  content = refl;
  readable = refl;
  durable = empty_durable;
  settled = record { clean = refl; short = omega arith; flushed = refl };
  log = ([], refl);
}

-- so a recovery gives nothing
pub nothing_comes_back_of_it : ComesBack add_sum 4 true blank []
nothing_comes_back_of_it = recovered blank [] (record {
  old = life_of blank;
  new = life_of empty;
  cache = a_cache;
  capacity = 8;
  writer = empty_writer;
  began = refl;
  page_size = refl;
  recovers = blank_recovered;
  content = refl;
  image = base_is_image blank;
  durable = λ asked. record { since = refl; base = refl };
})

-- and no truncate goes so, though "a" is there at its end
pub no_slot_is_emptied_first : (after : RunState) → EachStepIsExact add_sum 4 (Truncate 1 ∷ []) (Length 1 ∷ []) saved (was_read ∷ blank ∷ a_saved ∷ []) (ab_with 2) after → ⊥
no_slot_is_emptied_first after told =
    let moments : List Disk = was_read ∷ blank ∷ a_saved ∷ [] in
    let all : told.1 ≡ moments = sym (told.3 ∙ ap (λ (l : List Disk). told.1 ++ l) told.7.0 ∙ append-nil told.1) in
    let each : Each (Survives add_sum 4 ab a 1) (saved ∷ moments) = subst (λ (l : List Disk). Each (Survives add_sum 4 ab a 1) (saved ∷ l)) all told.6 in
    omega (arith, ap length (each.1.1.0.kept true [] nothing_comes_back_of_it))

pub no_promise_of_a_slot_emptied_first : (now : SessionState) → Promises add_sum (Truncate 1 ∷ []) (session_of ab_writer) now (life_of saved) (life_after (life_of saved) (was_read ∷ blank ∷ a_saved ∷ [])) [] (Length 1 ∷ []) → ⊥
no_promise_of_a_slot_emptied_first now promise =
    let told = told_by saved (ab_with 2) (Truncate 1 ∷ []) now (Length 1 ∷ []) (was_read ∷ blank ∷ a_saved ∷ []) (promise 4 (ab_with 2) ab_stands) in
    no_slot_is_emptied_first told.0 told.1
