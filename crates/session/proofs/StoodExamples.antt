-- What is promised of a session that was given the name of a started sync, or a snapshot; and what isn't. Pages have 4 bytes, and
-- the checksum is their sum.
use Rattle.std.proofs.Common.{◌≡◌, ◌≤◌, ℕ, zero, suc, Vec, List, [], ◌∷◌, length, refl, sym, ap, subst, ◌∙◌, arith, false}
use Rattle.std.specs.Prelude.{Some, None, All, get_or}
use Rattle.std.specs.declared.alloc.Global.{Global}
use Rattle.std.proofs.lemmas.Bool.{false≢true}
use Rattle.disk.specs.Disk.{disk_settled_to, life_after}
use Rattle.page.specs.Sums.{add_sum}
use Rattle.crash.specs.Started.{WouldKeep}
use Rattle.crash.proofs.Disks.{base_is_image}
use Rattle.crash.proofs.Promise.{keeps_at_rest, keeps_nothing}
use Rattle.writer_state.specs.WriterState.{WriterState}
use Rattle.writer_state.specs.declared.sync_state.SyncState.TheVariants.{Clean, Pending}
use Rattle.writer_state.proofs.Examples.{durable, six, seven, all_keep}
use Rattle.paged_read.specs.Tail.{Tail}
use Rattle.session.specs.declared.steps.Step.TheVariants.{Wait, Snap}
use Rattle.session.specs.declared.steps.Reply.TheVariants.{Done, Bytes}
use Rattle.session.specs.Run.{RunState, SessionState, Represents, AllCover, raised, raised_floor, after_wait}
use Rattle.session.specs.Promise.{EachStepIsExact, RunIsExact, Promises, session_of, fresh}
use Rattle.session.proofs.PromiseLaws.{survives}
use Rattle.session.proofs.StepLaws.{keeps_fewer, raise_within}
use Rattle.session.proofs.ComesBackExamples.{ab, ab_page, life_of, ab_writer, rests, six_writer}
use Rattle.session.proofs.PromiseExamples.{same_standing, no_covers, told_by}
use Rattle.session.proofs.RefusedExamples.{alike, started, complete, ab_started, complete_survives, no_wait_in_vain}
use Rattle.session.proofs.CutExamples.{six_survive}

-- ---- a started sync

-- "ab" was written, a sync of it was started, and the session has its name
abbrev pub ab_waits : WriterState
ab_waits = record ab_writer { durable = None; sync = Pending 0 }

abbrev pub waiting : SessionState
waiting = record (session_of ab_waits) { names = 0 ∷ [] }

-- were that sync complete, every crash would keep "ab"
it_would_keep : (cover : ℕ) → cover ≤ 2 → WouldKeep add_sum 4 ab 0 cover started
it_would_keep cover few = record { covers = (1, ab_page); named = refl; keeps = keeps_fewer add_sum 4 ab cover 2 (disk_settled_to (1, ab_page) started) few (keeps_at_rest add_sum 4 (disk_settled_to (1, ab_page) started) refl) }

pub it_stands_with_a_cover : Represents add_sum 4 waiting ab_started started
it_stands_with_a_cover = record {
  fits = record { page_size = refl; has_writer = refl; content = refl; otherwise = refl; capacity = refl; buffered = refl; within = omega arith; written = refl; awaited = refl };
  phase = refl;
  names = λ name. refl;
  floor = omega arith;
  within = within;
  kept = keeps_nothing add_sum 4 ab started;
  covered = covered;
  only = (alike started refl refl).1;
  snapshots = refl;
  replays = refl;
}
  where
    within : All (λ (c : ℕ × ℕ). c.1 ≤ 2) ((0, 2) ∷ [])
    within zero c lt = omega arith
    within (suc k) c lt = absurd (omega (arith, lt))

    covered : AllCover add_sum 4 ab ((0, 2) ∷ []) started
    covered zero c lt = it_would_keep 2 (omega arith)
    covered (suc k) c lt = absurd (omega (arith, lt))

-- no session stands for a floor of what the sync covers before the wait
pub no_floor_before_the_wait : (session : SessionState) → Represents add_sum 4 session (record ab_started { floor = 2 }) started → ⊥
no_floor_before_the_wait session stands = omega (arith, ap length (stands.kept.kept [] (base_is_image started)))

-- no session stands for more than the sync covers
pub no_cover_of_more : (session : SessionState) → Represents add_sum 4 session (record ab_started { covers = (0, 3) ∷ [] }) started → ⊥
no_cover_of_more session stands = absurd (omega (arith, stands.within 0 (0, 3) (omega arith)))

-- nor for a name that the session wasn't given
pub no_cover_without_a_name : Represents add_sum 4 (record waiting { names = [] }) ab_started started → ⊥
no_cover_without_a_name stands = absurd (false≢true (stands.names 0))

-- that session can stand for any floor and covers that the disk has
abbrev waiting_with : (floor : ℕ) → List (ℕ × ℕ) → RunState
waiting_with floor covers = record ab_started { floor = floor; covers = covers }

it_waits_for : (P : ℕ) (before : RunState) → Represents add_sum P waiting before started → (P ≡ 4) × (before ≡ waiting_with before.floor before.covers)
it_waits_for P before stands = (
  sym stands.fits.page_size,
  same_standing before (waiting_with before.floor before.covers) stands.fits.has_writer (sym stands.phase) stands.fits.content refl (stands.fits.otherwise ∙ stands.fits.content) (sym stands.fits.capacity) (sym stands.fits.buffered) stands.fits.written
      stands.fits.awaited refl stands.snapshots stands.replays,
)

-- once the sync was waited for, what it covers is durable, and the writer waits for nothing
abbrev pub has_waited : SessionState
has_waited = record waiting { writer = Some (record ab_waits { sync = Clean }) }

-- what the sync would have kept, it would still keep
still_covered : (name cover : ℕ) → cover ≤ 2 → WouldKeep add_sum 4 ab name cover started → WouldKeep add_sum 4 ab name cover complete
still_covered zero cover few would = record { covers = (1, ab_page); named = refl; keeps = keeps_fewer add_sum 4 ab cover 2 (disk_settled_to (1, ab_page) complete) few (keeps_at_rest add_sum 4 (disk_settled_to (1, ab_page) complete) refl) }
still_covered (suc name) cover few would = absurd (cc would.named)

a_wait_is_told : (floor : ℕ) (covers : List (ℕ × ℕ)) → Represents add_sum 4 waiting (waiting_with floor covers) started → RunIsExact add_sum 4 (Wait ∷ []) has_waited (life_of started) (life_after (life_of started) (complete ∷ [])) [] (Done ∷ []) (waiting_with floor covers)
a_wait_is_told floor covers stands =
    let few : raised_floor complete covers floor ≤ 2 = raise_within complete covers floor 2 stands.floor stands.within in
    let first = survives add_sum 4 ab ab floor started stands.floor stands.kept stands.only in
    record {
      added = Done ∷ [];
      adds = refl;
      moments = complete ∷ [];
      goes = refl;
      after = raised complete (after_wait (waiting_with floor covers));
      tells = (
        first,
        complete ∷ [],
        [],
        refl,
        after_wait (waiting_with floor covers),
        ((refl, refl), (λ over. absurd over, λ passes. absurd passes)),
        (first, (complete_survives floor stands.floor, tt)),
        (refl, refl, complete_survives (raised_floor complete covers floor) few),
      );
      stands = record {
        fits = record { page_size = refl; has_writer = refl; content = refl; otherwise = refl; capacity = refl; buffered = refl; within = omega arith; written = refl; awaited = refl };
        phase = refl;
        names = stands.names;
        floor = few;
        within = stands.within;
        kept = keeps_fewer add_sum 4 ab (raised_floor complete covers floor) 2 complete few (keeps_at_rest add_sum 4 complete refl);
        covered = λ k x lt. still_covered (get_or covers k x).0 (get_or covers k x).1 (stands.within k x lt) (stands.covered k x lt);
        only = rests ab ab ab complete refl refl refl;
        snapshots = refl;
        replays = refl;
      };
    }

-- a wait for that sync keeps the promise, whatever the floor was
pub a_promise_of_a_wait : Promises add_sum (Wait ∷ []) waiting has_waited (life_of started) (life_after (life_of started) (complete ∷ [])) [] (Done ∷ [])
a_promise_of_a_wait P before stands =
    let stood = it_waits_for P before stands in
    let four : Represents add_sum 4 waiting before started = subst (λ (n : ℕ). Represents add_sum n waiting before started) stood.0 stands in
    let so : Represents add_sum 4 waiting (waiting_with before.floor before.covers) started = subst (λ (s : RunState). Represents add_sum 4 waiting s started) stood.1 four in
    subst (λ (n : ℕ). RunIsExact add_sum n (Wait ∷ []) has_waited (life_of started) (life_after (life_of started) (complete ∷ [])) [] (Done ∷ []) before) (sym stood.0)
    (subst (λ (s : RunState). RunIsExact add_sum 4 (Wait ∷ []) has_waited (life_of started) (life_after (life_of started) (complete ∷ [])) [] (Done ∷ []) s) (sym stood.1) (a_wait_is_told before.floor before.covers so))

-- the promise isn't kept where nothing became durable
pub no_promise_of_a_wait_in_vain : (now : SessionState) → Promises add_sum (Wait ∷ []) waiting now (life_of started) (life_of started) [] (Done ∷ []) → ⊥
no_promise_of_a_wait_in_vain now promise =
    let told = told_by started ab_started (Wait ∷ []) now (Done ∷ []) [] (promise 4 ab_started it_stands_with_a_cover) in
    no_wait_in_vain told.0 told.1

-- ---- a snapshot

-- a session that appends to "abcdef", with a snapshot of it: a full page, and two bytes in memory
abbrev pub six_tail : Tail
six_tail = record { page_size = 4; id = 0; full_pages = 1; bytes = 101 ∷ 102 ∷ [] }

abbrev pub with_a_snapshot : SessionState
with_a_snapshot = record (session_of six_writer) { recovering = false; snapshots = Some six_tail ∷ [] }

abbrev pub six_noted : (floor : ℕ) → RunState
six_noted floor = record (fresh 4 8 six) { recovering = false; floor = floor; snapshots = Some six ∷ [] }

pub it_stands_with_a_snapshot : Represents add_sum 4 with_a_snapshot (six_noted 6) durable
it_stands_with_a_snapshot = record {
  fits = record { page_size = refl; has_writer = refl; content = refl; otherwise = refl; capacity = refl; buffered = refl; within = omega arith; written = refl; awaited = refl };
  phase = refl;
  names = λ name. refl;
  floor = omega arith;
  within = λ k x lt. absurd (omega (arith, lt));
  kept = all_keep;
  covered = λ k x lt. absurd (omega (arith, lt));
  only = rests six six six durable refl refl refl;
  snapshots = refl;
  replays = refl;
}

-- it stands for no snapshot of "abcdefg", and for none where it was let go
pub no_other_snapshot : Represents add_sum 4 with_a_snapshot (record (six_noted 6) { snapshots = Some seven ∷ [] }) durable → ⊥
no_other_snapshot stands = absurd (cc stands.snapshots)

pub no_snapshot_let_go : Represents add_sum 4 with_a_snapshot (record (six_noted 6) { snapshots = None ∷ [] }) durable → ⊥
no_snapshot_let_go stands = absurd (cc stands.snapshots)

noted_for : (P : ℕ) (before : RunState) → Represents add_sum P with_a_snapshot before durable → (P ≡ 4) × (before ≡ six_noted before.floor)
noted_for P before stands = (
  sym stands.fits.page_size,
  same_standing before (six_noted before.floor) stands.fits.has_writer (sym stands.phase) stands.fits.content refl (stands.fits.otherwise ∙ stands.fits.content) (sym stands.fits.capacity) (sym stands.fits.buffered) stands.fits.written stands.fits.awaited
      (no_covers before.covers stands.names) stands.snapshots stands.replays,
)

-- two bytes of the snapshot are read, one of its page and one in memory: "de"
a_snap_is_told : (bytes : Vec ℕ Global) (floor : ℕ) → bytes.items ≡ 100 ∷ 101 ∷ [] → Represents add_sum 4 with_a_snapshot (six_noted floor) durable → RunIsExact add_sum 4 (Snap 0 3 2 ∷ []) with_a_snapshot (life_of durable) (life_of durable) [] (Bytes bytes ∷ []) (six_noted floor)
a_snap_is_told bytes floor is stands =
    let all = six_survive six floor stands.floor in
    record {
      added = Bytes bytes ∷ [];
      adds = refl;
      moments = [];
      goes = refl;
      after = six_noted floor;
      tells = (all, [], [], refl, six_noted floor, (((omega arith, is), refl), (λ over. absurd (omega (arith, over)), λ passes. absurd (omega (arith, passes.1)))), (all, tt), (refl, refl, all));
      stands = stands;
    }

pub a_promise_of_a_snap : (bytes : Vec ℕ Global) → bytes.items ≡ 100 ∷ 101 ∷ [] → Promises add_sum (Snap 0 3 2 ∷ []) with_a_snapshot with_a_snapshot (life_of durable) (life_of durable) [] (Bytes bytes ∷ [])
a_promise_of_a_snap bytes is P before stands =
    let stood = noted_for P before stands in
    let four : Represents add_sum 4 with_a_snapshot before durable = subst (λ (n : ℕ). Represents add_sum n with_a_snapshot before durable) stood.0 stands in
    let so : Represents add_sum 4 with_a_snapshot (six_noted before.floor) durable = subst (λ (s : RunState). Represents add_sum 4 with_a_snapshot s durable) stood.1 four in
    subst (λ (n : ℕ). RunIsExact add_sum n (Snap 0 3 2 ∷ []) with_a_snapshot (life_of durable) (life_of durable) [] (Bytes bytes ∷ []) before) (sym stood.0)
    (subst (λ (s : RunState). RunIsExact add_sum 4 (Snap 0 3 2 ∷ []) with_a_snapshot (life_of durable) (life_of durable) [] (Bytes bytes ∷ []) s) (sym stood.1) (a_snap_is_told bytes before.floor is so))

-- a read of the bytes after them keeps no promise
pub no_promise_of_another_snap : (bytes : Vec ℕ Global) (now : SessionState) → bytes.items ≡ 101 ∷ 102 ∷ [] → Promises add_sum (Snap 0 3 2 ∷ []) with_a_snapshot now (life_of durable) (life_of durable) [] (Bytes bytes ∷ []) → ⊥
no_promise_of_another_snap bytes now are promise =
    let told = told_by durable (six_noted 6) (Snap 0 3 2 ∷ []) now (Bytes bytes ∷ []) [] (promise 4 (six_noted 6) it_stands_with_a_snapshot) in
    by_slice told.0 told.1
  where
    by_slice : (after : RunState) → EachStepIsExact add_sum 4 (Snap 0 3 2 ∷ []) (Bytes bytes ∷ []) durable [] (six_noted 6) after → ⊥
    by_slice after (first_stood, first, rest, joined, mid, (((within, is), same), foretold), each, others) = omega (arith, ap (λ (l : List ℕ). get_or l 0 0) (sym are ∙ is))
