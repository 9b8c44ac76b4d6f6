-- Examples of the promise of a run, and of runs that it doesn't hold of: "ab" is appended to an empty blob, and synced. Pages have
-- 4 bytes, and the checksum is their sum.
use Rattle.std.proofs.Common.{Bool, lit<, ◌≡◌, ◌+◌, ◌^◌, ◌≤◌, ℕ, Vec, List, [], ◌∷◌, ◌++◌, append-nil, length, refl, sym, ap, subst, ◌∙◌, inl, inr, arith, true, false}
use Rattle.std.specs.Prelude.{Some, None, get_or, ◌||◌, nat_eq}
use Rattle.std.specs.List.{list_any}
use Rattle.std.specs.declared.alloc.Global.{Global}
use Rattle.std.proofs.lemmas.Bool.{eq-eqb, false≢true}
use Rattle.disk.specs.Disk.{Disk, Life, HasOperated, life_after}
use Rattle.disk.specs.Disk.Operation.{Write}
use Rattle.disk.specs.Disk.Request.{WriteAt}
use Rattle.page.specs.Sums.{add_sum, small_add_sum}
use Rattle.crash.specs.Kept.{AllOnly}
use Rattle.crash.specs.Stays.{Stays}
use Rattle.crash.proofs.Disks.{base_is_image, partial_whole}
use Rattle.crash.proofs.Promise.{keeps_nothing}
use Rattle.writer_state.specs.WriterState.{WriterState}
use Rattle.writer_state.specs.Sound.{Soundness}
use Rattle.writer_state.specs.declared.sync_state.SyncState.TheVariants.{Pending}
use Rattle.writer_state.proofs.Soundness.{consistent_of, empty_sound, operated_stays}
use Rattle.paged.specs.Writer.{physical_blob_size}
use Rattle.session.specs.declared.steps.Step.{Step}
use Rattle.session.specs.declared.steps.Step.TheVariants.{Append, Sync, Read}
use Rattle.session.specs.declared.steps.Reply.{Reply}
use Rattle.session.specs.declared.steps.Reply.TheVariants.{At, Done, Bytes}
use Rattle.session.specs.Run.{RunState, appended, after_sync, raised, last, NamesFit, SessionState, Represents, WriterRepresents}
use Rattle.session.specs.Promise.{Survives, EachStepIsExact, RunIsExact, Promises, session_of, fresh}
use Rattle.session.proofs.PromiseLaws.{survives}
use Rattle.session.proofs.StepLaws.{same_moments}
use Rattle.session.proofs.ComesBackExamples.{ab, ab_page, empty, unsynced, saved, life_of, ab_writer, empty_writer, saved_keeps, rests, saved_survives, empty_survives, a_lost_floor, nothing_is_kept, a_byte_too_many, ab_comes_back}

-- ---- what a writer and a session stand for

pub ab_writer_stands : WriterRepresents 4 ab_writer (fresh 4 8 ab) saved
ab_writer_stands = record {
  page_size = refl;
  has_writer = refl;
  content = refl;
  otherwise = refl;
  capacity = refl;
  buffered = refl;
  within = omega arith;
  written = refl;
  awaited = refl;
}

-- it stands for no other content
pub it_stands_for_no_other : WriterRepresents 4 ab_writer (fresh 4 8 (97 ∷ 99 ∷ [])) saved → ⊥
it_stands_for_no_other fits = omega (arith, ap (λ (l : List ℕ). get_or l 1 0) fits.content)

-- nor as one that has yet to write
pub it_has_written : WriterRepresents 4 ab_writer (record (fresh 4 8 ab) { written = false }) saved → ⊥
it_has_written fits = absurd (false≢true fits.written)

-- nor in pages of another size
pub it_has_no_other_pages : WriterRepresents 8 ab_writer (fresh 4 8 ab) saved → ⊥
it_has_no_other_pages fits = omega (arith, fits.page_size)

-- nor as one that is gone
pub it_is_there : WriterRepresents 4 ab_writer (record (fresh 4 8 ab) { has_writer = false }) saved → ⊥
it_is_there fits = absurd (false≢true fits.has_writer)

-- nor with another content that a refused step would have left
pub none_was_refused : WriterRepresents 4 ab_writer (record (fresh 4 8 ab) { otherwise = [] }) saved → ⊥
none_was_refused fits = omega (arith, ap length fits.otherwise)

-- nor with another buffer than it has
pub it_has_no_more_room : WriterRepresents 4 ab_writer (record (fresh 4 8 ab) { capacity = 12 }) saved → ⊥
it_has_no_more_room fits = omega (arith, fits.capacity)

-- nor with one that can't hold what is buffered
pub it_holds_what_is_buffered : WriterRepresents 4 (record ab_writer { capacity = 1 }) (record (fresh 4 8 ab) { capacity = 1 }) saved → ⊥
it_holds_what_is_buffered fits = omega (arith, fits.within)

-- nor as one that waits for a sync, where it doesn't, or as one that doesn't, where it does
pub it_awaits_none : WriterRepresents 4 ab_writer (record (fresh 4 8 ab) { awaited = Some 0 }) saved → ⊥
it_awaits_none fits = absurd (cc fits.awaited)

pub it_awaits_one : WriterRepresents 4 (record ab_writer { sync = Pending 0 }) (fresh 4 8 ab) saved → ⊥
it_awaits_one fits = absurd (cc fits.awaited)

-- it stands for no more buffered bytes than it has
pub it_buffers_no_more : WriterRepresents 4 ab_writer (record (fresh 4 8 ab) { buffered = 3 }) saved → ⊥
it_buffers_no_more fits = omega (arith, fits.buffered)

pub ab_stands : Represents add_sum 4 (session_of ab_writer) (fresh 4 8 ab) saved
ab_stands = record {
  fits = ab_writer_stands;
  phase = refl;
  names = λ name. refl;
  floor = omega arith;
  within = λ k x lt. absurd (omega (arith, lt));
  kept = saved_keeps;
  covered = λ k x lt. absurd (omega (arith, lt));
  only = rests ab ab ab saved refl refl refl;
  snapshots = refl;
  replays = refl;
}

pub empty_stands : Represents add_sum 4 (session_of empty_writer) (fresh 4 8 []) empty
empty_stands = record {
  fits = record { page_size = refl; has_writer = refl; content = refl; otherwise = refl; capacity = refl; buffered = refl; within = omega arith; written = refl; awaited = refl };
  phase = refl;
  names = λ name. refl;
  floor = omega arith;
  within = λ k x lt. absurd (omega (arith, lt));
  kept = keeps_nothing add_sum 4 [] empty;
  covered = λ k x lt. absurd (omega (arith, lt));
  only = rests [] [] [] empty refl refl refl;
  snapshots = refl;
  replays = refl;
}

-- no session stands for a floor that a crash may lose
pub no_floor_before_the_sync : (session : SessionState) → Represents add_sum 4 session (fresh 4 8 ab) unsynced → ⊥
no_floor_before_the_sync session stands = omega (arith, ap length (stands.kept.kept [] (base_is_image unsynced)))

-- no session stands for a content that the blob doesn't hold
pub no_other_content : (session : SessionState) → Represents add_sum 4 session (record (fresh 4 8 (97 ∷ 99 ∷ [])) { floor = 2 }) saved → ⊥
no_other_content session stands = omega (arith, ap (λ (l : List ℕ). get_or l 1 0) (stands.kept.kept ab_page (base_is_image saved)))

-- no session stands for a snapshot that it hasn't
pub no_snapshot_more : Represents add_sum 4 (session_of ab_writer) (record (fresh 4 8 ab) { snapshots = None ∷ [] }) saved → ⊥
no_snapshot_more stands = omega (arith, ap length stands.snapshots)

-- nor for a replay, or a name
pub no_replay_more : Represents add_sum 4 (session_of ab_writer) (record (fresh 4 8 ab) { replays = None ∷ [] }) saved → ⊥
no_replay_more stands = omega (arith, ap length stands.replays)

pub no_name_more : Represents add_sum 4 (session_of ab_writer) (record (fresh 4 8 ab) { covers = (0, 2) ∷ [] }) saved → ⊥
no_name_more stands = absurd (false≢true (stands.names 0))

-- nor for what a sync covers that wasn't started
pub no_cover_of_none : (session : SessionState) → Represents add_sum 4 session (record (fresh 4 8 ab) { floor = 0; covers = (0, 2) ∷ [] }) unsynced → ⊥
no_cover_of_none session stands = absurd (cc ((stands.covered 0 (0, 2) (omega arith)).named))

-- nor for a cover or a floor past the content
pub no_cover_past_the_end : (session : SessionState) → Represents add_sum 4 session (record (fresh 4 8 ab) { covers = (0, 3) ∷ [] }) saved → ⊥
no_cover_past_the_end session stands = absurd (omega (arith, stands.within 0 (0, 3) (omega arith)))

pub no_floor_past_the_end : (session : SessionState) → Represents add_sum 4 session (record (fresh 4 8 ab) { floor = 3 }) saved → ⊥
no_floor_past_the_end session stands = omega (arith, stands.floor)

-- nor for an ended recovery, where its own hasn't ended
pub it_has_not_ended : Represents add_sum 4 (session_of ab_writer) (record (fresh 4 8 ab) { recovering = false }) saved → ⊥
it_has_not_ended stands = absurd (false≢true (sym stands.phase))

-- nor for a content of which the blob has a byte more, even with no floor
pub no_byte_more : (session : SessionState) → Represents add_sum 4 session (record (fresh 4 8 (97 ∷ [])) { floor = 0 }) saved → ⊥
no_byte_more session stands = a_byte_too_many (survives add_sum 4 (97 ∷ []) (97 ∷ []) 0 saved stands.floor stands.kept stands.only)

-- ---- a run

-- the write of "ab", before it is synced, leaves nothing but its beginnings
write_is_done : HasOperated (Write 0 ab_page) (WriteAt 0 16 false) false empty unsynced
write_is_done = record { readable = partial_whole (Write 0 ab_page) []; done = λ fine. refl; rest = refl }

-- the writer as it begins to write
abbrev buffering : WriterState
buffering = record empty_writer { tip = ab }

buffering_sound : Soundness add_sum buffering empty
buffering_sound = empty_sound add_sum buffering empty refl refl refl (omega arith) (lit< tt) refl refl refl (λ name c is. absurd (cc is))

unsynced_stays : Stays add_sum 4 ab empty unsynced
unsynced_stays = operated_stays add_sum buffering empty unsynced 0 true ab_page small_add_sum (consistent_of add_sum buffering empty buffering_sound) refl (omega arith, omega arith) refl (WriteAt 0 16 false) false write_is_done

pub unsynced_only : AllOnly add_sum 4 ab ab unsynced
unsynced_only = record { only = λ image is_image free. inl (unsynced_stays.only image is_image free); vouched = unsynced_stays.vouched }

pub unsynced_survives : Survives add_sum 4 ab ab 0 unsynced
unsynced_survives = survives add_sum 4 ab ab 0 unsynced (omega arith) (keeps_nothing add_sum 4 ab unsynced) unsynced_only

-- the steps, and how the blob goes on
abbrev pub steps_of : Vec ℕ Global → List Step
steps_of bytes = Append bytes ∷ Sync ∷ []

abbrev pub replies_of : List Reply
replies_of = At 0 ∷ Done ∷ []

abbrev pub moments_of : List Disk
moments_of = unsynced ∷ saved ∷ []

abbrev pub life_then : Life
life_then = life_after (life_of empty) moments_of

-- two bytes pass no greatest offset
pub within_a_page : (bytes : List ℕ) → bytes ≡ ab → 2 ^ 64 ≤ physical_blob_size 4 0 (0 + length bytes) → ⊥
within_a_page bytes is over = let far : 2 ^ 64 ≤ physical_blob_size 4 0 (0 + length ab) = subst (λ (l : List ℕ). 2 ^ 64 ≤ physical_blob_size 4 0 (0 + length l)) is over in omega (arith, far)

-- what was appended isn't kept yet, before the sync and as it ends
pub nothing_yet : Survives add_sum 4 ab ab 0 empty
nothing_yet = survives add_sum 4 ab ab 0 empty (omega arith) (keeps_nothing add_sum 4 ab empty) (rests ab ab [] empty refl refl refl)

pub saved_later : Survives add_sum 4 ab ab 0 saved
saved_later = survives add_sum 4 ab ab 0 saved (omega arith) (keeps_nothing add_sum 4 ab saved) (rests ab ab ab saved refl refl refl)

-- the run of an append and a sync is exact
pub a_run_tells : (bytes : Vec ℕ Global) → bytes.items ≡ ab → EachStepIsExact add_sum 4 (steps_of bytes) replies_of empty moments_of (fresh 4 8 []) (fresh 4 8 ab)
a_run_tells bytes is = (
  survives add_sum 4 [] [] 0 empty (omega arith) (keeps_nothing add_sum 4 [] empty) (rests [] [] [] empty refl refl refl),
  [],
  moments_of,
  refl,
  appended 4 ab (fresh 4 8 []),
  ((refl, sym (ap (λ (l : List ℕ). appended 4 l (fresh 4 8 [])) is)), (λ over. absurd (within_a_page bytes.items is over), λ passes. absurd passes)),
  (subst (λ (l : List ℕ). Survives add_sum 4 [] l 0 empty) (sym is) empty_survives, tt),
  (
    nothing_yet,
    moments_of,
    [],
    refl,
    fresh 4 8 ab,
    (refl, (λ over. absurd over, λ passes. absurd passes)),
    (nothing_yet, (unsynced_survives, (saved_later, tt))),
    (refl, refl, saved_survives),
  ),
)

-- no run gives no reply to a step, or one to none
pub no_reply_is_left_out : (steps : List Step) (step : Step) (moments : List Disk) (s after : RunState) → EachStepIsExact add_sum 4 (step ∷ steps) [] empty moments s after → ⊥
no_reply_is_left_out steps step moments s after tells = tells

-- no run has an append that answers another offset
pub no_other_offset : (bytes : Vec ℕ Global) (moments : List Disk) (after : RunState) → EachStepIsExact add_sum 4 (steps_of bytes) (At 1 ∷ Done ∷ []) empty moments (fresh 4 8 []) after → ⊥
no_other_offset bytes moments after (first_stood, first, rest, joined, mid, ((n, is), foretold), each, others) = omega (arith, n)

-- the last moment of joined lists is that of the second
pub last_joined : (d : Disk) (ds es : List Disk) → last d (ds ++ es) ≡ last (last d ds) es
last_joined d [] es = refl
last_joined d (e ∷ ds) es = last_joined e ds es

-- the end of such a run survives with all that was appended, wherever it began and whatever its moments were
pub survives_at_the_end : (bytes : Vec ℕ Global) (from : Disk) (moments : List Disk) (after : RunState) → EachStepIsExact add_sum 4 (steps_of bytes) replies_of from moments (fresh 4 8 []) after → Survives add_sum 4 bytes.items bytes.items (length bytes.items) (last from moments)
survives_at_the_end bytes from moments after told =
    let first : List Disk = told.1 in
    let from_then : Disk = last from first in
    let mid : RunState = appended 4 bytes.items (fresh 4 8 []) in
    let sync : EachStepIsExact add_sum 4 (Sync ∷ []) (Done ∷ []) from_then told.2 (raised from_then mid) after =
    subst (λ (s : RunState). EachStepIsExact add_sum 4 (Sync ∷ []) (Done ∷ []) from_then told.2 (raised from_then s) after) told.5.0.1 told.7 in
    let second : List Disk = sync.1 in
    let D : Disk = last from_then second in
    let there : last from moments ≡ D = ap (λ (l : List Disk). last from l) told.3 ∙ last_joined from first told.2 ∙ ap (λ (l : List Disk). last from_then l) (sync.3 ∙ ap (λ (l : List Disk). second ++ l) sync.7.0 ∙ append-nil second) in
    let ends : sync.4 ≡ after_sync 4 (raised from_then mid) = sync.5.0 in
    let at_the_end : Survives add_sum 4 bytes.items bytes.items (length bytes.items) D =
    subst (λ (s : RunState). Survives add_sum 4 s.content s.otherwise (raised D s).floor D) ends sync.7.2 in
    subst (λ (d : Disk). Survives add_sum 4 bytes.items bytes.items (length bytes.items) d) (sym there) at_the_end

-- such a run survives at its end, by what was appended
survives_so : (bytes : Vec ℕ Global) (content : List ℕ) (moments : List Disk) (after : RunState) → bytes.items ≡ content → EachStepIsExact add_sum 4 (steps_of bytes) replies_of empty moments (fresh 4 8 []) after
    → Survives add_sum 4 content content (length content) (last empty moments)
survives_so bytes content moments after are tells = subst (λ (l : List ℕ). Survives add_sum 4 l l (length l) (last empty moments)) are (survives_at_the_end bytes empty moments after tells)

-- so no such run ends before the sync
pub no_run_without_the_sync : (bytes : Vec ℕ Global) (after : RunState) → bytes.items ≡ ab → EachStepIsExact add_sum 4 (steps_of bytes) replies_of empty (unsynced ∷ []) (fresh 4 8 []) after → ⊥
no_run_without_the_sync bytes after are tells = a_lost_floor ab ab refl (survives_so bytes ab (unsynced ∷ []) after are tells)

-- nor does such a run end where nothing was written
pub no_run_without_a_write : (bytes : Vec ℕ Global) (after : RunState) → bytes.items ≡ ab → EachStepIsExact add_sum 4 (steps_of bytes) replies_of empty [] (fresh 4 8 []) after → ⊥
no_run_without_a_write bytes after are tells = nothing_is_kept (survives_so bytes ab [] after are tells)

-- ---- a read

pub a_read_tells : (bytes : Vec ℕ Global) → bytes.items ≡ 98 ∷ [] → EachStepIsExact add_sum 4 (Read 1 1 ∷ []) (Bytes bytes ∷ []) saved [] (fresh 4 8 ab) (fresh 4 8 ab)
a_read_tells bytes is = (saved_survives, [], [], refl, fresh 4 8 ab, (((omega arith, is), refl), (λ over. absurd (omega (arith, over)), λ passes. absurd (omega (arith, passes.1)))), (saved_survives, tt), (refl, refl, saved_survives))

-- no run has a read that answers another slice
pub no_wrong_slice : (bytes : Vec ℕ Global) (moments : List Disk) (after : RunState) → bytes.items ≡ 97 ∷ [] → EachStepIsExact add_sum 4 (Read 1 1 ∷ []) (Bytes bytes ∷ []) saved moments (fresh 4 8 ab) after → ⊥
no_wrong_slice bytes moments after are (first_stood, first, rest, joined, mid, (((within, is), same), foretold), each, others) = omega (arith, ap (λ (l : List ℕ). get_or l 0 0) (sym are ∙ is))

-- no run has a read that answers a slice past the end
pub no_slice_past_the_end : (bytes : Vec ℕ Global) (moments : List Disk) (after : RunState) → EachStepIsExact add_sum 4 (Read 1 2 ∷ []) (Bytes bytes ∷ []) saved moments (fresh 4 8 ab) after → ⊥
no_slice_past_the_end bytes moments after (first_stood, first, rest, joined, mid, (((within, is), same), foretold), each, others) = omega (arith, within)

-- ---- the promise

-- a session without a started sync has no cover
pub no_covers : (covers : List (ℕ × ℕ)) → NamesFit [] covers → covers ≡ []
no_covers [] fit = refl
no_covers (c ∷ cs) fit = absurd (false≢true (fit c.0 ∙ ap (λ (b : Bool). b || list_any (λ (x : ℕ × ℕ). nat_eq x.0 c.0) cs) (eq-eqb c.0 c.0 refl)))

-- two standings of the same parts are one
pub same_standing : (a b : RunState) → a.has_writer ≡ b.has_writer → a.recovering ≡ b.recovering → a.content ≡ b.content → a.floor ≡ b.floor → a.otherwise ≡ b.otherwise → a.capacity ≡ b.capacity → a.buffered ≡ b.buffered → a.written ≡ b.written
    → a.awaited ≡ b.awaited → a.covers ≡ b.covers → a.snapshots ≡ b.snapshots → a.replays ≡ b.replays → a ≡ b
same_standing a b e1 e2 e3 e4 e5 e6 e7 e8 e9 e10 e11 e12 = rw (e1, e2, e3, e4, e5, e6, e7, e8, e9, e10, e11, e12) refl

-- the session of an empty blob can stand for one thing alone
pub it_stood_for : (P : ℕ) (before : RunState) → Represents add_sum P (session_of empty_writer) before empty → (P ≡ 4) × (before ≡ fresh 4 8 [])
it_stood_for P before stands = (
  sym stands.fits.page_size,
  same_standing before (fresh 4 8 []) stands.fits.has_writer (sym stands.phase) stands.fits.content (omega (arith, stands.floor, ap length stands.fits.content)) (stands.fits.otherwise ∙ stands.fits.content) (sym stands.fits.capacity)
      (sym stands.fits.buffered) stands.fits.written stands.fits.awaited (no_covers before.covers stands.names) stands.snapshots stands.replays,
)

-- such a run is exact
pub it_is_told : (bytes : Vec ℕ Global) → bytes.items ≡ ab → RunIsExact add_sum 4 (steps_of bytes) (session_of ab_writer) (life_of empty) life_then [] replies_of (fresh 4 8 [])
it_is_told bytes is = record { added = replies_of; adds = refl; moments = moments_of; goes = refl; after = fresh 4 8 ab; tells = a_run_tells bytes is; stands = ab_stands }

-- "ab" is appended to an empty blob and synced: that is promised
pub a_promise : (bytes : Vec ℕ Global) → bytes.items ≡ ab → Promises add_sum (steps_of bytes) (session_of empty_writer) (session_of ab_writer) (life_of empty) life_then [] replies_of
a_promise bytes is P before stands =
    let stood = it_stood_for P before stands in
    subst (λ (n : ℕ). RunIsExact add_sum n (steps_of bytes) (session_of ab_writer) (life_of empty) life_then [] replies_of before) (sym stood.0)
    (subst (λ (s : RunState). RunIsExact add_sum 4 (steps_of bytes) (session_of ab_writer) (life_of empty) life_then [] replies_of s) (sym stood.1) (it_is_told bytes is))

-- the moments of a life in an exact run are those that the life had
pub told_by : (d : Disk) (s : RunState) (steps : List Step) (now : SessionState) (replies : List Reply) (moments : List Disk) → RunIsExact add_sum 4 steps now (life_of d) (life_after (life_of d) moments) [] replies s
    → (after : RunState) × EachStepIsExact add_sum 4 steps replies d moments s after
told_by d s steps now replies moments told =
    let same : told.moments ≡ moments = (same_moments (life_of d) (life_of d) told.moments moments refl (sym told.goes)).1 in (
      told.after,
      subst (λ (rs : List Reply). EachStepIsExact add_sum 4 steps rs d moments s told.after) (sym told.adds) (subst (λ (ds : List Disk). EachStepIsExact add_sum 4 steps told.added d ds s told.after) same told.tells),
    )

-- without the sync the promise isn't kept, whatever the session is then
pub no_promise_without_the_sync : (bytes : Vec ℕ Global) (now : SessionState) → bytes.items ≡ ab → Promises add_sum (steps_of bytes) (session_of empty_writer) now (life_of empty) (life_after (life_of empty) (unsynced ∷ [])) [] replies_of → ⊥
no_promise_without_the_sync bytes now are promise =
    let told = told_by empty (fresh 4 8 []) (steps_of bytes) now replies_of (unsynced ∷ []) (promise 4 (fresh 4 8 []) empty_stands) in
    no_run_without_the_sync bytes told.0 are told.1

-- the promise isn't kept where another byte was appended than the blob holds
pub no_promise_of_another_byte : (bytes : Vec ℕ Global) (now : SessionState) → bytes.items ≡ 97 ∷ 99 ∷ [] → Promises add_sum (steps_of bytes) (session_of empty_writer) now (life_of empty) life_then [] replies_of → ⊥
no_promise_of_another_byte bytes now are promise =
    let told = told_by empty (fresh 4 8 []) (steps_of bytes) now replies_of moments_of (promise 4 (fresh 4 8 []) empty_stands) in
    let s : Survives add_sum 4 (97 ∷ 99 ∷ []) (97 ∷ 99 ∷ []) 2 saved = survives_so bytes (97 ∷ 99 ∷ []) moments_of told.0 are told.1 in
    omega (arith, ap (λ (l : List ℕ). get_or l 1 0) (s.kept true ab ab_comes_back))

-- nor where one byte less was appended
pub no_promise_of_a_byte_less : (bytes : Vec ℕ Global) (now : SessionState) → bytes.items ≡ 97 ∷ [] → Promises add_sum (steps_of bytes) (session_of empty_writer) now (life_of empty) life_then [] replies_of → ⊥
no_promise_of_a_byte_less bytes now are promise =
    let told = told_by empty (fresh 4 8 []) (steps_of bytes) now replies_of moments_of (promise 4 (fresh 4 8 []) empty_stands) in
    let s : Survives add_sum 4 (97 ∷ []) (97 ∷ []) 1 saved = survives_so bytes (97 ∷ []) moments_of told.0 are told.1 in
    elim (s.only ab ab_comes_back) [ inl is ↦ omega (arith, ap length is) | inr is ↦ omega (arith, ap length is) ]

-- nor with another reply
pub no_promise_of_another_offset : (bytes : Vec ℕ Global) (now : SessionState) (moments : List Disk) → Promises add_sum (steps_of bytes) (session_of empty_writer) now (life_of empty) (life_after (life_of empty) moments) [] (At 1 ∷ Done ∷ []) → ⊥
no_promise_of_another_offset bytes now moments promise =
    let told = told_by empty (fresh 4 8 []) (steps_of bytes) now (At 1 ∷ Done ∷ []) moments (promise 4 (fresh 4 8 []) empty_stands) in
    no_other_offset bytes moments told.0 told.1

-- nor with a moment of another life
pub no_other_life : (now : SessionState) (s : RunState) → RunIsExact add_sum 4 [] now (life_of saved) (life_of empty) [] [] s → ⊥
no_other_life now s told =
    let tells : EachStepIsExact add_sum 4 [] [] saved told.moments s told.after = subst (λ (rs : List Reply). EachStepIsExact add_sum 4 [] rs saved told.moments s told.after) (sym told.adds) told.tells in
    let same : life_of empty ≡ life_of saved = told.goes ∙ ap (λ (ds : List Disk). life_after (life_of saved) ds) tells.0 in
    omega (arith, ap (λ (life : Life). length life.present.base) same)

-- a run is not exact if the session stands for something else at its end
pub no_other_session : RunIsExact add_sum 4 [] (session_of empty_writer) (life_of saved) (life_of saved) [] [] (fresh 4 8 ab) → ⊥
no_other_session told =
    let tells : EachStepIsExact add_sum 4 [] [] saved told.moments (fresh 4 8 ab) told.after = subst (λ (rs : List Reply). EachStepIsExact add_sum 4 [] rs saved told.moments (fresh 4 8 ab) told.after) (sym told.adds) told.tells in
    omega (arith, ap (λ (s : RunState). length s.content) tells.1, ap length told.stands.fits.content)

-- a run is not exact if it has fewer replies than before
pub no_reply_is_taken_back : (steps : List Step) (now : SessionState) (old new : Life) (before : RunState) → RunIsExact add_sum 4 steps now old new (Done ∷ []) [] before → ⊥
no_reply_is_taken_back steps now old new before told = absurd (cc told.adds)
