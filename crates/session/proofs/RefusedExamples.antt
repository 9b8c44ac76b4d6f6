-- Examples of a sync that is refused, of one that is started, and of a truncate, in exact runs.
-- Pages have 4 bytes, and the checksum is their sum.
use Rattle.std.proofs.Common.{◌≡◌, ◌⊎◌, ◌≤◌, ℕ, Vec, List, [], ◌∷◌, ◌++◌, append-nil, length, length-append, refl, sym, ap, subst, ◌∙◌, inl, inr, arith, true, false}
use Rattle.std.specs.Prelude.{None}
use Rattle.std.specs.declared.alloc.Global.{Global}
use Rattle.std.proofs.lemmas.Bool.{false≢true}
use Rattle.disk.specs.Disk.{Disk, Entry, SomeFailed, HasFailed, logged, starts, disk_settled_to, life_after}
use Rattle.disk.specs.Disk.Request.{WriteAt, SyncAll, WaitSync}
use Rattle.disk.specs.Images.{same_image}
use Rattle.disk.specs.declared.started_sync.StartedSync.TheVariants.{Named}
use Rattle.disk.specs.declared.error.Error.{Error}
use Rattle.disk.specs.declared.error.Error.TheVariants.{SyncFailed, OffsetOverflow}
use Rattle.page.specs.Sums.{add_sum}
use Rattle.crash.specs.Kept.{AllOnly, Each}
use Rattle.crash.proofs.DistinctLaws.{vouched_alike}
use Rattle.crash.proofs.Promise.{keeps_at_rest, keeps_nothing}
use Rattle.session.specs.declared.steps.Step.{Step}
use Rattle.session.specs.declared.steps.Step.TheVariants.{Append, Sync, StartSync, Wait, Truncate, Size}
use Rattle.session.specs.declared.steps.Reply.{Reply}
use Rattle.session.specs.declared.steps.Reply.TheVariants.{At, Done, Fault, Length, Started}
use Rattle.session.specs.Run.{RunState, appended, starting, after_wait, ended, raised, last, is_complete}
use Rattle.session.specs.Promise.{Survives, EachStepIsExact, RunIsExact, session_of, fresh}
use Rattle.session.proofs.PromiseLaws.{survives}
use Rattle.session.proofs.StepLaws.{keeps_fewer}
use Rattle.session.proofs.ComesBackExamples.{ab, ab_page, empty, unsynced, saved, life_of, empty_writer, rests, empty_survives, none_survives, nothing_is_kept, ab_comes_back}
use Rattle.session.proofs.PromiseExamples.{nothing_yet, steps_of, unsynced_only, unsynced_survives, within_a_page}

-- in an exact run of one step, its moments are all that there are
pub one_step : (step : Step) (reply : Reply) (from : Disk) (moments : List Disk) (s after : RunState) (told : EachStepIsExact add_sum 4 (step ∷ []) (reply ∷ []) from moments s after) → last from moments ≡ last from told.1
one_step step reply from moments s after told =
    ap (λ (l : List Disk). last from l) told.3 ∙ ap (λ (l : List Disk). last from (told.1 ++ l)) told.7.0 ∙ ap (λ (l : List Disk). last from l) (append-nil told.1)

-- a disk that has what the unsynced one has, except for its log and its started syncs
pub alike : (d : Disk) → d.base ≡ [] → d.since ≡ unsynced.since → Survives add_sum 4 ab ab 0 d × AllOnly add_sum 4 ab ab d
alike d base since =
    let only : AllOnly add_sum 4 ab ab d = record {
      only = λ image is_image free. unsynced_only.only image (same_image d unsynced image (sym base) (sym since) is_image) (rw (base, since) at free);
      vouched = vouched_alike add_sum 4 unsynced d base since unsynced_only.vouched;
    } in
    (survives add_sum 4 ab ab 0 d (omega arith) (keeps_nothing add_sum 4 ab d) only, only)

-- ---- a sync that is refused

-- "ab" was written, and then the device failed
abbrev pub failed : Disk
failed = logged SyncAll true unsynced

-- the writer is gone, and nothing is kept
abbrev pub after_failure : RunState
after_failure = ended ab (appended 4 ab (fresh 4 8 []))

pub a_refused_run : (bytes : Vec ℕ Global) → bytes.items ≡ ab → EachStepIsExact add_sum 4 (steps_of bytes) (At 0 ∷ Fault SyncFailed ∷ []) empty (unsynced ∷ failed ∷ []) (fresh 4 8 []) after_failure
a_refused_run bytes is = (
  none_survives,
  [],
  unsynced ∷ failed ∷ [],
  refl,
  appended 4 ab (fresh 4 8 []),
  ((refl, sym (ap (λ (l : List ℕ). appended 4 l (fresh 4 8 [])) is)), (λ over. absurd (within_a_page bytes.items is over), λ passes. absurd passes)),
  (subst (λ (l : List ℕ). Survives add_sum 4 [] l 0 empty) (sym is) empty_survives, tt),
  (
    nothing_yet,
    unsynced ∷ failed ∷ [],
    [],
    refl,
    after_failure,
    ((((1, omega arith, refl), inl it_failed), refl), (λ over. absurd over, λ passes. absurd passes)),
    (nothing_yet, (unsynced_survives, ((alike failed refl refl).0, tt))),
    (refl, refl, (alike failed refl refl).0),
  ),
)
  where
    it_failed : HasFailed SyncFailed empty failed
    it_failed = (record { request = WriteAt 0 16 false; failed = false } ∷ record { request = SyncAll; failed = true } ∷ [], refl, inr (inl (refl, refl)))

pub a_refusal_is_told : (bytes : Vec ℕ Global) → bytes.items ≡ ab
    → RunIsExact add_sum 4 (steps_of bytes) (record (session_of empty_writer) { writer = None }) (life_of empty) (life_after (life_of empty) (unsynced ∷ failed ∷ [])) [] (At 0 ∷ Fault SyncFailed ∷ []) (fresh 4 8 [])
a_refusal_is_told bytes is = record {
  added = At 0 ∷ Fault SyncFailed ∷ [];
  adds = refl;
  moments = unsynced ∷ failed ∷ [];
  goes = refl;
  after = after_failure;
  tells = a_refused_run bytes is;
  stands = record {
    fits = refl;
    phase = refl;
    names = λ name. refl;
    floor = omega arith;
    within = λ k x lt. absurd (omega (arith, lt));
    kept = keeps_nothing add_sum 4 ab failed;
    covered = λ k x lt. absurd (omega (arith, lt));
    only = (alike failed refl refl).1;
    snapshots = refl;
    replays = refl;
  };
}

-- where the log stayed, no call failed
none_failed : (fault : Error) (log more : List Entry) → log ≡ log ++ more → SomeFailed fault more → ⊥
none_failed fault log [] is some = some
none_failed fault log (e ∷ es) is some = omega (arith, ap length is, length-append log (e ∷ es))

-- no sync is refused where no call failed
pub no_fault_of_its_own : (after : RunState) → EachStepIsExact add_sum 4 (Sync ∷ []) (Fault SyncFailed ∷ []) saved [] (fresh 4 8 ab) after → ⊥
no_fault_of_its_own after told =
    let there : saved ≡ last saved told.1 = one_step Sync (Fault SyncFailed) saved [] (fresh 4 8 ab) after told in
    by_cause (subst (λ (d : Disk). HasFailed SyncFailed saved d ⊎ ⊥) (sym there) told.5.0.0.1)
  where
    by_cause : HasFailed SyncFailed saved saved ⊎ ⊥ → ⊥
    by_cause (inl (more, is, some)) = none_failed SyncFailed saved.log more is some
    by_cause (inr had) = had

-- no sync is refused with an error that no sync has
pub no_overflow_of_a_sync : (moments : List Disk) (after : RunState) → EachStepIsExact add_sum 4 (Sync ∷ []) (Fault OffsetOverflow ∷ []) saved moments (fresh 4 8 ab) after → ⊥
no_overflow_of_a_sync moments after told = told.5.0.0

-- ---- a sync that is started

-- the sync was started after the write
abbrev pub started : Disk
started = starts false unsynced

-- the started sync was waited for
abbrev pub complete : Disk
complete = logged (WaitSync 0) false (disk_settled_to (1, ab_page) started)

abbrev pub ab_started : RunState
ab_started = starting 4 (Named 0) (appended 4 ab (fresh 4 8 []))

abbrev pub ab_waited : RunState
ab_waited = record (after_wait ab_started) { floor = 2 }

pub complete_survives : (floor : ℕ) → floor ≤ 2 → Survives add_sum 4 ab ab floor complete
complete_survives floor enough = survives add_sum 4 ab ab floor complete enough (keeps_fewer add_sum 4 ab floor 2 complete enough (keeps_at_rest add_sum 4 complete refl)) (rests ab ab ab complete refl refl refl)

-- before the wait nothing is kept, and after it "ab" is
pub a_started_run : (bytes : Vec ℕ Global) → bytes.items ≡ ab → EachStepIsExact add_sum 4 (Append bytes ∷ StartSync ∷ Wait ∷ []) (At 0 ∷ Started (Named 0) ∷ Done ∷ []) empty (unsynced ∷ started ∷ complete ∷ []) (fresh 4 8 []) ab_waited
a_started_run bytes is = (
  none_survives,
  [],
  unsynced ∷ started ∷ complete ∷ [],
  refl,
  appended 4 ab (fresh 4 8 []),
  ((refl, sym (ap (λ (l : List ℕ). appended 4 l (fresh 4 8 [])) is)), (λ over. absurd (within_a_page bytes.items is over), λ passes. absurd passes)),
  (subst (λ (l : List ℕ). Survives add_sum 4 [] l 0 empty) (sym is) empty_survives, tt),
  (
    nothing_yet,
    unsynced ∷ started ∷ [],
    complete ∷ [],
    refl,
    ab_started,
    ((refl, refl), (λ over. absurd over, λ passes. absurd passes)),
    (nothing_yet, (unsynced_survives, ((alike started refl refl).0, tt))),
    (
      (alike started refl refl).0,
      complete ∷ [],
      [],
      refl,
      after_wait ab_started,
      ((refl, refl), (λ over. absurd over, λ passes. absurd passes)),
      ((alike started refl refl).0, (complete_survives 0 (omega arith), tt)),
      (refl, refl, complete_survives 2 (omega arith)),
    ),
  ),
)

-- no wait is done where what was started isn't complete
pub no_wait_in_vain : (after : RunState) → EachStepIsExact add_sum 4 (Wait ∷ []) (Done ∷ []) started [] ab_started after → ⊥
no_wait_in_vain after told =
    let there : started ≡ last started told.1 = one_step Wait Done started [] ab_started after told in
    let complete_then : is_complete started 0 ≡ true = subst (λ (d : Disk). is_complete d 0 ≡ true) (sym there) told.5.0.0 in
    absurd (false≢true complete_then)

-- ---- a truncate

-- a truncate answers the size that is left
pub no_size_before : (moments : List Disk) (after : RunState) → EachStepIsExact add_sum 4 (Truncate 1 ∷ []) (Length 2 ∷ []) saved moments (fresh 4 8 ab) after → ⊥
no_size_before moments after told = omega (arith, told.5.0.0)

-- a truncate doesn't answer before it is done
pub no_cut_left_undone : (after : RunState) → EachStepIsExact add_sum 4 (Truncate 1 ∷ []) (Length 1 ∷ []) saved [] (fresh 4 8 ab) after → ⊥
no_cut_left_undone after told =
    let there : saved ≡ last saved told.1 = one_step (Truncate 1) (Length 1) saved [] (fresh 4 8 ab) after told in
    let at_the_end : Survives add_sum 4 (97 ∷ []) (97 ∷ []) 1 (last saved told.1) = subst (λ (s : RunState). Survives add_sum 4 s.content s.otherwise (raised (last saved told.1) s).floor (last saved told.1)) told.5.0.1 told.7.2 in
    let s : Survives add_sum 4 (97 ∷ []) (97 ∷ []) 1 saved = subst (λ (d : Disk). Survives add_sum 4 (97 ∷ []) (97 ∷ []) 1 d) (sym there) at_the_end in
    elim (s.only ab ab_comes_back) [ inl is ↦ omega (arith, ap length is) | inr is ↦ omega (arith, ap length is) ]

-- ---- a moment in the midst

-- no exact step has a blob that was empty in its midst, though all is there again at its end
pub no_moment_that_lost : (after : RunState) → EachStepIsExact add_sum 4 (Size ∷ []) (Length 2 ∷ []) saved (empty ∷ saved ∷ []) (fresh 4 8 ab) after → ⊥
no_moment_that_lost after told =
    let all : told.1 ≡ empty ∷ saved ∷ [] = sym (told.3 ∙ ap (λ (l : List Disk). told.1 ++ l) told.7.0 ∙ append-nil told.1) in
    let each : Each (Survives add_sum 4 ab ab 2) (saved ∷ empty ∷ saved ∷ []) = subst (λ (l : List Disk). Each (Survives add_sum 4 ab ab 2) (saved ∷ l)) all told.6 in
    nothing_is_kept each.1.0
