-- What the steps do that let go of what a session keeps.
use Rattle.std.proofs.Common.{◌≡◌, ℕ, ◌≤◌, List, [], ◌∷◌, length, refl, sym, ap, ◌∙◌, subst}
use Rattle.std.specs.Prelude.{IfSome, Option, Some, None, if◌then◌else◌, option_map, is_some}
use Rattle.std.proofs.Math.ListN.{set}
use Rattle.std.proofs.lemmas.List.{map-set}
use Rattle.std.proofs.lemmas.List.Elements.{All-set}
use Rattle.disk.specs.Disk.{Disk, Life}
use Rattle.crash.specs.Kept.{AllOnly, Each}
use Rattle.writer_state.specs.WriterState.{WriterState}
use Rattle.cache.specs.CacheState.{CacheState}
use Rattle.paged_read.specs.Tail.{Tail, logical_bytes, CanRead}
use Rattle.paged_read.specs.Replay.{ReplayState}
use Rattle.session.specs.declared.steps.Step.{Step}
use Rattle.session.specs.declared.steps.Step.TheVariants.{DropReplay, DropSnapshot}
use Rattle.session.specs.declared.steps.Reply.{Reply}
use Rattle.session.specs.declared.steps.Reply.TheVariants.{Done, NoSuch}
use Rattle.session.specs.Run.{AnswersStep, CacheFits, content_after, Did, IsReplayIn, IsSnapshot, IsSoundSession, numbered, raised, replay_in_run, Represents, RunReplay, RunState, SessionState, turned_away, use_of_step, without_replay, without_snapshot, WriterFits}
use Rattle.session.specs.Calls.{KeepsAllButReplays, KeepsAllButSnapshots, LetsGo, Steps}
use Rattle.session.proofs.Numbered.{numbered-map}
use Rattle.session.proofs.StepLaws.{answers_away, answers_here, begun_covers, begun_keeps, leaves, only_there, raise_within}

-- one of a list is let go, by whether it is there
abbrev pub LetsGoOf : {A : Type 0} → (index : ℕ) → (was now : List (Option A)) → Reply → Option A → Type 0
LetsGoOf index was now reply o = elim o [ None ↦ (reply ≡ NoSuch) × (now ≡ was) | Some one ↦ (reply ≡ Done) × (now ≡ set was index None) ]

-- ---- of any step that asks no device, and leaves the content

-- where a writer stands for a content, it does so whatever snapshots and replays there are
fits_with : (P : ℕ) (o : Option WriterState) (s : RunState) (snapshots : List (Option (List ℕ))) (replays : List (Option RunReplay)) (d : Disk) → WriterFits P o s d → WriterFits P o (record s { snapshots = snapshots; replays = replays }) d
fits_with P None s snapshots replays d fits = fits
fits_with P (Some w) s snapshots replays d fits = record {
  page_size = fits.page_size;
  has_writer = fits.has_writer;
  content = fits.content;
  otherwise = fits.otherwise;
  capacity = fits.capacity;
  buffered = fits.buffered;
  within = fits.within;
  written = fits.written;
  awaited = fits.awaited;
}

-- what a step did that asks no device, by its answer
did_nothing : (sum : List ℕ → ℕ) (P : ℕ) (step : Step) (reply : Reply) (was : SessionState) (d : Disk) (before after : RunState) → ((content : List ℕ) → content_after step content ≡ content) → Represents sum P was before d → AnswersStep sum P step reply d d before after
    → (raised d after).floor ≤ length after.content → Did sum P step reply d [] before after
did_nothing sum P step reply was d before after stays stands answer within = record {
  answer = answer;
  touches = leaves (use_of_step P step before) d;
  stopped = λ away. refl;
  kept = (begun_keeps sum P step before d stands.kept, tt);
  covered = (begun_covers sum P step before d stands.covered, tt);
  only = subst (λ (l : List ℕ). Each (AllOnly sum P before.content (if before.has_writer then l else before.otherwise)) (d ∷ [])) (sym (stays before.content)) (only_there sum P was.writer before d d stands.fits stands.only, tt);
  within = within;
}

-- the floor once it is raised
floor_within : (sum : List ℕ → ℕ) (P : ℕ) (was : SessionState) (before : RunState) (d : Disk) → Represents sum P was before d → (raised d before).floor ≤ length before.content
floor_within sum P was before d stands = raise_within d before.covers before.floor (length before.content) stands.floor stands.within

-- a step that is turned away
away_takes : (sum : List ℕ → ℕ) (step : Step) (was : SessionState) (cache : CacheState) (life : Life) → ((content : List ℕ) → content_after step content ≡ content) → IsSoundSession sum was life.present → CacheFits was cache life.present
    → ((P : ℕ) (before : RunState) → Represents sum P was before life.present → turned_away step before ≡ Some NoSuch) → Steps sum step NoSuch was was life life × CacheFits was cache life.present
away_takes sum step was cache life stays ready fits away = (
  record {
    ready = ready;
    always = λ P before stands. record {
      moments = [];
      goes = refl;
      after = before;
      did = did_nothing sum P step NoSuch was life.present before before stays stands (answers_away sum P step NoSuch life.present life.present before (away P before stands)) (floor_within sum P was before life.present stands);
      stands = stands;
    };
  },
  fits,
)

-- ---- of a snapshot

-- a list that has one let go is empty if it was
set_none : {A : Type 0} (xs : List (Option A)) (index : ℕ) → xs ≡ [] → set xs index None ≡ []
set_none xs index none = ap (λ (l : List (Option _)). set l index None) none

-- the snapshot of a number, as a standing has it
snapshot_of : (sum : List ℕ → ℕ) (P : ℕ) (was : SessionState) (index : ℕ) (o : Option Tail) (before : RunState) (d : Disk) → numbered was.snapshots index ≡ o → Represents sum P was before d
    → turned_away (DropSnapshot index) before ≡ (if is_some (option_map (λ t. logical_bytes t d.readable) o) then None else Some NoSuch)
snapshot_of sum P was index o before d at stands =
    ap (λ (l : List (Option (List ℕ))). if is_some (numbered l index) then None else Some NoSuch) stands.snapshots
    ∙ ap (λ (x : Option (List ℕ)). if is_some x then None else Some NoSuch) (numbered-map (λ (t : Tail). logical_bytes t d.readable) was.snapshots index ∙ ap (option_map (λ t. logical_bytes t d.readable)) at)

drops_snapshot : (sum : List ℕ → ℕ) (was : SessionState) (cache : CacheState) (index : ℕ) (t : Tail) (life : Life) → IsSoundSession sum was life.present → CacheFits was cache life.present → numbered was.snapshots index ≡ Some t
    → Steps sum (DropSnapshot index) Done was (record was { snapshots = set was.snapshots index None }) life life × CacheFits (record was { snapshots = set was.snapshots index None }) cache life.present
drops_snapshot sum was cache index t life ready fits at = (
  record {
    ready = record {
      writer = ready.writer;
      starts = ready.starts;
      snapshots = All-set (λ o. IfSome o (λ u. IsSnapshot sum was.writer u life.present)) was.snapshots index None tt ready.snapshots;
      begun = λ phase. set_none was.snapshots index (ready.begun phase);
      replays = ready.replays;
    };
    always = λ P before stands. record {
      moments = [];
      goes = refl;
      after = without_snapshot index before;
      did = did_nothing sum P (DropSnapshot index) Done was life.present before (without_snapshot index before) (λ content. refl) stands
          (answers_here sum P (DropSnapshot index) Done life.present life.present before (without_snapshot index before) (snapshot_of sum P was index (Some t) before life.present at stands) refl (λ fault. absurd fault, λ fault. absurd fault))
          (floor_within sum P was before life.present stands);
      stands = record {
        fits = fits_with P was.writer before (set before.snapshots index None) before.replays life.present stands.fits;
        phase = stands.phase;
        names = stands.names;
        floor = stands.floor;
        within = stands.within;
        kept = stands.kept;
        covered = stands.covered;
        only = stands.only;
        snapshots = ap (λ (l : List (Option (List ℕ))). set l index None) stands.snapshots ∙ sym (map-set (option_map (λ u. logical_bytes u life.present.readable)) was.snapshots index None);
        replays = stands.replays;
      };
    };
  },
  record { writer = fits.writer; snapshots = All-set (λ o. IfSome o (λ u. CanRead u cache life.present)) was.snapshots index None tt fits.snapshots },
)

pub drop_snapshot_takes : (sum : List ℕ → ℕ) (was now : SessionState) (cache : CacheState) (index : ℕ) (life : Life) (reply : Reply) → IsSoundSession sum was life.present → CacheFits was cache life.present → LetsGo index was.snapshots now.snapshots reply
    → KeepsAllButSnapshots was now → Steps sum (DropSnapshot index) reply was now life life × CacheFits now cache life.present
drop_snapshot_takes sum was now cache index life reply ready fits did rest = by_number (numbered was.snapshots index) refl did
  where
    is_with : (snapshots : List (Option Tail)) → now.snapshots ≡ snapshots → now ≡ record was { snapshots = snapshots }
    is_with snapshots is = rest ∙ ap (λ (l : List (Option Tail)). record was { snapshots = l }) is

    by_number : (o : Option Tail) → numbered was.snapshots index ≡ o → LetsGoOf index was.snapshots now.snapshots reply o → Steps sum (DropSnapshot index) reply was now life life × CacheFits now cache life.present
    by_number None at (replied, is) =
        subst (λ (a : Reply). Steps sum (DropSnapshot index) a was now life life × CacheFits now cache life.present) (sym replied)
        (subst (λ (s : SessionState). Steps sum (DropSnapshot index) NoSuch was s life life × CacheFits s cache life.present) (sym (is_with was.snapshots is))
        (away_takes sum (DropSnapshot index) was cache life (λ content. refl) ready fits (λ P before stands. snapshot_of sum P was index None before life.present at stands)))
    by_number (Some t) at (replied, is) =
        subst (λ (a : Reply). Steps sum (DropSnapshot index) a was now life life × CacheFits now cache life.present) (sym replied)
        (subst (λ (s : SessionState). Steps sum (DropSnapshot index) Done was s life life × CacheFits s cache life.present) (sym (is_with (set was.snapshots index None) is))
        (drops_snapshot sum was cache index t life ready fits at))

-- ---- of a replay

-- the replay of a number, as a standing has it
replay_of : (sum : List ℕ → ℕ) (P : ℕ) (was : SessionState) (index : ℕ) (o : Option ReplayState) (before : RunState) (d : Disk) → numbered was.replays index ≡ o → Represents sum P was before d
    → turned_away (DropReplay index) before ≡ (if is_some (option_map (replay_in_run d.readable) o) then None else Some NoSuch)
replay_of sum P was index o before d at stands =
    ap (λ (l : List (Option RunReplay)). if is_some (numbered l index) then None else Some NoSuch) stands.replays
    ∙ ap (λ (x : Option RunReplay). if is_some x then None else Some NoSuch) (numbered-map (replay_in_run d.readable) was.replays index ∙ ap (option_map (replay_in_run d.readable)) at)

drops_replay : (sum : List ℕ → ℕ) (was : SessionState) (cache : CacheState) (index : ℕ) (r : ReplayState) (life : Life) → IsSoundSession sum was life.present → CacheFits was cache life.present → numbered was.replays index ≡ Some r
    → Steps sum (DropReplay index) Done was (record was { replays = set was.replays index None }) life life × CacheFits (record was { replays = set was.replays index None }) cache life.present
drops_replay sum was cache index r life ready fits at = (
  record {
    ready = record {
      writer = ready.writer;
      starts = ready.starts;
      snapshots = ready.snapshots;
      begun = ready.begun;
      replays = All-set (IsReplayIn sum was.writer life.present) was.replays index None tt ready.replays;
    };
    always = λ P before stands. record {
      moments = [];
      goes = refl;
      after = without_replay index before;
      did = did_nothing sum P (DropReplay index) Done was life.present before (without_replay index before) (λ content. refl) stands
          (answers_here sum P (DropReplay index) Done life.present life.present before (without_replay index before) (replay_of sum P was index (Some r) before life.present at stands) refl (λ fault. absurd fault, λ fault. absurd fault))
          (floor_within sum P was before life.present stands);
      stands = record {
        fits = fits_with P was.writer before before.snapshots (set before.replays index None) life.present stands.fits;
        phase = stands.phase;
        names = stands.names;
        floor = stands.floor;
        within = stands.within;
        kept = stands.kept;
        covered = stands.covered;
        only = stands.only;
        snapshots = stands.snapshots;
        replays = ap (λ (l : List (Option RunReplay)). set l index None) stands.replays ∙ sym (map-set (option_map (replay_in_run life.present.readable)) was.replays index None);
      };
    };
  },
  record { writer = fits.writer; snapshots = fits.snapshots },
)

pub drop_replay_takes : (sum : List ℕ → ℕ) (was now : SessionState) (cache : CacheState) (index : ℕ) (life : Life) (reply : Reply) → IsSoundSession sum was life.present → CacheFits was cache life.present → LetsGo index was.replays now.replays reply → KeepsAllButReplays was now
    → Steps sum (DropReplay index) reply was now life life × CacheFits now cache life.present
drop_replay_takes sum was now cache index life reply ready fits did rest = by_number (numbered was.replays index) refl did
  where
    is_with : (replays : List (Option ReplayState)) → now.replays ≡ replays → now ≡ record was { replays = replays }
    is_with replays is = rest ∙ ap (λ (l : List (Option ReplayState)). record was { replays = l }) is

    by_number : (o : Option ReplayState) → numbered was.replays index ≡ o → LetsGoOf index was.replays now.replays reply o
        → Steps sum (DropReplay index) reply was now life life × CacheFits now cache life.present
    by_number None at (replied, is) =
        subst (λ (a : Reply). Steps sum (DropReplay index) a was now life life × CacheFits now cache life.present) (sym replied)
        (subst (λ (s : SessionState). Steps sum (DropReplay index) NoSuch was s life life × CacheFits s cache life.present) (sym (is_with was.replays is))
        (away_takes sum (DropReplay index) was cache life (λ content. refl) ready fits (λ P before stands. replay_of sum P was index None before life.present at stands)))
    by_number (Some r) at (replied, is) =
        subst (λ (a : Reply). Steps sum (DropReplay index) a was now life life × CacheFits now cache life.present) (sym replied)
        (subst (λ (s : SessionState). Steps sum (DropReplay index) Done was s life life × CacheFits s cache life.present) (sym (is_with (set was.replays index None) is))
        (drops_replay sum was cache index r life ready fits at))
