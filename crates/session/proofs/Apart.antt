-- What a step does to a session, except for its snapshots and its replays.
use Rattle.std.proofs.Common.{◌≡◌, ◌⊎◌, ℕ, ◌≤◌, List, [], length, Bool, true, false}
use Rattle.std.specs.Prelude.{All, map, Option, None, option_map}
use Rattle.disk.specs.Disk.{Disk, Life, life_after}
use Rattle.crash.specs.Kept.{AllKeep, AllOnly}
use Rattle.crash.specs.Started.{StartsCanBeAwaited}
use Rattle.paged_read.specs.Tail.{logical_bytes}
use Rattle.paged_read.specs.Replay.{ReplayState}
use Rattle.session.specs.declared.steps.Step.{Step}
use Rattle.session.specs.declared.steps.Reply.{Reply}
use Rattle.session.specs.Run.{AllCover, Did, HasSoundWriter, IsSoundSession, NamesFit, replay_in_run, Represents, RunReplay, RunState, SessionState, WriterFits}

-- what a session stands for, except for its snapshots and its replays
pub record StandsApart (sum : List ℕ → ℕ) (P : ℕ) (session : SessionState) (s : RunState) (d : Disk) : Type 0 where
  pub fits : WriterFits P session.writer s d
  pub phase : session.recovering ≡ s.recovering
  pub names : NamesFit session.names s.covers
  pub floor : s.floor ≤ length s.content
  pub within : All (λ c. c.1 ≤ length s.content) s.covers
  pub kept : AllKeep sum P s.content s.floor d
  pub covered : AllCover sum P s.content s.covers d
  pub only : AllOnly sum P s.content s.otherwise d

-- what a session needs to take steps, except for its snapshots and its replays
pub record IsReadyApart (sum : List ℕ → ℕ) (session : SessionState) (d : Disk) : Type 0 where
  pub writer : HasSoundWriter sum session.writer d
  pub starts : (session.names ≡ []) ⊎ StartsCanBeAwaited d

-- one step by a session that stood for `before`, after which its snapshots have these contents, and
-- its replays are these
pub record SteppedApart (sum : List ℕ → ℕ) (P : ℕ) (step : Step) (reply : Reply) (session : SessionState) (old new : Life) (before : RunState) (snapshots : List (Option (List ℕ))) (replays : List (Option RunReplay)) : Type 0 where
  pub moments : List Disk
  pub goes : new ≡ life_after old moments
  pub after : RunState
  pub did : Did sum P step reply old.present moments before after
  pub stands : StandsApart sum P session after new.present
  pub same : after.snapshots ≡ snapshots
  pub alike : after.replays ≡ replays

-- the replays as they were, or all forgotten
abbrev pub left_replays : (cuts : Bool) → List (Option RunReplay) → List (Option RunReplay)
left_replays false replays = replays
left_replays true replays = map (λ r. None) replays

-- a step that makes no snapshot, and leaves the replays or forgets them, whatever the session stood
-- for
abbrev pub AlwaysBy : (cuts : Bool) → (List ℕ → ℕ) → Step → Reply → SessionState → SessionState → Life → Life → Type 0
AlwaysBy cuts sum step reply was now old new = (P : ℕ) (before : RunState) → StandsApart sum P was before old.present → SteppedApart sum P step reply now old new before before.snapshots (left_replays cuts before.replays)

-- such a step, after which the session may take another
pub record StepsBy (cuts : Bool) (sum : List ℕ → ℕ) (step : Step) (reply : Reply) (was now : SessionState) (old new : Life) : Type 0 where
  pub ready : IsReadyApart sum now new.present
  pub always : AlwaysBy cuts sum step reply was now old new

-- a step that makes no snapshot and leaves the replays
abbrev pub AlwaysApart : (List ℕ → ℕ) → Step → Reply → SessionState → SessionState → Life → Life → Type 0
AlwaysApart sum step reply was now old new = AlwaysBy false sum step reply was now old new

abbrev pub StepsApart : (List ℕ → ℕ) → Step → Reply → SessionState → SessionState → Life → Life → Type 0
StepsApart sum step reply was now old new = StepsBy false sum step reply was now old new

-- ---- of what stands with the snapshots and the replays

pub stands_apart : (sum : List ℕ → ℕ) (P : ℕ) (session : SessionState) (s : RunState) (d : Disk) → Represents sum P session s d → StandsApart sum P session s d
stands_apart sum P session s d stands = record {
  fits = stands.fits;
  phase = stands.phase;
  names = stands.names;
  floor = stands.floor;
  within = stands.within;
  kept = stands.kept;
  covered = stands.covered;
  only = stands.only;
}

-- what a session stands for, with the snapshots and the replays
pub whole : (sum : List ℕ → ℕ) (P : ℕ) (session : SessionState) (s : RunState) (d : Disk) → s.snapshots ≡ map (option_map (λ t. logical_bytes t d.readable)) session.snapshots → s.replays ≡ map (option_map (replay_in_run d.readable)) session.replays → StandsApart sum P session s d
    → Represents sum P session s d
whole sum P session s d tells gives stands = record {
  fits = stands.fits;
  phase = stands.phase;
  names = stands.names;
  floor = stands.floor;
  within = stands.within;
  kept = stands.kept;
  covered = stands.covered;
  only = stands.only;
  snapshots = tells;
  replays = gives;
}

pub ready_apart : (sum : List ℕ → ℕ) (session : SessionState) (d : Disk) → IsSoundSession sum session d → IsReadyApart sum session d
ready_apart sum session d ready = record { writer = ready.writer; starts = ready.starts }

-- ---- of a session with other replays

-- a session with other replays stands for what it stood for
stands_with : (sum : List ℕ → ℕ) (P : ℕ) (session : SessionState) (replays : List (Option ReplayState)) (s : RunState) (d : Disk) → StandsApart sum P session s d → StandsApart sum P (record session { replays = replays }) s d
stands_with sum P session replays s d stands = record {
  fits = stands.fits;
  phase = stands.phase;
  names = stands.names;
  floor = stands.floor;
  within = stands.within;
  kept = stands.kept;
  covered = stands.covered;
  only = stands.only;
}

-- a step to a session with other replays was such a step
pub steps_with : (cuts : Bool) (sum : List ℕ → ℕ) (step : Step) (reply : Reply) (was now : SessionState) (replays : List (Option ReplayState)) (old new : Life) → StepsBy cuts sum step reply was now old new → StepsBy cuts sum step reply was (record now { replays = replays }) old new
steps_with cuts sum step reply was now replays old new steps = record {
  ready = record { writer = steps.ready.writer; starts = steps.ready.starts };
  always = λ P before stands.
      let a = steps.always P before stands in
      record { moments = a.moments; goes = a.goes; after = a.after; did = a.did; stands = stands_with sum P now replays a.after new.present a.stands; same = a.same; alike = a.alike };
}
