-- What the steps do that begin replays, and go on with them.
use Rattle.std.proofs.Common.{◌≡◌, ◌⊎◌, ℕ, zero, suc, ◌+◌, ◌-◌, ◌*◌, ◌<◌, ◌≤◌, ◌%◌, List, [], ◌∷◌, ◌++◌, length, map, take, drop, min, refl, sym, ap, ◌∙◌, subst, arith, append-nil, inl, inr, Bool, true, false, Ok, Err, lit<, length-take}
use Rattle.std.specs.Prelude.{All, Option, Some, None, nat_le, nat_eq, if◌then◌else◌, option_map, is_some, get_or, ⊤, ◌||◌, ◌/◌}
use Rattle.std.specs.declared.num.NonZeroUsize.{NonZeroUsize}
use Rattle.std.specs.Int.NonZero.{non_zero_usize_get}
use Rattle.std.proofs.Math.ListN.{set}
use Rattle.std.proofs.Math.Nat.{div-add-mod'}
use Rattle.std.proofs.lemmas.Bool.{false≢true}
use Rattle.std.proofs.lemmas.Bool.Decides.{nat_tests}
use Rattle.std.proofs.lemmas.List.{length-map, map-set, length-drop, take-take}
use Rattle.std.proofs.lemmas.List.Elements.{All-append, All-set}
use Rattle.disk.specs.Disk.{Disk, Life, life_after}
use Rattle.disk.specs.declared.error.Error.{Error}
use Rattle.disk.specs.declared.error.Error.TheVariants.{ReadFailed, WriteFailed, ResizeFailed, SyncFailed, InvalidChecksum, BlobInsufficientLength, OffsetOverflow, OutOfMemory, IdsExhausted}
use Rattle.crash.specs.Kept.{AllKeep, AllOnly, Each, Moments, Through}
use Rattle.crash.specs.Looks.{Looked, SameButLog, looked_start}
use Rattle.crash.specs.Moments.{each_then}
use Rattle.crash.specs.Started.{StartsCanBeAwaited}
use Rattle.writer_state.specs.WriterState.{WriterState}
use Rattle.writer_state.specs.declared.sync_state.SyncState.{SyncState}
use Rattle.writer_state.specs.declared.sync_state.SyncState.TheVariants.{Clean, Dirty, Pending}
use Rattle.writer_state.specs.Sound.{IsSound, content as content_of}
use Rattle.cache.specs.CacheState.{CacheState}
use Rattle.paged_read.specs.Tail.{Tail, logical_bytes, HasFullPages, tail_size as size_of_tail}
use Rattle.paged_read.specs.ReadAhead.{batch_of}
use Rattle.paged_read.specs.Replay.{ReplayState, IsReplayOf, StaysFilled, FillFault, IsHad, Seeks, advanced, new_replay, ReplaysOn}
use Rattle.paged_read.proofs.Leaving.{length-told}
use Rattle.paged_read.proofs.Outliving.{look_leaves_reads, look_leaves_tails, look_leaves_writers}
use Rattle.paged_read.proofs.OutlivingReplays.{look_leaves_replays}
use Rattle.paged.specs.Caches.{tail_of}
use Rattle.paged.specs.Calls.{Succeeds as CallGoesOn, CallCause, AsksAtMost, start_calls, wait_calls, unstarted_calls}
use Rattle.paged.specs.Flush.{has_work}
use Rattle.paged.specs.Replays.{BeginsAtOnce, replay_calls}
use Rattle.session.specs.declared.steps.Step.{Step}
use Rattle.session.specs.declared.steps.Step.TheVariants.{Replay, Ensure, Take, Seek}
use Rattle.session.specs.declared.steps.Reply.{Reply}
use Rattle.session.specs.declared.steps.Reply.TheVariants.{Done, Answer, Bytes, Fault, NoSuch, Replaying}
use Rattle.session.specs.Run.{needs_no_device, AllCover, AnswersStep, at_step, CacheFits, content_after, Did, ended, raised, WriterFits, FitsWriter, FaultsComeFirst, HasCause, HasEnsured, HasFetched, has_replay_at, IsBelow, IsSoundSession, IsReplayIn, last, moved, numbered, passed, pending_in, RunReplay, replay_in_run, replaying, replay_size, rewritten, SessionState, RunState, Represents, TakesStep, use_of_step, UsesDevice, turned_away, WriterRepresents}
use Rattle.session.specs.Run.DeviceUse.{Leaves, Looks, Changes}
use Rattle.session.specs.Calls.{AtReplay, EnsureSays, KeepsAllButReplays, KeepsButReplays, LeavesTaken, ReplayCanGoOn, SeeksOf, Steps, TakesOf, TakesReplay}
use Rattle.session.proofs.Words.{ReplayTold}
use Rattle.session.proofs.WordLaws.{replay_told}
use Rattle.session.proofs.Apart.{AlwaysApart, IsReadyApart, ready_apart, StandsApart, stands_apart, SteppedApart, StepsApart}
use Rattle.session.proofs.Below.{AlwaysLeaves, AlwaysMakes, framed, framed_by, framed_same, HasReplays, leaves_all, LeftAll, LeftReplay, left_by, of_each, map_both, maps_alike, sound_in}
use Rattle.session.proofs.Numbered.{AtOne, numbered-map, numbered_there, put_back}
use Rattle.session.proofs.StepLaws.{begun_covers, begun_keeps, answers_away, answers_here, each_end, few_calls, held, held_same, last_is, leaves, no_moments, not_turned_away, only_there, raised_within, stands_ended, stands_now, stepped, turned_closed, turned_here, unasked}
use Rattle.session.proofs.SessionLaws.{closed_takes}
use Rattle.session.proofs.AppendLaws.{had_failed_as, had_without_room, owed_starts, start_dirty, start_work}
use Rattle.session.proofs.SyncLaws.{left_buffered, same_halves}
use Rattle.session.proofs.SizeLaws.{alike_stays_started}
use Rattle.session.proofs.PromiseLaws.{tip_is}
use Rattle.session.proofs.StartLaws.{goes_through, refused_through}
use Rattle.session.proofs.SnapshotLaws.{fits_on, looked_stands, same_takes, snapshot_few, sound_on, stands_held}

-- ---- a replay that begins

-- the session with another writer, and other replays
abbrev pub with_replays : SessionState → Option WriterState → List (Option ReplayState) → SessionState
with_replays was writer replays = record was { writer = writer; replays = replays }

-- where all is written, nothing is to be written before a replay
idle_of : (work : Bool) (state : SyncState) → true ≡ nat_eq (if work then wait_calls state + 2 else unstarted_calls state) 0 → work ≡ false
idle_of true Clean is = absurd (false≢true (sym is))
idle_of true Dirty is = absurd (false≢true (sym is))
idle_of true (Pending name) is = absurd (false≢true (sym is))
idle_of false state is = refl

-- then the started sync is awaited still
awaits_on : (state : SyncState) (awaited : Option ℕ) → awaited ≡ pending_in state → (if nat_eq (unstarted_calls state) 0 then awaited else None) ≡ pending_in state
awaits_on Clean awaited is = is
awaits_on Dirty awaited is = refl
awaits_on (Pending name) awaited is = is

-- whether all is written, and what is awaited, after a replay
record After (before : RunState) (v : WriterState) : Type 0 where
  written : before.written ≡ nat_eq (start_calls v) 0
  awaited : (if before.written then before.awaited else None) ≡ pending_in v.sync

after_by : (P : ℕ) (w v : WriterState) (before : RunState) (d : Disk) (work : Bool) → has_work w true ≡ work → WriterRepresents P w before d → (work ≡ false → v ≡ w) → (work ≡ true → v.sync ≡ Dirty) → After before v
after_by P w v before d false none fits idle dirty =
    let starts : before.written ≡ nat_eq (unstarted_calls w.sync) 0 = fits.written ∙ ap (λ (b : Bool). nat_eq (if b then wait_calls w.sync + 2 else unstarted_calls w.sync) 0) none in
    subst (λ (x : WriterState). After before x) (sym (idle refl))
    (record { written = fits.written; awaited = ap (λ (b : Bool). if b then before.awaited else None) starts ∙ awaits_on w.sync before.awaited fits.awaited })
after_by P w v before d true some fits idle dirty =
    let starts : before.written ≡ false = fits.written ∙ start_work (has_work w true) w.sync some in
    record {
      written = starts ∙ sym (start_dirty (has_work v true) v.sync (dirty refl));
      awaited = ap (λ (b : Bool). if b then before.awaited else None) starts ∙ sym (ap pending_in (dirty refl));
    }

-- the device calls of the beginning of a replay
replay_touch : (P : ℕ) (w : WriterState) (before : RunState) (old new : Life) (moments : List Disk) → WriterRepresents P w before old.present → new ≡ life_after old moments → AsksAtMost (replay_calls w) old new → (has_work w true ≡ false → new ≡ old)
    → UsesDevice (if before.written then Leaves else Changes 2) old.present moments
replay_touch P w before old new moments fits goes few idle = by_written before.written fits.written
  where
    by_written : (written : Bool) → written ≡ nat_eq (start_calls w) 0 → UsesDevice (if written then Leaves else Changes 2) old.present moments
    by_written true is = no_moments old new moments goes (idle (idle_of (has_work w true) w.sync is))
    by_written false is = few_calls old new moments 2 goes (omega (arith, few, snapshot_few (has_work w true) w.sync))

-- a replay has the number of those before it
number_of : (sum : List ℕ → ℕ) (P : ℕ) (was : SessionState) (s : RunState) (d : Disk) → Represents sum P was s d → length was.replays ≡ length s.replays
number_of sum P was s d stands = sym (ap length stands.replays ∙ length-map was.replays (option_map (replay_in_run d.readable)))

-- a replay that is begun
replay_steps : (sum : List ℕ → ℕ) (was : SessionState) (w v : WriterState) (r : ReplayState) (buffer_size : NonZeroUsize) (old new : Life) → was.writer ≡ Some w → IsSound sum w old.present → ReplayTold sum w (non_zero_usize_get buffer_size) old new (Ok (v, r))
    → AlwaysLeaves sum (Replay buffer_size) (Replaying (length was.replays)) was (with_replays was (Some v) (was.replays ++ Some r ∷ [])) old new [] (λ P s. (replaying P (non_zero_usize_get buffer_size) s).replays)
unfolding Through
replay_steps sum was w v r buffer_size old new at sound says = λ P before all.
    let size = non_zero_usize_get buffer_size in
    let stands = stands_held sum P was w before old.present at all in
    let fits = stands.fits in
    let goes = says.begins.0 in
    let now = with_replays was (Some v) (was.replays ++ Some r ∷ []) in
    let after = replaying P size (rewritten P before) in
    let through = goes_through sum P was w v old new before stands goes in
    let h = same_halves sum was P w old new before stands through (owed_starts sum P was w old new before stands says.owes) in
    let buffered : length v.tip ≡ before.buffered % P = left_buffered sum was P w v old new before sound stands goes says.begins.1.short in
    let state = after_by P w v before old.present (has_work w true) refl fits (λ none. (says.idle none).0.0) (λ some. says.dirty some) in
    let number : length was.replays ≡ length before.replays = number_of sum P was before old.present all in
    subst (λ (l : List (Option (List ℕ))). SteppedApart sum P (Replay buffer_size) (Replaying (length was.replays)) now old new before l after.replays) (sym (append-nil before.snapshots))
    (stepped sum P (Replay buffer_size) (Replaying (length was.replays)) now old new before after through.moments fits.has_writer (turned_here before.has_writer fits.has_writer) h
    (replay_touch P w before old new through.moments fits h.goes says.calls (λ none. (says.idle none).1))
    (number, refl) (λ none. absurd none, λ none. absurd none)
    (stands_now sum P (record was { replays = was.replays ++ Some r ∷ [] }) v old new after
    (record {
      page_size = goes.same.page_size ∙ fits.page_size;
      has_writer = fits.has_writer;
      content = fits.content ∙ sym (append-nil (content_of w old.present.readable)) ∙ sym goes.content;
      otherwise = fits.otherwise;
      capacity = goes.same.capacity ∙ fits.capacity;
      buffered = buffered;
      within = omega (arith, says.within, buffered, goes.same.capacity, fits.capacity);
      written = state.written;
      awaited = state.awaited;
    })
    stands.phase stands.names stands.floor stands.within (each_end (AllKeep sum P before.content before.floor) old new through.moments h.goes h.kept)
    (each_end (AllCover sum P before.content before.covers) old new through.moments h.goes h.covered) h.stays))

-- why a replay isn't begun
replay_cause : (P : ℕ) (w : WriterState) (buffer_size : NonZeroUsize) (before : RunState) (old new : Life) (e : Error) → (before.written ≡ true → e ≡ SyncFailed → ⊥) → before.awaited ≡ pending_in w.sync → CallCause w.sync old new e
    → HasCause P (Replay buffer_size) before old.present new.present e
replay_cause P w buffer_size before old new ReadFailed written awaited cause = absurd cause
replay_cause P w buffer_size before old new WriteFailed written awaited cause = ((0, lit< tt, refl), cause)
replay_cause P w buffer_size before old new ResizeFailed written awaited cause = absurd cause
replay_cause P w buffer_size before old new SyncFailed written awaited cause = (
  (1, lit< tt, refl),
  elim cause [
    | inl failed ↦ inl failed
    | inr had ↦ inr (had_without_room before.awaited old.present before.written (λ is. written is refl) (had_failed_as w.sync before.awaited old.present awaited had))
  ],
)
replay_cause P w buffer_size before old new InvalidChecksum written awaited cause = absurd cause
replay_cause P w buffer_size before old new BlobInsufficientLength written awaited cause = absurd cause
replay_cause P w buffer_size before old new OffsetOverflow written awaited cause = absurd cause
replay_cause P w buffer_size before old new OutOfMemory written awaited cause = tt
replay_cause P w buffer_size before old new IdsExhausted written awaited cause = absurd cause

replay_refused_steps : (sum : List ℕ → ℕ) (was : SessionState) (w : WriterState) (buffer_size : NonZeroUsize) (e : Error) (old new : Life) → ReplayTold sum w (non_zero_usize_get buffer_size) old new (Err e) → AlwaysApart sum (Replay buffer_size) (Fault e) (held was (Some w)) (held was None) old new
unfolding Through
replay_refused_steps sum was w buffer_size e old new says = λ P before stands.
    let fits = stands.fits in
    let through = refused_through sum P was w old new e before stands says.begins in
    let h = same_halves sum was P w old new before stands through (owed_starts sum P was w old new before stands says.owes) in
    let cause = replay_cause P w buffer_size before old new e (λ written fault. never P before fits written fault) fits.awaited says.begins.cause in
    stepped sum P (Replay buffer_size) (Fault e) (held was None) old new before (ended before.content before) through.moments fits.has_writer (turned_here before.has_writer fits.has_writer) h
    (replay_touch P w before old new through.moments fits h.goes says.calls (λ none. (says.idle none).1)) (cause, inl refl) (λ none. absurd none, λ none. absurd none)
    (stands_ended sum P was w old new before before.content through.moments stands h)
  where
    never : (P : ℕ) (before : RunState) → WriterRepresents P w before old.present → before.written ≡ true → e ≡ SyncFailed → ⊥
    never P before fits written fault =
        let none : has_work w true ≡ false = idle_of (has_work w true) w.sync (sym written ∙ fits.written) in
        subst (λ (x : Error). BeginsAtOnce w (non_zero_usize_get buffer_size) (Err x)) fault (says.idle none).0

-- there is no memory for a replay in the session's list
no_room_to_replay : (sum : List ℕ → ℕ) (was : SessionState) (w : WriterState) (buffer_size : NonZeroUsize) (life : Life) → AlwaysApart sum (Replay buffer_size) (Fault OutOfMemory) (held was (Some w)) (held was (Some w)) life life
no_room_to_replay sum was w buffer_size life = λ P before stands.
    unasked sum P was w (Replay buffer_size) (Fault OutOfMemory) (held was (Some w)) life before before (turned_here before.has_writer stands.fits.has_writer) stands (tt, inr (refl, refl, refl))
    (λ none. absurd none, λ none. absurd none) stands

-- the standing's replays with one more
begun_told : (v : WriterState) (size P : ℕ) (content readable : List ℕ) → logical_bytes (tail_of v) readable ≡ content → v.page_size ≡ P → v.full_pages * v.page_size ≡ length content / v.page_size * v.page_size
    → replay_in_run readable (new_replay (tail_of v) size) ≡ record { content = content; whole = length content / P * P; position = 0; hand = 0; batch = batch_of P size * P }
begun_told v size P content readable is page whole =
    let one : List ℕ → ℕ → ℕ → RunReplay = λ c f p. record { content = c; whole = f; position = 0; hand = 0; batch = batch_of p size * p } in
    ap (λ (c : List ℕ). one c (v.full_pages * v.page_size) v.page_size) is ∙ ap (λ (f : ℕ). one content f v.page_size) whole ∙ ap (λ (p : ℕ). one content (length content / p * p) p) page

-- the full pages of a writer all of whose bytes are written
whole_written : (sum : List ℕ → ℕ) (w v : WriterState) (old new : Life) → CallGoesOn sum w old [] v new → length v.tip < v.page_size → v.full_pages * v.page_size ≡ length (content_of w old.present.readable) / v.page_size * v.page_size
whole_written sum w v old new goes short =
    let tip = tip_is sum v new goes.sound short in
    let same : length (content_of v new.present.readable) ≡ length (content_of w old.present.readable) = ap length (goes.content ∙ append-nil (content_of w old.present.readable)) in
    let parts = div-add-mod' (length (content_of v new.present.readable)) v.page_size in
    let whole : v.full_pages * v.page_size ≡ length (content_of v new.present.readable) / v.page_size * v.page_size = omega (arith, goes.size, tip, parts) in
    whole ∙ ap (λ (n : ℕ). n / v.page_size * v.page_size) same

more_replays : (sum : List ℕ → ℕ) (was : SessionState) (w v : WriterState) (r : ReplayState) (size : ℕ) (old new : Life) → was.writer ≡ Some w → All (LeftReplay sum (Some v) old.present new.present) was.replays → v.page_size ≡ w.page_size → r ≡ new_replay (tail_of v) size
    → v.full_pages * v.page_size ≡ length (content_of w old.present.readable) / v.page_size * v.page_size → IsReplayOf sum r (content_of w old.present.readable) new.present → HasReplays sum was (with_replays was (Some v) (was.replays ++ Some r ∷ [])) old.present new.present (λ P s. (replaying P size s).replays)
more_replays sum was w v r size old new at left page is whole gives = record {
  ready = All-append (IsReplayIn sum (Some v) new.present) was.replays (Some r ∷ []) (λ k o lt. (left k o lt).replay) one;
  gives = λ P before all.
      let fits = (stands_held sum P was w before old.present at all).fits in
      let f : Option ReplayState → Option RunReplay = option_map (replay_in_run new.present.readable) in
      let tells : map f was.replays ≡ map (option_map (replay_in_run old.present.readable)) was.replays = maps_alike f (option_map (replay_in_run old.present.readable)) was.replays (λ k o lt. (left k o lt).tells) in
      let content : logical_bytes (tail_of v) new.present.readable ≡ before.content = ap (λ (t : Tail). logical_bytes t new.present.readable) (sym tail) ∙ gives.tail.is ∙ sym fits.content in
      let it : replay_in_run new.present.readable r ≡ record { content = before.content; whole = length before.content / P * P; position = 0; hand = 0; batch = batch_of P size * P } =
      ap (λ (x : ReplayState). replay_in_run new.present.readable x) is ∙ begun_told v size P before.content new.present.readable content (page ∙ fits.page_size) (whole ∙ ap (λ (l : List ℕ). length l / v.page_size * v.page_size) (sym fits.content)) in
      ap (λ (l : List (Option RunReplay)). l ++ Some (record { content = before.content; whole = length before.content / P * P; position = 0; hand = 0; batch = batch_of P size * P }) ∷ []) (all.replays ∙ sym tells) ∙ ap (λ (x : RunReplay). map f was.replays ++ Some x ∷ []) (sym it)
      ∙ sym (map_both f was.replays (Some r ∷ []));
}
  where
    tail : r.tail ≡ tail_of v
    tail = ap (λ (x : ReplayState). x.tail) is

    one : All (IsReplayIn sum (Some v) new.present) (Some r ∷ [])
    one zero o lt = (
      subst (λ (content : List ℕ). IsReplayOf sum r content new.present) (sym gives.tail.is) gives,
      subst (λ (t : Tail). IsBelow (Some v) t) (sym tail) (refl, omega arith),
    )
    one (suc k) o lt = absurd (omega (arith, lt))

-- a replay by a session
pub replay_takes : (sum : List ℕ → ℕ) (was now : SessionState) (cache after : CacheState) (buffer_size : NonZeroUsize) (old new : Life) (reply : Reply) → IsSoundSession sum was old.present → CacheFits was cache old.present → FitsWriter now.writer after new.present
    → LeavesTaken sum was.writer now.writer cache after old new → KeepsButReplays was now → TakesReplay sum was.writer now.writer was.replays now.replays (non_zero_usize_get buffer_size) cache after old new reply → Steps sum (Replay buffer_size) reply was now old new × CacheFits now after new.present
replay_takes sum was now cache after buffer_size old new reply ready fits writer stay rest goes = by_writer was.writer refl reply goes
  where
    size : ℕ
    size = non_zero_usize_get buffer_size

    -- the rest of the session stays
    snapshots : now.snapshots ≡ was.snapshots
    snapshots = ap (λ (s : SessionState). s.snapshots) rest

    begun_with : now.recovering ≡ true → now.snapshots ≡ []
    begun_with is = snapshots ∙ ready.begun (sym (ap (λ (s : SessionState). s.recovering) rest) ∙ is)

    -- the session, by its writer and its replays
    is_with : (o : Option WriterState) (replays : List (Option ReplayState)) → now.writer ≡ o → now.replays ≡ replays → now ≡ with_replays was o replays
    is_with o replays writes holds = rest ∙ ap (λ (x : Option WriterState). with_replays was x now.replays) writes ∙ ap (λ (l : List (Option ReplayState)). with_replays was o l) holds

    same_session : now.writer ≡ was.writer → now.replays ≡ was.replays → now ≡ was
    same_session writes holds = is_with was.writer was.replays writes holds

    by_writer : (o : Option WriterState) → was.writer ≡ o → (r : Reply) → TakesReplay sum o now.writer was.replays now.replays (non_zero_usize_get buffer_size) cache after old new r → Steps sum (Replay buffer_size) r was now old new × CacheFits now after new.present
    by_writer None at r (closed, kept, stays) =
        let is = same_session (closed.writer ∙ sym at) kept in
        same_takes sum (Replay buffer_size) r was now cache after old new ready fits writer stay is
        (closed_takes sum (Replay buffer_size) was now old new r (λ before none. turned_closed before.has_writer none) at (ready_apart sum was old.present ready) closed.replied is closed.life)
    by_writer (Some w) at (Replaying index) (v, r, writes, number, holds, whole, call) =
        let says = replay_told sum w cache after old new size (Ok (v, r)) whole call in
        let gives = call.goes.gives (sound_in sum was.writer w old.present at ready.writer) in
        let sound = sound_in sum was.writer w old.present at ready.writer in
        let begins = says.begins.0 in
        let next = with_replays was (Some v) (was.replays ++ Some r ∷ []) in
        let is : now ≡ next = is_with (Some v) (was.replays ++ Some r ∷ []) writes holds in
        let left = left_by sum was (Some v) cache after old new ready fits (subst (λ (o : Option WriterState). LeavesTaken sum was.writer o cache after old new) writes stay).own in
        let begun_next : next.recovering ≡ true → next.snapshots ≡ [] = ready.begun in
        let all : Steps sum (Replay buffer_size) (Replaying (length was.replays)) was next old new × CacheFits next after new.present =
        framed_by sum (Replay buffer_size) (Replaying (length was.replays)) was next after old new [] (λ P s. (replaying P size s).replays) (sym (append-nil was.snapshots)) begun_next (record { writer = begins.sound; starts = inr says.owes.starts })
        (subst (λ (o : Option WriterState). FitsWriter o after new.present) writes writer) left.snapshots (more_replays sum was w v r size old new at left.replays begins.same.page_size says.begins.2 (whole_written sum w v old new begins says.begins.1.short) gives) (λ k t lt. absurd (omega (arith, lt)))
        (replay_steps sum was w v r buffer_size old new at sound says) in
        subst (λ (n : ℕ). Steps sum (Replay buffer_size) (Replaying n) was now old new × CacheFits now after new.present) (sym number)
        (subst (λ (s : SessionState). Steps sum (Replay buffer_size) (Replaying (length was.replays)) was s old new × CacheFits s after new.present) (sym is) all)
    by_writer (Some w) at (Fault e) faulted = elim faulted [
      | inl (none, holds, call) ↦
          let says = replay_told sum w cache after old new size (Err e) tt call in
          let is : now ≡ held was None = is_with None was.replays none holds in
          framed_same sum (Replay buffer_size) (Fault e) was now after old new snapshots holds begun_with writer (left_by sum was now.writer cache after old new ready fits stay.own)
          (subst (λ (s : SessionState). StepsApart sum (Replay buffer_size) (Fault e) was s old new) (sym is)
          (record {
            ready = record { writer = tt; starts = inr says.owes.starts };
            always = subst (λ (s : SessionState). AlwaysApart sum (Replay buffer_size) (Fault e) s (held was None) old new) (sym (held_same was (Some w) at)) (replay_refused_steps sum was w buffer_size e old new says);
          }))
      | inr room ↦
          let is = same_session (room.writer ∙ sym at) room.given in
          same_takes sum (Replay buffer_size) (Fault e) was now cache after old new ready fits writer stay is
          (subst (λ (x : Error). StepsApart sum (Replay buffer_size) (Fault x) was now old new) (sym room.fault)
          (subst (λ (s : SessionState). StepsApart sum (Replay buffer_size) (Fault OutOfMemory) was s old new) (sym is)
          (subst (λ (life : Life). StepsApart sum (Replay buffer_size) (Fault OutOfMemory) was was old life) (sym room.life)
          (record {
            ready = ready_apart sum was old.present ready;
            always = subst (λ (s : SessionState). AlwaysApart sum (Replay buffer_size) (Fault OutOfMemory) s s old old) (sym (held_same was (Some w) at)) (no_room_to_replay sum was w buffer_size old);
          }))))
    ]
    by_writer (Some w) at r other = absurd other

-- ---- the one of a number

-- the replay that a standing has of this number
found : (sum : List ℕ → ℕ) (P : ℕ) (was : SessionState) (index : ℕ) (r : ReplayState) (before : RunState) (d : Disk) → numbered was.replays index ≡ Some r → Represents sum P was before d → numbered before.replays index ≡ Some (replay_in_run d.readable r)
found sum P was index r before d at stands =
    ap (λ (l : List (Option RunReplay)). numbered l index) stands.replays ∙ numbered-map (replay_in_run d.readable) was.replays index ∙ ap (λ (o : Option ReplayState). option_map (replay_in_run d.readable) o) at

not_found : (sum : List ℕ → ℕ) (P : ℕ) (was : SessionState) (index : ℕ) (before : RunState) (d : Disk) → numbered was.replays index ≡ None → Represents sum P was before d → numbered before.replays index ≡ None
not_found sum P was index before d at stands =
    ap (λ (l : List (Option RunReplay)). numbered l index) stands.replays ∙ numbered-map (replay_in_run d.readable) was.replays index ∙ ap (λ (o : Option ReplayState). option_map (replay_in_run d.readable) o) at

-- ---- a step of one replay

-- with another replay in the place of one it stands for what it stood for
moved_stands : (sum : List ℕ → ℕ) (P : ℕ) (was : SessionState) (replays : List (Option ReplayState)) (index : ℕ) (x : RunReplay) (s : RunState) (d : Disk) → StandsApart sum P was s d → StandsApart sum P (record was { replays = replays }) (moved index x s) d
moved_stands sum P was replays index x s d stands = record {
  fits = moved_fits was.writer stands.fits;
  phase = stands.phase;
  names = stands.names;
  floor = stands.floor;
  within = stands.within;
  kept = stands.kept;
  covered = stands.covered;
  only = stands.only;
}
  where
    moved_fits : (o : Option WriterState) → WriterFits P o s d → WriterFits P o (moved index x s) d
    moved_fits None fits = fits
    moved_fits (Some w) fits = record {
      page_size = fits.page_size;
      has_writer = fits.has_writer;
      content = fits.content;
      otherwise = fits.otherwise;
      capacity = fits.capacity;
      buffered = fits.buffered;
      within = fits.within;
      written = fits.written;
      awaited = fits.awaited;
    }

-- a step by which a replay goes on, as q, over a disk with these readable bytes
record GoesOn (sum : List ℕ → ℕ) (step : Step) (index : ℕ) (was : SessionState) (r q : ReplayState) (old new : Life) (reply : Reply) (moments : List Disk) : Type 0 where
  tail : q.tail ≡ r.tail
  through : (content : List ℕ) → IsReplayOf sum r content old.present → IsReplayOf sum q content new.present
  touched : (P : ℕ) (before : RunState) → numbered before.replays index ≡ Some (replay_in_run old.present.readable r) → UsesDevice (use_of_step P step before) old.present moments
  takes : (P : ℕ) (before : RunState) → numbered before.replays index ≡ Some (replay_in_run old.present.readable r) → TakesStep sum P step reply old.present new.present before (moved index (replay_in_run old.present.readable q) before)
  foretells : (P : ℕ) (before : RunState) → numbered before.replays index ≡ Some (replay_in_run old.present.readable r) → FaultsComeFirst P step reply before

module _ (sum : List ℕ → ℕ) (step : Step) (index : ℕ) (was : SessionState) (cache : CacheState) (old new : Life) (ready : IsSoundSession sum was old.present) (fits : CacheFits was cache old.present) (looked : Looked old new) (seen : Moments (SameButLog old.present) old new)
    (away : (s : RunState) → turned_away step s ≡ (if has_replay_at s index then None else Some NoSuch)) (stays : (content : List ℕ) → content_after step content ≡ content) (begins : (s : RunState) → at_step step s ≡ s) where
  -- the disk is the same except for its log
  readable : new.present.readable ≡ old.present.readable
  readable = ap (λ (x : Disk). x.readable) looked.same

  -- what stands of the content, at each moment
  step_did : (P : ℕ) (before after : RunState) (reply : Reply) → Represents sum P was before old.present → AnswersStep sum P step reply old.present (last old.present seen.moments) before after → UsesDevice (use_of_step P step before) old.present seen.moments
      → (is_some (turned_away step before) ≡ true → seen.moments ≡ []) → (raised (last old.present seen.moments) after).floor ≤ length after.content → Did sum P step reply old.present seen.moments before after
  step_did P before after reply all answer touched stopped within =
      let stands = stands_apart sum P was before old.present all in
      let at_each : (d : Disk) → SameButLog old.present d → StandsApart sum P was before d = λ d alike. looked_stands sum P was before old.present d alike stands in
      record {
        answer = answer;
        touches = touched;
        stopped = stopped;
        kept = subst (λ (s : RunState). Each (AllKeep sum P before.content s.floor) (old.present ∷ seen.moments)) (sym (begins before))
            (stands.kept, each_then (SameButLog old.present) (AllKeep sum P before.content before.floor) seen.moments (λ d alike. (at_each d alike).kept) seen.each);
        covered = subst (λ (s : RunState). Each (AllCover sum P before.content s.covers) (old.present ∷ seen.moments)) (sym (begins before))
            (stands.covered, each_then (SameButLog old.present) (AllCover sum P before.content before.covers) seen.moments (λ d alike. (at_each d alike).covered) seen.each);
        only = subst (λ (l : List ℕ). Each (AllOnly sum P before.content (if before.has_writer then l else before.otherwise)) (old.present ∷ seen.moments)) (sym (stays before.content)) (
          only_there sum P was.writer before old.present old.present stands.fits stands.only,
          each_then (SameButLog old.present) (AllOnly sum P before.content (if before.has_writer then before.content else before.otherwise)) seen.moments
              (λ d alike. only_there sum P was.writer before old.present d stands.fits (at_each d alike).only) seen.each,
        );
        within = within;
      }

  -- what a step leaves
  left_all : LeftAll sum was was.writer cache old.present new.present
  left_all = left_by sum was was.writer cache cache old new ready fits (leaves_all sum was.writer cache cache old new (look_leaves_tails sum cache old new looked) (look_leaves_replays old new looked))

  starts : (was.names ≡ []) ⊎ StartsCanBeAwaited new.present
  starts = elim ready.starts [ inl none ↦ inl none | inr stand ↦ inr (alike_stays_started old.present new.present looked.same stand) ]

  ready_on : (replays : List (Option ReplayState)) → IsReadyApart sum (record was { replays = replays }) new.present
  ready_on replays = record { writer = sound_on sum was.writer old new (look_leaves_writers sum old new looked) ready.writer; starts = starts }

  fits_writer : FitsWriter was.writer cache new.present
  fits_writer = fits_on was.writer cache cache old new (look_leaves_reads cache old new looked) fits.writer

  -- there is no such replay
  turned_steps : (reply : Reply) → numbered was.replays index ≡ None → reply ≡ NoSuch → new ≡ old → Steps sum step reply was was old new × CacheFits was cache new.present
  turned_steps reply none replied same =
      framed sum step reply was was cache old new [] (sym (append-nil was.snapshots)) refl ready.begun (ready_on was.replays) fits_writer left_all (λ k t lt. absurd (omega (arith, lt)))
      (subst (λ (r : Reply). AlwaysMakes sum step r was was old new []) (sym replied) (subst (λ (life : Life). AlwaysMakes sum step NoSuch was was old life []) (sym same) always))
    where
      always : AlwaysMakes sum step NoSuch was was old old []
      always P before all =
          let stands = stands_apart sum P was before old.present all in
          let gone : turned_away step before ≡ Some NoSuch = away before ∙ ap (λ (o : Option RunReplay). if is_some o then None else Some NoSuch) (not_found sum P was index before old.present none all) in
          subst (λ (l : List (Option (List ℕ))). SteppedApart sum P step NoSuch was old old before l before.replays) (sym (append-nil before.snapshots))
          (record {
            moments = [];
            goes = refl;
            after = before;
            did = record {
              answer = answers_away sum P step NoSuch old.present old.present before gone;
              touches = leaves (use_of_step P step before) old.present;
              stopped = λ is. refl;
              kept = (begun_keeps sum P step before old.present stands.kept, tt);
              covered = (begun_covers sum P step before old.present stands.covered, tt);
              only = subst (λ (l : List ℕ). Each (AllOnly sum P before.content (if before.has_writer then l else before.otherwise)) (old.present ∷ [])) (sym (stays before.content)) (only_there sum P was.writer before old.present old.present stands.fits stands.only, tt);
              within = raised_within sum P was old old before [] refl stands;
            };
            stands = stands;
            same = refl;
            alike = refl;
          })

  -- there is such a replay, and it goes on
  goes_on : (reply : Reply) (r q : ReplayState) → numbered was.replays index ≡ Some r → GoesOn sum step index was r q old new reply seen.moments
      → Steps sum step reply was (record was { replays = set was.replays index (Some q) }) old new × CacheFits (record was { replays = set was.replays index (Some q) }) cache new.present
  goes_on reply r q at goes =
      framed_by sum step reply was (record was { replays = set was.replays index (Some q) }) cache old new [] (λ P s. (moved index (replay_in_run old.present.readable q) s).replays) (sym (append-nil was.snapshots)) ready.begun (ready_on (set was.replays index (Some q))) fits_writer left_all.snapshots
      has (λ k t lt. absurd (omega (arith, lt))) always
    where
      next : SessionState
      next = record was { replays = set was.replays index (Some q) }

      is_replay : IsReplayIn sum was.writer old.present (Some r)
      is_replay = of_each (IsReplayIn sum was.writer old.present) was.replays index (Some r) (numbered_there was.replays index r at) ready.replays

      gives : IsReplayOf sum q (logical_bytes r.tail old.present.readable) new.present
      gives = goes.through (logical_bytes r.tail old.present.readable) is_replay.0

      it : IsReplayIn sum was.writer new.present (Some q)
      it = (subst (λ (content : List ℕ). IsReplayOf sum q content new.present) (sym gives.tail.is) gives, subst (λ (t : Tail). IsBelow was.writer t) (sym goes.tail) is_replay.1)

      has : HasReplays sum was next old.present new.present (λ P s. (moved index (replay_in_run old.present.readable q) s).replays)
      has = record {
        ready = All-set (IsReplayIn sum was.writer new.present) was.replays index (Some q) it (λ k o lt. (left_all.replays k o lt).replay);
        gives = λ P before all.
            ap (λ (l : List (Option RunReplay)). set l index (Some (replay_in_run old.present.readable q))) all.replays ∙ sym (map-set (option_map (replay_in_run old.present.readable)) was.replays index (Some q))
            ∙ ap (λ (l : List ℕ). map (option_map (replay_in_run l)) (set was.replays index (Some q))) (sym readable);
      }

      always : AlwaysLeaves sum step reply was next old new [] (λ P s. (moved index (replay_in_run old.present.readable q) s).replays)
      always P before all =
          let here = found sum P was index r before old.present at all in
          let some : turned_away step before ≡ None = away before ∙ ap (λ (o : Option RunReplay). if is_some o then None else Some NoSuch) here in
          let after = moved index (replay_in_run old.present.readable q) before in
          let after_it = moved_stands sum P was (set was.replays index (Some q)) index (replay_in_run old.present.readable q) before new.present (looked_stands sum P was before old.present new.present looked.same (stands_apart sum P was before old.present all)) in
          let end : new.present ≡ last old.present seen.moments = ap (λ (life : Life). life.present) seen.goes ∙ last_is old seen.moments in
          subst (λ (l : List (Option (List ℕ))). SteppedApart sum P step reply next old new before l after.replays) (sym (append-nil before.snapshots))
          (record {
            moments = seen.moments;
            goes = seen.goes;
            after = after;
            did = step_did P before after reply all
                (subst (λ (to : Disk). AnswersStep sum P step reply old.present to before after) end (answers_here sum P step reply old.present new.present before after some (goes.takes P before here) (goes.foretells P before here)))
                (goes.touched P before here) (not_turned_away step before seen.moments some) (raised_within sum P next old new after seen.moments seen.goes after_it);
            stands = after_it;
            same = refl;
            alike = refl;
          })

  -- there is such a replay, or there is none
  one_takes : (now : SessionState) (reply : Reply) (goes : ReplayState → ReplayState → Type 0) → AtReplay index was.replays now.replays reply (new ≡ old) goes → KeepsAllButReplays was now
      → ((r q : ReplayState) → IsReplayOf sum r (logical_bytes r.tail old.present.readable) old.present → goes r q → GoesOn sum step index was r q old new reply seen.moments) → Steps sum step reply was now old new × CacheFits now cache new.present
  one_takes now reply goes did rest each = by_number (numbered was.replays index) refl did
    where
      is_with : (replays : List (Option ReplayState)) → now.replays ≡ replays → now ≡ record was { replays = replays }
      is_with replays is = rest ∙ ap (λ (l : List (Option ReplayState)). record was { replays = l }) is

      by_number : (o : Option ReplayState) → numbered was.replays index ≡ o → AtOne index was.replays now.replays reply (new ≡ old) goes o → Steps sum step reply was now old new × CacheFits now cache new.present
      by_number None at (replied, is, same) = subst (λ (s : SessionState). Steps sum step reply was s old new × CacheFits s cache new.present) (sym (is_with was.replays is)) (turned_steps reply at replied same)
      by_number (Some r) at (q, is, went) =
          let is_replay : IsReplayIn sum was.writer old.present (Some r) = of_each (IsReplayIn sum was.writer old.present) was.replays index (Some r) (numbered_there was.replays index r at) ready.replays in
          subst (λ (s : SessionState). Steps sum step reply was s old new × CacheFits s cache new.present) (sym (is_with (set was.replays index (Some q)) is)) (goes_on reply r q at (each r q is_replay.0 went))

-- ---- each of the three

-- a step that asks no device leaves the life
with_life : (index : ℕ) (was now : List (Option ReplayState)) (reply : Reply) (goes : ReplayState → ReplayState → Type 0) (life : Life) → AtReplay index was now reply ⊤ goes → AtReplay index was now reply (life ≡ life) goes
with_life index was now reply goes life did = by_number (numbered was index) did
  where
    by_number : (o : Option ReplayState) → AtOne index was now reply ⊤ goes o → AtOne index was now reply (life ≡ life) goes o
    by_number None (replied, same, any) = (replied, same, refl)
    by_number (Some r) went = went

-- a replay of a session can go on
can_go_on : (sum : List ℕ → ℕ) (o : Option WriterState) (d : Disk) (r : Option ReplayState) → IsReplayIn sum o d r → ReplayCanGoOn r d
can_go_on sum o d None is = tt
can_go_on sum o d (Some r) is = is.0.can

pub all_can_go_on : (sum : List ℕ → ℕ) (was : SessionState) (d : Disk) → IsSoundSession sum was d → All (λ r. ReplayCanGoOn r d) was.replays
all_can_go_on sum was d ready = λ k r lt. can_go_on sum was.writer d (get_or was.replays k r) (ready.replays k r lt)

-- no more bytes are at hand than are left
hand_within : (sum : List ℕ → ℕ) (q : ReplayState) (content : List ℕ) (d : Disk) → IsReplayOf sum q content d → length q.hand ≤ length content - q.position
hand_within sum q content d gives =
    let long : length q.hand ≡ min (length q.hand) (length content - q.position) =
    ap length gives.hand ∙ length-take (length q.hand) (drop q.position content) ∙ ap (λ (n : ℕ). min (length q.hand) n) (length-drop q.position content) in
    omega (arith, long)

fetched_of : (sum : List ℕ → ℕ) (r q : ReplayState) (readable : List ℕ) (d : Disk) → StaysFilled r q → IsReplayOf sum q (logical_bytes r.tail readable) d → HasFetched (replay_in_run readable r) (replay_in_run readable q)
fetched_of sum r q readable d fills gives =
    let one : Tail → ℕ → ℕ → RunReplay = λ t p b. record { content = logical_bytes t readable; whole = t.full_pages * t.page_size; position = p; hand = length q.hand; batch = b * t.page_size } in
    record {
      stays = ap (λ (t : Tail). one t q.position q.batch) fills.tail ∙ ap (λ (p : ℕ). one r.tail p q.batch) fills.position ∙ ap (λ (b : ℕ). one r.tail r.position b) fills.batch;
      more = fills.hand;
      within = subst (λ (t : Tail). length q.hand ≤ length (logical_bytes t readable) - q.position) (sym fills.tail) (hand_within sum q (logical_bytes r.tail readable) d gives);
    }

ensure_cause : (sum : List ℕ → ℕ) (P : ℕ) (index count : ℕ) (t : Tail) (before : RunState) (old new : Life) (e : Error) → HasFullPages sum t old.present → FillFault sum t old new e → HasCause P (Ensure index count) before old.present new.present e
ensure_cause sum P index count t before old new ReadFailed full fault = ((0, lit< tt, refl), fault)
ensure_cause sum P index count t before old new WriteFailed full fault = absurd fault
ensure_cause sum P index count t before old new ResizeFailed full fault = absurd fault
ensure_cause sum P index count t before old new SyncFailed full fault = absurd fault
ensure_cause sum P index count t before old new InvalidChecksum full fault = absurd (fault full)
ensure_cause sum P index count t before old new BlobInsufficientLength full fault = absurd fault
ensure_cause sum P index count t before old new OffsetOverflow full fault = absurd fault
ensure_cause sum P index count t before old new OutOfMemory full fault = tt
ensure_cause sum P index count t before old new IdsExhausted full fault = absurd fault

-- where so many bytes are had
had_of : (a b c d : ℕ) → (nat_le a b || nat_le c d) ≡ true → (a ≤ b) ⊎ (c ≤ d)
had_of a b c d is = by_test (nat_le a b) refl is
  where
    by_test : (first : Bool) → nat_le a b ≡ first → (first || nat_le c d) ≡ true → (a ≤ b) ⊎ (c ≤ d)
    by_test true is some = let enough : a ≤ b = grind (arith, nat_tests, is) in inl enough
    by_test false isnt some = let past : c ≤ d = grind (arith, nat_tests, some) in inr past

-- the device is asked only where the bytes aren't had
ensure_touched : (P : ℕ) (index count : ℕ) (r : ReplayState) (before : RunState) (old new : Life) (seen : Moments (SameButLog old.present) old new) → (IsHad r count → new ≡ old) → numbered before.replays index ≡ Some (replay_in_run old.present.readable r) → UsesDevice (use_of_step P (Ensure index count) before) old.present seen.moments
ensure_touched P index count r before old new seen idle here =
    subst (λ (o : Option RunReplay). UsesDevice (if needs_no_device o count then Leaves else Looks) old.present seen.moments) (sym here) (by_test (needs_no_device (Some (replay_in_run old.present.readable r)) count) refl)
  where
    by_test : (had : Bool) → needs_no_device (Some (replay_in_run old.present.readable r)) count ≡ had → UsesDevice (if had then Leaves else Looks) old.present seen.moments
    by_test true so = no_moments old new seen.moments seen.goes (idle (had_of count (length r.hand) (r.tail.full_pages * r.tail.page_size) (r.position + length r.hand) so))
    by_test false isnt = seen.each

-- how a replay goes on in an `Ensure`
ensure_goes : (sum : List ℕ → ℕ) (index count : ℕ) (was : SessionState) (old new : Life) (seen : Moments (SameButLog old.present) old new) (r q : ReplayState) → IsReplayOf sum r (logical_bytes r.tail old.present.readable) old.present → (reply : Reply) → EnsureSays sum r q count old new reply
    → GoesOn sum (Ensure index count) index was r q old new reply seen.moments
ensure_goes sum index count was old new seen r q gives (Answer answer) says = let e = says.ensures in record {
  tail = e.0.tail;
  through = λ content g. says.through sum content g;
  touched = λ P before here. ensure_touched P index count r before old new seen says.idle here;
  takes = λ P before here. (replay_in_run old.present.readable r, replay_in_run old.present.readable q, here, ensured, refl);
  foretells = λ P before here. (λ none. absurd none, λ none. absurd none);
}
  where
    size : size_of_tail r.tail ≡ length (logical_bytes r.tail old.present.readable)
    size = sym (length-told r.tail old.present.readable gives.tail.there)

    ensured : HasEnsured (replay_in_run old.present.readable r) count answer (replay_in_run old.present.readable q)
    ensured = record {
      fetched = fetched_of sum r q old.present.readable new.present says.ensures.0 (says.through sum (logical_bytes r.tail old.present.readable) gives);
      exact = says.ensures.1 ∙ ap (λ (n : ℕ). nat_le (r.position + count) n) size;
      enough = says.ensures.2;
      rest = λ no. (says.ensures.3 no).0 ∙ size ∙ ap (λ (t : Tail). length (logical_bytes t old.present.readable)) (sym says.ensures.0.tail);
      most = says.ensures.4;
    }
ensure_goes sum index count was old new seen r q gives (Fault error) says = let e = says.ensures in record {
  tail = e.0.tail;
  through = λ content g. says.through sum content g;
  touched = λ P before here. ensure_touched P index count r before old new seen says.idle here;
  takes = λ P before here.
      let cause = ensure_cause sum P index count r.tail before old new error gives.tail.full e.1 in
      (cause, (replay_in_run old.present.readable r, replay_in_run old.present.readable q, here, fetched_of sum r q old.present.readable new.present says.ensures.0 (says.through sum (logical_bytes r.tail old.present.readable) gives), refl));
  foretells = λ P before here. (λ none. absurd none, λ none. absurd none);
}
ensure_goes sum index count was old new seen r q gives other says = absurd says.ensures

pub ensure_takes : (sum : List ℕ → ℕ) (was now : SessionState) (cache : CacheState) (index count : ℕ) (old new : Life) (reply : Reply) → IsSoundSession sum was old.present → CacheFits was cache old.present → Looked old new
    → AtReplay index was.replays now.replays reply (new ≡ old) (λ r q. EnsureSays sum r q count old new reply) → KeepsAllButReplays was now → Steps sum (Ensure index count) reply was now old new × CacheFits now cache new.present
unfolding Through
ensure_takes sum was now cache index count old new reply ready fits looked did rest =
    one_takes sum (Ensure index count) index was cache old new ready fits looked looked.through (λ s. refl) (λ content. refl) (λ s. refl) now reply (λ r q. EnsureSays sum r q count old new reply) did rest
    (λ r q gives went. ensure_goes sum index count was old new looked.through r q gives reply went)

-- a replay that is put back as it was leaves the standing as it was
moved_back : (index : ℕ) (x : RunReplay) (s : RunState) → numbered s.replays index ≡ Some x → moved index x s ≡ s
moved_back index x s here = ap (λ (l : List (Option RunReplay)). record s { replays = l }) (put_back s.replays index (Some x) (numbered_there s.replays index x here))

-- how a replay goes on in a `Take`, which asks no device
take_goes : (sum : List ℕ → ℕ) (index count : ℕ) (was : SessionState) (life : Life) (moments : List Disk) → moments ≡ [] → (r q : ReplayState) → IsReplayOf sum r (logical_bytes r.tail life.present.readable) life.present → (a : Reply) → TakesOf r q count a → ReplaysOn r q
    → GoesOn sum (Take index count) index was r q life life a moments
take_goes sum index count was life moments none r q gives (Bytes bytes) (takes, is) on = record {
  tail = ap (λ (x : ReplayState). x.tail) is;
  through = λ content g. on.1 sum content life.present g;
  touched = λ P before here. none;
  takes = λ P before here. (replay_in_run life.present.readable r, here, given, ap (λ (x : RunReplay). moved index x before) (ap (λ (x : ReplayState). replay_in_run life.present.readable x) is ∙ left));
  foretells = λ P before here. (λ fault. absurd fault, λ fault. absurd fault);
}
  where
    given : bytes.items ≡ take (min count (length r.hand)) (drop r.position (logical_bytes r.tail life.present.readable))
    given = takes ∙ ap (λ (l : List ℕ). take (min count (length r.hand)) l) gives.hand ∙ take-take (min count (length r.hand)) (length r.hand) (drop r.position (logical_bytes r.tail life.present.readable)) (omega arith)

    left : replay_in_run life.present.readable (advanced (min count (length r.hand)) r) ≡ passed count (replay_in_run life.present.readable r)
    left =
        let one : ℕ → ℕ → RunReplay = λ p h. record { content = logical_bytes r.tail life.present.readable; whole = r.tail.full_pages * r.tail.page_size; position = p; hand = h; batch = r.batch * r.tail.page_size } in
        let position_is : r.position + min (min count (length r.hand)) (length r.hand) ≡ r.position + min count (length r.hand) = omega arith in
        let rest : length (drop (min count (length r.hand)) r.hand) ≡ length r.hand - count = length-drop (min count (length r.hand)) r.hand ∙ omega arith in
        ap (λ (p : ℕ). one p (length (drop (min count (length r.hand)) r.hand))) position_is ∙ ap (λ (h : ℕ). one (r.position + min count (length r.hand)) h) rest
take_goes sum index count was life moments none r q gives (Fault e) (fault, is) on = record {
  tail = ap (λ (x : ReplayState). x.tail) is;
  through = λ content g. on.1 sum content life.present g;
  touched = λ P before here. none;
  takes = λ P before here.
      let same : moved index (replay_in_run life.present.readable q) before ≡ before = ap (λ (x : ReplayState). moved index (replay_in_run life.present.readable x) before) is ∙ moved_back index (replay_in_run life.present.readable r) before here in
      subst (λ (x : Error). TakesStep sum P (Take index count) (Fault x) life.present life.present before (moved index (replay_in_run life.present.readable q) before)) (sym fault) (tt, same);
  foretells = λ P before here. (λ none. absurd none, λ none. absurd none);
}
take_goes sum index count was life moments none r q gives other takes on = absurd takes

pub take_takes : (sum : List ℕ → ℕ) (was now : SessionState) (cache : CacheState) (index count : ℕ) (life : Life) (reply : Reply) → IsSoundSession sum was life.present → CacheFits was cache life.present → AtReplay index was.replays now.replays reply ⊤ (λ r q. TakesOf r q count reply × ReplaysOn r q) → KeepsAllButReplays was now
    → Steps sum (Take index count) reply was now life life × CacheFits now cache life.present
unfolding Through
take_takes sum was now cache index count life reply ready fits did rest =
    let looked : Looked life life = looked_start life in
    one_takes sum (Take index count) index was cache life life ready fits looked looked.through (λ s. refl) (λ content. refl) (λ s. refl) now reply (λ r q. TakesOf r q count reply × ReplaysOn r q)
    (with_life index was.replays now.replays reply (λ r q. TakesOf r q count reply × ReplaysOn r q) life did) rest
    (λ r q gives went. take_goes sum index count was life looked.through.moments (no_moments life life looked.through.moments looked.through.goes refl) r q gives reply went.0 went.1)

-- the bytes that a replay goes over
size_found : (s : RunState) (index : ℕ) (x : RunReplay) → numbered s.replays index ≡ Some x → replay_size s index ≡ length x.content
size_found s index x here = ap (λ (o : Option RunReplay). elim o [ None ↦ 0 | Some r ↦ length r.content ]) here

replay_has : (sum : List ℕ → ℕ) (r : ReplayState) (d : Disk) → IsReplayOf sum r (logical_bytes r.tail d.readable) d → size_of_tail r.tail ≡ length (logical_bytes r.tail d.readable)
replay_has sum r d gives = sym (length-told r.tail d.readable gives.tail.there)

-- how a replay goes on in a `Seek` that is refused
seek_fails : (sum : List ℕ → ℕ) (index offset : ℕ) (was : SessionState) (life : Life) (moments : List Disk) → moments ≡ [] → (r q : ReplayState) → IsReplayOf sum r (logical_bytes r.tail life.present.readable) life.present → (e : Error) → Seeks r offset q (Err e) → ReplaysOn r q
    → GoesOn sum (Seek index offset) index was r q life life (Fault e) moments
seek_fails sum index offset was life moments none r q gives BlobInsufficientLength (past, is) on = record {
  tail = ap (λ (x : ReplayState). x.tail) is;
  through = λ content g. on.1 sum content life.present g;
  touched = λ P before here. none;
  takes = λ P before here.
      let same : moved index (replay_in_run life.present.readable q) before ≡ before = ap (λ (x : ReplayState). moved index (replay_in_run life.present.readable x) before) is ∙ moved_back index (replay_in_run life.present.readable r) before here in
      let beyond : replay_size before index < offset = omega (arith, past, replay_has sum r life.present gives, size_found before index (replay_in_run life.present.readable r) here) in
      (beyond, same);
  foretells = λ P before here. (λ fault. absurd fault, λ beyond. refl);
}
seek_fails sum index offset was life moments none r q gives other fault on = absurd fault

seek_goes : (sum : List ℕ → ℕ) (index offset : ℕ) (was : SessionState) (life : Life) (moments : List Disk) → moments ≡ [] → (r q : ReplayState) → IsReplayOf sum r (logical_bytes r.tail life.present.readable) life.present → (a : Reply) → SeeksOf r q offset a → ReplaysOn r q
    → GoesOn sum (Seek index offset) index was r q life life a moments
seek_goes sum index offset was life moments none r q gives Done (within, is) on = record {
  tail = ap (λ (x : ReplayState). x.tail) is;
  through = λ content g. on.1 sum content life.present g;
  touched = λ P before here. none;
  takes = λ P before here. let enough : offset ≤ length (logical_bytes r.tail life.present.readable) = omega (arith, within, replay_has sum r life.present gives) in (replay_in_run life.present.readable r, here, enough, ap (λ (x : ReplayState). moved index (replay_in_run life.present.readable x) before) is);
  foretells = λ P before here. (λ fault. absurd fault, λ beyond. absurd (omega (arith, beyond, within, replay_has sum r life.present gives, size_found before index (replay_in_run life.present.readable r) here)));
}
seek_goes sum index offset was life moments none r q gives (Fault e) fault on = seek_fails sum index offset was life moments none r q gives e fault on
seek_goes sum index offset was life moments none r q gives other fault on = absurd fault

pub seek_takes : (sum : List ℕ → ℕ) (was now : SessionState) (cache : CacheState) (index offset : ℕ) (life : Life) (reply : Reply) → IsSoundSession sum was life.present → CacheFits was cache life.present → AtReplay index was.replays now.replays reply ⊤ (λ r q. SeeksOf r q offset reply × ReplaysOn r q) → KeepsAllButReplays was now
    → Steps sum (Seek index offset) reply was now life life × CacheFits now cache life.present
unfolding Through
seek_takes sum was now cache index offset life reply ready fits did rest =
    let looked : Looked life life = looked_start life in
    one_takes sum (Seek index offset) index was cache life life ready fits looked looked.through (λ s. refl) (λ content. refl) (λ s. refl) now reply (λ r q. SeeksOf r q offset reply × ReplaysOn r q)
    (with_life index was.replays now.replays reply (λ r q. SeeksOf r q offset reply × ReplaysOn r q) life did) rest
    (λ r q gives went. seek_goes sum index offset was life looked.through.moments (no_moments life life looked.through.moments looked.through.goes refl) r q gives reply went.0 went.1)
