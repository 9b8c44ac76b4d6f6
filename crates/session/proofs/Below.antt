-- What a step leaves of the session's snapshots, and of its replays.
use Rattle.std.proofs.Common.{◌≡◌, ℕ, suc, ◌<◌, ◌≤◌, zero, List, [], ◌∷◌, ◌++◌, length, map, refl, sym, ap, ◌∙◌, subst, arith, append-nil, inl, Bool, true, false}
use Rattle.std.specs.Prelude.{All, IfSome, Option, Some, None, nat_lt, get_or, option_map}
use Rattle.std.proofs.lemmas.List.Elements.{All-append}
use Rattle.std.proofs.lemmas.Bool.Decides.{nat_tests}
use Rattle.std.proofs.lemmas.Option.{get_or_from_slice_get, slice_get_within, slice_get_read}
use Rattle.std.specs.List.{slice_get}
use Rattle.disk.specs.Disk.{Disk, Life}
use Rattle.writer_state.specs.WriterState.{WriterState}
use Rattle.writer_state.specs.Sound.{IsSound}
use Rattle.cache.specs.CacheState.{CacheState, SameSettings}
use Rattle.paged_read.specs.Tail.{Tail, logical_bytes, CanRead}
use Rattle.paged_read.specs.Replay.{ReplayState, IsReplayOf, LeavesAllReplays, LeavesReplays}
use Rattle.paged_read.specs.Snapshots.{LeavesAllTails, LeavesOthers, LeavesTails}
use Rattle.paged.specs.Caches.{tail_of}
use Rattle.paged.specs.Calls.{IsSameWriter}
use Rattle.session.specs.declared.steps.Step.{Step}
use Rattle.session.specs.declared.steps.Reply.{Reply}
use Rattle.session.specs.declared.steps.Reply.TheVariants.{At, Fault, Nothing}
use Rattle.disk.specs.declared.error.Error.TheVariants.{OffsetOverflow, OutOfMemory}
use Rattle.session.specs.Run.{CacheFits, FitsWriter, HasSoundWriter, IsBelow, IsReplayIn, IsSnapshot, IsSoundSession, replay_in_run, Represents, RunReplay, RunState, SessionState}
use Rattle.session.specs.Promise.{session_of}
use Rattle.session.specs.Calls.{LeavesRunState, LeavesTaken, Steps, TriedAppend}
use Rattle.session.proofs.OtherWriters.{others_gone, others_here, others_on, others_stay, settings_same}
use Rattle.session.proofs.Apart.{IsReadyApart, left_replays, SteppedApart, StepsApart, StepsBy, stands_apart, whole}

-- ---- of a writer

-- the writer, if there is one, is sound
pub sound_in : (sum : List ℕ → ℕ) (o : Option WriterState) (w : WriterState) (d : Disk) → o ≡ Some w → HasSoundWriter sum o d → IsSound sum w d
sound_in sum o w d at sound = subst (λ (x : Option WriterState). HasSoundWriter sum x d) at sound

-- the writer, if there is one, can be read with the cache that fits it
pub can_in : (o : Option WriterState) (w : WriterState) (cache : CacheState) (d : Disk) → o ≡ Some w → FitsWriter o cache d → CanRead (tail_of w) cache d
can_in o w cache d at fits = subst (λ (x : Option WriterState). FitsWriter x cache d) at fits

-- ---- what a call of the writer leaves

-- snapshots and replays whose full pages are among the writer's are among those of the writer that
-- goes on
pub leaves_on : (sum : List ℕ → ℕ) (o : Option WriterState) (w v : WriterState) (cache after : CacheState) (old new : Life) → o ≡ Some w → IsSameWriter w v → LeavesTails sum w.full_pages cache after old new → LeavesReplays w.page_size w.full_pages old new
    → LeavesOthers w.id cache after → SameSettings cache after → LeavesTaken sum o (Some v) cache after old new
leaves_on sum o w v cache after old new at same tails replays others settings = record {
  own = record {
    snapshots = λ t content below stands.
        let under : IsBelow (Some w) t = subst (λ (x : Option WriterState). IsBelow x t) at below in
        let more : t.full_pages ≤ v.full_pages = omega (arith, under.1, same.full_pages) in
        (tails t content under.1 stands, (under.0 ∙ sym same.page_size, more));
    replays = λ r content below gives.
        let under : IsBelow (Some w) r.tail = subst (λ (x : Option WriterState). IsBelow x r.tail) at below in
        let more : r.tail.full_pages ≤ v.full_pages = omega (arith, under.1, same.full_pages) in
        (replays sum content r under.0 under.1 gives, (under.0 ∙ sym same.page_size, more));
  };
  others = others_on o w v cache after at same.id others settings;
}

-- the same where the call leaves no writer
pub leaves_gone : (sum : List ℕ → ℕ) (o now : Option WriterState) (w : WriterState) (cache after : CacheState) (old new : Life) → o ≡ Some w → now ≡ None → LeavesTails sum w.full_pages cache after old new → LeavesReplays w.page_size w.full_pages old new
    → LeavesOthers w.id cache after → SameSettings cache after → LeavesTaken sum o now cache after old new
leaves_gone sum o now w cache after old new at none tails replays others settings = record {
  own = record {
    snapshots = λ t content below stands.
        let under : IsBelow (Some w) t = subst (λ (x : Option WriterState). IsBelow x t) at below in
        (tails t content under.1 stands, subst (λ (x : Option WriterState). IsBelow x t) (sym none) tt);
    replays = λ r content below gives.
        let under : IsBelow (Some w) r.tail = subst (λ (x : Option WriterState). IsBelow x r.tail) at below in
        (replays sum content r under.0 under.1 gives, subst (λ (x : Option WriterState). IsBelow x r.tail) (sym none) tt);
  };
  others = others_gone o now w cache after at none others settings;
}

-- the same where the writer stays as it is
pub leaves_same : (sum : List ℕ → ℕ) (o : Option WriterState) (w : WriterState) (cache after : CacheState) (old new : Life) → o ≡ Some w → LeavesTails sum w.full_pages cache after old new → LeavesAllReplays old new → LeavesOthers w.id cache after → SameSettings cache after
    → LeavesTaken sum o o cache after old new
leaves_same sum o w cache after old new at tails replays others settings = record {
  own = record {
    snapshots = λ t content below stands.
        let under : IsBelow (Some w) t = subst (λ (x : Option WriterState). IsBelow x t) at below in
        (tails t content under.1 stands, below);
    replays = λ r content below gives. (replays sum content r gives, below);
  };
  others = others_stay o w cache after at others settings;
}

-- a call that asks nothing of the device
pub leaves_here : (sum : List ℕ → ℕ) (o : Option WriterState) (cache : CacheState) (life : Life) → LeavesTaken sum o o cache cache life life
leaves_here sum o cache life = record {
  own = record {
    snapshots = λ t content below stands. (stands, below);
    replays = λ r content below gives. (gives, below);
  };
  others = others_here o cache;
}

-- a call that asks nothing of the device, after which the writer is the same
tried_same : (sum : List ℕ → ℕ) (w v : WriterState) (now : Option WriterState) (cache : CacheState) (life : Life) → now ≡ Some v → v ≡ w → LeavesTaken sum (Some w) now cache cache life life
tried_same sum w v now cache life is same = subst (λ (x : Option WriterState). LeavesTaken sum (Some w) x cache cache life life) (sym (is ∙ ap Some same)) (leaves_here sum (Some w) cache life)

-- what an append within the capacity leaves, which asks nothing of the device
pub leaves_tried : (sum : List ℕ → ℕ) (o now : Option WriterState) (bytes : List ℕ) (cache : CacheState) (life : Life) (reply : Reply) → TriedAppend sum o now bytes reply → LeavesTaken sum o now cache cache life life
leaves_tried sum None now bytes cache life reply (replied, none) = subst (λ (x : Option WriterState). LeavesTaken sum None x cache cache life life) (sym none) (leaves_here sum None cache life)
leaves_tried sum (Some w) now bytes cache life (At n) (v, is, tries, over) =
    let same : IsSameWriter w v = subst (λ (u : WriterState). IsSameWriter w u) (sym tries.3) (record { page_size = refl; id = refl; capacity = refl; full_pages = omega arith }) in
    subst (λ (x : Option WriterState). LeavesTaken sum (Some w) x cache cache life life) (sym is)
    (leaves_on sum (Some w) w v cache cache life life refl same (λ t content below stands. stands) (λ s content r page below gives. gives) (λ t d other can. can) (settings_same cache))
leaves_tried sum (Some w) now bytes cache life Nothing (v, is, tries) = tried_same sum w v now cache life is tries.2
leaves_tried sum (Some w) now bytes cache life (Fault OffsetOverflow) (v, is, tries) = tried_same sum w v now cache life is tries.1
leaves_tried sum (Some w) now bytes cache life (Fault OutOfMemory) (v, is, tries) = tried_same sum w v now cache life is tries.2
leaves_tried sum (Some w) now bytes cache life (Fault e) (v, is, tries) = absurd tries
leaves_tried sum (Some w) now bytes cache life reply tried = absurd tried

-- a call that leaves all snapshots and replays
pub leaves_all : (sum : List ℕ → ℕ) (o : Option WriterState) (cache after : CacheState) (old new : Life) → LeavesAllTails sum cache after old new → LeavesAllReplays old new → LeavesRunState sum o o cache after old new
leaves_all sum o cache after old new tails replays = record {
  snapshots = λ t content below stands. (tails t content stands, below);
  replays = λ r content below gives. (replays sum content r gives, below);
}

-- a call that leaves them and the cache
pub leaves_cache : (sum : List ℕ → ℕ) (o : Option WriterState) (cache : CacheState) (old new : Life) → LeavesAllTails sum cache cache old new → LeavesAllReplays old new → LeavesTaken sum o o cache cache old new
leaves_cache sum o cache old new tails replays = record { own = leaves_all sum o cache cache old new tails replays; others = others_here o cache }

-- ---- what a step leaves of one snapshot, and of one replay

-- a snapshot that a step leaves is one still, can be read, and has the content that it had
pub record Left (sum : List ℕ → ℕ) (now : Option WriterState) (after : CacheState) (old new : Disk) (t : Tail) : Type 0 where
  pub snapshot : IsSnapshot sum now t new
  pub can : CanRead t after new
  pub tells : logical_bytes t new.readable ≡ logical_bytes t old.readable

-- a replay that a step leaves is one still, and gives what it gave
pub record LeftReplay (sum : List ℕ → ℕ) (now : Option WriterState) (old new : Disk) (o : Option ReplayState) : Type 0 where
  pub replay : IsReplayIn sum now new o
  pub tells : option_map (replay_in_run new.readable) o ≡ option_map (replay_in_run old.readable) o

-- a snapshot that a step leaves, if it wasn't let go
abbrev pub LeftSnapshot : (List ℕ → ℕ) → Option WriterState → CacheState → Disk → Disk → Option Tail → Type 0
LeftSnapshot sum now after old new o = IfSome o (λ t. Left sum now after old new t)

-- all snapshots and replays are left so
pub record LeftAll (sum : List ℕ → ℕ) (was : SessionState) (now : Option WriterState) (after : CacheState) (old new : Disk) : Type 0 where
  pub snapshots : All (LeftSnapshot sum now after old new) was.snapshots
  pub replays : All (LeftReplay sum now old new) was.replays

-- one snapshot is left so
snapshot_left : (sum : List ℕ → ℕ) (was now : Option WriterState) (cache after : CacheState) (old new : Life) (o : Option Tail) → LeavesRunState sum was now cache after old new → IfSome o (λ t. IsSnapshot sum was t old.present) → IfSome o (λ t. CanRead t cache old.present)
    → LeftSnapshot sum now after old.present new.present o
snapshot_left sum was now cache after old new None leaves is can = tt
snapshot_left sum was now cache after old new (Some t) leaves is can =
    let after_it = leaves.snapshots t (logical_bytes t old.present.readable) is.below (record { tail = record { there = is.there; full = is.full; is = refl }; can = can }) in
    let tail = after_it.0.tail in
    record { snapshot = record { there = tail.there; full = tail.full; below = after_it.1 }; can = after_it.0.can; tells = tail.is }

snapshot_same : (sum : List ℕ → ℕ) (writer : Option WriterState) (cache : CacheState) (d : Disk) (o : Option Tail) → IfSome o (λ t. IsSnapshot sum writer t d) → IfSome o (λ t. CanRead t cache d) → LeftSnapshot sum writer cache d d o
snapshot_same sum writer cache d None is can = tt
snapshot_same sum writer cache d (Some t) is can = record { snapshot = is; can = can; tells = refl }

-- one replay is left so
replay_left : (sum : List ℕ → ℕ) (was now : Option WriterState) (cache after : CacheState) (old new : Life) (o : Option ReplayState) → LeavesRunState sum was now cache after old new → IsReplayIn sum was old.present o → LeftReplay sum now old.present new.present o
replay_left sum was now cache after old new None leaves is = record { replay = tt; tells = refl }
replay_left sum was now cache after old new (Some r) leaves (gives, below) =
    let after_it = leaves.replays r (logical_bytes r.tail old.present.readable) below gives in
    let tells : logical_bytes r.tail new.present.readable ≡ logical_bytes r.tail old.present.readable = after_it.0.tail.is in
    record {
      replay = (subst (λ (content : List ℕ). IsReplayOf sum r content new.present) (sym tells) after_it.0, after_it.1);
      tells = ap (λ (content : List ℕ). Some (record (replay_in_run old.present.readable r) { content = content })) tells;
    }

pub left_by : (sum : List ℕ → ℕ) (was : SessionState) (now : Option WriterState) (cache after : CacheState) (old new : Life) → IsSoundSession sum was old.present → CacheFits was cache old.present → LeavesRunState sum was.writer now cache after old new
    → LeftAll sum was now after old.present new.present
left_by sum was now cache after old new ready fits leaves = record {
  snapshots = λ k o lt. snapshot_left sum was.writer now cache after old new (get_or was.snapshots k o) leaves (ready.snapshots k o lt) (fits.snapshots k o lt);
  replays = λ k o lt. replay_left sum was.writer now cache after old new (get_or was.replays k o) leaves (ready.replays k o lt);
}

-- all replays are left so by a step that asks nothing of the device
pub replays_same : (sum : List ℕ → ℕ) (was : SessionState) (now : Option WriterState) (old new : Life) → IsSoundSession sum was old.present → now ≡ was.writer → new ≡ old → All (LeftReplay sum now old.present new.present) was.replays
replays_same sum was now old new ready writer life = rw (writer, life) (λ k o lt. record { replay = ready.replays k o lt; tells = refl })

pub left_same : (sum : List ℕ → ℕ) (was : SessionState) (now : Option WriterState) (cache after : CacheState) (old new : Life) → IsSoundSession sum was old.present → CacheFits was cache old.present → now ≡ was.writer → after ≡ cache → new ≡ old
    → LeftAll sum was now after old.present new.present
left_same sum was now cache after old new ready fits writer same life = record {
  snapshots = rw (writer, same, life) (λ k o lt. snapshot_same sum was.writer cache old.present (get_or was.snapshots k o) (ready.snapshots k o lt) (fits.snapshots k o lt));
  replays = replays_same sum was now old new ready writer life;
}

-- what holds of all of a list holds of the one at an index
pub of_each : {X : Type 0} (Q : X → Type 0) (xs : List X) (i : ℕ) (x : X) → slice_get xs i ≡ Some x → All Q xs → Q x
of_each Q xs i x at all = subst Q (get_or_from_slice_get xs i x x at) (all i x (slice_get_within xs i x at))

pub at_offset : {X : Type 0} (xs ys : List X) (i : ℕ) (x : X) → xs ≡ ys → true ≡ nat_lt i (length xs) → x ≡ get_or xs i x → slice_get ys i ≡ Some x
at_offset xs ys i x same within is =
    let less : i < length xs = grind (arith, nat_tests, within) in
    subst (λ (l : List _). slice_get l i ≡ Some x) same (slice_get_read xs (length xs) i x refl less is)

-- ---- a step

-- two functions that agree on each element of a list
pub maps_alike : {X Y : Type 0} (f g : X → Y) (xs : List X) → All (λ x. f x ≡ g x) xs → map f xs ≡ map g xs
maps_alike f g [] alike = refl
maps_alike f g (x ∷ xs) alike =
    let rest = maps_alike f g xs (λ k y lt. alike (suc k) y (omega (arith, lt))) in
    let first : f x ≡ g x = alike 0 x (omega arith) in
    rw (first, rest) refl

pub map_both : {X Y : Type 0} (f : X → Y) (xs more : List X) → map f (xs ++ more) ≡ map f xs ++ map f more
map_both f [] more = refl
map_both f (x ∷ xs) more = ap (λ (l : List _). f x ∷ l) (map_both f xs more)

-- a snapshot that was made
pub record Made (sum : List ℕ → ℕ) (now : Option WriterState) (after : CacheState) (new : Disk) (t : Tail) : Type 0 where
  pub snapshot : IsSnapshot sum now t new
  pub can : CanRead t after new

abbrev pub MadeSnapshot : (List ℕ → ℕ) → Option WriterState → CacheState → Disk → Option Tail → Type 0
MadeSnapshot sum now after new o = IfSome o (λ t. Made sum now after new t)

-- a step that makes these snapshots, and leaves these replays, whatever the session stood for
abbrev pub AlwaysLeaves : (List ℕ → ℕ) → Step → Reply → SessionState → SessionState → Life → Life → (more : List (Option Tail)) → (replays : (P : ℕ) → RunState → List (Option RunReplay)) → Type 0
AlwaysLeaves sum step reply was now old new more replays =
    (P : ℕ) (before : RunState) → Represents sum P was before old.present → SteppedApart sum P step reply now old new before (before.snapshots ++ map (option_map (λ t. logical_bytes t new.present.readable)) more) (replays P before)

-- a step that makes these snapshots, and leaves the replays as they were
abbrev pub AlwaysMakes : (List ℕ → ℕ) → Step → Reply → SessionState → SessionState → Life → Life → (more : List (Option Tail)) → Type 0
AlwaysMakes sum step reply was now old new more = AlwaysLeaves sum step reply was now old new more (λ P s. s.replays)

-- the replays of a session, and of what it stands for
pub record HasReplays (sum : List ℕ → ℕ) (was now : SessionState) (old new : Disk) (replays : (P : ℕ) → RunState → List (Option RunReplay)) : Type 0 where
  pub ready : All (IsReplayIn sum now.writer new) now.replays
  pub gives : (P : ℕ) (before : RunState) → Represents sum P was before old → replays P before ≡ map (option_map (replay_in_run new.readable)) now.replays

-- a snapshot that was left or made is one, can be read, and has its content
left_is : (sum : List ℕ → ℕ) (now : Option WriterState) (after : CacheState) (old new : Disk) (o : Option Tail) → LeftSnapshot sum now after old new o → IfSome o (λ t. IsSnapshot sum now t new)
left_is sum now after old new None left = tt
left_is sum now after old new (Some t) left = left.snapshot

left_can : (sum : List ℕ → ℕ) (now : Option WriterState) (after : CacheState) (old new : Disk) (o : Option Tail) → LeftSnapshot sum now after old new o → IfSome o (λ t. CanRead t after new)
left_can sum now after old new None left = tt
left_can sum now after old new (Some t) left = left.can

left_tells : (sum : List ℕ → ℕ) (now : Option WriterState) (after : CacheState) (old new : Disk) (o : Option Tail) → LeftSnapshot sum now after old new o → option_map (λ t. logical_bytes t new.readable) o ≡ option_map (λ t. logical_bytes t old.readable) o
left_tells sum now after old new None left = refl
left_tells sum now after old new (Some t) left = ap Some left.tells

made_is : (sum : List ℕ → ℕ) (now : Option WriterState) (after : CacheState) (new : Disk) (o : Option Tail) → MadeSnapshot sum now after new o → IfSome o (λ t. IsSnapshot sum now t new)
made_is sum now after new None made = tt
made_is sum now after new (Some t) made = made.snapshot

made_can : (sum : List ℕ → ℕ) (now : Option WriterState) (after : CacheState) (new : Disk) (o : Option Tail) → MadeSnapshot sum now after new o → IfSome o (λ t. CanRead t after new)
made_can sum now after new None made = tt
made_can sum now after new (Some t) made = made.can

-- the whole of what a step did
pub framed_by : (sum : List ℕ → ℕ) (step : Step) (reply : Reply) (was now : SessionState) (after : CacheState) (old new : Life) (more : List (Option Tail)) (replays : (P : ℕ) → RunState → List (Option RunReplay)) → now.snapshots ≡ was.snapshots ++ more → (now.recovering ≡ true → now.snapshots ≡ [])
    → IsReadyApart sum now new.present → FitsWriter now.writer after new.present → All (LeftSnapshot sum now.writer after old.present new.present) was.snapshots → HasReplays sum was now old.present new.present replays → All (MadeSnapshot sum now.writer after new.present) more
    → AlwaysLeaves sum step reply was now old new more replays → Steps sum step reply was now old new × CacheFits now after new.present
framed_by sum step reply was now after old new more replays is begun ready fits left has made always =
    let ts = was.snapshots in
    let old_told : Option Tail → Option (List ℕ) = option_map (λ t. logical_bytes t old.present.readable) in
    let new_told : Option Tail → Option (List ℕ) = option_map (λ t. logical_bytes t new.present.readable) in
    let snapshots : All (λ o. IfSome o (λ t. IsSnapshot sum now.writer t new.present)) (ts ++ more) =
    All-append (λ o. IfSome o (λ t. IsSnapshot sum now.writer t new.present)) ts more (λ k o lt. left_is sum now.writer after old.present new.present (get_or ts k o) (left k o lt)) (λ k o lt. made_is sum now.writer after new.present (get_or more k o) (made k o lt)) in
    let can : All (λ o. IfSome o (λ t. CanRead t after new.present)) (ts ++ more) =
    All-append (λ o. IfSome o (λ t. CanRead t after new.present)) ts more (λ k o lt. left_can sum now.writer after old.present new.present (get_or ts k o) (left k o lt)) (λ k o lt. made_can sum now.writer after new.present (get_or more k o) (made k o lt)) in
    let tells : map new_told ts ≡ map old_told ts =
    maps_alike new_told old_told ts (λ k o lt. left_tells sum now.writer after old.present new.present (get_or ts k o) (left k o lt)) in (
      record {
        ready = record {
          writer = ready.writer;
          starts = ready.starts;
          snapshots = subst (λ (l : List (Option Tail)). All (λ o. IfSome o (λ t. IsSnapshot sum now.writer t new.present)) l) (sym is) snapshots;
          begun = begun;
          replays = has.ready;
        };
        always = λ P before stands.
            let a = always P before stands in
            let all : a.after.snapshots ≡ map new_told now.snapshots =
            a.same ∙ ap (λ (l : List (Option (List ℕ))). l ++ map new_told more) (stands.snapshots ∙ sym tells) ∙ sym (map_both new_told ts more) ∙ ap (λ (l : List (Option Tail)). map new_told l) (sym is) in
            record { moments = a.moments; goes = a.goes; after = a.after; did = a.did; stands = whole sum P now a.after new.present all (a.alike ∙ has.gives P before stands) a.stands };
      },
      record { writer = fits; snapshots = subst (λ (l : List (Option Tail)). All (λ o. IfSome o (λ t. CanRead t after new.present)) l) (sym is) can },
    )

-- replays that are left are as they were
same_replays : (sum : List ℕ → ℕ) (was now : SessionState) (after : CacheState) (old new : Disk) → now.replays ≡ was.replays → LeftAll sum was now.writer after old new → HasReplays sum was now old new (λ P s. s.replays)
same_replays sum was now after old new is left = record {
  ready = subst (λ (l : List (Option ReplayState)). All (IsReplayIn sum now.writer new) l) (sym is) (λ k o lt. (left.replays k o lt).replay);
  gives = λ P before stands.
      let tells : map (option_map (replay_in_run new.readable)) was.replays ≡ map (option_map (replay_in_run old.readable)) was.replays =
      maps_alike (option_map (replay_in_run new.readable)) (option_map (replay_in_run old.readable)) was.replays (λ k o lt. (left.replays k o lt).tells) in
      stands.replays ∙ sym tells ∙ ap (λ (l : List (Option ReplayState)). map (option_map (replay_in_run new.readable)) l) (sym is);
}

-- the whole of what a step did that leaves the replays
pub framed : (sum : List ℕ → ℕ) (step : Step) (reply : Reply) (was now : SessionState) (after : CacheState) (old new : Life) (more : List (Option Tail)) → now.snapshots ≡ was.snapshots ++ more → now.replays ≡ was.replays → (now.recovering ≡ true → now.snapshots ≡ [])
    → IsReadyApart sum now new.present → FitsWriter now.writer after new.present → LeftAll sum was now.writer after old.present new.present → All (MadeSnapshot sum now.writer after new.present) more → AlwaysMakes sum step reply was now old new more
    → Steps sum step reply was now old new × CacheFits now after new.present
framed sum step reply was now after old new more is kept begun ready fits left made always =
    framed_by sum step reply was now after old new more (λ P s. s.replays) is begun ready fits left.snapshots (same_replays sum was now after old.present new.present kept left) made always

-- the whole of what a step did that makes no snapshot, by what it leaves of the replays
framed_alone : (cuts : Bool) (sum : List ℕ → ℕ) (step : Step) (reply : Reply) (was now : SessionState) (after : CacheState) (old new : Life) → now.snapshots ≡ was.snapshots → (now.recovering ≡ true → now.snapshots ≡ []) → FitsWriter now.writer after new.present
    → All (LeftSnapshot sum now.writer after old.present new.present) was.snapshots → HasReplays sum was now old.present new.present (λ P s. left_replays cuts s.replays) → StepsBy cuts sum step reply was now old new
    → Steps sum step reply was now old new × CacheFits now after new.present
framed_alone cuts sum step reply was now after old new is begun fits left has apart =
    framed_by sum step reply was now after old new [] (λ P s. left_replays cuts s.replays) (is ∙ sym (append-nil was.snapshots)) begun apart.ready fits left has (λ k t lt. absurd (omega (arith, lt)))
    (λ P before stands.
    subst (λ (l : List (Option (List ℕ))). SteppedApart sum P step reply now old new before l (left_replays cuts before.replays)) (sym (append-nil before.snapshots))
    (apart.always P before (stands_apart sum P was before old.present stands)))

-- the whole of what a step did that leaves both
pub framed_same : (sum : List ℕ → ℕ) (step : Step) (reply : Reply) (was now : SessionState) (after : CacheState) (old new : Life) → now.snapshots ≡ was.snapshots → now.replays ≡ was.replays → (now.recovering ≡ true → now.snapshots ≡ [])
    → FitsWriter now.writer after new.present → LeftAll sum was now.writer after old.present new.present → StepsApart sum step reply was now old new → Steps sum step reply was now old new × CacheFits now after new.present
framed_same sum step reply was now after old new is kept begun fits left apart =
    framed_alone false sum step reply was now after old new is begun fits left.snapshots (same_replays sum was now after old.present new.present kept left) apart

-- a step that forgets the replays
none_left : (sum : List ℕ → ℕ) (writer : Option WriterState) (d : Disk) (os : List (Option ReplayState)) → All (IsReplayIn sum writer d) (map (λ o. None) os)
none_left sum writer d [] k o lt = absurd (omega (arith, lt))
none_left sum writer d (p ∷ os) zero o lt = tt
none_left sum writer d (p ∷ os) (suc k) o lt = none_left sum writer d os k o (omega (arith, lt))

pub framed_cut : (sum : List ℕ → ℕ) (step : Step) (reply : Reply) (was now : SessionState) (after : CacheState) (old new : Life) → now.snapshots ≡ was.snapshots → now.replays ≡ map (λ o. None) was.replays → (now.recovering ≡ true → now.snapshots ≡ [])
    → FitsWriter now.writer after new.present → All (LeftSnapshot sum now.writer after old.present new.present) was.snapshots → StepsBy true sum step reply was now old new → Steps sum step reply was now old new × CacheFits now after new.present
framed_cut sum step reply was now after old new is forgot begun fits left apart =
    framed_alone true sum step reply was now after old new is begun fits left
    (record {
      ready = subst (λ (l : List (Option ReplayState)). All (IsReplayIn sum now.writer new.present) l) (sym forgot) (none_left sum now.writer new.present was.replays);
      gives = λ P before stands.
          ap (λ (l : List (Option RunReplay)). map (λ x. None) l) stands.replays ∙ all_nothing old.present.readable new.present.readable was.replays
          ∙ ap (λ (l : List (Option ReplayState)). map (option_map (replay_in_run new.present.readable)) l) (sym forgot);
    })
    apart
  where
    all_nothing : (a b : List ℕ) (os : List (Option ReplayState)) → map (λ x. None) (map (option_map (replay_in_run a)) os) ≡ map (option_map (replay_in_run b)) (map (λ o. None) os)
    all_nothing a b [] = refl
    all_nothing a b (o ∷ os) = ap (λ (l : List (Option RunReplay)). None ∷ l) (all_nothing a b os)

-- ---- a session that begins

pub begun_ready : (sum : List ℕ → ℕ) (w : WriterState) (session : SessionState) (d : Disk) → session ≡ session_of w → IsSound sum w d → IsSoundSession sum session d
begun_ready sum w session d is sound =
    subst (λ (s : SessionState). IsSoundSession sum s d) (sym is) (record { writer = sound; starts = inl refl; snapshots = λ k t lt. absurd (omega (arith, lt)); begun = λ phase. refl; replays = λ k o lt. absurd (omega (arith, lt)) })

pub begun_fits : (w : WriterState) (session : SessionState) (cache : CacheState) (d : Disk) → session ≡ session_of w → CanRead (tail_of w) cache d → CacheFits session cache d
begun_fits w session cache d is can = subst (λ (s : SessionState). CacheFits s cache d) (sym is) (record { writer = can; snapshots = λ k t lt. absurd (omega (arith, lt)) })
