-- What a call leaves of a writer, a snapshot and a replay, if there are such.
use Rattle.std.proofs.Common.{◌≡◌, ℕ, List, sym, subst}
use Rattle.std.specs.Prelude.{Option, Some, None, IfSome}
use Rattle.disk.specs.Disk.{Disk, Life}
use Rattle.cache.specs.CacheState.{CacheState}
use Rattle.cache.specs.Pages.{IsFresh}
use Rattle.crash.specs.Looks.{Looked}
use Rattle.writer_state.specs.WriterState.{WriterState}
use Rattle.writer_state.specs.Sound.{IsConsistent}
use Rattle.writer_state.proofs.Soundness.{looked_consistent}
use Rattle.paged_read.specs.Reads.{LookLeaves, ReadLeaves}
use Rattle.paged_read.specs.Replay.{CanReplay, ReplayState}
use Rattle.paged_read.specs.Snapshots.{LeavesAllReads}
use Rattle.paged_read.specs.Tail.{CanRead, Tail}
use Rattle.paged.specs.Caches.{KeepsReads, tail_of}
use Rattle.paged.specs.Calls.{KeepsConsistent}
use Rattle.paged.specs.Ready.{IsUsable}
use Rattle.conformance.specs.Writing.{AreReadable}

still_consistent : (sum : List ℕ → ℕ) (w : WriterState) (old new : Life) → Looked old new
    → IsConsistent sum w old.present → IsConsistent sum w new.present
unfolding IsConsistent
still_consistent sum w old new looked holds = looked_consistent sum w old new holds looked

writer_stays : (sum : List ℕ → ℕ) (writer : Option WriterState) (cache after : CacheState)
    (old new : Life) → Looked old new → LeavesAllReads cache after old new → IsFresh after
    → IfSome writer (λ w. IsUsable sum w cache old) → IfSome writer (λ w. IsUsable sum w after new)
writer_stays sum None cache after old new looked reads fresh is = tt
writer_stays sum (Some w) cache after old new looked reads fresh is = record {
  consistent = still_consistent sum w old new looked is.consistent;
  can = reads (tail_of w) is.can;
  fresh = fresh;
}

snapshot_stays : (snapshot : Option Tail) (cache after : CacheState) (old new : Life)
    → LeavesAllReads cache after old new → IfSome snapshot (λ t. CanRead t cache old.present)
    → IfSome snapshot (λ t. CanRead t after new.present)
snapshot_stays None cache after old new reads can = tt
snapshot_stays (Some t) cache after old new reads can = reads t can

replays_on : (r : ReplayState) (old new : Life) → Looked old new → CanReplay r old.present
    → CanReplay r new.present
replays_on r old new looked can =
    subst (λ (d : Disk). CanReplay r d) (sym looked.same) (record {
      there = can.there;
      hand = can.hand;
      queue = can.queue;
    })

replay_stays : (replay : Option ReplayState) (old new : Life) → Looked old new
    → IfSome replay (λ r. CanReplay r old.present) → IfSome replay (λ r. CanReplay r new.present)
replay_stays None old new looked can = tt
replay_stays (Some r) old new looked can = replays_on r old new looked can

-- a read
pub after_read : {sum : List ℕ → ℕ} {writer : Option WriterState} {snapshot : Option Tail}
    {replay : Option ReplayState} {t : Tail} {cache after : CacheState} {old new : Life}
    → AreReadable sum writer snapshot replay cache old → ReadLeaves sum t cache after old new
    → AreReadable sum writer snapshot replay after new
after_read {sum = sum} {writer = writer} {snapshot = snapshot} {replay = replay} {cache = cache} {after = after} {old = old} {new = new} all leaves =
    let fresh = leaves.fresh all.fresh in
    record {
      fresh = fresh;
      usable = writer_stays sum writer cache after old new leaves.looked leaves.can_read fresh all.usable;
      reads = snapshot_stays snapshot cache after old new leaves.can_read all.reads;
      replays = replay_stays replay old new leaves.looked all.replays;
    }

-- a call that uses no cache, and only looks
pub after_look : {sum : List ℕ → ℕ} {writer : Option WriterState} {snapshot : Option Tail}
    {replay : Option ReplayState} {cache : CacheState} {old new : Life}
    → AreReadable sum writer snapshot replay cache old → LookLeaves sum old new
    → AreReadable sum writer snapshot replay cache new
after_look {sum = sum} {writer = writer} {snapshot = snapshot} {replay = replay} {cache = cache} {old = old} {new = new} all leaves = record {
  fresh = all.fresh;
  usable = writer_stays sum writer cache cache old new leaves.looked (leaves.can_read cache) all.fresh all.usable;
  reads = snapshot_stays snapshot cache cache old new (leaves.can_read cache) all.reads;
  replays = replay_stays replay old new leaves.looked all.replays;
}

-- a read by the replay
pub after_ensure : {sum : List ℕ → ℕ} {writer : Option WriterState} {snapshot : Option Tail}
    {r now : ReplayState} {cache : CacheState} {old new : Life}
    → AreReadable sum writer snapshot (Some r) cache old → LookLeaves sum old new
    → CanReplay now new.present → AreReadable sum writer snapshot (Some now) cache new
after_ensure {sum = sum} {writer = writer} {snapshot = snapshot} {cache = cache} {old = old} {new = new} all leaves can = record {
  fresh = all.fresh;
  usable = writer_stays sum writer cache cache old new leaves.looked (leaves.can_read cache) all.fresh all.usable;
  reads = snapshot_stays snapshot cache cache old new (leaves.can_read cache) all.reads;
  replays = can;
}

-- an append that may only buffer
pub after_try : {sum : List ℕ → ℕ} {w v : WriterState} {snapshot : Option Tail}
    {replay : Option ReplayState} {cache : CacheState} {life : Life}
    → AreReadable sum (Some w) snapshot replay cache life → KeepsConsistent sum w v → KeepsReads w v
    → AreReadable sum (Some v) snapshot replay cache life
after_try {cache = cache} {life = life} all consistent reads = record {
  fresh = all.fresh;
  usable = record {
    consistent = consistent life.present all.usable.consistent;
    can = reads cache life.present all.usable.can;
    fresh = all.usable.fresh;
  };
  reads = all.reads;
  replays = all.replays;
}
