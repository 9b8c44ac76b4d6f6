-- What a step of a session leaves of the other blobs on its cache.
use Rattle.std.proofs.Common.{◌≡◌, ◌≢◌, ℕ, List, [], ◌∷◌, ◌++◌, refl, sym, ap, ◌∙◌, subst, arith, inl, inr, Bool, true, false}
use Rattle.std.specs.Prelude.{All, IfSome, Option, Some, None}
use Rattle.std.specs.List.{slice_get}
use Rattle.std.proofs.lemmas.List.Elements.{All-append, All-cons, All-set}
use Rattle.disk.specs.Disk.{Life}
use Rattle.writer_state.specs.WriterState.{WriterState}
use Rattle.cache.specs.CacheState.{CacheState, SameSettings}
use Rattle.paged_read.specs.Tail.{Tail}
use Rattle.paged_read.specs.Snapshots.{LeavesOthers, LeavesReads}
use Rattle.paged.specs.Caches.{tail_of}
use Rattle.session.specs.declared.steps.Reply.{Reply}
use Rattle.session.specs.declared.steps.Reply.TheVariants.{Fault, Nothing, Sealed, Taken}
use Rattle.session.specs.Run.{numbered, SessionState}
use Rattle.session.specs.Calls.{DidBegin, DidSeal, DidSnapshot, DidTrySnapshot, IfAppending, KeepsAllButReplays, KeepsAllButSnapshots, KeepsButReplays, KeepsSnapshots, KeepsUncut, LetsGo, SealsSession, TakesSnapshot, TakesTriedSnapshot}
use Rattle.session.specs.Promise.{closed, session_of}
use Rattle.session.specs.Others.{IsNewTo, IsNotOf, IsOther, LeavesOtherBlobs, LeavesOthersAnew, WriterLeavesOthers}
use Rattle.session.proofs.Below.{of_each}
use Rattle.session.proofs.DropLaws.{LetsGoOf}
use Rattle.session.proofs.OtherWriters.{others_here, settings_same, settings_then}

-- a snapshot, if it stands, is not of the blob of this id
abbrev NotOf : (id : ℕ) → Option Tail → Type 0
NotOf id o = IfSome o (λ t. id ≢ t.id)

-- ---- by what the step did to the session

-- a step that leaves the snapshots
pub others_kept : (was now : SessionState) (cache after : CacheState) → now.snapshots ≡ was.snapshots → WriterLeavesOthers was.writer now.writer cache after → LeavesOtherBlobs was now cache after
others_kept was now cache after same leaves = record {
  reads = λ t d other can. leaves.reads t d other.writer can;
  apart = λ id other. record { writer = leaves.apart id other.writer; snapshots = subst (λ (l : List (Option Tail)). All (NotOf id) l) (sym same) other.snapshots };
  settings = leaves.settings;
}

-- a step of the writer
pub others_taken : (was now : SessionState) (cache after : CacheState) → KeepsSnapshots was now → WriterLeavesOthers was.writer now.writer cache after → LeavesOtherBlobs was now cache after
others_taken was now cache after rest leaves = others_kept was now cache after (ap (λ (s : SessionState). s.snapshots) rest) leaves

-- a step that begins a replay
pub replay_others : (was now : SessionState) (cache after : CacheState) → KeepsButReplays was now → WriterLeavesOthers was.writer now.writer cache after → LeavesOtherBlobs was now cache after
replay_others was now cache after rest leaves = others_kept was now cache after (ap (λ (s : SessionState). s.snapshots) rest) leaves

-- a step that forgets the replays
pub cut_others : (was now : SessionState) (cache after : CacheState) → KeepsUncut was now → WriterLeavesOthers was.writer now.writer cache after → LeavesOtherBlobs was now cache after
cut_others was now cache after rest leaves = others_kept was now cache after (ap (λ (s : SessionState). s.snapshots) rest) leaves

-- a step that leaves the writer and the cache too
pub others_idle : (was now : SessionState) (cache : CacheState) → now.snapshots ≡ was.snapshots → now.writer ≡ was.writer → LeavesOtherBlobs was now cache cache
others_idle was now cache same writer = others_kept was now cache cache same (subst (λ (o : Option WriterState). WriterLeavesOthers was.writer o cache cache) (sym writer) (others_here was.writer cache))

-- a step of a replay
pub replayed_others : (was now : SessionState) (cache : CacheState) → KeepsAllButReplays was now → LeavesOtherBlobs was now cache cache
replayed_others was now cache rest = others_idle was now cache (ap (λ (s : SessionState). s.snapshots) rest) (ap (λ (s : SessionState). s.writer) rest)

-- a step that makes a snapshot of the writer's blob
pub others_made : (was now : SessionState) (t : Tail) (cache after : CacheState) → now.snapshots ≡ was.snapshots ++ Some t ∷ [] → ((id : ℕ) → IsNotOf id was.writer → id ≢ t.id) → WriterLeavesOthers was.writer now.writer cache after → LeavesOtherBlobs was now cache after
others_made was now t cache after is its leaves = record {
  reads = λ u d other can. leaves.reads u d other.writer can;
  apart = λ id other. record {
    writer = leaves.apart id other.writer;
    snapshots = subst (λ (l : List (Option Tail)). All (NotOf id) l) (sym is) (All-append (NotOf id) was.snapshots (Some t ∷ []) other.snapshots (All-cons (NotOf id) (Some t) [] (its id other.writer) (λ k o lt. absurd (omega (arith, lt)))));
  };
  settings = leaves.settings;
}

-- two steps, one after another
pub others_then : (was mid now : SessionState) (cache between after : CacheState) → LeavesOtherBlobs was mid cache between → LeavesOtherBlobs mid now between after → LeavesOtherBlobs was now cache after
others_then was mid now cache between after first second = record {
  reads = λ t d other can. second.reads t d (first.apart t.id other) (first.reads t d other can);
  apart = λ id other. second.apart id (first.apart id other);
  settings = settings_then cache between after first.settings second.settings;
}

-- ---- by the step

-- a read of the snapshot of this number
pub snap_others : (was : SessionState) (index : ℕ) (t : Tail) (cache after : CacheState) → slice_get was.snapshots index ≡ Some (Some t) → LeavesOthers t.id cache after → SameSettings cache after → LeavesOtherBlobs was was cache after
snap_others was index t cache after at others settings = record { reads = λ u d other can. others u d (of_each (NotOf u.id) was.snapshots index (Some t) at other.snapshots) can; apart = λ id other. other; settings = settings }

-- the end of a recovery
pub begin_others : (was now : SessionState) (cache : CacheState) (reply : Reply) → DidBegin was.writer was now reply → LeavesOtherBlobs was now cache cache
begin_others was now cache reply goes = by_writer was.writer goes
  where
    by_writer : (o : Option WriterState) → DidBegin o was now reply → LeavesOtherBlobs was now cache cache
    by_writer None (replied, is) = others_idle was now cache (ap (λ (s : SessionState). s.snapshots) is) (ap (λ (s : SessionState). s.writer) is)
    by_writer (Some w) (replied, is) = others_idle was now cache (ap (λ (s : SessionState). s.snapshots) is) (ap (λ (s : SessionState). s.writer) is)

-- another id than the writer's
not_of : (o : Option WriterState) (w : WriterState) (t : Tail) (id : ℕ) → o ≡ Some w → t.id ≡ w.id → IsNotOf id o → id ≢ t.id
not_of o w t id at same other is =
    let apart : id ≢ w.id = subst (λ (x : Option WriterState). IsNotOf id x) at other in
    apart (is ∙ same)

-- a snapshot
pub snapshot_others : (sum : List ℕ → ℕ) (was now : SessionState) (cache after : CacheState) (old new : Life) (reply : Reply) → WriterLeavesOthers was.writer now.writer cache after → DidSnapshot sum was now cache after old new reply → LeavesOtherBlobs was now cache after
snapshot_others sum was now cache after old new reply leaves did = by_state was.recovering was.writer refl did
  where
    kept : {s : SessionState} → now ≡ s → s.snapshots ≡ was.snapshots → LeavesOtherBlobs was now cache after
    kept is same = others_kept was now cache after (ap (λ (s : SessionState). s.snapshots) is ∙ same) leaves

    takes : (w : WriterState) → was.writer ≡ Some w → (r : Reply) → TakesSnapshot sum w was now cache after old new r → LeavesOtherBlobs was now cache after
    takes w at (Taken index) (v, t, number, is, whole, says) =
        let same : t.id ≡ w.id = ap (λ (u : Tail). u.id) says.goes.tail ∙ says.goes.holds.same.id in
        others_made was now t cache after (ap (λ (s : SessionState). s.snapshots) is) (λ id other. not_of was.writer w t id at same other) leaves
    takes w at (Fault e) goes = elim goes [ inl (is, says) ↦ kept is refl | inr (fault, is, same, held) ↦ kept is refl ]
    takes w at r goes = absurd goes

    by_state : (phase : Bool) (o : Option WriterState) → was.writer ≡ o → IfAppending phase o reply ((now ≡ was) × (new ≡ old) × (after ≡ cache)) (λ w. TakesSnapshot sum w was now cache after old new reply) → LeavesOtherBlobs was now cache after
    by_state true None at (replied, stays) = kept stays.0 refl
    by_state false None at (replied, stays) = kept stays.0 refl
    by_state true (Some w) at (replied, stays) = kept stays.0 refl
    by_state false (Some w) at goes = takes w at reply goes

-- a try to make a snapshot, for which nothing is written
pub try_snapshot_others : (was now : SessionState) (cache : CacheState) (reply : Reply) → DidTrySnapshot was now reply → LeavesOtherBlobs was now cache cache
try_snapshot_others was now cache reply did = by_state was.recovering was.writer refl did
  where
    kept : now ≡ was → LeavesOtherBlobs was now cache cache
    kept is = others_idle was now cache (ap (λ (s : SessionState). s.snapshots) is) (ap (λ (s : SessionState). s.writer) is)

    tries : (w : WriterState) → was.writer ≡ Some w → (r : Reply) → TakesTriedSnapshot w was now r → LeavesOtherBlobs was now cache cache
    tries w at (Taken index) (short, number, is) =
        let writer : was.writer ≡ now.writer = at ∙ sym (ap (λ (s : SessionState). s.writer) is) in
        others_made was now (tail_of w) cache cache (ap (λ (s : SessionState). s.snapshots) is) (λ id other. not_of was.writer w (tail_of w) id at refl other)
        (subst (λ (o : Option WriterState). WriterLeavesOthers was.writer o cache cache) writer (others_here was.writer cache))
    tries w at Nothing (full, is) = kept is
    tries w at (Fault e) (fault, is) = kept is
    tries w at r goes = absurd goes

    by_state : (phase : Bool) (o : Option WriterState) → was.writer ≡ o → IfAppending phase o reply (now ≡ was) (λ w. TakesTriedSnapshot w was now reply) → LeavesOtherBlobs was now cache cache
    by_state true None at (replied, is) = kept is
    by_state false None at (replied, is) = kept is
    by_state true (Some w) at (replied, is) = kept is
    by_state false (Some w) at goes = tries w at reply goes

-- a seal, which ends the writer
pub seal_others : (sum : List ℕ → ℕ) (was now : SessionState) (cache after : CacheState) (old new : Life) (reply : Reply) → WriterLeavesOthers was.writer now.writer cache after → DidSeal sum was now cache after old new reply → LeavesOtherBlobs was now cache after
seal_others sum was now cache after old new reply leaves did = by_state was.recovering was.writer refl did
  where
    kept : {s : SessionState} → now ≡ s → s.snapshots ≡ was.snapshots → LeavesOtherBlobs was now cache after
    kept is same = others_kept was now cache after (ap (λ (s : SessionState). s.snapshots) is ∙ same) leaves

    seals : (w : WriterState) → was.writer ≡ Some w → (r : Reply) → SealsSession sum w was now cache after old new r → LeavesOtherBlobs was now cache after
    seals w at (Sealed index sync) (t, number, is, says) =
        let same : t.id ≡ w.id = ap (λ (u : Tail). u.id) says.goes.tail ∙ says.goes.goes.holds.same.id in
        others_made was now t cache after (ap (λ (s : SessionState). s.snapshots) is) (λ id other. not_of was.writer w t id at same other) leaves
    seals w at (Fault e) goes = elim goes [ inl (is, says) ↦ kept is refl | inr (fault, is, same, held) ↦ kept is refl ]
    seals w at r goes = absurd goes

    by_state : (phase : Bool) (o : Option WriterState) → was.writer ≡ o → IfAppending phase o reply ((now ≡ was) × (new ≡ old) × (after ≡ cache)) (λ w. SealsSession sum w was now cache after old new reply) → LeavesOtherBlobs was now cache after
    by_state true None at (replied, stays) = kept stays.0 refl
    by_state false None at (replied, stays) = kept stays.0 refl
    by_state true (Some w) at (replied, stays) = kept stays.0 refl
    by_state false (Some w) at goes = seals w at reply goes

-- a snapshot is let go
pub drop_others : (was now : SessionState) (cache : CacheState) (index : ℕ) (reply : Reply) → LetsGo index was.snapshots now.snapshots reply → KeepsAllButSnapshots was now → LeavesOtherBlobs was now cache cache
drop_others was now cache index reply did rest = record {
  reads = λ t d other can. can;
  apart = λ id other. record { writer = subst (λ (o : Option WriterState). IsNotOf id o) (sym (ap (λ (s : SessionState). s.writer) rest)) other.writer; snapshots = by_number id (numbered was.snapshots index) did other.snapshots };
  settings = settings_same cache;
}
  where
    by_number : (id : ℕ) (o : Option Tail) → LetsGoOf index was.snapshots now.snapshots reply o → All (NotOf id) was.snapshots → All (NotOf id) now.snapshots
    by_number id None (replied, is) all = subst (λ (l : List (Option Tail)). All (NotOf id) l) (sym is) all
    by_number id (Some t) (replied, is) all = subst (λ (l : List (Option Tail)). All (NotOf id) l) (sym is) (All-set (NotOf id) was.snapshots index None tt all)

-- ---- how a session begins

-- a session begins with a writer whose id the cache gave just then
pub begun_apart : (w : WriterState) (now : SessionState) (cache : CacheState) → now ≡ session_of w → w.id ≡ cache.ids_given → IsNewTo cache now
begun_apart w now cache is its id below = subst (λ (s : SessionState). IsOther s id) (sym is) (record { writer = λ same. omega (arith, same, its, below); snapshots = λ k o lt. absurd (omega (arith, lt)) })

-- a session begins by a crash and a recovery
pub others_anew : (was now : SessionState) (cache after : CacheState) → IsNewTo cache now → LeavesReads cache after → LeavesOthersAnew was now cache after
others_anew was now cache after apart reads = record { reads = reads; apart = λ id below other. apart id below }

pub others_closed : (was now : SessionState) (cache after : CacheState) → now ≡ closed → LeavesReads cache after → LeavesOthersAnew was now cache after
others_closed was now cache after is reads = record { reads = reads; apart = λ id below other. subst (λ (s : SessionState). IsOther s id) (sym is) (record { writer = tt; snapshots = λ k o lt. absurd (omega (arith, lt)) }) }

pub others_unchanged : (was now : SessionState) (cache : CacheState) → now ≡ was → LeavesOthersAnew was now cache cache
others_unchanged was now cache is = record { reads = λ t d can. can; apart = λ id below other. subst (λ (s : SessionState). IsOther s id) (sym is) other }
