-- What a caller of `run` knows of each step's call.
use Rattle.std.proofs.Common.{◌≡◌, ℕ, ◌+◌, ◌≤◌, List, [], ◌∷◌, sym, ◌∙◌, subst, Bool, true, false}
use Rattle.std.specs.Prelude.{Option, Some, Vec, nat_le, ◌&&◌}
use Rattle.std.specs.declared.alloc.Global.{Global}
use Rattle.std.proofs.lemmas.Bool.{false≢true, le-leb}
use Rattle.disk.specs.Disk.{Life}
use Rattle.cache.specs.CacheState.{CacheState}
use Rattle.writer_state.specs.WriterState.{WriterState}
use Rattle.paged_read.specs.Ranges.{AsksForMissing, is_served}
use Rattle.paged.specs.Caches.{tail_of}
use Rattle.paged.specs.Reads.{size_of}
use Rattle.session.specs.declared.steps.Step.TheVariants.{Read, TryRead}
use Rattle.session.specs.declared.steps.Reply.TheVariants.{Bytes, Nothing}
use Rattle.session.specs.Run.{SessionState}
use Rattle.session.specs.Calls.{DidRead, DidTryRead, RanCalls}

both : (a b : Bool) → a ≡ true → b ≡ true → (a && b) ≡ true
both true b one other = other
both false b one other = absurd (false≢true one)

-- a read that asks no device answers the bytes that the cache holds
served_is_not_none : (sum : List ℕ → ℕ) (was now : SessionState) (w : WriterState) (cache after : CacheState) (old new : Life) (offset len : ℕ) → was.writer ≡ Some w → offset + len ≤ size_of w → is_served cache (tail_of w) (offset, len) ≡ true
    → RanCalls sum (TryRead offset len ∷ []) (Nothing ∷ []) was now cache after old new → ⊥
served_is_not_none sum was now w cache after old new offset len at within served (ready, mid, held, life, ((tried, stay, same, kept), rest), ends) =
    let none : DidTryRead (Some w) cache offset len Nothing = subst (λ (o : Option WriterState). DidTryRead o cache offset len Nothing) at tried in
    false≢true (none ∙ both (nat_le (offset + len) (size_of w)) (is_served cache (tail_of w) (offset, len)) (le-leb (offset + len) (size_of w) within) served)

-- a read asks the device once for each page that the cache lacks, and else not
a_read_asks_for_missing : (sum : List ℕ → ℕ) (was now : SessionState) (w : WriterState) (cache after : CacheState) (old new : Life) (offset len : ℕ) (bytes : Vec ℕ Global) → was.writer ≡ Some w
    → RanCalls sum (Read offset len ∷ []) (Bytes bytes ∷ []) was now cache after old new → AsksForMissing cache (tail_of w) (offset, len) old new
a_read_asks_for_missing sum was now w cache after old new offset len bytes at (ready, mid, held, life, ((reads, stay), rest), (same, kept, ends)) =
    let did : DidRead sum (Some w) cache held offset len old life (Bytes bytes) = subst (λ (o : Option WriterState). DidRead sum o cache held offset len old life (Bytes bytes)) at reads in
    subst (λ (x : Life). AsksForMissing cache (tail_of w) (offset, len) old x) (sym ends) did.reads.costs.asks
