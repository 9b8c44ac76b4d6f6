-- Writers that stay ready.
use Rattle.std.proofs.Common.{◌≡◌, ℕ, List, sym, subst}
use Rattle.disk.specs.Disk.{Life}
use Rattle.cache.specs.CacheState.{CacheState}
use Rattle.writer_state.specs.WriterState.{WriterState}
use Rattle.paged.specs.Caches.{KeepsReads}
use Rattle.paged.specs.Calls.{KeepsSound}
use Rattle.paged.specs.Ready.{IsReady}

-- no device was asked
pub ready_tried : (sum : List ℕ → ℕ) (w now : WriterState) (cache : CacheState) (life : Life)
    → IsReady sum w cache life → KeepsSound sum w now → KeepsReads w now
    → IsReady sum now cache life
ready_tried sum w now cache life ready sound reads = record {
  sound = sound life.present ready.sound;
  can = reads cache life.present ready.can;
  fresh = ready.fresh;
}

pub ready_same : (sum : List ℕ → ℕ) (w now : WriterState) (cache after : CacheState)
    (old new : Life) → w ≡ now → cache ≡ after → old ≡ new → IsReady sum now after new
    → IsReady sum w cache old
ready_same sum w now cache after old new same_writer same_cache same_life ready =
    subst (λ (v : WriterState). IsReady sum v cache old) (sym same_writer)
    (subst (λ (c : CacheState). IsReady sum now c old) (sym same_cache)
    (subst (λ (l : Life). IsReady sum now after l) (sym same_life) ready))
