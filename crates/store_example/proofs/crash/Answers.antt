use Rattle.std.proofs.Common.{◌≡◌, ℕ, List, ap, subst, sym}
use Rattle.std.specs.Prelude.{Bool, Result, Ok, Err, IfOk}
use Rattle.std.specs.FinMap.{get}
use Rattle.cache.specs.CacheState.{CacheState}
use Rattle.crc32c.specs.Crc.{crc32c}
use Rattle.disk.specs.Disk.{Life}
use Rattle.disk.specs.History.{life_of}
use Rattle.store.specs.declared.store.OpenError.{OpenError}
use Rattle.store.specs.Changes.{Bytes, MapComesBack}
use Rattle.store.specs.Store.{AreCommitted, CrashAndOpenGoes, StoreState, changes_of}
use Rattle.store_example.proofs.crash.Goals as goal

came_back : (cache after : CacheState) (keep : List Bool) (old new : Life) (result : Result StoreState OpenError) → cache.page_size ≡ 4084
    → CrashAndOpenGoes crc32c crc32c cache after 65536 keep old new result
    → (committed : List Bytes) → AreCommitted crc32c crc32c 4084 committed old.present
    → IfOk result (λ now. MapComesBack committed (changes_of crc32c now new) (get now.map))
came_back cache after keep old new (Ok now) is goes committed were =
    goes.back committed (subst (λ (P : ℕ). AreCommitted crc32c crc32c P committed old.present) (sym is) were)
came_back cache after keep old new (Err e) is goes committed were = tt

pub returns : goal.returns
returns c =
    came_back c.in_ok-cache.cache c.crash_and_open.new.cache _ (life_of c.args.blob.now) (life_of c.crash_and_open.new.blob) c.crash_and_open.result
    (ap (λ (k : CacheState). k.page_size) c.in_ok-cache.ensures.made) c.crash_and_open.ensures.goes
