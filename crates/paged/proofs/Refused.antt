-- Answers that are given before anything is put in the cache, and others.
use Rattle.std.proofs.Common.{◌≡◌, ℕ, List, refl, sym, subst, inl, inr, arith}
use Rattle.std.specs.Prelude.{◌⊎◌, Result, Ok, Err, Bool, true, false, OnOk}
use Rattle.std.specs.Result.{IsErrOf}
use Rattle.disk.specs.Disk.{Life, WriteGoes}
use Rattle.disk.specs.declared.error.Error.{Error}
use Rattle.disk.specs.declared.error.Error.TheVariants.{ReadFailed, WriteFailed, ResizeFailed, SyncFailed, InvalidChecksum, OutOfMemory, BlobInsufficientLength, OffsetOverflow, IdsExhausted}
use Rattle.cache.specs.CacheState.{CacheState}
use Rattle.writer_state.specs.WriterState.{WriterState}
use Rattle.writer_state.specs.declared.sync_state.SyncState.{SyncState}
use Rattle.writer_state.specs.declared.sync_state.SyncState.TheVariants.{Clean, Dirty, Pending}
use Rattle.paged.specs.Calls.{WaitsForNone, wait_calls, waited_writer, waited_state}
use Rattle.paged.specs.Caches.{PutsOnceWaited, IsNotBefore}

-- where nothing was put, any answer may be given
pub puts_none : {A : Type 0} (cache : CacheState) (result : Result A Error)
    → PutsOnceWaited cache cache result
puts_none cache (Ok a) = tt
puts_none cache (Err ReadFailed) = tt
puts_none cache (Err WriteFailed) = tt
puts_none cache (Err ResizeFailed) = tt
puts_none cache (Err SyncFailed) = refl
puts_none cache (Err InvalidChecksum) = tt
puts_none cache (Err BlobInsufficientLength) = tt
puts_none cache (Err OffsetOverflow) = refl
puts_none cache (Err OutOfMemory) = tt
puts_none cache (Err IdsExhausted) = tt

-- another answer than these two may be given, whatever was put
pub puts_late : {A : Type 0} (old new : CacheState) (result : Result A Error)
    → IsNotBefore result → PutsOnceWaited old new result
puts_late old new (Ok a) late = tt
puts_late old new (Err ReadFailed) late = tt
puts_late old new (Err WriteFailed) late = tt
puts_late old new (Err ResizeFailed) late = tt
puts_late old new (Err SyncFailed) late = absurd late
puts_late old new (Err InvalidChecksum) late = tt
puts_late old new (Err BlobInsufficientLength) late = tt
puts_late old new (Err OffsetOverflow) late = absurd late
puts_late old new (Err OutOfMemory) late = tt
puts_late old new (Err IdsExhausted) late = tt

-- a write, durable or not, whose offset is within the bounds
pub write_late : (offset : ℕ) (bytes : List ℕ) (sync : Bool) (old new : Life)
    (result : Result (Unit {0}) Error) → (IsErrOf result OffsetOverflow → ⊥)
    → WriteGoes offset bytes sync old new result → IsNotBefore result
write_late offset bytes false old new (Ok done) fits goes = tt
write_late offset bytes false old new (Err ReadFailed) fits goes = tt
write_late offset bytes false old new (Err WriteFailed) fits goes = tt
write_late offset bytes false old new (Err ResizeFailed) fits goes = tt
write_late offset bytes false old new (Err SyncFailed) fits goes = absurd (cc goes.0)
write_late offset bytes false old new (Err InvalidChecksum) fits goes = tt
write_late offset bytes false old new (Err BlobInsufficientLength) fits goes = tt
write_late offset bytes false old new (Err OffsetOverflow) fits goes = fits refl
write_late offset bytes false old new (Err OutOfMemory) fits goes = tt
write_late offset bytes false old new (Err IdsExhausted) fits goes = tt
write_late offset bytes true old new (Ok done) fits goes = tt
write_late offset bytes true old new (Err ReadFailed) fits goes = tt
write_late offset bytes true old new (Err WriteFailed) fits goes = tt
write_late offset bytes true old new (Err ResizeFailed) fits goes = tt
write_late offset bytes true old new (Err SyncFailed) fits goes = goes
write_late offset bytes true old new (Err InvalidChecksum) fits goes = tt
write_late offset bytes true old new (Err BlobInsufficientLength) fits goes = tt
write_late offset bytes true old new (Err OffsetOverflow) fits goes = fits refl
write_late offset bytes true old new (Err OutOfMemory) fits goes = tt
write_late offset bytes true old new (Err IdsExhausted) fits goes = tt

-- a call goes on after another that put nothing, or after which no sync is pending
pub puts_after : {A : Type 0} (old mid new : CacheState) (s : SyncState) (result : Result A Error)
    → (mid ≡ old) ⊎ WaitsForNone s → PutsOnceWaited mid new result
    → (WaitsForNone s → IsNotBefore result) → PutsOnceWaited old new result
puts_after {A} old mid new s result (inl same) puts late =
    subst (λ (c : CacheState). PutsOnceWaited {A = A} c new result) same puts
puts_after old mid new s result (inr none) puts late = puts_late old new result (late none)

-- what was waited for is clean
pub waited_clean : (w m : WriterState) → m ≡ waited_writer w → wait_calls w.sync ≡ 1 → m.sync ≡ Clean
waited_clean w m is one = subst (λ (v : WriterState). v.sync ≡ Clean) (sym is) (clean w.sync one)
  where
    clean : (s : SyncState) → wait_calls s ≡ 1 → waited_state s ≡ Clean
    clean Clean one = refl
    clean Dirty one = absurd (omega (arith, one))
    clean (Pending name) one = refl

-- no wait is due
pub waits_none : (s : SyncState) → WaitsForNone s → wait_calls s ≡ 0
waits_none Clean none = refl
waits_none Dirty none = refl
waits_none (Pending name) none = absurd none

pub dirty_waits_none : (s : SyncState) → s ≡ Dirty → WaitsForNone s
dirty_waits_none s is = subst WaitsForNone (sym is) tt

-- a flush put nothing, or left its write unsynced
pub flushed_once : {A : Type 0} (old new : CacheState) (s : SyncState) (work : Bool)
    (result : Result A Error) → (work ≡ false → new ≡ old)
    → (work ≡ true → OnOk result (s ≡ Dirty)) → OnOk result ((new ≡ old) ⊎ WaitsForNone s)
flushed_once old new s work (Err e) idle dirty = tt
flushed_once old new s false (Ok a) idle dirty = inl (idle refl)
flushed_once old new s true (Ok a) idle dirty = inr (dirty_waits_none s (dirty refl))

pub waited_ok : (e : Error) (result : Result (Unit {0}) Error) → result ≡ Err e → result ≡ Ok tt → ⊥
waited_ok e result is done = absurd (cc (is, done))
