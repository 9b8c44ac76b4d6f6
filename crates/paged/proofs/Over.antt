-- Calls over a blob that may be damaged: what each of their moments guarantees, and what they
-- promise where it isn't.
use Rattle.std.proofs.Common.{◌≡◌, ℕ, ◌≤◌, arith, List, [], ◌++◌, sym, ◌∙◌, subst, append-nil, Ok, Err, Result}
use Rattle.std.specs.Prelude.{OnOk, IfOk, None, Option, Some}
use Rattle.disk.specs.Disk.{Life}
use Rattle.disk.specs.declared.error.Error.{Error}
use Rattle.disk.specs.declared.error.Error.TheVariants.{ReadFailed, WriteFailed, ResizeFailed, SyncFailed, InvalidChecksum, BlobInsufficientLength, OffsetOverflow, OutOfMemory, IdsExhausted}
use Rattle.disk.specs.declared.started_sync.StartedSync.{StartedSync}
use Rattle.writer_state.specs.WriterState.{WriterState}
use Rattle.writer_state.specs.Sound.{IsConsistent, IsIntact, IsSound, content}
use Rattle.writer_state.proofs.Soundness.{intact_is_sound, settle_keeps, sound_holds_together, sound_is_intact}
use Rattle.crash.specs.Stays.{StaysThrough, KeepsAll}
use Rattle.paged.specs.Calls.{AppendsOver, BuffersOver, CarriesOn, HoldsWithin, KeepsConsistent, KeepsSound, StartsOver, Succeeds, Syncs, SyncsOver, TryAppendGoes, WaitsOver}
use Rattle.paged.proofs.Appends.{append_unasked, buffered_goes}
use Rattle.paged.proofs.Flushes.{size_holds}

-- ---- what is guaranteed

pub goes_stay : (sum : List ℕ → ℕ) (w now : WriterState) (old new : Life) → CarriesOn sum w old [] now new → StaysThrough sum w.page_size (content w old.present.readable) old new
goes_stay sum w now old new goes = subst (λ c. StaysThrough sum w.page_size c old new) (append-nil (content w old.present.readable)) goes.stays

pub syncs_stay : (sum : List ℕ → ℕ) (w : WriterState) (old new : Life) (result : Result WriterState Error) → SyncsOver sum w old new result → StaysThrough sum w.page_size (content w old.present.readable) old new
syncs_stay sum w old new (Ok now) (goes, settled) = goes_stay sum w now old new goes
syncs_stay sum w old new (Err e) refused = refused.stays

pub starts_stay : (sum : List ℕ → ℕ) (w : WriterState) (old new : Life) (result : Result (WriterState × StartedSync) Error) → StartsOver sum w old new result → StaysThrough sum w.page_size (content w old.present.readable) old new
starts_stay sum w old new (Ok r) (goes, written, state, covered) = goes_stay sum w r.0 old new goes
starts_stay sum w old new (Err e) refused = refused.stays

pub waits_stay : (sum : List ℕ → ℕ) (w : WriterState) (old new : Life) (result : Result WriterState Error) → WaitsOver sum w old new result → StaysThrough sum w.page_size (content w old.present.readable) old new
waits_stay sum w old new (Ok now) (goes, is) = goes_stay sum w now old new goes
waits_stay sum w old new (Err e) refused = refused.stays

pub appends_stay : (sum : List ℕ → ℕ) (w : WriterState) (bytes : List ℕ) (old new : Life) (result : Result (WriterState × ℕ) Error) → IsConsistent sum w old.present → AppendsOver sum w bytes old new result
    → StaysThrough sum w.page_size (content w old.present.readable ++ bytes) old new
unfolding IsConsistent
appends_stay sum w bytes old new (Ok r) holds (at, goes) = goes.stays
appends_stay sum w bytes old new (Err ReadFailed) holds refused = refused.stays
appends_stay sum w bytes old new (Err WriteFailed) holds refused = refused.stays
appends_stay sum w bytes old new (Err ResizeFailed) holds refused = refused.stays
appends_stay sum w bytes old new (Err SyncFailed) holds refused = refused.stays
appends_stay sum w bytes old new (Err InvalidChecksum) holds refused = refused.stays
appends_stay sum w bytes old new (Err BlobInsufficientLength) holds refused = refused.stays
appends_stay sum w bytes old new (Err OffsetOverflow) holds refused = subst (λ life. StaysThrough sum w.page_size (content w old.present.readable ++ bytes) old life) (sym refused.0) (append_unasked sum w old bytes holds)
appends_stay sum w bytes old new (Err OutOfMemory) holds refused = refused.stays
appends_stay sum w bytes old new (Err IdsExhausted) holds refused = refused.stays

-- less than a page is buffered after a start
pub start_within : (sum : List ℕ → ℕ) (w : WriterState) (old new : Life) (result : Result (WriterState × StartedSync) Error) → w.page_size ≤ w.capacity → StartsOver sum w old new result → IfOk result (λ r. HoldsWithin r.0)
start_within sum w old new (Ok r) room (goes, written, state, covered) = omega (arith, written.short, goes.same.page_size, goes.same.capacity, room)
start_within sum w old new (Err e) room refused = tt

-- ---- where no page is damaged

-- what was synced is kept
pub sync_keeps_all : (sum : List ℕ → ℕ) (w : WriterState) (old new : Life) (result : Result WriterState Error) → IsIntact sum w old.present → SyncsOver sum w old new result → OnOk result (KeepsAll sum w.page_size (content w old.present.readable) new)
unfolding IsConsistent
sync_keeps_all sum w old new (Ok now) full (goes, settled) =
    let same : content now new.present.readable ≡ content w old.present.readable = goes.content ∙ append-nil (content w old.present.readable) in
    subst (λ P. KeepsAll sum P (content w old.present.readable) new) goes.same.page_size
    (subst (λ c. KeepsAll sum now.page_size c new) same (settle_keeps sum now new.present goes.holds (goes.intact full) settled.clean settled.flushed))
sync_keeps_all sum w old new (Err e) full refused = tt

-- a sound writer goes on sound
pub still_sound : (sum : List ℕ → ℕ) (w now : WriterState) (more : List ℕ) (old new : Life) → IsSound sum w old.present → CarriesOn sum w old more now new → IsSound sum now new.present
still_sound sum w now more old new sound goes = intact_is_sound sum now new.present goes.holds (goes.intact (sound_is_intact sum w old.present sound))

pub sound_goes : (sum : List ℕ → ℕ) (w now : WriterState) (more : List ℕ) (old new : Life) → IsSound sum w old.present → CarriesOn sum w old more now new → Succeeds sum w old more now new
sound_goes sum w now more old new sound goes = record {
  sound = still_sound sum w now more old new sound goes;
  stays = goes.stays;
  size = goes.size;
  only = goes.only;
  content = goes.content;
  same = goes.same;
  log = goes.log;
  waits = goes.waits;
  served = goes.served;
}

-- a call that `Succeeds` carries on over a blob that may be damaged, too (`CarriesOn`)
pub goes_over : (sum : List ℕ → ℕ) (w now : WriterState) (more : List ℕ) (old new : Life) → Succeeds sum w old more now new → CarriesOn sum w old more now new
goes_over sum w now more old new goes = record {
  holds = sound_holds_together sum now new.present goes.sound;
  intact = λ full. sound_is_intact sum now new.present goes.sound;
  stays = goes.stays;
  size = goes.size;
  only = goes.only;
  content = goes.content;
  same = goes.same;
  log = goes.log;
  waits = goes.waits;
  served = goes.served;
}

pub sound_syncs : (sum : List ℕ → ℕ) (w : WriterState) (old new : Life) (result : Result WriterState Error) → IsSound sum w old.present → SyncsOver sum w old new result → Syncs sum w old new result
sound_syncs sum w old new (Ok now) sound (goes, settled) = (sound_goes sum w now [] old new sound goes, settled)
sound_syncs sum w old new (Err e) sound refused = refused

-- ---- bytes that are buffered

-- bytes that are buffered are an append, over any blob
pub buffers_over : (sum : List ℕ → ℕ) (w now : WriterState) (bytes : List ℕ) (result : Result (Option ℕ) Error) → TryAppendGoes w bytes now result → BuffersOver sum w bytes now result
buffers_over sum w now bytes (Ok (Some at)) tries = λ life sound.
    let holds = sound_holds_together sum w life.present sound in
    (tries.2 ∙ size_holds sum w life holds, sound_goes sum w now bytes life life sound (buffered_goes sum w now bytes life holds tries.3))
buffers_over sum w now bytes (Ok None) tries = tt
buffers_over sum w now bytes (Err e) tries = tt

-- whatever a buffering call answers, a writer that was sound still is
pub keeps_sound : (sum : List ℕ → ℕ) (w now : WriterState) (bytes : List ℕ) (result : Result (Option ℕ) Error) → TryAppendGoes w bytes now result → KeepsSound sum w now
keeps_sound sum w now bytes (Ok (Some at)) tries = λ d sound.
    let life : Life = record { present = d; past = [] } in
    still_sound sum w now bytes life life sound (buffered_goes sum w now bytes life (sound_holds_together sum w d sound) tries.3)
keeps_sound sum w now bytes (Ok None) tries = λ d sound. subst (λ (v : WriterState). IsSound sum v d) (sym tries.2) sound
keeps_sound sum w now bytes (Err OffsetOverflow) tries = λ d sound. subst (λ (v : WriterState). IsSound sum v d) (sym tries.1) sound
keeps_sound sum w now bytes (Err OutOfMemory) tries = λ d sound. subst (λ (v : WriterState). IsSound sum v d) (sym tries.2) sound
keeps_sound sum w now bytes (Err ReadFailed) tries = absurd tries
keeps_sound sum w now bytes (Err WriteFailed) tries = absurd tries
keeps_sound sum w now bytes (Err ResizeFailed) tries = absurd tries
keeps_sound sum w now bytes (Err SyncFailed) tries = absurd tries
keeps_sound sum w now bytes (Err InvalidChecksum) tries = absurd tries
keeps_sound sum w now bytes (Err BlobInsufficientLength) tries = absurd tries
keeps_sound sum w now bytes (Err IdsExhausted) tries = absurd tries

pub keeps_consistent : (sum : List ℕ → ℕ) (w now : WriterState) (bytes : List ℕ) (result : Result (Option ℕ) Error) → TryAppendGoes w bytes now result → KeepsConsistent sum w now
keeps_consistent sum w now bytes (Ok (Some at)) tries = λ d holds. (buffered_goes sum w now bytes (record { present = d; past = [] }) holds tries.3).holds
keeps_consistent sum w now bytes (Ok None) tries = λ d holds. subst (λ (v : WriterState). IsConsistent sum v d) (sym tries.2) holds
keeps_consistent sum w now bytes (Err OffsetOverflow) tries = λ d holds. subst (λ (v : WriterState). IsConsistent sum v d) (sym tries.1) holds
keeps_consistent sum w now bytes (Err OutOfMemory) tries = λ d holds. subst (λ (v : WriterState). IsConsistent sum v d) (sym tries.2) holds
keeps_consistent sum w now bytes (Err ReadFailed) tries = absurd tries
keeps_consistent sum w now bytes (Err WriteFailed) tries = absurd tries
keeps_consistent sum w now bytes (Err ResizeFailed) tries = absurd tries
keeps_consistent sum w now bytes (Err SyncFailed) tries = absurd tries
keeps_consistent sum w now bytes (Err InvalidChecksum) tries = absurd tries
keeps_consistent sum w now bytes (Err BlobInsufficientLength) tries = absurd tries
keeps_consistent sum w now bytes (Err IdsExhausted) tries = absurd tries
