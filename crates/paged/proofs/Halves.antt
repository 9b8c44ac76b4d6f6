-- The two halves of the promise, read off what each moment of a call guarantees.
use Rattle.std.proofs.Common.{◌≡◌, ℕ, List, ◌++◌, sym, ◌∙◌, subst, append-nil, Ok, Err, Result}
use Rattle.std.specs.Prelude.{OnOk}
use Rattle.disk.specs.Disk.{Life}
use Rattle.disk.specs.declared.error.Error.{Error}
use Rattle.disk.specs.declared.error.Error.TheVariants.{ReadFailed, WriteFailed, ResizeFailed, SyncFailed, InvalidChecksum, BlobInsufficientLength, OffsetOverflow, OutOfMemory, IdsExhausted}
use Rattle.writer_state.specs.WriterState.{WriterState}
use Rattle.writer_state.specs.Sound.{IsConsistent, IsSound, Soundness, content}
use Rattle.crash.specs.Stays.{StaysThrough, KeepsAll, KeepsFloors, LeavesOnly, KeepsAllFloors}
use Rattle.writer_state.proofs.FloorLaws.{floors_of_sound}
use Rattle.crash.proofs.Moments.{kept_through, only_through}
use Rattle.writer_state.proofs.Soundness.{consistent_of, settle_keeps}
use Rattle.paged.specs.Calls.{Syncs, Appends}
use Rattle.paged.proofs.Appends.{append_unasked}

-- what a sync keeps, whatever it answers
pub syncs_stay : (sum : List ℕ → ℕ) (w : WriterState) (old new : Life) (result : Result WriterState Error) → Syncs sum w old new result → StaysThrough sum w.page_size (content w old.present.readable) old new
syncs_stay sum w old new (Ok now) (goes, settled) = subst (λ c. StaysThrough sum w.page_size c old new) (append-nil (content w old.present.readable)) goes.stays
syncs_stay sum w old new (Err e) refused = refused.stays

-- what was synced is kept
pub sync_keeps_all : (sum : List ℕ → ℕ) (w : WriterState) (old new : Life) (result : Result WriterState Error) → Syncs sum w old new result → OnOk result (KeepsAll sum w.page_size (content w old.present.readable) new)
unfolding IsSound
sync_keeps_all sum w old new (Ok now) (goes, settled) =
    let same : content now new.present.readable ≡ content w old.present.readable = goes.content ∙ append-nil (content w old.present.readable) in
    subst (λ P. KeepsAll sum P (content w old.present.readable) new) goes.same.page_size
    (subst (λ c. KeepsAll sum now.page_size c new) same (settle_keeps sum now new.present (consistent_of sum now new.present goes.sound) goes.sound.full settled.clean settled.flushed))
sync_keeps_all sum w old new (Err e) refused = tt

-- what an append keeps, whatever it answers
pub appends_stay : (sum : List ℕ → ℕ) (w : WriterState) (bytes : List ℕ) (old new : Life) (result : Result (WriterState × ℕ) Error) → Soundness sum w old.present → Appends sum w bytes old new result
    → StaysThrough sum w.page_size (content w old.present.readable ++ bytes) old new
unfolding IsSound IsConsistent
appends_stay sum w bytes old new (Ok r) sound (at, goes) = goes.stays
appends_stay sum w bytes old new (Err ReadFailed) sound refused = refused.stays
appends_stay sum w bytes old new (Err WriteFailed) sound refused = refused.stays
appends_stay sum w bytes old new (Err ResizeFailed) sound refused = refused.stays
appends_stay sum w bytes old new (Err SyncFailed) sound refused = refused.stays
appends_stay sum w bytes old new (Err InvalidChecksum) sound refused = refused.stays
appends_stay sum w bytes old new (Err BlobInsufficientLength) sound refused = refused.stays
appends_stay sum w bytes old new (Err OffsetOverflow) sound refused = subst (λ life. StaysThrough sum w.page_size (content w old.present.readable ++ bytes) old life) (sym refused.0) (append_unasked sum w old bytes (consistent_of sum w old.present sound))
appends_stay sum w bytes old new (Err OutOfMemory) sound refused = refused.stays
appends_stay sum w bytes old new (Err IdsExhausted) sound refused = refused.stays

-- floors are kept
pub keeps_floors : (sum : List ℕ → ℕ) (P : ℕ) (content : List ℕ) (old new : Life) → StaysThrough sum P content old new → KeepsFloors sum P content old new
keeps_floors sum P content old new stays = λ floor enough kept. kept_through sum P content old new stays floor enough kept

-- and nothing else appears except by a checksum collision
pub leaves_only : (sum : List ℕ → ℕ) (P : ℕ) (content : List ℕ) (old new : Life) → StaysThrough sum P content old new → LeavesOnly sum P content content old new
leaves_only sum P content old new stays = only_through sum P content content old new stays

-- a sync by a sound writer keeps each floor of any content
pub sync_keeps : (sum : List ℕ → ℕ) (w : WriterState) (old new : Life) (result : Result WriterState Error) → IsSound sum w old.present → Syncs sum w old new result → KeepsAllFloors sum w.page_size old new
sync_keeps sum w old new result sound syncs = floors_of_sound sum w old new sound (keeps_floors sum w.page_size (content w old.present.readable) old new (syncs_stay sum w old new result syncs))
