-- What an append guarantees.
use Rattle.std.proofs.Common.{◌≡◌, ℕ, ◌+◌, ◌/◌, ◌%◌, ◌<◌, ◌≤◌, Bool, true, false, List, [], ◌++◌, length, refl, sym, ap, arith, ◌∙◌, subst, append-nil, Ok, Err, Result}
use Rattle.std.specs.Prelude.{Option, Some, None, nat_le, not, ◌==◌, ◌&&◌, ◌||◌}
use Rattle.std.proofs.lemmas.Bool.Decides.{nat_tests}
use Rattle.crash.specs.Built.{kept_len}
use Rattle.disk.specs.Disk.{Life}
use Rattle.disk.specs.declared.error.Error.{Error}
use Rattle.disk.specs.declared.error.Error.TheVariants.{ReadFailed, WriteFailed, ResizeFailed, SyncFailed, InvalidChecksum, BlobInsufficientLength, OffsetOverflow, OutOfMemory, IdsExhausted}
use Rattle.disk.proofs.Logs.{grows_same}
use Rattle.writer_state.specs.WriterState.{WriterState}
use Rattle.writer_state.specs.declared.sync_state.SyncState.{SyncState}
use Rattle.writer_state.specs.Sound.{IsConsistent, content}
use Rattle.crash.specs.Stays.{StaysThrough}
use Rattle.writer_state.proofs.FlushLaws.{longer_content}
use Rattle.crash.proofs.Moments.{stays_through_start, stays_through_longer}
use Rattle.paged.proofs.Flushes.{begins, size_holds, goes_on_same}
use Rattle.writer_state.proofs.Soundness.{longer_consistent}
use Rattle.page.specs.Tip.{Tip, TipTryAppendGoes}
use Rattle.page.specs.declared.slot.ActiveChecksum.{ActiveChecksum}
use Rattle.paged.specs.Writer.{FitsBlob, IsWriter}
use Rattle.paged.proofs.Sizes.{size_fits}
use Rattle.paged.specs.Flush.{has_work, with_value}
use Rattle.paged.specs.Reads.{size_of}
use Rattle.paged.specs.Calls.{CarriesOn, Fails, Flushes, AppendsOver, Buffers, BuffersAll, TryAppendGoes, KeepsPages}
use Rattle.paged.proofs.Causes.{none_refused_same}

-- bytes are buffered, and what is written then leaves the content
pub append_goes : (sum : List ℕ → ℕ) (w v now : WriterState) (old new : Life) (bytes : List ℕ) → IsConsistent sum w old.present → v ≡ record w { tip = w.tip ++ bytes }
    → CarriesOn sum v old [] now new → CarriesOn sum w old bytes now new
unfolding IsConsistent
append_goes sum w v now old new bytes sound is goes =
    let h : CarriesOn sum (record w { tip = w.tip ++ bytes }) old [] now new = subst (λ v. CarriesOn sum v old [] now new) is goes in
    let longer = append-nil (content (record w { tip = w.tip ++ bytes }) old.present.readable) ∙ longer_content sum w old.present sound.stands bytes in
    record {
      holds = h.holds;
      intact = h.intact;
      content = h.content ∙ longer;
      size = h.size;
      only = h.only;
      same = record { page_size = h.same.page_size; id = h.same.id; capacity = h.same.capacity; full_pages = h.same.full_pages };
      log = h.log;
      stays = subst (λ c. StaysThrough sum w.page_size c old new) longer h.stays;
      waits = h.waits;
      served = h.served;
    }

-- bytes are buffered, and what is written then is refused
pub append_refused : (sum : List ℕ → ℕ) (w v : WriterState) (old new : Life) (bytes : List ℕ) (e : Error) → IsConsistent sum w old.present → v ≡ record w { tip = w.tip ++ bytes }
    → Fails sum v (content v old.present.readable) old new e → Fails sum w (content w old.present.readable ++ bytes) old new e
unfolding IsConsistent
append_refused sum w v old new bytes e sound is refused =
    let h : Fails sum (record w { tip = w.tip ++ bytes }) (content (record w { tip = w.tip ++ bytes }) old.present.readable) old new e = subst (λ (v : WriterState). Fails sum v (content v old.present.readable) old new e) is refused in
    record { cause = h.cause; log = h.log; stays = subst (λ c. StaysThrough sum w.page_size c old new) (longer_content sum w old.present sound.stands bytes) h.stays }

-- memory is refused before the device is asked
pub append_unasked : (sum : List ℕ → ℕ) (w : WriterState) (life : Life) (bytes : List ℕ) → IsConsistent sum w life.present → StaysThrough sum w.page_size (content w life.present.readable ++ bytes) life life
unfolding IsConsistent
append_unasked sum w life bytes sound =
    stays_through_longer sum w.page_size (content w life.present.readable) (content w life.present.readable ++ bytes) life life (begins (content w life.present.readable) bytes)
    (stays_through_start sum w.page_size (content w life.present.readable) life sound.truthful sound.vouched)

-- bytes that weren't buffered
pub append_unbuffered : (sum : List ℕ → ℕ) (w now : WriterState) (life : Life) (bytes : List ℕ) (e : Error) → IsConsistent sum w life.present → Buffers w bytes now (Err e) → AppendsOver sum w bytes life life (Err e)
append_unbuffered sum w now life bytes OffsetOverflow sound goes = (refl, goes.0)
append_unbuffered sum w now life bytes OutOfMemory sound goes = record { cause = none_refused_same life life refl; stays = append_unasked sum w life bytes sound; log = grows_same life.present life.present refl }
append_unbuffered sum w now life bytes ReadFailed sound goes = absurd goes
append_unbuffered sum w now life bytes WriteFailed sound goes = absurd goes
append_unbuffered sum w now life bytes ResizeFailed sound goes = absurd goes
append_unbuffered sum w now life bytes SyncFailed sound goes = absurd goes
append_unbuffered sum w now life bytes InvalidChecksum sound goes = absurd goes
append_unbuffered sum w now life bytes BlobInsufficientLength sound goes = absurd goes
append_unbuffered sum w now life bytes IdsExhausted sound goes = absurd goes

-- bytes that weren't buffered, by whether they fit
pub unbuffered_all : (w now : WriterState) (life : Life) (bytes : List ℕ) (e : Error) → Buffers w bytes now (Err e) → BuffersAll w bytes life life (Err e)
unbuffered_all w now life bytes OffsetOverflow goes = refl
unbuffered_all w now life bytes OutOfMemory goes = refl
unbuffered_all w now life bytes ReadFailed goes = absurd goes
unbuffered_all w now life bytes WriteFailed goes = absurd goes
unbuffered_all w now life bytes ResizeFailed goes = absurd goes
unbuffered_all w now life bytes SyncFailed goes = absurd goes
unbuffered_all w now life bytes InvalidChecksum goes = absurd goes
unbuffered_all w now life bytes BlobInsufficientLength goes = absurd goes
unbuffered_all w now life bytes IdsExhausted goes = absurd goes

-- a tip over the capacity has a full page to flush
pub over_work : (v : WriterState) → v.page_size ≤ v.capacity → v.capacity < length v.tip → has_work v false ≡ true
over_work v room over =
    let full : nat_le v.page_size (length v.tip) ≡ true = grind (arith, nat_tests, room, over) in
    ap (λ (b : Bool). b || (false && (not (length v.tip % v.page_size == 0) && not (length v.tip % v.page_size == kept_len v.flushed)))) full

-- an append whose flush is refused
pub append_fails : (sum : List ℕ → ℕ) (w : WriterState) (bytes : List ℕ) (old new : Life) (e : Error) → Fails sum w (content w old.present.readable ++ bytes) old new e → AppendsOver sum w bytes old new (Err e)
append_fails sum w bytes old new ReadFailed refused = refused
append_fails sum w bytes old new WriteFailed refused = refused
append_fails sum w bytes old new ResizeFailed refused = refused
append_fails sum w bytes old new SyncFailed refused = refused
append_fails sum w bytes old new InvalidChecksum refused = refused
append_fails sum w bytes old new BlobInsufficientLength refused = refused
append_fails sum w bytes old new OffsetOverflow refused = absurd refused.cause
append_fails sum w bytes old new OutOfMemory refused = refused
append_fails sum w bytes old new IdsExhausted refused = refused

-- an append that flushes, whatever the flush answers
pub append_flushed : (sum : List ℕ → ℕ) (w v now : WriterState) (old new : Life) (bytes : List ℕ) (result : Result (Unit {0}) Error) → IsConsistent sum w old.present → v ≡ record w { tip = w.tip ++ bytes }
    → Flushes sum v old new (with_value now result) → AppendsOver sum w bytes old new (with_value (now, size_of w) result)
append_flushed sum w v now old new bytes (Ok done) sound is flushes = (size_holds sum w old sound, append_goes sum w v now old new bytes sound is flushes)
append_flushed sum w v now old new bytes (Err e) sound is refused = append_fails sum w bytes old new e (append_refused sum w v old new bytes e sound is refused)

-- bytes that are buffered are an append
pub buffered_goes : (sum : List ℕ → ℕ) (w now : WriterState) (bytes : List ℕ) (life : Life) → IsConsistent sum w life.present → now ≡ record w { tip = w.tip ++ bytes } → CarriesOn sum w life bytes now life
unfolding IsConsistent
buffered_goes sum w now bytes life sound is =
    append_goes sum w now now life life bytes sound is (goes_on_same sum now life (subst (λ (v : WriterState). IsConsistent sum v life.present) (sym is) (longer_consistent sum w life.present sound bytes)))

-- whatever a buffering call answers, the pages below the tip stay the same
pub keeps_pages : (w now : WriterState) (bytes : List ℕ) (result : Result (Option ℕ) Error) → TryAppendGoes w bytes now result → KeepsPages w now
keeps_pages w now bytes (Ok (Some at)) tries = (ap (λ (v : WriterState). v.page_size) tries.3, ap (λ (v : WriterState). v.full_pages) tries.3)
keeps_pages w now bytes (Ok None) tries = (ap (λ (v : WriterState). v.page_size) tries.2, ap (λ (v : WriterState). v.full_pages) tries.2)
keeps_pages w now bytes (Err OffsetOverflow) tries = (ap (λ (v : WriterState). v.page_size) tries.1, ap (λ (v : WriterState). v.full_pages) tries.1)
keeps_pages w now bytes (Err OutOfMemory) tries = (ap (λ (v : WriterState). v.page_size) tries.2, ap (λ (v : WriterState). v.full_pages) tries.2)
keeps_pages w now bytes (Err ReadFailed) tries = absurd tries
keeps_pages w now bytes (Err WriteFailed) tries = absurd tries
keeps_pages w now bytes (Err ResizeFailed) tries = absurd tries
keeps_pages w now bytes (Err SyncFailed) tries = absurd tries
keeps_pages w now bytes (Err InvalidChecksum) tries = absurd tries
keeps_pages w now bytes (Err BlobInsufficientLength) tries = absurd tries
keeps_pages w now bytes (Err IdsExhausted) tries = absurd tries

-- a writer's state with this tip
abbrev pub with_tip : (P id : ℕ) → Option ActiveChecksum → Option ActiveChecksum → SyncState → Tip → WriterState
with_tip P id flushed durable sync tip = record { page_size = P; id = id; capacity = tip.capacity; full_pages = tip.offset / P; tip = tip.bytes; flushed = flushed; durable = durable; sync = sync }

-- what the buffer of such a writer does is what the writer does
module _ (P id : ℕ) (flushed durable : Option ActiveChecksum) (sync : SyncState) (some : 0 < P) (old new : Tip) (bytes : List ℕ) (is : IsWriter P old) where
  tries_with : (result : Result (Option ℕ) Error) → FitsBlob P (old.offset / P) (length old.bytes + length bytes) → TipTryAppendGoes old bytes new result
      → TryAppendGoes (with_tip P id flushed durable sync old) bytes (with_tip P id flushed durable sync new) result
  tries_with (Ok (Some at)) fits goes = (fits, goes.1, goes.2 ∙ ap (λ n. n + length old.bytes) is.whole, ap (with_tip P id flushed durable sync) goes.3)
  tries_with (Ok None) fits goes = (fits, goes.1, ap (with_tip P id flushed durable sync) goes.2)
  tries_with (Err OffsetOverflow) fits goes = absurd (omega (arith, size_fits P (old.offset / P) (length old.bytes + length bytes) some fits, is.whole, goes.0))
  tries_with (Err OutOfMemory) fits goes = (fits, goes.1, ap (with_tip P id flushed durable sync) goes.2)
  tries_with (Err ReadFailed) fits goes = goes
  tries_with (Err WriteFailed) fits goes = goes
  tries_with (Err ResizeFailed) fits goes = goes
  tries_with (Err SyncFailed) fits goes = goes
  tries_with (Err InvalidChecksum) fits goes = goes
  tries_with (Err BlobInsufficientLength) fits goes = goes
  tries_with (Err IdsExhausted) fits goes = goes

  pub tries : (w : WriterState) (result : Result (Option ℕ) Error) → with_tip P id flushed durable sync old ≡ w → FitsBlob w.page_size w.full_pages (length w.tip + length bytes) → TipTryAppendGoes old bytes new result
      → TryAppendGoes w bytes (with_tip P id flushed durable sync new) result
  tries w result view fits goes =
      subst (λ (v : WriterState). TryAppendGoes v bytes (with_tip P id flushed durable sync new) result) view
      (tries_with result (subst (λ (v : WriterState). FitsBlob v.page_size v.full_pages (length v.tip + length bytes)) (sym view) fits) goes)
