-- A tip without its full pages.
use Rattle.std.proofs.Common.{◌≡◌, ℕ, suc, zero, ◌+◌, ◌-◌, ◌*◌, ◌/◌, ◌<◌, ◌≤◌, List, length, drop, refl, sym, ap, ◌∙◌, subst, arith, length-drop}
use Rattle.std.specs.Prelude.{Option, None}
use Rattle.std.proofs.Math.Nat.{mul-div_cancel, add-mul}
use Rattle.std.proofs.lemmas.Nat.{le-div}
use Rattle.page.specs.Tip.{Tip, full_len, drained}
use Rattle.page.specs.declared.slot.ActiveChecksum.{ActiveChecksum}
use Rattle.writer_state.specs.WriterState.{WriterState}
use Rattle.writer_state.specs.declared.sync_state.SyncState.{SyncState}
use Rattle.crash.specs.Built.{durable_after}
use Rattle.paged.specs.Writer.{physical_blob_size, IsWriter}
use Rattle.paged.specs.Flush.{after_flush}
use Rattle.paged.proofs.Flushing.{fits-rest}

-- the bytes of a tip's full pages
length-full : (P : ℕ) (old : Tip) → old.page_size ≡ P → full_len old ≡ length old.bytes / P * P
length-full P old size = ap (λ p. length old.bytes / p * p) size

-- the tip's offset without its full pages
offset-drained : (P : ℕ) (old : Tip) → IsWriter P old → (drained old).offset ≡ (old.offset / P + length old.bytes / P) * P
offset-drained P old is = omega (arith, is.whole, length-full P old is.page_size, add-mul (old.offset / P) (length old.bytes / P) P)

-- how many full pages stand before that offset
full_pages-drained : (P : ℕ) (old : Tip) → 0 < P → IsWriter P old → (drained old).offset / P ≡ old.offset / P + length old.bytes / P
full_pages-drained P old some is = ap (λ offset. offset / P) (offset-drained P old is) ∙ mul-div_cancel (old.offset / P + length old.bytes / P) some

-- what is left of the tip's bytes
rest-drained : (P : ℕ) (old : Tip) → old.page_size ≡ P → (drained old).bytes ≡ drop (length old.bytes / P * P) old.bytes
rest-drained P old size = ap (λ n. drop n old.bytes) (length-full P old size)

-- what is left is a writer's tip still
pub is_writer_drained : (P : ℕ) (old new : Tip) → 0 < P → IsWriter P old → new ≡ drained old → IsWriter P new
is_writer_drained P old new some is goes =
    let full = full_pages-drained P old some is in
    let rest : length (drained old).bytes ≡ length old.bytes - length old.bytes / P * P = ap length (rest-drained P old is.page_size) ∙ length-drop (length old.bytes / P * P) old.bytes in
    let same : physical_blob_size P ((drained old).offset / P) (length (drained old).bytes) ≡ physical_blob_size P (old.offset / P) (length old.bytes) = ap (λ n. physical_blob_size P n (length (drained old).bytes)) full
    ∙ fits-rest P (old.offset / P) (length old.bytes) (length (drained old).bytes) some rest in
    subst (λ (t : Tip). IsWriter P t) (sym goes) (record {
      page_size = is.page_size;
      whole = offset-drained P old is ∙ ap (λ n. n * P) (sym full);
      room = is.room;
      fits = omega (arith, same, is.fits);
    })

-- a slot goes with the first full page
pub slot_gone : (slot : Option ActiveChecksum) (k : ℕ) → 0 < k → None ≡ durable_after slot k
slot_gone slot zero some = absurd (omega (arith, some))
slot_gone slot (suc k) some = refl

-- there is a full page where there are as many bytes as a page has
pub full_some : (P : ℕ) (bytes : List ℕ) → 0 < P → P ≤ length bytes → 0 < length bytes / P
full_some P bytes some enough = le-div 1 (length bytes) P some (omega (arith, enough))

-- the writer with what is left of its tip
pub drained_state : (P id : ℕ) (old new : Tip) (flushed durable durable_now : Option ActiveChecksum) (sync : SyncState) (w : WriterState) → 0 < P → IsWriter P old → new ≡ drained old
    → record { page_size = P; id = id; capacity = old.capacity; full_pages = old.offset / P; tip = old.bytes; flushed = flushed; durable = durable; sync = sync } ≡ w
    → durable_now ≡ durable_after durable (length old.bytes / P)
    → record { page_size = P; id = id; capacity = new.capacity; full_pages = new.offset / P; tip = new.bytes; flushed = flushed; durable = durable_now; sync = sync } ≡ after_flush w w.flushed w.sync
drained_state P id old new flushed durable durable_now sync w some is goes view slot =
    let full : new.offset / P ≡ old.offset / P + length old.bytes / P = ap (λ (t : Tip). t.offset / P) goes ∙ full_pages-drained P old some is in
    let rest : new.bytes ≡ drop (length old.bytes / P * P) old.bytes = ap (λ (t : Tip). t.bytes) goes ∙ rest-drained P old is.page_size in
    let room : new.capacity ≡ old.capacity = ap (λ (t : Tip). t.capacity) goes in
    (λ i. record { page_size = P; id = id; capacity = room i; full_pages = full i; tip = rest i; flushed = flushed; durable = slot i; sync = sync }) ∙ ap (λ (v : WriterState). after_flush v v.flushed v.sync) view
