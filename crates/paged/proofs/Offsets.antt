-- Writers that stand after pages of a blob.
use Rattle.std.proofs.Common.{◌≡◌, inl, inr, ℕ, ◌+◌, ◌-◌, ◌*◌, ◌/◌, ◌%◌, ◌<◌, ◌≤◌, List, length, sym, ◌∙◌, ap, arith}
use Rattle.std.specs.Prelude.{Result, Ok, Err, Option, IfOk}
use Rattle.std.specs.Int.{next_multiple_of}
use Rattle.std.proofs.Math.Nat.{div-add-mod', mul-div_cancel, mul-mod_left, mod_self, mod-lt, mod-eq_of_lt, sub-zero, add-mul}
use Rattle.std.proofs.lemmas.Bool.{cases_lt}
use Rattle.disk.specs.Disk.{Life}
use Rattle.disk.specs.declared.error.Error.{Error}
use Rattle.page.specs.Geometry.{adjusted}
use Rattle.page.specs.Tip.{Tip}
use Rattle.page.specs.declared.slot.ActiveChecksum.{ActiveChecksum}
use Rattle.cache.specs.CacheState.{CacheState}
use Rattle.writer_state.specs.WriterState.{WriterState}
use Rattle.writer_state.specs.declared.sync_state.SyncState.{SyncState}
use Rattle.paged_read.specs.declared.prefix.Prefix.{Prefix}
use Rattle.paged.specs.Writer.{physical_blob_size, FitsBlob, IsWriter}
use Rattle.paged_read.specs.Prefix.{tip_of}
use Rattle.paged.specs.Calls.{HoldsWithin}
use Rattle.paged.specs.Recovery.{Opens, opened_prefix, slot_of_tip, at_prefix}
use Rattle.paged_read.proofs.Prefixes.{last_is}

-- what is rounded up is whole pages
next_whole : (n P : ℕ) → 0 < P → next_multiple_of n P % P ≡ 0
next_whole n P some = elim (cases_lt 0 (n % P)) [
  | inl part ↦
      let rest : (P - n % P) % P ≡ P - n % P = mod-eq_of_lt (omega (arith, part)) in
      let is : next_multiple_of n P ≡ (n / P + 1) * P = omega (arith, rest, div-add-mod' n P, mod-lt n some, add-mul (n / P) 1 P) in
      ap (λ m. m % P) is ∙ mul-mod_left (n / P + 1) P
  | inr none ↦
      let zero_rest : n % P ≡ 0 = omega (arith, none) in
      let nothing : (P - n % P) % P ≡ 0 = ap (λ r. (P - r) % P) zero_rest ∙ ap (λ r. r % P) (sub-zero P) ∙ mod_self P in
      let is : next_multiple_of n P ≡ n / P * P = omega (arith, nothing, div-add-mod' n P, zero_rest) in
      ap (λ m. m % P) is ∙ mul-mod_left (n / P) P
]

-- a capacity is whole pages, and one of them or more
pub adjusted_whole : (capacity P : ℕ) → 0 < P → adjusted capacity P % P ≡ 0
adjusted_whole capacity P some = elim (cases_lt (next_multiple_of capacity P) (2 * P)) [
  | inl less ↦ let is : adjusted capacity P ≡ 2 * P = omega (arith, less) in ap (λ m. m % P) is ∙ mul-mod_left 2 P
  | inr more ↦ let is : adjusted capacity P ≡ next_multiple_of capacity P = omega (arith, more) in ap (λ m. m % P) is ∙ next_whole capacity P some
]

pub adjusted_room : (capacity P : ℕ) → P ≤ adjusted capacity P
adjusted_room capacity P = let le : 2 * P ≤ adjusted capacity P = omega arith in omega (arith, le)

-- a buffer that begins after these pages with their tip
pub record IsPlaced (P room : ℕ) (p : Prefix) (tip : Tip) : Type 0 where
  pub some : 0 < P
  pub page_size : tip.page_size ≡ P
  pub capacity : tip.capacity ≡ room
  pub offset : tip.offset ≡ p.full_pages * P
  pub bytes : tip.bytes ≡ tip_of p.partial

-- how many full pages stand before that buffer
full_pages_placed : (P room : ℕ) (p : Prefix) (tip : Tip) → IsPlaced P room p tip → tip.offset / P ≡ p.full_pages
full_pages_placed P room p tip is = ap (λ offset. offset / P) is.offset ∙ mul-div_cancel p.full_pages is.some

-- the buffer is a writer's tip
pub is_writer_placed : (P room : ℕ) (p : Prefix) (tip : Tip) → IsPlaced P room p tip → P ≤ room → FitsBlob P p.full_pages (length (tip_of p.partial)) → IsWriter P tip
is_writer_placed P room p tip is enough fits =
    let full = full_pages_placed P room p tip is in
    let same : physical_blob_size P (tip.offset / P) (length tip.bytes) ≡ physical_blob_size P p.full_pages (length (tip_of p.partial)) = λ i. physical_blob_size P (full i) (length (is.bytes i)) in
    record { page_size = is.page_size; whole = is.offset ∙ ap (λ n. n * P) (sym full); room = omega (arith, enough, is.capacity); fits = omega (arith, same, fits) }

-- the writer's state, field by field
pub state_at : (P id id_is room room_is : ℕ) (p : Prefix) (tip : Tip) (slot : Option ActiveChecksum) (sync : SyncState) → IsPlaced P room p tip → id ≡ id_is → room ≡ room_is → slot ≡ slot_of_tip p.partial
    → record { page_size = P; id = id; capacity = tip.capacity; full_pages = tip.offset / P; tip = tip.bytes; flushed = slot; durable = slot; sync = sync } ≡ at_prefix P id_is room_is p sync
state_at P id id_is room room_is p tip slot sync is same room_same slot_is =
    let full = full_pages_placed P room p tip is in
    let capacity : tip.capacity ≡ room_is = is.capacity ∙ room_same in
    λ i. record { page_size = P; id = same i; capacity = capacity i; full_pages = full i; tip = is.bytes i; flushed = slot_is i; durable = slot_is i; sync = sync }

-- a writer that stands after pages whose tip is less than a page
within_at : (P id room : ℕ) (p : Prefix) (sync : SyncState) (w : WriterState) → P ≤ room → length (tip_of p.partial) < P → w ≡ at_prefix P id room p sync → HoldsWithin w
within_at P id room p sync w enough short is = omega (arith, enough, short, ap (λ (w : WriterState). length w.tip) is, ap (λ (w : WriterState). w.capacity) is)

module _ (sum : List ℕ → ℕ) (cache : CacheState) (capacity : ℕ) (some : 0 < cache.page_size) (old new : Life) where
  -- a writer that was opened buffers less than a page
  pub opens_within : (result : Result WriterState Error) → Opens sum cache capacity old new result → IfOk result (λ w. HoldsWithin w)
  opens_within (Ok w) opened =
      let p = opened_prefix sum cache.page_size old.present.readable in
      let last = last_is sum cache.page_size (length old.present.readable / (cache.page_size + 12)) old.present.readable in
      within_at cache.page_size cache.ids_given (adjusted capacity cache.page_size) p opened.sync w (adjusted_room capacity cache.page_size) (last.tip some) opened.state
  opens_within (Err e) opened = tt
