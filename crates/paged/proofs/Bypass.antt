-- What an append that goes past the buffer does.
use Rattle.std.proofs.Common.{◌≡◌, ℕ, zero, suc, ◌+◌, ◌-◌, ◌*◌, ◌/◌, ◌%◌, ◌<◌, ◌≤◌, List, [], ◌++◌, length, take, drop, refl, sym, ap, ◌∙◌, subst, arith, length-append, length-drop, true, false, Result, Ok, Err}
use Rattle.std.specs.Prelude.{Option, None, OnOk, slice_range}
use Rattle.std.specs.List.{concat}
use Rattle.std.proofs.Math.Nat.{div-add-mod', mod-lt, mul-div_cancel, mul-mod_left}
use Rattle.std.proofs.lemmas.Bool.Decides.{nat_tests}
use Rattle.std.proofs.lemmas.Nat.{div-mul-add}
use Rattle.std.proofs.lemmas.List.{take_at, drop_at, drop-drop, take-append-drop, length-take-le}
use Rattle.disk.specs.declared.error.Error.{Error}
use Rattle.page.specs.Tip.{Tip, ArePages, full_len, joined, drained}
use Rattle.page.specs.declared.slot.ActiveChecksum.{ActiveChecksum}
use Rattle.writer_state.specs.WriterState.{WriterState}
use Rattle.writer_state.specs.declared.sync_state.SyncState.{SyncState}
use Rattle.crash.specs.Built.{built}
use Rattle.writer_state.specs.Sound.{CanWrite}
use Rattle.paged.specs.Writer.{FitsBlob, IsWriter}
use Rattle.paged.specs.Direct.{buffering, fill_of, goes_direct, IsDirect}
use Rattle.paged.specs.Calls.{waited_writer}
use Rattle.paged.specs.Flush.{full_in, rest_of, carried, after_flush, written, flush_bytes, footers_of, with_footers}
use Rattle.paged.proofs.Building.{built-take}
use Rattle.paged.proofs.Drains.{is_writer_drained, slot_gone, drained_state}
use Rattle.paged.proofs.Footers.{length-pages, with_footers-built}

-- ---- whole pages, and less than a page after them

module _ (P : ℕ) (whole rest bytes : List ℕ) (pages : length whole % P ≡ 0) (short : length rest < P) (is : bytes ≡ whole ++ rest) where
  pub length-whole : length whole ≡ length whole / P * P
  length-whole = omega (arith, div-add-mod' (length whole) P, pages)

  pub pages_of_whole : length bytes / P ≡ length whole / P
  pages_of_whole =
      ap (λ n. n / P) (ap length is ∙ length-append whole rest ∙ ap (λ n. n + length rest) length-whole)
      ∙ div-mul-add (length whole / P) P (length rest) short

  bytes_of_whole : length whole ≡ length bytes / P * P
  bytes_of_whole = length-whole ∙ ap (λ n. n * P) (sym pages_of_whole)

  pub whole_taken : take (length bytes / P * P) bytes ≡ whole
  whole_taken = ap (λ l. take (length bytes / P * P) l) is ∙ take_at whole rest (length bytes / P * P) bytes_of_whole

  pub rest_left : drop (length bytes / P * P) bytes ≡ rest
  rest_left = ap (λ l. drop (length bytes / P * P) l) is ∙ drop_at whole rest (length bytes / P * P) bytes_of_whole

-- there is a page where there is a byte
pub some_page : (P n : ℕ) → n % P ≡ 0 → 0 < n → 0 < n / P
some_page P n pages some = by_count (n / P) refl
  where
    by_count : (k : ℕ) → k ≡ n / P → 0 < n / P
    by_count zero is = absurd (omega (arith, div-add-mod' n P, pages, some, ap (λ q. q * P) is))
    by_count (suc k) is = omega (arith, is)

-- pages that were cut from some bytes, with their footers
pub cut_built : (sum : List ℕ → ℕ) (P : ℕ) (durable : Option ActiveChecksum) (pages : List (List ℕ)) (whole : List ℕ) → 0 < P → ArePages P pages → concat pages ≡ whole
    → with_footers pages (footers_of sum durable pages) ≡ built sum P durable (length whole / P) whole
cut_built sum P durable pages whole some are is =
    let count : length pages ≡ length whole / P = sym (mul-div_cancel (length pages) some) ∙ ap (λ n. n / P) (sym (length-pages P pages are) ∙ ap length is) in
    with_footers-built sum P durable pages are ∙ (λ i. built sum P durable (count i) (is i))

-- ---- the writer with them in its tip

module _ (w : WriterState) (whole rest : List ℕ) (direct : IsDirect w whole rest) where
  tip_is : (buffering w (whole ++ rest)).tip ≡ whole ++ rest
  tip_is = ap (λ tip. tip ++ (whole ++ rest)) direct.empty

  pub direct_pages : full_in (buffering w (whole ++ rest)) ≡ length whole / w.page_size
  direct_pages = pages_of_whole w.page_size whole rest (w.tip ++ (whole ++ rest)) direct.pages direct.short tip_is

  pub direct_rest : rest_of (buffering w (whole ++ rest)) ≡ rest
  direct_rest = rest_left w.page_size whole rest (w.tip ++ (whole ++ rest)) direct.pages direct.short tip_is

  -- the whole pages can be written
  pub direct_can : CanWrite w.page_size (w.tip ++ (whole ++ rest)) (full_in (buffering w (whole ++ rest))) false
  direct_can =
      let some = some_page w.page_size (length whole) direct.pages direct.some in
      let len : length (w.tip ++ (whole ++ rest)) ≡ length whole + length rest = ap length tip_is ∙ length-append whole rest in
      (omega (arith, some, direct_pages), omega (arith, len, length-whole w.page_size whole rest (whole ++ rest) direct.pages direct.short refl, ap (λ k. k * w.page_size) direct_pages))

  -- the whole pages are what a flush of that writer writes
  pub direct_bytes : (sum : List ℕ → ℕ) → built sum w.page_size w.durable (length whole / w.page_size) whole ≡ flush_bytes sum (buffering w (whole ++ rest)) false
  direct_bytes sum =
      let k = full_in (buffering w (whole ++ rest)) in
      ap (λ n. built sum w.page_size w.durable n whole) (sym direct_pages)
      ∙ ap (λ l. built sum w.page_size w.durable k l) (sym (whole_taken w.page_size whole rest (w.tip ++ (whole ++ rest)) direct.pages direct.short tip_is))
      ∙ built-take sum w.page_size w.durable k (w.tip ++ (whole ++ rest))

  -- the offsets of that writer are numbers of 64 bits
  pub direct_fits : FitsBlob w.page_size w.full_pages (length (w.tip ++ (whole ++ rest)))
  direct_fits = subst (λ n. FitsBlob w.page_size w.full_pages n) (sym (ap length tip_is ∙ length-append whole rest)) direct.fits

  pub direct_offsets : FitsBlob w.page_size w.full_pages (length w.tip + length (whole ++ rest))
  direct_offsets = subst (λ n. FitsBlob w.page_size w.full_pages n) (omega (arith, ap length direct.empty, length-append whole rest)) direct.fits

  -- after that flush the rest is in the writer's tip
  pub direct_left : (sum : List ℕ → ℕ) (now : WriterState) (result : Result (Unit {0}) Error) → OnOk result (now ≡ written sum (buffering w (whole ++ rest)) false false) → OnOk result (now.tip ≡ rest)
  direct_left sum now (Ok done) state = ap (λ (v : WriterState). v.tip) state ∙ direct_rest
  direct_left sum now (Err e) state = tt

-- a wait, and a durable slot brought up to date, leave them whole pages and a rest
pub direct_carried : (w v : WriterState) (whole rest : List ℕ) → v ≡ carried w → IsDirect w whole rest → IsDirect v whole rest
direct_carried w v whole rest is direct =
    subst (λ (u : WriterState). IsDirect u whole rest) (sym is) (record { empty = direct.empty; some = direct.some; pages = direct.pages; short = direct.short; fits = direct.fits })

pub direct_waited : (w v : WriterState) (whole rest : List ℕ) → v ≡ waited_writer w → IsDirect w whole rest → IsDirect v whole rest
direct_waited w v whole rest is direct =
    subst (λ (u : WriterState). IsDirect u whole rest) (sym is) (record { empty = direct.empty; some = direct.some; pages = direct.pages; short = direct.short; fits = direct.fits })

-- ---- its buffer

-- a tip that was put after them is as one that had them and was drained
pub put_after : (P : ℕ) (old new : Tip) (start : ℕ) (whole rest : List ℕ) → old.page_size ≡ P → old.bytes ≡ [] → length whole % P ≡ 0 → length rest < P → start ≡ old.offset + length whole
    → new ≡ record old { offset = start; bytes = rest } → new ≡ drained (joined old (whole ++ rest))
put_after P old new start whole rest size empty pages short at is =
    let bytes = old.bytes ++ (whole ++ rest) in
    let tip : bytes ≡ whole ++ rest = ap (λ tip. tip ++ (whole ++ rest)) empty in
    let len : full_len (joined old (whole ++ rest)) ≡ length bytes / P * P = ap (λ p. length bytes / p * p) size in
    let whole_len : length bytes / P * P ≡ length whole = ap (λ n. n * P) (pages_of_whole P whole rest bytes pages short tip) ∙ sym (length-whole P whole rest bytes pages short tip) in
    let offset : start ≡ old.offset + full_len (joined old (whole ++ rest)) = at ∙ ap (λ n. old.offset + n) (sym (len ∙ whole_len)) in
    let left : rest ≡ drop (full_len (joined old (whole ++ rest))) bytes = sym (ap (λ n. drop n bytes) len ∙ rest_left P whole rest bytes pages short tip) in
    is ∙ (λ i. record old { offset = offset i; bytes = left i })

-- the writer with such a tip
module _ (P id start : ℕ) (old new : Tip) (flushed durable : Option ActiveChecksum) (sync : SyncState) (w : WriterState) (whole rest : List ℕ) (some : 0 < P) (is : IsWriter P old)
    (view : record { page_size = P; id = id; capacity = old.capacity; full_pages = old.offset / P; tip = old.bytes; flushed = flushed; durable = durable; sync = sync } ≡ w) (direct : IsDirect w whole rest)
    (at : start ≡ old.offset + length whole) (goes : new ≡ record old { offset = start; bytes = rest }) where
  here : IsDirect (record { page_size = P; id = id; capacity = old.capacity; full_pages = old.offset / P; tip = old.bytes; flushed = flushed; durable = durable; sync = sync }) whole rest
  here = subst (λ (v : WriterState). IsDirect v whole rest) (sym view) direct

  is_joined : IsWriter P (joined old (whole ++ rest))
  is_joined = record { page_size = is.page_size; whole = is.whole; room = is.room; fits = direct_fits (record { page_size = P; id = id; capacity = old.capacity; full_pages = old.offset / P; tip = old.bytes; flushed = flushed; durable = durable; sync = sync }) whole rest here }

  drains : new ≡ drained (joined old (whole ++ rest))
  drains = put_after P old new start whole rest is.page_size here.empty here.pages here.short at goes

  pub passed_writer : IsWriter P new
  passed_writer = is_writer_drained P (joined old (whole ++ rest)) new some is_joined drains

  pub passed_state : record { page_size = P; id = id; capacity = new.capacity; full_pages = new.offset / P; tip = new.bytes; flushed = None; durable = None; sync = sync } ≡ after_flush (buffering w (whole ++ rest)) None w.sync
  passed_state =
      let pages : 0 < length (old.bytes ++ (whole ++ rest)) / P = (direct_can (record { page_size = P; id = id; capacity = old.capacity; full_pages = old.offset / P; tip = old.bytes; flushed = flushed; durable = durable; sync = sync }) whole rest here).0 in
      drained_state P id (joined old (whole ++ rest)) new None durable None sync (record (buffering w (whole ++ rest)) { flushed = None }) some is_joined drains
      (ap (λ (v : WriterState). record (buffering v (whole ++ rest)) { flushed = None }) view)
      (slot_gone durable (length (old.bytes ++ (whole ++ rest)) / P) pages)

-- ---- what fills the tip, the whole pages after, and the rest

pub record IsCut (P fill : ℕ) (bytes first whole rest : List ℕ) : Type 0 where
  pub joined : first ++ (whole ++ rest) ≡ bytes
  pub filled : length first ≡ fill
  pub some : 0 < length whole
  pub pages : length whole % P ≡ 0
  pub short : length rest < P

module _ (P fill end : ℕ) (bytes : List ℕ) (some : 0 < P) (enough : fill + P ≤ length bytes) (is : end ≡ length bytes - (length bytes - fill) % P) where
  cut_len : end ≡ fill + (length bytes - fill) / P * P
  cut_len = omega (arith, is, div-add-mod' (length bytes - fill) P, enough)

  cut_short : (length bytes - fill) % P < P
  cut_short = mod-lt (length bytes - fill) some

  cut_end : end ≤ length bytes
  cut_end = omega (arith, is)

  cut_whole : length (slice_range bytes fill end) ≡ (length bytes - fill) / P * P
  cut_whole = length-take-le (end - fill) (drop fill bytes) (omega (arith, length-drop fill bytes, cut_end, enough)) ∙ omega (arith, cut_len)

  cut_rest : slice_range bytes fill end ++ drop end bytes ≡ drop fill bytes
  cut_rest =
      let same : (end - fill) + fill ≡ end = omega (arith, cut_len) in
      ap (λ l. slice_range bytes fill end ++ l) (sym (drop-drop (end - fill) fill bytes ∙ ap (λ n. drop n bytes) (omega (arith, same)))) ∙ take-append-drop (end - fill) (drop fill bytes)

  pub is_cut : IsCut P fill bytes (take fill bytes) (slice_range bytes fill end) (drop end bytes)
  is_cut = record {
    joined = ap (λ l. take fill bytes ++ l) cut_rest ∙ take-append-drop fill bytes;
    filled = length-take-le fill bytes (omega (arith, enough));
    some = omega (arith, cut_whole, is, cut_len, cut_short, enough);
    pages = ap (λ n. n % P) cut_whole ∙ mul-mod_left ((length bytes - fill) / P) P;
    short = omega (arith, length-drop end bytes, is, cut_short);
  }

-- what is too big has a page after what fills the tip
pub big_enough : (w : WriterState) (more : ℕ) → goes_direct w more ≡ true → fill_of w + w.page_size ≤ more
big_enough w more big = grind (arith, nat_tests, big)
