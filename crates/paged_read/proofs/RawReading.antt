-- What the pages of a blob that nobody opened hold.
use Rattle.std.proofs.Common.{◌≡◌, ◌≢◌, inl, inr, ℕ, suc, ◌+◌, ◌-◌, ◌*◌, ◌/◌, ◌%◌, ◌<◌, ◌≤◌, ◌^◌, min, List, [], ◌++◌, length, take, drop, refl, sym, ◌∙◌, ap, subst, arith, append-nil, append_assoc, Result, Ok, Err}
use Rattle.std.specs.Prelude.{Option, Some, None, ◌==◌, nat_le, nat_lt, if◌then◌else◌, slice_range, IfOk, IsOkUnless}
use Rattle.std.specs.List.{concat}
use Rattle.std.proofs.lemmas.Bool.{cases_lt, cond-true, cond-false, eq-eqb, ne_eqb, le-leb, lt-leb, lt-ltb, le-ltb}
use Rattle.std.proofs.lemmas.List.{length-drop, length-take, length-take-le, take-take, take_all}
use Rattle.bytes.proofs.Ranges.{drop-take_less}
use Rattle.disk.specs.Disk.{DeviceReadGoes, Life, ReadAt}
use Rattle.disk.specs.declared.error.Error.{Error}
use Rattle.disk.specs.declared.error.Error.TheVariants.{ReadFailed, WriteFailed, ResizeFailed, SyncFailed, InvalidChecksum, BlobInsufficientLength, OffsetOverflow, OutOfMemory, IdsExhausted}
use Rattle.disk.proofs.Logs.{failed_once, failed_later}
use Rattle.page.specs.Page.{active, value, value_len}
use Rattle.page.specs.declared.slot.ActiveChecksum.{ActiveChecksum}
use Rattle.crash.specs.Looks.{Looked, looked_joins}
use Rattle.crash.proofs.LookLaws.{looked_read, looked_none, looked_readable}
use Rattle.crash.proofs.Texts.{active_is, active_none}
use Rattle.paged_read.specs.Failures.{NoneFailed, none_failed_joins}
use Rattle.paged_read.specs.Ranges.{page_at}
use Rattle.paged_read.specs.RawReads.{all_of, after_told, ending_at, joined_results, part_of, parts_told, range_end, range_told, ReadsTold, some_of, tail_told, value_told}
use Rattle.paged_read.proofs.Failing.{none_failed_read, none_failed_same}

-- ---- one page

module _ (sum : List ℕ → ℕ) (P page : ℕ) (readable : List ℕ) where
  abbrev end : ℕ
  end = (page + 1) * (P + 12)

  abbrev here : List ℕ
  here = page_at P page readable

  -- the page's end passes the greatest `u64`
  pub value_passes : 2 ^ 64 ≤ end → value_told sum P page readable ≡ Err OffsetOverflow
  value_passes over = cond-true (nat_le (2 ^ 64) end) _ _ (le-leb (2 ^ 64) end over)

  -- the blob ends before the page does
  pub value_lacks : end < 2 ^ 64 → length readable < end → value_told sum P page readable ≡ Err BlobInsufficientLength
  value_lacks fits short =
      cond-false (nat_le (2 ^ 64) end) _ _ (lt-leb (2 ^ 64) end fits)
      ∙ cond-true (nat_lt (length readable) end) _ _ (lt-ltb (length readable) end short)

  -- the page has no value
  pub value_missing : end < 2 ^ 64 → end ≤ length readable → value_len sum P here ≡ 0 → value_told sum P page readable ≡ Err InvalidChecksum
  value_missing fits there none =
      cond-false (nat_le (2 ^ 64) end) _ _ (lt-leb (2 ^ 64) end fits)
      ∙ cond-false (nat_lt (length readable) end) _ _ (le-ltb (length readable) end there)
      ∙ cond-true (value_len sum P here == 0) _ _ (eq-eqb (value_len sum P here) 0 none)

  -- the page has a value
  pub value_there : end < 2 ^ 64 → end ≤ length readable → value_len sum P here ≢ 0 → value_told sum P page readable ≡ Ok (value sum P here)
  value_there fits there some =
      cond-false (nat_le (2 ^ 64) end) _ _ (lt-leb (2 ^ 64) end fits)
      ∙ cond-false (nat_lt (length readable) end) _ _ (le-ltb (length readable) end there)
      ∙ cond-false (value_len sum P here == 0) _ _ (ne_eqb (value_len sum P here) 0 some)

-- a read of a page that isn't answered
pub value_fault : {A : Type 0} (sum : List ℕ → ℕ) (of : A → List ℕ) (P page size page_start : ℕ) (old new : Life) (e : Error) → size ≡ P + 12 → page_start ≡ page * (P + 12) → (page + 1) * (P + 12) < 2 ^ 64
    → DeviceReadGoes page_start size old new (Err e) → ReadsTold of (value_told sum P page old.present.readable) old new (Err e)
value_fault sum of P page size page_start old new ReadFailed size_is page_start_is fits goes =
    (failed_once (ReadAt page_start size) old.present new.present (ap (λ (l : Life). l.present.log) goes), looked_read page_start size old new (Err ReadFailed) goes)
value_fault sum of P page size page_start old new WriteFailed size_is page_start_is fits goes = absurd goes
value_fault sum of P page size page_start old new ResizeFailed size_is page_start_is fits goes = absurd goes
value_fault sum of P page size page_start old new SyncFailed size_is page_start_is fits goes = absurd goes
value_fault sum of P page size page_start old new InvalidChecksum size_is page_start_is fits goes = absurd goes
value_fault sum of P page size page_start old new BlobInsufficientLength size_is page_start_is fits goes =
    (value_lacks sum P page old.present.readable fits (omega (arith, goes.1, size_is, page_start_is)), looked_none old new goes.0, none_failed_same old new goes.0)
value_fault sum of P page size page_start old new OffsetOverflow size_is page_start_is fits goes = absurd goes
value_fault sum of P page size page_start old new OutOfMemory size_is page_start_is fits goes = (looked_none old new goes.0, none_failed_same old new goes.0)
value_fault sum of P page size page_start old new IdsExhausted size_is page_start_is fits goes = absurd goes

-- the page that was read, with the numbers that a program has
pub page_read : (P page size page_start : ℕ) (old new : Life) (bytes : List ℕ) → size ≡ P + 12 → page_start ≡ page * (P + 12) → DeviceReadGoes page_start size old new (Ok bytes) → bytes ≡ page_at P page old.present.readable
page_read P page size page_start old new bytes size_is page_start_is goes =
    goes.1 ∙ ap (λ (n : ℕ). take n (drop page_start old.present.readable)) size_is ∙ ap (λ (n : ℕ). take (P + 12) (drop n old.present.readable)) page_start_is

pub page_there : (P page size page_start : ℕ) (old new : Life) (bytes : List ℕ) → size ≡ P + 12 → page_start ≡ page * (P + 12) → DeviceReadGoes page_start size old new (Ok bytes) → (page + 1) * (P + 12) ≤ length old.present.readable
page_there P page size page_start old new bytes size_is page_start_is goes = omega (arith, goes.0, size_is, page_start_is)

-- the page that was read has no value
pub read_missing_value : {A : Type 0} (sum : List ℕ → ℕ) (of : A → List ℕ) (P page size page_start : ℕ) (old new : Life) (bytes : List ℕ) → size ≡ P + 12 → page_start ≡ page * (P + 12) → (page + 1) * (P + 12) < 2 ^ 64
    → DeviceReadGoes page_start size old new (Ok bytes) → active sum P bytes ≡ None → ReadsTold of (value_told sum P page old.present.readable) old new (Err InvalidChecksum)
read_missing_value sum of P page size page_start old new bytes size_is page_start_is fits goes none =
    let there = page_there P page size page_start old new bytes size_is page_start_is goes in
    let is = page_read P page size page_start old new bytes size_is page_start_is goes in
    (value_missing sum P page old.present.readable fits there (ap (λ (l : List ℕ). value_len sum P l) (sym is) ∙ active_none sum P bytes none), looked_read page_start size old new (Ok bytes) goes, none_failed_read page_start size old new bytes goes)

-- the page that was read has a value, of so many bytes
pub read_value_is : (sum : List ℕ → ℕ) (P page size page_start : ℕ) (old new : Life) (bytes : List ℕ) (slot : ActiveChecksum) → size ≡ P + 12 → page_start ≡ page * (P + 12) → (page + 1) * (P + 12) < 2 ^ 64
    → DeviceReadGoes page_start size old new (Ok bytes) → active sum P bytes ≡ Some slot → value_told sum P page old.present.readable ≡ Ok (take slot.len bytes)
read_value_is sum P page size page_start old new bytes slot size_is page_start_is fits goes some =
    let readable = old.present.readable in
    let there = page_there P page size page_start old new bytes size_is page_start_is goes in
    let is = page_read P page size page_start old new bytes size_is page_start_is goes in
    let told = active_is sum P bytes slot some in
    let len : slot.len ≡ value_len sum P (page_at P page readable) = told.len ∙ ap (λ (l : List ℕ). value_len sum P l) is in
    value_there sum P page readable fits there (λ none. omega (arith, told.some, len, none))
    ∙ ap (λ (n : ℕ). Ok (take n (page_at P page readable))) (sym len)
    ∙ ap (λ (l : List ℕ). Ok (take slot.len l)) (sym is)

-- ---- a part of a page's value

-- some bytes
pub some_bytes : (bytes : List ℕ) → length bytes ≢ 0 → some_of bytes ≡ Ok bytes
some_bytes bytes some = cond-false (length bytes == 0) _ _ (ne_eqb (length bytes) 0 some)

-- a beginning of a beginning
take_less : (a b : ℕ) (xs : List ℕ) → take a (take b xs) ≡ take (min a b) xs
take_less a b xs = elim (cases_lt a b) [
  | inl less ↦ take-take a b xs (omega (arith, less)) ∙ ap (λ (n : ℕ). take n xs) (let e : a ≡ min a b = omega (arith, less) in e)
  | inr more ↦ take_all a (take b xs) (omega (arith, more, length-take b xs)) ∙ ap (λ (n : ℕ). take n xs) (let e : b ≡ min a b = omega (arith, more) in e)
]

module _ (P from to page len : ℕ) (bytes : List ℕ) where
  abbrev skip : ℕ
  skip = from - page * P

  abbrev stop : ℕ
  stop = min (to - page * P) len

  abbrev part : List ℕ
  part = drop skip (take (to - page * P) (take len bytes))

  part_is : skip ≤ stop → part ≡ slice_range bytes skip stop
  part_is le = ap (λ (l : List ℕ). drop skip l) (take_less (to - page * P) len bytes) ∙ drop-take_less bytes skip stop le

  -- the page's value has bytes of the range
  pub part_some : skip < stop → stop ≤ length bytes → part_of P from to page (Ok (take len bytes)) ≡ Ok (slice_range bytes skip stop)
  part_some less fits =
      let is = part_is (omega (arith, less)) in
      let many : length part ≡ stop - skip = ap (λ (l : List ℕ). length l) is ∙ length-take-le (stop - skip) (drop skip bytes) (omega (arith, length-drop skip bytes, fits)) in
      some_bytes part (λ none. omega (arith, many, none, less)) ∙ ap (λ (l : List ℕ). Ok l) is

-- ---- reads by what a blob holds

-- a read that only looked
pub told_looks : {A B : Type 0} (of : A → B) (told : Result B Error) (old new : Life) (result : Result A Error) → ReadsTold of told old new result → Looked old new
told_looks of told old new (Ok a) reads = reads.1
told_looks of told old new (Err ReadFailed) reads = reads.1
told_looks of told old new (Err WriteFailed) reads = reads.1
told_looks of told old new (Err ResizeFailed) reads = reads.1
told_looks of told old new (Err SyncFailed) reads = reads.1
told_looks of told old new (Err InvalidChecksum) reads = reads.1
told_looks of told old new (Err BlobInsufficientLength) reads = reads.1
told_looks of told old new (Err OffsetOverflow) reads = reads.1
told_looks of told old new (Err OutOfMemory) reads = reads.0
told_looks of told old new (Err IdsExhausted) reads = reads.1

-- a read that fails after a look, as a part of another
pub told_fault : {A B C D : Type 0} (of : A → B) (to : C → D) (told : Result B Error) (whole : Result D Error) (start old new : Life) (e : Error) → Looked start old → NoneFailed start.present old.present
    → ((f : Error) → told ≡ Err f → whole ≡ Err f) → ReadsTold of told old new (Err e) → ReadsTold to whole start new (Err e)
told_fault of to told whole start old new ReadFailed so_far none meant reads = (failed_later ReadFailed start.present old.present new.present so_far.log reads.0, looked_joins start old new so_far reads.1)
told_fault of to told whole start old new WriteFailed so_far none meant reads = (meant WriteFailed reads.0, looked_joins start old new so_far reads.1, none_failed_joins start.present old.present new.present none reads.2)
told_fault of to told whole start old new ResizeFailed so_far none meant reads = (meant ResizeFailed reads.0, looked_joins start old new so_far reads.1, none_failed_joins start.present old.present new.present none reads.2)
told_fault of to told whole start old new SyncFailed so_far none meant reads = (meant SyncFailed reads.0, looked_joins start old new so_far reads.1, none_failed_joins start.present old.present new.present none reads.2)
told_fault of to told whole start old new InvalidChecksum so_far none meant reads = (meant InvalidChecksum reads.0, looked_joins start old new so_far reads.1, none_failed_joins start.present old.present new.present none reads.2)
told_fault of to told whole start old new BlobInsufficientLength so_far none meant reads = (meant BlobInsufficientLength reads.0, looked_joins start old new so_far reads.1, none_failed_joins start.present old.present new.present none reads.2)
told_fault of to told whole start old new OffsetOverflow so_far none meant reads = (meant OffsetOverflow reads.0, looked_joins start old new so_far reads.1, none_failed_joins start.present old.present new.present none reads.2)
told_fault of to told whole start old new OutOfMemory so_far none meant reads = (looked_joins start old new so_far reads.0, none_failed_joins start.present old.present new.present none reads.1)
told_fault of to told whole start old new IdsExhausted so_far none meant reads = (meant IdsExhausted reads.0, looked_joins start old new so_far reads.1, none_failed_joins start.present old.present new.present none reads.2)

-- a read that ends since memory is refused
pub told_memory : {A B : Type 0} (of : A → B) (told : Result B Error) (start new : Life) (e : Error) → Looked start new → NoneFailed start.present new.present → e ≡ OutOfMemory → ReadsTold of told start new (Err e)
told_memory of told start new e so_far none is = subst (λ (x : Error). ReadsTold of told start new (Err x)) (sym is) (so_far, none)

-- ---- a range

-- nothing in front of a result
pub joined_none : (back : Result (List ℕ) Error) → joined_results (Ok []) back ≡ back
joined_none (Ok back) = refl
joined_none (Err e) = refl

pub joined_more : (front more : List ℕ) (back : Result (List ℕ) Error) → joined_results (Ok front) (joined_results (Ok more) back) ≡ joined_results (Ok (front ++ more)) back
joined_more front more (Ok back) = ap (λ (l : List ℕ). Ok l) (sym (append_assoc front more back))
joined_more front more (Err e) = refl

pub joined_last : (front : List ℕ) → joined_results (Ok front) (Ok []) ≡ Ok front
joined_last front = ap (λ (l : List ℕ). Ok l) (append-nil front)

module _ (sum : List ℕ → ℕ) (P from to first end : ℕ) (readable : List ℕ) where
  abbrev all : Result (List ℕ) Error
  all = parts_told sum P from to (end - first) first readable

  abbrev rest : ℕ → Result (List ℕ) Error
  rest page = parts_told sum P from to (end - page) page readable

  -- these bytes were found before this page
  abbrev pub IsFound : ℕ → List ℕ → Type 0
  IsFound page found = all ≡ joined_results (Ok found) (rest page)

  pub found_first : IsFound first []
  found_first = sym (joined_none all)

  rest_is : (page : ℕ) → page < end → rest page ≡ joined_results (part_of P from to page (value_told sum P page readable)) (rest (page + 1))
  rest_is page less =
      let e : end - page ≡ suc (end - (page + 1)) = omega (arith, less) in
      ap (λ (n : ℕ). parts_told sum P from to n page readable) e

  -- one page more was found
  pub found_next : (page : ℕ) (found part : List ℕ) → page < end → IsFound page found → part_of P from to page (value_told sum P page readable) ≡ Ok part → IsFound (page + 1) (found ++ part)
  found_next page found part less is told =
      is ∙ ap (λ (r : Result (List ℕ) Error). joined_results (Ok found) r) (rest_is page less ∙ ap (λ (r : Result (List ℕ) Error). joined_results r (rest (page + 1))) told)
      ∙ joined_more found part (rest (page + 1))

  -- a page that can't be read
  pub found_fault : (page : ℕ) (found : List ℕ) (e : Error) → page < end → IsFound page found → part_of P from to page (value_told sum P page readable) ≡ Err e → all ≡ Err e
  found_fault page found e less is told =
      is ∙ ap (λ (r : Result (List ℕ) Error). joined_results (Ok found) r) (rest_is page less ∙ ap (λ (r : Result (List ℕ) Error). joined_results r (rest (page + 1))) told)

  -- all pages were found
  pub found_all : (page : ℕ) (found : List ℕ) → end ≤ page → IsFound page found → all ≡ Ok found
  found_all page found le is =
      is ∙ ap (λ (n : ℕ). joined_results (Ok found) (parts_told sum P from to n page readable)) (let e : end - page ≡ 0 = omega (arith, le) in e) ∙ joined_last found

module _ (sum : List ℕ → ℕ) (P offset len : ℕ) (readable : List ℕ) where
  abbrev pages : Result (List ℕ) Error
  pages = parts_told sum P offset (offset + len) (range_end P offset len - offset / P) (offset / P) readable

  -- the range's end passes the greatest `u64`
  pub range_passes : 2 ^ 64 ≤ offset + len → range_told sum P offset len readable ≡ Err OffsetOverflow
  range_passes over = cond-true (nat_le (2 ^ 64) (offset + len)) _ _ (le-leb (2 ^ 64) (offset + len) over)

  -- the range is empty
  pub range_empty : offset + len < 2 ^ 64 → len ≡ 0 → range_told sum P offset len readable ≡ Ok []
  range_empty fits none =
      cond-false (nat_le (2 ^ 64) (offset + len)) _ _ (lt-leb (2 ^ 64) (offset + len) fits) ∙ cond-true (len == 0) _ _ (eq-eqb len 0 none)

  range_is : offset + len < 2 ^ 64 → len ≢ 0 → range_told sum P offset len readable ≡ all_of len pages
  range_is fits some =
      cond-false (nat_le (2 ^ 64) (offset + len)) _ _ (lt-leb (2 ^ 64) (offset + len) fits) ∙ cond-false (len == 0) _ _ (ne_eqb len 0 some)

  -- the range's pages decide
  pub range_fault : (e : Error) → offset + len < 2 ^ 64 → len ≢ 0 → pages ≡ Err e → range_told sum P offset len readable ≡ Err e
  range_fault e fits some told = range_is fits some ∙ ap (λ (r : Result (List ℕ) Error). all_of len r) told

  pub range_found : (found : List ℕ) → offset + len < 2 ^ 64 → len ≢ 0 → pages ≡ Ok found → length found ≡ len → range_told sum P offset len readable ≡ Ok found
  range_found found fits some told many = range_is fits some ∙ ap (λ (r : Result (List ℕ) Error). all_of len r) told ∙ cond-true (length found == len) _ _ (eq-eqb (length found) len many)

  pub range_short : (found : List ℕ) → offset + len < 2 ^ 64 → len ≢ 0 → pages ≡ Ok found → length found ≢ len → range_told sum P offset len readable ≡ Err BlobInsufficientLength
  range_short found fits some told few = range_is fits some ∙ ap (λ (r : Result (List ℕ) Error). all_of len r) told ∙ cond-false (length found == len) _ _ (ne_eqb (length found) len few)

-- ---- the last bytes

module _ (sum : List ℕ → ℕ) (P size len : ℕ) (readable : List ℕ) where
  abbrev last : ℕ
  last = size / (P + 12) - 1

  -- the size isn't whole pages
  pub tail_torn : size % (P + 12) ≢ 0 → tail_told sum P size len readable ≡ Err BlobInsufficientLength
  tail_torn torn = cond-false (size % (P + 12) == 0) _ _ (ne_eqb (size % (P + 12)) 0 torn)

  whole : size % (P + 12) ≡ 0 → tail_told sum P size len readable
      ≡ (if size == 0 then (if len == 0 then Ok (0, []) else Err BlobInsufficientLength) else after_told sum P last len readable (value_told sum P last readable))
  whole is = cond-true (size % (P + 12) == 0) _ _ (eq-eqb (size % (P + 12)) 0 is)

  -- there is no page
  pub tail_empty : size % (P + 12) ≡ 0 → size ≡ 0 → len ≡ 0 → tail_told sum P size len readable ≡ Ok (0, [])
  tail_empty is none few = whole is ∙ cond-true (size == 0) _ _ (eq-eqb size 0 none) ∙ cond-true (len == 0) _ _ (eq-eqb len 0 few)

  pub tail_lacks : size % (P + 12) ≡ 0 → size ≡ 0 → len ≢ 0 → tail_told sum P size len readable ≡ Err BlobInsufficientLength
  tail_lacks is none some = whole is ∙ cond-true (size == 0) _ _ (eq-eqb size 0 none) ∙ cond-false (len == 0) _ _ (ne_eqb len 0 some)

  -- the last page decides
  pub tail_after : size % (P + 12) ≡ 0 → size ≢ 0 → tail_told sum P size len readable ≡ after_told sum P last len readable (value_told sum P last readable)
  tail_after is some = whole is ∙ cond-false (size == 0) _ _ (ne_eqb size 0 some)

module _ (sum : List ℕ → ℕ) (P page len : ℕ) (readable bytes : List ℕ) where
  abbrev after_end : ℕ
  after_end = page * P + length bytes

  abbrev front : Result (List ℕ) Error
  front = range_told sum P (after_end - len) (page * P - (after_end - len)) readable

  after_is : len ≤ after_end → after_told sum P page len readable (Ok bytes) ≡ ending_at after_end (joined_results front (Ok (drop (after_end - len - page * P) bytes)))
  after_is le = cond-false (nat_lt after_end len) _ _ (le-ltb after_end len le)

  -- the pages before the last one decide
  pub after_fault : (e : Error) → len ≤ after_end → front ≡ Err e → after_told sum P page len readable (Ok bytes) ≡ Err e
  after_fault e le told =
      after_is le ∙ ap (λ (r : Result (List ℕ) Error). ending_at after_end (joined_results r (Ok (drop (after_end - len - page * P) bytes)))) told

  pub after_found : (found : List ℕ) → len ≤ after_end → front ≡ Ok found → after_told sum P page len readable (Ok bytes) ≡ Ok (after_end, found ++ drop (after_end - len - page * P) bytes)
  after_found found le told =
      after_is le ∙ ap (λ (r : Result (List ℕ) Error). ending_at after_end (joined_results r (Ok (drop (after_end - len - page * P) bytes)))) told

-- ---- with the numbers that a program has

-- a read gives as many bytes as were asked for
pub read_len : (page_start size : ℕ) (old new : Life) (bytes : List ℕ) → DeviceReadGoes page_start size old new (Ok bytes) → length bytes ≡ size
read_len page_start size old new bytes goes =
    ap (λ (l : List ℕ). length l) goes.1 ∙ length-take-le size (drop page_start old.present.readable) (omega (arith, goes.0, length-drop page_start old.present.readable))

-- the slot of the value of a page that was read
pub seen_active : (sum : List ℕ → ℕ) (P size : ℕ) (bytes seen : List ℕ) (slot : Option ActiveChecksum) → size ≡ P + 12 → length bytes ≡ size → seen ≡ bytes → slot ≡ active sum (length seen - 12) seen → active sum P bytes ≡ slot
seen_active sum P size bytes seen slot size_is many same told =
    sym (told ∙ ap (λ (l : List ℕ). active sum (length l - 12) l) same ∙ ap (λ (n : ℕ). active sum n bytes) (let e : length bytes - 12 ≡ P = omega (arith, many, size_is) in e))

-- a part that was cut out of a page's value, unless memory was refused
pub part_sliced : (P from to page len start skip stop : ℕ) (bytes : List ℕ) (told : Result (List ℕ) Error) (old new : Life) (result : Result (List ℕ) Error) → start ≡ page * P → skip ≡ from - start → stop ≡ min (to - start) len
    → skip < stop → stop ≤ length bytes → told ≡ Ok (take len bytes) → Looked old new → NoneFailed old.present new.present → IfOk result (λ b. b ≡ slice_range bytes skip stop) → IsOkUnless result OutOfMemory
    → ReadsTold (λ (b : List ℕ). b) (part_of P from to page told) old new result
part_sliced P from to page len start skip stop bytes told old new (Ok b) is front back less fits value looked none ok err =
    let first : skip ≡ from - page * P = front ∙ ap (λ (n : ℕ). from - n) is in
    let last : stop ≡ min (to - page * P) len = back ∙ ap (λ (n : ℕ). min (to - n) len) is in
    let cut = ap (λ (n : ℕ). slice_range bytes n stop) first ∙ ap (λ (n : ℕ). slice_range bytes (from - page * P) n) last in (
      ap (λ (r : Result (List ℕ) Error). part_of P from to page r) value
          ∙ part_some P from to page len bytes (omega (arith, less, first, last)) (omega (arith, fits, last))
          ∙ ap (λ (l : List ℕ). Ok l) (sym (ok ∙ cut)),
      looked,
      none,
    )
part_sliced P from to page len start skip stop bytes told old new (Err e) is front back less fits value looked none ok err = told_memory (λ (b : List ℕ). b) (part_of P from to page told) old new e looked none err

-- the pages that a range meets
pub same_pages : (sum : List ℕ → ℕ) (P offset len size end : ℕ) (readable : List ℕ) → size ≡ P → end ≡ offset + len
    → parts_told sum P offset (offset + len) (range_end P offset len - offset / P) (offset / P) readable ≡ parts_told sum P offset end ((end - 1) / size + 1 - offset / size) (offset / size) readable
same_pages sum P offset len size end readable size_is end_is =
    sym (ap (λ (n : ℕ). parts_told sum P offset end ((end - 1) / n + 1 - offset / n) (offset / n) readable) size_is
    ∙ ap (λ (e : ℕ). parts_told sum P offset e ((e - 1) / P + 1 - offset / P) (offset / P) readable) end_is)

-- what pages hold stays, as a blob is looked at
pub told_before : (sum : List ℕ → ℕ) (P from to page : ℕ) (start old new : Life) (result : Result (List ℕ) Error) → Looked start old
    → ReadsTold (λ (b : List ℕ). b) (part_of P from to page (value_told sum P page old.present.readable)) old new result
    → ReadsTold (λ (b : List ℕ). b) (part_of P from to page (value_told sum P page start.present.readable)) old new result
told_before sum P from to page start old new result looked reads =
    subst (λ (l : List ℕ). ReadsTold (λ (b : List ℕ). b) (part_of P from to page (value_told sum P page l)) old new result) (looked_readable start old looked) reads

-- the last bytes, with the numbers that a program has
module _ (sum : List ℕ → ℕ) (P page len start end offset before tail_len : ℕ) (readable tail : List ℕ) (start_is : start ≡ page * P) (within : tail_len ≤ length tail) (end_is : end ≡ start + tail_len) (le : len ≤ end)
    (offset_is : offset ≡ end - len) (before_is : before ≡ start - offset) (value : value_told sum P page readable ≡ Ok (take tail_len tail)) where
  abbrev told_value : List ℕ
  told_value = take tail_len tail

  many : length told_value ≡ tail_len
  many = length-take-le tail_len tail within

  ends_there : page * P + length told_value ≡ end
  ends_there = omega (arith, many, start_is, end_is)

  begins_there : page * P + length told_value - len ≡ offset
  begins_there = omega (arith, ends_there, offset_is)

  front_is : range_told sum P (page * P + length told_value - len) (page * P - (page * P + length told_value - len)) readable ≡ range_told sum P offset before readable
  front_is =
      ap (λ (n : ℕ). range_told sum P n (page * P - n) readable) begins_there
      ∙ ap (λ (n : ℕ). range_told sum P offset n readable) (let e : page * P - offset ≡ before = omega (arith, start_is, before_is) in e)

  pub after_refused : (e : Error) → range_told sum P offset before readable ≡ Err e → after_told sum P page len readable (value_told sum P page readable) ≡ Err e
  after_refused e told =
      ap (λ (r : Result (List ℕ) Error). after_told sum P page len readable r) value
      ∙ after_fault sum P page len readable told_value e (omega (arith, le, ends_there)) (front_is ∙ told)

  pub after_given : (skip : ℕ) (found : List ℕ) → skip ≡ offset - start → range_told sum P offset before readable ≡ Ok found
      → after_told sum P page len readable (value_told sum P page readable) ≡ Ok (end, found ++ slice_range tail skip tail_len)
  after_given skip found skip_is told =
      let few : skip ≤ tail_len = omega (arith, skip_is, offset_is, end_is) in
      let same : page * P + length told_value - len - page * P ≡ skip = omega (arith, begins_there, start_is, skip_is) in
      ap (λ (r : Result (List ℕ) Error). after_told sum P page len readable r) value
      ∙ after_found sum P page len readable told_value found (omega (arith, le, ends_there)) (front_is ∙ told)
      ∙ ap (λ (n : ℕ). Ok (n, found ++ drop (page * P + length told_value - len - page * P) told_value)) ends_there
      ∙ ap (λ (l : List ℕ). Ok (end, found ++ l)) (ap (λ (n : ℕ). drop n told_value) same ∙ drop-take_less tail skip tail_len few)

-- what a range holds stays, as a blob is looked at
pub range_before : (sum : List ℕ → ℕ) (P offset len : ℕ) (start old new : Life) (result : Result (List (List ℕ)) Error) → Looked start old
    → ReadsTold concat (range_told sum P offset len old.present.readable) old new result → ReadsTold concat (range_told sum P offset len start.present.readable) old new result
range_before sum P offset len start old new result looked reads =
    subst (λ (l : List ℕ). ReadsTold concat (range_told sum P offset len l) old new result) (looked_readable start old looked) reads
