-- Reads of items, from what the reads of their bytes do.
use Rattle.std.proofs.Common.{◌≡◌, ℕ, zero, suc, ◌+◌, ◌*◌, ◌/◌, ◌^◌, ◌<◌, ◌≤◌, List, [], ◌∷◌, ◌++◌, length, take, drop, map, get_or, Some, Ok, Err, Result, refl, sym, ap, ap₂, ◌∙◌, subst, arith, inl}
use Rattle.std.specs.Prelude.{All, IsErrOf}
use Rattle.std.specs.List.{flat_map}
use Rattle.std.proofs.Math.Nat.{mul-le-mul_right}
use Rattle.disk.specs.Disk.{Life}
use Rattle.disk.specs.declared.error.Error.{Error}
use Rattle.disk.specs.declared.error.Error.TheVariants.{ReadFailed, WriteFailed, ResizeFailed, SyncFailed, InvalidChecksum, BlobInsufficientLength, OffsetOverflow, OutOfMemory, IdsExhausted}
use Rattle.page.specs.Geometry.{AreInOrder, AreInOrderFrom, EndWithin, RangesGo}
use Rattle.cache.specs.CacheState.{CacheState}
use Rattle.paged_read.specs.Batch.{ranges_of}
use Rattle.paged_read.specs.Failures.{none_failed_start}
use Rattle.paged_read.specs.Ranges.{AsksForMissing, AsksOnce, AsksTogether, Reads, ReadsMany, missing, page_ranges, served_ranges, slice}
use Rattle.paged_read.specs.Tail.{Tail, tail_size, logical_bytes}
use Rattle.items.specs.Items.{item}
use Rattle.items.specs.Calls.{AreRising, AreRisingFrom, FirstRefused, GetGoes, GetManyGoes, IsThere, item_ranges, ItemIsAt, ItemsAreAt}
use Rattle.items.proofs.Laws.{item_at}

-- ---- one item

-- an item that was read
pub got : (sum : List ℕ → ℕ) (s : ℕ) (t : Tail) (cache : CacheState) (i offset : ℕ) (buf was : List ℕ) (old new : Life) (result : Result (Unit {0}) Error) → tail_size t ≡ length (logical_bytes t old.present.readable)
    → length (logical_bytes t old.present.readable) ≡ length (logical_bytes t old.present.readable) / s * s → ItemIsAt s (tail_size t / s) i (Ok offset) → length was ≡ s → (IsErrOf result InvalidChecksum → ⊥) → Reads sum t cache (offset, length was) (λ _. buf) old new result
    → GetGoes s (logical_bytes t old.present.readable) i buf old new result
got sum s t cache i offset buf was old new (Ok u) size whole (at, fits, there) long never (within, read, full, none) =
    let is = item_at s i (logical_bytes t old.present.readable) (omega (arith, there, ap (λ (k : ℕ). k / s) size))
    ∙ ap Some (sym (read ∙ ap₂ (λ (n k : ℕ). take n (drop k (logical_bytes t old.present.readable))) long at)) in
    (is, none)
got sum s t cache i offset buf was old new (Err OffsetOverflow) size whole (at, fits, there) long never (same, passes) = absurd (omega (arith, at, fits, passes, long))
got sum s t cache i offset buf was old new (Err BlobInsufficientLength) size whole (at, fits, there) long never (same, below, passes) =
    let least : (i + 1) * s ≤ tail_size t / s * s = mul-le-mul_right s (omega arith) in
    absurd (omega (arith, least, passes, at, long, size, whole, ap (λ (k : ℕ). k / s * s) size))
got sum s t cache i offset buf was old new (Err ReadFailed) size whole (at, fits, there) long never reads = (omega (arith, there, ap (λ (k : ℕ). k / s) size), reads)
got sum s t cache i offset buf was old new (Err OutOfMemory) size whole (at, fits, there) long never reads = (omega (arith, there, ap (λ (k : ℕ). k / s) size), reads)
got sum s t cache i offset buf was old new (Err InvalidChecksum) size whole (at, fits, there) long never reads = absurd (never refl)
got sum s t cache i offset buf was old new (Err WriteFailed) size whole (at, fits, there) long never reads = absurd reads
got sum s t cache i offset buf was old new (Err ResizeFailed) size whole (at, fits, there) long never reads = absurd reads
got sum s t cache i offset buf was old new (Err SyncFailed) size whole (at, fits, there) long never reads = absurd reads
got sum s t cache i offset buf was old new (Err IdsExhausted) size whole (at, fits, there) long never reads = absurd reads

-- an item that isn't to be found
pub not_got : (s n : ℕ) (content : List ℕ) (i : ℕ) (buf : List ℕ) (life : Life) (e : Error) → n ≡ length content → ItemIsAt s (n / s) i (Err e) → GetGoes s content i buf life life (Err e)
not_got s n content i buf life OffsetOverflow is (passes, past) = (refl, passes, omega (arith, past, ap (λ (k : ℕ). k / s) is))
not_got s n content i buf life BlobInsufficientLength is (fits, past) = (refl, fits, omega (arith, past, ap (λ (k : ℕ). k / s) is))
not_got s n content i buf life ReadFailed is finds = absurd finds
not_got s n content i buf life WriteFailed is finds = absurd finds
not_got s n content i buf life ResizeFailed is finds = absurd finds
not_got s n content i buf life SyncFailed is finds = absurd finds
not_got s n content i buf life InvalidChecksum is finds = absurd finds
not_got s n content i buf life OutOfMemory is finds = absurd finds
not_got s n content i buf life IdsExhausted is finds = absurd finds

-- an item that is to be found is there
pub there_is : (s n : ℕ) (content : List ℕ) (i offset : ℕ) → n ≡ length content → ItemIsAt s (n / s) i (Ok offset) → i < length content / s
there_is s n content i offset is finds = omega (arith, finds.2, ap (λ (k : ℕ). k / s) is)

-- a read's device calls, by the item's range
pub asks_item : (s : ℕ) (t : Tail) (cache : CacheState) (i offset long : ℕ) (old new : Life) → offset ≡ i * s → long ≡ s → AsksForMissing cache t (offset, long) old new → AsksForMissing cache t (i * s, s) old new
asks_item s t cache i offset long old new at size asks =
    subst (λ (k : ℕ). AsksForMissing cache t (k, s) old new) at (subst (λ (n : ℕ). AsksForMissing cache t (offset, n) old new) size asks)

-- no device calls are made where nothing is read
pub asks_none : (t : Tail) (cache : CacheState) (range : ℕ × ℕ) (life : Life) → AsksForMissing cache t range life life
asks_none t cache range life = (omega arith, λ is_served. refl)

-- ---- many

-- rising numbers have ranges in order
in_order : (s n : ℕ) (indices : List ℕ) → AreRisingFrom n indices → AreInOrderFrom (n * s) (item_ranges s indices)
in_order s n [] rising = tt
in_order s n (i ∷ indices) (le, rising) =
    let e : (i + 1) * s ≡ i * s + s = omega arith in
    (mul-le-mul_right s le, subst (λ (k : ℕ). AreInOrderFrom k (item_ranges s indices)) e (in_order s (i + 1) indices rising))

pub are_in_order : (s : ℕ) (indices : List ℕ) → AreRising indices → AreInOrder (item_ranges s indices)
are_in_order s indices rising = let e : 0 * s ≡ 0 = omega arith in subst (λ (k : ℕ). AreInOrderFrom k (item_ranges s indices)) e (in_order s 0 indices rising)

-- the bytes of the ranges of many items
many_bytes : (s : ℕ) (content indices : List ℕ) → flat_map (slice content) (item_ranges s indices) ≡ flat_map (item s content) indices
many_bytes s content [] = refl
many_bytes s content (i ∷ indices) = ap (λ (l : List ℕ). item s content i ++ l) (many_bytes s content indices)

-- what holds of all holds of one among them
among : {X : Type 0} (Q : X → Type 0) (before after : List X) (x : X) → All Q (before ++ x ∷ after) → Q x
among Q [] after x all = all 0 x (omega arith)
among Q (y ∷ before) after x all = among Q before after x (λ k d less. all (suc k) d (omega arith))

-- what holds of each number's range holds of each range
all_cons : {X : Type 0} (Q : X → Type 0) (x : X) (xs : List X) → Q x → All Q xs → All Q (x ∷ xs)
all_cons Q x xs here all zero d less = here
all_cons Q x xs here all (suc k) d less = all k d (omega arith)

each_range : (s : ℕ) (Q : ℕ × ℕ → Type 0) (indices : List ℕ) → All (λ i. Q (i * s, s)) indices → All Q (item_ranges s indices)
each_range s Q [] all = λ k d less. absurd (omega arith)
each_range s Q (i ∷ indices) all =
    all_cons Q (i * s, s) (item_ranges s indices) (all 0 0 (omega arith)) (each_range s Q indices (λ k d less. all (suc k) d (omega arith)))

-- so none of the ranges of items that there are is refused
all_end : (s size : ℕ) (indices : List ℕ) → size ≡ size / s * s → All (IsThere s (size / s)) indices → EndWithin size (item_ranges s indices)
all_end s size indices whole all =
    each_range s (λ r. r.0 + r.1 ≤ size) indices
    (λ k d less. let least : (get_or indices k d + 1) * s ≤ size / s * s = mul-le-mul_right s (omega (arith, (all k d less).1)) in omega (arith, least, whole))

all_fit : (s n : ℕ) (indices : List ℕ) → All (IsThere s n) indices → All (λ r. r.0 + r.1 < 2 ^ 64) (item_ranges s indices)
all_fit s n indices all = each_range s (λ r. r.0 + r.1 < 2 ^ 64) indices (λ k d less. (all k d less).0)

not_overflown : (size : ℕ) (ranges : List (ℕ × ℕ)) → All (λ r. r.0 + r.1 < 2 ^ 64) ranges → RangesGo size ranges (Err OffsetOverflow) → ⊥
not_overflown size ranges all (before, after, (range, is, first, goes)) =
    let fits : range.0 + range.1 < 2 ^ 64 = among (λ r. r.0 + r.1 < 2 ^ 64) before after range (subst (λ (l : List (ℕ × ℕ)). All (λ r. r.0 + r.1 < 2 ^ 64) l) is all) in
    omega (arith, fits, goes)

not_past : (size : ℕ) (ranges : List (ℕ × ℕ)) → EndWithin size ranges → RangesGo size ranges (Err BlobInsufficientLength) → ⊥
not_past size ranges all (before, after, (range, is, first, goes)) =
    let ends : range.0 + range.1 ≤ size = among (λ r. r.0 + r.1 ≤ size) before after range (subst (λ (l : List (ℕ × ℕ)). EndWithin size l) is all) in
    omega (arith, ends, goes.1)

-- all numbers are items', by the content
all_there : (s n : ℕ) (content indices : List ℕ) → n ≡ length content → All (IsThere s (n / s)) indices → All (λ i. i < length content / s) indices
all_there s n content indices is all = λ k d less. omega (arith, (all k d less).1, ap (λ (j : ℕ). j / s) is)

-- items that were read
pub got_many : (sum : List ℕ → ℕ) (s : ℕ) (t : Tail) (cache : CacheState) (indices at buf : List ℕ) (old new : Life) (result : Result ℕ Error) → tail_size t ≡ length (logical_bytes t old.present.readable)
    → length (logical_bytes t old.present.readable) ≡ length (logical_bytes t old.present.readable) / s * s → at ≡ map (λ i. i * s) indices → All (IsThere s (tail_size t / s)) indices
    → (IsErrOf result InvalidChecksum → ⊥) → ReadsMany sum t cache (ranges_of s at) buf old new result → GetManyGoes s t (logical_bytes t old.present.readable) indices cache buf old new result
got_many sum s t cache indices at buf old new (Ok n) size whole is all never (within, served_is, read, full, none) = (
  all_there s (tail_size t) (logical_bytes t old.present.readable) indices size all,
  read ∙ ap (λ (l : List ℕ). flat_map (slice (logical_bytes t old.present.readable)) (ranges_of s l)) is ∙ many_bytes s (logical_bytes t old.present.readable) indices,
  served_is ∙ ap (λ (l : List ℕ). served_ranges cache t (ranges_of s l)) is,
  none,
)
got_many sum s t cache indices at buf old new (Err OffsetOverflow) size whole is all never (same, refused) =
    absurd (not_overflown (tail_size t) (item_ranges s indices) (all_fit s (tail_size t / s) indices all) (subst (λ (l : List ℕ). RangesGo (tail_size t) (ranges_of s l) (Err OffsetOverflow)) is refused))
got_many sum s t cache indices at buf old new (Err BlobInsufficientLength) size whole is all never (same, refused) =
    let own : tail_size t ≡ tail_size t / s * s = size ∙ whole ∙ ap (λ (k : ℕ). k / s * s) (sym size) in
    absurd (not_past (tail_size t) (item_ranges s indices) (all_end s (tail_size t) indices own all) (subst (λ (l : List ℕ). RangesGo (tail_size t) (ranges_of s l) (Err BlobInsufficientLength)) is refused))
got_many sum s t cache indices at buf old new (Err ReadFailed) size whole is all never reads = (all_there s (tail_size t) (logical_bytes t old.present.readable) indices size all, reads.1)
got_many sum s t cache indices at buf old new (Err OutOfMemory) size whole is all never reads = (all_there s (tail_size t) (logical_bytes t old.present.readable) indices size all, reads.1)
got_many sum s t cache indices at buf old new (Err InvalidChecksum) size whole is all never reads = absurd (never refl)
got_many sum s t cache indices at buf old new (Err WriteFailed) size whole is all never reads = absurd reads.1
got_many sum s t cache indices at buf old new (Err ResizeFailed) size whole is all never reads = absurd reads.1
got_many sum s t cache indices at buf old new (Err SyncFailed) size whole is all never reads = absurd reads.1
got_many sum s t cache indices at buf old new (Err IdsExhausted) size whole is all never reads = absurd reads.1

-- one of them isn't to be found
first_refused : (s n : ℕ) (content indices : List ℕ) (e : Error) → n ≡ length content → FirstRefused s (n / s) indices e → FirstRefused s (length content / s) indices e
first_refused s n content indices e is refused = subst (λ (k : ℕ). FirstRefused s (k / s) indices e) is refused

pub many_not_got : (s n : ℕ) (t : Tail) (content indices : List ℕ) (cache : CacheState) (buf : List ℕ) (life : Life) (e : Error) → n ≡ length content → ItemsAreAt s (n / s) indices (Err e) → GetManyGoes s t content indices cache buf life life (Err e)
many_not_got s n t content indices cache buf life OffsetOverflow is refused = (refl, first_refused s n content indices OffsetOverflow is refused)
many_not_got s n t content indices cache buf life BlobInsufficientLength is refused = (refl, first_refused s n content indices BlobInsufficientLength is refused)
many_not_got s n t content indices cache buf life ReadFailed is refused = absurd refused.refused
many_not_got s n t content indices cache buf life WriteFailed is refused = absurd refused.refused
many_not_got s n t content indices cache buf life ResizeFailed is refused = absurd refused.refused
many_not_got s n t content indices cache buf life SyncFailed is refused = absurd refused.refused
many_not_got s n t content indices cache buf life InvalidChecksum is refused = absurd refused.refused
many_not_got s n t content indices cache buf life OutOfMemory is there = (all_there s n content indices is there, none_failed_start life.present)
many_not_got s n t content indices cache buf life IdsExhausted is refused = absurd refused.refused

-- the device calls of a read of many items
pub asks_items : (s : ℕ) (t : Tail) (cache : CacheState) (indices at : List ℕ) (old new : Life) → at ≡ map (λ i. i * s) indices → AsksOnce cache t (ranges_of s at) old new → AsksOnce cache t (item_ranges s indices) old new
asks_items s t cache indices at old new is asks = subst (λ (l : List ℕ). AsksOnce cache t (ranges_of s l) old new) is asks

together_none : (ranges : List (ℕ × ℕ)) (life : Life) → AsksTogether ranges life life
together_none [] life = refl
together_none (range ∷ ranges) life = inl refl

pub asks_no_items : (t : Tail) (cache : CacheState) (ranges : List (ℕ × ℕ)) (life : Life) → AsksOnce cache t ranges life life
asks_no_items t cache ranges life = together_none (page_ranges t.page_size (missing cache t ranges)) life
