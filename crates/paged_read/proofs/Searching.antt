-- What a search through a blob's pages reads, by the device's log.
use Rattle.std.proofs.Common.{◌≡◌, ◌⊎◌, inl, inr, ℕ, ◌+◌, ◌*◌, ◌/◌, ◌≤◌, max, List, [], ◌∷◌, ◌++◌, map, Bool, true, false, Result, Ok, Err, sym, ap, ◌∙◌, subst, arith, append-nil, append_assoc}
use Rattle.std.proofs.Math.Nat.{mul-le-mul_left}
use Rattle.std.proofs.lemmas.List.{map-append}
use Rattle.disk.specs.Disk.{Request, Entry, Life, ReadAt, ReadMany, StartReadMany, AskedOnce, DeviceReadGoes}
use Rattle.disk.specs.declared.error.Error.{Error}
use Rattle.disk.specs.declared.error.Error.TheVariants.{ReadFailed, WriteFailed, ResizeFailed, SyncFailed, InvalidChecksum, BlobInsufficientLength, OffsetOverflow, OutOfMemory, IdsExhausted}
use Rattle.paged_read.specs.Searches.{Gained, AreReadsWithin, ReadsWithin, scan_bytes}

-- ---- requests

pub within_joins : (most : ℕ) (xs ys : List Request) → AreReadsWithin most xs → AreReadsWithin most ys → AreReadsWithin most (xs ++ ys)
within_joins most [] ys first second = second
within_joins most (ReadAt offset len ∷ xs) ys first second = (first.0, within_joins most xs ys first.1 second)
within_joins most (ReadMany ranges ∷ xs) ys first second = absurd first
within_joins most (StartReadMany ranges ∷ xs) ys first second = absurd first
within_joins most (_ ∷ xs) ys first second = within_joins most xs ys first second

-- a greater bound on what is read at once
within_more : (few most : ℕ) (xs : List Request) → few ≤ most → AreReadsWithin few xs → AreReadsWithin most xs
within_more few most [] enough fit = tt
within_more few most (ReadAt offset len ∷ xs) enough fit = (omega (arith, fit.0), within_more few most xs enough fit.1)
within_more few most (ReadMany ranges ∷ xs) enough fit = absurd fit
within_more few most (StartReadMany ranges ∷ xs) enough fit = absurd fit
within_more few most (_ ∷ xs) enough fit = within_more few most xs enough fit

-- ---- the log

-- the log gained nothing
pub gained_none : (Q : List Request → Type 0) (old new : Life) → new ≡ old → Q [] → Gained Q old new
gained_none Q old new same holds = ([], ap (λ (l : Life). l.present.log) same ∙ sym (append-nil old.present.log), holds)

-- the log gained one call
pub gained_once : (Q : List Request → Type 0) (request : Request) (failed : Bool) (old new : Life) → new.present.log ≡ old.present.log ++ record { request = request; failed = failed } ∷ [] → Q (request ∷ []) → Gained Q old new
gained_once Q request failed old new is holds = (record { request = request; failed = failed } ∷ [], is, holds)

-- the log gained the calls of one part and then of another
pub gained_joins : (Q R S : List Request → Type 0) (old mid new : Life) → ((xs ys : List Request) → Q xs → R ys → S (xs ++ ys)) → Gained Q old mid → Gained R mid new → Gained S old new
gained_joins Q R S old mid new joins first second = (
  first.0 ++ second.0,
  second.1 ∙ ap (λ (l : List Entry). l ++ second.0) first.1 ∙ append_assoc old.present.log first.0 second.0,
  subst S (sym (map-append (λ (e : Entry). e.request) first.0 second.0)) (joins (map (λ (e : Entry). e.request) first.0) (map (λ (e : Entry). e.request) second.0) first.2 second.2),
)

-- what follows from what the log gained
pub gained_then : (Q R : List Request → Type 0) (old new : Life) → ((xs : List Request) → Q xs → R xs) → Gained Q old new → Gained R old new
gained_then Q R old new then gained = (gained.0, gained.1, then (map (λ (e : Entry). e.request) gained.0) gained.2)

-- ---- reads

-- a read asks for nothing else
pub read_asks : (offset len : ℕ) (old new : Life) (answer : Result (List ℕ) Error) → DeviceReadGoes offset len old new answer → (new ≡ old) ⊎ ((failed : Bool) × AskedOnce (ReadAt offset len) failed old new)
read_asks offset len old new (Ok bytes) goes = inr (false, goes.2)
read_asks offset len old new (Err ReadFailed) goes = inr (true, goes)
read_asks offset len old new (Err BlobInsufficientLength) goes = inl goes.0
read_asks offset len old new (Err OutOfMemory) goes = inl goes.0
read_asks offset len old new (Err WriteFailed) goes = absurd goes
read_asks offset len old new (Err ResizeFailed) goes = absurd goes
read_asks offset len old new (Err SyncFailed) goes = absurd goes
read_asks offset len old new (Err InvalidChecksum) goes = absurd goes
read_asks offset len old new (Err OffsetOverflow) goes = absurd goes
read_asks offset len old new (Err IdsExhausted) goes = absurd goes

-- ---- one search after another

-- one search, and then calls that read no more at once
pub cuts_within : (few most : ℕ) (old mid new : Life) → few ≤ most → ReadsWithin most old mid → ReadsWithin few mid new → ReadsWithin most old new
cuts_within few most old mid new enough within last =
    gained_joins (AreReadsWithin most) (AreReadsWithin most) (AreReadsWithin most) old mid new (within_joins most) within
    (gained_then (AreReadsWithin few) (AreReadsWithin most) mid new (λ xs fit. within_more few most xs enough fit) last)

-- a scan's longest read has the most pages that fit, and at least one
pub scan_bytes_is : (P size buffer_size most : ℕ) → size ≡ P + 12 → most ≡ max (buffer_size / size) 1 → most * (P + 12) ≡ scan_bytes P buffer_size
scan_bytes_is P size buffer_size most is most_is =
    ap (λ (n : ℕ). n * (P + 12)) (most_is ∙ ap (λ (k : ℕ). max (buffer_size / k) 1) is ∙ (let e : max (buffer_size / (P + 12)) 1 ≡ max 1 (buffer_size / (P + 12)) = omega arith in e))

-- a scan's longest read has a page
pub page_within : (P buffer_size size : ℕ) → size ≡ P + 12 → size ≤ scan_bytes P buffer_size
page_within P buffer_size size is =
    let more : (P + 12) * 1 ≤ (P + 12) * max 1 (buffer_size / (P + 12)) = mul-le-mul_left (P + 12) (let le : 1 ≤ max 1 (buffer_size / (P + 12)) = omega arith in le) in
    omega (arith, more)
