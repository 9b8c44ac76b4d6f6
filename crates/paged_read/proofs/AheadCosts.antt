-- What a replay asks of the device, by its log.
use Rattle.std.proofs.Common.{◌≡◌, ◌⊎◌, inl, inr, ℕ, zero, suc, ◌+◌, ◌*◌, ◌<◌, ◌≤◌, List, [], ◌∷◌, ◌++◌, length, refl, ap, ◌∙◌, subst, arith, Bool, Result, Ok, Err, Option, Some, slice_get, slice_index_or, All}
use Rattle.std.specs.Prelude.{OnOk, OnErr}
use Rattle.std.specs.Result.{result_ok}
use Rattle.std.specs.Int.{div_ceil}
use Rattle.std.proofs.lemmas.Grind.{div_ceil_times}
use Rattle.std.proofs.lemmas.Bool.{cases_lt}
use Rattle.std.proofs.Math.Nat.{mul-le-mul_right}
use Rattle.disk.proofs.Logs.{one_more}
use Rattle.disk.specs.Disk.{Disk, Life, Request, StartReadGoes, StartReadMany, AskedOnce}
use Rattle.disk.specs.declared.error.Error.{Error}
use Rattle.disk.specs.declared.error.Error.TheVariants.{ReadFailed, BlobInsufficientLength, OutOfMemory}
use Rattle.paged_read.specs.ReadAhead.{AreNext, AreOfBatches, HasFirst, IsBatch, ReadsBatches, after_batch, batch_bytes, batch_range, page_after}
use Rattle.paged_read.specs.declared.ahead.Ahead.{Ahead}
use Rattle.paged_read.proofs.Searching.{gained_none, gained_once, gained_joins}

-- a start of a read makes one device call, or none
start_asks : (ranges : List (ℕ × ℕ)) (old new : Life) (result : Result (List (List ℕ)) Error) → StartReadGoes ranges old new result → (new ≡ old) ⊎ ((failed : Bool) × AskedOnce (StartReadMany ranges) failed old new)
start_asks ranges old new (Ok bytes) goes = inr (_, goes.2)
start_asks ranges old new (Err ReadFailed) goes = inr (_, goes)
start_asks ranges old new (Err BlobInsufficientLength) goes = inl goes.0
start_asks ranges old new (Err OutOfMemory) goes = inl goes.0
start_asks ranges old new (Err _) goes = absurd goes

pub start_calls : (ranges : List (ℕ × ℕ)) (old new : Life) (result : Result (List (List ℕ)) Error) → StartReadGoes ranges old new result → length new.present.log ≤ length old.present.log + 1
start_calls ranges old new result goes = elim (start_asks ranges old new result goes) [
  | inl none ↦ omega (arith, ap (λ (l : Life). length l.present.log) none)
  | inr asked ↦ one_more old.present.log new.present.log (record { request = StartReadMany ranges; failed = asked.0 }) (ap (λ (l : Life). l.present.log) asked.1)
]

module _ (P batch full : ℕ) where
  of_both : (first : ℕ) (xs ys : List Request) → AreOfBatches P batch full first xs → AreOfBatches P batch full first ys → AreOfBatches P batch full first (xs ++ ys)
  of_both first [] ys one other = other
  of_both first (StartReadMany ranges ∷ xs) ys one other = (one.0, of_both first xs ys one.1 other)
  of_both first (_ ∷ xs) ys one other = absurd one

  of_later : (first later : ℕ) (xs : List Request) → first ≤ later → AreOfBatches P batch full later xs → AreOfBatches P batch full first xs
  of_later first later [] le are = tt {0}
  of_later first later (StartReadMany ranges ∷ xs) le are = ((are.0.0, omega (arith, le, are.0.1), are.0.2, are.0.3), of_later first later xs le are.1)
  of_later first later (_ ∷ xs) le are = absurd are

  -- where the device isn't asked, no batch is read
  pub batches_none : (first : ℕ) (old new : Life) → new ≡ old → ReadsBatches P batch full first old new
  batches_none first old new same = gained_none (AreOfBatches P batch full first) old new same (tt {0})

  -- one start of a read is a read of one batch
  pub batches_start : (first page : ℕ) (old new : Life) (result : Result (List (List ℕ)) Error) → first ≤ page → page < full → StartReadGoes (batch_range P batch full page ∷ []) old new result → ReadsBatches P batch full first old new
  batches_start first page old new result above below goes = elim (start_asks (batch_range P batch full page ∷ []) old new result goes) [
    | inl none ↦ batches_none first old new none
    | inr asked ↦ gained_once (AreOfBatches P batch full first) (StartReadMany (batch_range P batch full page ∷ [])) asked.0 old new (ap (λ (l : Life). l.present.log) asked.1) ((page, above, below, refl), tt {0})
  ]

  -- reads of some batches, and then of some at or after them
  pub batches_join : (first later : ℕ) (old mid new : Life) → first ≤ later → ReadsBatches P batch full first old mid → ReadsBatches P batch full later mid new → ReadsBatches P batch full first old new
  batches_join first later old mid new le one other =
      gained_joins (AreOfBatches P batch full first) (AreOfBatches P batch full later) (AreOfBatches P batch full first) old mid new
      (λ xs ys a b. of_both first xs ys a (of_later first later ys le b)) one other

-- the page after a queue is none before it
pub page_after_le : (batch full page : ℕ) (queue : List Ahead) → page ≤ page_after batch full page queue
page_after_le batch full page [] = omega arith
page_after_le batch full page (a ∷ rest) = omega (arith, page_after_le batch full (after_batch batch full page) rest)

-- a queue of the next n batches has at most n
pub next_few : (n batch full page : ℕ) (queue : List Ahead) → AreNext n batch full page queue → length queue ≤ n
next_few zero batch full page queue next = omega (arith, ap (λ (l : List Ahead). length l) next)
next_few (suc n) batch full page [] next = omega arith
next_few (suc n) batch full page (a ∷ rest) next = omega (arith, next_few n batch full (after_batch batch full page) rest next.2)

-- a queue that begins a batch later has at most one more
rest_more : (n batch full page : ℕ) (rest queue : List Ahead) → AreNext n batch full page rest → AreNext (suc n) batch full page queue → length queue ≤ length rest + 1
rest_more n batch full page rest [] one other = omega arith
rest_more zero batch full page rest (b ∷ queue) one other = omega (arith, ap (λ (l : List Ahead). length l) other.2)
rest_more (suc n) batch full page [] (b ∷ queue) one other = absurd (omega (arith, one, other.1))
rest_more (suc n) batch full page (a ∷ rest) (b ∷ queue) one other = omega (arith, rest_more n batch full (after_batch batch full page) rest queue one.2 other.2)

pub next_no_more : (batch full page : ℕ) (queue now : List Ahead) → AreNext 3 batch full page queue → HasFirst queue → AreNext 3 batch full (after_batch batch full page) now → length now ≤ length queue
next_no_more batch full page [] now next has later = absurd has
next_no_more batch full page (a ∷ rest) now next has later = omega (arith, rest_more 2 batch full (after_batch batch full page) rest now next.2 later)

-- ---- the first of a queue

pub record ServesFirst (P batch full page : ℕ) (queue : List Ahead) : Type 0 where
  pub a : Ahead
  pub bytes : List ℕ
  pub first : Some a ≡ slice_get queue 0
  pub here : a.page ≡ page
  pub read : a.read ≡ Ok (bytes ∷ [])

pub serves_first : (P batch full page : ℕ) (d : Disk) (queue : List Ahead) → AreNext 3 batch full page queue → HasFirst queue → All (IsBatch P batch full d) queue → ServesFirst P batch full page queue
serves_first P batch full page d [] next has are = absurd has
serves_first P batch full page d (a ∷ rest) next has are =
    let is : has.0 ≡ batch_bytes P batch full a.page d.readable = are 0 a (omega arith) has.0 has.1 in
    record { a = a; bytes = _; first = refl; here = next.0; read = subst (λ (l : List (List ℕ)). a.read ≡ Ok l) is has.1 }

-- the first of a queue, once it was taken out
pub taken_first : (queue : List Ahead) (a first removed : Ahead) (bytes : List ℕ) (result : Result (List ℕ) Error) (answer : Option (List ℕ)) → Some a ≡ slice_get queue 0 → removed ≡ slice_index_or queue 0 removed → a.read ≡ Ok (bytes ∷ [])
    → ((b : List ℕ) → removed.read ≡ Ok (b ∷ []) → result ≡ Ok b) → answer ≡ result_ok result → answer ≡ Some bytes
taken_first [] a first removed bytes result answer is same read ok gives = absurd (cc is)
taken_first (b ∷ rest) a first removed bytes result answer is same read ok gives =
    let one : b ≡ a = cc is in
    let given : result ≡ Ok bytes = ok bytes (ap (λ (x : Ahead). x.read) (same ∙ one) ∙ read) in
    gives ∙ ap result_ok given

-- ---- how many batches

-- one batch more at the end of whole ones
pub ceil_step : (b m s : ℕ) → 0 < b → 0 < s → div_ceil (m * b) b + 1 ≤ div_ceil (m * b + s) b
ceil_step b m s some more =
    let low = (div_ceil_times (m * b) b some).1 in
    let high = (div_ceil_times (m * b + s) b some).0 in
    elim (cases_lt (div_ceil (m * b) b) (div_ceil (m * b + s) b)) [
      | inl less ↦ omega (arith, less)
      | inr other ↦
          let few : div_ceil (m * b) b ≤ m = elim (cases_lt m (div_ceil (m * b) b)) [
            | inl over ↦ absurd (let le : (m + 1) * b ≤ div_ceil (m * b) b * b = mul-le-mul_right b (omega (arith, over)) in omega (arith, le, low))
            | inr under ↦ omega (arith, under)
          ] in
          absurd (let le : div_ceil (m * b + s) b * b ≤ m * b = mul-le-mul_right b (omega (arith, other, few)) in omega (arith, le, high, more))
    ]

-- ---- an answer of a call that asked no device

pub ok_holds : {A : Type 0} (result : Result A Error) (Q : Type 0) → Q → OnOk result Q
ok_holds (Ok a) Q holds = holds
ok_holds (Err e) Q holds = tt {0}

pub err_holds : {A : Type 0} (result : Result A Error) (Q : Type 0) → Q → OnErr result Q
err_holds (Ok a) Q holds = tt {0}
err_holds (Err e) Q holds = holds
