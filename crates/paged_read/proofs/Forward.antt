-- Searches that go forward from a page on: what they read, by the device's log.
use Rattle.std.proofs.Common.{◌≡◌, inl, inr, ℕ, ◌+◌, ◌*◌, ◌≤◌, List, [], ◌∷◌, ◌++◌, Bool, false, Result, Ok, refl, sym, ap, subst, arith}
use Rattle.std.proofs.Math.Nat.{mul-le-mul_left}
use Rattle.disk.specs.Disk.{Request, Life, ReadAt, ReadMany, StartReadMany, AskedOnce, DeviceReadGoes}
use Rattle.disk.specs.declared.error.Error.{Error}
use Rattle.paged_read.specs.Scans.{AreForward, BeginBy, ReadsForward, StopsAt}
use Rattle.paged_read.specs.Searches.{Gained, AreReadsWithin, ReadsWithin}
use Rattle.paged_read.proofs.Searching.{gained_none, gained_once, gained_joins, gained_then, read_asks}

-- reads of which each begins where the one before it ended, from one offset to another
abbrev pub ForwardTo : (most from to : ℕ) → List Request → Type 0
ForwardTo most from to [] = from ≡ to
ForwardTo most from to (ReadAt offset len ∷ rest) = (offset ≡ from) × (len ≤ most) × ForwardTo most (offset + len) to rest
ForwardTo most from to (ReadMany ranges ∷ rest) = ⊥
ForwardTo most from to (StartReadMany ranges ∷ rest) = ⊥
ForwardTo most from to (_ ∷ rest) = ForwardTo most from to rest

-- reads that go forward end at or after the offset at which they begin
forward_le : (most from to : ℕ) (xs : List Request) → ForwardTo most from to xs → from ≤ to
forward_le most from to [] go = omega (arith, go)
forward_le most from to (ReadAt offset len ∷ xs) go = omega (arith, go.0, forward_le most (offset + len) to xs go.2)
forward_le most from to (ReadMany ranges ∷ xs) go = absurd go
forward_le most from to (StartReadMany ranges ∷ xs) go = absurd go
forward_le most from to (_ ∷ xs) go = forward_le most from to xs go

-- one read more
forward_read : (most from at len : ℕ) (xs : List Request) → len ≤ most → ForwardTo most from at xs → ForwardTo most from (at + len) (xs ++ ReadAt at len ∷ [])
forward_read most from at len [] few go = (sym go, few, refl)
forward_read most from at len (ReadAt offset size ∷ xs) few go = (go.0, go.1, forward_read most (offset + size) at len xs few go.2)
forward_read most from at len (ReadMany ranges ∷ xs) few go = absurd go
forward_read most from at len (StartReadMany ranges ∷ xs) few go = absurd go
forward_read most from at len (_ ∷ xs) few go = forward_read most from at len xs few go

-- reads that go forward, wherever they end
forward_forget : (most from at to : ℕ) (xs : List Request) → at ≤ to → ForwardTo most from at xs → AreForward most from to xs
forward_forget most from at to [] le go = tt
forward_forget most from at to (ReadAt offset len ∷ xs) le go = (go.0, go.1, omega (arith, le, forward_le most (offset + len) at xs go.2), forward_forget most (offset + len) at to xs le go.2)
forward_forget most from at to (ReadMany ranges ∷ xs) le go = absurd go
forward_forget most from at to (StartReadMany ranges ∷ xs) le go = absurd go
forward_forget most from at to (_ ∷ xs) le go = forward_forget most from at to xs le go

-- reads that go forward are each of at most so many bytes
forward_within : (most from to : ℕ) (xs : List Request) → AreForward most from to xs → AreReadsWithin most xs
forward_within most from to [] go = tt
forward_within most from to (ReadAt offset len ∷ xs) go = (go.1, forward_within most (offset + len) to xs go.3)
forward_within most from to (ReadMany ranges ∷ xs) go = absurd go
forward_within most from to (StartReadMany ranges ∷ xs) go = absurd go
forward_within most from to (_ ∷ xs) go = forward_within most from to xs go

abbrev pub ReadsTo : (most from to : ℕ) → Life → Life → Type 0
ReadsTo most from to old new = Gained (ForwardTo most from to) old new

-- no read yet
pub forward_start : (most from : ℕ) (life : Life) → ReadsTo most from from life life
forward_start most from life = gained_none (ForwardTo most from from) life life refl refl

-- no read more
pub forward_end : (most from at to : ℕ) (old new : Life) → at ≤ to → ReadsTo most from at old new → ReadsForward most from to old new
forward_end most from at to old new le reads = gained_then (ForwardTo most from at) (AreForward most from to) old new (λ xs go. forward_forget most from at to xs le go) reads

pub forward_is_within : (most from to : ℕ) (old new : Life) → ReadsForward most from to old new → ReadsWithin most old new
forward_is_within most from to old new reads = gained_then (AreForward most from to) (AreReadsWithin most) old new (λ xs go. forward_within most from to xs go) reads

-- one read more that was asked for
forward_asked : (most from at len : ℕ) (start old new : Life) (failed : Bool) → len ≤ most → ReadsTo most from at start old → AskedOnce (ReadAt at len) failed old new → ReadsTo most from (at + len) start new
forward_asked most from at len start old new failed few so_far asked =
    gained_joins (ForwardTo most from at) (λ ys. ys ≡ ReadAt at len ∷ []) (ForwardTo most from (at + len)) start old new
    (λ xs ys go is. subst (λ (l : List Request). ForwardTo most from (at + len) (xs ++ l)) (sym is) (forward_read most from at len xs few go)) so_far
    (gained_once (λ ys. ys ≡ ReadAt at len ∷ []) (ReadAt at len) failed old new (ap (λ (l : Life). l.present.log) asked) refl)

-- one read more, whatever it answered
pub forward_once : (most from at len to : ℕ) (start old new : Life) (answer : Result (List ℕ) Error) → len ≤ most → at + len ≤ to → ReadsTo most from at start old → DeviceReadGoes at len old new answer → ReadsForward most from to start new
forward_once most from at len to start old new answer few le so_far goes =
    elim (read_asks at len old new answer goes) [
      | inl none ↦ subst (λ (l : Life). ReadsForward most from to start l) (sym none) (forward_end most from at to start old (omega (arith, le)) so_far)
      | inr asked ↦ forward_end most from (at + len) to start new le (forward_asked most from at len start old new asked.0 few so_far asked.1)
    ]

-- one read more that was answered
pub forward_next : (most from at len : ℕ) (start old new : Life) (bytes : List ℕ) → len ≤ most → ReadsTo most from at start old → DeviceReadGoes at len old new (Ok bytes) → ReadsTo most from (at + len) start new
forward_next most from at len start old new bytes few so_far goes = forward_asked most from at len start old new false few so_far goes.2

-- a batch of pages more, with the numbers that a program has
pub forward_batch : (P size k b most from to : ℕ) (start old new : Life) (answer : Result (List ℕ) Error) → size ≡ P + 12 → b ≤ most → k * (P + 12) + b * (P + 12) ≤ to → ReadsTo (most * (P + 12)) from (k * (P + 12)) start old
    → DeviceReadGoes (k * size) (b * size) old new answer → ReadsForward (most * (P + 12)) from to start new
forward_batch P size k b most from to start old new answer is few le so_far goes =
    let more : (P + 12) * b ≤ (P + 12) * most = mul-le-mul_left (P + 12) few in
    forward_once (most * (P + 12)) from (k * (P + 12)) (b * (P + 12)) to start old new answer (omega (arith, more)) le so_far (subst (λ (n : ℕ). DeviceReadGoes (k * n) (b * n) old new answer) is goes)

pub next_batch : (P size k b most from : ℕ) (start old new : Life) (bytes : List ℕ) → size ≡ P + 12 → b ≤ most → ReadsTo (most * (P + 12)) from (k * (P + 12)) start old
    → DeviceReadGoes (k * size) (b * size) old new (Ok bytes) → ReadsTo (most * (P + 12)) from ((k + b) * (P + 12)) start new
next_batch P size k b most from start old new bytes is few so_far goes =
    let more : (P + 12) * b ≤ (P + 12) * most = mul-le-mul_left (P + 12) few in
    subst (λ (n : ℕ). ReadsTo (most * (P + 12)) from n start new) (let e : k * (P + 12) + b * (P + 12) ≡ (k + b) * (P + 12) = omega arith in e)
    (forward_next (most * (P + 12)) from (k * (P + 12)) (b * (P + 12)) start old new bytes (omega (arith, more)) so_far (subst (λ (n : ℕ). DeviceReadGoes (k * n) (b * n) old new (Ok bytes)) is goes))

-- ---- where reads begin

begin_both : (last : ℕ) (xs ys : List Request) → BeginBy last xs → BeginBy last ys → BeginBy last (xs ++ ys)
begin_both last [] ys first second = second
begin_both last (ReadAt offset len ∷ xs) ys first second = (first.0, begin_both last xs ys first.1 second)
begin_both last (ReadMany ranges ∷ xs) ys first second = absurd first
begin_both last (StartReadMany ranges ∷ xs) ys first second = absurd first
begin_both last (_ ∷ xs) ys first second = begin_both last xs ys first second

-- no read yet
pub stops_start : (P page : ℕ) (life : Life) → StopsAt P page life life
stops_start P page life = gained_none (BeginBy (page * (P + 12))) life life refl tt

-- one read more, whatever it answered, with the numbers that a program has
pub stops_read : (P size k len page : ℕ) (start old new : Life) (answer : Result (List ℕ) Error) → size ≡ P + 12 → k ≤ page → StopsAt P page start old → DeviceReadGoes (k * size) len old new answer → StopsAt P page start new
stops_read P size k len page start old new answer is le so_far goes =
    let last = page * (P + 12) in
    let less : (P + 12) * k ≤ (P + 12) * page = mul-le-mul_left (P + 12) le in
    let at : k * size ≤ last = omega (arith, less, ap (λ (n : ℕ). k * n) is) in
    gained_joins (BeginBy last) (BeginBy last) (BeginBy last) start old new (begin_both last) so_far
    (elim (read_asks (k * size) len old new answer goes) [
      | inl none ↦ gained_none (BeginBy last) old new none tt
      | inr asked ↦ gained_once (BeginBy last) (ReadAt (k * size) len) asked.0 old new (ap (λ (l : Life). l.present.log) asked.1) (at, tt)
    ])
