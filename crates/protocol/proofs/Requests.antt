-- What follows from the bytes of a request.
use Rattle.std.proofs.Common.{inl, inr, ◌≡◌, ◌≢◌, ℕ, ◌+◌, ◌*◌, ◌<◌, ◌≤◌, ◌^◌, List, [], ◌∷◌, ◌++◌, length, refl, sym, ap, ◌∙◌, subst, append_assoc, arith, true}
use Rattle.std.proofs.lemmas.List.{length-append}
use Rattle.std.specs.Prelude.{Option, Some, None, Result, Ok, Err, IsErrAnd, Bool, false, ◌==◌, if◌then◌else◌, ◌||◌, ok_or}
use Rattle.std.proofs.lemmas.Bool.{false≢true, eqb-true}
use Rattle.std.specs.Int.NonZero.{non_zero_usize_get}
use Rattle.session.specs.declared.steps.Step.TheVariants as step
use Rattle.protocol.specs.declared.request.Request.{Request}
use Rattle.protocol.specs.declared.request.Request.TheVariants.{Step, Records, Ranges, SyncSize, Look, Flush, CountOpen, Close}
use Rattle.protocol.specs.declared.request.Then.TheVariants as follow
use Rattle.protocol.specs.declared.version.Version.{Version}
use Rattle.protocol.specs.declared.stop.Flaw.{Flaw}
use Rattle.protocol.specs.declared.stop.Flaw.TheVariants.{LongRead, NoBuffer}
use Rattle.protocol.specs.Request.{number_bytes, length_bytes, kind_of, fields_of, request_bytes, CanBeAsked, IsNoKind, FitsAnswer, FieldsHave, asks_bytes, has_kind, takes_bytes, field_count, IsNoRequest, Builds}
use Rattle.protocol.proofs.Bytes.{length-number_bytes, length-length_bytes, same_number, same_length}

-- ---- lists

-- two lists that begin with equally long ones
pub same_fronts : (xs bs cs ds : List ℕ) → length xs ≡ length bs → xs ++ cs ≡ bs ++ ds → (xs ≡ bs) × (cs ≡ ds)
same_fronts [] [] cs ds long same = (refl, same)
same_fronts [] (b ∷ bs) cs ds long same = absurd (omega (arith, long))
same_fronts (a ∷ xs) [] cs ds long same = absurd (omega (arith, long))
same_fronts (a ∷ xs) (b ∷ bs) cs ds long same =
    let heads : a ≡ b = cc in
    let tails : xs ++ cs ≡ bs ++ ds = cc in
    let rest = same_fronts xs bs cs ds (omega (arith, long)) tails in
    ((let e = rest.0 in cc), rest.1)

-- ---- the lengths of fields

pub two_numbers : (m n : ℕ) → length (number_bytes m ++ number_bytes n) ≡ 16
two_numbers m n = omega (arith, length-append (number_bytes m) (number_bytes n), length-number_bytes m, length-number_bytes n)

three_numbers : (l m n : ℕ) → length (number_bytes l ++ number_bytes m ++ number_bytes n) ≡ 24
three_numbers l m n = omega (arith, length-append (number_bytes l ++ number_bytes m) (number_bytes n), two_numbers l m, length-number_bytes n)

-- a request has bytes, or as many numbers as its kind
pub data Shaped (kind : ℕ) (fields : List ℕ) : Type 0 where
  bytes_of : takes_bytes kind ≡ true → Shaped kind fields
  counts : (count : ℕ) → field_count kind ≡ Some count → length fields ≡ 8 * count → count ≤ 3 → Shaped kind fields

pub shaped : (request : Request) → CanBeAsked request → Shaped (kind_of request) (fields_of request)
shaped (Step (step.Append bytes)) is = bytes_of refl
shaped (Step step.Sync) is = counts 0 refl refl (omega arith)
shaped (Step step.StartSync) is = counts 0 refl refl (omega arith)
shaped (Step (step.WaitSync name)) is = counts 1 refl (length-number_bytes name) (omega arith)
shaped (Step step.Size) is = counts 0 refl refl (omega arith)
shaped (Step (step.Read offset len)) is = counts 2 refl (two_numbers offset len) (omega arith)
shaped (Step (step.ReadUpTo offset len)) is = counts 2 refl (two_numbers offset len) (omega arith)
shaped (Step step.Begin) is = counts 0 refl refl (omega arith)
shaped (Step (step.Truncate size)) is = counts 1 refl (length-number_bytes size) (omega arith)
shaped (Step step.Snapshot) is = counts 0 refl refl (omega arith)
shaped (Step (step.Snap index offset len)) is = counts 3 refl (three_numbers index offset len) (omega arith)
shaped (Step (step.Replay size)) is = counts 1 refl (length-number_bytes (non_zero_usize_get size)) (omega arith)
shaped (Step (step.Ensure index count)) is = counts 2 refl (two_numbers index count) (omega arith)
shaped (Step (step.Take index count)) is = counts 2 refl (two_numbers index count) (omega arith)
shaped (Step (step.Seek index offset)) is = counts 2 refl (two_numbers index offset) (omega arith)
shaped Close is = counts 0 refl refl (omega arith)
shaped (Step (step.Owned bytes)) is = absurd is
shaped (Step (step.TryAppend bytes)) is = absurd is
shaped (Step step.Wait) is = absurd is
shaped (Step step.Needs) is = absurd is
shaped (Step (step.TryRead offset len)) is = absurd is
shaped (Step (step.ReadRanges ranges)) is = absurd is
shaped (Step (step.TryReadRanges ranges)) is = absurd is
shaped (Step (step.Scan proven most size)) is = absurd is
shaped (Step step.TrySnapshot) is = absurd is
shaped (Step step.Seal) is = absurd is
shaped (Step (step.DropSnapshot index)) is = counts 1 refl (length-number_bytes index) (omega arith)
shaped (Step (step.DropReplay index)) is = counts 1 refl (length-number_bytes index) (omega arith)
shaped (Records bytes follow.Nothing) is = bytes_of refl
shaped (Records bytes follow.Sync) is = bytes_of refl
shaped (Records bytes follow.Start) is = bytes_of refl
shaped (Ranges bytes) is = bytes_of refl
shaped SyncSize is = counts 0 refl refl (omega arith)
shaped Look is = counts 0 refl refl (omega arith)
shaped Flush is = counts 0 refl refl (omega arith)
shaped CountOpen is = counts 0 refl refl (omega arith)

-- bytes fit an answer, too
bytes_fit : (request : Request) → CanBeAsked request → takes_bytes (kind_of request) ≡ true → FitsAnswer (length (fields_of request))
bytes_fit (Step (step.Append bytes)) is takes = is.1
bytes_fit (Records bytes next) is takes = is.1
bytes_fit (Ranges bytes) is takes = is.1
bytes_fit request is takes = absurd (false≢true takes)

-- a frame holds what a request is written by
pub fields_fit : (request : Request) → CanBeAsked request → FitsAnswer (length (fields_of request))
fields_fit request is = elim (shaped request is) [
  | bytes_of takes ↦ bytes_fit request is takes
  | counts count known long few ↦ omega (arith, long, few)
]

-- ---- a frame and what is after it

-- what stands after the length of a request
pub record HasBody (n : ℕ) (bytes : List ℕ) (request : Request) (rest : List ℕ) : Type 0 where
  pub long : n ≡ length (fields_of request) + 1
  pub body : bytes ≡ kind_of request ∷ (fields_of request ++ rest)

pub body_of : (n : ℕ) (bytes : List ℕ) (request : Request) (rest : List ℕ) → n < 2 ^ 32 → CanBeAsked request → length_bytes n ++ bytes ≡ request_bytes request ++ rest → HasBody n bytes request rest
body_of n bytes request rest small is same =
    let inner = kind_of request ∷ fields_of request in
    let more : length_bytes n ++ bytes ≡ length_bytes (length inner) ++ (inner ++ rest) = same ∙ append_assoc (length_bytes (length inner)) inner rest in
    let parts = same_fronts (length_bytes n) (length_bytes (length inner)) bytes (inner ++ rest) (length-length_bytes n ∙ sym (length-length_bytes (length inner))) more in
    let fits : length inner < 2 ^ 32 = omega (arith, fields_fit request is) in
    record {
      long = omega (arith, same_length n (length inner) small fits parts.0);
      body = parts.1;
    }

-- an empty frame is no request
pub no_empty : (version : Version) (bytes : List ℕ) → IsNoRequest version (length_bytes 0 ++ bytes)
no_empty version bytes request rest is same =
    let has = body_of 0 bytes request rest (omega arith) is.0 same in
    absurd (omega (arith, has.long))

-- a frame without a kind is no request
pub no_kind : (version : Version) (n : ℕ) → n < 2 ^ 32 → IsNoRequest version (length_bytes n ++ [])
no_kind version n small request rest is same =
    let has = body_of n [] request rest small is.0 same in
    absurd (cc has.body)

-- a frame that is cut before its fields end is no request
pub no_cut : (version : Version) (n kind : ℕ) (fields : List ℕ) → n < 2 ^ 32 → length fields + 1 < n → IsNoRequest version (length_bytes n ++ kind ∷ fields)
no_cut version n kind fields small short request rest is same =
    let has = body_of n (kind ∷ fields) request rest small is.0 same in
    let all : fields ≡ fields_of request ++ rest = (let e = has.body in cc) in
    absurd (omega (arith, has.long, short, ap length all, length-append (fields_of request) rest))

-- a frame that is cut before its length ends is no request
pub no_length : (version : Version) (bytes : List ℕ) → length bytes < 4 → IsNoRequest version bytes
no_length version bytes short request rest is same =
    let inner = kind_of request ∷ fields_of request in
    absurd (omega (arith, short, ap length same, length-append (request_bytes request) rest, length-append (length_bytes (length inner)) inner, length-length_bytes (length inner)))

-- a frame of no kind is no request
pub no_such_kind : (version : Version) (n kind : ℕ) (bytes : List ℕ) → n < 2 ^ 32 → IsNoKind version kind → IsNoRequest version (length_bytes n ++ kind ∷ bytes)
no_such_kind version n kind bytes small (inl above) request rest is same =
    let has = body_of n (kind ∷ bytes) request rest small is.0 same in
    let e : kind ≡ kind_of request = (let b = has.body in cc) in
    absurd (omega (arith, above, e, is.1))
no_such_kind version n kind bytes small (inr (other, none)) request rest is same =
    let has = body_of n (kind ∷ bytes) request rest small is.0 same in
    let e : kind ≡ kind_of request = (let b = has.body in cc) in
    elim (shaped request is.0) [
      | bytes_of takes ↦ absurd (false≢true (sym other ∙ ap takes_bytes e ∙ takes))
      | counts count known long few ↦ absurd (cc (sym none ∙ ap field_count e ∙ known))
    ]

-- a frame of a wrong length is no request
pub no_such_length : (version : Version) (n kind count : ℕ) (bytes : List ℕ) → n < 2 ^ 32 → takes_bytes kind ≡ false → field_count kind ≡ Some count → n ≢ 8 * count + 1 → IsNoRequest version (length_bytes n ++ kind ∷ bytes)
no_such_length version n kind count bytes small other known wrong request rest is same =
    let has = body_of n (kind ∷ bytes) request rest small is.0 same in
    let e : kind ≡ kind_of request = (let b = has.body in cc) in
    elim (shaped request is.0) [
      | bytes_of takes ↦ absurd (false≢true (sym other ∙ ap takes_bytes e ∙ takes))
      | counts more also long few ↦
          let counted : count ≡ more = (let f = sym known ∙ ap field_count e ∙ also in cc) in
          absurd (wrong (omega (arith, has.long, long, counted)))
    ]

-- a frame with fields that no request of its kind has is no request
pub no_such_fields : (version : Version) (kind : ℕ) (fields bytes : List ℕ) → length fields + 1 < 2 ^ 32 → ((request : Request) → CanBeAsked request → kind ≡ kind_of request → fields ≢ fields_of request)
    → IsNoRequest version (length_bytes (length fields + 1) ++ kind ∷ (fields ++ bytes))
no_such_fields version kind fields bytes small none request rest is same =
    let has = body_of (length fields + 1) (kind ∷ (fields ++ bytes)) request rest small is.0 same in
    let e : kind ≡ kind_of request = (let b = has.body in cc) in
    let all : fields ++ bytes ≡ fields_of request ++ rest = (let b = has.body in cc) in
    none request is.0 e (same_fronts fields (fields_of request) bytes rest (omega (arith, has.long)) all).0

-- ---- kinds by their count of numbers

-- the count of a kind, by which of the groups it is in
abbrev count_in : Bool → Bool → Bool → Bool → Option ℕ
count_in none one two three = if none then Some 0 else if one then Some 1 else if two then Some 2 else if three then Some 3 else None

few_in : (none one two three : Bool) (count : ℕ) → count_in none one two three ≡ Some count → count ≤ 3
few_in true one two three count is = let e : 0 ≡ count = cc is in omega arith
few_in false true two three count is = let e : 1 ≡ count = cc is in omega arith
few_in false false true three count is = let e : 2 ≡ count = cc is in omega arith
few_in false false false true count is = let e : 3 ≡ count = cc is in omega arith
few_in false false false false count is = absurd (cc is)

-- a kind has at most three numbers
pub few_numbers : (kind count : ℕ) → field_count kind ≡ Some count → count ≤ 3
few_numbers kind count is =
    few_in (has_kind (2 ∷ 3 ∷ 5 ∷ 8 ∷ 10 ∷ 16 ∷ 21 ∷ 22 ∷ 25 ∷ 26 ∷ []) kind) (has_kind (4 ∷ 9 ∷ 12 ∷ 23 ∷ 24 ∷ []) kind) (has_kind (6 ∷ 7 ∷ 13 ∷ 14 ∷ 15 ∷ []) kind) (kind == 11) count is

three_in : (none one two three : Bool) (count : ℕ) → count_in none one two three ≡ Some count → count ≡ 3 → three ≡ true
three_in true one two three count is three_of = let e : 0 ≡ count = cc is in absurd (omega arith)
three_in false true two three count is three_of = let e : 1 ≡ count = cc is in absurd (omega arith)
three_in false false true three count is three_of = let e : 2 ≡ count = cc is in absurd (omega arith)
three_in false false false true count is three_of = refl
three_in false false false false count is three_of = absurd (cc is)

-- one kind has three numbers
pub snap_kind : (kind : ℕ) → field_count kind ≡ Some 3 → kind ≡ 11
snap_kind kind is =
    eqb-true kind 11 (three_in (has_kind (2 ∷ 3 ∷ 5 ∷ 8 ∷ 10 ∷ 16 ∷ 21 ∷ 22 ∷ 25 ∷ 26 ∷ []) kind) (has_kind (4 ∷ 9 ∷ 12 ∷ 23 ∷ 24 ∷ []) kind) (has_kind (6 ∷ 7 ∷ 13 ∷ 14 ∷ 15 ∷ []) kind) (kind == 11) 3 is refl)

-- ---- fields that no request has

-- an error of a `?` is that of its call
pub built_err : (kind : ℕ) (fields : List ℕ) (flaw : Flaw) (result : Result Request Flaw) → IsErrAnd result (λ e. e ≡ flaw) → Builds kind fields (Err flaw) → Builds kind fields result
built_err kind fields flaw (Ok request) is none = absurd is
built_err kind fields flaw (Err other) is none = subst (λ (f : Flaw). Builds kind fields (Err f)) (sym is) none

-- an error of an `ok_or` is the one that it was given
pub of_none : {X : Type 0} (some : Option X) (flaw : Flaw) → Err flaw ≡ ok_or some NoBuffer → flaw ≡ NoBuffer
of_none None flaw is = cc is
of_none (Some x) flaw is = absurd (cc is)

-- a length that an answer does not hold is not the last of these numbers
not_fitting : (first second other len : ℕ) → second < 2 ^ 64 → (FitsAnswer second → ⊥) → FitsAnswer len → number_bytes first ++ number_bytes second ≢ number_bytes other ++ number_bytes len
not_fitting first second other len small long fits same =
    let parts = same_fronts (number_bytes first) (number_bytes other) (number_bytes second) (number_bytes len) (length-number_bytes first ∙ sym (length-number_bytes other)) same in
    let is : second ≡ len = same_number second len small (omega (arith, fits)) parts.1 in
    long (subst (λ (n : ℕ). FitsAnswer n) (sym is) fits)

-- the kinds of two numbers whose second is a length
abbrev pub ends_with_len : ℕ → Bool
ends_with_len kind = has_kind (6 ∷ 7 ∷ 14 ∷ []) kind

-- a long read of two numbers, or three, is what is wrong
pub asks_too_much : (kind : ℕ) (front : List ℕ) (len : ℕ) → asks_bytes kind ≡ true → len < 2 ^ 64 → (FitsAnswer len → ⊥) → FieldsHave LongRead kind (front ++ number_bytes len)
asks_too_much kind front len asks small long = (asks, front, len, refl, small, long)

-- no request of two numbers reads more than an answer holds
long_read : (first second : ℕ) → second < 2 ^ 64 → (FitsAnswer second → ⊥) → (request : Request) → CanBeAsked request → ends_with_len (kind_of request) ≡ true → number_bytes first ++ number_bytes second ≢ fields_of request
long_read first second small long (Step (step.Read offset len)) is asks same = not_fitting first second offset len small long is.1 same
long_read first second small long (Step (step.ReadUpTo offset len)) is asks same = not_fitting first second offset len small long is.1 same
long_read first second small long (Step (step.Take index len)) is asks same = not_fitting first second index len small long is.1 same
long_read first second small long (Records bytes follow.Nothing) is asks same = absurd (false≢true asks)
long_read first second small long (Records bytes follow.Sync) is asks same = absurd (false≢true asks)
long_read first second small long (Records bytes follow.Start) is asks same = absurd (false≢true asks)
long_read first second small long request is asks same = absurd (false≢true asks)

pub no_long_read : (kind first second : ℕ) (flaw : Flaw) → second < 2 ^ 64 → (FitsAnswer second → ⊥) → ends_with_len kind ≡ true → asks_bytes kind ≡ true → flaw ≡ LongRead → Builds kind (number_bytes first ++ number_bytes second) (Err flaw)
no_long_read kind first second flaw small long ends asks is = (
  λ request asked e same. long_read first second small long request asked (sym (ap (λ (k : ℕ). ends_with_len k) e) ∙ ends) same,
  subst (λ (f : Flaw). FieldsHave f kind (number_bytes first ++ number_bytes second)) (sym is) (asks_too_much kind (number_bytes first) second asks small long),
)

-- no request of three numbers reads more than an answer holds
no_three : (index offset len : ℕ) → len < 2 ^ 64 → (FitsAnswer len → ⊥) → (request : Request) → CanBeAsked request → 11 ≡ kind_of request → number_bytes index ++ number_bytes offset ++ number_bytes len ≢ fields_of request
no_three index offset len small long (Step (step.Snap i o n)) is e same =
    let fronts = two_numbers index offset ∙ sym (two_numbers i o) in
    let parts = same_fronts (number_bytes index ++ number_bytes offset) (number_bytes i ++ number_bytes o) (number_bytes len) (number_bytes n) fronts same in
    let same_len : len ≡ n = same_number len n small (omega (arith, is.2)) parts.1 in
    long (subst (λ (m : ℕ). FitsAnswer m) (sym same_len) is.2)
no_three index offset len small long (Records bytes follow.Nothing) is e same = absurd (omega (arith, e))
no_three index offset len small long (Records bytes follow.Sync) is e same = absurd (omega (arith, e))
no_three index offset len small long (Records bytes follow.Start) is e same = absurd (omega (arith, e))
no_three index offset len small long request is e same = absurd (omega (arith, e))

pub no_long_snap : (index offset len : ℕ) (flaw : Flaw) → len < 2 ^ 64 → (FitsAnswer len → ⊥) → flaw ≡ LongRead → Builds 11 (number_bytes index ++ number_bytes offset ++ number_bytes len) (Err flaw)
no_long_snap index offset len flaw small long is = (
  no_three index offset len small long,
  subst (λ (f : Flaw). FieldsHave f 11 (number_bytes index ++ number_bytes offset ++ number_bytes len)) (sym is)
      (asks_too_much 11 (number_bytes index ++ number_bytes offset) len refl small long),
)

-- a replay has a buffer
no_buffer : (kind number : ℕ) → kind ≡ 12 → number ≡ 0 → (request : Request) → CanBeAsked request → kind ≡ kind_of request → number_bytes number ≢ fields_of request
no_buffer kind number twelve none (Step (step.Replay size)) is e same =
    let same_size : number ≡ non_zero_usize_get size = same_number number (non_zero_usize_get size) (omega (arith, none)) is.1 same in
    absurd (omega (arith, none, same_size, is.0))
no_buffer kind number twelve none (Records bytes follow.Nothing) is e same = absurd (omega (arith, twelve, e))
no_buffer kind number twelve none (Records bytes follow.Sync) is e same = absurd (omega (arith, twelve, e))
no_buffer kind number twelve none (Records bytes follow.Start) is e same = absurd (omega (arith, twelve, e))
no_buffer kind number twelve none request is e same = absurd (omega (arith, twelve, e))

-- one kind of those with one number is none of the others
one_in : (none one two three : Bool) (count : ℕ) → count_in none one two three ≡ Some count → count ≡ 1 → one ≡ true
one_in true one two three count is one_of = let e : 0 ≡ count = cc is in absurd (omega arith)
one_in false true two three count is one_of = refl
one_in false false true three count is one_of = let e : 2 ≡ count = cc is in absurd (omega arith)
one_in false false false true count is one_of = let e : 3 ≡ count = cc is in absurd (omega arith)
one_in false false false false count is one_of = absurd (cc is)

third_in : (wait truncate third snapshot replay : Bool) → (wait ≡ true → ⊥) → (truncate ≡ true → ⊥) → (snapshot ≡ true → ⊥) → (replay ≡ true → ⊥) → (wait || (truncate || (third || (snapshot || (replay || false))))) ≡ true → third ≡ true
third_in true truncate third snapshot replay no_wait no_truncate no_snapshot no_replay is = absurd (no_wait refl)
third_in false true third snapshot replay no_wait no_truncate no_snapshot no_replay is = absurd (no_truncate refl)
third_in false false true snapshot replay no_wait no_truncate no_snapshot no_replay is = refl
third_in false false false true replay no_wait no_truncate no_snapshot no_replay is = absurd (no_snapshot refl)
third_in false false false false true no_wait no_truncate no_snapshot no_replay is = absurd (no_replay refl)
third_in false false false false false no_wait no_truncate no_snapshot no_replay is = is

pub no_empty_buffer : (kind number : ℕ) (flaw : Flaw) → kind ≢ 4 → kind ≢ 9 → kind ≢ 23 → kind ≢ 24 → field_count kind ≡ Some 1 → number ≡ 0 → flaw ≡ NoBuffer → Builds kind (number_bytes number) (Err flaw)
no_empty_buffer kind number flaw no_wait no_truncate no_snapshot no_replay one none is =
    let same : kind ≡ 12 = eqb-true kind 12 (third_in (kind == 4) (kind == 9) (kind == 12) (kind == 23) (kind == 24)
    (λ e. no_wait (eqb-true kind 4 e)) (λ e. no_truncate (eqb-true kind 9 e)) (λ e. no_snapshot (eqb-true kind 23 e)) (λ e. no_replay (eqb-true kind 24 e))
    (one_in (has_kind (2 ∷ 3 ∷ 5 ∷ 8 ∷ 10 ∷ 16 ∷ 21 ∷ 22 ∷ 25 ∷ 26 ∷ []) kind) (has_kind (4 ∷ 9 ∷ 12 ∷ 23 ∷ 24 ∷ []) kind) (has_kind (6 ∷ 7 ∷ 13 ∷ 14 ∷ 15 ∷ []) kind) (kind == 11) 1 one refl)) in (
      no_buffer kind number same none,
      subst (λ (f : Flaw). FieldsHave f kind (number_bytes number)) (sym is) (same, ap number_bytes none),
    )
