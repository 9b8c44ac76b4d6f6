-- An entry's bytes are that entry.
use Rattle.std.specs.Prelude.{◌≡◌, ◌<◌, ◌+◌, ◌^◌, ◌==◌, ◌&&◌, ◌++◌, ℕ, zero, suc, List, [], length, take, drop, Some, None, Option, IfSome, Bool, true, false, if◌then◌else◌, nat_lt, replicate}
use Rattle.std.specs.List.{list_all}
use Rattle.std.proofs.Common.{ap, ap₂, append-nil, sym, ◌∙◌, refl, arith, length-append, take_all, true≢false}
use Rattle.std.proofs.lemmas.Bool.{lt-ltb, ne_eqb}
use Rattle.std.proofs.lemmas.List.{take-append-le, drop-append-le, drop_all, drop_at, length-replicate}
use Rattle.std.proofs.lemmas.Nat.{from_be_bytes-to_be_bytes_2, from_be_bytes-to_be_bytes_8}
use Rattle.segments.specs.declared.closed.FileDigest.{FileDigest}
use Rattle.segments.specs.declared.closed.Fingerprint.{Fingerprint}
use Rattle.segments.specs.declared.closed.Fingerprint.TheVariants.{Whole, Paged}
use Rattle.segments.specs.declared.closed.PagedSeal.{PagedSeal}
use Rattle.segments.specs.declared.entry.Entry.{Entry}
use Rattle.segments.specs.declared.entry.Entry.TheVariants.{Starts, Closes}
use Rattle.segments.specs.Manifest.{closed_by, entry_bytes, entry_in, marked_in, paged_in, paged_with, whole_in}

pub starts_told : (first size : ℕ) → first < 2 ^ 64 → size < 2 ^ 16
    → entry_in (entry_bytes (Starts first size)) ≡ Some (Starts first size)
unfolding entry_in
starts_told first size fits small =
    ap₂ (λ f s. Some (Starts f s)) (from_be_bytes-to_be_bytes_8 first fits) (from_be_bytes-to_be_bytes_2 size small)

-- ---- an entry that closes a segment, by its parts

pub made : {r n : ℕ} {f g : Fingerprint} → r ≡ n → f ≡ g → Some (Closes (closed_by r f)) ≡ Some (Closes (closed_by n g))
made a b = ap₂ (λ r f. Some (Closes (closed_by r f))) a b

pub made_whole : {l m : ℕ} {d e : List ℕ} → l ≡ m → d ≡ e → Whole (record { len = l; digest = d }) ≡ Whole (record { len = m; digest = e })
made_whole a b = ap₂ (λ l d. Whole (record { len = l; digest = d })) a b

-- the same of its pages, whose marks have this root
pub closes_by : (number : ℕ) (marks : Option (List ℕ)) {r n l m : ℕ} {d e : List ℕ} → r ≡ n → l ≡ m → d ≡ e
    → Closes (closed_by r (Paged (record { number = number; seal = record { len = l; root = d }; marks = marks })))
    ≡ Closes (closed_by n (Paged (record { number = number; seal = record { len = m; root = e }; marks = marks })))
closes_by number marks {r} {n} {l} {m} {d} {e} a b c =
    ap (λ k. Closes (closed_by k (Paged (record { number = number; seal = record { len = l; root = d }; marks = marks })))) a
    ∙ ap₂ (λ k x. Closes (closed_by n (Paged (record { number = number; seal = record { len = k; root = x }; marks = marks })))) b c

-- ---- which kind some bytes are

is_second : (a b : Bool) (x y o : Option Entry) → a ≡ false → b ≡ true → (if a then x else if b then y else o) ≡ y
is_second true b x y o is_not is = absurd (true≢false is_not)
is_second false true x y o is_not is = refl
is_second false false x y o is_not is = absurd (true≢false (sym is))

is_third : (a b c : Bool) (x y z o : Option Entry) → a ≡ false → b ≡ false → c ≡ true → (if a then x else if b then y else if c then z else o) ≡ z
is_third true b c x y z o one two is = absurd (true≢false one)
is_third false b c x y z o one two is = is_second b c y z o two is

is_fourth : (a b c e : Bool) (x y z v o : Option Entry) → a ≡ false → b ≡ false → c ≡ false → e ≡ true → (if a then x else if b then y else if c then z else if e then v else o) ≡ v
is_fourth true b c e x y z v o one two three is = absurd (true≢false one)
is_fourth false b c e x y z v o one two three is = is_third b c e y z v o two three is

if_true : (b : Bool) (x : Option Entry) → b ≡ true → (if b then x else None) ≡ x
if_true true x is = refl
if_true false x is = absurd (true≢false (sym is))

-- ---- what stands behind an entry

zeros_pass : (n : ℕ) → list_all (λ b. b == 0) (replicate n 0) ≡ true
zeros_pass zero = refl
zeros_pass (suc n) = zeros_pass n

-- something else than zeros
pub others_behind : (rest behind : List ℕ) (b : Bool) (x : Option Entry) → rest ≡ behind → b ≡ list_all (λ byte. byte == 0) rest → b ≡ false
    → None ≡ (if list_all (λ byte. byte == 0) behind then x else None)
others_behind rest behind b x is told none =
    sym (ap (λ b. if b then x else None) (ap (λ l. list_all (λ byte. byte == 0) l) (sym is) ∙ sym told ∙ none))

-- zeros alone
pub zeros_behind : (rest behind : List ℕ) (b : Bool) (x : Option Entry) → rest ≡ behind → b ≡ list_all (λ byte. byte == 0) rest → b ≡ true
    → x ≡ (if list_all (λ byte. byte == 0) behind then x else None)
zeros_behind rest behind b x is told all =
    sym (ap (λ b. if b then x else None) (ap (λ l. list_all (λ byte. byte == 0) l) (sym is) ∙ sym told ∙ all))

-- digests of so many bytes, and zeros behind them
module _ (n : ℕ) (digest : List ℕ) (zeros : ℕ) (size : length digest ≡ n) where
  pub long : length (digest ++ replicate zeros 0) ≡ n + zeros
  long = length-append digest (replicate zeros 0) ∙ ap₂ (λ a b. a + b) size (length-replicate zeros 0)

  front : take n (digest ++ replicate zeros 0) ≡ digest
  front = take-append-le n digest (replicate zeros 0) (omega (arith, size)) ∙ take_all n digest (omega (arith, size))

  back : drop n (digest ++ replicate zeros 0) ≡ replicate zeros 0
  back = drop-append-le n digest (replicate zeros 0) (omega (arith, size)) ∙ ap (λ l. l ++ replicate zeros 0) (drop_all n digest (omega (arith, size)))

  zeros_only : list_all (λ b. b == 0) (drop n (digest ++ replicate zeros 0)) ≡ true
  zeros_only = ap (λ l. list_all (λ b. b == 0) l) back ∙ zeros_pass zeros

-- ---- by the whole file

pub whole_told : (records : ℕ) (kept : FileDigest) (zeros : ℕ) → records < 2 ^ 64 → kept.len < 2 ^ 64 → length kept.digest ≡ 32
    → entry_in (entry_bytes (Closes (closed_by records (Whole kept))) ++ replicate zeros 0) ≡ Some (Closes (closed_by records (Whole kept)))
unfolding entry_in
whole_told records kept zeros fits small size =
    let bytes = entry_bytes (Closes (closed_by records (Whole kept))) ++ replicate zeros 0 in
    let much = long 32 kept.digest zeros size in
    let kind : entry_in bytes ≡ whole_in bytes =
    is_second ((length bytes == 11) && false) (nat_lt 48 (length bytes) && true) _ (whole_in bytes) _
    (ap (λ b. b && false) (ne_eqb (length bytes) 11 (omega (arith, much)))) (ap (λ b. b && true) (lt-ltb 48 (length bytes) (omega (arith, much)))) in
    kind ∙ if_true _ _ (zeros_only 32 kept.digest zeros size)
    ∙ made (from_be_bytes-to_be_bytes_8 records fits) (made_whole (from_be_bytes-to_be_bytes_8 kept.len small) (front 32 kept.digest zeros size))

-- such bytes of a buffer
pub closed_whole : (bytes : List ℕ) (records : ℕ) (kept : FileDigest) (zeros : ℕ)
    → bytes ≡ entry_bytes (Closes (closed_by records (Whole kept))) ++ replicate zeros 0 → records < 2 ^ 64 → kept.len < 2 ^ 64 → length kept.digest ≡ 32
    → entry_in bytes ≡ Some (Closes (closed_by records (Whole kept)))
closed_whole bytes records kept zeros is fits small size = ap (λ b. entry_in b) is ∙ whole_told records kept zeros fits small size

-- ---- by the pages

-- a seal with these parts
abbrev seal_by : (number len : ℕ) → List ℕ → Option (List ℕ) → PagedSeal
seal_by number len root marks = record { number = number; seal = record { len = len; root = root }; marks = marks }

-- without marks
unmarked_told : (records number len : ℕ) (root : List ℕ) (zeros : ℕ) → records < 2 ^ 64 → len < 2 ^ 64 → length root ≡ 32
    → entry_in (entry_bytes (Closes (closed_by records (Paged (seal_by number len root None)))) ++ replicate zeros 0) ≡ Some (Closes (closed_by records (Paged (seal_by number len root None))))
unfolding entry_in
unmarked_told records number len root zeros fits small size =
    let bytes = entry_bytes (Closes (closed_by records (Paged (seal_by number len root None)))) ++ replicate zeros 0 in
    let wide : length (root ++ []) ≡ 32 = ap length (append-nil root) ∙ size in
    let much = long 32 (root ++ []) zeros wide in
    let kind : entry_in bytes ≡ paged_in bytes =
    is_third ((length bytes == 11) && false) (nat_lt 48 (length bytes) && false) (nat_lt 49 (length bytes) && true) _ (whole_in bytes) (paged_in bytes) _
    (ap (λ b. b && false) (ne_eqb (length bytes) 11 (omega (arith, much)))) (ap (λ b. b && false) (lt-ltb 48 (length bytes) (omega (arith, much))))
    (ap (λ b. b && true) (lt-ltb 49 (length bytes) (omega (arith, much)))) in
    kind ∙ if_true _ _ (zeros_only 32 (root ++ []) zeros wide)
    ∙ ap Some (closes_by number None (from_be_bytes-to_be_bytes_8 records fits) (from_be_bytes-to_be_bytes_8 len small) (front 32 (root ++ []) zeros wide ∙ append-nil root))

-- two digests, and zeros behind them
module _ (root marks : List ℕ) (zeros : ℕ) (size : length root ≡ 32) (width : length marks ≡ 32) where
  both : length (root ++ marks) ≡ 64
  both = length-append root marks ∙ ap₂ (λ a b. a + b) size width

  first_of : take 32 ((root ++ marks) ++ replicate zeros 0) ≡ root
  first_of =
      take-append-le 32 (root ++ marks) (replicate zeros 0) (omega (arith, both)) ∙ take-append-le 32 root marks (omega (arith, size)) ∙ take_all 32 root (omega (arith, size))

  second_of : take 32 (drop 32 ((root ++ marks) ++ replicate zeros 0)) ≡ marks
  second_of =
      ap (take 32) (drop-append-le 32 (root ++ marks) (replicate zeros 0) (omega (arith, both)) ∙ ap (λ l. l ++ replicate zeros 0) (drop_at root marks 32 size))
      ∙ take-append-le 32 marks (replicate zeros 0) (omega (arith, width)) ∙ take_all 32 marks (omega (arith, width))

-- with the root of its marks
marked_told : (records number len : ℕ) (root marks : List ℕ) (zeros : ℕ) → records < 2 ^ 64 → len < 2 ^ 64 → length root ≡ 32 → length marks ≡ 32
    → entry_in (entry_bytes (Closes (closed_by records (Paged (seal_by number len root (Some marks))))) ++ replicate zeros 0) ≡ Some (Closes (closed_by records (Paged (seal_by number len root (Some marks)))))
unfolding entry_in
marked_told records number len root marks zeros fits small size width =
    let bytes = entry_bytes (Closes (closed_by records (Paged (seal_by number len root (Some marks))))) ++ replicate zeros 0 in
    let wide = both root marks zeros size width in
    let much = long 64 (root ++ marks) zeros wide in
    let kind : entry_in bytes ≡ marked_in bytes =
    is_fourth ((length bytes == 11) && false) (nat_lt 48 (length bytes) && false) (nat_lt 49 (length bytes) && false) (nat_lt 81 (length bytes) && true) _ (whole_in bytes) (paged_in bytes) (marked_in bytes) _
    (ap (λ b. b && false) (ne_eqb (length bytes) 11 (omega (arith, much)))) (ap (λ b. b && false) (lt-ltb 48 (length bytes) (omega (arith, much))))
    (ap (λ b. b && false) (lt-ltb 49 (length bytes) (omega (arith, much)))) (ap (λ b. b && true) (lt-ltb 81 (length bytes) (omega (arith, much)))) in
    kind ∙ if_true _ _ (zeros_only 64 (root ++ marks) zeros wide)
    ∙ ap Some (ap (λ m. paged_with bytes (Some m)) (second_of root marks zeros size width)
    ∙ closes_by number (Some marks) (from_be_bytes-to_be_bytes_8 records fits) (from_be_bytes-to_be_bytes_8 len small) (first_of root marks zeros size width))

-- by the root of its marks, if it has one
by_marks : (records number len : ℕ) (root : List ℕ) (marks : Option (List ℕ)) (zeros : ℕ) → records < 2 ^ 64 → len < 2 ^ 64 → length root ≡ 32 → IfSome marks (λ m. length m ≡ 32)
    → entry_in (entry_bytes (Closes (closed_by records (Paged (seal_by number len root marks)))) ++ replicate zeros 0) ≡ Some (Closes (closed_by records (Paged (seal_by number len root marks))))
by_marks records number len root None zeros fits small size width = unmarked_told records number len root zeros fits small size
by_marks records number len root (Some marks) zeros fits small size width = marked_told records number len root marks zeros fits small size width

pub closed_paged : (bytes : List ℕ) (records : ℕ) (kept : PagedSeal) (zeros : ℕ)
    → bytes ≡ entry_bytes (Closes (closed_by records (Paged kept))) ++ replicate zeros 0 → records < 2 ^ 64 → kept.seal.len < 2 ^ 64 → length kept.seal.root ≡ 32
    → IfSome kept.marks (λ m. length m ≡ 32) → entry_in bytes ≡ Some (Closes (closed_by records (Paged kept)))
closed_paged bytes records kept zeros is fits small size width =
    ap (λ b. entry_in b) is ∙ by_marks records kept.number kept.seal.len kept.seal.root kept.marks zeros fits small size width
