-- Numbers, written and read.
use Rattle.std.proofs.Common.{◌≡◌, ◌≢◌, inl, inr, ℕ, zero, suc, ◌<◌, ◌^◌, List, length, get_or, Result, Ok, Err, sym, ap, ◌∙◌, subst, arith}
use Rattle.std.specs.Prelude.{IfSome, IfNone, IsUtf8}
use Rattle.std.specs.Fmt.{decimal}
use Rattle.std.specs.Result.{result_ok}
use Rattle.std.specs.Str.Parse.{AllDigits, digits_value, ParsesUnsigned}
use Rattle.std.proofs.lemmas.Fmt.{first_decimal, IsAscii-decimal, parse-decimal, decimal-digits_value, decimal_digit, decimal_injective}
use Rattle.std.proofs.lemmas.Bool.{cases_lt}
use Rattle.std.proofs.lemmas.Str.{IsUtf8-from_ascii}
use Rattle.std.proofs.lemmas.Str.Parse.{IsNumeralModel, numerals_by_value, tells_digits, parse_plain}
use Rattle.scripts.specs.Script.{HasLead}

pub numerals : IsNumeralModel (AllDigits 10) (digits_value 10)
numerals = numerals_by_value (AllDigits 10) tells_digits

no_lead : (n : ℕ) → n < 2 ^ 64 → HasLead (decimal n) → ⊥
no_lead zero small lead =
    let one = decimal_digit 0 (omega arith) in
    let bad = subst HasLead one lead in
    elim bad [ inl plus ↦ absurd (omega arith) | inr longer ↦ absurd (omega arith) ]
no_lead (suc n) small lead =
    let first = first_decimal (suc n) (omega arith) small in
    elim lead [ inl plus ↦ absurd (omega arith) | inr longer ↦ absurd (omega arith) ]

-- a printed number has no lead
pub decimal-no_lead : (word : List ℕ) (n : ℕ) → n < 2 ^ 64 → word ≡ decimal n → HasLead word → ⊥
decimal-no_lead word n small e lead = no_lead n small (subst HasLead e lead)

-- a printed number is text
pub decimal-text : (word : List ℕ) (n : ℕ) → n < 2 ^ 64 → word ≡ decimal n → IsUtf8 word
decimal-text word n small e = subst IsUtf8 (sym e) (IsUtf8-from_ascii (decimal n) (IsAscii-decimal n small))

one_digit : (word : List ℕ) → 0 < length word → get_or word 0 0 ≡ 48 → (HasLead word → ⊥) → length word ≡ 1
one_digit word some zero_first plain =
    elim (cases_lt 1 (length word)) [
      | inl longer ↦ absurd (plain (inr (zero_first, longer)))
      | inr short ↦ omega arith
    ]

-- what is parsed with no lead is printed so
pub parsed-is_decimal : {E : Type 0} (word : List ℕ) (r : Result ℕ E) → ParsesUnsigned 64 10 word r → (HasLead word → ⊥) → IfSome (result_ok r) (λ n. word ≡ decimal n)
parsed-is_decimal {E = E} word (Ok n) parses plain =
    let read = parse_plain numerals {E = E} 64 word (Ok n) parses (λ plus. plain (inl plus)) in
    sym (decimal-digits_value numerals word read.0.0 read.0.1 (λ zero_first. one_digit word read.0.1 zero_first plain) read.0.2) ∙ ap decimal (sym read.1)
parsed-is_decimal word (Err e) parses plain = tt

-- what is not parsed is no printed number
pub unparsed-is_no_decimal : {E : Type 0} (word : List ℕ) (r : Result ℕ E) → ParsesUnsigned 64 10 word r → IfNone (result_ok r) ((n : ℕ) → n < 2 ^ 64 → word ≢ decimal n)
unparsed-is_no_decimal word (Ok n) parses = tt
unparsed-is_no_decimal word (Err e) parses = λ n small same. let read = parse-decimal 64 n word (Err e) small small same parses in cc

-- one word prints one number
pub same_number : (word : List ℕ) (m n : ℕ) → m < 2 ^ 64 → n < 2 ^ 64 → word ≡ decimal m → word ≡ decimal n → m ≡ n
same_number word m n small below first second = decimal_injective m n small below (sym first ∙ second)
