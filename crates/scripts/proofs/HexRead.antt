-- Hexadecimal text, read.
use Rattle.std.proofs.Common.{Vec, Global, ◌≡◌, ◌≢◌, ◌⊎◌, inl, inr, ℕ, zero, suc, ◌+◌, ◌*◌, ◌/◌, ◌%◌, ◌<◌, ◌==◌, ◌&&◌, Bool, true, false, List, [], ◌∷◌, ◌++◌, length, slice_index, Option, Some, None, Result, Ok, Err, codes, refl, sym, ap, ◌∙◌, arith}
use Rattle.std.proofs.lemmas.Bool.{and_parts, or_parts, cases_lt, eqb-true}
use Rattle.std.specs.List.{flat_map, list_any}
use Rattle.std.specs.Char.{is_ascii_uppercase}
use Rattle.std.specs.Result.{result_unwrap_or}
use Rattle.std.specs.Fmt.{digit_glyph}
use Rattle.hex.specs.Hex.{decode_of, decode_pairs, digit_or_error, hex_digit_value, encode_lower, encode_with, lower_digits, pair_value, value_at, ◌>>=◌}
use Rattle.hex.specs.declared.error.FromHexError.{FromHexError}
use Rattle.hex.specs.declared.error.FromHexError.TheVariants as hex
use Rattle.hex.proofs.HexLemmas.{decode_of-encode_lower, decode_of-ok, decode_of-even}
use Rattle.std.specs.Prelude.{IsErrAnd}
use Rattle.scripts.specs.declared.word.ReadError.{ReadError}
use Rattle.scripts.specs.Text.{hex_digits, hex_of}
use Rattle.scripts.specs.Script.{AreByteValues, IsReadAs, hex_refused}

-- ---- digits

abbrev table_agrees : ℕ → Bool
table_agrees zero = true
table_agrees (suc n) = (slice_index lower_digits n == digit_glyph false n) && table_agrees n

table_agrees-at : (n d : ℕ) → table_agrees n ≡ true → d < n → slice_index lower_digits d ≡ digit_glyph false d
table_agrees-at zero d h below = absurd (omega arith)
table_agrees-at (suc n) d h below =
    let parts = and_parts (slice_index lower_digits n == digit_glyph false n) (table_agrees n) h in
    elim (cases_lt d n) [
      | inl lower ↦ table_agrees-at n d parts.1 lower
      | inr top ↦
          let e : d ≡ n = omega arith in
          rw e (eqb-true (slice_index lower_digits n) (digit_glyph false n) parts.0)
    ]

-- the digit in the table is the one that is written
table_digit : (d : ℕ) → d < 16 → slice_index lower_digits d ≡ digit_glyph false d
table_digit d small = table_agrees-at 16 d refl small

-- no digit is in upper case
glyph-no_upper : (d : ℕ) → d < 16 → is_ascii_uppercase (digit_glyph false d) ≡ false
glyph-no_upper d small = grind (arith)

-- a digit in lower case is the one that its value is written by
glyph-value : (c v : ℕ) → hex_digit_value c ≡ Some v → is_ascii_uppercase c ≡ false → digit_glyph false v ≡ c
glyph-value c v reads lower = grind (arith)

value-small : (c v : ℕ) → hex_digit_value c ≡ Some v → v < 16
value-small c v reads = grind (arith)

-- ---- bytes

bytes-head : (b : ℕ) (rest : List ℕ) → AreByteValues (b ∷ rest) → b < 256
bytes-head b rest bytes = bytes 0

bytes-tail : (b : ℕ) (rest : List ℕ) → AreByteValues (b ∷ rest) → AreByteValues rest
bytes-tail b rest bytes = λ i. bytes (suc i)

-- the digits that are written are those of the crate `hex`
hex_digits-encode : (bytes : List ℕ) → AreByteValues bytes → flat_map hex_digits bytes ≡ encode_lower bytes
unfolding encode_with
hex_digits-encode [] all = refl
hex_digits-encode (b ∷ rest) all =
    let small = bytes-head b rest all in
    let high : slice_index lower_digits (b / 16) ≡ digit_glyph false (b / 16) = table_digit (b / 16) (omega arith) in
    let low : slice_index lower_digits (b % 16) ≡ digit_glyph false (b % 16) = table_digit (b % 16) (omega arith) in
    rw (high, low, hex_digits-encode rest (bytes-tail b rest all)) refl

-- what is written has no digit in upper case
hex_digits-no_upper : (bytes : List ℕ) → AreByteValues bytes → list_any is_ascii_uppercase (flat_map hex_digits bytes) ≡ false
hex_digits-no_upper [] all = refl
hex_digits-no_upper (b ∷ rest) all =
    let small = bytes-head b rest all in
    let high = glyph-no_upper (b / 16) (omega arith) in
    let low = glyph-no_upper (b % 16) (omega arith) in
    rw (high, low) (hex_digits-no_upper rest (bytes-tail b rest all))

-- ---- reading

bind_ok : {A B : Type 0} (r : Result A FromHexError) (f : A → Result B FromHexError) (y : B)
    → (r >>= f) ≡ Ok y → (x : A) × (r ≡ Ok x) × (f x ≡ Ok y)
bind_ok (Ok x) f y h = (x, refl, h)
bind_ok (Err e) f y h = cc h

digit_read : (c i : ℕ) (o : Option ℕ) (v : ℕ) → digit_or_error c i o ≡ Ok v → o ≡ Some v
digit_read c i (Some w) v h = ap Some (ap (λ (r : Result ℕ FromHexError). result_unwrap_or r 0) h)
digit_read c i None v h = cc h

pair-digits : (a b v w byte : ℕ) → digit_glyph false v ≡ a → digit_glyph false w ≡ b → v < 16 → w < 16 → v * 16 + w ≡ byte → hex_digits byte ≡ a ∷ b ∷ []
pair-digits a b v w byte first second high low whole =
    let over : byte / 16 ≡ v = omega arith in
    let under : byte % 16 ≡ w = omega arith in
    rw (over, under, first, second) refl

no_upper-parts : (a b : ℕ) (rest : List ℕ) → list_any is_ascii_uppercase (a ∷ b ∷ rest) ≡ false → (is_ascii_uppercase a ≡ false) × (is_ascii_uppercase b ≡ false) × (list_any is_ascii_uppercase rest ≡ false)
no_upper-parts a b rest none =
    let first = or_parts (is_ascii_uppercase a) _ none in
    let second = or_parts (is_ascii_uppercase b) _ first.1 in
    (first.0, second.0, second.1)

-- digits with none in upper case are those of the bytes that they decode to
decoded-hex_digits : (i : ℕ) (s bytes : List ℕ) → decode_pairs i s ≡ Ok bytes → list_any is_ascii_uppercase s ≡ false → flat_map hex_digits bytes ≡ s
unfolding decode_pairs
decoded-hex_digits i [] bytes h none =
    let e : [] ≡ bytes = ap (λ (r : Result (List ℕ) FromHexError). result_unwrap_or r []) h in
    rw (← e) refl
decoded-hex_digits i (a ∷ []) bytes h none = cc h
decoded-hex_digits i (a ∷ b ∷ rest) bytes h none =
    let p0 = bind_ok (pair_value a b i) _ bytes h in
    let p1 = bind_ok (value_at a i) _ p0.0 p0.1 in
    let p2 = bind_ok (value_at b (i + 1)) _ p0.0 p1.2 in
    let p3 = bind_ok (decode_pairs (i + 2) rest) _ bytes p0.2 in
    let e : p0.0 ∷ p3.0 ≡ bytes = ap (λ (r : Result (List ℕ) FromHexError). result_unwrap_or r []) p3.2 in
    let lower = no_upper-parts a b rest none in
    let va = digit_read a i (hex_digit_value a) p1.0 p1.1 in
    let vb = digit_read b (i + 1) (hex_digit_value b) p2.0 p2.1 in
    let byte : p1.0 * 16 + p2.0 ≡ p0.0 = ap (λ (r : Result ℕ FromHexError). result_unwrap_or r 0) p2.2 in
    let pair = pair-digits a b p1.0 p2.0 p0.0 (glyph-value a p1.0 va lower.0) (glyph-value b p2.0 vb lower.1) (value-small a p1.0 va) (value-small b p2.0 vb) byte in
    let ih = decoded-hex_digits (i + 2) rest p3.0 p3.1 lower.2 in
    rw (← e) (ap (λ (two : List ℕ). two ++ flat_map hex_digits p3.0) pair ∙ ap (λ (more : List ℕ). a ∷ b ∷ more) ih)

-- ---- words

some_digits : (b : ℕ) (rest : List ℕ) → 0 < length (flat_map hex_digits (b ∷ rest))
some_digits b rest = omega arith

-- the word of bytes is not empty, and has no upper case
pub hex_of-no_upper : (word bytes : List ℕ) → AreByteValues bytes → word ≡ hex_of bytes → (0 < length word) × (list_any is_ascii_uppercase word ≡ false)
hex_of-no_upper word [] all e = rw e (omega arith, refl)
hex_of-no_upper word (b ∷ rest) all e = rw e (some_digits b rest, hex_digits-no_upper (b ∷ rest) all)

-- the word of some bytes decodes to them
pub hex_of-decoded : (word bytes : List ℕ) → AreByteValues bytes → word ≡ hex_of bytes → word ≢ codes "-" → decode_of word ≡ Ok bytes
hex_of-decoded word [] all e other = absurd (other e)
hex_of-decoded word (b ∷ rest) all e other =
    let written = hex_digits-encode (b ∷ rest) all in
    ap decode_of (e ∙ written) ∙ decode_of-encode_lower (b ∷ rest) all

-- a word with no upper case is that of the bytes that it decodes to
pub decoded-hex_of : (word bytes : List ℕ) → decode_of word ≡ Ok bytes → list_any is_ascii_uppercase word ≡ false → 0 < length word → word ≡ hex_of bytes
decoded-hex_of word [] h none some =
    let ok = decode_of-ok word [] h in absurd (omega arith)
decoded-hex_of word (b ∷ rest) h none some =
    let ok = decode_of-ok word (b ∷ rest) h in
    sym (decoded-hex_digits 0 word (b ∷ rest) (sym (decode_of-even word ok.0) ∙ h) none)

-- what is decoded is bytes
pub decoded-bytes : (word bytes : List ℕ) → decode_of word ≡ Ok bytes → AreByteValues bytes
decoded-bytes word bytes h = (decode_of-ok word bytes h).3

not_refused : (word : List ℕ) (e : FromHexError) (bytes : List ℕ) → (e ≡ hex.OutOfMemory) ⊎ (decode_of word ≡ Err e) → decode_of word ≡ Ok bytes → e ≢ hex.OutOfMemory → ⊥
not_refused word e bytes (inl memory) decoded other = other memory
not_refused word e bytes (inr refused) decoded other = let no : Err e ≡ Ok bytes = sym refused ∙ decoded in cc

-- where decoding is refused, except for memory, no bytes have this word
pub hex_refused-reads : (word : List ℕ) (e : FromHexError) → (e ≡ hex.OutOfMemory) ⊎ (decode_of word ≡ Err e) → word ≢ codes "-"
    → IsReadAs (λ (bytes : Vec ℕ Global). hex_of bytes.items) (λ bytes. AreByteValues bytes.items) word (Err (hex_refused e))
hex_refused-reads word hex.OutOfMemory refused other = tt
hex_refused-reads word (hex.InvalidHexCharacter c i) refused other = λ v all same. not_refused word _ v.items refused (hex_of-decoded word v.items all same other) (λ memory. cc)
hex_refused-reads word hex.OddLength refused other = λ v all same. not_refused word _ v.items refused (hex_of-decoded word v.items all same other) (λ memory. cc)
hex_refused-reads word hex.InvalidStringLength refused other = λ v all same. not_refused word _ v.items refused (hex_of-decoded word v.items all same other) (λ memory. cc)

-- what the conversion of that error gives is what reading the word answers
pub converted-reads : (word : List ℕ) (r : Result (Vec ℕ Global) ReadError) (e : FromHexError) → IsErrAnd r (λ x. x ≡ hex_refused e) → (e ≡ hex.OutOfMemory) ⊎ (decode_of word ≡ Err e) → word ≢ codes "-"
    → IsReadAs (λ (bytes : Vec ℕ Global). hex_of bytes.items) (λ bytes. AreByteValues bytes.items) word r
converted-reads word (Ok bytes) e gives refused other = absurd gives
converted-reads word (Err x) e gives refused other = rw gives (hex_refused-reads word e refused other)
