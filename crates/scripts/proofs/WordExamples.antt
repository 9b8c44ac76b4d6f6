-- The words of scripts, computed on a few of them, and which numbers and bytes are in range: the
-- greatest that are and the least that aren't.
use Rattle.std.proofs.Common.{◌≡◌, ℕ, zero, suc, List, [], ◌∷◌, refl, ap, ◌∙◌, arith, inl, inr}
use Rattle.std.proofs.Common.{length, lit<, lit≤}
use Rattle.std.proofs.lemmas.Fmt.{digits_value-decimal}
use Rattle.std.specs.Fmt.{decimal, digits}
use Rattle.std.specs.Prelude.{All, Err, Ok, codes, false, true}
use Rattle.std.specs.Str.Parse.{digits_value}
use Rattle.scripts.specs.declared.start.SumName.TheVariants.{Add, Const, Crc32c}
use Rattle.scripts.specs.declared.word.ReadError.TheVariants.{Unreadable}
use Rattle.scripts.specs.Script.{AreByteValues, AreRangesOfU64, HasLead, IsBufferSize, IsCacheSize}
use Rattle.scripts.specs.Script.{IsCallNumber, IsItemSize, IsPageSize, IsRangeOfU64, IsReadAs}
use Rattle.scripts.specs.Script.{IsU64}
use Rattle.scripts.specs.Script.{flag_digit, flags_text, lines_of, parts_of, range_word}
use Rattle.scripts.specs.Script.{ranges_words, sum_word, without_last_feed, words_of}
use Rattle.scripts.specs.Text.{hex_digits, hex_of}
use Rattle.scripts.proofs.Numbers.{decimal-no_lead, numerals}

-- ---- lines and words

pub parts_at_a_colon : parts_of 58 (codes "40:2") ≡ codes "40" ∷ codes "2" ∷ []
parts_at_a_colon = refl

pub three_words : words_of (codes "read 40 2") ≡ codes "read" ∷ codes "40" ∷ codes "2" ∷ []
three_words = refl

-- two spaces have an empty word between them, and a space at the end has one after it
pub two_spaces : words_of (codes "read  40 ") ≡ codes "read" ∷ [] ∷ codes "40" ∷ [] ∷ []
two_spaces = refl

pub one_feed_goes : without_last_feed (codes "sync\n\n") ≡ codes "sync\n"
one_feed_goes = refl

pub none_to_go : without_last_feed (codes "sync\nsize") ≡ codes "sync\nsize"
none_to_go = refl

pub two_lines : lines_of (codes "sync\nsize\n") ≡ codes "sync" ∷ codes "size" ∷ []
two_lines = refl

pub the_last_feed_is_missing : lines_of (codes "sync\nsize") ≡ codes "sync" ∷ codes "size" ∷ []
the_last_feed_is_missing = refl

-- no other line feed may be missing, or too many
pub an_empty_line : lines_of (codes "sync\n\n") ≡ codes "sync" ∷ [] ∷ []
an_empty_line = refl

-- no bytes at all are one empty line, and so is a line feed
pub of_no_bytes : lines_of [] ≡ [] ∷ []
of_no_bytes = refl

pub of_a_feed : lines_of (codes "\n") ≡ [] ∷ []
of_a_feed = refl

-- ---- numbers

pub it_is_read : IsReadAs decimal IsU64 (codes "4084") (Ok 4084)
unfolding digits
it_is_read = (refl, lit< tt)

-- a zero in front is no part of a number
pub a_zero_in_front : IsReadAs decimal IsU64 (codes "042") (Err Unreadable)
a_zero_in_front = λ v one same. decimal-no_lead (codes "042") v one same (inr (refl, lit< tt))

pub not_read_so : IsReadAs decimal IsU64 (codes "042") (Ok 42) → ⊥
unfolding digits
not_read_so is = omega (arith, ap (λ (word : List ℕ). length word) is.0)

-- a number has 64 bits
pub too_large : IsReadAs decimal IsU64 (codes "18446744073709551616") (Err Unreadable)
unfolding digits
too_large = λ v one same.
    let value = ap (digits_value 10) same ∙ digits_value-decimal numerals v one in
    omega (arith, one, value)

-- a number that is written right isn't refused
pub not_refused : IsReadAs decimal IsU64 (codes "42") (Err Unreadable) → ⊥
unfolding digits
not_refused is = is 42 (lit< tt) refl

pub a_lead : HasLead (codes "042")
a_lead = inr (refl, lit< tt)

-- a zero alone is a number
pub no_lead_of_zero : HasLead (codes "0") → ⊥
no_lead_of_zero (inl plus) = omega (arith, plus)
no_lead_of_zero (inr (zero_first, longer)) = omega (arith, longer)

pub the_greatest : IsU64 18446744073709551615
the_greatest = lit< tt

pub past_the_greatest : IsU64 18446744073709551616 → ⊥
past_the_greatest is = omega (arith, is)

pub a_byte_a_page : IsPageSize 1
a_byte_a_page = (lit< tt, lit< tt)

pub large_pages : IsPageSize 65535
large_pages = (lit< tt, lit< tt)

pub no_pages_of_none : IsPageSize 0 → ⊥
no_pages_of_none is = omega (arith, is.0)

-- a size of pages has 16 bits
pub too_large_pages : IsPageSize 65536 → ⊥
too_large_pages is = omega (arith, is.1)

pub a_large_cache : IsCacheSize 4096
a_large_cache = (lit< tt, lit≤ tt)

pub too_large_a_cache : IsCacheSize 4097 → ⊥
too_large_a_cache is = omega (arith, is.1)

pub no_cache_of_no_pages : IsCacheSize 0 → ⊥
no_cache_of_no_pages is = omega (arith, is.0)

pub a_large_item : IsItemSize 65535
a_large_item = (lit< tt, lit≤ tt)

pub too_large_an_item : IsItemSize 65536 → ⊥
too_large_an_item is = omega (arith, is.1)

pub no_item_of_no_bytes : IsItemSize 0 → ⊥
no_item_of_no_bytes is = omega (arith, is.0)

pub a_byte_at_a_time : IsBufferSize 1
a_byte_at_a_time = (lit< tt, lit< tt)

pub no_buffer : IsBufferSize 0 → ⊥
no_buffer is = omega (arith, is.0)

-- calls are counted from 1
pub the_next_call : IsCallNumber 1
the_next_call = (lit< tt, lit< tt)

pub no_call_zero : IsCallNumber 0 → ⊥
no_call_zero is = omega (arith, is.0)

-- ---- ranges

pub a_range : range_word (40, 2) ≡ codes "40:2"
unfolding digits
a_range = refl

pub two_ranges : ranges_words ((40, 2) ∷ (0, 0) ∷ []) ≡ codes "40:2" ∷ codes "0:0" ∷ []
unfolding digits
two_ranges = refl

-- the end of a range may pass the greatest number
pub far_out : IsRangeOfU64 (18446744073709551615, 18446744073709551615)
far_out = (lit< tt, lit< tt)

pub too_far_out : IsRangeOfU64 (18446744073709551616, 0) → ⊥
too_far_out is = omega (arith, is.0)

-- ranges may come in any order, and one twice
pub ranges : AreRangesOfU64 ((40, 2) ∷ (0, 4) ∷ (40, 2) ∷ [])
ranges = (lit< tt, each)
  where
    each : All IsRangeOfU64 ((40, 2) ∷ (0, 4) ∷ (40, 2) ∷ [])
    each zero d within = (lit< tt, lit< tt)
    each (suc zero) d within = (lit< tt, lit< tt)
    each (suc (suc zero)) d within = (lit< tt, lit< tt)
    each (suc (suc (suc i))) d within = omega (arith, within)

pub no_ranges : AreRangesOfU64 [] → ⊥
no_ranges are = omega (arith, are.0)

-- ---- bytes and flags

pub a_byte : hex_digits 10 ≡ codes "0a"
a_byte = refl

pub two_bytes : hex_of (0 ∷ 255 ∷ []) ≡ codes "00ff"
two_bytes = refl

pub no_bytes : hex_of [] ≡ codes "-"
no_bytes = refl

pub they_are_bytes : AreByteValues (0 ∷ 255 ∷ [])
they_are_bytes zero = lit< tt
they_are_bytes (suc zero) = lit< tt
they_are_bytes (suc (suc i)) = lit< tt

pub one_is_no_byte : AreByteValues (0 ∷ 256 ∷ []) → ⊥
one_is_no_byte are = omega (arith, are 1)

pub a_flag : flag_digit true ≡ 49
a_flag = refl

pub no_flag : flag_digit false ≡ 48
no_flag = refl

pub three_flags : flags_text (true ∷ false ∷ true ∷ []) ≡ codes "101"
three_flags = refl

pub no_flags : flags_text [] ≡ codes "-"
no_flags = refl

-- ---- checksum functions

pub its_name : sum_word Crc32c ≡ codes "crc32c"
its_name = refl

pub name_of_the_sum : sum_word Add ≡ codes "add"
name_of_the_sum = refl

pub name_of_the_constant : sum_word Const ≡ codes "const"
name_of_the_constant = refl
