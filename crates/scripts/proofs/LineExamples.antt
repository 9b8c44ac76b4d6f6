-- The lines of scripts: the words of each kind, and which numbers and bytes are in range there. The
-- bytes "ab" are 6162 in hexadecimal.
use Rattle.std.proofs.Common.{◌≡◌, ◌<◌, ℕ, List, [], ◌∷◌, refl, ap, subst, arith}
use Rattle.std.proofs.Common.{lit<, lit≤, length}
use Rattle.std.specs.Fmt.{digits}
use Rattle.std.specs.Prelude.{Bool, Vec, codes, false, true}
use Rattle.std.specs.declared.alloc.Global.{Global}
use Rattle.std.specs.declared.num.NonZeroU64.{NonZeroU64}
use Rattle.items.specs.declared.run.ItemStep.TheVariants as item
use Rattle.session.specs.declared.steps.Step.TheVariants.{Append, DropSnapshot, Read, ReadRanges}
use Rattle.session.specs.declared.steps.Step.TheVariants.{Scan, Snap, Sync}
use Rattle.scripts.specs.declared.item_line.ItemLine.TheVariants as line
use Rattle.scripts.specs.declared.script.Line.TheVariants.{Crash, Fail, Step}
use Rattle.scripts.specs.declared.start.First.TheVariants as first
use Rattle.scripts.specs.declared.start.ItemStart.{ItemStart}
use Rattle.scripts.specs.declared.start.Start.{Start}
use Rattle.scripts.specs.declared.start.SumName.TheVariants.{Crc32c}
use Rattle.scripts.specs.Script.{AreByteValues, IsFirst, IsItemLine, IsItemStart}
use Rattle.scripts.specs.Script.{IsLine, IsStart, first_words, item_line_words}
use Rattle.scripts.specs.Script.{item_start_words, item_step_words, line_words, settings_words}
use Rattle.scripts.specs.Script.{start_words, step_words, words_of}

-- ---- first lines

-- pages of 4,084 bytes, a buffer of 64 KiB, and a cache of so many pages
abbrev pub with_cache : (pages : ℕ) → 0 < pages → Start
with_cache pages some = record {
  page_size = record { value = 4084; ok = lit< tt };
  capacity = 65536;
  pages = record { value = pages; ok = some };
  sum = Crc32c;
}

abbrev pub start : Start
start = with_cache 16 (lit< tt)

-- the same, and items of so many bytes
abbrev pub with_items : (size : ℕ) → 0 < size → ItemStart
with_items size some = record { settings = start; size = record { value = size; ok = some } }

abbrev pub item_start : ItemStart
item_start = with_items 100 (lit< tt)

abbrev pub start_line : List ℕ
start_line = codes "start 4084 65536 16 crc32c"

abbrev pub item_start_line : List ℕ
item_start_line = codes "start-items 4084 65536 16 crc32c 100"

pub settings : words_of (codes "4084 65536 16 crc32c") ≡ settings_words start
unfolding digits
settings = refl

pub of_a_session : words_of start_line ≡ start_words start
unfolding digits
of_a_session = refl

pub of_items : words_of item_start_line ≡ item_start_words item_start
unfolding digits
of_items = refl

pub of_either : words_of item_start_line ≡ first_words (first.Items item_start)
unfolding digits
of_either = refl

pub it_is_a_start : IsStart start
it_is_a_start = ((lit< tt, lit< tt), lit< tt, (lit< tt, lit≤ tt))

pub too_many_pages : IsStart (with_cache 4097 (lit< tt)) → ⊥
too_many_pages is = omega (arith, is.2.1)

pub it_is_an_item_start : IsItemStart item_start
it_is_an_item_start = (it_is_a_start, (lit< tt, lit≤ tt))

pub too_large_items : IsItemStart (with_items 65536 (lit< tt)) → ⊥
too_large_items is = omega (arith, is.1.1)

-- an item may have more bytes than a page
pub larger_than_a_page : IsFirst (first.Items (with_items 65535 (lit< tt)))
larger_than_a_page = (it_is_a_start, (lit< tt, lit≤ tt))

pub too_many_pages_at_first : IsFirst (first.Session (with_cache 4097 (lit< tt))) → ⊥
too_many_pages_at_first is = too_many_pages is

-- ---- later lines of a session

pub a_read : words_of (codes "read 40 2") ≡ step_words (Read 40 2)
unfolding digits
a_read = refl

pub a_snap : words_of (codes "snap 0 40 2") ≡ step_words (Snap 0 40 2)
unfolding digits
a_snap = refl

pub an_append : (bytes : Vec ℕ Global) → bytes.items ≡ 97 ∷ 98 ∷ []
    → words_of (codes "append 6162") ≡ step_words (Append bytes)
an_append bytes are = rw are refl

pub an_append_of_nothing : (bytes : Vec ℕ Global) → bytes.items ≡ []
    → words_of (codes "append -") ≡ step_words (Append bytes)
an_append_of_nothing bytes are = rw are refl

pub a_read_of_ranges : (ranges : Vec (ℕ × ℕ) Global) → ranges.items ≡ (40, 2) ∷ (0, 4) ∷ []
    → words_of (codes "ranges 40:2 0:4") ≡ step_words (ReadRanges ranges)
unfolding digits
a_read_of_ranges ranges are = rw are refl

-- no line has no words, so no line drops a snapshot
pub no_words : step_words (DropSnapshot 0) ≡ []
no_words = refl

pub a_sync : words_of (codes "sync") ≡ line_words (Step Sync)
a_sync = refl

pub a_failing_call : (number : NonZeroU64) → number.value ≡ 3
    → words_of (codes "fail 3") ≡ line_words (Fail number)
unfolding digits
a_failing_call number is = rw is refl

pub a_crash : (keep : Vec Bool Global) → keep.items ≡ true ∷ false ∷ true ∷ []
    → words_of (codes "crash 101") ≡ line_words (Crash keep)
a_crash keep are = rw are refl

pub it_is_a_line : IsLine (Step (Read 18446744073709551615 2))
it_is_a_line = (lit< tt, lit< tt)

pub a_scan_byte_by_byte : IsLine (Step (Scan 0 100 (record { value = 1; ok = lit< tt })))
a_scan_byte_by_byte = (lit< tt, lit< tt, (lit< tt, lit< tt))

pub too_far : IsLine (Step (Read 18446744073709551616 2)) → ⊥
too_far is = omega (arith, is.0)

pub a_line_of_no_words : IsLine (Step (DropSnapshot 0)) → ⊥
a_line_of_no_words is = is

pub a_line_of_no_ranges : (ranges : Vec (ℕ × ℕ) Global) → ranges.items ≡ []
    → IsLine (Step (ReadRanges ranges)) → ⊥
a_line_of_no_ranges ranges none is = omega (arith, ap length none, is.0)

pub a_line_of_no_byte : (bytes : Vec ℕ Global) → bytes.items ≡ 97 ∷ 256 ∷ []
    → IsLine (Step (Append bytes)) → ⊥
a_line_of_no_byte bytes are is =
    let in_range = subst AreByteValues are is in omega (arith, in_range 1)

-- ---- later lines of items

pub a_get : words_of (codes "get 40") ≡ item_step_words (item.Get 40)
unfolding digits
a_get = refl

pub a_push : (bytes : Vec ℕ Global) → bytes.items ≡ 97 ∷ 98 ∷ []
    → words_of (codes "push 6162") ≡ item_step_words (item.Push bytes)
a_push bytes are = rw are refl

pub how_many : words_of (codes "len") ≡ item_line_words (line.Step item.Len)
how_many = refl

pub a_dump : words_of (codes "dump") ≡ item_line_words line.Dump
a_dump = refl

pub the_last_item : IsItemLine (line.Step (item.Get 18446744073709551615))
the_last_item = lit< tt

pub past_the_last_item : IsItemLine (line.Step (item.Get 18446744073709551616)) → ⊥
past_the_last_item is = omega (arith, is)

pub a_push_of_no_byte : (bytes : Vec ℕ Global) → bytes.items ≡ 97 ∷ 256 ∷ []
    → IsItemLine (line.Step (item.Push bytes)) → ⊥
a_push_of_no_byte bytes are is =
    let in_range = subst AreByteValues are is in omega (arith, in_range 1)
