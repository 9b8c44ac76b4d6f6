-- Which lines and scripts can be read, and which line is named for one that can't.
use Rattle.std.proofs.Common.{◌≡◌, ◌<◌, ◌*◌, ◌+◌, ℕ, zero, suc, List, [], ◌∷◌, refl, ap}
use Rattle.std.proofs.Common.{arith, inr, length, get_or, lit<, lit≤, map}
use Rattle.std.specs.Fmt.{digits}
use Rattle.std.specs.Prelude.{Err, Ok, Option, Some, Vec, codes}
use Rattle.std.specs.declared.alloc.Global.{Global}
use Rattle.items.specs.declared.run.ItemStep.TheVariants as item
use Rattle.session.specs.declared.steps.Step.TheVariants.{Append, Read, Sync}
use Rattle.scripts.specs.declared.item_line.ItemLine.{ItemLine}
use Rattle.scripts.specs.declared.item_line.ItemLine.TheVariants as line
use Rattle.scripts.specs.declared.script.Line.{Line}
use Rattle.scripts.specs.declared.script.Line.TheVariants.{Step}
use Rattle.scripts.specs.declared.script.Script.TheVariants as script
use Rattle.scripts.specs.declared.start.First.TheVariants as first
use Rattle.scripts.specs.declared.stop.Stop.TheVariants.{Unreadable}
use Rattle.scripts.specs.Play.{IsNoScript, IsScript, Plays}
use Rattle.scripts.specs.Script.{Form, IsLine, IsReadable, IsUnreadable, ReadsLines, ReadsScript}
use Rattle.scripts.specs.Script.{item_line_words, line_words, lines_of}
use Rattle.scripts.specs.Script.{of_items, of_session, words_of}
use Rattle.scripts.proofs.LineExamples.{it_is_a_start, it_is_an_item_start, item_start}
use Rattle.scripts.proofs.LineExamples.{item_start_line, start, start_line}
use Rattle.scripts.proofs.Numbers.{decimal-no_lead, same_number}

-- ---- words told apart

-- a word as a number
abbrev as_number : ℕ → List ℕ → ℕ
as_number n [] = n
as_number n (byte ∷ bytes) = as_number (n * 256 + byte) bytes

-- the first of some words as a number, from 1 on; 0 if there is none
abbrev first_word : List (List ℕ) → ℕ
first_word [] = 0
first_word (word ∷ words) = as_number 1 word

-- a line of items has two words at most
no_such_item : (read : ItemLine) → words_of (codes "read 40 2") ≡ item_line_words read → ⊥
no_such_item (line.Step (item.Push bytes)) same = omega (arith, ap length same)
no_such_item (line.Step step) same = omega (arith, ap length same)
no_such_item read same = omega (arith, ap length same)

-- how many words the first of some lines has
abbrev lengths : List (List (List ℕ)) → ℕ
lengths lines = length (get_or lines 0 [])

-- the first word of the first of some lines, as a number
abbrev first_word_of_all : List (List (List ℕ)) → ℕ
first_word_of_all lines = first_word (get_or lines 0 [])

-- ---- lines that can be read

pub the_first_line : IsReadable of_session 0 start_line
unfolding digits
the_first_line = (start, refl, it_is_a_start)

pub a_later_line : IsReadable of_session 2 (codes "read 40 2")
unfolding digits
a_later_line = (Step (Read 40 2), refl)

pub a_line_of_items : IsReadable of_items 1 (codes "get 40")
unfolding digits
a_line_of_items = (line.Step (item.Get 40), refl)

-- pages have at least one byte
pub no_page_size : IsReadable of_session 0 (codes "start 0 65536 16 crc32c") → ⊥
unfolding digits
no_page_size (s, same, is) =
    let size = s.page_size.value in
    let word = ap (λ (words : List (List ℕ)). get_or words 1 []) same in
    let none = same_number (codes "0") 0 size (lit< tt) (omega (arith, is.0.1)) refl word in
    omega (arith, none, is.0.0)

-- an empty line can't be read, not even between two others
pub no_empty_line : IsReadable of_session 1 [] → ⊥
no_empty_line (read, same) = other read same
  where
    other : (read : Line) → words_of [] ≡ line_words read → ⊥
    other (Step Sync) same = omega (arith, ap first_word same)
    other (Step step) same = omega (arith, ap first_word same)
    other read same = omega (arith, ap first_word same)

-- a first line says the form
pub of_the_other_form : IsReadable of_items 0 start_line → ⊥
of_the_other_form (s, same, is) = omega (arith, ap length same)

-- a script of items has no line that reads bytes
pub a_read_of_items : IsReadable of_items 1 (codes "read 40 2") → ⊥
a_read_of_items (read, same) = no_such_item read same

pub no_sink : IsReadable of_session 1 (codes "sink") → ⊥
no_sink (read, same) = other read same
  where
    other : (read : Line) → words_of (codes "sink") ≡ line_words read → ⊥
    other (Step Sync) same = omega (arith, ap first_word same)
    other (Step step) same = omega (arith, ap first_word same)
    other read same = omega (arith, ap first_word same)

pub of_one_form : (form : Form) × IsReadable form 0 item_start_line
    × ((other : Form) → IsReadable other 0 item_start_line → other ≡ form)
unfolding digits
of_one_form = (of_items, (item_start, refl, it_is_an_item_start), only)
  where
    only : (other : Form) → IsReadable other 0 item_start_line → other ≡ of_items
    only of_session (s, same, is) = absurd (omega (arith, ap length same))
    only of_items is = refl

-- ---- lines that can't

-- no number has a zero in front
pub a_zero_in_front : IsUnreadable of_session 2 (codes "read 042 2")
a_zero_in_front (Step (Read offset len)) is same =
    let word = ap (λ (words : List (List ℕ)). get_or words 1 []) same in
    decimal-no_lead (codes "042") offset is.0 word (inr (refl, lit< tt))
a_zero_in_front (Step step) is same = omega (arith, ap first_word same)
a_zero_in_front read is same = omega (arith, ap first_word same)

pub no_step_of_items : IsUnreadable of_items 1 (codes "read 40 2")
no_step_of_items read is same = no_such_item read same

-- the checksum function is missing
pub no_sum : IsUnreadable of_session 0 (codes "start 4084 65536 16")
no_sum (first.Session s) is same = omega (arith, ap length same)
no_sum (first.Items s) is same = omega (arith, ap length same)

pub no_first_line : IsUnreadable of_session 0 []
no_first_line (first.Session s) is same = omega (arith, ap length same)
no_first_line (first.Items s) is same = omega (arith, ap length same)

pub it_can_be_read : IsUnreadable of_session 1 (codes "sync") → ⊥
it_can_be_read is = is (Step Sync) tt refl

-- at index 0 no form may have the line
pub one_form_has_it : IsUnreadable of_items 0 start_line → ⊥
unfolding digits
one_form_has_it is = is (first.Session start) it_is_a_start refl

-- ---- scripts

-- "ab" is appended and synced, and its "b" read
abbrev four_lines : List (List ℕ)
four_lines = start_line ∷ codes "append 6162" ∷ codes "sync" ∷ codes "read 1 1" ∷ []

pub it_is_read : (bytes : Vec ℕ Global) (lines : Vec Line Global) → bytes.items ≡ 97 ∷ 98 ∷ []
    → lines.items ≡ Step (Append bytes) ∷ Step Sync ∷ Step (Read 1 1) ∷ []
    → ReadsScript four_lines (Ok (script.Session start lines))
unfolding digits
it_is_read bytes lines are all = (rw all (rw are refl), it_is_a_start)

pub a_script_of_items : (lines : Vec ItemLine Global) → lines.items ≡ line.Step item.Len ∷ []
    → ReadsScript (item_start_line ∷ codes "len" ∷ []) (Ok (script.Items item_start lines))
unfolding digits
a_script_of_items lines are = (rw are refl, it_is_an_item_start)

-- no line is left out
pub a_line_is_left_out : (lines : Vec Line Global) → lines.items ≡ []
    → ReadsScript (start_line ∷ codes "sync" ∷ []) (Ok (script.Session start lines)) → ⊥
a_line_is_left_out lines none reads =
    omega (arith, ap length reads.0, ap (λ (l : List Line). length (map line_words l)) none)

-- lines 3 and 5 can't be read
abbrev two_bad_lines : List (List ℕ)
two_bad_lines =
    start_line ∷ codes "sync" ∷ codes "read 042 2" ∷ codes "size" ∷ codes "sink" ∷ []

pub the_first_is_named : ReadsScript two_bad_lines (Err (Unreadable 3))
unfolding digits
the_first_is_named = (lit< tt, lit≤ tt, of_session, a_zero_in_front, before)
  where
    before : (index : ℕ) → index + 1 < 3
        → IsReadable of_session index (get_or two_bad_lines index [])
    before zero within = the_first_line
    before (suc zero) within = (Step Sync, refl)
    before (suc (suc index)) within = absurd (omega (arith, within))

-- an empty input has one line, which is empty
pub of_no_bytes : ReadsScript (lines_of []) (Err (Unreadable 1))
of_no_bytes =
    (lit< tt, lit≤ tt, of_session, no_first_line, λ index within. absurd (omega (arith, within)))

pub a_good_line_is_named : ReadsScript two_bad_lines (Err (Unreadable 2)) → ⊥
a_good_line_is_named (some, within, of_session, is, before) = is (Step Sync) tt refl
a_good_line_is_named (some, within, of_items, is, before) = of_the_other_form (before 0 (lit< tt))

pub a_later_line_is_named :
    ReadsScript (start_line ∷ codes "sink" ∷ codes "sank" ∷ []) (Err (Unreadable 3)) → ⊥
a_later_line_is_named (some, within, of_session, is, before) = no_sink (before 1 (lit< tt))
a_later_line_is_named (some, within, of_items, is, before) = of_the_other_form (before 0 (lit< tt))

-- the first line after the first has the number 2
pub two_are_read : (lines : Vec Line Global) → lines.items ≡ Step Sync ∷ Step (Read 1 1) ∷ []
    → ReadsLines line_words IsLine (codes "sync" ∷ codes "read 1 1" ∷ []) (Ok lines)
unfolding digits
two_are_read lines are = rw are refl

pub line_3_is_named :
    ReadsLines line_words IsLine (codes "sync" ∷ codes "read 042 2" ∷ []) (Err (Unreadable 3))
line_3_is_named = (lit< tt, lit< tt, a_zero_in_front, before)
  where
    before : (index : ℕ) → index + 2 < 3
        → (read : Line) × (words_of (get_or (codes "sync" ∷ codes "read 042 2" ∷ []) index [])
        ≡ line_words read)
    before zero within = (Step Sync, refl)
    before (suc index) within = absurd (omega (arith, within))

pub line_2_is_named :
    ReadsLines line_words IsLine (codes "sync" ∷ codes "read 042 2" ∷ []) (Err (Unreadable 2)) → ⊥
line_2_is_named (after, within, is, before) = is (Step Sync) tt refl

pub it_is_a_script : (lines : Vec Line Global) → lines.items ≡ Step Sync ∷ Step (Read 0 2) ∷ []
    → IsScript (codes "start 4084 65536 16 crc32c\nsync\nread 0 2\n")
unfolding digits
it_is_a_script lines are = (script.Session start lines, (rw are refl, it_is_a_start))

-- no bytes are no script, though they ask for nothing
pub no_bytes : IsScript [] → ⊥
no_bytes (script.Session s lines, reads) = omega (arith, ap lengths reads.0)
no_bytes (script.Items s lines, reads) = omega (arith, ap lengths reads.0)

-- a script of items has the size of its items
pub no_size : IsScript (codes "start-items 4084 65536 16 crc32c\nlen\n") → ⊥
no_size (script.Session s lines, reads) = omega (arith, ap first_word_of_all reads.0)
no_size (script.Items s lines, reads) = omega (arith, ap lengths reads.0)

pub it_is_no_script : IsNoScript 3 (codes "start 4084 65536 16 crc32c\nsync\nread 042 2\n")
unfolding digits
it_is_no_script = (lit< tt, lit≤ tt, of_session, a_zero_in_front, before)
  where
    before : (index : ℕ) → index + 1 < 3
        → IsReadable of_session index
        (get_or (start_line ∷ codes "sync" ∷ codes "read 042 2" ∷ []) index [])
    before zero within = the_first_line
    before (suc zero) within = (Step Sync, refl)
    before (suc (suc index)) within = absurd (omega (arith, within))

-- a first line alone is a script: no line after it is missing
pub no_such_line : IsNoScript 2 (codes "start 4084 65536 16 crc32c\n") → ⊥
no_such_line is = omega (arith, is.1)

-- ---- plays

pub it_was_played : (lines : Vec Line Global) (old new : Option (List ℕ))
    → lines.items ≡ Step Sync ∷ Step (Read 0 2) ∷ []
    → Plays (Some (codes "start 4084 65536 16 crc32c\nsync\nread 0 2\n")) old new (Ok tt)
it_was_played lines old new are = it_is_a_script lines are

pub nothing_was_played : (old new : Option (List ℕ)) → Plays (Some []) old new (Ok tt) → ⊥
nothing_was_played old new plays = no_bytes plays
