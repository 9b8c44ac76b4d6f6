-- Each definition of manifests, of their copies and of what a folder is asked for, computed on a
-- few bytes, and what `TakesIn` refuses. Pages have 18 bytes. The log has two closed segments,
-- number 0 and number 1; what was kept of them is any.
use Rattle.std.specs.Prelude.{◌≡◌, ◌++◌, ℕ, List, [], ◌∷◌, get_or, length, replicate, take, true, false, Option, Some, None, Ok, Err}
use Rattle.std.proofs.Common.{refl, ap, arith}
use Rattle.crc32c.specs.Crc.{after_bits, after_byte, crc32c}
use Rattle.segments.specs.declared.call.FolderCall.TheVariants as calls
use Rattle.segments.specs.declared.closed.Closed.{Closed}
use Rattle.segments.specs.declared.closed.Fingerprint.{Fingerprint}
use Rattle.segments.specs.declared.closed.Fingerprint.TheVariants.{Whole, Paged}
use Rattle.segments.specs.declared.closed.PagedSeal.{PagedSeal}
use Rattle.segments.specs.declared.entry.Entry.{Entry}
use Rattle.segments.specs.declared.entry.Entry.TheVariants.{Starts, Closes}
use Rattle.segments.specs.declared.folder.Asked.TheVariants.{Manifest, Segment}
use Rattle.segments.specs.declared.known.Known.{Known}
use Rattle.segments.specs.Copies.{copy_body, copy_bytes, known_in}
use Rattle.segments.specs.Folders.{call_for}
use Rattle.segments.specs.Manifest.{ListingState, TakesIn, closed_at, closed_by, closed_count, closing_bytes, closing_len, entry_bytes, entry_in, fitting, listed_after, listed_by, listed_in, listed_with, marked_in, marks_root, none_closed, open_in, padded, padding, paged_closing_len, paged_front, paged_in, paged_kind, paged_with, whole_in}

-- ---- entries

-- the log begins with segment 258, and its pages have 4,084 bytes
abbrev starts_258 : List ℕ
starts_258 = 0 ∷ 0 ∷ 0 ∷ 0 ∷ 0 ∷ 0 ∷ 0 ∷ 1 ∷ 2 ∷ 15 ∷ 244 ∷ []

pub an_entry : entry_bytes (Starts 258 4084) ≡ starts_258
an_entry = refl

pub it_is_read : entry_in starts_258 ≡ Some (Starts 258 4084)
unfolding entry_in
it_is_read = refl

-- its last byte is missing
pub a_cut_entry : entry_in (0 ∷ 0 ∷ 0 ∷ 0 ∷ 0 ∷ 0 ∷ 0 ∷ 1 ∷ 2 ∷ 15 ∷ []) ≡ None
unfolding entry_in
a_cut_entry = refl

-- an entry of a fifth kind
pub no_such_kind : entry_in (4 ∷ 0 ∷ 0 ∷ 0 ∷ 0 ∷ 0 ∷ 0 ∷ 1 ∷ 2 ∷ 15 ∷ 244 ∷ []) ≡ None
unfolding entry_in
no_such_kind = refl

-- pages have 18 bytes, and the log begins with segment 0, 1 or 2
abbrev pub starts_0 : List ℕ
starts_0 = replicate 10 0 ++ 18 ∷ []

abbrev pub starts_1 : List ℕ
starts_1 = replicate 8 0 ++ 1 ∷ 0 ∷ 18 ∷ []

abbrev pub starts_2 : List ℕ
starts_2 = replicate 8 0 ++ 2 ∷ 0 ∷ 18 ∷ []

-- ---- entries that close a segment

-- the marks' root of an entry
abbrev marks_of_print : Fingerprint → Option (List ℕ)
marks_of_print (Whole kept) = None
marks_of_print (Paged kept) = kept.marks

abbrev marks_by : Entry → Option (List ℕ)
marks_by (Starts first size) = None
marks_by (Closes kept) = marks_of_print kept.fingerprint

-- a digest, or a root
abbrev sevens : List ℕ
sevens = replicate 32 7

-- the root of the marks
abbrev eights : List ℕ
eights = replicate 32 8

-- what is kept of a segment of 772 bytes: the digest of its file; or its root, by the digest of number 5, without marks
-- or with the root of its marks
abbrev by_file : Fingerprint
by_file = Whole (record { len = 772; digest = sevens })

abbrev by_pages : Fingerprint
by_pages = Paged (record { number = 5; seal = record { len = 772; root = sevens }; marks = None })

abbrev by_marks : Fingerprint
by_marks = Paged (record { number = 5; seal = record { len = 772; root = sevens }; marks = Some eights })

-- it has 258 records
abbrev file_entry : List ℕ
file_entry = 1 ∷ 0 ∷ 0 ∷ 0 ∷ 0 ∷ 0 ∷ 0 ∷ 1 ∷ 2 ∷ 0 ∷ 0 ∷ 0 ∷ 0 ∷ 0 ∷ 0 ∷ 3 ∷ 4 ∷ sevens

abbrev pages_entry : List ℕ
pages_entry = 2 ∷ 0 ∷ 0 ∷ 0 ∷ 0 ∷ 0 ∷ 0 ∷ 1 ∷ 2 ∷ 0 ∷ 0 ∷ 0 ∷ 0 ∷ 0 ∷ 0 ∷ 3 ∷ 4 ∷ 5 ∷ sevens

abbrev marks_entry : List ℕ
marks_entry = 3 ∷ 0 ∷ 0 ∷ 0 ∷ 0 ∷ 0 ∷ 0 ∷ 1 ∷ 2 ∷ 0 ∷ 0 ∷ 0 ∷ 0 ∷ 0 ∷ 0 ∷ 3 ∷ 4 ∷ 5 ∷ sevens ++ eights

pub kind_without_marks : paged_kind None ≡ 2
kind_without_marks = refl

pub kind_with_marks : paged_kind (Some eights) ≡ 3
kind_with_marks = refl

pub not_the_same_kind : paged_kind (Some eights) ≡ paged_kind None → ⊥
not_the_same_kind is = let same : ◌≡◌ {A = ℕ} 3 2 = is in omega (arith, same)

-- what is kept by its pages
abbrev its_seal : PagedSeal
its_seal = record { number = 5; seal = record { len = 772; root = sevens }; marks = None }

pub its_front : paged_front 2 258 its_seal ≡ pages_entry
its_front = refl

-- the first byte is the one that is given
pub not_of_another_kind : paged_front 3 258 its_seal ≡ pages_entry → ⊥
not_of_another_kind is = let same : ◌≡◌ {A = ℕ} 3 2 = ap (λ (l : List ℕ). get_or l 0 0) is in omega (arith, same)

pub root_of_marks : marks_root (Some eights) ≡ eights
root_of_marks = refl

-- no root is given for a segment without marks
pub no_root_of_marks : marks_root None ≡ eights → ⊥
no_root_of_marks is = let same : ◌≡◌ {A = ℕ} 0 32 = ap length is in omega (arith, same)

pub it_is_kept : closed_by 258 by_file ≡ record { records = 258; fingerprint = by_file }
it_is_kept = refl

pub not_of_so_many : (f : Fingerprint) → closed_by 258 f ≡ closed_by 257 f → ⊥
not_of_so_many f is = let same : ◌≡◌ {A = ℕ} 258 257 = ap (λ (c : Closed). c.records) is in omega (arith, same)

pub bytes_by_its_file : closing_bytes 258 by_file ≡ file_entry
bytes_by_its_file = refl

pub bytes_by_its_pages : closing_bytes 258 by_pages ≡ pages_entry
bytes_by_its_pages = refl

pub bytes_by_its_marks : closing_bytes 258 by_marks ≡ marks_entry
bytes_by_its_marks = refl

-- which of the two it is is told by the first byte
pub they_are_told_apart : closing_bytes 258 by_file ≡ closing_bytes 258 by_pages → ⊥
they_are_told_apart is = let same : ◌≡◌ {A = ℕ} 1 2 = ap (λ (l : List ℕ). get_or l 0 0) is in omega (arith, same)

pub a_closing_entry : entry_bytes (Closes (closed_by 258 by_pages)) ≡ pages_entry
a_closing_entry = refl

pub frame_by_its_file : closing_len by_file ≡ 56
frame_by_its_file = refl

-- one byte more, for the number of the digest
pub frame_by_its_pages : closing_len by_pages ≡ 57
frame_by_its_pages = refl

-- and 32 more for the root of its marks
pub frame_by_its_marks : closing_len by_marks ≡ 89
frame_by_its_marks = refl

pub len_without_marks : paged_closing_len None ≡ 57
len_without_marks = refl

pub len_with_marks : paged_closing_len (Some eights) ≡ 57 → ⊥
len_with_marks is = let same : ◌≡◌ {A = ℕ} 89 57 = is in omega (arith, same)

pub not_as_long : closing_len by_pages ≡ 56 → ⊥
not_as_long is = let same : ◌≡◌ {A = ℕ} 57 56 = is in omega (arith, same)

-- a manifest with 6 bytes, and pages of 40: 18 are free behind 62 bytes, and one fewer behind 63
pub room_by_its_file : padding 40 6 56 ≡ 0
room_by_its_file = refl

pub zeros_by_its_pages : padding 40 6 57 ≡ 18
zeros_by_its_pages = refl

pub not_as_many_zeros : padding 40 6 57 ≡ padding 40 6 56 → ⊥
not_as_many_zeros is = let same : ◌≡◌ {A = ℕ} 18 0 = is in omega (arith, same)

-- pages of 18 bytes have no such room
pub no_room_anyway : padding 18 6 57 ≡ 0
no_room_anyway = refl

pub padded_by_its_file : padded 40 6 (Closes (closed_by 258 by_file)) ≡ file_entry
padded_by_its_file = refl

pub padded_by_its_pages : padded 40 6 (Closes (closed_by 258 by_pages)) ≡ pages_entry ++ replicate 18 0
padded_by_its_pages = refl

pub not_without_zeros : padded 40 6 (Closes (closed_by 258 by_pages)) ≡ pages_entry → ⊥
not_without_zeros is = let same : ◌≡◌ {A = ℕ} 68 50 = ap length is in omega (arith, same)

-- a drop's entry has none behind it
pub padded_no_further : padded 40 6 (Starts 258 4084) ≡ starts_258
padded_no_further = refl

pub whole_is_read : whole_in (file_entry ++ replicate 18 0) ≡ Some (Closes (closed_by 258 by_file))
whole_is_read = refl

pub one_behind_a_whole : whole_in (file_entry ++ 0 ∷ 1 ∷ []) ≡ None
one_behind_a_whole = refl

pub paged_is_read : paged_in (pages_entry ++ replicate 18 0) ≡ Some (Closes (closed_by 258 by_pages))
paged_is_read = refl

pub one_behind_a_paged : paged_in (pages_entry ++ 0 ∷ 1 ∷ []) ≡ None
one_behind_a_paged = refl

pub marked_is_read : marked_in (marks_entry ++ replicate 18 0) ≡ Some (Closes (closed_by 258 by_marks))
marked_is_read = refl

pub one_behind_a_marked : marked_in (marks_entry ++ 0 ∷ 1 ∷ []) ≡ None
one_behind_a_marked = refl

pub by_its_parts : paged_with marks_entry (Some eights) ≡ Closes (closed_by 258 by_marks)
by_its_parts = refl

-- the marks are those that are given
pub not_by_other_marks : paged_with marks_entry None ≡ Closes (closed_by 258 by_marks) → ⊥
not_by_other_marks is = let none : None ≡ Some eights = ap marks_by is in absurd (cc none)

pub first_kind_is_read : entry_in file_entry ≡ Some (Closes (closed_by 258 by_file))
unfolding entry_in
first_kind_is_read = refl

pub second_kind_is_read : entry_in pages_entry ≡ Some (Closes (closed_by 258 by_pages))
unfolding entry_in
second_kind_is_read = refl

pub third_kind_is_read : entry_in marks_entry ≡ Some (Closes (closed_by 258 by_marks))
unfolding entry_in
third_kind_is_read = refl

pub a_cut_third_kind : entry_in (take 81 marks_entry) ≡ None
unfolding entry_in
a_cut_third_kind = refl

-- bytes that aren't zeros stand behind it
pub a_third_kind_with_more : entry_in (marks_entry ++ 1 ∷ []) ≡ None
unfolding entry_in
a_third_kind_with_more = refl

-- their last byte is missing
pub a_cut_first_kind : entry_in (take 48 file_entry) ≡ None
unfolding entry_in
a_cut_first_kind = refl

pub a_cut_second_kind : entry_in (take 49 pages_entry) ≡ None
unfolding entry_in
a_cut_second_kind = refl

-- ---- listings

pub the_first_is_open : open_in none_closed ≡ 0
the_first_is_open = refl

pub a_number_fits : fitting 18446744073709551615 ≡ Some 18446744073709551615
a_number_fits = refl

pub no_greater_one : fitting 18446744073709551616 ≡ None
no_greater_one = refl

-- the number of the first segment of a listing, if there is one
abbrev first_in : Option ListingState → ℕ
first_in None = 9
first_in (Some l) = l.first

module _ (one two : Closed) where
  abbrev both : ListingState
  both = record { first = 0; closed = one ∷ two ∷ [] }

  abbrev last : ListingState
  last = record { first = 1; closed = two ∷ [] }

  pub the_third_is_open : open_in both ≡ 2
  the_third_is_open = refl

  pub as_it_is_after_a_drop : open_in last ≡ 2
  as_it_is_after_a_drop = refl

  pub the_second_is_closed : closed_at last 1 ≡ Some two
  the_second_is_closed = refl

  pub the_first_was_dropped : closed_at last 0 ≡ None
  the_first_was_dropped = refl

  pub the_open_one_is_not_closed : closed_at last 2 ≡ None
  the_open_one_is_not_closed = refl

  pub the_second_was_closed : listed_with 18 (Closes two) (record { first = 0; closed = one ∷ [] }) ≡ Some both
  the_second_was_closed = refl

  pub no_number_is_left : listed_with 18 (Closes one) (record { first = 18446744073709551615; closed = [] }) ≡ None
  no_number_is_left = refl

  pub the_first_is_dropped : listed_with 18 (Starts 1 18) both ≡ Some last
  the_first_is_dropped = refl

  -- the open segment stays, whatever is dropped
  pub all_closed_are_dropped : listed_with 18 (Starts 2 18) both ≡ Some (record { first = 2; closed = [] })
  all_closed_are_dropped = refl

  pub the_open_one_is_not_dropped : listed_with 18 (Starts 3 18) both ≡ None
  the_open_one_is_not_dropped = refl

  pub nothing_comes_back : listed_with 18 (Starts 0 18) last ≡ None
  nothing_comes_back = refl

  pub of_other_pages : listed_with 18 (Starts 1 16) both ≡ None
  of_other_pages = refl

  pub by_an_entry : listed_by 18 (Some (Starts 1 18)) both ≡ Some last
  by_an_entry = refl

  pub by_no_entry : listed_by 18 None both ≡ None
  by_no_entry = refl

  pub one_after_the_other : listed_after 18 (Some both) (starts_1 ∷ starts_2 ∷ []) ≡ Some (record { first = 2; closed = [] })
  unfolding entry_in
  one_after_the_other = refl

  -- in the other order the second one can't follow
  pub the_other_before_the_one : listed_after 18 (Some both) (starts_2 ∷ starts_1 ∷ []) ≡ None
  unfolding entry_in
  the_other_before_the_one = refl

  pub it_is_taken_in : TakesIn 18 (Starts 1 18) both last {E = ℕ} (Ok true)
  it_is_taken_in = refl

  pub it_is_refused : TakesIn 18 (Starts 3 18) both both {E = ℕ} (Ok false)
  it_is_refused = (refl, refl)

  pub no_memory_for_it : TakesIn 18 (Closes two) both both {E = ℕ} (Err 0)
  no_memory_for_it = refl

  -- an entry that can follow isn't refused
  pub not_refused : TakesIn 18 (Starts 1 18) both both {E = ℕ} (Ok false) → ⊥
  not_refused is = let none : Some last ≡ None = is.0 in absurd (cc none)

  -- an entry that was taken in changes the listing
  pub not_left_out : TakesIn 18 (Starts 1 18) both both {E = ℕ} (Ok true) → ⊥
  not_left_out is = let same : ◌≡◌ {A = ℕ} 1 0 = ap first_in is in omega (arith, same)

  -- and one that wasn't leaves it
  pub not_by_halves : TakesIn 18 (Starts 1 18) both last {E = ℕ} (Err 0) → ⊥
  not_by_halves is = let same : ◌≡◌ {A = ℕ} 1 0 = ap (λ (l : ListingState). l.first) is in omega (arith, same)

-- two records and three
pub five_records : (one two : Fingerprint) → closed_count (closed_by 2 one ∷ closed_by 3 two ∷ []) ≡ 5
five_records one two = refl

pub a_new_manifest : listed_in 18 (starts_0 ∷ []) ≡ Some none_closed
unfolding entry_in
a_new_manifest = refl

-- no segment was closed, so none can have been dropped
pub one_that_was_never_closed : listed_in 18 (starts_0 ∷ starts_1 ∷ []) ≡ None
unfolding entry_in
one_that_was_never_closed = refl

pub an_empty_manifest : listed_in 18 [] ≡ Some none_closed
an_empty_manifest = refl

-- ---- copies

-- The bytes after the checksum are those from 0 to 31, whose CRC-32C is published: 0x46DD794E.

abbrev known : Known
known = record { segment = 0x0001020304050607; len = 0x08090a0b0c0d0e0f }

abbrev manifest : List ℕ
manifest = 16 ∷ 17 ∷ 18 ∷ 19 ∷ 20 ∷ 21 ∷ 22 ∷ 23 ∷ 24 ∷ 25 ∷ 26 ∷ 27 ∷ 28 ∷ 29 ∷ 30 ∷ 31 ∷ []

abbrev body : List ℕ
body = 0 ∷ 1 ∷ 2 ∷ 3 ∷ 4 ∷ 5 ∷ 6 ∷ 7 ∷ 8 ∷ 9 ∷ 10 ∷ 11 ∷ 12 ∷ 13 ∷ 14 ∷ 15 ∷ manifest

pub a_body : copy_body known manifest ≡ body
a_body = refl

pub a_copy : copy_bytes known manifest ≡ 0x46 ∷ 0xdd ∷ 0x79 ∷ 0x4e ∷ body
unfolding crc32c after_byte after_bits
a_copy = refl

pub what_it_knows : known_in (0x46 ∷ 0xdd ∷ 0x79 ∷ 0x4e ∷ body) ≡ Some known
unfolding known_in crc32c after_byte after_bits
what_it_knows = refl

-- a copy whose last byte is torn off
pub a_torn_copy : known_in (0x46 ∷ 0xdd ∷ 0x79 ∷ 0x4e ∷ 0 ∷ 1 ∷ 2 ∷ 3 ∷ 4 ∷ 5 ∷ 6 ∷ 7 ∷ 8 ∷ 9 ∷ 10 ∷ 11 ∷ 12 ∷ 13 ∷ 14 ∷ 15 ∷ 16 ∷ 17 ∷ 18 ∷ 19 ∷ 20 ∷ 21 ∷ 22 ∷ 23 ∷ 24 ∷ 25 ∷ 26 ∷ 27 ∷ 28 ∷ 29 ∷ 30 ∷ []) ≡ None
unfolding known_in crc32c after_byte after_bits
a_torn_copy = refl

-- ---- folders

pub the_manifest_is_opened : call_for Manifest ≡ calls.OpensManifest
the_manifest_is_opened = refl

pub a_segment_is_opened : call_for (Segment 3) ≡ calls.Opens 3
a_segment_is_opened = refl
