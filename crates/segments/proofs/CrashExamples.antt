-- What a crash leaves of a log, shown of small logs, and refuted of something nearly right. Pages
-- have 18 bytes. Closed segment 0 held "c" and closed segment 1 held "d"; what was kept of them is
-- any.
use Rattle.std.specs.Prelude.{◌≡◌, ◌⊎◌, ◌≤◌, ◌++◌, ℕ, List, [], ◌∷◌, length, replicate, Option, Some, None}
use Rattle.std.proofs.Common.{refl, sym, ap, subst, inl, inr, arith, ◌∙◌, lit≤}
use Rattle.disk.specs.Disk.{Disk, IsImage, next}
use Rattle.page.specs.Page.{slot_bytes, text}
use Rattle.page.specs.Sums.{add_sum}
use Rattle.crash.specs.Moments.{through_end, through_start}
use Rattle.journal.specs.Frame.{frames, is_record, record_len, record_of, records}
use Rattle.segments.specs.declared.closed.Closed.{Closed}
use Rattle.segments.specs.Manifest.{ListingState, entry_in, listed_in}
use Rattle.segments.specs.Log.{CurrentKeeps, IsLog, LogState}
use Rattle.segments.specs.Crash.{AreFirstOf, BeginWith, CurrentSurvives, DropSurvives, KeepsLog, LogDropped, LogKept, LogOnly, records_by, records_left}
use Rattle.segments.proofs.BytesExamples.{c, c_is_not_d, c_is_told, c_life, c_page, changed_life, d, d_page, life_of, resting, rests, with_c, with_none}
use Rattle.segments.proofs.Closing.{chance_free}
use Rattle.segments.proofs.LogExamples.{held, small}
use Rattle.segments.proofs.OwnedExamples.{nothing_was_done}
use Rattle.segments.proofs.Surviving.{durable_image, image_of, survives_same}

-- ---- the records that are left

-- a manifest whose one entry says that pages have 18 bytes and the log begins with segment 0: a
-- page that is full
abbrev pub starts_page : List ℕ
starts_page = 0 ∷ 11 ∷ replicate 10 0 ++ 18 ∷ 0 ∷ 0 ∷ 0 ∷ 18 ∷ 1 ∷ slot_bytes 18 48 ++ slot_bytes 0 0

-- one whose entry says that pages have 16 bytes
abbrev pub sixteen_page : List ℕ
sixteen_page = 0 ∷ 11 ∷ replicate 10 0 ++ 16 ∷ 0 ∷ 0 ∷ 0 ∷ 16 ∷ 1 ∷ slot_bytes 18 44 ++ slot_bytes 0 0

-- each file holds this page
abbrev pub files : List ℕ → ℕ → List ℕ
files page n = page

pub what_is_left : records_left add_sum add_sum 18 held (files c_page) starts_page ≡ Some (c ∷ [])
unfolding record_len is_record record_of frames records entry_in
what_is_left = refl

-- the page size is another
pub nothing_can_be_read : records_left add_sum add_sum 18 held (files c_page) sixteen_page ≡ None
unfolding record_len is_record record_of frames records entry_in
nothing_can_be_read = refl

pub by_no_listing : (sum own : List ℕ → ℕ) → records_by sum own 18 held (files c_page) None ≡ None
by_no_listing sum own = refl

pub by_a_listing : (one two : Closed) → records_by add_sum add_sum 18 held (files c_page) (Some (record { first = 0; closed = one ∷ two ∷ [] })) ≡ Some (c ∷ d ∷ c ∷ [])
unfolding record_len is_record record_of frames records
by_a_listing one two = refl

pub one_is_there : BeginWith 1 (c ∷ d ∷ []) (Some (c ∷ []))
one_is_there = (lit≤ tt, refl)

-- the second is lost
pub one_is_lost : BeginWith 2 (c ∷ d ∷ []) (Some (c ∷ [])) → ⊥
one_is_lost begin = let few : 2 ≤ 1 = begin.0 in omega (arith, few)

-- another one comes first
pub in_another_order : BeginWith 1 (c ∷ d ∷ []) (Some (d ∷ c ∷ [])) → ⊥
in_another_order begin = c_is_not_d [] [] (sym begin.1)

pub the_first_of_two : AreFirstOf (c ∷ d ∷ []) (Some (c ∷ []))
the_first_of_two = (d ∷ [], refl)

-- the first is left out
pub the_second_of_two : AreFirstOf (c ∷ d ∷ []) (Some (d ∷ [])) → ⊥
the_second_of_two are = c_is_not_d (d ∷ []) are.0 are.1

-- ---- disks that rest: an empty manifest, and for each segment the same page

-- what holds of the page's records holds of whatever a crash leaves
left_is : (page : List ℕ) (Q : Option (List (List ℕ)) → Type 0) (manifest : List ℕ) (file : ℕ → List ℕ)
    → IsImage (resting []) manifest → ((j : ℕ) → IsImage (resting page) (file j)) → Q (Some (records add_sum (text add_sum 18 page)))
    → Q (records_left add_sum add_sum 18 held file manifest)
unfolding record_len is_record record_of frames records
left_is page Q manifest file empty images holds =
    let none : manifest ≡ [] = durable_image (resting []) manifest (rests []) empty in
    let first : file 0 ≡ page = durable_image (resting page) (file 0) (rests page) (images 0) in
    subst (λ (m : List ℕ). Q (records_left add_sum add_sum 18 held file m)) (sym none)
    (subst (λ (bytes : List ℕ). Q (Some (records add_sum (text add_sum 18 bytes)))) (sym first) holds)

-- and where it holds of whatever a crash leaves, it holds of the page's records
is_left : (page : List ℕ) (n : ℕ) (all : List (List ℕ)) → LogKept add_sum add_sum 18 held n all (resting []) (λ j. resting page)
    → BeginWith n all (Some (records add_sum (text add_sum 18 page)))
unfolding record_len is_record record_of frames records
is_left page n all kept =
    kept [] (image_of (resting []) (rests [])) (chance_free add_sum 18 (resting []) (rests [])) (files page) (λ j. image_of (resting page) (rests page))

only_left : (page : List ℕ) (all : List (List ℕ)) → LogOnly add_sum add_sum 18 held all (resting []) (λ j. resting page)
    → AreFirstOf all (Some (records add_sum (text add_sum 18 page)))
unfolding record_len is_record record_of frames records
only_left page all only =
    only [] (image_of (resting []) (rests [])) (chance_free add_sum 18 (resting []) (rests [])) (files page) (λ j. image_of (resting page) (rests page))
    (λ j. chance_free add_sum 18 (resting page) (rests page))

pub it_is_kept : LogKept add_sum add_sum 18 held 1 (c ∷ d ∷ []) (resting []) (λ j. resting c_page)
it_is_kept manifest empty free file images =
    left_is c_page (λ o. BeginWith 1 (c ∷ d ∷ []) o) manifest file empty images (subst (λ (rs : List (List ℕ)). BeginWith 1 (c ∷ d ∷ []) (Some rs)) (sym c_is_told) one_is_there)

-- the blob has one of two records
pub one_is_not_kept : LogKept add_sum add_sum 18 held 2 (c ∷ d ∷ []) (resting []) (λ j. resting c_page) → ⊥
one_is_not_kept kept =
    one_is_lost (subst (λ (rs : List (List ℕ)). BeginWith 2 (c ∷ d ∷ []) (Some rs)) c_is_told (is_left c_page 2 (c ∷ d ∷ []) kept))

pub nothing_else_is_left : LogOnly add_sum add_sum 18 held (c ∷ d ∷ []) (resting []) (λ j. resting c_page)
nothing_else_is_left manifest empty free file images frees =
    left_is c_page (λ o. AreFirstOf (c ∷ d ∷ []) o) manifest file empty images (subst (λ (rs : List (List ℕ)). AreFirstOf (c ∷ d ∷ []) (Some rs)) (sym c_is_told) the_first_of_two)

-- the blob has the second record, and not the first
pub something_else_is_left : LogOnly add_sum add_sum 18 held (d ∷ c ∷ []) (resting []) (λ j. resting c_page) → ⊥
something_else_is_left only =
    let are : AreFirstOf (d ∷ c ∷ []) (Some (c ∷ [])) = subst (λ (rs : List (List ℕ)). AreFirstOf (d ∷ c ∷ []) (Some rs)) c_is_told (only_left c_page (d ∷ c ∷ []) only) in
    c_is_not_d are.0 (c ∷ []) (sym are.1)

-- ---- the open segment

pub what_a_call_keeps : (t : LogState) → IsLog add_sum add_sum small → CurrentKeeps add_sum add_sum (c ∷ []) small t → CurrentSurvives add_sum add_sum [] small t
unfolding record_len is_record record_of frames records
what_a_call_keeps t log keeps = survives_same add_sum add_sum small t log keeps

-- at each moment of a call that did nothing
pub it_keeps_it : IsLog add_sum add_sum small → KeepsLog add_sum add_sum held small [] c_life c_life
it_keeps_it log = what_a_call_keeps small log nothing_was_done held

-- the blob has another record now
pub it_is_changed : KeepsLog add_sum add_sum held small [] c_life changed_life → ⊥
unfolding record_len is_record record_of frames records
it_is_changed keeps =
    let only = through_end (λ (e : Disk). LogOnly add_sum add_sum 18 held (c ∷ []) (resting []) (λ j. e)) c_life changed_life keeps.only in
    let are : AreFirstOf (c ∷ []) (Some (d ∷ [])) = only_left d_page (c ∷ []) only in
    c_is_not_d [] are.0 are.1

pub it_does_not_survive : CurrentSurvives add_sum add_sum [] small (record small { current = record with_c { life = changed_life } }) → ⊥
it_does_not_survive survives = it_is_changed (survives held)

-- ---- a drop

-- a manifest that lists the log from segment 1 on
pub it_was_dropped : (one two : Closed) (bytes : List ℕ) → listed_in 18 (records add_sum (text add_sum 18 bytes)) ≡ Some (record { first = 1; closed = two ∷ [] })
    → LogDropped add_sum add_sum 18 (record { first = 0; closed = one ∷ two ∷ [] }) 1 (resting bytes)
it_was_dropped one two bytes lists manifest image free held file =
    let same : manifest ≡ bytes = durable_image (resting bytes) manifest (rests bytes) image in
    inr (lit≤ tt, lit≤ tt, ap (λ (m : List ℕ). records_left add_sum add_sum 18 held file m) same ∙ ap (λ (o : Option ListingState). records_by add_sum add_sum 18 held file o) lists)

abbrev how_many : Option (List (List ℕ)) → ℕ
how_many None = 9
how_many (Some rs) = length rs

not_one : (left : Option (List (List ℕ))) → left ≡ Some (c ∷ []) → (left ≡ Some (c ∷ d ∷ c ∷ [])) ⊎ ((0 ≤ 1) × (1 ≤ 2) × (left ≡ Some (d ∷ c ∷ []))) → ⊥
not_one left is (inl all) = let same : ◌≡◌ {A = ℕ} 1 3 = ap how_many (sym is ∙ all) in omega (arith, same)
not_one left is (inr some) = let same : ◌≡◌ {A = ℕ} 1 2 = ap how_many (sym is ∙ some.2) in omega (arith, same)

-- a manifest that lists it from segment 2 on, one more than was to be dropped
left_of_two : (bytes : List ℕ) → listed_in 18 (records add_sum (text add_sum 18 bytes)) ≡ Some (record { first = 2; closed = [] })
    → records_left add_sum add_sum 18 held (files c_page) bytes ≡ Some (c ∷ [])
unfolding record_len is_record record_of frames records
left_of_two bytes lists = ap (λ (o : Option ListingState). records_by add_sum add_sum 18 held (files c_page) o) lists

pub one_segment_more : (one two : Closed) (bytes : List ℕ) → listed_in 18 (records add_sum (text add_sum 18 bytes)) ≡ Some (record { first = 2; closed = [] })
    → LogDropped add_sum add_sum 18 (record { first = 0; closed = one ∷ two ∷ [] }) 1 (resting bytes) → ⊥
unfolding record_len is_record record_of frames records
one_segment_more one two bytes lists dropped =
    not_one (records_left add_sum add_sum 18 held (files c_page) bytes) (left_of_two bytes lists)
    (dropped bytes (image_of (resting bytes) (rests bytes)) (chance_free add_sum 18 (resting bytes) (rests bytes)) held (files c_page))

-- a drop of segment 0, which was dropped before, doesn't bring it back into the listing
left_of_all : (one two : Closed) (bytes : List ℕ) → listed_in 18 (records add_sum (text add_sum 18 bytes)) ≡ Some (record { first = 0; closed = one ∷ two ∷ [] })
    → records_left add_sum add_sum 18 held (files c_page) bytes ≡ Some (c ∷ d ∷ c ∷ [])
unfolding record_len is_record record_of frames records
left_of_all one two bytes lists = ap (λ (o : Option ListingState). records_by add_sum add_sum 18 held (files c_page) o) lists

not_all : (left : Option (List (List ℕ))) → left ≡ Some (c ∷ d ∷ c ∷ []) → (left ≡ Some (d ∷ c ∷ [])) ⊎ ((1 ≤ 0) × (0 ≤ 2) × (left ≡ Some (c ∷ c ∷ []))) → ⊥
not_all left is (inl some) = let same : ◌≡◌ {A = ℕ} 3 2 = ap how_many (sym is ∙ some) in omega (arith, same)
not_all left is (inr before) = omega (arith, before.0)

pub a_dropped_segment_is_back : (one two : Closed) (bytes : List ℕ) → listed_in 18 (records add_sum (text add_sum 18 bytes)) ≡ Some (record { first = 0; closed = one ∷ two ∷ [] })
    → LogDropped add_sum add_sum 18 (record { first = 1; closed = two ∷ [] }) 0 (resting bytes) → ⊥
unfolding record_len is_record record_of frames records
a_dropped_segment_is_back one two bytes lists dropped =
    not_all (records_left add_sum add_sum 18 held (files c_page) bytes) (left_of_all one two bytes lists)
    (dropped bytes (image_of (resting bytes) (rests bytes)) (chance_free add_sum 18 (resting bytes) (rests bytes)) held (files c_page))

-- a log whose manifest has these bytes, and which lists these segments
abbrev listing_log : List ℕ → ListingState → LogState
listing_log bytes l = record small { manifest = record with_none { life = life_of bytes }; listing = l }

pub it_survives_a_drop : (one two : Closed) (bytes : List ℕ) → listed_in 18 (records add_sum (text add_sum 18 bytes)) ≡ Some (record { first = 1; closed = two ∷ [] })
    → DropSurvives add_sum add_sum 1 (listing_log bytes (record { first = 0; closed = one ∷ two ∷ [] })) (listing_log bytes (record { first = 1; closed = two ∷ [] }))
it_survives_a_drop one two bytes lists =
    through_start (LogDropped add_sum add_sum 18 (record { first = 0; closed = one ∷ two ∷ [] }) 1) (life_of bytes) (it_was_dropped one two bytes lists)

pub it_lost_a_segment : (one two : Closed) (old bytes : List ℕ) → listed_in 18 (records add_sum (text add_sum 18 bytes)) ≡ Some (record { first = 2; closed = [] })
    → DropSurvives add_sum add_sum 1 (listing_log old (record { first = 0; closed = one ∷ two ∷ [] })) (record small { manifest = record with_none { life = next (life_of old) (resting bytes) } }) → ⊥
it_lost_a_segment one two old bytes lists survives =
    one_segment_more one two bytes lists (through_end (LogDropped add_sum add_sum 18 (record { first = 0; closed = one ∷ two ∷ [] }) 1) (life_of old) (next (life_of old) (resting bytes)) survives)
