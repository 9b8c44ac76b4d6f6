-- What a rotation and an append leave, shown of small logs, and refuted of something nearly right. Segment 3 is open, no
-- segment is closed, and a page has 40 bytes. The journals and the life of the blobs are any.
use Rattle.std.specs.Prelude.{◌≡◌, ◌-◌, ◌++◌, ℕ, zero, suc, List, [], ◌∷◌, length, nat_lt, replicate, slice_get, Option, Some, None, Err, Bool, true, false, if◌then◌else◌}
use Rattle.std.proofs.Common.{refl, ap, subst, inl, inr, arith, sym, ◌∙◌}
use Rattle.disk.specs.Disk.{IsImage, Life}
use Rattle.disk.specs.declared.error.Error.TheVariants.{WriteFailed}
use Rattle.cache.specs.CacheState.{CacheState}
use Rattle.page.specs.Page.{text}
use Rattle.page.specs.Sums.{add_sum}
use Rattle.paged.specs.Reads.{size_of}
use Rattle.journal.specs.declared.frame.Found.{Found}
use Rattle.journal.specs.Frame.{records}
use Rattle.writer_state.specs.WriterState.{WriterState}
use Rattle.segments.specs.declared.call.FolderCall.{FolderCall}
use Rattle.segments.specs.declared.call.FolderCall.TheVariants as calls
use Rattle.segments.specs.declared.closed.Closed.{Closed}
use Rattle.segments.specs.declared.closed.Fingerprint.TheVariants.{Whole}
use Rattle.segments.specs.declared.entry.Entry.TheVariants.{Closes}
use Rattle.segments.specs.declared.error.Error.TheVariants as errors
use Rattle.segments.specs.FolderEvents.{FolderEvent, closing_event, keeping_event, opening_with, plain_event}
use Rattle.segments.specs.Manifest.{ListingState, closed_by, entry_bytes, free_after, listed_in, padded, padding, whole_in}
use Rattle.segments.specs.Owned.{OwnedState, without_journal}
use Rattle.segments.specs.Log.{AppendRefused, HasFollowed, HasTwinAt, HasTwinIn, IsClosedIn, IsNotClosed, IsReadOfClosed, IsRotated, IsSameButCurrent, ListsTheSame, LogAppendGoes, LogState, ReadFails, RotateGoes, TellHeld, asked_turning, entered_bytes, listing_event}
use Rattle.segments.specs.Kept.{HasTwinOf}
use Rattle.segments.specs.Crash.{AppendSurvives, HasLetGo, ListsFrom, RemovesUnlisted, RotationSurvives, WasRemoved}
use Rattle.segments.proofs.KeptExamples.{empty, it_holds_no_byte, it_holds_nothing, none_of_an_empty_file}

-- ---- closed segments

abbrev pub one_closed : ListingState
one_closed = record { first = 0; closed = empty ∷ [] }

pub is_closed : IsClosedIn one_closed 0
is_closed = (empty, refl)

-- the open segment isn't closed
pub the_open_is_not : IsClosedIn one_closed 1 → ⊥
the_open_is_not is = absurd (cc is.1)

pub a_twin_at_segment_0 : (sum : List ℕ → ℕ) (d : List ℕ → List ℕ) (P : ℕ) (held : ℕ → List ℕ) (kept : Closed) → HasTwinOf sum d P kept (held 0) → HasTwinAt sum d P held (record { first = 0; closed = kept ∷ [] }) 0
a_twin_at_segment_0 sum d P held kept has = (kept, refl, has)

-- of the open segment nothing was kept
pub no_twin_at_the_open_one : (sum : List ℕ → ℕ) (d : List ℕ → List ℕ) (P : ℕ) (held : ℕ → List ℕ) → HasTwinAt sum d P held one_closed 1 → ⊥
no_twin_at_the_open_one sum d P held has = absurd (cc has.1)

pub a_twin_of_segment_0 : (sum : List ℕ → ℕ) (d : List ℕ → List ℕ) (P : ℕ) (held : ℕ → List ℕ) (kept : Closed) → HasTwinOf sum d P kept (held 0) → HasTwinIn sum d P held (record { first = 0; closed = kept ∷ [] })
a_twin_of_segment_0 sum d P held kept has = (0, a_twin_at_segment_0 sum d P held kept has)

no_other : (b : Bool) (k : ℕ) (kept : Closed) → (if b then None else slice_get (empty ∷ []) k) ≡ Some kept → empty ≡ kept
no_other true k kept is = absurd (cc is)
no_other false zero kept is = ap (λ o. or_empty o) is where
  or_empty : Option Closed → Closed
  or_empty None = empty
  or_empty (Some c) = c
no_other false (suc k) kept is = absurd (cc is)

-- the only closed segment was empty
pub no_twin_of_nothing : (sum : List ℕ → ℕ) (d : List ℕ → List ℕ) (P : ℕ) (held : ℕ → List ℕ) → HasTwinIn sum d P held one_closed → ⊥
no_twin_of_nothing sum d P held has =
    let same = no_other (nat_lt has.0 0) (has.0 - 0) has.1.0 has.1.1 in
    none_of_an_empty_file sum d P (held has.0) (subst (λ kept. HasTwinOf sum d P kept (held has.0)) (sym same) has.1.2)

not_listed : (b : Bool) (k : ℕ) (kept : Closed) → (if b then None else slice_get [] k) ≡ Some kept → ⊥
not_listed true k kept is = absurd (cc is)
not_listed false k kept is = absurd (cc is)

-- no segment is closed
pub no_twin_where_none_is_closed : (sum : List ℕ → ℕ) (d : List ℕ → List ℕ) (P : ℕ) (held : ℕ → List ℕ) → HasTwinIn sum d P held (record { first = 3; closed = [] }) → ⊥
no_twin_where_none_is_closed sum d P held has = not_listed (nat_lt has.0 3) (has.0 - 3) has.1.0 has.1.1

-- ---- an empty file

-- so the segment held no byte
pub it_holds_one_byte : (d : List ℕ → List ℕ) (b : ℕ) → TellHeld add_sum d 18 (λ n. b ∷ []) 0 (empty ∷ []) → ⊥
it_holds_one_byte d b is = it_holds_no_byte d b is.0

-- no frame is found in it
pub nothing_is_found : (own : List ℕ → ℕ) (d : List ℕ → List ℕ) (f : Found) → IsReadOfClosed add_sum own d 18 empty 0 (Some f) → ⊥
nothing_is_found own d f is = elim (is.reads [] (it_holds_nothing d)) [
  | inl found ↦ absurd (omega (arith, found.within))
  | inr twin ↦ none_of_an_empty_file add_sum d 18 [] twin
]

-- ---- room behind an entry

pub page_is_free : free_after 40 81 ≡ 39
page_is_free = refl

pub no_page_is_begun : free_after 40 80 ≡ 0
no_page_is_begun = refl

-- 18 and 56 bytes leave 6 of the second page
pub seven_zeros : padding 40 18 56 ≡ 7
seven_zeros = refl

-- the frame of a segment that is known by its pages has one more
pub six_zeros : padding 40 18 57 ≡ 6
six_zeros = refl

pub room_without_zeros : padding 4084 18 56 ≡ 0
room_without_zeros = refl

-- 16 would be free
pub seventeen_zeros : padding 4084 4012 56 ≡ 17
seventeen_zeros = refl

-- a page of 18 bytes has no such room
pub small_page : padding 18 18 56 ≡ 0
small_page = refl

pub with_zeros : padded 40 18 (Closes empty) ≡ entry_bytes (Closes empty) ++ 0 ∷ 0 ∷ 0 ∷ 0 ∷ 0 ∷ 0 ∷ 0 ∷ []
with_zeros = refl

-- an entry with a digest of nines
abbrev pub nines : Closed
nines = closed_by 0 (Whole (record { len = 0; digest = replicate 32 9 }))

pub zeros_behind : whole_in (entry_bytes (Closes nines) ++ 0 ∷ 0 ∷ []) ≡ Some (Closes nines)
zeros_behind = refl

pub not_zeros_behind : whole_in (entry_bytes (Closes nines) ++ 0 ∷ 1 ∷ []) ≡ None
not_zeros_behind = refl

-- ---- a log

abbrev pub owned : CacheState → Life → WriterState → OwnedState
owned cache life w = record { cache = cache; life = life; journal = Some w; page_size = 40; records = 0; digested = 0 }

abbrev pub log : CacheState → Life → WriterState → LogState
log cache life w =
    record { manifest = owned cache life w; current = owned cache life w; listing = record { first = 3; closed = [] }; asked = []; reading = record { whole = None; paged = [] }; page_size = 40; most = 20; known = 0 }

-- the same, closed since a call before failed
abbrev pub shut : CacheState → Life → WriterState → LogState
shut cache life w = record (log cache life w) { current = without_journal (owned cache life w) }

pub entered_with_zeros : (cache : CacheState) (life : Life) (w : WriterState) → size_of w ≡ 18
    → entered_bytes (Closes empty) (log cache life w) ≡ entry_bytes (Closes empty) ++ replicate 7 0
entered_with_zeros cache life w is = ap (λ n. padded 40 n (Closes empty)) is

-- ---- the folder's record

-- which call it is, as a number
abbrev kind : FolderCall → ℕ
kind (calls.Keeps segment len) = 0
kind (calls.Removes segment) = 1
kind calls.Syncs = 2
kind calls.OpensManifest = 3
kind (calls.Opens segment) = 4
kind (calls.Closes segment) = 5
kind (calls.WritesList segment) = 6

abbrev pub number : FolderCall → ℕ
number (calls.Keeps segment len) = segment
number (calls.Removes segment) = segment
number calls.Syncs = 0
number calls.OpensManifest = 0
number (calls.Opens segment) = segment
number (calls.Closes segment) = segment
number (calls.WritesList segment) = segment

abbrev pub first_kind : List FolderEvent → ℕ
first_kind [] = 9
first_kind (e ∷ es) = kind e.call

abbrev bytes_given : List FolderEvent → ℕ
bytes_given [] = 0
bytes_given (e ∷ es) = length e.given

pub what_closing_notes : (life : Life) → closing_event 3 life (7 ∷ []) ≡ record { call = calls.Closes 3; failed = false; given = 7 ∷ []; closed = Some life }
what_closing_notes life = refl

pub asked_in_order : (d : List ℕ → List ℕ) (cache : CacheState) (life last : Life) (w : WriterState)
    → asked_turning d (log cache life w) last
    ≡ listing_event d (log cache life w) false ∷ opening_with (calls.Opens 4) [] ∷ plain_event calls.Syncs false ∷ closing_event 3 last life.present.readable ∷ []
asked_in_order d cache life last w = refl

pub followed : (cache : CacheState) (life : Life) (w : WriterState) (next : OwnedState)
    → HasFollowed next (log cache life w) (record (log cache life w) { current = next; asked = closing_event 3 life life.present.readable ∷ [] })
followed cache life w next = record { asked = refl; rest = refl }

-- the manifest may not have its entry before the blob went back
pub not_listed_before : (cache : CacheState) (life : Life) (w : WriterState) (next : OwnedState)
    → HasFollowed next (log cache life w) (record (log cache life w) { current = next; asked = closing_event 3 life (7 ∷ life.present.readable) ∷ [] }) → ⊥
not_listed_before cache life w next is = absurd (omega (arith, ap bytes_given is.asked))

pub nothing_after_it : (d : List ℕ → List ℕ) (cache : CacheState) (life last : Life) (w : WriterState)
    → HasLetGo d (log cache life w) last (record (log cache life w) { asked = asked_turning d (log cache life w) last })
nothing_after_it d cache life last w = record { after = []; asked = refl }

-- a blob that didn't go back
pub not_let_go : (d : List ℕ → List ℕ) (cache : CacheState) (life last : Life) (w : WriterState) → HasLetGo d (log cache life w) last (log cache life w) → ⊥
not_let_go d cache life last w is = absurd (omega (arith, ap first_kind is.asked))

pub lists_the_same : (cache : CacheState) (life : Life) (w : WriterState) → ListsTheSame (log cache life w) (shut cache life w)
lists_the_same cache life w = record { listing = refl; reading = refl; page_size = refl; most = refl; known = refl }

-- a log that counts segment 3 as gone
abbrev pub lost : CacheState → Life → WriterState → LogState
lost cache life w = record (shut cache life w) { listing = record { first = 4; closed = [] } }

pub not_one_less : (cache : CacheState) (life : Life) (w : WriterState) → ListsTheSame (log cache life w) (lost cache life w) → ⊥
not_one_less cache life w is = absurd (omega (arith, ap (λ (l : ListingState). l.first) is.listing))

-- ---- a rotation

same_but_current : (cache : CacheState) (life : Life) (w : WriterState) → IsSameButCurrent (shut cache life w) (shut cache life w)
same_but_current cache life w = record { manifest = refl; listing = refl; asked = refl; reading = refl; page_size = refl; most = refl; known = refl }

module _ (sum own : List ℕ → ℕ) (cache : CacheState) (life : Life) (w : WriterState) where
  nothing_kept : (kept : Closed) → ◌≡◌ {A = ListingState} (record { first = 4; closed = [] }) (record { first = 3; closed = [] ++ kept ∷ [] }) → ⊥
  nothing_kept kept is = absurd (omega (arith, ap (λ (l : ListingState). l.first) is))

pub closed_before : (sum own : List ℕ → ℕ) (d : List ℕ → List ℕ) (cache : CacheState) (life : Life) (w : WriterState) → IsNotClosed sum own d (shut cache life w) (shut cache life w) errors.Closed
closed_before sum own d cache life w = record { rest = same_but_current cache life w; refused = (refl, refl) }

-- an open log doesn't refuse as closed
pub not_closed_before : (sum own : List ℕ → ℕ) (d : List ℕ → List ℕ) (cache : CacheState) (life : Life) (w : WriterState) → IsNotClosed sum own d (log cache life w) (log cache life w) errors.Closed → ⊥
not_closed_before sum own d cache life w is = absurd (cc is.refused.0)

pub a_refused_rotation : (sum own : List ℕ → ℕ) (d : List ℕ → List ℕ) (cache : CacheState) (life : Life) (w : WriterState) → RotateGoes sum own d (shut cache life w) (shut cache life w) (Err errors.Closed)
a_refused_rotation sum own d cache life w = (refl, inl (closed_before sum own d cache life w))

-- after an error no segment may be left out, whatever the error is
pub no_segment_is_lost : (sum own : List ℕ → ℕ) (d : List ℕ → List ℕ) (cache : CacheState) (life : Life) (w : WriterState)
    → RotateGoes sum own d (log cache life w) (lost cache life w) (Err (errors.Layer WriteFailed)) → ⊥
no_segment_is_lost sum own d cache life w is = elim (is.1) [
  | inl none ↦ absurd (omega (arith, ap (λ (l : ListingState). l.first) none.rest.listing))
  | inr later ↦ elim later [
    | inl closed ↦ not_one_less cache life w closed.rest
    | inr written ↦ elim written [
      | inl closed ↦ not_one_less cache life w closed.rest
      | inr turned ↦ not_one_less cache life w turned.rest
    ]
  ]
]

-- a rotation that lists the segment, and never let its blob go
pub not_rotated : (sum own : List ℕ → ℕ) (d : List ℕ → List ℕ) (cache : CacheState) (life : Life) (w : WriterState)
    → IsRotated sum own d (log cache life w) (record (log cache life w) { listing = one_closed; asked = keeping_event 4 0 life.present.readable false ∷ [] }) → ⊥
not_rotated sum own d cache life w is = absurd (omega (arith, ap first_kind is.copied.asked))

-- ---- an append

pub a_refused_append : (sum own : List ℕ → ℕ) (d : List ℕ → List ℕ) (cache : CacheState) (life : Life) (w : WriterState) → AppendRefused sum own d (7 ∷ []) (shut cache life w) (shut cache life w) errors.Closed
a_refused_append sum own d cache life w = inl (omega arith, same_but_current cache life w, (refl, refl))

pub an_append_to_a_closed_log : (sum own : List ℕ → ℕ) (d : List ℕ → List ℕ) (cache : CacheState) (life : Life) (w : WriterState)
    → LogAppendGoes sum own d (7 ∷ []) (shut cache life w) (shut cache life w) (Err errors.Closed)
an_append_to_a_closed_log sum own d cache life w = (refl, a_refused_append sum own d cache life w)

-- an append that fails may erase no closed segment
pub no_append_erases : (sum own : List ℕ → ℕ) (d : List ℕ → List ℕ) (cache : CacheState) (life : Life) (w : WriterState)
    → AppendRefused sum own d (7 ∷ []) (log cache life w) (lost cache life w) (errors.Layer WriteFailed) → ⊥
no_append_erases sum own d cache life w is = elim is [
  | inl here ↦ absurd (omega (arith, ap (λ (l : ListingState). l.first) here.1.listing))
  | inr turned ↦ elim (turned.1) [
    | inl failed ↦ no_segment_is_lost sum own d cache life w failed
    | inr after ↦ nothing_kept sum own cache life w after.turned.kept (after.rest.listing ∙ after.turned.listing)
  ]
]

pub a_closed_log_survives : (sum own : List ℕ → ℕ) (d : List ℕ → List ℕ) (cache : CacheState) (life : Life) (w : WriterState) → AppendSurvives sum own d (7 ∷ []) (shut cache life w) (shut cache life w) (Err errors.Closed)
a_closed_log_survives sum own d cache life w = inl (same_but_current cache life w, tt)

-- a log that lost a segment doesn't survive, if it goes on
pub a_lost_segment_does_not_survive : (sum own : List ℕ → ℕ) (d : List ℕ → List ℕ) (cache : CacheState) (life : Life) (w : WriterState)
    → AppendSurvives sum own d (7 ∷ []) (log cache life w) (record (log cache life w) { listing = record { first = 4; closed = [] } }) (Err errors.Closed) → ⊥
a_lost_segment_does_not_survive sum own d cache life w is = elim is [
  | inl here ↦ absurd (omega (arith, ap (λ (l : ListingState). l.first) here.0.listing))
  | inr later ↦ elim later [
    | inl failed ↦ absurd (cc failed.0)
    | inr turned ↦ nothing_kept sum own cache life w turned.turned.kept (turned.rest.listing ∙ turned.turned.listing)
  ]
]

pub a_closed_log_turns : (sum own : List ℕ → ℕ) (d : List ℕ → List ℕ) (cache : CacheState) (life : Life) (w : WriterState) → RotationSurvives sum own d (shut cache life w) (shut cache life w)
a_closed_log_turns sum own d cache life w = tt

-- a manifest that changed though no blob went back
pub no_entry_without_a_blob : (sum own : List ℕ → ℕ) (d : List ℕ → List ℕ) (cache : CacheState) (life : Life) (w : WriterState)
    → RotationSurvives sum own d (log cache life w) (record (log cache life w) { manifest = without_journal (owned cache life w) }) → ⊥
no_entry_without_a_blob sum own d cache life w is = elim (is (λ n. [])) [
  | inl same ↦ absurd (cc (ap (λ (o : OwnedState). o.journal) same.0))
  | inr turned ↦ absurd (omega (arith, ap first_kind turned.gone.asked))
]

-- ---- a read

pub a_closed_segment_fails : (own : List ℕ → ℕ) (cache : CacheState) (life : Life) (w : WriterState)
    → ReadFails own (record (log cache life w) { listing = one_closed }) (log cache life w) (record { segment = 0; offset = 0 }) WriteFailed
a_closed_segment_fails own cache life w = inr is_closed

-- of a segment that has no journal no device is asked
pub no_device_is_asked : (own : List ℕ → ℕ) (cache : CacheState) (life : Life) (w : WriterState)
    → ReadFails own (shut cache life w) (shut cache life w) (record { segment = 3; offset = 0 }) WriteFailed → ⊥
no_device_is_asked own cache life w is = elim is [ inl here ↦ absurd (here.1) | inr closed ↦ absurd (cc closed.1) ]

-- ---- what is removed

pub was_removed : WasRemoved 0 (plain_event calls.Syncs false ∷ plain_event (calls.Removes 0) true ∷ [])
was_removed = inr (inl refl)

-- another one was
pub another_was : WasRemoved 1 (plain_event (calls.Removes 0) false ∷ []) → ⊥
another_was is = elim is [ inl same ↦ absurd (omega (arith, ap number same)) | inr none ↦ absurd none ]

pub lists_from : ListsFrom 3 (Some (record { first = 3; closed = [] }))
lists_from = omega arith

pub not_from_a_later_one : ListsFrom 4 (Some (record { first = 3; closed = [] })) → ⊥
not_from_a_later_one is = absurd (omega (arith, is))

pub nothing_is_removed : (sum own : List ℕ → ℕ) (cache : CacheState) (life : Life) (w : WriterState) → RemovesUnlisted sum own (log cache life w) (log cache life w)
nothing_is_removed sum own cache life w events asked segment was = absurd (subst (λ es. WasRemoved segment es) (sym asked) was)

-- a file that the manifest still lists may not be removed
pub a_listed_file_stays : (sum own : List ℕ → ℕ) (cache : CacheState) (life : Life) (w : WriterState) (bytes : List ℕ) → IsImage life.present bytes
    → listed_in 40 (records own (text sum 40 bytes)) ≡ Some (record { first = 3; closed = [] })
    → RemovesUnlisted sum own (log cache life w) (record (log cache life w) { asked = plain_event (calls.Removes 3) false ∷ [] }) → ⊥
a_listed_file_stays sum own cache life w bytes image lists is =
    not_from_a_later_one (subst (λ o. ListsFrom 4 o) lists (is (plain_event (calls.Removes 3) false ∷ []) refl 3 (inl refl) bytes image))
