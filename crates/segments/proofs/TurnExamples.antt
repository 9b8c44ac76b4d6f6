-- What a rotation, an append and a read leave, shown of the logs of `RotationExamples`, and refuted of something nearly right.
use Rattle.std.specs.Prelude.{◌≡◌, ◌≤◌, ◌<◌, ◌+◌, ◌++◌, ℕ, suc, List, [], ◌∷◌, length, Some, None, Ok, Err, true, false, Result}
use Rattle.std.proofs.Common.{refl, sym, ap, subst, inl, inr, arith, length-append, append-nil, ◌∙◌}
use Rattle.disk.specs.Disk.{Disk, IsImage, Life}
use Rattle.disk.specs.declared.error.Error.TheVariants.{WriteFailed}
use Rattle.cache.specs.CacheState.{CacheState}
use Rattle.crash.specs.Guard.{IsChanceFree}
use Rattle.crash.specs.Kept.{Through}
use Rattle.writer_state.specs.WriterState.{WriterState}
use Rattle.segments.specs.declared.call.FolderCall.TheVariants as calls
use Rattle.segments.specs.declared.closed.Closed.{Closed}
use Rattle.segments.specs.declared.entry.Entry.TheVariants.{Closes}
use Rattle.segments.specs.declared.error.Error.{Error}
use Rattle.segments.specs.declared.error.Error.TheVariants as errors
use Rattle.segments.specs.declared.place.Place.{Place}
use Rattle.page_digests.specs.Seals.{HasSecondPreimage}
use Rattle.segments.specs.FolderEvents.{keeping_event, plain_event}
use Rattle.segments.specs.Manifest.{ListingState, free_after, open_in}
use Rattle.segments.specs.Owned.{HasJournal, IsShut, OwnedAppendGoes, OwnedState, content_now, owned_size, records_now, without_journal}
use Rattle.segments.specs.Log.{AppendHereGoes, AreOfOlder, AsksOfOlder, HasMore, IsAppendedTo, IsNotFollowed, IsNotListed, IsRefusedAfter, IsRotated, IsSameButCurrent, LogReadGoes, LogReadRefused, LogState, NextRefused, WasClosed, asked_listing, asked_turning, entered_bytes, log_records}
use Rattle.segments.specs.Kept.{HoldsClosed, IsSealedBy}
use Rattle.segments.specs.Crash.{CurrentSurvives, IsRotationKept, KeepsLog, LogTurned, RotationSurvives, TurnKept, TurnedSurvives, records_left}
use Rattle.segments.specs.Scan.{IsNextAt, IsRefusedFrom, NextGoes, StandBetween, StandBy, records_at}
use Rattle.segments.proofs.Joining.{leaves_start}
use Rattle.segments.proofs.RotationExamples.{first_kind, log, lost, no_twin_where_none_is_closed, nothing_after_it, number, owned, shut}

-- ---- a segment that was closed

pub was_closed : (sum own : List ℕ → ℕ) (d : List ℕ → List ℕ) (s : LogState) (last : Life) (kept : Closed) → HasJournal s.current.journal (λ w. Unit {0}) → IsShut sum own s.page_size (records_now own s.current) last
    → IsSealedBy d s.page_size (content_now s.current) kept → kept.records ≡ length (records_now own s.current) → WasClosed sum own d s last kept
was_closed sum own d s last kept was_open shut of counts = record { was_open = was_open; shut = shut; of = of; counts = counts }

-- one record more was counted
pub not_one_record_more : (sum own : List ℕ → ℕ) (d : List ℕ → List ℕ) (s : LogState) (last : Life) (kept : Closed) → kept.records ≡ suc (length (records_now own s.current))
    → WasClosed sum own d s last kept → ⊥
not_one_record_more sum own d s last kept more was = absurd (omega (arith, more, was.counts))

-- ---- a rotation that failed

-- no number is left
abbrev last_one : CacheState → Life → WriterState → LogState
last_one cache life w = record (shut cache life w) { listing = record { first = 18446744073709551615; closed = [] } }

pub no_number : (cache : CacheState) (life : Life) (w : WriterState) → NextRefused (last_one cache life w) (last_one cache life w) errors.NumbersExhausted
no_number cache life w = (omega arith, refl)

-- numbers are left
pub a_number_is_left : (cache : CacheState) (life : Life) (w : WriterState) → NextRefused (log cache life w) (log cache life w) errors.NumbersExhausted → ⊥
a_number_is_left cache life w is = absurd (omega (arith, is.0))

-- the list was written before, and no file was opened
abbrev unopened : (d : List ℕ → List ℕ) → CacheState → Life → WriterState → LogState
unopened d cache life w = record (last_one cache life w) { asked = asked_listing d (last_one cache life w) }

pub not_followed : (sum own : List ℕ → ℕ) (d : List ℕ → List ℕ) (cache : CacheState) (life : Life) (w : WriterState) → IsShut sum own 40 [] life
    → IsNotFollowed sum own d (last_one cache life w) (unopened d cache life w) errors.NumbersExhausted
not_followed sum own d cache life w is =
    record { shut = is; manifest = refl; rest = record { listing = refl; reading = refl; page_size = refl; most = refl; known = refl }; refused = (omega arith, refl) }

-- without its list the segment isn't followed
pub not_unlisted : (sum own : List ℕ → ℕ) (d : List ℕ → List ℕ) (cache : CacheState) (life : Life) (w : WriterState)
    → IsNotFollowed sum own d (last_one cache life w) (last_one cache life w) errors.NumbersExhausted → ⊥
not_unlisted sum own d cache life w is = absurd (omega (arith, ap length is.refused.1))

-- the manifest may not be touched
pub no_manifest_changes : (sum own : List ℕ → ℕ) (d : List ℕ → List ℕ) (cache : CacheState) (life : Life) (w : WriterState)
    → IsNotFollowed sum own d (log cache life w) (record (shut cache life w) { manifest = without_journal (owned cache life w) }) errors.NumbersExhausted → ⊥
no_manifest_changes sum own d cache life w is = absurd (cc (ap (λ (o : OwnedState). o.journal) is.manifest))

-- the manifest couldn't be written, after the closed blob went back
pub not_listed : (sum own : List ℕ → ℕ) (d : List ℕ → List ℕ) (cache : CacheState) (life last : Life) (w : WriterState) (kept : Closed) → WasClosed sum own d (log cache life w) last kept
    → IsNotListed sum own d (log cache life w) (record (shut cache life w) { manifest = without_journal (owned cache life w); asked = asked_turning d (log cache life w) last })
    (errors.Layer WriteFailed)
not_listed sum own d cache life last w kept was =
    record { last = last; kept = kept; closed = was; numbered = λ is. absurd (omega (arith, is)); asked = refl; rest = record { listing = refl; reading = refl; page_size = refl; most = refl; known = refl }; left = inr refl; refused = tt }

-- the manifest may not be written before
pub not_listed_early : (sum own : List ℕ → ℕ) (d : List ℕ → List ℕ) (cache : CacheState) (life : Life) (w : WriterState)
    → IsNotListed sum own d (log cache life w) (record (shut cache life w) { manifest = without_journal (owned cache life w) }) (errors.Layer WriteFailed) → ⊥
not_listed_early sum own d cache life w is = absurd (omega (arith, ap first_kind is.asked))

-- ---- a rotation

pub rotated : (sum own : List ℕ → ℕ) (d : List ℕ → List ℕ) (cache : CacheState) (life last : Life) (w : WriterState) (manifest next : OwnedState) (v : WriterState) (kept : Closed) → WasClosed sum own d (log cache life w) last kept
    → records_now own (record manifest { journal = Some v }) ≡ records_now own (owned cache life w) ++ entered_bytes (Closes kept) (log cache life w) ∷ []
    → 18 ≤ free_after 40 (owned_size (Some v)) → records_now own (record next { journal = Some v }) ≡ []
    → IsRotated sum own d (log cache life w) (record (log cache life w) {
      manifest = record manifest { journal = Some v };
      current = record next { journal = Some v };
      listing = record { first = 3; closed = kept ∷ [] };
      asked = asked_turning d (log cache life w) last ++ keeping_event 4 0 manifest.life.present.readable false ∷ [];
    })
rotated sum own d cache life last w manifest next v kept was entries room none = record {
  last = last;
  kept = kept;
  closed = was;
  listing = refl;
  entries = entries;
  room = λ big. room;
  listed = tt;
  there = tt;
  none = none;
  copied = record { failed = false; asked = refl };
  known = refl;
  reading = refl;
  page_size = refl;
  most = refl;
}

-- ---- an append

pub refused_after : (sum own : List ℕ → ℕ) (d : List ℕ → List ℕ) (bytes : List ℕ) (s m t : LogState) (e : Error) → IsRotated sum own d s m → IsSameButCurrent m t
    → OwnedAppendGoes sum own bytes m.current t.current (Err e) → IsRefusedAfter sum own d bytes s t e
refused_after sum own d bytes s m t e turned rest refused = record { mid = m; turned = turned; rest = rest; refused = refused }

turned_first : (sum own : List ℕ → ℕ) (d : List ℕ → List ℕ) (s m : LogState) → IsRotated sum own d s m → m.listing.first ≡ s.listing.first
turned_first sum own d s m turned = ap (λ (l : ListingState). l.first) turned.listing

-- the closed segments may not go
pub not_refused_after_a_loss : (sum own : List ℕ → ℕ) (d : List ℕ → List ℕ) (cache : CacheState) (life : Life) (w : WriterState)
    → IsRefusedAfter sum own d (7 ∷ []) (log cache life w) (lost cache life w) (errors.Layer WriteFailed) → ⊥
not_refused_after_a_loss sum own d cache life w is =
    let turned = turned_first sum own d (log cache life w) is.mid is.turned in
    absurd (omega (arith, ap (λ (l : ListingState). l.first) is.rest.listing, turned))

pub appended_to : (sum own : List ℕ → ℕ) (d : List ℕ → List ℕ) (bytes : List ℕ) (s t : LogState) (p : Place) → owned_size s.current.journal < s.most → AppendHereGoes sum own bytes s t (Ok p) → IsSameButCurrent s t
    → IsAppendedTo sum own d bytes s t p
appended_to sum own d bytes s t p short here rest = record { mid = s; before = inl (refl, short); here = here; rest = rest }

-- a place in another segment than the open one or the next
pub not_in_segment_5 : (sum own : List ℕ → ℕ) (d : List ℕ → List ℕ) (cache : CacheState) (life : Life) (w : WriterState) (t : LogState)
    → IsAppendedTo sum own d (7 ∷ []) (log cache life w) t (record { segment = 5; offset = 0 }) → ⊥
not_in_segment_5 sum own d cache life w t is = elim (is.before) [
  | inl same ↦ absurd (omega (arith, is.here.0, ap (λ (m : LogState). open_in m.listing) same.0))
  | inr turned ↦ absurd (omega (arith, is.here.0, ap (λ (l : ListingState). open_in l) turned.0.listing))
]

-- ---- the records

pub none_more : (sum own : List ℕ → ℕ) (d : List ℕ → List ℕ) (s : LogState) → HasMore sum own d [] s s
none_more sum own d s held tells = inl (sym (append-nil (log_records own held s)))

longer : (rs : List (List ℕ)) (x : List ℕ) → rs ≡ rs ++ x ∷ [] → ⊥
longer rs x is = absurd (omega (arith, ap length is, length-append rs (x ∷ [])))

-- a digest that is the string itself
abbrev itself : List ℕ → List ℕ
itself bytes = bytes

-- no other string has it
none_by_itself : (P : ℕ) (content : List ℕ) → HasSecondPreimage itself P content → ⊥
none_by_itself P content (inl (other, is)) = is.differ is.digest
none_by_itself P content (inr (inl (i, other, within, is))) = is.differ is.digest
none_by_itself P content (inr (inr (i, other, within, is))) = is.differ is.digest

-- a record may not be said to be there that isn't
pub not_one_more : (sum own : List ℕ → ℕ) (cache : CacheState) (life : Life) (w : WriterState) (x : List ℕ) → HasMore sum own itself (x ∷ []) (log cache life w) (log cache life w) → ⊥
not_one_more sum own cache life w x has = elim (has (λ n. []) tt) [
  | inl same ↦ longer (log_records own (λ n. []) (log cache life w)) x same
  | inr twin ↦ none_by_itself 40 _ twin
]

pub nothing_between : (sum own : List ℕ → ℕ) (d : List ℕ → List ℕ) (s : LogState) (p : Place) → StandBetween sum own d s [] p p
nothing_between sum own d s p held tells = inl refl

shorter : (x : List ℕ) (rs : List (List ℕ)) → rs ≡ x ∷ rs → ⊥
shorter x rs is = absurd (omega (arith, ap length is))

pub nothing_by : (sum own : List ℕ → ℕ) (d : List ℕ → List ℕ) (P : ℕ) (l : ListingState) (content : List ℕ) (p : Place) → StandBy sum own d P l content [] p p
nothing_by sum own d P l content p held tells = inl refl

-- between a place and itself stands no record
pub no_record_by : (sum own : List ℕ → ℕ) (d : List ℕ → List ℕ) (content x : List ℕ) (p : Place) → StandBy sum own d 40 (record { first = 3; closed = [] }) content (x ∷ []) p p → ⊥
no_record_by sum own d content x p is = elim (is (λ n. []) tt) [
  | inl same ↦ shorter x (records_at own (λ n. []) (record { first = 3; closed = [] }) content p) same
  | inr twin ↦ no_twin_where_none_is_closed sum d 40 (λ n. []) twin
]

pub no_record_between : (sum own : List ℕ → ℕ) (d : List ℕ → List ℕ) (cache : CacheState) (life : Life) (w : WriterState) (x : List ℕ) (p : Place) → StandBetween sum own d (log cache life w) (x ∷ []) p p → ⊥
no_record_between sum own d cache life w x p is = elim (is (λ n. []) tt) [
  | inl same ↦ shorter x _ same
  | inr twin ↦ no_twin_where_none_is_closed sum d 40 (λ n. []) twin
]

pub next_at : (sum own : List ℕ → ℕ) (d : List ℕ → List ℕ) (s : LogState) (from behind : Place) (x : List ℕ) → StandBetween sum own d s (x ∷ []) from behind → IsNextAt sum own d s from from behind x
next_at sum own d s from behind x is = (nothing_between sum own d s from, is)

-- a place may not stay before its record
pub no_place_stays : (sum own : List ℕ → ℕ) (d : List ℕ → List ℕ) (cache : CacheState) (life : Life) (w : WriterState) (x : List ℕ) (p : Place) → IsNextAt sum own d (log cache life w) p p p x → ⊥
no_place_stays sum own d cache life w x p is = no_record_between sum own d cache life w x p is.1

-- ---- a read

pub no_segment_7 : (own : List ℕ → ℕ) (d : List ℕ → List ℕ) (cache : CacheState) (life : Life) (w : WriterState)
    → LogReadRefused own d (log cache life w) (log cache life w) (record { segment = 7; offset = 0 }) (errors.NoSegment 7)
no_segment_7 own d cache life w = (refl, λ is. absurd (omega (arith, is)), refl)

-- the open segment isn't compared
pub the_open_is_not_damaged : (own : List ℕ → ℕ) (d : List ℕ → List ℕ) (cache : CacheState) (life : Life) (w : WriterState)
    → LogReadRefused own d (log cache life w) (log cache life w) (record { segment = 3; offset = 0 }) (errors.Damaged 3) → ⊥
the_open_is_not_damaged own d cache life w is = absurd (cc is.1.1)

pub a_refused_read : (sum own : List ℕ → ℕ) (d : List ℕ → List ℕ) (cache : CacheState) (life : Life) (w : WriterState)
    → LogReadGoes sum own d (log cache life w) (log cache life w) (record { segment = 7; offset = 0 }) (Err (errors.NoSegment 7))
a_refused_read sum own d cache life w = no_segment_7 own d cache life w

-- of a segment that isn't there nothing can be said
pub no_end_of_segment_7 : (sum own : List ℕ → ℕ) (d : List ℕ → List ℕ) (cache : CacheState) (life : Life) (w : WriterState)
    → LogReadGoes sum own d (log cache life w) (log cache life w) (record { segment = 7; offset = 0 }) (Ok None) → ⊥
no_end_of_segment_7 sum own d cache life w is = elim is [ inl here ↦ absurd (omega (arith, here.0)) | inr closed ↦ absurd (cc closed.1) ]

pub refused_from : (sum own : List ℕ → ℕ) (d : List ℕ → List ℕ) (cache : CacheState) (life : Life) (w : WriterState)
    → IsRefusedFrom sum own d (log cache life w) (log cache life w) (record { segment = 7; offset = 0 }) (errors.NoSegment 7)
refused_from sum own d cache life w = record {
  at = record { segment = 7; offset = 0 };
  mid = log cache life w;
  further = inl refl;
  none = nothing_between sum own d (log cache life w) (record { segment = 7; offset = 0 });
  reads = leaves_start sum own (log cache life w);
  refused = no_segment_7 own d cache life w;
}

-- no read answers that a file is too short
pub not_as_too_short : (sum own : List ℕ → ℕ) (d : List ℕ → List ℕ) (s t : LogState) (p : Place) (n : ℕ) → IsRefusedFrom sum own d s t p (errors.Short n) → ⊥
not_as_too_short sum own d s t p n is = is.refused

pub a_refused_next : (sum own : List ℕ → ℕ) (d : List ℕ → List ℕ) (cache : CacheState) (life : Life) (w : WriterState)
    → NextGoes sum own d (log cache life w) (log cache life w) (record { segment = 7; offset = 0 }) (record { segment = 7; offset = 0 }) (Err (errors.NoSegment 7))
a_refused_next sum own d cache life w = (refl, refused_from sum own d cache life w)

-- an error may not move the place
pub no_error_moves : (sum own : List ℕ → ℕ) (d : List ℕ → List ℕ) (cache : CacheState) (life : Life) (w : WriterState)
    → NextGoes sum own d (log cache life w) (log cache life w) (record { segment = 7; offset = 0 }) (record { segment = 8; offset = 0 }) (Err (errors.NoSegment 7)) → ⊥
no_error_moves sum own d cache life w is = absurd (omega (arith, ap (λ (p : Place). p.segment) is.0))

-- ---- removals

pub oldest_first : AreOfOlder 0 2 (plain_event (calls.Removes 0) false ∷ plain_event (calls.Removes 1) true ∷ plain_event calls.Syncs false ∷ [])
oldest_first = inl (0, omega arith, omega arith, refl, inl (1, omega arith, omega arith, refl, inr (refl, tt)))

pub not_newest_first : AreOfOlder 0 2 (plain_event (calls.Removes 1) false ∷ plain_event (calls.Removes 0) false ∷ []) → ⊥
not_newest_first is = elim is [
  | inl one ↦ elim (one.4) [
    | inl other ↦ absurd (omega (arith, ap number one.3, ap number other.3, other.1))
    | inr synced ↦ absurd (cc synced.0)
  ]
  | inr synced ↦ absurd (cc synced.0)
]

pub asks_of_older : AsksOfOlder 1 [] (plain_event (calls.Removes 0) false ∷ [])
asks_of_older = record { events = plain_event (calls.Removes 0) false ∷ []; all = refl; below = inl (0, omega arith, omega arith, refl, tt) }

-- an opening is none of these calls
pub no_opening : AsksOfOlder 1 [] (plain_event (calls.Opens 0) false ∷ []) → ⊥
no_opening is = elim (subst (λ es. AreOfOlder 0 1 es) (sym is.all) is.below) [ inl one ↦ absurd (cc one.3) | inr synced ↦ absurd (cc synced.0) ]

-- ---- a crash in a rotation

pub turned_if : (sum own : List ℕ → ℕ) (d : List ℕ → List ℕ) (P : ℕ) (held : ℕ → List ℕ) (all : List (List ℕ)) (k : ℕ) (last next m : Disk)
    → ((manifest : List ℕ) (file : ℕ → List ℕ) → records_left sum own P held file manifest ≡ Some all) → LogTurned sum own d P held all k last next m
turned_if sum own d P held all k last next m all_back manifest image free file at_k at_next free_next = inl (all_back manifest file)

-- a manifest that can't be read brings nothing back
pub not_turned : (sum own : List ℕ → ℕ) (all : List (List ℕ)) (k : ℕ) (last next m : Disk) (manifest : List ℕ) (file : ℕ → List ℕ)
    → IsImage m manifest → IsChanceFree sum 40 m manifest → IsImage last (file k) → IsImage next (file (k + 1)) → IsChanceFree sum 40 next (file (k + 1))
    → records_left sum own 40 (λ n. []) file manifest ≡ None → LogTurned sum own itself 40 (λ n. []) all k last next m → ⊥
not_turned sum own all k last next m manifest file image free at_k at_next free_next none is = elim (is manifest image free file at_k at_next free_next) [
  | inl some ↦ absurd (cc (sym none ∙ some))
  | inr twin ↦ none_by_itself 40 [] twin
]

pub turn_kept : (sum own : List ℕ → ℕ) (d : List ℕ → List ℕ) (held : ℕ → List ℕ) (cache : CacheState) (life last : Life) (w : WriterState) (kept : Closed) → KeepsLog sum own held (log cache life w) [] life last
    → IsSealedBy d 40 (content_now (owned cache life w)) kept
    → (HoldsClosed sum d 40 kept (held 3) → Through (LogTurned sum own d 40 held (log_records own held (log cache life w)) 3 last.present life.present) life life)
    → TurnKept sum own d held (log cache life w) (record (log cache life w) { asked = asked_turning d (log cache life w) last })
turn_kept sum own d held cache life last w kept closing of turning =
    record { last = last; kept = kept; gone = nothing_after_it d cache life last w; closing = closing; of = of; turning = turning }

-- a blob that didn't go back
pub not_kept : (sum own : List ℕ → ℕ) (d : List ℕ → List ℕ) (held : ℕ → List ℕ) (cache : CacheState) (life : Life) (w : WriterState) → TurnKept sum own d held (log cache life w) (log cache life w) → ⊥
not_kept sum own d held cache life w is = absurd (omega (arith, ap first_kind is.gone.asked))

pub ended_before : (sum own : List ℕ → ℕ) (d : List ℕ → List ℕ) (held : ℕ → List ℕ) (s : LogState) → KeepsLog sum own held s [] s.current.life s.current.life → IsRotationKept sum own d held s s
ended_before sum own d held s keeps = inl (refl, keeps)

pub no_entry_alone : (sum own : List ℕ → ℕ) (d : List ℕ → List ℕ) (held : ℕ → List ℕ) (cache : CacheState) (life : Life) (w : WriterState)
    → IsRotationKept sum own d held (log cache life w) (record (log cache life w) { manifest = without_journal (owned cache life w) }) → ⊥
no_entry_alone sum own d held cache life w is = elim is [
  | inl same ↦ absurd (cc (ap (λ (o : OwnedState). o.journal) same.0))
  | inr turned ↦ absurd (omega (arith, ap first_kind turned.gone.asked))
]

pub turned_survives : (sum own : List ℕ → ℕ) (d : List ℕ → List ℕ) (bytes : List ℕ) (s m t : LogState) (result : Result Place Error) → IsRotated sum own d s m → AppendHereGoes sum own bytes m t result → IsSameButCurrent m t → RotationSurvives sum own d s m
    → CurrentSurvives sum own (bytes ∷ []) m t → TurnedSurvives sum own d bytes s t result
turned_survives sum own d bytes s m t result turned here rest turns appends = record { mid = m; turned = turned; here = here; rest = rest; turns = turns; appends = appends }

-- a log that counts another segment as the first one
pub no_loss_survives : (sum own : List ℕ → ℕ) (d : List ℕ → List ℕ) (cache : CacheState) (life : Life) (w : WriterState) (result : Result Place Error) → TurnedSurvives sum own d (7 ∷ []) (log cache life w) (lost cache life w) result → ⊥
no_loss_survives sum own d cache life w result is =
    let turned = turned_first sum own d (log cache life w) is.mid is.turned in
    absurd (omega (arith, ap (λ (l : ListingState). l.first) is.rest.listing, turned))
