-- What a log has, and what stands between its calls: what each of these definitions holds of, and
-- what it refuses. The log has two closed segments, number 0 with "c" and number 1 with "d", and
-- segment 2 is open and has "c"; what was kept of the closed ones is any. `small` is a log with an
-- empty manifest, whose segment 0 is open and has "c". What a read of a closed segment finds is in
-- `ReadingExamples`.
use Rattle.std.specs.Prelude.{◌≡◌, ◌<◌, ◌≤◌, ◌++◌, ℕ, zero, suc, List, [], ◌∷◌, length, Bool, true, false, Option, Some, None, Ok, Err}
use Rattle.std.proofs.Common.{refl, sym, subst, ap, inl, inr, arith, ◌∙◌, lit<, lit≤}
use Rattle.disk.specs.declared.error.Error.TheVariants.{WriteFailed}
use Rattle.page.specs.Page.{text}
use Rattle.page.specs.Sums.{add_sum}
use Rattle.journal.specs.declared.frame.Found.{Found}
use Rattle.journal.specs.Frame.{frames, is_record, record_len, record_of, records, whole_frames}
use Rattle.journal.proofs.Frames.{whole_is_whole}
use Rattle.segments.specs.declared.call.FolderCall.TheVariants as calls
use Rattle.page_digests.specs.Seals.{IsSealOf}
use Rattle.segments.specs.declared.closed.Closed.{Closed}
use Rattle.segments.specs.declared.closed.FileDigest.{FileDigest}
use Rattle.segments.specs.declared.closed.Fingerprint.TheVariants.{Whole, Paged}
use Rattle.segments.specs.declared.closed.PagedSeal.{PagedSeal}
use Rattle.segments.specs.declared.error.Error.TheVariants as errors
use Rattle.std.specs.declared.io.Error as io_error
use Rattle.segments.specs.Kept.{IsOf, IsTwin}
use Rattle.segments.specs.FolderEvents.{FolderEvent, plain_event}
use Rattle.segments.specs.Manifest.{ListingState, closed_by, none_closed}
use Rattle.segments.specs.Owned.{IsOwned, OwnedAppendGoes, OwnedState, without_journal}
use Rattle.std.proofs.lemmas.List.Elements.{All-nil}
use Rattle.segments.proofs.Recents.{HasPages}
use Rattle.segments.specs.Log.{AppendHereGoes, AreDone, AsksNoSync, AsksWell, CurrentKeeps, EndsRemoval, EndsSynced, EndsUnsynced, HasKept, IsBeyond, IsClosedLog, IsClosedOff, IsCurrentContent, IsDropped, IsKept, IsListed, IsLog, IsReadOfOpen, IsRefusedDrop, IsSameButAsked, IsSameButCurrent, IsSameButManifest, IsStartedFrom, IsUnsyncedDrop, LeavesReading, Lists, LogAppendGoes, LogState, NoneSyncs, ReadingState, StartsAt, TellHeld, closed_records, listing_from, log_records}
use Rattle.segments.specs.FrameReads.{EndsBehind, IsReadOf}
use Rattle.segments.specs.Kept.{HasTwinOf, HoldsClosed}
use Rattle.segments.proofs.BytesExamples.{c, c_frame, c_page, changed_life, d, d_frame, life_of, none_committed, rests, with_c, with_none, writer}
use Rattle.segments.proofs.OwnedExamples.{another_record, nothing_was_done}

-- no closed segment was read yet
abbrev pub none_read : ReadingState
none_read = record { whole = None; paged = [] }

-- a log of an empty manifest
abbrev pub small : LogState
small = record { manifest = with_none; current = with_c; listing = none_closed; asked = []; reading = none_read; page_size = 18; most = 100; known = 0 }

-- what the closed segments held
abbrev pub held : ℕ → List ℕ
held zero = c_frame
held (suc n) = d_frame

abbrev how_many : Option ListingState → ℕ
how_many None = 9
how_many (Some l) = length l.closed

-- ---- a closed segment

-- what was kept of a segment of one record, by its whole file
abbrev pub by_file : FileDigest → Closed
by_file kept = closed_by 1 (Whole kept)

-- and by its pages
abbrev pub by_pages : PagedSeal → Closed
by_pages kept = closed_by 1 (Paged kept)

pub it_holds_c : (digest : List ℕ → List ℕ) (kept : FileDigest) → IsOf c_page kept → HoldsClosed add_sum digest 18 (by_file kept) c_frame
unfolding record_len frames whole_frames
it_holds_c digest kept is = record { bytes = c_page; of = is; holds = refl }

-- a content doesn't end within a frame
pub a_cut_content : (sum : List ℕ → ℕ) (digest : List ℕ → List ℕ) (P : ℕ) (kept : FileDigest) → HoldsClosed sum digest P (by_file kept) (c_frame ++ 0 ∷ []) → ⊥
unfolding record_len frames whole_frames
a_cut_content sum digest P kept is =
    let whole : whole_frames (c_frame ++ 0 ∷ []) ≡ c_frame ++ 0 ∷ [] =
    ap whole_frames is.holds ∙ whole_is_whole (text sum P is.bytes) ∙ sym is.holds in
    let same : ◌≡◌ {A = ℕ} 8 9 = ap length whole in omega (arith, same)

pub it_has_a_twin : (digest : List ℕ → List ℕ) (kept : FileDigest) (other : List ℕ) → IsOf c_page kept → IsTwin c_page other → HasTwinOf add_sum digest 18 (by_file kept) c_frame
unfolding record_len frames whole_frames
it_has_a_twin digest kept other is twin = record { holds = record { bytes = c_page; of = is; holds = refl }; twin = (other, twin) }

-- what isn't a segment's content has no twin either
pub a_cut_content_has_none : (sum : List ℕ → ℕ) (digest : List ℕ → List ℕ) (P : ℕ) (kept : FileDigest) → HasTwinOf sum digest P (by_file kept) (c_frame ++ 0 ∷ []) → ⊥
a_cut_content_has_none sum digest P kept has = a_cut_content sum digest P kept has.holds

-- ---- a manifest

-- a manifest with nothing in it
pub it_lists_none : Lists add_sum add_sum 18 none_closed (writer []) (life_of [])
unfolding record_len is_record record_of frames records
it_lists_none = record { told = refl; committed = none_committed; durable = rests [] }

-- it has no entry that a segment was closed
pub it_does_not_list_one : (kept : Closed) → Lists add_sum add_sum 18 (record { first = 0; closed = kept ∷ [] }) (writer []) (life_of []) → ⊥
unfolding record_len is_record record_of frames records
it_does_not_list_one kept lists = let same : ◌≡◌ {A = ℕ} 0 1 = ap how_many lists.told in omega (arith, same)

pub a_log : IsOwned add_sum add_sum with_none → IsOwned add_sum add_sum with_c → IsLog add_sum add_sum small
a_log manifest current = record {
  manifest = manifest;
  current = current;
  manifest_pages = refl;
  current_pages = refl;
  lists = it_lists_none;
  reading = record { whole = tt; paged = All-nil (HasPages 18) };
}

-- its listing has a segment that the manifest doesn't have
pub another_listing : (kept : Closed) → IsLog add_sum add_sum (record small { listing = record { first = 0; closed = kept ∷ [] } }) → ⊥
another_listing kept log = it_does_not_list_one kept log.lists

-- the open segment has pages of another size
pub other_pages : (sum own : List ℕ → ℕ) → IsLog sum own (record small { current = record with_c { page_size = 16 } }) → ⊥
other_pages sum own log = let same : ◌≡◌ {A = ℕ} 16 18 = log.current_pages in omega (arith, same)

-- ---- what stays the same

pub the_manifest_changes : IsSameButManifest small (record small { manifest = without_journal with_none })
the_manifest_changes = record { current = refl; reading = refl; page_size = refl; most = refl }

pub the_open_one_may_not : IsSameButManifest small (record small { current = without_journal with_c }) → ⊥
the_open_one_may_not same = absurd (cc (ap (λ (o : OwnedState). o.journal) same.current))

pub the_open_one_changes : IsSameButCurrent small (record small { current = without_journal with_c })
the_open_one_changes = record { manifest = refl; listing = refl; asked = refl; reading = refl; page_size = refl; most = refl; known = refl }

pub the_manifest_may_not : IsSameButCurrent small (record small { manifest = without_journal with_none }) → ⊥
the_manifest_may_not same = absurd (cc (ap (λ (o : OwnedState). o.journal) same.manifest))

pub the_calls_change : (events : List FolderEvent) → IsSameButAsked small (record small { asked = events })
the_calls_change events = refl

pub what_is_known_may_not : (events : List FolderEvent) → IsSameButAsked small (record small { asked = events; known = 8 }) → ⊥
what_is_known_may_not events same = let more : ◌≡◌ {A = ℕ} 8 0 = ap (λ (s : LogState). s.known) same in omega (arith, more)

-- a copy was to be kept, and nothing else was done
pub it_keeps_more : (events : List FolderEvent) → HasKept small (record small { asked = events; known = 8 }) → ⊥
it_keeps_more events kept = let more : ◌≡◌ {A = ℕ} 8 0 = ap (λ (s : LogState). s.known) kept.rest in omega (arith, more)

pub a_call_keeps : CurrentKeeps add_sum add_sum (c ∷ []) small small
a_call_keeps = nothing_was_done

-- another record stands in the place of the one that there was
pub a_call_loses : CurrentKeeps add_sum add_sum (c ∷ []) small (record small { current = record with_c { life = changed_life } }) → ⊥
a_call_loses keeps = another_record keeps

-- ---- a frame of a content

-- the frame of "c" as it is found
abbrev pub c_found : Found
c_found = record { bytes = Some c; end = 8 }

pub a_record_is_read : IsReadOf add_sum c_frame 0 (Some c_found)
unfolding record_len is_record record_of frames records
a_record_is_read = record { within = lit< tt; held = refl; after = refl; rest = refl }

pub none_is_read : (own : List ℕ → ℕ) → IsReadOf own c_frame 8 None
none_is_read own = lit≤ tt

-- a frame stands at 0
pub it_is_passed_over : (own : List ℕ → ℕ) → IsReadOf own c_frame 0 None → ⊥
it_is_passed_over own few = let less : 8 ≤ 0 = few in omega (arith, less)

-- and it ends at 8
pub it_ends_before : IsReadOf add_sum c_frame 0 (Some (record { bytes = Some c; end = 7 })) → ⊥
unfolding record_len
it_ends_before is = let same : ◌≡◌ {A = ℕ} 7 8 = is.after in omega (arith, same)

pub it_goes_forward : EndsBehind 0 (Some c_found)
it_goes_forward = lit< tt

-- a frame has bytes
pub it_ends_where_it_begins : EndsBehind 8 (Some c_found) → ⊥
it_ends_where_it_begins forward = let less : 8 < 8 = forward in omega (arith, less)

-- ---- two closed segments

module _ (one two : Closed) where
  abbrev pub both : LogState
  both = record { manifest = with_none; current = with_c; listing = record { first = 0; closed = one ∷ two ∷ [] }; asked = []; reading = none_read; page_size = 18; most = 100; known = 3 }

  pub their_records : closed_records add_sum held 0 (one ∷ two ∷ []) ≡ c ∷ d ∷ []
  unfolding record_len is_record record_of frames records
  their_records = refl

  pub all_records : log_records add_sum held both ≡ c ∷ d ∷ c ∷ []
  unfolding record_len is_record record_of frames records
  all_records = refl

  pub the_first_goes : listing_from 1 (record { first = 0; closed = one ∷ two ∷ [] }) ≡ record { first = 1; closed = two ∷ [] }
  the_first_goes = refl

  pub both_go : listing_from 2 (record { first = 0; closed = one ∷ two ∷ [] }) ≡ record { first = 2; closed = [] }
  both_go = refl

  -- segment 1 is the first one now, and a copy was to be kept
  abbrev from_1 : List FolderEvent → LogState
  from_1 asked = record both { listing = record { first = 1; closed = two ∷ [] }; asked = asked }

  abbrev from_2 : List FolderEvent → LogState
  from_2 asked = record both { listing = record { first = 2; closed = [] }; asked = asked }

  pub it_starts_from_1 : (asked : List FolderEvent) → IsKept [] (from_1 asked) → IsStartedFrom 1 both (from_1 asked)
  it_starts_from_1 asked kept = record {
    listing = refl;
    there = tt;
    rest = record { current = refl; reading = refl; page_size = refl; most = refl };
    known = refl;
    kept = kept;
  }

  -- one segment more was dropped
  pub it_starts_from_2 : (asked : List FolderEvent) → IsStartedFrom 1 both (from_2 asked) → ⊥
  it_starts_from_2 asked is = let same : ◌≡◌ {A = ℕ} 2 1 = ap (λ (l : ListingState). l.first) is.listing in omega (arith, same)

  -- a log that is closed still lists its segments
  pub it_forgets_a_segment : IsClosedOff both (record both { current = without_journal with_c; listing = record { first = 1; closed = two ∷ [] } }) → ⊥
  it_forgets_a_segment is = let same : ◌≡◌ {A = ℕ} 1 0 = ap (λ (l : ListingState). l.first) is.listing in omega (arith, same)

  pub it_was_closed_off : IsClosedOff both (record both { current = without_journal with_c; manifest = without_journal with_none })
  it_was_closed_off = record { current = refl; listing = refl; asked = refl; reading = refl; page_size = refl; most = refl; known = refl }

  pub its_manifest_is_closed : IsClosedLog (record both { manifest = without_journal with_none })
  its_manifest_is_closed = inr refl

  pub it_is_beyond : IsBeyond 3 3 both both
  it_is_beyond = record { same = refl; named = refl; beyond = lit< tt; stays = not_closed } where
    not_closed : IsClosedLog both → ⊥
    not_closed (inl none) = absurd (cc none)
    not_closed (inr none) = absurd (cc none)

  pub it_is_listed : IsListed both 1
  it_is_listed = (two, refl)

  -- the open one isn't closed
  pub it_is_not_listed : IsListed both 2 → ⊥
  it_is_not_listed is = let none : None ≡ Some is.0 = is.1 in absurd (cc none)

  -- a record is said to stand in the segment before the open one
  pub in_the_segment_before : (sum own : List ℕ → ℕ) (t : LogState) → AppendHereGoes sum own c both t (Ok (record { segment = 1; offset = 8 })) → ⊥
  in_the_segment_before sum own t is = let same : ◌≡◌ {A = ℕ} 1 2 = is.0 in omega (arith, same)

  pub in_the_open_one : (sum own : List ℕ → ℕ) (t : LogState) → OwnedAppendGoes sum own c with_c t.current (Ok 8) → AppendHereGoes sum own c both t (Ok (record { segment = 2; offset = 8 }))
  in_the_open_one sum own t is = (refl, is)

-- the one is known by its file, and the other by its pages
pub they_are_held : (digest : List ℕ → List ℕ) (one : FileDigest) (two : PagedSeal) → IsOf c_page one → IsSealOf digest 18 d_frame two.seal
    → TellHeld add_sum digest 18 held 0 (by_file one ∷ by_pages two ∷ [])
they_are_held digest one two first second = (it_holds_c digest one first, (second, tt))

-- a closed segment didn't hold a part of a frame
pub a_cut_one_is_held : (sum : List ℕ → ℕ) (digest : List ℕ → List ℕ) (P : ℕ) (kept : FileDigest) → TellHeld sum digest P (λ n. c_frame ++ 0 ∷ []) 0 (by_file kept ∷ []) → ⊥
a_cut_one_is_held sum digest P kept is = a_cut_content sum digest P kept is.0

-- nor one byte more than its seal has
pub one_byte_more_is_held : (digest : List ℕ → List ℕ) (two : PagedSeal) → two.seal.len ≡ 8 → TellHeld add_sum digest 18 (λ n. d_frame ++ 0 ∷ []) 0 (by_pages two ∷ []) → ⊥
one_byte_more_is_held digest two long is = omega (arith, is.0.len, long)

-- ---- the open segment is read

pub its_content_is_c : IsCurrentContent small c_frame
its_content_is_c = refl

-- once a call failed it has no content
pub it_has_no_content : IsCurrentContent (record small { current = without_journal with_c }) c_frame → ⊥
it_has_no_content is = is

pub c_is_read_of_the_open : IsReadOfOpen add_sum small 0 (Some c_found)
c_is_read_of_the_open = (c_frame, refl, a_record_is_read)

-- a frame stands at 0
pub none_is_read_of_the_open : (own : List ℕ → ℕ) → IsReadOfOpen own small 0 None → ⊥
none_is_read_of_the_open own is = omega (arith, ap length is.1, is.2)

pub it_was_only_read : (sum own : List ℕ → ℕ) → LeavesReading sum own small small
it_was_only_read sum own = record {
  manifest = refl;
  listing = refl;
  asked = refl;
  page_size = refl;
  most = refl;
  known = refl;
  current = inl refl;
  holds = refl;
  journal = refl;
}

-- a read doesn't close the open segment
pub it_was_closed_by_a_read : (sum own : List ℕ → ℕ) → LeavesReading sum own small (record small { current = without_journal with_c }) → ⊥
it_was_closed_by_a_read sum own is = absurd (cc (is.journal))

-- ---- appending, and the last call

-- after an error the log has no open segment
pub it_stays_open : (sum own : List ℕ → ℕ) → (digest : List ℕ → List ℕ) → LogAppendGoes sum own digest c small small (Err (errors.Layer WriteFailed)) → ⊥
it_stays_open sum own digest is = absurd (cc (is.0))

-- there was nothing to drop, and the names are durable
pub nothing_was_dropped : IsDropped 0 small (record small { asked = plain_event calls.Syncs false ∷ [] })
nothing_was_dropped = record {
  mid = small;
  drops = record {
    was_open = λ closed. elim closed [ inl none ↦ absurd (cc none) | inr none ↦ absurd (cc none) ];
    within = lit≤ tt;
    starts = inl (lit≤ tt, refl);
    there = tt;
    rest = refl;
    removed = record { events = plain_event calls.Syncs false ∷ []; all = refl; below = inr (refl, tt) };
  };
  synced = ([], refl);
  done = record { events = plain_event calls.Syncs false ∷ []; all = refl; done = (refl, tt) };
}

pub it_is_closed : (sum own : List ℕ → ℕ) (s : LogState) → AppendHereGoes sum own c (record s { current = without_journal with_c }) (record s { current = without_journal with_c }) (Err errors.Closed)
it_is_closed sum own s = (refl, refl)

pub the_last_is_a_sync : (events : List FolderEvent) → EndsSynced (events ++ plain_event calls.Syncs false ∷ [])
the_last_is_a_sync events = (events, refl)

abbrev first_failed : List FolderEvent → Bool
first_failed [] = false
first_failed (e ∷ es) = e.failed

-- the files of a drop are gone, and the names couldn't be synced: that is `Unsynced`
pub its_sync_failed : (e : io_error.Error) → EndsRemoval [] (plain_event calls.Syncs true ∷ []) (Err (errors.Unsynced e))
its_sync_failed e = ([], refl)

pub the_last_failed : (events : List FolderEvent) → EndsUnsynced (events ++ plain_event calls.Syncs true ∷ [])
the_last_failed events = (events, refl)

-- a sync that succeeded
pub no_sync_failed : EndsUnsynced (plain_event calls.Syncs false ∷ []) → ⊥
no_sync_failed is = not_last is.0 is.1
  where
    not_last : (before : List FolderEvent) → plain_event calls.Syncs false ∷ [] ≡ before ++ plain_event calls.Syncs true ∷ [] → ⊥
    not_last [] is = let same : false ≡ true = ap first_failed is in absurd (cc same)
    not_last (e ∷ []) is = absurd (cc is)
    not_last (e ∷ f ∷ before) is = absurd (cc is)

-- such a drop, whole
pub its_drop_is_unsynced : IsUnsyncedDrop 0 small (record small { asked = plain_event calls.Syncs true ∷ [] })
its_drop_is_unsynced = record {
  mid = small;
  drops = record {
    was_open = λ closed. elim closed [ inl none ↦ absurd (cc none) | inr none ↦ absurd (cc none) ];
    within = lit≤ tt;
    starts = inl (lit≤ tt, refl);
    there = tt;
    rest = refl;
    removed = record { events = plain_event calls.Syncs true ∷ []; all = refl; below = inr (refl, tt) };
  };
  failed = ([], refl);
}

-- nor is one whose sync succeeded
pub its_drop_is_synced : IsUnsyncedDrop 0 small (record small { asked = plain_event calls.Syncs false ∷ [] }) → ⊥
its_drop_is_synced is = no_sync_failed is.failed

-- a sync that failed
pub a_failed_sync : EndsSynced (plain_event calls.Syncs true ∷ []) → ⊥
a_failed_sync is = not_last is.0 is.1
  where
    not_last : (before : List FolderEvent) → plain_event calls.Syncs true ∷ [] ≡ before ++ plain_event calls.Syncs false ∷ [] → ⊥
    not_last [] is = let same : true ≡ false = ap first_failed is in absurd (cc same)
    not_last (e ∷ []) is = absurd (cc is)
    not_last (e ∷ f ∷ before) is = absurd (cc is)

-- and it isn't done
pub it_is_not_done : EndsRemoval [] (plain_event calls.Syncs true ∷ []) (Ok tt) → ⊥
it_is_not_done is = a_failed_sync is.0

-- a removal that failed isn't done, also if a sync behind it succeeds
pub one_failed : AreDone (plain_event (calls.Removes 0) true ∷ plain_event calls.Syncs false ∷ []) → ⊥
one_failed done = absurd (cc done.0)

pub a_removal_failed : AsksWell [] (plain_event (calls.Removes 0) true ∷ plain_event calls.Syncs false ∷ []) → ⊥
a_removal_failed is = one_failed (subst (λ (es : List FolderEvent). AreDone es) (sym is.all) is.done)

pub then_it_is_not_done : EndsRemoval [] (plain_event (calls.Removes 0) true ∷ plain_event calls.Syncs false ∷ []) (Ok tt) → ⊥
then_it_is_not_done is = a_removal_failed is.1

pub both_are_done : AreDone (plain_event (calls.Removes 0) false ∷ plain_event calls.Syncs false ∷ [])
both_are_done = (refl, (refl, tt))

pub both_were_asked : AsksWell [] (plain_event (calls.Removes 0) false ∷ plain_event calls.Syncs false ∷ [])
both_were_asked = record { events = plain_event (calls.Removes 0) false ∷ plain_event calls.Syncs false ∷ []; all = refl; done = both_are_done }

pub a_removal_is_done : EndsRemoval [] (plain_event (calls.Removes 0) false ∷ plain_event calls.Syncs false ∷ []) (Ok tt)
a_removal_is_done = ((plain_event (calls.Removes 0) false ∷ [], refl), both_were_asked)

-- a refused removal is `System`: no sync was asked for
pub it_is_no_sync : NoneSyncs (plain_event (calls.Removes 0) true ∷ [])
it_is_no_sync = ((λ same. absurd (cc same)), tt)

pub a_removal_alone : AsksNoSync [] (plain_event (calls.Removes 0) true ∷ [])
a_removal_alone = record { events = plain_event (calls.Removes 0) true ∷ []; all = refl; none = it_is_no_sync }

pub a_removal_is_refused : (e : io_error.Error) → EndsRemoval [] (plain_event (calls.Removes 0) true ∷ []) (Err (errors.System e))
a_removal_is_refused e = a_removal_alone

-- so a failed sync isn't
pub it_is_a_sync : NoneSyncs (plain_event calls.Syncs true ∷ []) → ⊥
it_is_a_sync none = none.0 refl

pub a_sync_was_asked : AsksNoSync [] (plain_event calls.Syncs true ∷ []) → ⊥
a_sync_was_asked is = it_is_a_sync (subst (λ (es : List FolderEvent). NoneSyncs es) (sym is.all) is.none)

pub it_is_no_refusal : (e : io_error.Error) → EndsRemoval [] (plain_event calls.Syncs true ∷ []) (Err (errors.System e)) → ⊥
it_is_no_refusal e is = a_sync_was_asked is

-- such a drop, whole: a folder that couldn't be looked at
pub its_drop_is_refused : IsRefusedDrop 0 small small
its_drop_is_refused = record {
  mid = small;
  drops = record {
    was_open = λ closed. elim closed [ inl none ↦ absurd (cc none) | inr none ↦ absurd (cc none) ];
    within = lit≤ tt;
    starts = inl (lit≤ tt, refl);
    there = tt;
    rest = refl;
    removed = record { events = []; all = refl; below = tt };
  };
  unsynced = record { events = []; all = refl; none = tt };
}

-- a drop that got as far as a sync wasn't refused
pub its_drop_got_further : IsRefusedDrop 0 small (record small { asked = plain_event calls.Syncs true ∷ [] }) → ⊥
its_drop_got_further is =
    a_sync_was_asked (subst (λ (es : List FolderEvent). AsksNoSync es (plain_event calls.Syncs true ∷ [])) (none is.mid is.drops.starts) is.unsynced)
  where
    none : (mid : LogState) → StartsAt 0 small mid → mid.asked ≡ []
    none mid starts = elim starts [ inl same ↦ ap (λ (l : LogState). l.asked) same.1 | inr later ↦ absurd (omega (arith, later.0)) ]
