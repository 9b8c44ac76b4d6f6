-- What a drop leaves, shown of a small log, and refuted of something nearly right. The log has one closed segment,
-- number 0, and an open one; its two journals and what was kept of the closed segment are any.
use Rattle.std.specs.Prelude.{◌≡◌, ◌++◌, ℕ, Bool, List, [], ◌∷◌, Some, None, Err, true, false}
use Rattle.std.proofs.Common.{refl, sym, ap, subst, inl, inr, arith, ◌∙◌}
use Rattle.disk.specs.Disk.{Life}
use Rattle.disk.specs.declared.error.Error.TheVariants.{WriteFailed}
use Rattle.cache.specs.CacheState.{CacheState}
use Rattle.writer_state.specs.WriterState.{WriterState}
use Rattle.segments.specs.declared.call.FolderCall.{FolderCall}
use Rattle.segments.specs.declared.call.FolderCall.TheVariants as calls
use Rattle.segments.specs.declared.closed.Closed.{Closed}
use Rattle.segments.specs.declared.error.Error.TheVariants as errors
use Rattle.segments.specs.declared.entry.Entry.TheVariants.{Starts, Closes}
use Rattle.segments.specs.FolderEvents.{FolderEvent, keeping_event, plain_event}
use Rattle.segments.specs.Manifest.{ListingState}
use Rattle.segments.specs.Owned.{OwnedState, without_journal}
use Rattle.segments.specs.Log.{AreOfOlder, HasKept, IsBeyond, IsClosedLog, IsClosedOff, IsDropped, IsDropping, IsKept, IsNotEntered, IsSameButManifest, LogDropGoes, LogState, StartOrCloseGoes, StartsAt, known_with, listing_from, most_for}

-- which call it is, as a number; and which segment a copy knows as the open one
abbrev kind : FolderCall → ℕ
kind (calls.Keeps segment len) = 0
kind (calls.Removes segment) = 1
kind calls.Syncs = 2
kind calls.OpensManifest = 3
kind (calls.Opens segment) = 4
kind (calls.Closes segment) = 5
kind (calls.WritesList segment) = 6

abbrev known_as_open : FolderCall → ℕ
known_as_open (calls.Keeps segment len) = segment
known_as_open (calls.Removes segment) = 0
known_as_open calls.Syncs = 0
known_as_open calls.OpensManifest = 0
known_as_open (calls.Opens segment) = 0
known_as_open (calls.Closes segment) = 0
known_as_open (calls.WritesList segment) = 0

abbrev first_of : (FolderCall → ℕ) → List FolderEvent → ℕ
first_of f [] = 9
first_of f (e ∷ es) = f e.call

module _ (cache : CacheState) (life : Life) (w : WriterState) (kept : Closed) where
  abbrev owned : OwnedState
  owned = record { cache = cache; life = life; journal = Some w; page_size = 4; records = 0; digested = 0 }

  abbrev log : LogState
  log = record { manifest = owned; current = owned; listing = record { first = 0; closed = kept ∷ [] }; asked = []; reading = record { whole = None; paged = [] }; page_size = 4; most = 100; known = 3 }

  -- the manifest couldn't be written, and the log was closed
  abbrev shut : LogState
  shut = record log { manifest = without_journal owned; current = without_journal owned }

  -- the copy of the manifest that is to be kept as segment 0 is dropped: segment 1 is open, and had three bytes
  abbrev copied : Bool → FolderEvent
  copied failed = keeping_event 1 3 life.present.readable failed

  -- segment 0 was dropped, and a copy of the manifest was kept
  abbrev dropped : LogState
  dropped = record log { listing = listing_from 1 log.listing; asked = copied false ∷ [] }

  pub closes_off : IsClosedOff log shut
  closes_off = record { current = refl; listing = refl; asked = refl; reading = refl; page_size = refl; most = refl; known = refl }

  pub a_failed_start : StartOrCloseGoes 1 log shut (Err (errors.Layer WriteFailed))
  a_failed_start = (closes_off, tt)

  pub a_failed_drop : LogDropGoes 1 log shut (Err (errors.Layer WriteFailed))
  a_failed_drop = (closes_off, omega arith, omega arith)

  -- after that error no file may have been removed
  pub nothing_is_removed : LogDropGoes 1 log (record shut { asked = plain_event (calls.Removes 0) false ∷ [] }) (Err (errors.Layer WriteFailed)) → ⊥
  nothing_is_removed is = absurd (cc is.0.asked)

  -- nor may the drop be in the listing, from which the next one would go on
  pub nothing_is_taken_in : LogDropGoes 1 log (record shut { listing = listing_from 1 log.listing }) (Err (errors.Layer WriteFailed)) → ⊥
  nothing_is_taken_in is = absurd (omega (arith, ap (λ (l : ListingState). l.first) is.0.listing))

  -- nor may the log stay open
  pub not_left_open : StartOrCloseGoes 1 log log (Err (errors.Layer WriteFailed)) → ⊥
  not_left_open is = absurd (cc (ap (λ (o : OwnedState). o.journal) is.0.current))

  pub a_closed_log : LogDropGoes 1 shut shut (Err errors.Closed)
  a_closed_log = (refl, inl refl)

  -- an open log isn't closed
  pub not_closed : IsClosedLog log → ⊥
  not_closed closed = elim closed [ inl none ↦ absurd (cc none) | inr none ↦ absurd (cc none) ]

  -- nor is a closed one open, so that it could answer that there is no such segment
  pub not_beyond_a_closed_log : IsBeyond 2 2 shut shut → ⊥
  not_beyond_a_closed_log is = is.stays (inl refl)

  pub an_open_log_has_no_segment_2 : LogDropGoes 2 log log (Err (errors.NoSegment 2))
  an_open_log_has_no_segment_2 = record { same = refl; named = refl; beyond = omega arith; stays = not_closed }

  -- the copy was kept, or it couldn't be: the log is the same but for what the folder was asked for
  pub a_copy_is_kept : HasKept (record log { listing = listing_from 1 log.listing }) dropped
  a_copy_is_kept = record { kept = record { failed = false; asked = refl }; rest = refl }

  pub a_copy_fails : IsKept [] (record dropped { asked = copied true ∷ [] })
  a_copy_fails = record { failed = true; asked = refl }

  -- a manifest of which no copy was to be kept
  pub none_is_kept : IsKept [] (record dropped { asked = [] }) → ⊥
  none_is_kept is = absurd (cc is.asked)

  -- a copy that knows another segment as the open one
  pub another_is_kept : IsKept [] (record dropped { asked = keeping_event 0 3 life.present.readable false ∷ [] }) → ⊥
  another_is_kept is = absurd (omega (arith, ap (first_of known_as_open) is.asked))

  -- each segment gets a record
  pub a_record_each : most_for 0 ≡ 1
  a_record_each = refl

  pub as_it_is : most_for 100 ≡ 100
  as_it_is = refl

  pub not_none : most_for 0 ≡ 0 → ⊥
  not_none is = absurd (omega (arith, is))

  -- nothing is known of the segment that follows a closed one; a drop leaves what is known
  pub none_is_known : known_with (Closes kept) 3 ≡ 0
  none_is_known = refl

  pub as_much_is_known : known_with (Starts 1 4) 3 ≡ 3
  as_much_is_known = refl

  pub not_forgotten : known_with (Starts 1 4) 3 ≡ 0 → ⊥
  not_forgotten is = absurd (omega (arith, is))

  abbrev same : IsSameButManifest log dropped
  same = record { current = refl; reading = refl; page_size = refl; most = refl }

  -- the manifest couldn't be written, so nothing was taken in and no copy was to be kept
  pub not_entered : IsNotEntered (Starts 1 4) log (record log { manifest = without_journal owned }) (errors.Layer WriteFailed)
  not_entered = record { listing = refl; asked = refl; known = refl; left = inr refl; refused = tt }

  pub no_copy_of_what_is_not_entered : IsNotEntered (Starts 1 4) log (record log { manifest = without_journal owned; asked = copied false ∷ [] }) (errors.Layer WriteFailed) → ⊥
  no_copy_of_what_is_not_entered is = absurd (cc is.asked)

  pub starts_at_1 : StartsAt 1 log dropped
  starts_at_1 = inr (omega arith, record { listing = refl; there = tt; rest = same; known = refl; kept = record { failed = false; asked = refl } })

  -- segment 0 may not be left out where there is nothing to drop
  pub not_started_at_0 : StartsAt 0 log dropped → ⊥
  not_started_at_0 is = elim is [ inl same ↦ absurd (omega (arith, ap (λ (l : LogState). l.listing.first) same.1)) | inr later ↦ absurd (omega (arith, later.0)) ]

  -- the folder refused to remove the file, and the manifest has the drop
  pub a_refused_removal : IsDropping 1 log dropped (record dropped { asked = copied false ∷ plain_event (calls.Removes 0) true ∷ [] })
  a_refused_removal = record {
    was_open = not_closed;
    within = omega arith;
    starts = starts_at_1;
    there = tt;
    rest = refl;
    removed = record { events = plain_event (calls.Removes 0) true ∷ []; all = refl; below = inl (0, omega arith, omega arith, refl, tt) };
  }

  same_at_0 : (m : LogState) → StartsAt 0 log m → m ≡ log
  same_at_0 m is = elim is [ inl same ↦ same.1 | inr later ↦ absurd (omega (arith, later.0)) ]

  -- a file of a segment that stays may not be removed, whatever the answer
  pub a_live_file_stays : (mid : LogState) → IsDropping 0 log mid (record log { asked = plain_event (calls.Removes 0) false ∷ [] }) → ⊥
  a_live_file_stays mid is =
      let none = ap (λ (l : LogState). l.asked) (same_at_0 mid is.starts) in
      let all = is.removed.all ∙ ap (λ (events : List FolderEvent). events ++ is.removed.events) none in
      let older = subst (λ (events : List FolderEvent). AreOfOlder 0 0 events) (sym all) is.removed.below in
      elim older [ inl removal ↦ absurd (omega (arith, removal.2)) | inr synced ↦ absurd (cc synced.0) ]

  -- a file may not be removed before the copy is to be kept
  pub not_removed_before : (mid : LogState) → IsDropping 1 log mid (record dropped { asked = plain_event (calls.Removes 0) false ∷ copied false ∷ [] }) → ⊥
  not_removed_before mid is = elim (is.starts) [
    | inl none ↦ absurd (omega (arith, none.0))
    | inr later ↦ absurd (omega (arith, ap (first_of kind) (is.removed.all ∙ ap (λ (calls : List FolderEvent). calls ++ is.removed.events) later.1.kept.asked)))
  ]

  -- a drop that the manifest doesn't have isn't done
  pub not_done_by_a_closed_manifest : (mid : LogState) → IsDropping 1 log mid (record dropped { manifest = without_journal owned }) → ⊥
  not_done_by_a_closed_manifest mid is = is.there

  -- a drop whose removals weren't made durable isn't done
  pub not_done_without_a_sync : IsDropped 1 log dropped → ⊥
  not_done_without_a_sync is = nothing_before is.synced.0 is.synced.1 where
    nothing_before : (before : List FolderEvent) → copied false ∷ [] ≡ before ++ plain_event calls.Syncs false ∷ [] → ⊥
    nothing_before [] none = absurd (omega (arith, ap (first_of kind) none))
    nothing_before (e ∷ []) none = absurd (cc none)
    nothing_before (e ∷ f ∷ before) none = absurd (cc none)
