-- A rotation, step by step.
use Rattle.std.specs.Prelude.{◌≡◌, ◌≢◌, ◌<◌, ◌+◌, ◌++◌, ◌==◌, ℕ, List, [], ◌∷◌, length, Some, None, Option, IfSome, Bool, true, false, if◌then◌else◌, Ok}
use Rattle.std.proofs.Common.{ap, ap₂, sym, ◌∙◌, subst, refl, arith}
use Rattle.disk.specs.Disk.{Life}
use Rattle.segments.specs.declared.closed.Closed.{Closed}
use Rattle.segments.specs.declared.entry.Entry.TheVariants.{Closes}
use Rattle.segments.specs.FolderEvents.{FolderEvent, closing_event, keeping_event, writing_event}
use Rattle.segments.specs.Kept.{AreOfDigest, IsOfDigest}
use Rattle.segments.specs.Manifest.{ListingState, listed_with, open_in, padded}
use Rattle.paged.specs.Recovery.{IsDurable}
use Rattle.journal.specs.Journal.{OnlyRecords}
use Rattle.writer_state.specs.WriterState.{WriterState}
use Rattle.page_digests.specs.Pages.{list_of, top_of}
use Rattle.segments.specs.Marks.{marks_of}
use Rattle.segments.specs.MarkReads.{marks_root_of}
use Rattle.segments.specs.declared.segment_digesting.SegmentLevels.{SegmentLevels}
use Rattle.segments.specs.SegmentLevels.{AreSegmentLevels, levels_bytes, list_file_of}
use Rattle.segments.specs.Owned.{HasJournal, IsOwned, OwnedState, content_now, owned_size, records_now, without_journal}
use Rattle.segments.specs.Log.{CurrentKeeps, HasFollowed, HasNext, HasOpened, IsEntered, IsLog, IsRotated, IsSameButAsked, IsSameButCurrent, IsSameButManifest, IsClosedAs, LeavesOpened, LogState, WasClosed, WriteListGoes, asked_listing, asked_turning, entered_bytes, events_for, listing_event}
use Rattle.segments.proofs.Padding.{marked_len, room_after}
use Rattle.segments.proofs.Empty.{no_record}

journal_is : (P : WriterState → Type 0) (j : Option WriterState) → HasJournal j P → HasJournal j (λ w. Unit {0})
journal_is P None is = is
journal_is P (Some w) is = tt

nothing : (bytes : List ℕ) → length bytes ≡ 0 → bytes ≡ []
nothing [] few = refl
nothing (b ∷ bytes) few = absurd (omega (arith, few))

-- the next segment's file gave no byte
pub next_asked : (old new : List FolderEvent) (number opened : ℕ) (life : Life) → number ≡ opened → length life.present.readable ≡ 0
    → new ≡ old ++ events_for (number + 1) life.present.readable → new ≡ old ++ events_for (opened + 1) []
next_asked old new number opened life same few asked =
    asked ∙ ap (λ n. old ++ events_for (n + 1) life.present.readable) same ∙ ap (λ bytes. old ++ events_for (opened + 1) bytes) (nothing life.present.readable few)

-- the next segment, opened over no byte
pub next_of : (sum own : List ℕ → ℕ) (s now t : LogState) (old : Life) (next : OwnedState) (answered : List (List ℕ))
    → s ≡ now → open_in s.listing ≢ 18446744073709551615 → HasOpened sum own s.page_size old next answered → LeavesOpened sum own s.page_size old next → IsDurable old.present → length old.present.readable ≡ 0
    → t.asked ≡ s.asked ++ events_for (open_in s.listing + 1) []
    → HasNext sum own now t next
next_of sum own s now t old next answered view numbered begun leaves durable few asked = subst (λ s. HasNext sum own s t next) view (record {
  numbered = numbered;
  owned = begun.owned;
  page_size = begun.page_size;
  there = journal_is _ next.journal begun.holds;
  none = begun.told ∙ no_record sum own s.page_size old.present.readable few;
  leaves = subst (λ all. OnlyRecords sum own s.page_size all next.life.present) (no_record sum own s.page_size old.present.readable few) (leaves durable);
  asked = asked;
})

some_bytes : (bytes : List ℕ) → 0 < length bytes → bytes ≢ []
some_bytes bytes some none = absurd (omega (arith, some, ap length none))

-- the next segment's file gave bytes
pub unlisted_of : (view s : LogState) (new : List FolderEvent) (number : ℕ) (bytes : List ℕ) → view ≡ s → number ≡ open_in view.listing → 0 < length bytes
    → new ≡ view.asked ++ events_for (number + 1) bytes
    → (number + 1 ≡ open_in s.listing + 1) × (given : List ℕ) × (given ≢ []) × (new ≡ s.asked ++ events_for (number + 1) given)
unlisted_of view s new number bytes is same some asked = (
  ap (λ n. n + 1) (same ∙ ap (λ (l : LogState). open_in l.listing) is),
  bytes,
  some_bytes bytes some,
  asked ∙ ap (λ (l : LogState). l.asked ++ events_for (number + 1) bytes) is,
)

pub only_some : (b : Bool) (l m : ListingState) → (if b then None else Some l) ≡ Some m → m ≡ l
only_some true l m is = absurd (none_is m is) where
  none_is : (m : ListingState) → None ≡ Some m → ⊥
  none_is m is = subst (λ (o : Option ListingState). IfSome o (λ l. ⊥)) is tt
only_some false l m is = sym (ap (λ (o : Option ListingState). or_first o) is) where
  or_first : Option ListingState → ListingState
  or_first None = l
  or_first (Some k) = k

pub listed : (P : ℕ) (kept : Closed) (l m : ListingState) → listed_with P (Closes kept) l ≡ Some m → m ≡ record { first = l.first; closed = l.closed ++ kept ∷ [] }
listed P kept l m is = only_some (open_in l == 18446744073709551615) (record { first = l.first; closed = l.closed ++ kept ∷ [] }) m is

-- the bytes of levels are those of the list's file of the content
bytes_of_levels : (d : List ℕ → List ℕ) (P : ℕ) (content : List ℕ) (l : SegmentLevels) → AreSegmentLevels d P content l → levels_bytes l ≡ list_file_of d P content
bytes_of_levels d P content l are =
    ap₂ (λ (a b : List ℕ). a ++ b) (ap₂ (λ (a b : List ℕ). a ++ b) (ap₂ (λ (a b : List ℕ). a ++ b) are.of.list are.of.top) are.marks.list) are.marks.top

-- the list of the open segment was written, by what the folder was asked for
pub listing_asked : (d : List ℕ → List ℕ) (sum own : List ℕ → ℕ) (s m t : LogState) (kept : Closed) (levels : SegmentLevels) (failed : Bool) → IsClosedAs sum own d s m.current.life kept levels → IsSameButCurrent s m
    → t.asked ≡ m.asked ++ writing_event (open_in m.listing) (levels_bytes levels) failed ∷ [] → t.asked ≡ s.asked ++ listing_event d s failed ∷ []
listing_asked d sum own s m t kept levels failed sealed first asked =
    let bytes : levels_bytes levels ≡ list_file_of d s.page_size (content_now s.current) = bytes_of_levels d s.page_size (content_now s.current) levels sealed.levels in
    asked
    ∙ ap (λ (events : List FolderEvent). events ++ writing_event (open_in m.listing) (levels_bytes levels) failed ∷ []) first.asked
    ∙ ap (λ (l : ListingState). s.asked ++ writing_event (open_in l) (levels_bytes levels) failed ∷ []) first.listing
    ∙ ap (λ (bytes : List ℕ). s.asked ++ writing_event (open_in s.listing) bytes failed ∷ []) bytes

-- the steps of a rotation up to the entry: the open segment was closed, its list was written, the next one was opened, and took its place
pub record Turning (sum own : List ℕ → ℕ) (d : List ℕ → List ℕ) (s m w n f : LogState) (next : OwnedState) (kept : Closed) : Type 0 where
  pub closed : WasClosed sum own d s m.current.life kept
  pub keeps : CurrentKeeps sum own (records_now own s.current) s m
  pub first : IsSameButCurrent s m
  pub listed : w.asked ≡ asked_listing d s
  pub lists : IsSameButAsked m w
  pub has : HasNext sum own w n next
  pub asks : IsSameButAsked w n
  pub follows : HasFollowed next n f

pub turning_of : (sum own : List ℕ → ℕ) (d : List ℕ → List ℕ) (s m w n f : LogState) (next : OwnedState) (kept : Closed) (levels : SegmentLevels) (u : Unit {0}) → IsClosedAs sum own d s m.current.life kept levels
    → CurrentKeeps sum own (records_now own s.current) s m → IsSameButCurrent s m → WriteListGoes levels m w (Ok u) → IsSameButAsked m w → HasNext sum own w n next → IsSameButAsked w n → HasFollowed next n f
    → Turning sum own d s m w n f next kept
turning_of sum own d s m w n f next kept levels u sealed keeps first wrote lists has asks follows =
    record { closed = sealed.closed; keeps = keeps; first = first; listed = listing_asked d sum own s m w kept levels false sealed first wrote; lists = lists; has = has; asks = asks; follows = follows }

-- ---- what a log is after these steps

module _ (sum own : List ℕ → ℕ) (d : List ℕ → List ℕ) (s m w n f : LogState) (next : OwnedState) (kept : Closed) (is : Turning sum own d s m w n f next kept) where
  pub same_manifest : f.manifest ≡ s.manifest
  same_manifest = ap (λ (l : LogState). l.manifest) is.follows.rest ∙ ap (λ (l : LogState). l.manifest) is.asks ∙ ap (λ (l : LogState). l.manifest) is.lists ∙ is.first.manifest

  pub same_listing : f.listing ≡ s.listing
  same_listing = ap (λ (l : LogState). l.listing) is.follows.rest ∙ ap (λ (l : LogState). l.listing) is.asks ∙ ap (λ (l : LogState). l.listing) is.lists ∙ is.first.listing

  pub same_reading : f.reading ≡ s.reading
  same_reading = ap (λ (l : LogState). l.reading) is.follows.rest ∙ ap (λ (l : LogState). l.reading) is.asks ∙ ap (λ (l : LogState). l.reading) is.lists ∙ is.first.reading

  pub same_pages : f.page_size ≡ s.page_size
  same_pages = ap (λ (l : LogState). l.page_size) is.follows.rest ∙ ap (λ (l : LogState). l.page_size) is.asks ∙ ap (λ (l : LogState). l.page_size) is.lists ∙ is.first.page_size

  pub same_most : f.most ≡ s.most
  same_most = ap (λ (l : LogState). l.most) is.follows.rest ∙ ap (λ (l : LogState). l.most) is.asks ∙ ap (λ (l : LogState). l.most) is.lists ∙ is.first.most

  pub same_known : f.known ≡ s.known
  same_known = ap (λ (l : LogState). l.known) is.follows.rest ∙ ap (λ (l : LogState). l.known) is.asks ∙ ap (λ (l : LogState). l.known) is.lists ∙ is.first.known

  pub current_is : f.current ≡ next
  current_is = ap (λ (l : LogState). l.current) is.follows.rest

  -- the list was written of the same open segment
  pub numbered_as : w.listing ≡ s.listing
  numbered_as = ap (λ (l : LogState). l.listing) is.lists ∙ is.first.listing

  pub asked_is : f.asked ≡ asked_turning d s m.current.life
  asked_is =
      is.follows.asked
      ∙ ap (λ (l : LogState). l.asked ++ closing_event (open_in l.listing) l.current.life l.manifest.life.present.readable ∷ []) is.asks
      ∙ ap (λ (events : List FolderEvent). events ++ closing_event (open_in w.listing) w.current.life w.manifest.life.present.readable ∷ []) is.has.asked
      ∙ ap (λ (events : List FolderEvent). (events ++ events_for (open_in w.listing + 1) []) ++ closing_event (open_in w.listing) w.current.life w.manifest.life.present.readable ∷ []) is.listed
      ∙ ap (λ (l : LogState). (asked_listing d s ++ events_for (open_in l.listing + 1) []) ++ closing_event (open_in l.listing) l.current.life l.manifest.life.present.readable ∷ []) is.lists
      ∙ ap (λ (l : ListingState). (asked_listing d s ++ events_for (open_in l + 1) []) ++ closing_event (open_in l) m.current.life m.manifest.life.present.readable ∷ []) is.first.listing
      ∙ ap (λ (o : OwnedState). (asked_listing d s ++ events_for (open_in s.listing + 1) []) ++ closing_event (open_in s.listing) m.current.life o.life.present.readable ∷ []) is.first.manifest

  pub same_bytes : entered_bytes (Closes kept) f ≡ entered_bytes (Closes kept) s
  same_bytes =
      ap (λ P. padded P (owned_size f.manifest.journal) (Closes kept)) same_pages
      ∙ ap (λ (o : OwnedState). padded s.page_size (owned_size o.journal) (Closes kept)) same_manifest

  -- what the manifest lists then
  pub listing_is : (e : LogState) → IsEntered own (Closes kept) f e → e.listing ≡ record { first = s.listing.first; closed = s.listing.closed ++ kept ∷ [] }
  listing_is e entered =
      listed f.page_size kept f.listing e.listing entered.listing
      ∙ ap (λ (l : ListingState). record { first = l.first; closed = l.closed ++ kept ∷ [] }) same_listing

  pub rotate_goes : (e : LogState) → ((bytes : List ℕ) → length (d bytes) ≡ 32) → IsEntered own (Closes kept) f e → IsSameButManifest f e → IsRotated sum own d s e
  rotate_goes e sized entered last = record {
    last = m.current.life;
    kept = kept;
    closed = is.closed;
    listing = listing_is e entered;
    entries = entered.records ∙ ap (λ (o : OwnedState). records_now own o ++ entered_bytes (Closes kept) f ∷ []) same_manifest
        ∙ ap (λ (bytes : List ℕ). records_now own s.manifest ++ bytes ∷ []) same_bytes;
    room = room_after s.page_size (owned_size s.manifest.journal) (owned_size e.manifest.journal) kept
        (marked_len kept is.closed.of.seal (marks_root_of d s.page_size (content_now s.current)) is.closed.of.is is.closed.of.marks
        (ap length is.closed.of.of.root ∙ sized (top_of d s.page_size (content_now s.current))) (sized (list_of d s.page_size (marks_of s.page_size (content_now s.current)))))
        (entered.size ∙ ap (λ (o : OwnedState). owned_size o.journal + (length (entered_bytes (Closes kept) f) + 7)) same_manifest
        ∙ ap (λ (bytes : List ℕ). owned_size s.manifest.journal + (length bytes + 7)) same_bytes);
    listed = entered.there;
    there = subst (λ (o : OwnedState). HasJournal o.journal (λ w. Unit {0})) (sym (last.current ∙ current_is)) is.has.there;
    none = ap (λ (o : OwnedState). records_now own o) (last.current ∙ current_is) ∙ is.has.none;
    copied = record {
      failed = entered.kept.failed;
      asked = entered.kept.asked
          ∙ ap (λ (events : List FolderEvent). events ++ keeping_event (open_in e.listing) e.known e.manifest.life.present.readable entered.kept.failed ∷ []) asked_is;
    };
    known = entered.known;
    reading = last.reading ∙ same_reading;
    page_size = last.page_size ∙ same_pages;
    most = last.most ∙ same_most;
  }

-- the log stands with the next segment
pub follow_ready : (sum own : List ℕ → ℕ) (s : LogState) (next : OwnedState) (asked : List FolderEvent) → IsOwned sum own next → next.page_size ≡ s.page_size
    → IsLog sum own s → IsLog sum own (record s { current = next; asked = asked })
follow_ready sum own s next asked owned pages log = record {
  manifest = log.manifest;
  current = owned;
  manifest_pages = log.manifest_pages;
  current_pages = pages;
  lists = log.lists;
  reading = log.reading;
}

-- the log stands without a journal of the open segment
pub forget_ready : (sum own : List ℕ → ℕ) (s : LogState) (o : OwnedState) → IsLog sum own s → o ≡ without_journal s.current → IsLog sum own (record s { current = o })
forget_ready sum own s o log is = subst (λ (o : OwnedState). IsLog sum own (record s { current = o })) (sym is) (record {
  manifest = log.manifest;
  current = (log.current.0, tt);
  manifest_pages = log.manifest_pages;
  current_pages = log.current_pages;
  lists = log.lists;
  reading = log.reading;
})

-- ---- the digest

-- one more closed segment of this digest
pub digest_more : (number : ℕ) (cs : List Closed) (c : Closed) → IsOfDigest number c.fingerprint → AreOfDigest number cs → AreOfDigest number (cs ++ c ∷ [])
digest_more number [] c is are = (is, tt)
digest_more number (k ∷ ks) c is are = (are.0, digest_more number ks c is are.1)

-- where the manifest lists what it listed, and one more
pub digest_after : (number : ℕ) (l m : ListingState) (kept : Closed) → m ≡ record { first = l.first; closed = l.closed ++ kept ∷ [] } → IsOfDigest number kept.fingerprint
    → AreOfDigest number l.closed → AreOfDigest number m.closed
digest_after number l m kept is of are =
    subst (λ (m : ListingState). AreOfDigest number m.closed) (sym is) (digest_more number l.closed kept of are)

-- where it lists the same
pub digest_same : (number : ℕ) (l m : ListingState) → m ≡ l → AreOfDigest number l.closed → AreOfDigest number m.closed
digest_same number l m is are = subst (λ (m : ListingState). AreOfDigest number m.closed) (sym is) are
