-- Why a rotation is refused.
use Rattle.std.specs.Prelude.{◌≡◌, ◌⊎◌, ◌+◌, ◌++◌, ◌∷◌, ℕ, List, [], None, true, false, Result, Ok, Err}
use Rattle.std.specs.Result.{IsErrAnd}
use Rattle.std.proofs.Common.{ap, sym, ◌∙◌, subst, inl, inr}
use Rattle.segments.specs.declared.call.FolderCall.TheVariants as calls
use Rattle.segments.specs.declared.closed.Closed.{Closed}
use Rattle.segments.specs.declared.entry.Entry.{Entry}
use Rattle.segments.specs.declared.entry.Entry.TheVariants.{Closes}
use Rattle.segments.specs.declared.error.Error.{Error}
use Rattle.segments.specs.declared.error.Error.TheVariants as errors
use Rattle.segments.specs.FolderEvents.{FolderEvent, plain_event}
use Rattle.segments.specs.Manifest.{ListingState, listed_with, open_in}
use Rattle.segments.specs.declared.segment_digesting.SegmentLevels.{SegmentLevels}
use Rattle.segments.specs.Owned.{IsShut, OwnedSealGoes, OwnedState, records_now}
use Rattle.segments.specs.Log.{AsksUnsynced, EnterRefused, IsNotEntered, IsSameButAsked, IsSameButCurrent, IsSameButManifest, IsClosedAs, ListRefused, ListsTheSame, LogState, NextRefused, RotateGoes, WriteListGoes, asked_listing, events_for}
use Rattle.segments.proofs.Rotating.{Turning, asked_is, listing_asked, numbered_as, same_listing, same_reading, same_known, same_manifest, same_most, same_pages}

-- the open segment couldn't be closed
pub close_refused : (sum own : List ℕ → ℕ) (d : List ℕ → List ℕ) (s t : LogState) (e : Error) (result : Result (Unit {0}) Error) → IsErrAnd result (λ x. x ≡ e)
    → OwnedSealGoes d sum own s.current t.current (Err e) → IsSameButCurrent s t → t.current.journal ≡ None → RotateGoes sum own d s t result
close_refused sum own d s t e (Ok u) is goes rest none = absurd is
close_refused sum own d s t e (Err x) is goes rest none =
    (none, inl (record { rest = rest; refused = subst (λ y. OwnedSealGoes d sum own s.current t.current (Err y)) (sym is) goes }))

-- the list of the open segment couldn't be written
list_cause : (d : List ℕ → List ℕ) (sum own : List ℕ → ℕ) (s m t : LogState) (kept : Closed) (levels : SegmentLevels) (e : Error) → IsClosedAs sum own d s m.current.life kept levels → IsSameButCurrent s m
    → WriteListGoes levels m t (Err e) → ListRefused d s t e
list_cause d sum own s m t kept levels (errors.System x) sealed first is = listing_asked d sum own s m t kept levels true sealed first is
list_cause d sum own s m t kept levels (errors.Layer x) sealed first is = is
list_cause d sum own s m t kept levels errors.Closed sealed first is = is
list_cause d sum own s m t kept levels (errors.Unsynced x) sealed first is = is
list_cause d sum own s m t kept levels (errors.Damaged k) sealed first is = is
list_cause d sum own s m t kept levels (errors.Unlisted k) sealed first is = is
list_cause d sum own s m t kept levels (errors.Missing k) sealed first is = is
list_cause d sum own s m t kept levels (errors.Short k) sealed first is = is
list_cause d sum own s m t kept levels (errors.AnotherDigest k) sealed first is = is
list_cause d sum own s m t kept levels (errors.Outdated k) sealed first is = is
list_cause d sum own s m t kept levels errors.Manifest sealed first is = is
list_cause d sum own s m t kept levels (errors.NoSegment k) sealed first is = is
list_cause d sum own s m t kept levels errors.NumbersExhausted sealed first is = is
list_cause d sum own s m t kept levels (errors.NoFrame its byte) sealed first is = is
list_cause d sum own s m t kept levels (errors.Unmarked n) sealed first is = is

-- after the open segment was closed the folder was asked for something, and nothing else was done
same_asked : (s m t : LogState) → IsSameButCurrent s m → IsSameButAsked m t → ListsTheSame s t
same_asked s m t first asks = record {
  listing = ap (λ (l : LogState). l.listing) asks ∙ first.listing;
  reading = ap (λ (l : LogState). l.reading) asks ∙ first.reading;
  page_size = ap (λ (l : LogState). l.page_size) asks ∙ first.page_size;
  most = ap (λ (l : LogState). l.most) asks ∙ first.most;
  known = ap (λ (l : LogState). l.known) asks ∙ first.known;
}

pub list_refused : (sum own : List ℕ → ℕ) (d : List ℕ → List ℕ) (s m t : LogState) (kept : Closed) (levels : SegmentLevels) (e : Error) (result : Result (Unit {0}) Error) → IsErrAnd result (λ x. x ≡ e)
    → IsClosedAs sum own d s m.current.life kept levels → IsSameButCurrent s m → m.current.journal ≡ None → IsSameButAsked m t → WriteListGoes levels m t (Err e) → RotateGoes sum own d s t result
list_refused sum own d s m t kept levels e (Ok u) is sealed first none asks goes = absurd is
list_refused sum own d s m t kept levels e (Err x) is sealed first none asks goes =
    let current = ap (λ (l : LogState). l.current) asks in (
      ap (λ (o : OwnedState). o.journal) current ∙ none,
      inr (inl (record {
        shut = subst (λ (o : OwnedState). IsShut sum own s.page_size (records_now own s.current) o.life) (sym current) sealed.closed.shut;
        manifest = ap (λ (l : LogState). l.manifest) asks ∙ first.manifest;
        rest = same_asked s m t first asks;
        refused = subst (λ y. ListRefused d s t y) (sym is) (list_cause d sum own s m t kept levels e sealed first goes);
      })),
    )

-- what is asked of one log is asked of another one that asked the same, and lists the same
next_cause : (s m t : LogState) (e : Error) → m.asked ≡ s.asked → m.listing ≡ s.listing → NextRefused m t e → NextRefused s t e
next_cause s m t (errors.Layer x) asked lists is =
    is ∙ ap (λ (es : List FolderEvent). es ++ events_for (open_in m.listing + 1) []) asked ∙ ap (λ (l : ListingState). s.asked ++ events_for (open_in l + 1) []) lists
next_cause s m t (errors.System x) asked lists is =
    is ∙ ap (λ (es : List FolderEvent). es ++ plain_event (calls.Opens (open_in m.listing + 1)) true ∷ []) asked ∙ ap (λ (l : ListingState). s.asked ++ plain_event (calls.Opens (open_in l + 1)) true ∷ []) lists
next_cause s m t (errors.Unsynced x) asked lists is =
    subst (λ (l : ListingState). AsksUnsynced (open_in l + 1) s.asked t.asked) lists (subst (λ (es : List FolderEvent). AsksUnsynced (open_in m.listing + 1) es t.asked) asked is)
next_cause s m t (errors.Unlisted k) asked lists is =
    (is.0 ∙ ap (λ (l : ListingState). open_in l + 1) lists, is.1, is.2, is.3 ∙ ap (λ (es : List FolderEvent). es ++ events_for k is.1) asked)
next_cause s m t errors.NumbersExhausted asked lists is = (ap (λ (l : ListingState). open_in l) (sym lists) ∙ is.0, is.1 ∙ asked)
next_cause s m t (errors.NoFrame its byte) asked lists is = absurd is
next_cause s m t (errors.Unmarked n) asked lists is = absurd is
next_cause s m t (errors.Damaged k) asked lists is = is
next_cause s m t (errors.Missing k) asked lists is = is
next_cause s m t (errors.Short k) asked lists is = is
next_cause s m t (errors.AnotherDigest k) asked lists is = is
next_cause s m t (errors.Outdated k) asked lists is = is
next_cause s m t errors.Manifest asked lists is = is
next_cause s m t (errors.NoSegment k) asked lists is = is
next_cause s m t errors.Closed asked lists is = is

-- the next segment couldn't be opened
pub next_refused : (sum own : List ℕ → ℕ) (d : List ℕ → List ℕ) (s m w t : LogState) (kept : Closed) (levels : SegmentLevels) (u : Unit {0}) (e : Error) (result : Result (Unit {0}) Error) → IsErrAnd result (λ x. x ≡ e)
    → IsClosedAs sum own d s m.current.life kept levels → IsSameButCurrent s m → m.current.journal ≡ None → WriteListGoes levels m w (Ok u) → IsSameButAsked m w
    → IsSameButAsked w t → NextRefused w t e → RotateGoes sum own d s t result
next_refused sum own d s m w t kept levels u e (Ok v) is sealed first none wrote lists asks goes = absurd is
next_refused sum own d s m w t kept levels u e (Err x) is sealed first none wrote lists asks goes =
    let both : IsSameButAsked m t = asks ∙ ap (λ (l : LogState). record l { asked = t.asked }) lists in
    let current = ap (λ (l : LogState). l.current) both in
    let listed = listing_asked d sum own s m w kept levels false sealed first wrote in
    let listing = ap (λ (l : LogState). l.listing) lists ∙ first.listing in (
      ap (λ (o : OwnedState). o.journal) current ∙ none,
      inr (inr (inl (record {
        shut = subst (λ (o : OwnedState). IsShut sum own s.page_size (records_now own s.current) o.life) (sym current) sealed.closed.shut;
        manifest = ap (λ (l : LogState). l.manifest) both ∙ first.manifest;
        rest = same_asked s m t first both;
        refused = subst (λ y. NextRefused (record s { asked = asked_listing d s }) t y) (sym is) (next_cause (record s { asked = asked_listing d s }) w t e listed listing goes);
      }))),
    )

-- an entry is refused of one log as of another one with the same manifest
entry_cause : (s f : LogState) (entry : Entry) (e : Error) → f.manifest ≡ s.manifest → f.listing ≡ s.listing → f.page_size ≡ s.page_size
    → EnterRefused entry f e → EnterRefused entry s e
entry_cause s f entry errors.Closed manifest lists pages is = ap (λ (o : OwnedState). o.journal) (sym manifest) ∙ is
entry_cause s f entry (errors.Layer x) manifest lists pages is = tt
entry_cause s f entry (errors.System x) manifest lists pages is = is
entry_cause s f entry (errors.Unsynced x) manifest lists pages is = is
entry_cause s f entry (errors.Damaged k) manifest lists pages is = is
entry_cause s f entry (errors.Unlisted k) manifest lists pages is = is
entry_cause s f entry (errors.Missing k) manifest lists pages is = is
entry_cause s f entry (errors.Short k) manifest lists pages is = is
entry_cause s f entry (errors.AnotherDigest k) manifest lists pages is = is
entry_cause s f entry (errors.Outdated k) manifest lists pages is = is
entry_cause s f entry errors.Manifest manifest lists pages is =
    ap (λ P. listed_with P entry s.listing) (sym pages) ∙ ap (λ l. listed_with f.page_size entry l) (sym lists) ∙ is
entry_cause s f entry (errors.NoSegment k) manifest lists pages is = is
entry_cause s f entry errors.NumbersExhausted manifest lists pages is = is
entry_cause s f entry (errors.NoFrame its byte) manifest lists pages is = is
entry_cause s f entry (errors.Unmarked n) manifest lists pages is = is

left_of : (f e : LogState) (manifest : OwnedState) → f.manifest ≡ manifest → (e ≡ f) ⊎ (e.manifest.journal ≡ None) → (e.manifest ≡ manifest) ⊎ (e.manifest.journal ≡ None)
left_of f e manifest same (inl is) = inl (ap (λ (l : LogState). l.manifest) is ∙ same)
left_of f e manifest same (inr is) = inr is

-- the manifest couldn't get the entry
pub enter_refused : (sum own : List ℕ → ℕ) (d : List ℕ → List ℕ) (s m w n f e : LogState) (next current : OwnedState) (kept : Closed) (x : Error) → Turning sum own d s m w n f next kept
    → IsSameButManifest f e → IsNotEntered (Closes kept) f e x → current.journal ≡ None → RotateGoes sum own d s (record e { current = current }) (Err x)
enter_refused sum own d s m w n f e next current kept x turning last not none =
    let lists = same_listing sum own d s m w n f next kept turning in
    let pages = same_pages sum own d s m w n f next kept turning in
    let manifest = same_manifest sum own d s m w n f next kept turning in (
      none,
      inr (inr (inr (record {
        last = m.current.life;
        kept = kept;
        closed = turning.closed;
        numbered = λ full. turning.has.numbered (ap (λ (l : ListingState). open_in l) (numbered_as sum own d s m w n f next kept turning) ∙ full);
        asked = not.asked ∙ asked_is sum own d s m w n f next kept turning;
        rest = record {
          listing = not.listing ∙ lists;
          reading = last.reading ∙ same_reading sum own d s m w n f next kept turning;
          page_size = last.page_size ∙ pages;
          most = last.most ∙ same_most sum own d s m w n f next kept turning;
          known = not.known ∙ same_known sum own d s m w n f next kept turning;
        };
        left = left_of f e s.manifest manifest not.left;
        refused = entry_cause s f (Closes kept) x manifest lists pages not.refused;
      }))),
    )

-- ---- after a rotation that failed the manifest lists what it listed

pub refused_listing : (sum own : List ℕ → ℕ) (d : List ℕ → List ℕ) (s t : LogState) (e : Error) → RotateGoes sum own d s t (Err e) → t.listing ≡ s.listing
refused_listing sum own d s t e is = elim (is.1) [
  | inl not ↦ not.rest.listing
  | inr others ↦ elim (others) [
    | inl not ↦ not.rest.listing
    | inr rest ↦ elim (rest) [
      | inl not ↦ not.rest.listing
      | inr not ↦ not.rest.listing
    ]
  ]
]
