-- The records of a log, by what its closed segments held.
use Rattle.std.specs.Prelude.{◌≡◌, ◌⊎◌, ◌≤◌, ◌+◌, ◌++◌, ℕ, suc, List, [], ◌∷◌, length, Some, None, Option, Result, Ok, Err, IfOk}
use Rattle.std.proofs.Common.{ap, sym, ◌∙◌, refl, subst, inl, inr, append_assoc, append-nil, arith}
use Rattle.disk.specs.Disk.{Life}
use Rattle.cache.specs.CacheState.{CacheState}
use Rattle.writer_state.specs.WriterState.{WriterState}
use Rattle.journal.specs.Frame.{records}
use Rattle.journal.specs.Journal.{IsAppended}
use Rattle.page_digests.specs.Seals.{HasSecondPreimage, IsSealOf}
use Rattle.segments.specs.declared.closed.Closed.{Closed}
use Rattle.segments.specs.declared.closed.Fingerprint.{Fingerprint}
use Rattle.segments.specs.declared.error.Error.{Error}
use Rattle.segments.specs.declared.place.Place.{Place}
use Rattle.segments.specs.Kept.{HasFingerprint, HoldsClosed, IsSealedBy}
use Rattle.segments.specs.Manifest.{ListingState, open_in}
use Rattle.segments.specs.Owned.{HasJournal, KeepsJournal, OwnedAppendGoes, OwnedState, content_now, content_of, owned_size, records_now, records_of}
use Rattle.segments.specs.Log.{AppendHereGoes, HasMore, IsAppendedTo, IsRotated, IsSameButCurrent, LogAppendGoes, LogState, TellHeld, WasClosed, closed_records, log_records}

-- a content that fits what was kept as another one was sealed is that one, or a second preimage of it is at hand
pub same_sealed : (sum : List ℕ → ℕ) (d : List ℕ → List ℕ) (P : ℕ) (kept : Closed) (content other : List ℕ) → IsSealedBy d P content kept → HoldsClosed sum d P kept other
    → (other ≡ content) ⊎ HasSecondPreimage d P other
same_sealed sum d P kept content other sealed holds =
    let of : IsSealOf d P other sealed.seal.seal = subst (λ (f : Fingerprint). HasFingerprint sum d P f other) sealed.is holds in
    sealed.apart other (sym of.len ∙ sealed.of.len) (sym of.root)

-- the records of a journal are those of its content
pub of_content : (own : List ℕ → ℕ) (j : Option WriterState) (life : Life) → HasJournal j (λ w. Unit {0}) → records own (content_of j life) ≡ records_of own j life
of_content own None life there = absurd there
of_content own (Some w) life there = refl

-- a content that fits what was kept of the open segment has its records, or a second preimage of it is at hand
pub same_records : (sum own : List ℕ → ℕ) (d : List ℕ → List ℕ) (s : LogState) (last : Life) (kept : Closed) (other : List ℕ) → WasClosed sum own d s last kept → HoldsClosed sum d s.page_size kept other
    → (records own other ≡ records_now own s.current) ⊎ HasSecondPreimage d s.page_size other
same_records sum own d s last kept other closed holds = elim (same_sealed sum d s.page_size kept (content_now s.current) other closed.of holds) [
  | inl same ↦ inl (ap (λ (bytes : List ℕ). records own bytes) same ∙ of_content own s.current.journal s.current.life closed.was_open)
  | inr twin ↦ inr twin
]

-- the last of the closed segments
tells_last : (sum : List ℕ → ℕ) (d : List ℕ → List ℕ) (P : ℕ) (held : ℕ → List ℕ) (first : ℕ) (cs : List Closed) (c : Closed) → TellHeld sum d P held first (cs ++ c ∷ []) → HoldsClosed sum d P c (held (first + length cs))
tells_last sum d P held first [] c tells = subst (λ n. HoldsClosed sum d P c (held n)) (omega arith) tells.0
tells_last sum d P held first (k ∷ ks) c tells = subst (λ n. HoldsClosed sum d P c (held n)) (omega arith) (tells_last sum d P held (suc first) ks c tells.1)

pub closed_more : (own : List ℕ → ℕ) (held : ℕ → List ℕ) (first : ℕ) (cs : List Closed) (c : Closed)
    → closed_records own held first (cs ++ c ∷ []) ≡ closed_records own held first cs ++ records own (held (first + length cs))
closed_more own held first [] c = append-nil (records own (held first)) ∙ ap (λ n. records own (held n)) (omega arith)
closed_more own held first (d ∷ ds) c =
    ap (λ rs. records own (held first) ++ rs) (closed_more own held (suc first) ds c ∙ ap (λ n. closed_records own held (suc first) ds ++ records own (held n)) (omega arith))
    ∙ sym (append_assoc (records own (held first)) (closed_records own held (suc first) ds) (records own (held (first + length (d ∷ ds)))))

-- a rotation leaves the records as they were
pub rotated_same : (sum own : List ℕ → ℕ) (d : List ℕ → List ℕ) (s t : LogState) → IsRotated sum own d s t → HasMore sum own d [] s t
rotated_same sum own d s t is held tells =
    let l = s.listing in
    let paged = subst (λ P. TellHeld sum d P held t.listing.first t.listing.closed) is.page_size tells in
    let told = subst (λ (l : ListingState). TellHeld sum d s.page_size held l.first l.closed) is.listing paged in
    let here : HoldsClosed sum d s.page_size is.kept (held (open_in l)) = tells_last sum d s.page_size held l.first l.closed is.kept told in
    elim (same_records sum own d s is.last is.kept (held (open_in l)) is.closed here) [
      | inl same ↦ inl (
          ap (λ (l : ListingState). closed_records own held l.first l.closed ++ records_now own t.current) is.listing
          ∙ ap (λ rs. closed_records own held l.first (l.closed ++ is.kept ∷ []) ++ rs) is.none
          ∙ append-nil (closed_records own held l.first (l.closed ++ is.kept ∷ []))
          ∙ closed_more own held l.first l.closed is.kept
          ∙ ap (λ rs. closed_records own held l.first l.closed ++ rs) same
          ∙ sym (append-nil (log_records own held s)))
      | inr twin ↦ inr twin
    ]

added_by : (sum own : List ℕ → ℕ) (bytes : List ℕ) (j k : Option WriterState) (after : CacheState) (old new : Life) (offset : ℕ)
    → KeepsJournal j k (λ w now. IsAppended sum own w bytes after old new now offset)
    → records_of own k new ≡ records_of own j old ++ bytes ∷ []
added_by sum own bytes None k after old new offset is = absurd is
added_by sum own bytes (Some w) None after old new offset is = absurd is
added_by sum own bytes (Some w) (Some now) after old new offset is = is.added

added : (sum own : List ℕ → ℕ) (bytes : List ℕ) (s t : OwnedState) (offset : ℕ) → OwnedAppendGoes sum own bytes s t (Ok offset)
    → records_now own t ≡ records_now own s ++ bytes ∷ []
added sum own bytes s t offset is = added_by sum own bytes s.journal t.journal t.cache s.life t.life offset is

here_more : (sum own : List ℕ → ℕ) (bytes : List ℕ) (held : ℕ → List ℕ) (m t : LogState) (offset : ℕ) → OwnedAppendGoes sum own bytes m.current t.current (Ok offset) → IsSameButCurrent m t
    → log_records own held t ≡ log_records own held m ++ bytes ∷ []
here_more sum own bytes held m t offset is rest =
    ap (λ (l : ListingState). closed_records own held l.first l.closed ++ records_now own t.current) rest.listing
    ∙ ap (λ rs. closed_records own held m.listing.first m.listing.closed ++ rs) (added sum own bytes m.current t.current offset is)
    ∙ sym (append_assoc (closed_records own held m.listing.first m.listing.closed) (records_now own m.current) (bytes ∷ []))

appended_more : (sum own : List ℕ → ℕ) (d : List ℕ → List ℕ) (bytes : List ℕ) (s t : LogState) (p : Place) → IsAppendedTo sum own d bytes s t p → HasMore sum own d (bytes ∷ []) s t
appended_more sum own d bytes s t p is held tells =
    let now = here_more sum own bytes held is.mid t p.offset is.here.1 is.rest in
    let paged = subst (λ P. TellHeld sum d P held t.listing.first t.listing.closed) is.rest.page_size tells in
    let mid_tells = subst (λ (l : ListingState). TellHeld sum d is.mid.page_size held l.first l.closed) is.rest.listing paged in
    elim (is.before) [
      | inl same ↦ inl (now ∙ ap (λ (m : LogState). log_records own held m ++ bytes ∷ []) same.0)
      | inr turned ↦ elim (rotated_same sum own d s is.mid turned.0 held mid_tells) [
        | inl same ↦ inl (now ∙ ap (λ rs. rs ++ bytes ∷ []) (same ∙ append-nil (log_records own held s)))
        | inr twin ↦ inr twin
      ]
    ]

-- an append adds its record, and nothing else
pub log_adds : (sum own : List ℕ → ℕ) (d : List ℕ → List ℕ) (bytes : List ℕ) (s t : LogState) (result : Result Place Error) → LogAppendGoes sum own d bytes s t result
    → IfOk result (λ p. HasMore sum own d (bytes ∷ []) s t)
log_adds sum own d bytes s t (Ok p) is = appended_more sum own d bytes s t p is
log_adds sum own d bytes s t (Err e) is = tt

pub log_adds_after : (sum own : List ℕ → ℕ) (d : List ℕ → List ℕ) (bytes : List ℕ) (s m t : LogState) (result : Result Place Error) → IsRotated sum own d s m → s.most ≤ owned_size s.current.journal
    → AppendHereGoes sum own bytes m t result → IsSameButCurrent m t → IfOk result (λ p. HasMore sum own d (bytes ∷ []) s t)
log_adds_after sum own d bytes s m t (Ok p) turned long is rest =
    appended_more sum own d bytes s t p (record { mid = m; before = inr (turned, long); here = is; rest = rest })
log_adds_after sum own d bytes s m t (Err e) turned long is rest = tt
