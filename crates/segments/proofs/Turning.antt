-- What comes back of a log after a crash in a rotation.
use Rattle.std.specs.Prelude.{◌≡◌, ◌⊎◌, ◌≤◌, ◌+◌, ◌++◌, ℕ, List, [], ◌∷◌, length, take, Some, None, Option, IfSome}
use Rattle.std.proofs.Common.{ap, sym, ◌∙◌, refl, subst, arith, length-append, append-nil, inl, inr, take_all}
use Rattle.std.proofs.lemmas.List.{take-append-le}
use Rattle.disk.specs.Disk.{Disk, IsImage, Life}
use Rattle.crash.specs.Kept.{Through}
use Rattle.crash.specs.Moments.{through_start, through_then}
use Rattle.page.specs.Page.{text}
use Rattle.paged.proofs.Owing.{through_both}
use Rattle.writer_state.specs.WriterState.{WriterState}
use Rattle.writer_state.specs.Sound.{content}
use Rattle.journal.specs.Frame.{IsPrefix, records}
use Rattle.journal.specs.Journal.{Commits, OnlyRecords, records_in}
use Rattle.journal.proofs.Journals.{brings_back}
use Rattle.segments.specs.declared.closed.Closed.{Closed}
use Rattle.segments.specs.declared.entry.Entry.TheVariants.{Closes}
use Rattle.segments.specs.FolderEvents.{FolderEvent, keeping_event}
use Rattle.segments.specs.Manifest.{ListingState, entry_in, listed_in, listed_with, open_in}
use Rattle.segments.specs.Owned.{IsOwnedJournal, IsShut, KeepsRecords, OwnedState, records_now, records_of}
use Rattle.segments.specs.Log.{CurrentKeeps, IsKept, IsLog, Lists, LogState, Tries, WasClosed, asked_turning, closed_records, entered_bytes, log_records}
use Rattle.segments.specs.Kept.{HoldsClosed}
use Rattle.segments.specs.Crash.{HasLetGo, IsRotationKept, KeepsLog, LogTurned, RotationSurvives, records_by}
use Rattle.segments.proofs.Listings.{listed_more}
use Rattle.segments.proofs.Records.{closed_more, same_records}
use Rattle.segments.proofs.Rotating.{Turning, asked_is, listed, same_listing, same_manifest, same_pages}
use Rattle.segments.proofs.Surviving.{durable_image, left_of, survives_same}

no_more : (rest : List (List ℕ)) → length rest ≤ 0 → rest ≡ []
no_more [] few = refl
no_more (r ∷ rest) few = absurd (omega (arith, few))

-- a prefix of a list and one more, no shorter than the list: it, or all
pub two_cases : (rs : List (List ℕ)) (x : List ℕ) (back : List (List ℕ)) → length rs ≤ length back → (rest : List (List ℕ)) → rs ++ x ∷ [] ≡ back ++ rest
    → (back ≡ rs) ⊎ (back ≡ rs ++ x ∷ [])
two_cases rs x back long [] is = inr (sym (is ∙ append-nil back))
two_cases rs x back long (r ∷ rest) is =
    let sized = sym (length-append rs (x ∷ [])) ∙ ap length is ∙ length-append back (r ∷ rest) in
    let same : length back ≡ length rs = omega (arith, sized, long) in
    inl (sym (take_all (length back) back (omega arith)) ∙ sym (take-append-le (length back) back (r ∷ rest) (omega arith))
    ∙ sym (ap (λ l. take (length back) l) is) ∙ ap (λ n. take n (rs ++ x ∷ [])) same ∙ take-append-le (length rs) rs (x ∷ []) (omega arith) ∙ take_all (length rs) rs (omega arith))

none_back : (rs : List (List ℕ)) → IsPrefix rs [] → rs ≡ []
none_back rs is = no_more rs (omega (arith, ap length is.1, length-append rs is.0))

-- the closed segment's file has the records that the open one had
here_are : (sum own : List ℕ → ℕ) (s : LogState) (last : Life) (file : List ℕ) (all : List (List ℕ)) → IsShut sum own s.page_size all last → IsImage last.present file
    → records own (text sum s.page_size file) ≡ all
here_are sum own s last file all shut image = ap (λ bytes. records own (text sum s.page_size bytes)) (durable_image last.present file shut.durable image) ∙ shut.tells

turned_at : (sum own : List ℕ → ℕ) (d : List ℕ → List ℕ) (held : ℕ → List ℕ) (s : LogState) (kept : Closed) (added : List ℕ) (last : Life) (next : Disk) (m : ListingState) (rs : List (List ℕ)) (told : List ℕ)
    → WasClosed sum own d s last kept → HoldsClosed sum d s.page_size kept (held (open_in s.listing))
    → OnlyRecords sum own s.page_size [] next → listed_in s.page_size rs ≡ Some s.listing → listed_in s.page_size (rs ++ added ∷ []) ≡ Some m
    → m ≡ record { first = s.listing.first; closed = s.listing.closed ++ kept ∷ [] } → records own told ≡ rs
    → (e : Disk) → Commits sum own s.page_size told (length rs) e → OnlyRecords sum own s.page_size (rs ++ added ∷ []) e
    → LogTurned sum own d s.page_size held (log_records own held s) (open_in s.listing) last.present next e
turned_at sum own d held s kept added last next m rs told closed holds leaves lists lists_more made has e commits only manifest image free file at_k at_next free_next =
    let P = s.page_size in
    let l = s.listing in
    let before = closed_records own held l.first l.closed in
    let back = records own (text sum P manifest) in
    let long = (brings_back sum own P e manifest image told (length rs) commits).0 in
    let first = only.only manifest image free in
    let here = here_are sum own s last (file (open_in l)) (records_now own s.current) closed.shut at_k in
    elim (two_cases rs added back long first.0 first.1) [
      | inl same ↦ inl (ap (λ rs. records_by sum own P held file (listed_in P rs)) same ∙ ap (λ o. records_by sum own P held file o) lists ∙ ap (λ rs. Some (before ++ rs)) here)
      | inr same ↦ elim (same_records sum own d s last kept (held (open_in l)) closed holds) [
        | inl equal ↦
            let number : open_in (record { first = l.first; closed = l.closed ++ kept ∷ [] }) ≡ open_in l + 1 = omega (arith, length-append l.closed (kept ∷ [])) in
            let none : records own (text sum P (file (open_in l + 1))) ≡ [] = none_back (records own (text sum P (file (open_in l + 1)))) (leaves.only (file (open_in l + 1)) at_next free_next) in
            inl (ap (λ rs. records_by sum own P held file (listed_in P rs)) same ∙ ap (λ o. records_by sum own P held file o) lists_more
            ∙ ap (λ (m : ListingState). records_by sum own P held file (Some m)) made
            ∙ ap (λ n. Some (closed_records own held l.first (l.closed ++ kept ∷ []) ++ records own (text sum P (file n)))) number
            ∙ ap (λ rs. Some (closed_records own held l.first (l.closed ++ kept ∷ []) ++ rs)) none
            ∙ ap (λ rs. Some rs) (append-nil (closed_records own held l.first (l.closed ++ kept ∷ [])) ∙ closed_more own held l.first l.closed kept
            ∙ ap (λ rs. before ++ rs) equal))
        | inr twin ↦ inr twin
      ]
    ]

turn_by : (sum own : List ℕ → ℕ) (d : List ℕ → List ℕ) (held : ℕ → List ℕ) (s : LogState) (kept : Closed) (added : List ℕ) (last : Life) (next : Disk) (m : ListingState) (j : Option WriterState) (new : Life)
    → WasClosed sum own d s last kept
    → OnlyRecords sum own s.page_size [] next → entry_in added ≡ Some (Closes kept) → listed_with s.page_size (Closes kept) s.listing ≡ Some m
    → IfSome j (λ w. Lists sum own s.page_size s.listing w s.manifest.life)
    → IfSome j (λ w. KeepsRecords sum own s.page_size (records_of own j s.manifest.life ++ added ∷ []) s.manifest.life new)
    → IfSome j (λ w. HoldsClosed sum d s.page_size kept (held (open_in s.listing)) → Through (LogTurned sum own d s.page_size held (log_records own held s) (open_in s.listing) last.present next) s.manifest.life new)
turn_by sum own d held s kept added last next m None new closed leaves told follows lists keeps = tt
turn_by sum own d held s kept added last next m (Some w) new closed leaves told follows lists keeps = λ holds.
    let P = s.page_size in
    let rs = records_in own w s.manifest.life in
    let held_now = content w s.manifest.life.present.readable in
    through_then (λ e. Commits sum own P held_now (length rs) e × OnlyRecords sum own P (rs ++ added ∷ []) e)
    (LogTurned sum own d P held (log_records own held s) (open_in s.listing) last.present next) s.manifest.life new
    (λ e both. turned_at sum own d held s kept added last next m rs held_now closed holds leaves lists.told
    (listed_more P rs added (Closes kept) s.listing m lists.told told follows) (listed P kept s.listing m follows) refl e both.0 both.1)
    (through_both (Commits sum own P held_now (length rs)) (OnlyRecords sum own P (rs ++ added ∷ [])) s.manifest.life new
    (keeps.kept held_now (length rs) lists.committed) keeps.only)

-- the manifest wasn't touched
still_by : (sum own : List ℕ → ℕ) (d : List ℕ → List ℕ) (held : ℕ → List ℕ) (s : LogState) (kept : Closed) (last : Life) (next : Disk) (j : Option WriterState) → s.manifest.page_size ≡ s.page_size
    → WasClosed sum own d s last kept → IfSome j (λ m. IsOwnedJournal sum own s.manifest m) → IfSome j (λ m. Lists sum own s.page_size s.listing m s.manifest.life)
    → IfSome j (λ w. HoldsClosed sum d s.page_size kept (held (open_in s.listing)) → Through (LogTurned sum own d s.page_size held (log_records own held s) (open_in s.listing) last.present next) s.manifest.life s.manifest.life)
still_by sum own d held s kept last next None pages closed owned lists = tt
still_by sum own d held s kept last next (Some w) pages closed owned lists = λ holds.
    through_start (LogTurned sum own d s.page_size held (log_records own held s) (open_in s.listing) last.present next) s.manifest.life
    (λ manifest image free file at_k at_next free_next. inl (left_of sum own held file s w pages owned lists manifest image
    ∙ ap (λ rs. Some (closed_records own held s.listing.first s.listing.closed ++ rs))
    (here_are sum own s last (file (open_in s.listing)) (records_now own s.current) closed.shut at_k)))

joined : (K T R : (ℕ → List ℕ) → Type 0) (j k : Option WriterState) → ((held : ℕ → List ℕ) → K held → T held → R held)
    → IfSome j (λ m. IfSome k (λ w. (held : ℕ → List ℕ) → K held)) → ((held : ℕ → List ℕ) → IfSome j (λ m. T held))
    → IfSome j (λ m. IfSome k (λ w. (held : ℕ → List ℕ) → R held))
joined K T R None k both first second = tt
joined K T R (Some m) None both first second = tt
joined K T R (Some m) (Some w) both first second = λ held. both held (first held) (second held)

manifest_as : (sum own : List ℕ → ℕ) (added : List ℕ) (f e s : LogState) → f.manifest ≡ s.manifest → f.page_size ≡ s.page_size
    → IfSome f.manifest.journal (λ w. KeepsRecords sum own f.page_size (records_now own f.manifest ++ added ∷ []) f.manifest.life e.manifest.life)
    → IfSome s.manifest.journal (λ w. KeepsRecords sum own s.page_size (records_now own s.manifest ++ added ∷ []) s.manifest.life e.manifest.life)
manifest_as sum own added f e s manifest pages keeps =
    subst (λ (o : OwnedState). IfSome o.journal (λ w. KeepsRecords sum own s.page_size (records_now own o ++ added ∷ []) o.life e.manifest.life)) manifest
    (subst (λ P. IfSome f.manifest.journal (λ w. KeepsRecords sum own P (records_now own f.manifest ++ added ∷ []) f.manifest.life e.manifest.life)) pages keeps)

-- after the closed segment's blob went back, whatever the folder was asked for then
turned_log : (sum own : List ℕ → ℕ) (d : List ℕ → List ℕ) (s m t : LogState) (kept : Closed) → IsLog sum own s → WasClosed sum own d s m.current.life kept
    → CurrentKeeps sum own (records_now own s.current) s m → HasLetGo d s m.current.life t
    → ((held : ℕ → List ℕ) → IfSome s.manifest.journal (λ w. HoldsClosed sum d s.page_size kept (held (open_in s.listing))
    → Through (LogTurned sum own d s.page_size held (log_records own held s) (open_in s.listing) m.current.life.present t.current.life.present) s.manifest.life t.manifest.life))
    → RotationSurvives sum own d s t
turned_log sum own d s m t kept log closed keeps gone turning =
    joined (λ held. KeepsLog sum own held s [] s.current.life m.current.life)
    (λ held. HoldsClosed sum d s.page_size kept (held (open_in s.listing)) → Through (LogTurned sum own d s.page_size held (log_records own held s) (open_in s.listing) m.current.life.present t.current.life.present) s.manifest.life t.manifest.life)
    (λ held. IsRotationKept sum own d held s t) s.manifest.journal s.current.journal
    (λ held closing turning. inr (record { last = m.current.life; kept = kept; gone = gone; closing = closing; of = closed.of; turning = turning }))
    (survives_same sum own s m log keeps) turning

-- a rotation that ended before the manifest got the entry
pub close_survives : (sum own : List ℕ → ℕ) (d : List ℕ → List ℕ) (s m t : LogState) → IsLog sum own s → CurrentKeeps sum own (records_now own s.current) s m
    → t.manifest ≡ s.manifest → t.current ≡ m.current → RotationSurvives sum own d s t
close_survives sum own d s m t log keeps manifest current =
    joined (λ held. KeepsLog sum own held s [] s.current.life m.current.life) (λ held. Unit {0}) (λ held. IsRotationKept sum own d held s t) s.manifest.journal s.current.journal
    (λ held closing none. inl (manifest, subst (λ (o : OwnedState). KeepsLog sum own held s [] s.current.life o.life) (sym current) closing))
    (survives_same sum own s m log keeps) (λ held. nothing s.manifest.journal) where
      nothing : (j : Option WriterState) → IfSome j (λ m. Unit {0})
      nothing None = tt
      nothing (Some m) = tt

-- the manifest got the entry, or may have got it, or wasn't touched
pub turn_survives : (sum own : List ℕ → ℕ) (d : List ℕ → List ℕ) (s m w n f e t : LogState) (next : OwnedState) (kept : Closed) → IsLog sum own s → Turning sum own d s m w n f next kept
    → Tries sum own (Closes kept) f e → t.manifest ≡ e.manifest → t.current.life ≡ next.life → HasLetGo d s m.current.life t → RotationSurvives sum own d s t
turn_survives sum own d s m w n f e t next kept log is tries same at gone =
    let manifest = same_manifest sum own d s m w n f next kept is in
    let pages = same_pages sum own d s m w n f next kept is in
    let lists = same_listing sum own d s m w n f next kept is in
    let leaves : OnlyRecords sum own s.page_size [] t.current.life.present =
    subst (λ (l : Life). OnlyRecords sum own s.page_size [] l.present) (sym at) (subst (λ P. OnlyRecords sum own P [] next.life.present) (ap (λ (l : LogState). l.page_size) is.lists ∙ is.first.page_size) is.has.leaves) in
    turned_log sum own d s m t kept log is.closed is.keeps gone (λ held. elim tries [
      | inl none ↦
          subst (λ (o : OwnedState). IfSome s.manifest.journal (λ w. HoldsClosed sum d s.page_size kept (held (open_in s.listing))
          → Through (LogTurned sum own d s.page_size held (log_records own held s) (open_in s.listing) m.current.life.present t.current.life.present) s.manifest.life o.life))
          (sym (same ∙ none ∙ manifest))
          (still_by sum own d held s kept m.current.life t.current.life.present s.manifest.journal log.manifest_pages is.closed log.manifest.1 log.lists)
      | inr tried ↦
          turn_by sum own d held s kept (entered_bytes (Closes kept) f) m.current.life t.current.life.present tried.listing s.manifest.journal t.manifest.life is.closed leaves tried.told
          (subst (λ l. listed_with s.page_size (Closes kept) l ≡ Some tried.listing) lists (subst (λ P. listed_with P (Closes kept) f.listing ≡ Some tried.listing) pages tried.follows))
          log.lists
          (subst (λ (o : OwnedState). IfSome s.manifest.journal (λ w. KeepsRecords sum own s.page_size (records_now own s.manifest ++ entered_bytes (Closes kept) f ∷ []) s.manifest.life o.life)) (sym same)
          (manifest_as sum own (entered_bytes (Closes kept) f) f e s manifest pages tried.keeps))
    ])

-- the folder was asked for nothing more after the closed segment's blob went back
pub let_go : (sum own : List ℕ → ℕ) (d : List ℕ → List ℕ) (s m w n f t : LogState) (next : OwnedState) (kept : Closed) → Turning sum own d s m w n f next kept → t.asked ≡ f.asked → HasLetGo d s m.current.life t
let_go sum own d s m w n f t next kept is asked =
    record { after = []; asked = asked ∙ asked_is sum own d s m w n f next kept is ∙ sym (append-nil (asked_turning d s m.current.life)) }

-- a copy was to be kept then
pub let_go_kept : (sum own : List ℕ → ℕ) (d : List ℕ → List ℕ) (s m w n f t : LogState) (next : OwnedState) (kept : Closed) → Turning sum own d s m w n f next kept → IsKept f.asked t → HasLetGo d s m.current.life t
let_go_kept sum own d s m w n f t next kept is copied = record {
  after = keeping_event (open_in t.listing) t.known t.manifest.life.present.readable copied.failed ∷ [];
  asked = copied.asked ∙ ap (λ (es : List FolderEvent). es ++ keeping_event (open_in t.listing) t.known t.manifest.life.present.readable copied.failed ∷ []) (asked_is sum own d s m w n f next kept is);
}
