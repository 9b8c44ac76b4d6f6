-- What comes back of a log after a crash.
use Rattle.std.specs.Prelude.{◌≡◌, ◌≤◌, ◌+◌, ◌++◌, ℕ, suc, List, [], ◌∷◌, length, take, Some, None, Option, IfSome, slice_get}
use Rattle.std.proofs.Common.{ap, sym, ◌∙◌, subst, arith, length-append, append-nil, append_assoc, inl}
use Rattle.disk.specs.Disk.{Disk, IsImage, IsWhole, Life}
use Rattle.disk.specs.Images.{only_image}
use Rattle.crash.specs.Moments.{through_end, through_then}
use Rattle.page.specs.Page.{text}
use Rattle.paged.specs.Recovery.{IsDurable}
use Rattle.writer_state.specs.WriterState.{WriterState}
use Rattle.writer_state.specs.Sound.{content}
use Rattle.journal.specs.Frame.{IsPrefix, records}
use Rattle.journal.specs.Journal.{Commits, OnlyRecords, records_in}
use Rattle.journal.proofs.Journals.{between_of, brings_back, leaves_still}
use Rattle.segments.specs.Manifest.{ListingState, listed_in, open_in}
use Rattle.segments.specs.Owned.{IsOwned, IsOwnedJournal, KeepsRecords, OwnedLeaves, OwnedState, records_now}
use Rattle.segments.specs.Log.{CurrentKeeps, IsLog, Lists, LogState, closed_records, log_records}
use Rattle.segments.specs.Crash.{AreFirstOf, BeginWith, CurrentSurvives, KeepsLog, LogKept, LogOnly, records_by, records_left}
use Rattle.segments.proofs.Closing.{chance_free, keeps_by, pages_of, whole_prefix}

-- where all is durable what is readable is an image, and the only one
pub image_of : (d : Disk) → IsDurable d → IsImage d d.readable
image_of d durable =
    let whole : IsWhole d.base d.since d.readable = subst (λ os. IsWhole d.base os d.readable) (sym durable.since) (sym durable.base) in
    record {
      no_shorter = (d.readable, whole, omega arith);
      no_longer = (d.readable, whole, omega arith);
      each = λ at byte there. inl (subst (λ bytes. slice_get bytes at ≡ Some byte) (sym durable.base) there);
    }

-- the manifest's bytes have just its entries
manifest_tells : (sum own : List ℕ → ℕ) (P : ℕ) (l : ListingState) (o : OwnedState) (w : WriterState) → o.page_size ≡ P → IsOwnedJournal sum own o w → Lists sum own P l w o.life
    → records own (text sum P o.life.present.readable) ≡ records_in own w o.life
manifest_tells sum own P l o w pages owned lists =
    let d = o.life.present in
    let image = image_of d lists.durable in
    let back = brings_back sum own P d d.readable image (content w d.readable) (length (records_in own w o.life)) lists.committed in
    let still = leaves_still sum own w (records_in own w o.life) o.life (between_of sum w o.cache o.life owned.journal).only ([], sym (append-nil (records_in own w o.life))) in
    let only = subst (λ P. OnlyRecords sum own P (records_in own w o.life) d) (owned.page_size ∙ pages) (through_end (OnlyRecords sum own w.page_size (records_in own w o.life)) o.life o.life still) in
    whole_prefix (records own (text sum P d.readable)) (records_in own w o.life) (only.only d.readable image (chance_free sum P d lists.durable)) back.0

-- an image of a durable disk is what was readable
pub durable_image : (d : Disk) (image : List ℕ) → IsDurable d → IsImage d image → image ≡ d.readable
durable_image d image durable is_image = only_image d image durable.since is_image ∙ durable.base

-- what a durable manifest lists, whatever a crash leaves of it
pub listed_of : (sum own : List ℕ → ℕ) (s : LogState) (m : WriterState) → s.manifest.page_size ≡ s.page_size → IsOwnedJournal sum own s.manifest m
    → Lists sum own s.page_size s.listing m s.manifest.life → (bytes : List ℕ) → IsImage s.manifest.life.present bytes
    → listed_in s.page_size (records own (text sum s.page_size bytes)) ≡ Some s.listing
listed_of sum own s m pages owned lists bytes image =
    ap (λ bytes. listed_in s.page_size (records own (text sum s.page_size bytes))) (durable_image s.manifest.life.present bytes lists.durable image)
    ∙ ap (λ rs. listed_in s.page_size rs) (manifest_tells sum own s.page_size s.listing s.manifest m pages owned lists)
    ∙ lists.told

-- what is left of a log whose manifest is durable
pub left_of : (sum own : List ℕ → ℕ) (held file : ℕ → List ℕ) (s : LogState) (m : WriterState) → s.manifest.page_size ≡ s.page_size → IsOwnedJournal sum own s.manifest m
    → Lists sum own s.page_size s.listing m s.manifest.life → (bytes : List ℕ) → IsImage s.manifest.life.present bytes
    → records_left sum own s.page_size held file bytes
    ≡ Some (closed_records own held s.listing.first s.listing.closed ++ records own (text sum s.page_size (file (open_in s.listing))))
left_of sum own held file s m pages owned lists bytes image =
    ap (λ o. records_by sum own s.page_size held file o) (listed_of sum own s m pages owned lists bytes image)

take_on : (before : List (List ℕ)) (n : ℕ) (back all : List (List ℕ)) → take n back ≡ take n all → take (length before + n) (before ++ back) ≡ take (length before + n) (before ++ all)
take_on [] n back all same =
    let none : 0 + n ≡ n = omega arith in
    subst (λ k. take k back ≡ take k all) (sym none) same
take_on (r ∷ rs) n back all same =
    let one : suc (length rs) + n ≡ suc (length rs + n) = omega arith in
    subst (λ k. take k (r ∷ (rs ++ back)) ≡ take k (r ∷ (rs ++ all))) (sym one) (ap (λ l. r ∷ l) (take_on rs n back all same))

begin_more : (before : List (List ℕ)) (n : ℕ) (back all : List (List ℕ)) → n ≤ length back → take n back ≡ take n all
    → BeginWith (length before + n) (before ++ all) (Some (before ++ back))
begin_more before n back all enough same = (omega (arith, enough, length-append before back), take_on before n back all same)

first_more : (before back all : List (List ℕ)) → IsPrefix back all → IsPrefix (before ++ back) (before ++ all)
first_more before back all is = (is.0, ap (λ rs. before ++ rs) is.1 ∙ sym (append_assoc before back is.0))

call_keeps : (sum own : List ℕ → ℕ) (more : List (List ℕ)) (s : LogState) (m : WriterState) (old new : Life) → s.manifest.page_size ≡ s.page_size
    → IsOwnedJournal sum own s.manifest m → Lists sum own s.page_size s.listing m s.manifest.life
    → KeepsRecords sum own s.page_size (records_now own s.current ++ more) old new → (held : ℕ → List ℕ) → KeepsLog sum own held s more old new
call_keeps sum own more s m old new pages owned lists keeps held =
    let P = s.page_size in
    let before = closed_records own held s.listing.first s.listing.closed in
    let d = s.manifest.life.present in
    record {
      kept = λ told n commits. through_then (Commits sum own P told n) (λ e. LogKept sum own P held (length before + n) (before ++ records own told) d (λ j. e)) old new
          (λ e c manifest image free file images.
          let back = brings_back sum own P e (file (open_in s.listing)) (images (open_in s.listing)) told n c in
          subst (λ o. BeginWith (length before + n) (before ++ records own told) o) (sym (left_of sum own held file s m pages owned lists manifest image))
          (begin_more before n (records own (text sum P (file (open_in s.listing)))) (records own told) back.0 back.1))
          (keeps.kept told n commits);
      only = through_then (OnlyRecords sum own P (records_now own s.current ++ more)) (λ e. LogOnly sum own P held (log_records own held s ++ more) d (λ j. e)) old new
          (λ e o manifest image free file images frees.
          subst (λ o. AreFirstOf (log_records own held s ++ more) o) (sym (left_of sum own held file s m pages owned lists manifest image))
          (subst (λ all. IsPrefix (before ++ records own (text sum P (file (open_in s.listing)))) all) (sym (append_assoc before (records_now own s.current) more))
          (first_more before (records own (text sum P (file (open_in s.listing)))) (records_now own s.current ++ more)
          (o.only (file (open_in s.listing)) (images (open_in s.listing)) (frees (open_in s.listing))))))
          keeps.only;
    }

survives_by : (sum own : List ℕ → ℕ) (more : List (List ℕ)) (s : LogState) (j k : Option WriterState) (old new : Life) → s.manifest.page_size ≡ s.page_size
    → IfSome j (λ m. IsOwnedJournal sum own s.manifest m) → IfSome j (λ m. Lists sum own s.page_size s.listing m s.manifest.life)
    → IfSome k (λ w. KeepsRecords sum own s.page_size (records_now own s.current ++ more) old new)
    → IfSome j (λ m. IfSome k (λ w. (held : ℕ → List ℕ) → KeepsLog sum own held s more old new))
survives_by sum own more s None k old new pages owned lists keeps = tt
survives_by sum own more s (Some m) None old new pages owned lists keeps = tt
survives_by sum own more s (Some m) (Some w) old new pages owned lists keeps = call_keeps sum own more s m old new pages owned lists keeps

-- a call of the open segment, whatever it answers
pub survives : (sum own : List ℕ → ℕ) (more : List (List ℕ)) (s t : LogState) → IsLog sum own s → CurrentKeeps sum own (records_now own s.current ++ more) s t
    → CurrentSurvives sum own more s t
survives sum own more s t log keeps =
    survives_by sum own more s s.manifest.journal s.current.journal s.current.life t.current.life log.manifest_pages log.manifest.1 log.lists keeps

-- a call of the open segment that adds no record
pub survives_same : (sum own : List ℕ → ℕ) (s t : LogState) → IsLog sum own s → CurrentKeeps sum own (records_now own s.current) s t
    → CurrentSurvives sum own [] s t
survives_same sum own s t log keeps =
    survives sum own [] s t log (subst (λ all. CurrentKeeps sum own all s t) (sym (append-nil (records_now own s.current))) keeps)

current_pages : (sum own : List ℕ → ℕ) (P : ℕ) (o : OwnedState) → IsOwned sum own o → o.page_size ≡ P → IfSome o.journal (λ w. w.page_size ≡ P)
current_pages sum own P o owned is = subst (λ P. IfSome o.journal (λ w. w.page_size ≡ P)) is (pages_of sum own o o.journal owned.1)

survives_of : (sum own : List ℕ → ℕ) (s : LogState) (o : OwnedState) → IsLog sum own s → OwnedLeaves sum own (records_now own s.current) s.current o
    → CurrentSurvives sum own [] s (record s { current = o })
survives_of sum own s o log leaves =
    survives_same sum own s (record s { current = o }) log
    (keeps_by sum own s.page_size s.current.journal (records_now own s.current) s.current.cache o.cache s.current.life o.life (current_pages sum own s.page_size s.current log.current log.current_pages) leaves)

-- such a call, by what the call of the journal leaves
pub survives_call : (sum own : List ℕ → ℕ) (view s : LogState) (o : OwnedState) → view ≡ s → IsLog sum own s → OwnedLeaves sum own (records_now own view.current) view.current o
    → CurrentSurvives sum own [] s (record view { current = o })
survives_call sum own view s o is log leaves =
    subst (λ v. CurrentSurvives sum own [] s (record v { current = o })) (sym is)
    (survives_of sum own s o log (subst (λ v. OwnedLeaves sum own (records_now own v.current) v.current o) is leaves))
