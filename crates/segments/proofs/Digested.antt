-- The digests of the pages of a journal's content.
use Rattle.std.specs.Prelude.{◌≡◌, ◌<◌, ◌≤◌, ◌+◌, ◌-◌, ◌*◌, ◌/◌, ◌%◌, ℕ, suc, List, length, take, drop, Some, None, Option, IfSome, Result, Ok, Err}
use Rattle.std.specs.Result.{IsErrAnd}
use Rattle.std.proofs.Common.{ap, sym, ◌∙◌, refl, subst, arith, div-add-mod', lit<, mod-lt, suc-mul, take-add, take_all}
use Rattle.std.proofs.lemmas.List.{length-drop}
use Rattle.disk.specs.Disk.{Life}
use Rattle.disk.specs.declared.error.Error as disk
use Rattle.disk.specs.declared.error.Error.TheVariants as layer
use Rattle.writer_state.specs.WriterState.{WriterState}
use Rattle.writer_state.specs.Sound.{content}
use Rattle.paged_read.specs.Failures.{none_failed_start}
use Rattle.paged.specs.Reads.{size_of}
use Rattle.journal.specs.Journal.{ReadContentGoes, RecordReadRefused}
use Rattle.journal.proofs.Journals.{between_of}
use Rattle.page_digests.specs.Pages.{content_page, list_of}
use Rattle.page_digests.specs.Seals.{AreLevelsOf, AreLevelsOver, EachIsByte}
use Rattle.page_digests.specs.declared.levels.Levels.{Levels}
use Rattle.page_digests.proofs.Bytes.{bytes_joined}
use Rattle.segments.specs.declared.error.Error.{Error}
use Rattle.segments.specs.declared.error.Error.TheVariants as errors
use Rattle.segments.specs.declared.segment_digesting.SegmentLevels.{SegmentLevels}
use Rattle.segments.specs.Owned.{DigestsFail, HasJournal, IsOwned, IsOwnedJournal, LevelsGo, OwnedContentGoes, OwnedReadLeaves, OwnedState, content_now, content_of, owned_size}
use Rattle.segments.proofs.Joining.{content_by}

-- ---- what reads leave

-- a read leaves the content
pub content_kept : (sum own : List ℕ → ℕ) (s t : OwnedState) → OwnedReadLeaves sum own s t → content_now t ≡ content_now s
content_kept sum own s t leaves =
    ap (λ (j : Option WriterState). content_of j t.life) leaves.journal ∙ content_by sum own s.journal s.cache t.cache s.life t.life leaves.call

size_by : (sum own : List ℕ → ℕ) (s : OwnedState) (j : Option WriterState) → IfSome j (λ w. IsOwnedJournal sum own s w) → owned_size j ≡ length (content_of j s.life)
size_by sum own s None owned = refl
size_by sum own s (Some w) owned = (between_of sum w s.cache s.life owned.journal).size

-- a journal's size is how many bytes its content has
pub size_now : (sum own : List ℕ → ℕ) (s : OwnedState) → IsOwned sum own s → owned_size s.journal ≡ length (content_now s)
size_now sum own s owned = size_by sum own s s.journal owned.1

-- ---- a page that was read

read_by : (offset : ℕ) (before after : List ℕ) (j : Option WriterState) (old new : Life) (u : Unit {0})
    → HasJournal j (λ w. ReadContentGoes (content w old.present.readable) offset before after old new (Ok u))
    → (after ≡ take (length before) (drop offset (content_of j old))) × (length after ≡ length before)
read_by offset before after None old new u is = absurd is
read_by offset before after (Some w) old new u is = (is.answers.0, is.size)

-- what a read within the content gives
pub read_is : (offset : ℕ) (before after : List ℕ) (s t : OwnedState) (u : Unit {0}) → OwnedContentGoes offset before after s t (Ok u)
    → (after ≡ take (length before) (drop offset (content_now s))) × (length after ≡ length before)
read_is offset before after s t u is = read_by offset before after s.journal s.life t.life u is

-- the rest behind the whole pages is shorter than a page
pub rest_short : (P size : ℕ) → 0 < P → size - size / P * P < P
rest_short P size positive =
    let all : size / P * P + size % P ≡ size = div-add-mod' size P in
    let less : size % P < P = mod-lt size positive in
    omega (arith, all, less)

-- a page that was read is that of the content
pub page_is : (sum own : List ℕ → ℕ) (P n k : ℕ) (s t : OwnedState) (before after : List ℕ) (u : Unit {0})
    → IsOwned sum own s → OwnedContentGoes (n * P) before after s t (Ok u) → length before ≡ P → n * P + P ≤ owned_size s.journal → k ≡ n
    → (after ≡ content_page P k (content_now s)) × (k * P + P ≤ length (content_now s))
page_is sum own P n k s t before after u owned read len fits pages =
    let held = content_now s in
    let sized = size_now sum own s owned in
    let within : n * P + P ≤ length held = omega (arith, fits, sized) in (
      (read_is (n * P) before after s t u read).0 ∙ ap (λ (k : ℕ). take k (drop (n * P) held)) len
          ∙ ap (λ (k : ℕ). take P (drop (k * P) held)) (sym pages),
      subst (λ (k : ℕ). k * P + P ≤ length held) (sym pages) within,
    )

-- the rest that was read behind the whole pages
pub rest_is : (sum own : List ℕ → ℕ) (P n k : ℕ) (s a b : OwnedState) (before after : List ℕ) (u : Unit {0})
    → IsOwned sum own s → OwnedReadLeaves sum own s a → OwnedContentGoes (n * P) before after a b (Ok u) → 0 < P → n ≡ owned_size s.journal / P
    → length before ≡ owned_size s.journal - n * P → k ≡ n
    → (after ≡ drop (k * P) (content_now s)) × (length after < P)
rest_is sum own P n k s a b before after u owned leaves read positive full len pages =
    let held = content_now s in
    let size = owned_size s.journal in
    let sized = size_now sum own s owned in
    let cut = length-drop (n * P) held in
    let enough : length (drop (n * P) held) ≤ length before = omega (arith, sized, cut, len) in
    let rest : after ≡ drop (k * P) held =
    (read_is (n * P) before after a b u read).0 ∙ ap (λ (bytes : List ℕ). take (length before) (drop (n * P) bytes)) (content_kept sum own s a leaves)
    ∙ take_all (length before) (drop (n * P) held) enough ∙ ap (λ (k : ℕ). drop (k * P) held) (sym pages) in
    let less : size - n * P < P = subst (λ (k : ℕ). size - k * P < P) (sym full) (rest_short P size positive) in
    let short : length after < P = omega (arith, (read_is (n * P) before after a b u read).1, len, less) in
    (rest, short)

-- ---- its bytes

-- no page was read yet
pub no_bytes_yet : (P : ℕ) (held : List ℕ) → EachIsByte (take (0 * P) held)
no_bytes_yet P held =
    let none : 0 * P ≡ 0 = omega arith in
    subst (λ (k : ℕ). EachIsByte (take k held)) (sym none) (λ i. lit< tt)

-- the bytes before a page and those of the page
pub bytes_grow : (P n : ℕ) (s t : OwnedState) (before after : List ℕ) (u : Unit {0}) → OwnedContentGoes (n * P) before after s t (Ok u) → length before ≡ P
    → EachIsByte after → EachIsByte (take (n * P) (content_now s)) → EachIsByte (take ((n + 1) * P) (content_now s))
bytes_grow P n s t before after u read len small so_far =
    let held = content_now s in
    let page : after ≡ take P (drop (n * P) held) =
    (read_is (n * P) before after s t u read).0 ∙ ap (λ (k : ℕ). take k (drop (n * P) held)) len in
    let one : n + 1 ≡ suc n = omega arith in
    let step : (n + 1) * P ≡ n * P + P = ap (λ (k : ℕ). k * P) one ∙ suc-mul n P in
    subst (λ (k : ℕ). EachIsByte (take k held)) (sym step)
    (subst (λ (l : List ℕ). EachIsByte l) (sym (take-add (n * P) P held)) (bytes_joined (take (n * P) held) (take P (drop (n * P) held)) so_far (subst EachIsByte page small)))

-- the bytes of all
pub all_bytes : (sum own : List ℕ → ℕ) (P n : ℕ) (s a b : OwnedState) (before after : List ℕ) (u : Unit {0}) → IsOwned sum own s → content_now a ≡ content_now s
    → OwnedContentGoes (n * P) before after a b (Ok u) → length before ≡ owned_size s.journal - n * P → EachIsByte after → EachIsByte (take (n * P) (content_now s)) → EachIsByte (content_now s)
all_bytes sum own P n s a b before after u owned kept read len small so_far =
    let held = content_now s in
    let sized = size_now sum own s owned in
    let k = length before in
    let rest : after ≡ take k (drop (n * P) held) = (read_is (n * P) before after a b u read).0 ∙ ap (λ (bytes : List ℕ). take k (drop (n * P) bytes)) kept in
    let enough : length held ≤ n * P + k = omega (arith, sized, len) in
    subst (λ (l : List ℕ). EachIsByte l) (sym (take-add (n * P) k held) ∙ take_all (n * P + k) held enough)
    (bytes_joined (take (n * P) held) (take k (drop (n * P) held)) so_far (subst EachIsByte rest small))

-- ---- refusals

fails_by : (j : Option WriterState) (offset : ℕ) (before after : List ℕ) (old new : Life) (e : disk.Error)
    → HasJournal j (λ w. ReadContentGoes (content w old.present.readable) offset before after old new (Err e))
    → HasJournal j (λ w. (mid : Life) × RecordReadRefused mid new e)
fails_by None offset before after old new e is = is
fails_by (Some w) offset before after old new e is = (old, is.answers)

-- a page couldn't be read
pub read_failed : (offset : ℕ) (before after : List ℕ) (s a b : OwnedState) (e : Error) → a.journal ≡ s.journal → OwnedContentGoes offset before after a b (Err e) → DigestsFail s b e
read_failed offset before after s a b (errors.Layer e) same is =
    subst (λ (j : Option WriterState). HasJournal j (λ w. (mid : Life) × RecordReadRefused mid b.life e)) same (fails_by a.journal offset before after a.life b.life e is)
read_failed offset before after s a b errors.Closed same is = sym same ∙ is.0
read_failed offset before after s a b (errors.System e) same is = is
read_failed offset before after s a b (errors.Unsynced e) same is = is
read_failed offset before after s a b (errors.Damaged n) same is = is
read_failed offset before after s a b (errors.Unlisted n) same is = is
read_failed offset before after s a b (errors.Missing n) same is = is
read_failed offset before after s a b (errors.Short n) same is = is
read_failed offset before after s a b (errors.AnotherDigest n) same is = is
read_failed offset before after s a b (errors.Outdated n) same is = is
read_failed offset before after s a b errors.Manifest same is = is
read_failed offset before after s a b (errors.NoSegment n) same is = is
read_failed offset before after s a b errors.NumbersExhausted same is = is
read_failed offset before after s a b (errors.NoFrame its byte) same is = is
read_failed offset before after s a b (errors.Unmarked n) same is = is

memory_by : (j : Option WriterState) (life : Life) → HasJournal j (λ w. Unit {0}) → HasJournal j (λ w. (mid : Life) × RecordReadRefused mid life layer.OutOfMemory)
memory_by None life there = there
memory_by (Some w) life there = (life, none_failed_start life.present)

-- memory was refused
pub memory_failed : (s t : OwnedState) → HasJournal s.journal (λ w. Unit {0}) → DigestsFail s t (errors.Layer layer.OutOfMemory)
memory_failed s t there = memory_by s.journal t.life there

-- there is a journal
pub there_is : (view s : OwnedState) (w : WriterState) → view ≡ s → view.journal ≡ Some w → HasJournal s.journal (λ w. Unit {0})
there_is view s w same is =
    subst (λ (s : OwnedState). HasJournal s.journal (λ w. Unit {0})) same (subst (λ (j : Option WriterState). HasJournal j (λ w. Unit {0})) (sym is) tt)

-- the levels couldn't be made
pub levels_refused : (d : List ℕ → List ℕ) (s t : OwnedState) (e : Error) (result : Result SegmentLevels Error) → IsErrAnd result (λ x. x ≡ e) → DigestsFail s t e → LevelsGo d s t result
levels_refused d s t e (Ok levels) is fails = absurd is
levels_refused d s t e (Err x) is fails = subst (λ (y : Error). DigestsFail s t y) (sym is) fails

-- ---- the levels

-- the levels over the list of the content are its levels
pub levels_over : (d : List ℕ → List ℕ) (P : ℕ) (held list : List ℕ) (l : Levels) → list ≡ list_of d P held → AreLevelsOver d P list l → AreLevelsOf d P held l
levels_over d P held list l is over = record {
  bytes = over.bytes;
  list = over.list ∙ is;
  top = over.top ∙ ap (list_of d P) is;
  root = over.root ∙ ap d (over.top ∙ ap (list_of d P) is);
}

-- the size of the journal that is there
pub size_there : (view s : OwnedState) (w : WriterState) (size : ℕ) → view ≡ s → view.journal ≡ Some w → size ≡ size_of w → size ≡ owned_size s.journal
size_there view s w size same is sized =
    sized ∙ sym (ap (λ (j : Option WriterState). owned_size j) is) ∙ ap (λ (o : OwnedState). owned_size o.journal) same
