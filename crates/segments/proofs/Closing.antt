-- A journal that is committed whole is durable whole, and its bytes have just its records.
use Rattle.std.specs.Prelude.{◌≡◌, ◌≤◌, ◌++◌, ℕ, List, [], ◌∷◌, length, Some, None, Option, IfSome}
use Rattle.std.proofs.Common.{ap, sym, ◌∙◌, refl, subst, arith, length-append, append-nil}
use Rattle.disk.specs.Disk.{Disk, IsImage, IsWhole, Life}
use Rattle.cache.specs.CacheState.{CacheState}
use Rattle.crash.specs.Guard.{IsChanceFree}
use Rattle.crash.specs.Moments.{through_end}
use Rattle.page.specs.Page.{text}
use Rattle.paged.specs.Recovery.{IsDurable}
use Rattle.writer_state.specs.WriterState.{WriterState}
use Rattle.writer_state.specs.Sound.{content}
use Rattle.journal.specs.Frame.{IsPrefix, records}
use Rattle.journal.specs.Journal.{CommitsAll, IsCommitted, OnlyRecords, records_in}
use Rattle.journal.specs.Calls.{JournalCallLeaves}
use Rattle.journal.proofs.Journals.{brings_back}
use Rattle.segments.specs.Owned.{IsOwnedJournal, IsShut, KeepsRecords, OwnedState}

-- where all is durable, what is readable is free of chance
pub chance_free : (sum : List ℕ → ℕ) (P : ℕ) (d : Disk) → IsDurable d → IsChanceFree sum P d d.readable
chance_free sum P d durable = λ p page there s some. (
  d.readable,
  page,
  subst (λ os. IsWhole d.base os d.readable) (sym durable.since) (sym durable.base),
  there,
  refl,
  refl,
)

none_left : (rest : List (List ℕ)) → length rest ≤ 0 → rest ≡ []
none_left [] few = refl
none_left (r ∷ rest) few = absurd (omega (arith, few))

-- a prefix that is no shorter is all
pub whole_prefix : (front all : List (List ℕ)) → IsPrefix front all → length all ≤ length front → front ≡ all
whole_prefix front all is long =
    let joined = ap length is.1 ∙ length-append front is.0 in
    sym (is.1 ∙ ap (λ rest. front ++ rest) (none_left is.0 (omega (arith, joined, long))) ∙ append-nil front)

-- what a commit leaves has just the records
pub shut_by : (sum own : List ℕ → ℕ) (w now : WriterState) (cache after : CacheState) (old new : Life)
    → IsImage new.present new.present.readable → IsCommitted sum own w after old new now
    → JournalCallLeaves sum own w (records_in own w old) cache after old new
    → IsShut sum own w.page_size (records_in own w old) new
shut_by sum own w now cache after old new image is leaves =
    let commits = subst (λ P. CommitsAll sum own P (content now new.present.readable) new.present) is.same.page_size is.all in
    let back = brings_back sum own w.page_size new.present new.present.readable image (content now new.present.readable) (length (records own (content now new.present.readable))) commits in
    let first = (through_end (OnlyRecords sum own w.page_size (records_in own w old)) old new leaves.only).only new.present.readable image (chance_free sum w.page_size new.present is.durable) in
    let same : length (records own (content now new.present.readable)) ≡ length (records_in own w old) = ap (λ bytes. length (records own bytes)) is.holds in
    record {
      durable = is.durable;
      tells = whole_prefix (records own (text sum w.page_size new.present.readable)) (records_in own w old) first (omega (arith, back.0, same));
    }

pub keeps_by : (sum own : List ℕ → ℕ) (P : ℕ) (j : Option WriterState) (all : List (List ℕ)) (cache after : CacheState) (old new : Life)
    → IfSome j (λ w. w.page_size ≡ P)
    → IfSome j (λ w. JournalCallLeaves sum own w all cache after old new)
    → IfSome j (λ w. KeepsRecords sum own P all old new)
keeps_by sum own P None all cache after old new page leaves = tt
keeps_by sum own P (Some w) all cache after old new page leaves =
    subst (λ P. KeepsRecords sum own P all old new) page (record { kept = leaves.kept; only = leaves.only })

pub pages_of : (sum own : List ℕ → ℕ) (s : OwnedState) (j : Option WriterState) → IfSome j (λ w. IsOwnedJournal sum own s w) → IfSome j (λ w. w.page_size ≡ s.page_size)
pages_of sum own s None owned = tt
pages_of sum own s (Some w) owned = owned.page_size
