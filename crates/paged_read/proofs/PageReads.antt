-- Reads of pages one by one.
use Rattle.std.proofs.Common.{◌≡◌, ◌⊎◌, inl, inr, ℕ, zero, suc, ◌+◌, ◌<◌, List, [], ◌∷◌, ◌++◌, length, take, drop, refl, sym, ap, ◌∙◌, subst, arith, get_or, drop-cons}
use Rattle.std.proofs.lemmas.List.{take_more, map-append}
use Rattle.std.specs.List.{Contains}
use Rattle.disk.specs.Disk.{Disk, Life}
use Rattle.disk.specs.declared.error.Error.{Error}
use Rattle.disk.specs.declared.error.Error.TheVariants.{ReadFailed, WriteFailed, ResizeFailed, SyncFailed, InvalidChecksum, BlobInsufficientLength, OffsetOverflow, OutOfMemory, IdsExhausted}
use Rattle.disk.proofs.Logs.{failed_later}
use Rattle.page.specs.Page.{value_len}
use Rattle.crash.specs.Looks.{Looked}
use Rattle.cache.specs.CacheState.{CacheState}
use Rattle.cache.specs.declared.piece.Piece.{Piece}
use Rattle.paged_read.specs.Failures.{NoneFailed, none_failed_joins}
use Rattle.paged_read.specs.Tail.{Tail}
use Rattle.paged_read.specs.Ranges.{missing, page_at, AreMissingFull, ReadFault}
use Rattle.paged_read.specs.Parts.{ArePagesFull, PagesFault, piece_pages, with_told}

-- one page alone
pub one_page : (page p : ℕ) → Contains (page ∷ []) p → p ≡ page
one_page page p (zero, within, is) = sym is
one_page page p (suc k, within, is) = absurd (omega (arith, within))

pub has_first : (page : ℕ) (pages : List ℕ) → Contains (page ∷ pages) page
has_first page pages = (0, omega arith, refl)

pub has_later : (page p : ℕ) (pages : List ℕ) → Contains pages p → Contains (page ∷ pages) p
has_later page p pages (k, within, is) = (suc k, omega (arith, within), is)

-- a page among some is the first, or among the others
pub first_or_later : (page p : ℕ) (pages : List ℕ) → Contains (page ∷ pages) p → (p ≡ page) ⊎ Contains pages p
first_or_later page p pages (zero, within, is) = inl (sym is)
first_or_later page p pages (suc k, within, is) = inr (k, omega (arith, within), is)

-- a full page is
pub page_full : (sum : List ℕ → ℕ) (P page : ℕ) (bytes readable : List ℕ) → bytes ≡ page_at P page readable → value_len sum P bytes ≡ P → ArePagesFull sum P (page ∷ []) readable
page_full sum P page bytes readable is full = λ p has.
    ap (λ q. value_len sum P (page_at P q readable)) (one_page page p has) ∙ sym (ap (λ (l : List ℕ). value_len sum P l) is) ∙ full

-- a fault of a later part of a read, of some of its pages, is one of the whole
pub faults_later : (sum : List ℕ → ℕ) (P : ℕ) (some all : List ℕ) (old mid new : Life) (e : Error) → Looked old mid → NoneFailed old.present mid.present → ((p : ℕ) → Contains some p → Contains all p) → PagesFault sum P some mid new e → PagesFault sum P all old new e
faults_later sum P some all old mid new ReadFailed looked none among cause = failed_later ReadFailed old.present mid.present new.present looked.log cause
faults_later sum P some all old mid new WriteFailed looked none among cause = cause
faults_later sum P some all old mid new ResizeFailed looked none among cause = cause
faults_later sum P some all old mid new SyncFailed looked none among cause = cause
faults_later sum P some all old mid new InvalidChecksum looked none among cause =
    (cause.0, among cause.0 cause.1, (λ full. cause.2 (ap (λ (d : Disk). value_len sum P (page_at P cause.0 d.readable)) looked.same ∙ full)), none_failed_joins old.present mid.present new.present none cause.3)
faults_later sum P some all old mid new BlobInsufficientLength looked none among cause = cause
faults_later sum P some all old mid new OffsetOverflow looked none among cause = cause
faults_later sum P some all old mid new OutOfMemory looked none among cause = none_failed_joins old.present mid.present new.present none cause
faults_later sum P some all old mid new IdsExhausted looked none among cause = cause

-- a fault of the missing pages is one of the read
pub faults_missing : (sum : List ℕ → ℕ) (cache : CacheState) (t : Tail) (ranges : List (ℕ × ℕ)) (pages : List ℕ) (old new : Life) (e : Error) → missing cache t ranges ≡ pages → PagesFault sum t.page_size pages old new e → ReadFault sum cache t ranges old new e
faults_missing sum cache t ranges pages old new ReadFailed is cause = cause
faults_missing sum cache t ranges pages old new WriteFailed is cause = cause
faults_missing sum cache t ranges pages old new ResizeFailed is cause = cause
faults_missing sum cache t ranges pages old new SyncFailed is cause = cause
faults_missing sum cache t ranges pages old new InvalidChecksum is cause = (cause.0, subst (λ (l : List ℕ). Contains l cause.0) (sym is) cause.1, cause.2, cause.3)
faults_missing sum cache t ranges pages old new BlobInsufficientLength is cause = cause
faults_missing sum cache t ranges pages old new OffsetOverflow is cause = cause
faults_missing sum cache t ranges pages old new OutOfMemory is cause = cause
faults_missing sum cache t ranges pages old new IdsExhausted is cause = cause

-- a fault of one range is one of another range that finds the same pages missing
pub faults_same : (sum : List ℕ → ℕ) (cache : CacheState) (t : Tail) (one other : List (ℕ × ℕ)) (old new : Life) (e : Error) → missing cache t other ≡ missing cache t one → ReadFault sum cache t one old new e → ReadFault sum cache t other old new e
faults_same sum cache t one other old new ReadFailed is cause = cause
faults_same sum cache t one other old new WriteFailed is cause = cause
faults_same sum cache t one other old new ResizeFailed is cause = cause
faults_same sum cache t one other old new SyncFailed is cause = cause
faults_same sum cache t one other old new InvalidChecksum is cause = (cause.0, subst (λ (l : List ℕ). Contains l cause.0) (sym is) cause.1, cause.2, cause.3)
faults_same sum cache t one other old new BlobInsufficientLength is cause = cause
faults_same sum cache t one other old new OffsetOverflow is cause = cause
faults_same sum cache t one other old new OutOfMemory is cause = cause
faults_same sum cache t one other old new IdsExhausted is cause = cause

-- where the missing pages are these, and these are full, each missing page is full
pub full_missing : (sum : List ℕ → ℕ) (cache : CacheState) (t : Tail) (ranges : List (ℕ × ℕ)) (pages readable : List ℕ) → missing cache t ranges ≡ pages → ArePagesFull sum t.page_size pages readable → AreMissingFull sum cache t ranges readable
full_missing sum cache t ranges pages readable is full = λ page has. full page (subst (λ (l : List ℕ). Contains l page) is has)

-- ---- pieces one by one

either_part : (one other : List ℕ) (p : ℕ) → Contains (one ++ other) p → Contains one p ⊎ Contains other p
either_part [] other p has = inr has
either_part (x ∷ one) other p has = elim (first_or_later x p (one ++ other) has) [
  | inl first ↦ inl (0, omega arith, sym first)
  | inr later ↦ elim (either_part one other p later) [ inl here ↦ inl (has_later x p one here) | inr there ↦ inr there ]
]

-- a piece's page is one of their pages
pub piece_among : (pieces : List Piece) (k : ℕ) (d : Piece) → k < length pieces → Contains (piece_pages pieces) (get_or pieces k d).page
piece_among [] k d below = absurd (omega (arith, below))
piece_among (piece ∷ pieces) zero d below = has_first piece.page (piece_pages pieces)
piece_among (piece ∷ pieces) (suc k) d below = has_later piece.page (get_or pieces k d).page (piece_pages pieces) (piece_among pieces k d (omega (arith, below)))

-- one piece more is put
pub told_step : (P : ℕ) (content : List ℕ) (pieces : List Piece) (k : ℕ) (d : Piece) (buf next first : List ℕ) → k < length pieces → next ≡ with_told P content (get_or pieces k d ∷ []) buf
    → with_told P content (drop k pieces) buf ≡ first → with_told P content (drop (k + 1) pieces) next ≡ first
told_step P content pieces k d buf next first below is before =
    let more : k + 1 ≡ suc k = omega arith in
    ap (λ (l : List ℕ). with_told P content (drop (k + 1) pieces) l) is
    ∙ ap (λ n. with_told P content (get_or pieces k d ∷ drop n pieces) buf) more
    ∙ sym (ap (λ (l : List Piece). with_told P content l buf) (drop-cons pieces k d below))
    ∙ before

-- the page of one piece more is full
pub full_step : (sum : List ℕ → ℕ) (P : ℕ) (pieces : List Piece) (k : ℕ) (d : Piece) (readable : List ℕ) → k < length pieces → ArePagesFull sum P (piece_pages (take k pieces)) readable
    → ArePagesFull sum P ((get_or pieces k d).page ∷ []) readable → ArePagesFull sum P (piece_pages (take (k + 1) pieces)) readable
full_step sum P pieces k d readable below before here = λ page has.
    let split : piece_pages (take (k + 1) pieces) ≡ piece_pages (take k pieces) ++ (get_or pieces k d).page ∷ [] = ap piece_pages (take_more pieces k d below) ∙ map-append (λ (p : Piece). p.page) (take k pieces) (get_or pieces k d ∷ []) in
    elim (either_part (piece_pages (take k pieces)) ((get_or pieces k d).page ∷ []) page (subst (λ (l : List ℕ). Contains l page) split has)) [
      | inl old ↦ before page old
      | inr new ↦ here page new
    ]

-- what is found of one disk is found of another with the same bytes
pub full_same : (sum : List ℕ → ℕ) (P : ℕ) (pages one other : List ℕ) → other ≡ one → ArePagesFull sum P pages one → ArePagesFull sum P pages other
full_same sum P pages one other is full = subst (λ (l : List ℕ). ArePagesFull sum P pages l) (sym is) full
