-- What a crash leaves while a recovery cuts a blob after its text.
use Rattle.std.proofs.Common.{◌≡◌, ◌⊎◌, inl, inr, ℕ, zero, suc, ◌+◌, ◌*◌, ◌<◌, ◌≤◌, List, [], ◌∷◌, ◌++◌, length, take, drop, slice_get, Some, Result, Ok, Err, true, false, if◌then◌else◌, ◌==◌, refl, sym, ap, ◌∙◌, subst, arith, length-append, length-take, length-take-le}
use Rattle.std.proofs.lemmas.Bool.{cases_lt}
use Rattle.std.proofs.lemmas.List.{take_all, take-take, drop_at}
use Rattle.std.proofs.lemmas.Option.{same_Some, slice_get_within}
use Rattle.disk.specs.Disk.{Disk, Life, Operation, HasOperated, ResizeTo, SyncAll, IsImage, IsPartial, ResizeGoes, SyncGoes, applied, next, logged, settled_disk}
use Rattle.disk.specs.Disk.Operation.{Resize}
use Rattle.disk.specs.declared.error.Error.{Error}
use Rattle.disk.specs.declared.error.Error.TheVariants.{ReadFailed, WriteFailed, ResizeFailed, SyncFailed, InvalidChecksum, BlobInsufficientLength, OffsetOverflow, OutOfMemory, IdsExhausted}
use Rattle.page.specs.Page.{pages, value, value_len, text, text_of_pages}
use Rattle.crash.specs.Guard.{IsChanceFree}
use Rattle.crash.specs.Distinct.{IsVouched}
use Rattle.crash.proofs.DistinctLaws.{resize_vouched, vouched_at_rest}
use Rattle.crash.specs.Kept.{AllKeep}
use Rattle.crash.specs.Looks.{Looked, SameButLog}
use Rattle.crash.specs.Stays.{Stays, StaysThrough}
use Rattle.crash.proofs.Lists.{within_take, same_elements, slice_get-take}
use Rattle.crash.proofs.Pages.{length-page, length-pages, page_fits, page_is, pages_at, pages_fit, pages_of_take, take-pages_same, cut_is}
use Rattle.crash.proofs.Texts.{text_full, text_part, value_len_le, verified_le_value}
use Rattle.crash.proofs.Disks.{fixed_at_rest, fixed_in_image, fixed_length, fixed_stays, length-applied_resize, operated_base, operated_since, resize_leaves}
use Rattle.disk.specs.Images.{only_image}
use Rattle.disk.proofs.Lists.{taken_element}
use Rattle.crash.proofs.PageFacts.{value_len_slot}
use Rattle.crash.proofs.Promise.{guarded_is_kept, guards_at_rest, guards_below, keeps_at_rest, keeps_less, resize_leaves_below}
use Rattle.crash.specs.Moments.{through_end, through_more, through_start, through_then}
use Rattle.crash.proofs.Moments.{stays_alike, stays_through_joins}

-- ---- where the text of pages ends

-- the text of these pages ends within the first k: one of those isn't full, or the next page, if
-- there is one, has no value
abbrev pub EndsBy : (List ℕ → ℕ) → ℕ → ℕ → List (List ℕ) → Type 0
EndsBy sum P zero [] = Unit {0}
EndsBy sum P zero (page ∷ rest) = value_len sum P page ≡ 0
EndsBy sum P (suc k) [] = Unit {0}
EndsBy sum P (suc k) (page ∷ rest) = (value_len sum P page < P) ⊎ EndsBy sum P k rest

module _ (sum : List ℕ → ℕ) (P : ℕ) where
  -- a text that ends within the first k pages is the text of those
  pub ends_taken : (k : ℕ) (ps : List (List ℕ)) → 0 < P → EndsBy sum P k ps → text_of_pages sum P ps ≡ text_of_pages sum P (take k ps)
  ends_taken zero [] some ends = refl
  ends_taken zero (page ∷ rest) some ends = text_part sum P page rest (omega (arith, ends)) ∙ ap (λ (n : ℕ). take n page) ends
  ends_taken (suc k) [] some ends = refl
  ends_taken (suc k) (page ∷ rest) some (inl part) = text_part sum P page rest part ∙ sym (text_part sum P page (take k rest) part)
  ends_taken (suc k) (page ∷ rest) some (inr ends) =
      ap (λ (l : List ℕ). value sum P page ++ (if value_len sum P page == P then l else [])) (ends_taken k rest some ends)

  -- where the text of all pages is that of the first k, it ends within those
  pub ends_from : (k : ℕ) (ps : List (List ℕ)) → 0 < P → ((q : ℕ) (page : List ℕ) → slice_get ps q ≡ Some page → P ≤ length page)
      → text_of_pages sum P ps ≡ text_of_pages sum P (take k ps) → EndsBy sum P k ps
  ends_from zero [] some long same = tt
  ends_from zero (page ∷ rest) some long same =
      let none : length (text_of_pages sum P (page ∷ rest)) ≡ 0 = ap length same in
      let goes_on = if value_len sum P page == P then text_of_pages sum P rest else [] in
      omega (arith, none, length-append (value sum P page) goes_on, length-take (value_len sum P page) page, long 0 page refl)
  ends_from (suc k) [] some long same = tt
  ends_from (suc k) (page ∷ rest) some long same = elim (cases_lt (value_len sum P page) P) [
    | inl part ↦ inl part
    | inr more ↦
        let full : value_len sum P page ≡ P = omega (arith, more, value_len_le sum P page) in
        let size : length (take P page) ≡ P = length-take-le P page (long 0 page refl) in
        let after : take P page ++ text_of_pages sum P rest ≡ take P page ++ text_of_pages sum P (take k rest) =
        sym (text_full sum P page rest full) ∙ same ∙ text_full sum P page (take k rest) full in
        inr (ends_from k rest some (λ q other is. long (suc q) other is)
        (sym (drop_at (take P page) (text_of_pages sum P rest) P size) ∙ ap (λ (l : List ℕ). drop P l) after ∙ drop_at (take P page) (text_of_pages sum P (take k rest)) P size))
  ]

  -- the text of other pages ends within the first k too, if these are the same, and the next page
  -- has a value only where the one here has
  pub ends_alike : (k : ℕ) (ps qs : List (List ℕ)) → k ≤ length ps → take k ps ≡ take k qs
      → ((page : List ℕ) → slice_get qs k ≡ Some page → 0 < value_len sum P page → (held : List ℕ) × (slice_get ps k ≡ Some held) × (0 < value_len sum P held))
      → EndsBy sum P k ps → EndsBy sum P k qs
  ends_alike zero ps [] within same was ends = tt
  ends_alike zero [] (q ∷ qs) within same was ends = elim (cases_lt 0 (value_len sum P q)) [
    | inl some ↦ let held = was q refl some in absurd (cc (held.1))
    | inr none ↦ omega arith
  ]
  ends_alike zero (p ∷ ps) (q ∷ qs) within same was ends = elim (cases_lt 0 (value_len sum P q)) [
    | inl some ↦
        let held = was q refl some in
        let is : p ≡ held.0 = same_Some p held.0 held.1 in
        absurd (omega (arith, held.2, ap (λ (l : List ℕ). value_len sum P l) is, ends))
    | inr none ↦ omega arith
  ]
  ends_alike (suc k) ps [] within same was ends = tt
  ends_alike (suc k) [] (q ∷ qs) within same was ends = absurd (omega arith)
  ends_alike (suc k) (p ∷ ps) (q ∷ qs) within same was (inl part) = let is : p ≡ q = cc (same) in inl (rw (← is) part)
  ends_alike (suc k) (p ∷ ps) (q ∷ qs) within same was (inr ends) = inr (ends_alike k ps qs (omega arith) (cc (same)) was ends)

  -- the text of pages is at most their payloads
  pub text_few : (ps : List (List ℕ)) → length (text_of_pages sum P ps) ≤ length ps * P
  text_few [] = omega arith
  text_few (page ∷ rest) = elim (cases_lt (value_len sum P page) P) [
    | inl part ↦ omega (arith, ap length (text_part sum P page rest part), length-take (value_len sum P page) page, part)
    | inr more ↦
        let full : value_len sum P page ≡ P = omega (arith, more, value_len_le sum P page) in
        omega (arith, ap length (text_full sum P page rest full), length-append (take P page) (text_of_pages sum P rest), length-take P page, text_few rest)
  ]

-- ---- cuts that leave a blob's text as it is

-- where a cut leaves the text as it is, the text ends within the pages that are left
pub cut_ends : (sum : List ℕ → ℕ) (P k : ℕ) (bytes : List ℕ) → 0 < P → k * (P + 12) ≤ length bytes → text sum P (take (k * (P + 12)) bytes) ≡ text sum P bytes → EndsBy sum P k (pages P bytes)
cut_ends sum P k bytes some within same = ends_from sum P k (pages P bytes) some (λ q page is. omega (arith, length-page P q bytes page is))
    (sym same ∙ ap (λ (l : List (List ℕ)). text_of_pages sum P l) (pages_of_take P k bytes within))

-- where a cut leaves the text as it is, the text is no longer than the payloads of the pages left
pub cut_few : (sum : List ℕ → ℕ) (P k : ℕ) (bytes : List ℕ) → k * (P + 12) ≤ length bytes → length (text sum P (take (k * (P + 12)) bytes)) ≤ k * P
cut_few sum P k bytes within =
    let few = text_few sum P (take k (pages P bytes)) in
    let count : length (take k (pages P bytes)) ≡ k = length-take-le k (pages P bytes) (omega (arith, length-pages P bytes, pages_fit P k bytes within)) in
    let at_most : length (text_of_pages sum P (take k (pages P bytes))) ≤ k * P = rw count at few in
    omega (arith, ap (λ (l : List (List ℕ)). length (text_of_pages sum P l)) (pages_of_take P k bytes within), at_most)

-- ---- one disk

-- `Stays` holds at a disk whose images all keep all of a content, and whose chance-free images have
-- nothing else as their text
pub stays_all : (sum : List ℕ → ℕ) (P : ℕ) (content : List ℕ) (d e : Disk) → AllKeep sum P content (length content) e
    → ((image : List ℕ) → IsImage e image → IsChanceFree sum P e image → text sum P image ≡ content) → IsVouched sum P e → Stays sum P content d e
stays_all sum P content d e keeps only vouched = record {
  vouched = vouched;
  kept = λ floor enough before. keeps_less sum P content (length content) floor e enough keeps;
  only = λ image is_image free.
      let same = only image is_image free in
      same ∙ sym (take_all (length (text sum P image)) content (omega (arith, ap length same)));
}

-- with nothing unsynced every image has the base's text
pub rest_keeps : (sum : List ℕ → ℕ) (P : ℕ) (content : List ℕ) (e : Disk) → e.since ≡ [] → text sum P e.base ≡ content → AllKeep sum P content (length content) e
rest_keeps sum P content e at_rest says = subst (λ (t : List ℕ). AllKeep sum P t (length t) e) says (keeps_at_rest sum P e at_rest)

-- with nothing unsynced no image has another text than the base's
pub rest_only : (sum : List ℕ → ℕ) (P : ℕ) (content : List ℕ) (e : Disk) (image : List ℕ) → e.since ≡ [] → text sum P e.base ≡ content → IsImage e image → text sum P image ≡ content
rest_only sum P content e image at_rest says is_image = ap (λ (l : List ℕ). text sum P l) (only_image e image at_rest is_image) ∙ says

-- so `Stays` holds at a disk with nothing unsynced whose base has the content as its text
pub rest_stays : (sum : List ℕ → ℕ) (P : ℕ) (content : List ℕ) (d e : Disk) → e.since ≡ [] → text sum P e.base ≡ content → Stays sum P content d e
rest_stays sum P content d e at_rest says =
    stays_all sum P content d e (rest_keeps sum P content e at_rest says) (λ image is_image free. rest_only sum P content e image at_rest says is_image) (vouched_at_rest sum P e at_rest)

-- a cut that isn't durable, done or failed: every image keeps the text
pub cut_keeps : (sum : List ℕ → ℕ) (P k : ℕ) (content : List ℕ) (e : Disk) → 0 < P → e.since ≡ Resize (k * (P + 12)) ∷ [] → k * (P + 12) ≤ length e.base
    → text sum P e.base ≡ content → text sum P (take (k * (P + 12)) e.base) ≡ content → AllKeep sum P content (length content) e
cut_keeps sum P k content e some since within says cut_says =
    let d : Disk = record e { since = [] } in
    let few : length (text sum P e.base) ≤ k * P = omega (arith, cut_few sum P k e.base within, ap length says, ap length cut_says) in
    let guards = guards_below sum P k (text sum P e.base) (length (text sum P e.base)) (k * (P + 12)) d e (Resize (k * (P + 12))) refl since
    (resize_leaves_below (k * (P + 12))) (omega arith) few (guards_at_rest sum P d some refl) in
    subst (λ (t : List ℕ). AllKeep sum P t (length t) e) says (guarded_is_kept sum P (text sum P e.base) (length (text sum P e.base)) e guards (omega arith))

-- no image is shorter than the cut, and each begins with what is kept
pub cut_begins : (len : ℕ) (e : Disk) (image : List ℕ) → e.since ≡ Resize len ∷ [] → len ≤ length e.base → IsImage e image → (len ≤ length image) × (take len image ≡ take len e.base)
cut_begins len e image since within is_image =
    let d : Disk = record e { since = [] } in
    let kept = take len e.base in
    let size : length kept ≡ len = length-take-le len e.base within in
    let fixed = fixed_stays d e (Resize len) 0 kept refl since (resize_leaves len 0 kept (omega (arith, size)))
    (fixed_at_rest d 0 kept refl (omega (arith, size, within)) (ap (λ (n : ℕ). take n e.base) size)) in
    (omega (arith, size, fixed_length e 0 kept image fixed is_image), ap (λ (n : ℕ). take n image) (sym size) ∙ fixed_in_image e 0 kept image fixed is_image)

-- a page after the cut has a value in a chance-free image only where the base's page there has
cut_after : (sum : List ℕ → ℕ) (P k : ℕ) (e : Disk) (image page : List ℕ) → e.since ≡ Resize (k * (P + 12)) ∷ [] → k * (P + 12) ≤ length e.base → IsChanceFree sum P e image
    → slice_get (pages P image) k ≡ Some page → 0 < value_len sum P page → (held : List ℕ) × (slice_get (pages P e.base) k ≡ Some held) × (0 < value_len sum P held)
cut_after sum P k e image page since within free is some =
    let chosen = value_len_slot sum P page in
    let was = free k page is chosen.0 (omega (arith, chosen.1)) in
    let held = was.1 in
    elim (rw since at was.2) [
      | inl is_base ↦ (held, ap (λ (l : List ℕ). slice_get (pages P l) k) (sym is_base) ∙ was.3, omega (arith, was.4, chosen.1, verified_le_value sum P chosen.0 held))
      | inr is_cut ↦
          let size : length was.0 ≡ k * (P + 12) = ap length (is_cut ∙ cut_is (k * (P + 12)) e.base within) ∙ length-take-le (k * (P + 12)) e.base within in
          absurd (omega (arith, size, page_fits P k was.0 held was.3))
    ]

-- every chance-free image has the text, and no other
pub cut_only : (sum : List ℕ → ℕ) (P k : ℕ) (content : List ℕ) (e : Disk) (image : List ℕ) → 0 < P → e.since ≡ Resize (k * (P + 12)) ∷ [] → k * (P + 12) ≤ length e.base
    → text sum P e.base ≡ content → text sum P (take (k * (P + 12)) e.base) ≡ content → IsImage e image → IsChanceFree sum P e image → text sum P image ≡ content
cut_only sum P k content e image some since within says cut_says is_image free =
    let begins = cut_begins (k * (P + 12)) e image since within is_image in
    let same : take k (pages P e.base) ≡ take k (pages P image) = take-pages_same P k e.base image within (sym begins.1) in
    let ends = cut_ends sum P k e.base some within (cut_says ∙ sym says) in
    let count : k ≤ length (pages P e.base) = omega (arith, length-pages P e.base, pages_fit P k e.base within) in
    let ends_too = ends_alike sum P k (pages P e.base) (pages P image) count same (λ page is has. cut_after sum P k e image page since within free is has) ends in
    ends_taken sum P k (pages P image) some ends_too
    ∙ ap (λ (l : List (List ℕ)). text_of_pages sum P l) (sym same)
    ∙ sym (ends_taken sum P k (pages P e.base) some ends)
    ∙ says

-- so `Stays` holds after a cut that isn't durable, done or failed
pub cut_stays : (sum : List ℕ → ℕ) (P k : ℕ) (content : List ℕ) (d e : Disk) → 0 < P → e.since ≡ Resize (k * (P + 12)) ∷ [] → k * (P + 12) ≤ length e.base
    → text sum P e.base ≡ content → text sum P (take (k * (P + 12)) e.base) ≡ content → Stays sum P content d e
cut_stays sum P k content d e some since within says cut_says =
    stays_all sum P content d e (cut_keeps sum P k content e some since within says cut_says) (λ image is_image free. cut_only sum P k content e image some since within says cut_says is_image free)
    (resize_vouched sum P (record e { since = [] }) e (k * (P + 12)) refl since within (vouched_at_rest sum P (record e { since = [] }) refl))

-- ---- what a cut leaves readable

-- a longer beginning has the text too
pub longer_leaves : (sum : List ℕ → ℕ) (P k len : ℕ) (bytes : List ℕ) → 0 < P → k * (P + 12) ≤ len → len ≤ length bytes → text sum P (take (k * (P + 12)) bytes) ≡ text sum P bytes
    → text sum P (take len bytes) ≡ text sum P bytes
longer_leaves sum P k len bytes some longer within same =
    let front = take len bytes in
    let size : length front ≡ len = length-take-le len bytes within in
    let begins : take (k * (P + 12)) bytes ≡ take (k * (P + 12)) front = sym (take-take (k * (P + 12)) len bytes longer) in
    let reach : k * (P + 12) ≤ length bytes = omega arith in
    let first : take k (pages P bytes) ≡ take k (pages P front) = take-pages_same P k bytes front reach begins in
    let count : k ≤ length (pages P bytes) = omega (arith, length-pages P bytes, pages_fit P k bytes reach) in
    let ends = cut_ends sum P k bytes some reach same in
    let ends_too = ends_alike sum P k (pages P bytes) (pages P front) count first (λ page is has.
    let fits : (k + 1) * (P + 12) ≤ len = omega (arith, size, page_fits P k front page is) in
    (page, pages_at P k bytes (omega arith) ∙ ap (λ (l : List ℕ). Some l) (sym (within_take (P + 12) (k * (P + 12)) len bytes (omega arith)) ∙ sym (page_is P k front page is)), has)) ends in
    ends_taken sum P k (pages P front) some ends_too
    ∙ ap (λ (l : List (List ℕ)). text_of_pages sum P l) (sym first)
    ∙ sym (ends_taken sum P k (pages P bytes) some ends)

-- a cut, done whole or in part, leaves a beginning no shorter than what it was to keep
pub cut_partial : (len : ℕ) (old new : List ℕ) → len ≤ length old → IsPartial (Resize len) old new → (len ≤ length new) × (length new ≤ length old) × (new ≡ take (length new) old)
cut_partial len old new within partial =
    let size : length (applied (Resize len) old) ≡ len = length-applied_resize len old in
    let bounds : (len ≤ length new) × (length new ≤ length old) = elim partial.length [
      | inl grew ↦ (omega (arith, size, grew.0, grew.1), omega (arith, size, grew.1))
      | inr shrank ↦ (omega (arith, size, shrank.0), shrank.1)
    ] in (
      bounds.0,
      bounds.1,
      same_elements new (take (length new) old) (sym (length-take-le (length new) old bounds.1)) (λ at byte is.
          slice_get-take (length new) old at (slice_get_within new at byte is) ∙ elim (partial.each at byte is) [
            | inl old_byte ↦ old_byte
            | inr new_byte ↦ taken_element len old at byte (ap (λ (l : List ℕ). slice_get l at) (sym (cut_is len old within)) ∙ new_byte)
          ]),
    )

-- so the text of what is readable after such a cut is the same
pub partial_says : (sum : List ℕ → ℕ) (P k : ℕ) (content old new : List ℕ) → 0 < P → k * (P + 12) ≤ length old → text sum P old ≡ content → text sum P (take (k * (P + 12)) old) ≡ content
    → IsPartial (Resize (k * (P + 12))) old new → text sum P new ≡ content
partial_says sum P k content old new some within says cut_says partial =
    let left = cut_partial (k * (P + 12)) old new within partial in
    ap (λ (l : List ℕ). text sum P l) left.2 ∙ longer_leaves sum P k (length new) old some left.0 left.1 (cut_says ∙ sym says) ∙ says

-- ---- lives

-- a resize that failed may be cut short
failed_resize : (len : ℕ) (old new : Life) (e : Error) → (e ≡ ResizeFailed) × ((d : Disk) × (new ≡ next old d) × HasOperated (Resize len) (ResizeTo len) true old.present d)
    → (new ≡ old) ⊎ ((d : Disk) × (new ≡ next old d) × (d.base ≡ old.present.base) × (d.since ≡ old.present.since ++ Resize len ∷ []) × IsPartial (Resize len) old.present.readable d.readable)
failed_resize len old new e (is, (d, goes, operated)) =
    inr (d, goes, operated_base (Resize len) (ResizeTo len) true old.present d operated, operated_since (Resize len) (ResizeTo len) true old.present d operated, operated.readable)

-- a resize changes nothing, or adds one moment, at which it isn't durable
pub resize_cases : (len : ℕ) (old new : Life) (answer : Result (Unit {0}) Error) → ResizeGoes len old new answer
    → (new ≡ old) ⊎ ((d : Disk) × (new ≡ next old d) × (d.base ≡ old.present.base) × (d.since ≡ old.present.since ++ Resize len ∷ []) × IsPartial (Resize len) old.present.readable d.readable)
resize_cases len old new (Ok done) (d, goes, operated) =
    inr (d, goes, operated_base (Resize len) (ResizeTo len) false old.present d operated, operated_since (Resize len) (ResizeTo len) false old.present d operated, operated.readable)
resize_cases len old new (Err OffsetOverflow) goes = absurd (goes.1)
resize_cases len old new (Err OutOfMemory) goes = inl goes.0
resize_cases len old new (Err ReadFailed) goes = failed_resize len old new ReadFailed goes
resize_cases len old new (Err WriteFailed) goes = failed_resize len old new WriteFailed goes
resize_cases len old new (Err ResizeFailed) goes = failed_resize len old new ResizeFailed goes
resize_cases len old new (Err SyncFailed) goes = failed_resize len old new SyncFailed goes
resize_cases len old new (Err InvalidChecksum) goes = failed_resize len old new InvalidChecksum goes
resize_cases len old new (Err BlobInsufficientLength) goes = failed_resize len old new BlobInsufficientLength goes
resize_cases len old new (Err IdsExhausted) goes = failed_resize len old new IdsExhausted goes

-- a sync changes nothing, or only the log, or makes durable what is readable
pub sync_cases : (old new : Life) (answer : Result (Unit {0}) Error) → SyncGoes old new answer
    → (new ≡ old) ⊎ ((d : Disk) × (new ≡ next old d) × (d.readable ≡ old.present.readable) × (((d.base ≡ old.present.base) × (d.since ≡ old.present.since)) ⊎ ((d.base ≡ old.present.readable) × (d.since ≡ []))))
sync_cases old new (Ok done) goes = inr (settled_disk (logged SyncAll false old.present), goes, refl, inr (refl, refl))
sync_cases old new (Err SyncFailed) goes = inr (logged SyncAll true old.present, goes, refl, inl (refl, refl))
sync_cases old new (Err OutOfMemory) goes = inl goes
sync_cases old new (Err ReadFailed) goes = absurd goes
sync_cases old new (Err WriteFailed) goes = absurd goes
sync_cases old new (Err ResizeFailed) goes = absurd goes
sync_cases old new (Err InvalidChecksum) goes = absurd goes
sync_cases old new (Err BlobInsufficientLength) goes = absurd goes
sync_cases old new (Err OffsetOverflow) goes = absurd goes
sync_cases old new (Err IdsExhausted) goes = absurd goes

-- `Stays` holds at each moment of a call that asked for nothing
pub stays_through_none : (sum : List ℕ → ℕ) (P : ℕ) (content : List ℕ) (old new : Life) → Stays sum P content old.present old.present → new ≡ old → StaysThrough sum P content old new
stays_through_none sum P content old new owes same =
    subst (λ (life : Life). StaysThrough sum P content old life) (sym same) (through_start (Stays sum P content old.present) old owes)

-- `Stays` holds at each moment of a call that added one at which it holds
pub stays_through_one : (sum : List ℕ → ℕ) (P : ℕ) (content : List ℕ) (old new : Life) (d : Disk) → Stays sum P content old.present old.present → new ≡ next old d → Stays sum P content old.present d → StaysThrough sum P content old new
stays_through_one sum P content old new d owes goes stays =
    subst (λ (life : Life). StaysThrough sum P content old life) (sym goes) (through_more (Stays sum P content old.present) old old d (through_start (Stays sum P content old.present) old owes) stays)

-- `Stays` holds at each moment of calls that only read
pub looked_stays : (sum : List ℕ → ℕ) (P : ℕ) (content : List ℕ) (old new : Life) → Stays sum P content old.present old.present → Looked old new → StaysThrough sum P content old new
looked_stays sum P content old new owes looked =
    through_then (SameButLog old.present) (Stays sum P content old.present) old new
    (λ d same. stays_alike sum P content old.present old.present d (ap (λ (x : Disk). x.base) same) (ap (λ (x : Disk). x.since) same) owes) looked.through

-- `Stays` holds at each moment of a sync, where what is readable has the text
pub sync_stays : (sum : List ℕ → ℕ) (P : ℕ) (content : List ℕ) (old new : Life) (answer : Result (Unit {0}) Error) → Stays sum P content old.present old.present → text sum P old.present.readable ≡ content
    → SyncGoes old new answer → StaysThrough sum P content old new
sync_stays sum P content old new answer owes says goes = elim (sync_cases old new answer goes) [
  | inl none ↦ stays_through_none sum P content old new owes none
  | inr (d, is, readable, inl (base, since)) ↦ stays_through_one sum P content old new d owes is (stays_alike sum P content old.present old.present d base since owes)
  | inr (d, is, readable, inr (base, since)) ↦ stays_through_one sum P content old new d owes is (rest_stays sum P content old.present d since (ap (λ (l : List ℕ). text sum P l) base ∙ says))
]

-- a moment at which `Stays` holds by another moment is one at which it holds by itself
pub stays_then_itself : (sum : List ℕ → ℕ) (P : ℕ) (content : List ℕ) (d e : Disk) → Stays sum P content d e → Stays sum P content e e
stays_then_itself sum P content d e stays = record {
  vouched = stays.vouched;
  kept = λ floor enough keeps. keeps;
  only = stays.only;
}

-- `Stays` holds at each moment of reads of a blob with nothing unsynced
pub rest_looked_stays : (sum : List ℕ → ℕ) (P : ℕ) (content : List ℕ) (old new : Life) → old.present.since ≡ [] → old.present.base ≡ old.present.readable
    → text sum P old.present.readable ≡ content → Looked old new → StaysThrough sum P content old new
rest_looked_stays sum P content old new at_rest base says looked =
    looked_stays sum P content old new (rest_stays sum P content old.present old.present at_rest (ap (λ (l : List ℕ). text sum P l) base ∙ says)) looked

-- `Stays` holds before any call on a blob with nothing unsynced
pub rest_through_start : (sum : List ℕ → ℕ) (P : ℕ) (content : List ℕ) (life : Life) → life.present.since ≡ [] → life.present.base ≡ life.present.readable
    → text sum P life.present.readable ≡ content → StaysThrough sum P content life life
rest_through_start sum P content life at_rest base says =
    through_start (Stays sum P content life.present) life (rest_stays sum P content life.present life.present at_rest (ap (λ (l : List ℕ). text sum P l) base ∙ says))

-- `Stays` holds at each moment of a cut that leaves the text of a blob with nothing unsynced,
-- whatever its answer
pub resize_stays : (sum : List ℕ → ℕ) (P k : ℕ) (content : List ℕ) (old new : Life) (answer : Result (Unit {0}) Error) → 0 < P → old.present.since ≡ [] → old.present.base ≡ old.present.readable
    → k * (P + 12) ≤ length old.present.readable → text sum P old.present.readable ≡ content → text sum P (take (k * (P + 12)) old.present.readable) ≡ content
    → ResizeGoes (k * (P + 12)) old new answer → StaysThrough sum P content old new
resize_stays sum P k content old new answer some at_rest base within says cut_says goes =
    let owes = rest_stays sum P content old.present old.present at_rest (ap (λ (l : List ℕ). text sum P l) base ∙ says) in
    elim (resize_cases (k * (P + 12)) old new answer goes) [
      | inl none ↦ stays_through_none sum P content old new owes none
      | inr (d, is, same, since, partial) ↦
          let was : d.base ≡ old.present.readable = same ∙ base in
          let only : d.since ≡ Resize (k * (P + 12)) ∷ [] = since ∙ ap (λ (os : List Operation). os ++ Resize (k * (P + 12)) ∷ []) at_rest in
          stays_through_one sum P content old new d owes is (cut_stays sum P k content old.present d some only (rw was within) (rw was says) (rw was cut_says))
    ]

-- what is readable after such a cut has that text
pub resize_says : (sum : List ℕ → ℕ) (P k : ℕ) (content : List ℕ) (old new : Life) (answer : Result (Unit {0}) Error) → 0 < P
    → k * (P + 12) ≤ length old.present.readable → text sum P old.present.readable ≡ content → text sum P (take (k * (P + 12)) old.present.readable) ≡ content
    → ResizeGoes (k * (P + 12)) old new answer → text sum P new.present.readable ≡ content
resize_says sum P k content old new answer some within says cut_says goes = elim (resize_cases (k * (P + 12)) old new answer goes) [
  | inl none ↦ ap (λ (life : Life). text sum P life.present.readable) none ∙ says
  | inr (d, is, same, since, partial) ↦
      ap (λ (life : Life). text sum P life.present.readable) is ∙ partial_says sum P k content old.present.readable d.readable some within says cut_says partial
]

-- after reads a blob with nothing unsynced still has nothing unsynced
pub rest_looked_rests : (old new : Life) → old.present.since ≡ [] → old.present.base ≡ old.present.readable → Looked old new
    → (new.present.since ≡ []) × (new.present.base ≡ new.present.readable) × (new.present.readable ≡ old.present.readable)
rest_looked_rests old new at_rest base looked =
    let readable : new.present.readable ≡ old.present.readable = ap (λ (x : Disk). x.readable) looked.same in
    (ap (λ (x : Disk). x.since) looked.same ∙ at_rest, ap (λ (x : Disk). x.base) looked.same ∙ base ∙ sym readable, readable)

-- `Stays` holds at each moment of a cut and then a sync, whatever their answers
pub cut_sync_stays : (sum : List ℕ → ℕ) (P k : ℕ) (content : List ℕ) (old mid new : Life) (cut synced : Result (Unit {0}) Error) → 0 < P → old.present.since ≡ [] → old.present.base ≡ old.present.readable
    → k * (P + 12) ≤ length old.present.readable → text sum P old.present.readable ≡ content → text sum P (take (k * (P + 12)) old.present.readable) ≡ content
    → ResizeGoes (k * (P + 12)) old mid cut → SyncGoes mid new synced → StaysThrough sum P content old new
cut_sync_stays sum P k content old mid new cut synced some at_rest base within says cut_says cuts syncs =
    let first = resize_stays sum P k content old mid cut some at_rest base within says cut_says cuts in
    let reached = through_end (Stays sum P content old.present) old mid first in
    let second = sync_stays sum P content mid new synced (stays_then_itself sum P content old.present mid.present reached) (resize_says sum P k content old mid cut some within says cut_says cuts) syncs in
    stays_through_joins sum P content old mid new first second

-- ---- what `Stays` means at each moment
