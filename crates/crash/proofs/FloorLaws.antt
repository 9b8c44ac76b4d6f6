-- Floors that every image keeps, through calls on a blob of which something may be unsynced.
use Rattle.std.proofs.Common.{◌≡◌, inl, inr, ℕ, ◌+◌, ◌*◌, ◌≤◌, List, length, take, Result, sym, ap, ◌∙◌, subst, arith, length-take}
use Rattle.disk.specs.Disk.{Disk, Life, IsImage, ResizeGoes, SyncGoes, next}
use Rattle.disk.specs.Disk.Operation.{Resize}
use Rattle.disk.specs.declared.error.Error.{Error}
use Rattle.page.specs.Page.{text}
use Rattle.crash.specs.Kept.{AllKeep, Through}
use Rattle.crash.specs.Looks.{Looked, SameButLog}
use Rattle.crash.specs.Stays.{KeepsFloors}
use Rattle.crash.proofs.CutLaws.{resize_cases, sync_cases}
use Rattle.crash.proofs.Disks.{base_is_image, image_alike, readable_stays}
use Rattle.crash.specs.Moments.{through_end, through_joins, through_more, through_start, through_then}
use Rattle.crash.proofs.Moments.{keeps_alike}
use Rattle.crash.proofs.Promise.{guards_below, keeps_on, keeps_same, keeps_settle, resize_leaves_below}

-- what is readable is an image
abbrev pub ReadsImage : Life → Type 0
ReadsImage life = IsImage life.present life.present.readable

-- ---- what is readable stays an image

-- an image of a disk is one of another disk with the same base and operations
image_of : (d e : Disk) (image : List ℕ) → e.base ≡ d.base → e.since ≡ d.since → IsImage d image → IsImage e image
image_of d e image base since is_image = image_alike e d image (sym base) (sym since) is_image

pub looked_image : (old new : Life) → Looked old new → ReadsImage old → ReadsImage new
looked_image old new looked image =
    subst (λ (l : List ℕ). IsImage new.present l) (sym (ap (λ (d : Disk). d.readable) looked.same))
    (image_of old.present new.present old.present.readable (ap (λ (d : Disk). d.base) looked.same) (ap (λ (d : Disk). d.since) looked.same) image)

pub resize_image : (len : ℕ) (old new : Life) (answer : Result (Unit {0}) Error) → ResizeGoes len old new answer → ReadsImage old → ReadsImage new
resize_image len old new answer goes image = elim (resize_cases len old new answer goes) [
  | inl none ↦ subst ReadsImage (sym none) image
  | inr (d, is, base, since, partial) ↦
      subst ReadsImage (sym is) (readable_stays old.present d (Resize len) old.present.readable d.readable base since partial image)
]

pub sync_image : (old new : Life) (answer : Result (Unit {0}) Error) → SyncGoes old new answer → ReadsImage old → ReadsImage new
sync_image old new answer goes image = elim (sync_cases old new answer goes) [
  | inl none ↦ subst ReadsImage (sym none) image
  | inr (d, is, readable, inl (base, since)) ↦
      subst ReadsImage (sym is) (subst (λ (l : List ℕ). IsImage d l) (sym readable) (image_of old.present d old.present.readable base since image))
  | inr (d, is, readable, inr (base, since)) ↦
      subst ReadsImage (sym is) (subst (λ (l : List ℕ). IsImage d l) (base ∙ sym readable) (base_is_image d))
]

-- a sync leaves what is readable as it is
pub sync_readable : (old new : Life) (answer : Result (Unit {0}) Error) → SyncGoes old new answer → new.present.readable ≡ old.present.readable
sync_readable old new answer goes = elim (sync_cases old new answer goes) [
  | inl none ↦ ap (λ (life : Life). life.present.readable) none
  | inr (d, is, readable, after) ↦ ap (λ (life : Life). life.present.readable) is ∙ readable
]

-- ---- each floor is kept

module _ (sum : List ℕ → ℕ) (P : ℕ) (content : List ℕ) where
  -- a call that asked for nothing keeps each floor
  pub floors_none : (old new : Life) → new ≡ old → KeepsFloors sum P content old new
  floors_none old new same = λ floor enough keeps.
      subst (λ (life : Life). Through (AllKeep sum P content floor) old life) (sym same) (through_start (AllKeep sum P content floor) old keeps)

  -- a call that added one moment at which each floor is kept keeps each floor
  floors_one : (old new : Life) (d : Disk) → new ≡ next old d → ((floor : ℕ) → floor ≤ length content → AllKeep sum P content floor old.present → AllKeep sum P content floor d) → KeepsFloors sum P content old new
  floors_one old new d is later = λ floor enough keeps.
      subst (λ (life : Life). Through (AllKeep sum P content floor) old life) (sym is)
      (through_more (AllKeep sum P content floor) old old d (through_start (AllKeep sum P content floor) old keeps) (later floor enough keeps))

  -- two calls in turn that keep each floor do so together
  pub floors_joins : (old mid new : Life) → KeepsFloors sum P content old mid → KeepsFloors sum P content mid new → KeepsFloors sum P content old new
  floors_joins old mid new first second = λ floor enough keeps.
      let reached = first floor enough keeps in
      through_joins (AllKeep sum P content floor) old mid new reached (second floor enough (through_end (AllKeep sum P content floor) old mid reached))

  -- calls that only read keep each floor
  pub floors_looked : (old new : Life) → Looked old new → KeepsFloors sum P content old new
  floors_looked old new looked = λ floor enough keeps.
      through_then (SameButLog old.present) (AllKeep sum P content floor) old new
      (λ d same. keeps_alike sum P content floor old.present d (ap (λ (x : Disk). x.base) same) (ap (λ (x : Disk). x.since) same) keeps) looked.through

  -- a sync keeps each floor: what is readable, an image until then, becomes the only one
  pub floors_sync : (old new : Life) (answer : Result (Unit {0}) Error) → ReadsImage old → SyncGoes old new answer → KeepsFloors sum P content old new
  floors_sync old new answer image goes = elim (sync_cases old new answer goes) [
    | inl none ↦ floors_none old new none
    | inr (d, is, readable, inl (base, since)) ↦ floors_one old new d is (λ floor enough keeps. keeps_alike sum P content floor old.present d base since keeps)
    | inr (d, is, readable, inr (base, since)) ↦ floors_one old new d is (λ floor enough keeps. keeps_settle sum P content floor old.present d (subst (λ (l : List ℕ). IsImage old.present l) (sym base) image) since keeps)
  ]

  -- a cut keeps each floor, if it leaves enough pages for the content
  pub floors_resize : (k : ℕ) (old new : Life) (answer : Result (Unit {0}) Error) → ReadsImage old → k * (P + 12) ≤ length old.present.readable → length content ≤ k * P
      → ResizeGoes (k * (P + 12)) old new answer → KeepsFloors sum P content old new
  floors_resize k old new answer image within few goes = elim (resize_cases (k * (P + 12)) old new answer goes) [
    | inl none ↦ floors_none old new none
    | inr (d, is, base, since, partial) ↦
        floors_one old new d is (λ floor enough keeps. keeps_on sum P content floor old.present d
        (λ told inside guards. guards_below sum P k told floor (k * (P + 12)) old.present d (Resize (k * (P + 12))) base since (resize_leaves_below (k * (P + 12))) (omega arith) (omega (arith, enough, few)) guards) keeps)
  ]

  -- such a cut and then a sync keep each floor
  pub floors_cut : (k : ℕ) (old mid new : Life) (cut synced : Result (Unit {0}) Error) → ReadsImage old → k * (P + 12) ≤ length old.present.readable → length content ≤ k * P
      → ResizeGoes (k * (P + 12)) old mid cut → SyncGoes mid new synced → KeepsFloors sum P content old new
  floors_cut k old mid new cut synced image within few cuts syncs =
      floors_joins old mid new (floors_resize k old mid cut image within few cuts) (floors_sync mid new synced (resize_image (k * (P + 12)) old mid cut cuts image) syncs)

-- where each floor of the text of what is readable is kept, each floor of any content is
pub floors_of_content : (sum : List ℕ → ℕ) (P : ℕ) (content : List ℕ) (old new : Life) → ReadsImage old → KeepsFloors sum P (text sum P old.present.readable) old new → KeepsFloors sum P content old new
floors_of_content sum P content old new image floors = λ floor enough keeps.
    let readable = text sum P old.present.readable in
    let same : take floor readable ≡ take floor content = keeps.kept old.present.readable image in
    let there : floor ≤ length readable = omega (arith, ap length same, length-take floor readable, length-take floor content) in
    through_then (AllKeep sum P readable floor) (AllKeep sum P content floor) old new (λ d kept. keeps_same sum P readable content floor d same kept)
    (floors floor there (keeps_same sum P content readable floor old.present (sym same) keeps))

-- ---- calls that only read
