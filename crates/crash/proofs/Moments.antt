-- Promises at each moment of a life, and how they compose.
use Rattle.std.proofs.Common.{◌≡◌, inl, ℕ, ◌≤◌, List, [], ◌++◌, length, take, sym, ap, ◌∙◌, arith, append-nil, length-take}
use Rattle.std.proofs.lemmas.List.{take-take}
use Rattle.disk.specs.Disk.{Disk, Operation, Life}
use Rattle.page.specs.Page.{text}
use Rattle.crash.specs.Guard.{Guards, IsTruthful, IsChanceFree}
use Rattle.crash.specs.Distinct.{IsVouched}
use Rattle.crash.proofs.DistinctLaws.{vouched_alike, vouched_at_rest}
use Rattle.crash.specs.Kept.{AllKeep, AllOnly, Through}
use Rattle.crash.specs.Contents.{latest}
use Rattle.crash.specs.Moments.{through_start, through_joins, through_end, through_then}
use Rattle.crash.specs.Stays.{Stays, StaysThrough}
use Rattle.crash.proofs.Disks.{base_is_whole, base_is_image, image_alike, image_covered, whole_covered}
use Rattle.crash.proofs.Promise.{guarded_is_kept, floor_is_durable, guards_alike, guards_covered, guards_less, keeps_on, keeps_same, only_content, whole_is_chance_free}

-- `Stays` holds at a truthful disk by itself
pub stays_itself : (sum : List ℕ → ℕ) (P : ℕ) (content : List ℕ) (d : Disk) → IsTruthful sum P content d → IsVouched sum P d → Stays sum P content d d
stays_itself sum P content d truthful vouched = record {
  vouched = vouched;
  kept = λ floor enough keeps. keeps;
  only = λ image is_image free. only_content sum P content d image truthful free;
}

-- what is kept is kept where only what is readable, the started syncs or the log differ
pub keeps_alike : (sum : List ℕ → ℕ) (P : ℕ) (content : List ℕ) (floor : ℕ) (d e : Disk) → e.base ≡ d.base → e.since ≡ d.since → AllKeep sum P content floor d → AllKeep sum P content floor e
keeps_alike sum P content floor d e base since keeps = keeps_on sum P content floor d e (λ told within guards. guards_alike sum P told floor d e base since guards) keeps

-- a chance-free image stays one where only what is readable, the started syncs or the log differ
pub chance_free_alike : (sum : List ℕ → ℕ) (P : ℕ) (d e : Disk) (image : List ℕ) → e.base ≡ d.base → e.since ≡ d.since → IsChanceFree sum P e image → IsChanceFree sum P d image
chance_free_alike sum P d e image base since free =
    λ p page is s some. let was = free p page is s some in (was.0, was.1, rw (base, since) at was.2, was.3, was.4, was.5)

-- `Stays` goes on to hold where only what is readable, the started syncs or the log differ
pub stays_alike : (sum : List ℕ → ℕ) (P : ℕ) (content : List ℕ) (c d e : Disk) → e.base ≡ d.base → e.since ≡ d.since → Stays sum P content c d → Stays sum P content c e
stays_alike sum P content c d e base since stays = record {
  vouched = vouched_alike sum P d e base since stays.vouched;
  kept = λ floor enough keeps. keeps_alike sum P content floor d e base since (stays.kept floor enough keeps);
  only = λ image is_image free. stays.only image (image_alike d e image base since is_image) (chance_free_alike sum P d e image base since free);
}

-- each floor is kept when the operations that a sync covers become durable
pub keeps_covered : (sum : List ℕ → ℕ) (P : ℕ) (content : List ℕ) (floor : ℕ) (d e : Disk) (os ps : List Operation) → d.since ≡ os ++ ps → e.base ≡ latest d.base os → e.since ≡ ps → AllKeep sum P content floor d → AllKeep sum P content floor e
keeps_covered sum P content floor d e os ps since base rest keeps = keeps_on sum P content floor d e (λ told within guards. guards_covered sum P told floor d e os ps since base rest guards) keeps

-- a chance-free image was one before, when the operations that a sync covers become durable
pub chance_free_covered : (sum : List ℕ → ℕ) (P : ℕ) (d e : Disk) (os ps : List Operation) (image : List ℕ) → d.since ≡ os ++ ps → e.base ≡ latest d.base os → e.since ≡ ps → IsChanceFree sum P e image → IsChanceFree sum P d image
chance_free_covered sum P d e os ps image since base rest free =
    λ p page is s some. let was = free p page is s some in (was.0, was.1, whole_covered d e os ps since base rest was.0 was.2, was.3, was.4, was.5)

-- `Stays` goes on to hold when the operations that a sync covers become durable
pub stays_covered : (sum : List ℕ → ℕ) (P : ℕ) (content : List ℕ) (c d e : Disk) (os ps : List Operation) → d.since ≡ os ++ ps → e.base ≡ latest d.base os → e.since ≡ ps → IsVouched sum P e → Stays sum P content c d → Stays sum P content c e
stays_covered sum P content c d e os ps since base rest vouched stays = record {
  vouched = vouched;
  kept = λ floor enough keeps. keeps_covered sum P content floor d e os ps since base rest (stays.kept floor enough keeps);
  only = λ image is_image free. stays.only image (image_covered d e os ps since base rest image is_image) (chance_free_covered sum P d e os ps image since base rest free);
}

-- `Stays` goes on to hold when a sync makes all durable that was done
pub stays_settled : (sum : List ℕ → ℕ) (P : ℕ) (content : List ℕ) (c d e : Disk) → e.base ≡ latest d.base d.since → e.since ≡ [] → Stays sum P content c d → Stays sum P content c e
stays_settled sum P content c d e base rest stays = stays_covered sum P content c d e d.since [] (sym (append-nil d.since)) base rest (vouched_at_rest sum P e rest) stays

-- `Stays` holds at a truthful disk that guards as many bytes as the base's text had
pub stays_guarded : (sum : List ℕ → ℕ) (P : ℕ) (content : List ℕ) (floor : ℕ) (d e : Disk) → length (text sum P d.base) ≤ floor → Guards sum P content floor e → IsTruthful sum P content e → IsVouched sum P e → Stays sum P content d e
stays_guarded sum P content floor d e durable guards truthful vouched = record {
  vouched = vouched;
  kept = λ less enough keeps. guarded_is_kept sum P content less e (guards_less sum P content floor less e (omega (arith, floor_is_durable sum P content less d keeps enough)) guards) enough;
  only = λ image is_image free. only_content sum P content e image truthful free;
}

-- `Stays` by one moment and then by the next holds by the first
pub stays_joins : (sum : List ℕ → ℕ) (P : ℕ) (content : List ℕ) (c d e : Disk) → Stays sum P content c d → Stays sum P content d e → Stays sum P content c e
stays_joins sum P content c d e first second = record {
  kept = λ floor enough keeps. second.kept floor enough (first.kept floor enough keeps);
  only = second.only;
  vouched = second.vouched;
}

-- `Stays` holds at each moment of two calls in turn
pub stays_through_joins : (sum : List ℕ → ℕ) (P : ℕ) (content : List ℕ) (old mid new : Life) → StaysThrough sum P content old mid → StaysThrough sum P content mid new → StaysThrough sum P content old new
stays_through_joins sum P content old mid new first second =
    let reached = through_end (Stays sum P content old.present) old mid first in
    through_joins (Stays sum P content old.present) old mid new first
    (through_then (Stays sum P content mid.present) (Stays sum P content old.present) mid new (λ d later. stays_joins sum P content old.present mid.present d reached later) second)

-- `Stays` holds before any call, at a truthful disk
pub stays_through_start : (sum : List ℕ → ℕ) (P : ℕ) (content : List ℕ) (life : Life) → IsTruthful sum P content life.present → IsVouched sum P life.present → StaysThrough sum P content life life
stays_through_start sum P content life truthful vouched = through_start (Stays sum P content life.present) life (stays_itself sum P content life.present truthful vouched)

-- so each floor that was kept as a call began is kept at each of its moments
pub kept_through : (sum : List ℕ → ℕ) (P : ℕ) (content : List ℕ) (old new : Life) → StaysThrough sum P content old new → (floor : ℕ) → floor ≤ length content → AllKeep sum P content floor old.present → Through (AllKeep sum P content floor) old new
kept_through sum P content old new through floor enough keeps =
    through_then (Stays sum P content old.present) (AllKeep sum P content floor) old new (λ d stays. stays.kept floor enough keeps) through

-- at each moment of a call the text of each chance-free image is a prefix of the content
pub only_through : (sum : List ℕ → ℕ) (P : ℕ) (content after : List ℕ) (old new : Life) → StaysThrough sum P content old new → Through (AllOnly sum P content after) old new
only_through sum P content after old new through =
    through_then (Stays sum P content old.present) (AllOnly sum P content after) old new (λ d stays. record { only = λ image is_image free. inl (stays.only image is_image free); vouched = stays.vouched }) through

-- a content that grows keeps its beginning
pub same_floor : (content longer : List ℕ) (floor : ℕ) → content ≡ take (length content) longer → floor ≤ length content → take floor content ≡ take floor longer
same_floor content longer floor begins enough = ap (λ (l : List ℕ). take floor l) begins ∙ take-take floor (length content) longer enough

-- so a floor of the content before is one of the longer content
pub keeps_longer : (sum : List ℕ → ℕ) (P : ℕ) (content longer : List ℕ) (floor : ℕ) (d : Disk) → content ≡ take (length content) longer → floor ≤ length content → AllKeep sum P content floor d → AllKeep sum P longer floor d
keeps_longer sum P content longer floor d begins enough keeps = keeps_same sum P content longer floor d (same_floor content longer floor begins enough) keeps

-- a floor of the longer content, within the content before, is one of that content
pub keeps_shorter : (sum : List ℕ → ℕ) (P : ℕ) (content longer : List ℕ) (floor : ℕ) (d : Disk) → content ≡ take (length content) longer → floor ≤ length content → AllKeep sum P longer floor d → AllKeep sum P content floor d
keeps_shorter sum P content longer floor d begins enough keeps = keeps_same sum P longer content floor d (sym (same_floor content longer floor begins enough)) keeps

-- `Stays` for a content holds for a longer one: where only the content is there, no more of the
-- longer one can have been kept
pub stays_longer : (sum : List ℕ → ℕ) (P : ℕ) (content longer : List ℕ) (d e : Disk) → content ≡ take (length content) longer → Stays sum P content d d → Stays sum P content d e → Stays sum P longer d e
stays_longer sum P content longer d e begins before stays = record {
  vouched = stays.vouched;
  kept = λ floor enough keeps.
      let base_only = before.only d.base (base_is_image d) (whole_is_chance_free sum P d d.base (base_is_whole d.base d.since)) in
      let durable = floor_is_durable sum P longer floor d keeps enough in
      let few : floor ≤ length content = omega (arith, ap length base_only, length-take (length (text sum P d.base)) content) in
      keeps_longer sum P content longer floor e begins few (stays.kept floor few (keeps_shorter sum P content longer floor d begins few keeps));
  only = λ image is_image free.
      let is = stays.only image is_image free in
      let few : length (text sum P image) ≤ length content = omega (arith, ap length is, length-take (length (text sum P image)) content) in
      is ∙ same_floor content longer (length (text sum P image)) begins few;
}

-- `Stays` at each moment for a content holds for a longer one
pub stays_through_longer : (sum : List ℕ → ℕ) (P : ℕ) (content longer : List ℕ) (old new : Life) → content ≡ take (length content) longer → StaysThrough sum P content old new → StaysThrough sum P longer old new
unfolding Through
stays_through_longer sum P content longer old new begins through =
    through_then (Stays sum P content old.present) (Stays sum P longer old.present) old new (λ d stays. stays_longer sum P content longer old.present d begins through.start stays) through
