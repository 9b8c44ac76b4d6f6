-- What each moment of opening and recovering a blob guarantees, by the first.
use Rattle.std.proofs.Common.{◌≡◌, inl, inr, ℕ, ◌+◌, ◌*◌, ◌<◌, ◌≤◌, List, length, take, refl, sym, ◌∙◌, ap, subst, arith, Bool, Result, Ok, Err}
use Rattle.std.specs.Prelude.{Option, Some, None}
use Rattle.std.proofs.lemmas.List.{take_all}
use Rattle.disk.specs.declared.error.Error.TheVariants.{ReadFailed, WriteFailed, ResizeFailed, SyncFailed, InvalidChecksum, BlobInsufficientLength, OffsetOverflow, OutOfMemory, IdsExhausted}
use Rattle.page.specs.Page.{text}
use Rattle.disk.specs.Disk.{Disk, Life}
use Rattle.disk.specs.declared.error.Error.{Error}
use Rattle.page.specs.declared.slot.Slot.{Slot}
use Rattle.page.specs.declared.slot.ActiveChecksum.{ActiveChecksum}
use Rattle.writer_state.specs.declared.sync_state.SyncState.{SyncState}
use Rattle.writer_state.specs.declared.sync_state.SyncState.TheVariants.{Clean, Dirty, Pending}
use Rattle.crash.specs.Looks.{Looked}
use Rattle.crash.specs.Kept.{AllOnly}
use Rattle.crash.specs.Stays.{StaysThrough, LeavesOnly, KeepsFloors, KeepsAllFloors}
use Rattle.crash.specs.Moments.{through_joins}
use Rattle.crash.proofs.Moments.{stays_through_joins, only_through}
use Rattle.crash.proofs.FloorLaws.{ReadsImage, floors_of_content, floors_none, floors_joins, floors_looked, floors_resize, floors_cut, looked_image, resize_image, sync_image}
use Rattle.crash.proofs.Texts.{AreBytes}
use Rattle.crash.proofs.LookLaws.{looked_readable}
use Rattle.crash.proofs.CutLaws.{cut_few, rest_keeps, resize_stays, cut_sync_stays, rest_through_start, rest_looked_stays, rest_looked_rests}
use Rattle.paged_read.specs.declared.prefix.Prefix.{Prefix}
use Rattle.paged_read.specs.Ranges.{page_at}
use Rattle.paged_read.specs.Prefix.{bad_beside_value, bad_in, prefix_pages, HasBytes}
use Rattle.paged.specs.Mends.{CutsAndMends, Mends, is_unsynced}
use Rattle.paged.specs.Recovery.{IsDurable, Cuts, CutsBack, KeepsText, LeavesText, IsCutBack, opened_bytes, opened_prefix, opened_size}
use Rattle.paged_read.specs.Searches.{Finds}
use Rattle.paged.specs.Truncate.{KeepsFloorsWithin}
use Rattle.paged.proofs.Emptied.{Mending, kept_says, opened_mending, opened_page, opened_says}
use Rattle.paged.proofs.EmptiedMoments.{empties_floors, empties_stay}
use Rattle.paged.proofs.Mends.{TrimsTo}
use Rattle.paged.proofs.Recoveries.{cut_done, opened_size_le}
use Rattle.paged.proofs.Recovered.{kept_readable, opened_stays_durable}

-- where this slot of a page is emptied, it is a bad one of the last page
abbrev pub Mendable : (List ℕ → ℕ) → (P page : ℕ) → Option Slot → List ℕ → Type 0
Mendable sum P page bad bytes = (t : Slot) → bad ≡ Some t → Mending sum P page t bytes

abbrev pub AreBytesOf : (P page : ℕ) → Option Slot → List ℕ → Type 0
AreBytesOf P page bad bytes = (t : Slot) → bad ≡ Some t → AreBytes (page_at P page bytes)

-- all is durable, and its text is this content
pub record AtRest (sum : List ℕ → ℕ) (P : ℕ) (content : List ℕ) (bytes : List ℕ) (d : Disk) : Type 0 where
  pub durable : IsDurable d
  pub readable : d.readable ≡ bytes
  pub says : text sum P bytes ≡ content

module _ (sum : List ℕ → ℕ) (P : ℕ) (content bytes : List ℕ) (some : 0 < P) where
  here : (d : Disk) → AtRest sum P content bytes d → text sum P d.readable ≡ content
  here d rest = ap (λ (l : List ℕ). text sum P l) rest.readable ∙ rest.says

  -- a cut that leaves the text
  pub cuts_stay : (k : ℕ) (old new : Life) (answer : Result (Unit {0}) Error) → AtRest sum P content bytes old.present → k * (P + 12) ≤ length bytes → text sum P (take (k * (P + 12)) bytes) ≡ content
      → Cuts (k * (P + 12)) old new answer → StaysThrough sum P content old new
  cuts_stay k old new (Ok u) rest within leaves cuts =
      cut_sync_stays sum P k content old cuts.0 new (Ok u) (Ok u) some rest.durable.since rest.durable.base (subst (λ (l : List ℕ). k * (P + 12) ≤ length l) (sym rest.readable) within) (here old.present rest)
      (ap (λ (l : List ℕ). text sum P (take (k * (P + 12)) l)) rest.readable ∙ leaves) cuts.1 cuts.2
  cuts_stay k old new (Err e) rest within leaves cuts = elim cuts [
    | inl first ↦ resize_stays sum P k content old new (Err e) some rest.durable.since rest.durable.base (subst (λ (l : List ℕ). k * (P + 12) ≤ length l) (sym rest.readable) within) (here old.present rest)
        (ap (λ (l : List ℕ). text sum P (take (k * (P + 12)) l)) rest.readable ∙ leaves) first
    | inr second ↦ cut_sync_stays sum P k content old second.0 new (Ok tt) (Err e) some rest.durable.since rest.durable.base (subst (λ (l : List ℕ). k * (P + 12) ≤ length l) (sym rest.readable) within) (here old.present rest)
        (ap (λ (l : List ℕ). text sum P (take (k * (P + 12)) l)) rest.readable ∙ leaves) second.1 second.2
  ]

  -- nothing was done
  none_stays : (old new : Life) → AtRest sum P content bytes old.present → new ≡ old → StaysThrough sum P content old new
  none_stays old new rest same = subst (λ (l : Life). StaysThrough sum P content old l) (sym same) (rest_through_start sum P content old rest.durable.since rest.durable.base (here old.present rest))

  -- a cut where there is more leaves the text
  back_stays : (k : ℕ) (old new : Life) (answer : Result SyncState Error) → AtRest sum P content bytes old.present → k * (P + 12) ≤ length bytes → text sum P (take (k * (P + 12)) bytes) ≡ content
      → CutsBack (k * (P + 12)) old new answer → StaysThrough sum P content old new
  back_stays k old new (Ok Dirty) rest within leaves cuts = none_stays old new rest cuts.1
  back_stays k old new (Ok Clean) rest within leaves cuts = cuts_stay k old new (Ok tt) rest within leaves cuts.1
  back_stays k old new (Ok (Pending name)) rest within leaves cuts = absurd cuts
  back_stays k old new (Err e) rest within leaves cuts = cuts_stay k old new (Err e) rest within leaves cuts

  -- once that cut is done, what is kept is at rest
  back_rests : (k : ℕ) (old new : Life) (s : SyncState) → AtRest sum P content bytes old.present → k * (P + 12) ≤ length bytes → text sum P (take (k * (P + 12)) bytes) ≡ content
      → CutsBack (k * (P + 12)) old new (Ok s) → AtRest sum P content (take (k * (P + 12)) bytes) new.present
  back_rests k old new Dirty rest within leaves cuts = record {
    durable = subst (λ (l : Life). IsDurable l.present) (sym cuts.1) rest.durable;
    readable = ap (λ (l : Life). l.present.readable) cuts.1 ∙ rest.readable ∙ sym (take_all (k * (P + 12)) bytes (omega (arith, cuts.0, ap length rest.readable)));
    says = leaves;
  }
  back_rests k old new Clean rest within leaves cuts =
      let done = cut_done (k * (P + 12)) old new (omega (arith, within, ap length rest.readable)) cuts.1 in
      record { durable = done.1; readable = done.0 ∙ ap (λ (l : List ℕ). take (k * (P + 12)) l) rest.readable; says = leaves }
  back_rests k old new (Pending name) rest within leaves cuts = absurd cuts

  -- a look leaves all at rest
  pub looked_rests : (old new : Life) → AtRest sum P content bytes old.present → Looked old new → AtRest sum P content bytes new.present
  looked_rests old new rest looked =
      let now = rest_looked_rests old new rest.durable.since rest.durable.base looked in
      record { durable = record { since = now.0; base = now.1 }; readable = now.2 ∙ rest.readable; says = rest.says }

  pub looked_stays : (old new : Life) → AtRest sum P content bytes old.present → Looked old new → StaysThrough sum P content old new
  looked_stays old new rest looked = rest_looked_stays sum P content old new rest.durable.since rest.durable.base (here old.present rest) looked

-- emptying a slot, if there is one, leaves the text
mends_stay : (sum : List ℕ → ℕ) (P page : ℕ) (content kept : List ℕ) (some : 0 < P) (bad : Option Slot) (unsynced : Bool) (old new : Life) (answer : Result (Unit {0}) Error) → AtRest sum P content kept old.present → Mendable sum P page bad kept
    → AreBytesOf P page bad kept → Mends P page bad unsynced old new answer → StaysThrough sum P content old new
mends_stay sum P page content kept some None unsynced old new answer rest mendable are mends = none_stays sum P content kept some old new rest mends.1
mends_stay sum P page content kept some (Some t) unsynced old new answer rest mendable are mends =
    let mending : Mending sum P page t old.present.readable = subst (λ (l : List ℕ). Mending sum P page t l) (sym rest.readable) (mendable t refl) in
    let small : AreBytes (page_at P page old.present.readable) = subst (λ (l : List ℕ). AreBytes (page_at P page l)) (sym rest.readable) (are t refl) in
    subst (λ (l : List ℕ). StaysThrough sum P l old new) (here sum P content kept some old.present rest) (empties_stay sum P page t old mending some rest.durable small unsynced new answer mends)

module _ (sum : List ℕ → ℕ) (P : ℕ) (content bytes : List ℕ) (some : 0 < P) (k page : ℕ) (bad : Option Slot) (within : k * (P + 12) ≤ length bytes) (leaves : text sum P (take (k * (P + 12)) bytes) ≡ content)
    (mendable : Mendable sum P page bad (take (k * (P + 12)) bytes)) (are : AreBytesOf P page bad (take (k * (P + 12)) bytes)) where
  -- a cut where there is more, and then emptying a slot, leave the text
  pages_stay : (old new : Life) (answer : Result SyncState Error) → AtRest sum P content bytes old.present → CutsAndMends P (k * (P + 12)) page bad old new answer → StaysThrough sum P content old new
  pages_stay old new (Ok s) rest (state, last, cuts, mends, is) =
      stays_through_joins sum P content old last new (back_stays sum P content bytes some k old last (Ok state) rest within leaves cuts)
      (mends_stay sum P page content (take (k * (P + 12)) bytes) some bad (is_unsynced state) last new (Ok tt) (back_rests sum P content bytes some k old last state rest within leaves cuts) mendable are mends)
  pages_stay old new (Err e) rest (inl cuts) = back_stays sum P content bytes some k old new (Err e) rest within leaves cuts
  pages_stay old new (Err e) rest (inr (state, last, cuts, mends)) =
      stays_through_joins sum P content old last new (back_stays sum P content bytes some k old last (Ok state) rest within leaves cuts)
      (mends_stay sum P page content (take (k * (P + 12)) bytes) some bad (is_unsynced state) last new (Err e) (back_rests sum P content bytes some k old last state rest within leaves cuts) mendable are mends)

  -- a look before them leaves the text
  trims_stay : (old new : Life) → AtRest sum P content bytes old.present → TrimsTo P (k * (P + 12)) page bad old new → StaysThrough sum P content old new
  trims_stay old new rest (mid, looked, once) = stays_through_joins sum P content old mid new (looked_stays sum P content bytes some old mid rest looked) (elim once [
    | inl none ↦ none_stays sum P content bytes some mid new (looked_rests sum P content bytes some old mid rest looked) none
    | inr keeps ↦ pages_stay mid new keeps.0 (looked_rests sum P content bytes some old mid rest looked) keeps.1
  ])

-- ---- each floor, whatever was durable

-- a cut that leaves a text leaves pages enough for it
content_few : (sum : List ℕ → ℕ) (P k : ℕ) (content bytes : List ℕ) → k * (P + 12) ≤ length bytes → text sum P (take (k * (P + 12)) bytes) ≡ content → length content ≤ k * P
content_few sum P k content bytes within leaves = omega (arith, cut_few sum P k bytes within, ap length leaves)

module _ (sum : List ℕ → ℕ) (P k : ℕ) (content : List ℕ) (few : length content ≤ k * P) where
  -- a cut keeps each floor
  cuts_floors : (old new : Life) (answer : Result (Unit {0}) Error) → ReadsImage old → k * (P + 12) ≤ length old.present.readable → Cuts (k * (P + 12)) old new answer → KeepsFloors sum P content old new
  cuts_floors old new (Ok u) image within cuts = floors_cut sum P content k old cuts.0 new (Ok u) (Ok u) image within few cuts.1 cuts.2
  cuts_floors old new (Err e) image within cuts = elim cuts [
    | inl first ↦ floors_resize sum P content k old new (Err e) image within few first
    | inr second ↦ floors_cut sum P content k old second.0 new (Ok tt) (Err e) image within few second.1 second.2
  ]

  -- a cut where there is more keeps each floor
  back_floors : (old new : Life) (answer : Result SyncState Error) → ReadsImage old → k * (P + 12) ≤ length old.present.readable → CutsBack (k * (P + 12)) old new answer → KeepsFloors sum P content old new
  back_floors old new (Ok Dirty) image within cuts = floors_none sum P content old new cuts.1
  back_floors old new (Ok Clean) image within cuts = cuts_floors old new (Ok tt) image within cuts.1
  back_floors old new (Ok (Pending name)) image within cuts = absurd cuts
  back_floors old new (Err e) image within cuts = cuts_floors old new (Err e) image within cuts

-- what is readable then is an image
back_image : (kept : ℕ) (old new : Life) (s : SyncState) → ReadsImage old → CutsBack kept old new (Ok s) → ReadsImage new
back_image kept old new Dirty image cuts = subst ReadsImage (sym cuts.1) image
back_image kept old new Clean image cuts = let c = cuts.1 in sync_image c.0 new (Ok tt) c.2 (resize_image kept old c.0 (Ok tt) c.1 image)
back_image kept old new (Pending name) image cuts = absurd cuts

-- the kept bytes are readable then
back_readable : (kept : ℕ) (old new : Life) (s : SyncState) → kept ≤ length old.present.readable → CutsBack kept old new (Ok s) → new.present.readable ≡ take kept old.present.readable
back_readable kept old new Dirty within cuts = ap (λ (l : Life). l.present.readable) cuts.1 ∙ sym (take_all kept old.present.readable (omega (arith, cuts.0)))
back_readable kept old new Clean within cuts = (cut_done kept old new within cuts.1).0
back_readable kept old new (Pending name) within cuts = absurd cuts

module _ (sum : List ℕ → ℕ) (P k page : ℕ) (bad : Option Slot) (content : List ℕ) (few : length content ≤ k * P) where
  -- emptying a slot, if there is one, keeps each floor
  mends_floors : (old last new : Life) (s : SyncState) (b : Option Slot) (unsynced : Bool) (answer : Result (Unit {0}) Error) → ReadsImage old → k * (P + 12) ≤ length old.present.readable → Mendable sum P page b (take (k * (P + 12)) old.present.readable)
      → CutsBack (k * (P + 12)) old last (Ok s) → Mends P page b unsynced last new answer → KeepsFloors sum P content last new
  mends_floors old last new s None unsynced answer image within mendable cuts mends = floors_none sum P content last new mends.1
  mends_floors old last new s (Some t) unsynced answer image within mendable cuts mends =
      let kept = k * (P + 12) in
      let mending : Mending sum P page t last.present.readable = subst (λ (l : List ℕ). Mending sum P page t l) (sym (back_readable kept old last s within cuts)) (mendable t refl) in
      empties_floors sum P page t last mending content (back_image kept old last s image cuts) unsynced new answer mends

  -- a cut where there is more, and then emptying a slot, keep each floor
  pages_floors : (old new : Life) (answer : Result SyncState Error) → ReadsImage old → k * (P + 12) ≤ length old.present.readable → Mendable sum P page bad (take (k * (P + 12)) old.present.readable)
      → CutsAndMends P (k * (P + 12)) page bad old new answer → KeepsFloors sum P content old new
  pages_floors old new (Ok s) image within mendable (state, last, cuts, mends, is) =
      floors_joins sum P content old last new (back_floors sum P k content few old last (Ok state) image within cuts) (mends_floors old last new state bad (is_unsynced state) (Ok tt) image within mendable cuts mends)
  pages_floors old new (Err e) image within mendable (inl cuts) = back_floors sum P k content few old new (Err e) image within cuts
  pages_floors old new (Err e) image within mendable (inr (state, last, cuts, mends)) =
      floors_joins sum P content old last new (back_floors sum P k content few old last (Ok state) image within cuts) (mends_floors old last new state bad (is_unsynced state) (Err e) image within mendable cuts mends)

  -- a look before them keeps each floor
  trims_floors : (old new : Life) → ReadsImage old → k * (P + 12) ≤ length old.present.readable → Mendable sum P page bad (take (k * (P + 12)) old.present.readable)
      → TrimsTo P (k * (P + 12)) page bad old new → KeepsFloors sum P content old new
  trims_floors old new image within mendable (mid, looked, once) =
      let same = looked_readable old mid looked in
      floors_joins sum P content old mid new (floors_looked sum P content old mid looked) (elim once [
        | inl none ↦ floors_none sum P content mid new none
        | inr keeps ↦ pages_floors mid new keeps.0 (looked_image old mid looked image) (omega (arith, within, ap length same)) (subst (λ (l : List ℕ). Mendable sum P page bad (take (k * (P + 12)) l)) (sym same) mendable) keeps.1
      ])

-- ---- what a call guarantees at each moment, at every answer

pub record Owes (sum : List ℕ → ℕ) (P : ℕ) (old new : Life) : Type 0 where
  pub floors : KeepsAllFloors sum P old new
  pub kept : KeepsText sum P old new
  pub only : LeavesText sum P old new

-- the text at the start
start : (sum : List ℕ → ℕ) (P : ℕ) (life : Life) → IsDurable life.present → AtRest sum P (text sum P life.present.readable) life.present.readable life.present
start sum P life durable = record { durable = durable; readable = refl; says = refl }

module _ (sum : List ℕ → ℕ) (P : ℕ) (old new : Life) where
  -- where all was durable the whole text is such a floor
  pub keeps_text : KeepsFloors sum P (text sum P old.present.readable) old new → KeepsText sum P old new
  keeps_text floors = λ durable.
      floors (length (text sum P old.present.readable)) (omega arith) (rest_keeps sum P (text sum P old.present.readable) old.present durable.since (ap (λ (l : List ℕ). text sum P l) durable.base))

  pub leaves_text : (IsDurable old.present → StaysThrough sum P (text sum P old.present.readable) old new) → LeavesText sum P old new
  leaves_text stays = λ durable. only_through sum P (text sum P old.present.readable) (text sum P old.present.readable) old new (stays durable)

  -- a look guarantees that
  pub looked_owe : 0 < P → ReadsImage old → Looked old new → Owes sum P old new
  looked_owe some image looked =
      let bytes = old.present.readable in
      let floors = floors_looked sum P (text sum P bytes) old new looked in
      record {
        floors = λ content. floors_of_content sum P content old new image floors;
        kept = keeps_text floors;
        only = leaves_text (λ durable. looked_stays sum P (text sum P bytes) bytes some old new (start sum P old durable) looked);
      }

  -- opening guarantees that
  pub opens_owe : 0 < P → ReadsImage old → HasBytes P (opened_prefix sum P old.present.readable).full_pages old.present.readable (opened_prefix sum P old.present.readable).partial
      → TrimsTo P (opened_size sum P old.present.readable) (opened_prefix sum P old.present.readable).full_pages (bad_in sum P old.present.readable (opened_prefix sum P old.present.readable)) old new → Owes sum P old new
  opens_owe some image has trims =
      let bytes = old.present.readable in
      let p = opened_prefix sum P bytes in
      let k = prefix_pages p in
      let bad = bad_in sum P bytes p in
      let le = opened_size_le sum P bytes in
      let leaves = kept_says sum P bytes some in
      let few = content_few sum P k (text sum P bytes) bytes le leaves in
      let mendable : Mendable sum P p.full_pages bad (take (k * (P + 12)) bytes) = λ t is. opened_mending sum P bytes t is in
      let floors = trims_floors sum P k p.full_pages bad (text sum P bytes) few old new image le mendable trims in
      record {
        floors = λ content. floors_of_content sum P content old new image floors;
        kept = keeps_text floors;
        only = leaves_text (λ durable. trims_stay sum P (text sum P bytes) bytes some k p.full_pages bad le leaves mendable (λ t is. mended_bytes t is) old new (start sum P old durable) trims);
      }
    where
      mended_bytes : AreBytesOf P (opened_prefix sum P old.present.readable).full_pages (bad_in sum P old.present.readable (opened_prefix sum P old.present.readable)) (take (opened_size sum P old.present.readable) old.present.readable)
      mended_bytes t is = subst AreBytes (sym (opened_page sum P old.present.readable t is)) (partial_bytes (opened_prefix sum P old.present.readable).partial has is)
        where
          partial_bytes : (found : Option (List ℕ × ActiveChecksum)) → HasBytes P (opened_prefix sum P old.present.readable).full_pages old.present.readable found
              → bad_beside_value sum P (page_at P (opened_prefix sum P old.present.readable).full_pages old.present.readable) found ≡ Some t → AreBytes (page_at P (opened_prefix sum P old.present.readable).full_pages old.present.readable)
          partial_bytes None has is = absurd (cc is)
          partial_bytes (Some v) has is = has

module _ (sum : List ℕ → ℕ) (P : ℕ) (old mid : Life) (some : 0 < P) (s : SyncState) (kept : IsCutBack old mid (opened_bytes sum P old.present.readable) s) (owes : Owes sum P old mid) (begun : ReadsImage old) where
  -- what opening left has the text
  left_says : text sum P mid.present.readable ≡ text sum P old.present.readable
  left_says = ap (λ (l : List ℕ). text sum P l) (kept_readable old mid (opened_bytes sum P old.present.readable) s kept) ∙ opened_says sum P old.present.readable some

  -- and that is at rest, where the blob was
  opened_rests : IsDurable old.present → AtRest sum P (text sum P old.present.readable) mid.present.readable mid.present
  opened_rests durable = record { durable = opened_stays_durable old mid (opened_bytes sum P old.present.readable) s kept durable; readable = refl; says = left_says }

  -- what a later part of the call guarantees
  joins_owe : (new : Life) → KeepsFloors sum P (text sum P old.present.readable) mid new → (IsDurable old.present → LeavesOnly sum P (text sum P old.present.readable) (text sum P old.present.readable) mid new) → Owes sum P old new
  joins_owe new floors leaves =
      let content = text sum P old.present.readable in
      let all = floors_joins sum P content old mid new (owes.floors content) floors in
      record {
        floors = λ other. floors_of_content sum P other old new begun all;
        kept = keeps_text sum P old new all;
        only = λ durable. through_joins (AllOnly sum P content content) old mid new (owes.only durable) (leaves durable);
      }

  -- a scan of what opening left guarantees that
  pub scanned_owe : (scanned : Life) → Looked mid scanned → Owes sum P old scanned
  scanned_owe scanned looked =
      let content = text sum P old.present.readable in
      joins_owe scanned (floors_looked sum P content mid scanned looked)
      (λ durable. only_through sum P content content mid scanned (looked_stays sum P content mid.present.readable some mid scanned (opened_rests durable) looked))

  -- and a cut of it to the text guarantees that
  pub recovers_owe : (scanned new : Life) (n Q : ℕ) → Looked mid scanned → Q ≡ P → n ≡ length (text sum P scanned.present.readable) → KeepsFloorsWithin n sum Q scanned new → LeavesText sum Q scanned new → Owes sum P old new
  recovers_owe scanned new n Q looked same is floors leaves =
      let content = text sum P old.present.readable in
      let says : text sum P scanned.present.readable ≡ content = ap (λ (l : List ℕ). text sum P l) (looked_readable mid scanned looked) ∙ left_says in
      let all : take n content ≡ content = take_all n content (omega (arith, is, ap length says)) in
      let here : KeepsFloors sum P content scanned new = subst (λ (l : List ℕ). KeepsFloors sum P l scanned new) all (subst (λ (k : ℕ). KeepsFloorsWithin n sum k scanned new) same floors content) in
      joins_owe new (floors_joins sum P content mid scanned new (floors_looked sum P content mid scanned looked) here)
      (λ durable.
      let rest = opened_rests durable in
      let now = looked_rests sum P content mid.present.readable some mid scanned rest looked in
      through_joins (AllOnly sum P content content) mid scanned new
      (only_through sum P content content mid scanned (looked_stays sum P content mid.present.readable some mid scanned rest looked))
      (subst (λ (l : List ℕ). LeavesOnly sum P l l scanned new) says (subst (λ (k : ℕ). LeavesText sum k scanned new) same leaves now.durable)))

-- a search that isn't answered looked too
pub finds_looked : (p : Prefix) (old new : Life) (e : Error) → Finds p old new (Err e) → Looked old new
finds_looked p old new ReadFailed finds = finds.1
finds_looked p old new WriteFailed finds = absurd finds
finds_looked p old new ResizeFailed finds = absurd finds
finds_looked p old new SyncFailed finds = absurd finds
finds_looked p old new InvalidChecksum finds = absurd finds
finds_looked p old new BlobInsufficientLength finds = absurd finds
finds_looked p old new OffsetOverflow finds = absurd finds
finds_looked p old new OutOfMemory finds = finds.0
finds_looked p old new IdsExhausted finds = absurd finds
