-- What a call guarantees, in one record: how it is put together, and what follows from it.
use Rattle.std.proofs.Common.{◌≡◌, inl, inr, ℕ, ◌≤◌, List, [], ◌∷◌, ◌++◌, length, take, refl, sym, ap, ◌∙◌, subst, arith, length-take}
use Rattle.std.proofs.lemmas.List.{append_cancel_right, reverse-reverse}
use mathlib.Core.List.{reverse, reverse_aux, reverse_aux-eq}
use Rattle.disk.specs.Disk.{Disk, Life, next, life_after}
use Rattle.page.specs.Page.{text}
use Rattle.cache.specs.CacheState.{CacheState}
use Rattle.cache.specs.Pages.{CachesOnly}
use Rattle.crash.specs.Below.{PagesStay, SamePages}
use Rattle.crash.specs.Kept.{AllKeep, Each, Through}
use Rattle.crash.specs.Moments.{through_then}
use Rattle.crash.specs.Started.{CoversStay, CoversThrough, StartsCanBeAwaited}
use Rattle.crash.specs.Stays.{Stays, StaysThrough}
use Rattle.crash.proofs.Disks.{base_is_image, base_is_whole}
use Rattle.crash.proofs.Moments.{keeps_longer, keeps_shorter, same_floor}
use Rattle.crash.proofs.Promise.{keeps_same, whole_is_chance_free}
use Rattle.writer_state.specs.WriterState.{WriterState}
use Rattle.writer_state.specs.Sound.{IsConsistent, content}
use Rattle.writer_state.proofs.Soundness.{consistent_leaves}
use Rattle.paged_read.proofs.Outliving.{others_stay, tails_stay}
use Rattle.paged_read.proofs.OutlivingReplays.{replays_stay}
use Rattle.paged.specs.Owes.{Owed, OwedThrough, Owes, OwesWaiting}
use Rattle.cache.proofs.CacheLaws.{caches_none}
use Rattle.std.proofs.lemmas.List.{take_all}
use Rattle.paged.specs.Ready.{IsUsable}
use Rattle.paged.proofs.Caching.{fresh_law}

-- ---- two promises at each moment are one

abbrev history : Life → List Disk
history life = life.present ∷ life.past

history_after : (life : Life) (ds : List Disk) → history (life_after life ds) ≡ reverse_aux ds (history life)
history_after life [] = refl
history_after life (d ∷ ds) = history_after (next life d) ds

same_moments : (life : Life) (ds es : List Disk) → life_after life ds ≡ life_after life es → ds ≡ es
same_moments life ds es same =
    let h = history life in
    let back : (l : List Disk) → history (life_after life l) ≡ reverse l ++ h = λ l. history_after life l ∙ reverse_aux-eq l h in
    let turned : reverse ds ≡ reverse es = append_cancel_right (reverse ds) (reverse es) h (sym (back ds) ∙ ap history same ∙ back es) in
    sym (reverse-reverse ds) ∙ ap reverse turned ∙ reverse-reverse es

each_both : (Q R : Disk → Type 0) (ds : List Disk) → Each Q ds → Each R ds → Each (λ d. Q d × R d) ds
each_both Q R [] first second = tt
each_both Q R (d ∷ ds) first second = ((first.0, second.0), each_both Q R ds first.1 second.1)

pub through_both : (Q R : Disk → Type 0) (old new : Life) → Through Q old new → Through R old new → Through (λ d. Q d × R d) old new
unfolding Through
through_both Q R old new first second = record {
  moments = first.moments;
  goes = first.goes;
  start = (first.start, second.start);
  each = each_both Q R first.moments first.each
      (subst (λ (l : List Disk). Each R l) (sym (same_moments old first.moments second.moments (sym first.goes ∙ second.goes))) second.each);
}

-- ---- what a moment guarantees

-- for a sound writer, where each floor of a longer content is kept, each floor of any content is
floors_at : (sum : List ℕ → ℕ) (w : WriterState) (all : List ℕ) (d e : Disk) → IsConsistent sum w d
    → content w d.readable ≡ take (length (content w d.readable)) all → Stays sum w.page_size all d e
    → (other : List ℕ) (floor : ℕ) → floor ≤ length other → AllKeep sum w.page_size other floor d → AllKeep sum w.page_size other floor e
floors_at sum w all d e sound begins stays other floor enough keeps =
    let P = w.page_size in
    let held = content w d.readable in
    let says : text sum P d.base ≡ take (length (text sum P d.base)) held =
    (elim ((consistent_leaves sum w d sound).only d.base (base_is_image d) (whole_is_chance_free sum P d d.base (base_is_whole d.base d.since))) [ inl is ↦ is | inr is ↦ is ]) in
    let kept : take floor (text sum P d.base) ≡ take floor other = keeps.kept d.base (base_is_image d) in
    let there : floor ≤ length (text sum P d.base) = omega (arith, ap length kept, length-take floor (text sum P d.base), length-take floor other) in
    let within : floor ≤ length held = omega (arith, ap length says, length-take (length (text sum P d.base)) held) in
    let more : length held ≤ length all = omega (arith, ap length begins, length-take (length held) all) in
    let same : take floor held ≡ take floor other = sym (same_floor (text sum P d.base) held floor says there) ∙ kept in
    keeps_same sum P held other floor e same
    (keeps_shorter sum P held all floor e begins within
    (stays.kept floor (omega (arith, within, more))
    (keeps_longer sum P held all floor d begins within (keeps_same sum P other held floor d (sym same) keeps))))

module _ (sum : List ℕ → ℕ) (w : WriterState) (all : List ℕ) (old new : Life) (sound : IsConsistent sum w old.present) where
  abbrev pub held : List ℕ
  held = content w old.present.readable

  pub owed_through : held ≡ take (length held) all → StaysThrough sum w.page_size all old new → PagesStay w.page_size w.full_pages old new
      → CoversThrough sum w.page_size held old new → OwedThrough sum w.page_size w.full_pages held all old new
  owed_through begins stays pages covers =
      let P = w.page_size in
      let k = w.full_pages in
      through_then (λ d. Stays sum P all old.present d × (SamePages P k old.present d × CoversStay sum P held old.present d)) (Owed sum P k held all old.present) old new
      (λ d is. record {
        kept = floors_at sum w all old.present d sound begins is.0;
        only = record { only = λ image is_image free. inr (is.0.only image is_image free); vouched = is.0.vouched };
        pages = is.1.0;
        covers = is.1.1;
      })
      (through_both (Stays sum P all old.present) (λ d. SamePages P k old.present d × CoversStay sum P held old.present d) old new stays
      (through_both (SamePages P k old.present) (CoversStay sum P held old.present) old new pages covers))

-- ---- what a call guarantees

pub owes_of : (sum : List ℕ → ℕ) (w : WriterState) (all : List ℕ) (cache after : CacheState) (old new : Life) → IsUsable sum w cache old
    → content w old.present.readable ≡ take (length (content w old.present.readable)) all → StaysThrough sum w.page_size all old new
    → PagesStay w.page_size w.full_pages old new → CoversThrough sum w.page_size (content w old.present.readable) old new → StartsCanBeAwaited new.present
    → CachesOnly w.id w.full_pages all cache after → Owes sum w all cache after old new
owes_of sum w all cache after old new ready begins stays pages covers starts cached = record {
  through = owed_through sum w all old new ready.consistent begins stays pages covers;
  starts = starts;
  cached = cached;
  fresh = fresh_law w.id w.full_pages all cache after cached ready.can.given ready.fresh;
  tails = tails_stay sum w.page_size w.id w.full_pages all cache after old new ready.can.page_size pages cached;
  replays = replays_stay w.page_size w.full_pages old new pages;
  others = others_stay w.id w.full_pages all cache after cached;
}

-- what a wait guarantees
pub owes_waiting : (sum : List ℕ → ℕ) (w : WriterState) (old new : Life) → IsConsistent sum w old.present → StaysThrough sum w.page_size (content w old.present.readable) old new
    → PagesStay w.page_size w.full_pages old new → CoversThrough sum w.page_size (content w old.present.readable) old new → StartsCanBeAwaited new.present → OwesWaiting sum w old new
owes_waiting sum w old new sound stays pages covers starts = record {
  through = owed_through sum w (content w old.present.readable) old new sound (sym (take_all (length (content w old.present.readable)) (content w old.present.readable) (omega arith))) stays pages covers;
  starts = starts;
  tails = λ cache same. tails_stay sum w.page_size w.id w.full_pages [] cache cache old new same pages (caches_none w.id w.full_pages [] cache);
  replays = replays_stay w.page_size w.full_pages old new pages;
}

-- ---- and what each moment of it guarantees for the content that it leaves

pub owed_stays : (sum : List ℕ → ℕ) (w : WriterState) (all : List ℕ) (old new : Life) → OwedThrough sum w.page_size w.full_pages (content w old.present.readable) all old new
    → content w old.present.readable ≡ take (length (content w old.present.readable)) all → StaysThrough sum w.page_size all old new
owed_stays sum w all old new through begins =
    let was = content w old.present.readable in
    through_then (Owed sum w.page_size w.full_pages was all old.present) (Stays sum w.page_size all old.present) old new
    (λ d owed. record {
      kept = λ floor enough keeps. owed.kept all floor enough keeps;
      only = λ image is_image free. elim (owed.only.only image is_image free) [
        | inl is ↦
            let P = w.page_size in
            let few : length (text sum P image) ≤ length was = omega (arith, ap length is, length-take (length (text sum P image)) was) in
            is ∙ same_floor was all (length (text sum P image)) begins few
        | inr is ↦ is
      ];
      vouched = owed.only.vouched;
    }) through
