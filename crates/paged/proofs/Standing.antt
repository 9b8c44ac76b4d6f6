-- A writer that stands after the first pages of some bytes, with nothing unsynced.
use Rattle.std.proofs.Common.{◌≡◌, ℕ, ◌+◌, ◌*◌, ◌^◌, ◌<◌, ◌≤◌, List, length, take, drop, refl, sym, ◌∙◌, ap, subst, arith}
use Rattle.std.specs.Prelude.{Option, Some, None}
use Rattle.std.proofs.lemmas.List.{take-take, length-take-le}
use Rattle.disk.specs.Disk.{Disk, AreCovered}
use Rattle.page.specs.Page.{pages, active, value_len, text}
use Rattle.page.specs.declared.slot.ActiveChecksum.{ActiveChecksum}
use Rattle.writer_state.specs.declared.sync_state.SyncState.TheVariants.{Clean}
use Rattle.crash.specs.Distinct.{PageIsGood}
use Rattle.crash.specs.Full.{AreFull}
use Rattle.writer_state.specs.Sound.{Soundness, HasTipPage, content}
use Rattle.crash.proofs.Lists.{within_take}
use Rattle.crash.proofs.Pages.{pages_at, pages_reach, page_is, page_fits, length-pages}
use Rattle.crash.proofs.Texts.{AreBytes, AreFull_same, active_is, text_cut, text_cut_part}
use Rattle.crash.proofs.BuiltLaws.{IsSmall}
use Rattle.writer_state.proofs.FlushLaws.{rest_settled, exact_content, page_content, has_page}
use Rattle.writer_state.proofs.Soundness.{exact_sound, page_sound}
use Rattle.paged_read.specs.declared.prefix.Prefix.{Prefix}
use Rattle.paged_read.specs.Ranges.{page_at}
use Rattle.paged_read.specs.Prefix.{partial_pages, HasBytes}
use Rattle.paged.specs.Recovery.{IsDurable, at_prefix}
use Rattle.paged.proofs.Firsts.{After}

module _ (sum : List ℕ → ℕ) (P : ℕ) (bytes readable : List ℕ) (full : ℕ) (v : List ℕ × ActiveChecksum) (after : After sum P (pages P bytes) full (Some v)) where
  -- the page after some pages, where what is readable ends with it
  pub record IsTold : Type 0 where
    pub size : length readable ≡ (full + 1) * (P + 12)
    pub same : page_at P full bytes ≡ page_at P full readable
    pub told : active sum P (page_at P full readable) ≡ Some v.1
    pub part : v.1.len < P
    pub tip : v.0 ≡ take v.1.len (drop (full * (P + 12)) readable)

  pub told_after : readable ≡ take ((full + 1) * (P + 12)) bytes → IsTold
  told_after cut =
      let a = v.1 in
      let k = full * (P + 12) in
      let n = (full + 1) * (P + 12) in
      let page_eq : after.0 ≡ page_at P full bytes = page_is P full bytes after.0 after.1 in
      let fits : n ≤ length bytes = page_fits P full bytes after.0 after.1 in
      let page_same : page_at P full bytes ≡ page_at P full readable = sym (ap (λ (l : List ℕ). page_at P full l) cut ∙ within_take (P + 12) k n bytes (omega arith)) in
      let told : active sum P (page_at P full readable) ≡ Some a = ap (λ (l : List ℕ). active sum P l) (sym (page_eq ∙ page_same)) ∙ after.2 in
      let is = active_is sum P (page_at P full readable) a told in
      let len : value_len sum P (page_at P full readable) ≡ value_len sum P after.0 = ap (λ (l : List ℕ). value_len sum P l) (sym (page_eq ∙ page_same)) in
      let part : a.len < P = omega (arith, is.len, is.fits, len, after.4) in
      record {
        size = ap length cut ∙ length-take-le n bytes fits;
        same = page_same;
        told = told;
        part = part;
        tip = after.3 ∙ ap (λ (l : List ℕ). take a.len l) (page_eq ∙ page_same) ∙ take-take a.len (P + 12) (drop k readable) (omega (arith, part));
      }

  -- that page is the tip's page
  pub page_after : HasBytes P full bytes (Some v) → readable ≡ take ((full + 1) * (P + 12)) bytes → HasTipPage sum P full v.0 readable v.1
  page_after has cut =
      let shown = told_after cut in
      let are_bytes : AreBytes (page_at P full readable) = subst (λ (l : List ℕ). AreBytes l) shown.same has in
      has_page sum P full v.0 readable v.1 shown.size are_bytes shown.told shown.part shown.tip

module _ (sum : List ℕ → ℕ) (small_sum : IsSmall sum) (P id capacity : ℕ) (bytes : List ℕ) (d : Disk) (positive : 0 < P) (small : P < 2 ^ 16) (durable : IsDurable d) (covered : AreCovered d) where
  -- a writer after this prefix is sound, and its content is the bytes' text
  abbrev pub StandsFor : Prefix → Type 0
  StandsFor p = Soundness sum (at_prefix P id capacity p Clean) d × (content (at_prefix P id capacity p Clean) d.readable ≡ text sum P bytes)

  -- a writer after full pages alone
  stands_none : (full : ℕ) → full ≤ length (pages P bytes) → AreFull sum P (take full (pages P bytes)) → After sum P (pages P bytes) full None → d.readable ≡ take (full * (P + 12)) bytes
      → StandsFor (record { full_pages = full; partial = None })
  stands_none full within are after cut =
      let w = at_prefix P id capacity (record { full_pages = full; partial = None }) Clean in
      let n = full * (P + 12) in
      let reach : n ≤ length bytes = pages_reach P full bytes (omega (arith, within, length-pages P bytes)) in
      let size : length d.readable ≡ n = ap length cut ∙ length-take-le n bytes reach in
      let same : take n bytes ≡ take n d.readable = sym (ap (λ (l : List ℕ). take n l) cut ∙ take-take n n bytes (omega arith)) in
      let here : AreFull sum P (take full (pages P d.readable)) = AreFull_same sum P full bytes d.readable reach same are in (
        exact_sound sum w d durable.since durable.base positive small here refl (rest_settled d covered durable.since) refl size,
        exact_content sum w d durable.since durable.base positive small here refl refl size
            ∙ ap (λ (l : List ℕ). text sum P l) cut
            ∙ text_cut sum P full bytes positive are reach (λ more. after (page_at P full bytes) (pages_at P full bytes more)),
      )

  -- a writer after full pages and a page with a shorter value
  stands_some : (full : ℕ) (v : List ℕ × ActiveChecksum) → AreFull sum P (take full (pages P bytes)) → After sum P (pages P bytes) full (Some v) → HasBytes P full bytes (Some v) → d.readable ≡ take ((full + 1) * (P + 12)) bytes → PageIsGood sum P full d.readable
      → StandsFor (record { full_pages = full; partial = Some v })
  stands_some full v are after has cut good =
      let w = at_prefix P id capacity (record { full_pages = full; partial = Some v }) Clean in
      let a = v.1 in
      let k = full * (P + 12) in
      let n = (full + 1) * (P + 12) in
      let fits : n ≤ length bytes = page_fits P full bytes after.0 after.1 in
      let shown = told_after sum P bytes d.readable full v after cut in
      let same : take k bytes ≡ take k d.readable = sym (ap (λ (l : List ℕ). take k l) cut ∙ take-take k n bytes (omega arith)) in
      let here : AreFull sum P (take full (pages P d.readable)) = AreFull_same sum P full bytes d.readable (omega (arith, fits)) same are in
      let is = active_is sum P (page_at P full d.readable) a shown.told in
      let page : HasTipPage sum P full v.0 d.readable a = page_after sum P bytes d.readable full v after has cut in
      let less : value_len sum P (page_at P full bytes) < P = omega (arith, shown.part, is.len, ap (λ (l : List ℕ). value_len sum P l) shown.same) in (
        page_sound sum w d durable.since durable.base positive small here refl (rest_settled d covered durable.since) small_sum a refl page good,
        page_content sum w d.readable a here (omega (arith, shown.size)) shown.told shown.part shown.tip
            ∙ ap (λ (l : List ℕ). text sum P l) cut
            ∙ text_cut_part sum P full bytes are fits less,
      )

  pub stands_after : (full : ℕ) (found : Option (List ℕ × ActiveChecksum)) → full + partial_pages found ≤ length (pages P bytes) → AreFull sum P (take full (pages P bytes)) → After sum P (pages P bytes) full found → HasBytes P full bytes found
      → d.readable ≡ take ((full + partial_pages found) * (P + 12)) bytes → PageIsGood sum P full d.readable → StandsFor (record { full_pages = full; partial = found })
  stands_after full None within are after has cut good =
      let e : full + 0 ≡ full = omega arith in
      stands_none full (omega (arith, within)) are after (cut ∙ ap (λ (n : ℕ). take (n * (P + 12)) bytes) e)
  stands_after full (Some v) within are after has cut good = stands_some full v are after has cut good
