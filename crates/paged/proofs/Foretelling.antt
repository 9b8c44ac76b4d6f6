-- What a look foretells, and what a recovery leaves.
use Rattle.std.proofs.Common.{◌≡◌, ℕ, ◌+◌, ◌*◌, ◌/◌, ◌<◌, ◌≤◌, ◌^◌, min, List, length, refl, sym, ◌∙◌, ap, arith, Result, Ok, Err}
use Rattle.std.specs.Prelude.{Option, Some, None, IfOk}
use Rattle.std.specs.Int.{div_ceil}
use Rattle.std.proofs.Math.Nat.{div-eq_of_lt, div-mul-le_self, mul-le-mul_left}
use Rattle.std.proofs.lemmas.Nat.{div-mul-add, mod-mul-add}
use Rattle.disk.specs.Disk.{Life}
use Rattle.disk.specs.declared.error.Error.{Error}
use Rattle.page.specs.Page.{pages, pieces, text}
use Rattle.page.specs.declared.slot.ActiveChecksum.{ActiveChecksum}
use Rattle.cache.specs.CacheState.{CacheState}
use Rattle.crash.specs.Built.{kept_len}
use Rattle.crash.specs.Looks.{Looked}
use Rattle.writer_state.specs.Sound.{IsSound, TipPage}
use Rattle.writer_state.specs.WriterState.{WriterState}
use Rattle.crash.proofs.CutLaws.{rest_looked_stays}
use Rattle.crash.proofs.FloorLaws.{floors_looked}
use Rattle.crash.proofs.Texts.{active_is}
use Rattle.paged_read.specs.declared.prefix.Prefix.{Prefix}
use Rattle.paged_read.specs.Prefix.{partial_pages, prefix_of, prefix_pages, prefix_size, tip_of}
use Rattle.paged_read.specs.Scans.{prefix_from}
use Rattle.paged_read.specs.Searches.{Finds}
use Rattle.paged_read.proofs.Prefixes.{stands_first}
use Rattle.paged.specs.declared.outlook.Outlook.{Outlook}
use Rattle.paged.specs.Outlook.{Foretells, IsOutlook}
use Rattle.paged.specs.Reads.{size_of}
use Rattle.paged.specs.Recovers.{IsRecovered, Recovers}
use Rattle.paged.specs.Recovery.{KeepsText, LeavesText, slot_pages}
use Rattle.paged.proofs.Firsts.{AreLong, After, prefix_is, prefix_size_is, told_len}
use Rattle.paged.proofs.Recovered.{long_pages}
use Rattle.paged.proofs.Scanned.{flushed_reach, scanned_within}
use Rattle.paged.proofs.Trims.{finds_looked, keeps_text, leaves_text}

-- ---- how many pages a text has

-- some pages, and a rest that is less than one
pages_with_rest : (P full rest : ℕ) → rest < P → full + min 1 rest ≡ div_ceil (full * P + rest) P
pages_with_rest P full rest short =
    omega (arith, div-mul-add full P rest short, ap (λ (n : ℕ). min 1 n) (mod-mul-add full P rest short))

-- some bytes take at least one page
one_for_some : (n : ℕ) → 0 < n → 1 ≡ min 1 n
one_for_some n some = omega (arith, some)

-- the value after the full pages takes one page, if there is one
partial_takes : (sum : List ℕ → ℕ) (P : ℕ) (some : List (List ℕ)) (full : ℕ) (found : Option (List ℕ × ActiveChecksum)) → AreLong sum P some → After sum P some full found → partial_pages found ≡ min 1 (length (tip_of found))
partial_takes sum P some full None long is = refl
partial_takes sum P some full (Some v) long is =
    one_for_some (length v.0) (omega (arith, (active_is sum P is.0 v.1 is.2).some, told_len sum P some full (Some v) (long full) is))

-- the flushed slot of a writer of which all is written takes one page, if there is one
slot_takes : (sum : List ℕ → ℕ) (P full : ℕ) (tip readable : List ℕ) (flushed : Option ActiveChecksum) → kept_len flushed ≡ length tip → TipPage sum P full tip readable flushed → slot_pages flushed ≡ min 1 (length tip)
slot_takes sum P full tip readable None written is = ap (λ (n : ℕ). min 1 n) written
slot_takes sum P full tip readable (Some f) written is = one_for_some (length tip) (omega (arith, is.some, written))

-- ---- what a look answers

module _ (sum : List ℕ → ℕ) (P : ℕ) (bytes : List ℕ) (p : Prefix) (is : p ≡ prefix_of sum P (pages P bytes)) where
  abbrev first : Prefix
  first = prefix_of sum P (pages P bytes)

  -- a prefix is as long as the text
  len_is : prefix_size P p ≡ length (text sum P bytes)
  len_is = ap (λ (q : Prefix). prefix_size P q) is ∙ prefix_size_is sum P (pages P bytes) (long_pages sum P bytes)

  -- a prefix has as many pages as its length needs
  pages_are : 0 < P → prefix_pages p ≡ div_ceil (prefix_size P p) P
  pages_are some =
      let facts = prefix_is sum P (pages P bytes) in
      ap (λ (q : Prefix). prefix_pages q) is
      ∙ ap (λ (n : ℕ). first.full_pages + n) (partial_takes sum P (pages P bytes) first.full_pages first.partial (long_pages sum P bytes) facts.after)
      ∙ pages_with_rest P first.full_pages (length (tip_of first.partial)) (facts.tip some)
      ∙ sym (ap (λ (q : Prefix). div_ceil (prefix_size P q) P) is)

  pub told_is : (outlook : Outlook) → 0 < P → outlook.pages ≡ prefix_pages p → outlook.len ≡ prefix_size P p → outlook.pages * (P + 12) + outlook.cut ≡ length bytes → IsOutlook sum P bytes outlook
  told_is outlook some kept len rest = record {
    len = len ∙ len_is;
    pages = kept ∙ pages_are some ∙ sym (ap (λ (n : ℕ). div_ceil n P) len);
    cut = rest;
  }

-- ---- with the numbers that a program has

-- so many whole pages are there
pub whole_there : (P size r len : ℕ) → r ≡ P + 12 → size ≡ len → size / r * (P + 12) ≤ len
whole_there P size r len is all = omega (arith, div-mul-le_self size r, ap (λ (n : ℕ). size / r * n) is, all)

module _ (sum : List ℕ → ℕ) (P size r : ℕ) (bytes : List ℕ) (p : Prefix) (is : r ≡ P + 12) (found : p ≡ prefix_from sum P 0 (size / r) bytes) where
  -- the pages of the text lie within the blob
  pub found_there : prefix_pages p * (P + 12) ≤ size
  found_there =
      let more : (P + 12) * prefix_pages p ≤ (P + 12) * (size / r) = mul-le-mul_left (P + 12) (scanned_within sum P 0 (size / r) bytes p found (omega arith)) in
      omega (arith, more, whole_there P size r size is refl)

  pub found_few : size < 2 ^ 64 → p.full_pages + 1 < 2 ^ 64
  found_few fits = omega (arith, found_there, fits)

  -- the prefix that was found is that of all pages
  pub found_first : size ≡ length bytes → p ≡ prefix_of sum P (pages P bytes)
  found_first all =
      found
      ∙ sym (stands_first sum P (size / r) bytes)
      ∙ ap (λ (n : ℕ). prefix_of sum P (pieces (size / n) (P + 12) bytes)) is
      ∙ ap (λ (n : ℕ). prefix_of sum P (pieces (n / (P + 12)) (P + 12) bytes)) all

  -- less than a page has no pages
  pub found_none : size < P + 12 → size / r ≡ 0
  found_none less = div-eq_of_lt (omega (arith, less, is))

  pub idle_is : (outlook : Outlook) → size < P + 12 → outlook.pages ≡ prefix_pages p → outlook.len ≡ prefix_size P p → outlook.pages * (P + 12) + outlook.cut ≡ size → outlook ≡ record { pages = 0; len = 0; cut = size }
  idle_is outlook less kept len rest =
      let nothing : Prefix = record { full_pages = 0; partial = None } in
      let empty : p ≡ nothing = found ∙ ap (λ (n : ℕ). prefix_from sum P 0 n bytes) (found_none less) in
      let no_pages : outlook.pages ≡ 0 = kept ∙ ap (λ (q : Prefix). prefix_pages q) empty in
      let no_bytes : outlook.len ≡ 0 = omega (arith, len, ap (λ (q : Prefix). prefix_size P q) empty) in
      let all : outlook.cut ≡ size = omega (arith, rest, ap (λ (n : ℕ). n * (P + 12)) no_pages) in
      λ i. record { pages = no_pages i; len = no_bytes i; cut = all i }

-- a search only looks, whatever it answers
pub finds_only_looks : (p : Prefix) (old new : Life) (result : Result Prefix Error) → Finds p old new result → Looked old new
finds_only_looks p old new (Ok found) finds = finds.1
finds_only_looks p old new (Err e) finds = finds_looked p old new e finds

-- ---- what a look guarantees

module _ (old new : Life) (looked : Looked old new) where
  pub look_keeps_text : (sum : List ℕ → ℕ) (P : ℕ) → KeepsText sum P old new
  look_keeps_text sum P = keeps_text sum P old new (floors_looked sum P (text sum P old.present.readable) old new looked)

  pub look_leaves_text : (sum : List ℕ → ℕ) (P : ℕ) → LeavesText sum P old new
  look_leaves_text sum P =
      leaves_text sum P old new (λ durable. rest_looked_stays sum P (text sum P old.present.readable) old new durable.since durable.base refl looked)

-- ---- what a recovery leaves

module _ (sum : List ℕ → ℕ) (P : ℕ) (bytes : List ℕ) (outlook : Outlook) (is : IsOutlook sum P bytes outlook) where
  module _ (cache : CacheState) (capacity : ℕ) (old new : Life) (same : cache.page_size ≡ P) (begins : old.present.readable ≡ bytes) where
    left_len : (w : WriterState) → IsRecovered sum cache capacity old new w → size_of w ≡ outlook.len
    left_len w recovered =
        recovered.size
        ∙ ap length recovered.content
        ∙ ap (λ (n : ℕ). length (text sum n old.present.readable)) same
        ∙ ap (λ (l : List ℕ). length (text sum P l)) begins
        ∙ sym is.len

    left_pages : (w : WriterState) → IsRecovered sum cache capacity old new w → length new.present.readable ≡ outlook.pages * (P + 12)
    unfolding IsSound
    left_pages w recovered =
        let Q = w.page_size in
        let tip_page = recovered.sound.stands.tip_page in
        let size_is : Q ≡ P = recovered.page_size ∙ same in
        flushed_reach sum Q w.full_pages w.tip new.present.readable w.flushed tip_page
        ∙ ap (λ (n : ℕ). (w.full_pages + n) * (Q + 12)) (slot_takes sum Q w.full_pages w.tip new.present.readable w.flushed recovered.settled.flushed tip_page)
        ∙ ap (λ (n : ℕ). n * (Q + 12)) (pages_with_rest Q w.full_pages (length w.tip) recovered.settled.short)
        ∙ ap (λ (n : ℕ). div_ceil n Q * (Q + 12)) (left_len w recovered)
        ∙ ap (λ (n : ℕ). div_ceil outlook.len n * (n + 12)) size_is
        ∙ sym (ap (λ (n : ℕ). n * (P + 12)) is.pages)

    foretold_at : (result : Result WriterState Error) → Recovers sum cache capacity old new result → IfOk result (λ w. (size_of w ≡ outlook.len) × (length new.present.readable ≡ outlook.pages * (P + 12)))
    foretold_at (Ok w) recovered = (left_len w recovered, left_pages w recovered)
    foretold_at (Err e) recovered = tt

  -- what a look foretold of the recovery
  pub foretold : Foretells sum P bytes outlook
  foretold cache capacity old new result same begins recovers = foretold_at cache capacity old new same begins result recovers
