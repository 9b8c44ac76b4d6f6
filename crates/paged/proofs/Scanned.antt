-- What a scan of a writer's blob answers.
use Rattle.std.proofs.Common.{◌≡◌, ◌⊎◌, inl, inr, ℕ, zero, suc, ◌+◌, ◌-◌, ◌*◌, ◌/◌, ◌<◌, ◌≤◌, ◌^◌, min, List, length, drop, sym, ◌∙◌, ap, subst, arith, Result, Ok, Err}
use Rattle.std.specs.Prelude.{Option, Some, None, IfOk}
use Rattle.std.specs.Int.{div_ceil}
use Rattle.std.proofs.Math.Nat.{mul-le-mul_left}
use Rattle.std.proofs.lemmas.Grind.{div_ceil_times}
use Rattle.disk.specs.Disk.{Disk, Life}
use Rattle.disk.specs.declared.error.Error.{Error}
use Rattle.disk.specs.declared.error.Error.TheVariants.{ReadFailed, WriteFailed, ResizeFailed, SyncFailed, InvalidChecksum, BlobInsufficientLength, OffsetOverflow, OutOfMemory, IdsExhausted}
use Rattle.page.specs.Page.{pages, text, text_of_pages}
use Rattle.page.specs.declared.slot.ActiveChecksum.{ActiveChecksum}
use Rattle.crash.specs.Full.{AreFull}
use Rattle.crash.specs.Looks.{Looked}
use Rattle.writer_state.specs.Sound.{IsSound, TipPage}
use Rattle.writer_state.specs.WriterState.{WriterState}
use Rattle.crash.proofs.LookLaws.{looked_none}
use Rattle.crash.proofs.Pages.{fewer_fit, length-pieces, pages_whole, take-pages}
use Rattle.crash.proofs.Texts.{AreFull_fewer}
use Rattle.paged_read.specs.declared.prefix.Prefix.{Prefix}
use Rattle.paged_read.specs.Prefix.{prefix_pages, prefix_size, tip_of}
use Rattle.paged_read.specs.Scans.{IsProven, IsWithinBlob, LooksThrough, pages_from, prefix_from, scan_end, scan_start, scan_to, ScanAnswers, text_of_first}
use Rattle.paged_read.proofs.Scanning.{bounded_scan, prefix_from_counts, scan_counts_text}
use Rattle.paged.specs.Recovery.{IsAsOpened, slot_pages}
use Rattle.paged.specs.Scans.{flushed_pages}
use Rattle.paged.specs.Writer.{FitsBlob}
use Rattle.paged.proofs.Firsts.{prefix_is}

-- ---- what a scan found

module _ (sum : List ℕ → ℕ) (P first pages : ℕ) (readable : List ℕ) (p : Prefix) (is : p ≡ prefix_from sum P first pages readable) where
  -- no more pages than it was to look at
  pub scanned_within : first ≤ pages → prefix_pages p ≤ pages
  scanned_within le =
      let rest = pages_from P (pages - first) first readable in
      omega (arith, le, ap (λ (q : Prefix). prefix_pages q) is, (prefix_is sum P rest).within, length-pieces (pages - first) (P + 12) (drop (first * (P + 12)) readable))

  -- the offsets of the pages that a scan found are numbers of 64 bits
  pub scanned_fits : first ≤ pages → pages * (P + 12) < 2 ^ 64 → prefix_pages p * (P + 12) < 2 ^ 64
  scanned_fits le fits =
      let more : (P + 12) * prefix_pages p ≤ (P + 12) * pages = mul-le-mul_left (P + 12) (scanned_within le) in
      omega (arith, more, fits)

  -- the partial value after these pages is less than a page
  pub scanned_short : 0 < P → length (tip_of p.partial) < P
  scanned_short some =
      omega (arith, ap (λ (q : Prefix). length (tip_of q.partial)) is, (prefix_is sum P (pages_from P (pages - first) first readable)).tip some)

-- its size is what the scan counts, with the numbers that a program has
pub scanned_size : (sum : List ℕ → ℕ) (P full end proven start size : ℕ) (readable : List ℕ) (p : Prefix) → start ≡ scan_start P full end proven → p ≡ prefix_from sum P start end readable → size ≡ prefix_size P p
    → size ≡ scan_to sum P full end proven readable
scanned_size sum P full end proven start size readable p begins is counts =
    counts ∙ ap (λ (q : Prefix). prefix_size P q) is
    ∙ ap (λ (n : ℕ). prefix_size P (prefix_from sum P n end readable)) begins
    ∙ prefix_from_counts sum P (scan_start P full end proven) end readable

-- ---- a scan that is refused

-- a look that is refused, whatever it looked for
pub look_refused : {A : Type 0} (reach len : ℕ) (a : A) (old new : Life) (e : Error) → LooksThrough reach a old new (Err e) → ScanAnswers reach len old new (Err e)
look_refused reach len a old new ReadFailed looks = looks
look_refused reach len a old new WriteFailed looks = looks
look_refused reach len a old new ResizeFailed looks = looks
look_refused reach len a old new SyncFailed looks = looks
look_refused reach len a old new InvalidChecksum looks = looks
look_refused reach len a old new BlobInsufficientLength looks = looks
look_refused reach len a old new OffsetOverflow looks = absurd looks
look_refused reach len a old new OutOfMemory looks = looks
look_refused reach len a old new IdsExhausted looks = looks

-- a scan only looks
pub scan_looks : (reach len : ℕ) (old new : Life) (result : Result ℕ Error) → ScanAnswers reach len old new result → Looked old new
scan_looks reach len old new (Ok n) scans = scans.1
scan_looks reach len old new (Err ReadFailed) scans = scans.1
scan_looks reach len old new (Err WriteFailed) scans = absurd scans
scan_looks reach len old new (Err ResizeFailed) scans = absurd scans
scan_looks reach len old new (Err SyncFailed) scans = absurd scans
scan_looks reach len old new (Err InvalidChecksum) scans = absurd scans
scan_looks reach len old new (Err BlobInsufficientLength) scans = scans.1
scan_looks reach len old new (Err OffsetOverflow) scans = looked_none old new scans.1
scan_looks reach len old new (Err OutOfMemory) scans = scans.0
scan_looks reach len old new (Err IdsExhausted) scans = absurd scans

-- ---- what it answers

-- the number that a scan answers is any that equals it
pub scan_answers : (reach len other : ℕ) (old new : Life) (result : Result ℕ Error) → ScanAnswers reach len old new result → len ≡ other → IfOk result (λ n. n ≡ other)
scan_answers reach len other old new (Ok n) scans same = scans.0 ∙ same
scan_answers reach len other old new (Err e) scans same = tt

-- ---- a writer's own blob

-- a writer's own blob ends with the pages that were flushed
pub flushed_reach : (sum : List ℕ → ℕ) (P full : ℕ) (tip readable : List ℕ) (flushed : Option ActiveChecksum) → TipPage sum P full tip readable flushed → length readable ≡ (full + slot_pages flushed) * (P + 12)
flushed_reach sum P full tip readable None is = is ∙ ap (λ (n : ℕ). n * (P + 12)) (let e : full ≡ full + 0 = omega arith in e)
flushed_reach sum P full tip readable (Some f) is = is.size

-- what holds a byte has a page
one_page : (P n pages : ℕ) → 0 < n → n ≤ pages * P → 1 ≤ pages
one_page P n zero some le = absurd (omega (arith, some, le))
one_page P n (suc k) some le = omega arith

-- the offsets of the flushed pages are numbers of 64 bits
pub flushed_fits : (sum : List ℕ → ℕ) (P full : ℕ) (tip readable : List ℕ) (flushed : Option ActiveChecksum) → 0 < P → TipPage sum P full tip readable flushed → FitsBlob P full (length tip)
    → (full + slot_pages flushed) * (P + 12) < 2 ^ 64
flushed_fits sum P full tip readable None some is fits =
    let more : (P + 12) * (full + 0) ≤ (P + 12) * (full + div_ceil (length tip) P) = mul-le-mul_left (P + 12) (let le : full + 0 ≤ full + div_ceil (length tip) P = omega arith in le) in
    omega (arith, more, fits)
flushed_fits sum P full tip readable (Some f) some is fits =
    let bounds = div_ceil_times (length tip) P some in
    let one : 1 ≤ div_ceil (length tip) P = one_page P (length tip) (div_ceil (length tip) P) (omega (arith, is.some, is.there)) bounds.0 in
    let more : (P + 12) * (full + 1) ≤ (P + 12) * (full + div_ceil (length tip) P) = mul-le-mul_left (P + 12) (let le : full + 1 ≤ full + div_ceil (length tip) P = omega (arith, one) in le) in
    omega (arith, more, fits)

module _ (sum : List ℕ → ℕ) (w : WriterState) (d : Disk) where
  stands_tip : IsSound sum w d ⊎ IsAsOpened sum w d → TipPage sum w.page_size w.full_pages w.tip d.readable w.flushed
  unfolding IsSound
  stands_tip (inl sound) = sound.stands.tip_page
  stands_tip (inr opened) = opened.page

  -- so a scan of it answers neither `OffsetOverflow` nor `BlobInsufficientLength`
  pub scan_within : (end len : ℕ) (old new : Life) (result : Result ℕ Error) → old.present ≡ d → 0 < w.page_size → FitsBlob w.page_size w.full_pages (length w.tip) → end ≤ flushed_pages w
      → IsSound sum w d ⊎ IsAsOpened sum w d → ScanAnswers (end * (w.page_size + 12)) len old new result → IsWithinBlob result
  scan_within end len old new (Ok n) is some fits le stands scans = tt
  scan_within end len old new (Err ReadFailed) is some fits le stands scans = tt
  scan_within end len old new (Err WriteFailed) is some fits le stands scans = tt
  scan_within end len old new (Err ResizeFailed) is some fits le stands scans = tt
  scan_within end len old new (Err SyncFailed) is some fits le stands scans = tt
  scan_within end len old new (Err InvalidChecksum) is some fits le stands scans = tt
  scan_within end len old new (Err BlobInsufficientLength) is some fits le stands scans =
      let P = w.page_size in
      let more : (P + 12) * end ≤ (P + 12) * flushed_pages w = mul-le-mul_left (P + 12) le in
      omega (arith, more, scans.0, ap (λ (x : Disk). length x.readable) is, flushed_reach sum P w.full_pages w.tip d.readable w.flushed (stands_tip stands))
  scan_within end len old new (Err OffsetOverflow) is some fits le stands scans =
      let P = w.page_size in
      let more : (P + 12) * end ≤ (P + 12) * flushed_pages w = mul-le-mul_left (P + 12) le in
      omega (arith, more, scans.0, flushed_fits sum P w.full_pages w.tip d.readable w.flushed some (stands_tip stands) fits)
  scan_within end len old new (Err OutOfMemory) is some fits le stands scans = tt
  scan_within end len old new (Err IdsExhausted) is some fits le stands scans = tt

  -- all pages below a sound writer's tip are full
  pub sound_proven : (proven : ℕ) → IsSound sum w d → IsProven sum w.page_size w.full_pages proven d.readable
  unfolding IsSound
  sound_proven proven sound =
      let P = w.page_size in
      let k = min (proven / P) w.full_pages in
      let reach : w.full_pages * (P + 12) ≤ length d.readable = omega (arith, flushed_reach sum P w.full_pages w.tip d.readable w.flushed sound.stands.tip_page) in
      subst (λ (l : List (List ℕ)). AreFull sum P l) (take-pages P k d.readable (fewer_fit P k w.full_pages d.readable (omega arith) reach))
      (AreFull_fewer sum P k w.full_pages (pages P d.readable) (omega arith) sound.full)

  -- and the flushed pages have the blob's text
  pub sound_text : IsSound sum w d → text_of_first sum w.page_size (flushed_pages w) d.readable ≡ text sum w.page_size d.readable
  unfolding IsSound
  sound_text sound =
      let P = w.page_size in
      ap (λ (l : List (List ℕ)). text_of_pages sum P l) (sym (pages_whole P (flushed_pages w) d.readable (flushed_reach sum P w.full_pages w.tip d.readable w.flushed sound.stands.tip_page)))

  -- so a scan of all flushed pages counts that text
  pub sound_scan : (proven : ℕ) → IsSound sum w d → scan_to sum w.page_size w.full_pages (flushed_pages w) proven d.readable ≡ length (text sum w.page_size d.readable)
  sound_scan proven sound =
      scan_counts_text sum w.page_size w.full_pages (flushed_pages w) proven d.readable (sound_proven proven sound) ∙ ap (λ (l : List ℕ). length l) (sound_text sound)

  -- and a scan of the first bytes counts no more than those
  pub sound_scan_most : (proven most : ℕ) → 0 < w.page_size → IsSound sum w d
      → min most (scan_to sum w.page_size w.full_pages (scan_end w.page_size (flushed_pages w) most) proven d.readable) ≡ min most (length (text sum w.page_size d.readable))
  sound_scan_most proven most some sound =
      bounded_scan sum w.page_size w.full_pages (flushed_pages w) proven most d.readable some (sound_proven proven sound) ∙ ap (λ (l : List ℕ). min most (length l)) (sound_text sound)
