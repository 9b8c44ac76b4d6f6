-- What a scan counts, and how far a text goes.
use Rattle.std.proofs.Common.{◌≡◌, ◌≢◌, ◌⊎◌, inl, inr, ℕ, ◌+◌, ◌-◌, ◌*◌, ◌/◌, ◌<◌, ◌≤◌, min, List, [], ◌∷◌, ◌++◌, length, take, refl, sym, ◌∙◌, ap, subst, arith, append-nil, length-append}
use Rattle.std.specs.Prelude.{Option, Some, None, ◌==◌, ◌&&◌, nat_le, if◌then◌else◌}
use Rattle.std.specs.Int.{div_ceil}
use Rattle.std.specs.List.{flat_map}
use Rattle.std.proofs.lemmas.Bool.{cases_eq, cases_lt}
use Rattle.std.proofs.lemmas.Grind.{div_ceil_times}
use Rattle.std.proofs.lemmas.List.{drop_all, length-take-le}
use Rattle.page.specs.Page.{active, pieces, slot_crc, slot_len, text_of_pages, verified_len, value_len}
use Rattle.page.specs.Slot.{slot_offset}
use Rattle.page.specs.declared.slot.Slot.{Slot}
use Rattle.page.specs.declared.slot.Slot.TheVariants.{First, Second}
use Rattle.page.specs.declared.slot.ActiveChecksum.{ActiveChecksum}
use Rattle.crash.specs.Full.{AreFull}
use Rattle.crash.proofs.Pages.{length-pieces, pieces-add, take-pieces}
use Rattle.crash.proofs.Texts.{AreFull-take, active_is, active_none, text_full, text_of_full, text_part, value_len_le}
use Rattle.paged_read.specs.declared.prefix.Prefix.{Prefix}
use Rattle.paged_read.specs.Prefix.{prefix_of, prefix_size, tip_of, value_and_slot}
use Rattle.paged_read.specs.Scans.{counted, IsProven, pages_from, prefix_from, scan_end, scan_start, scan_to, text_of_first}
use Rattle.paged_read.proofs.Prefixes.{prefix_full, prefix_part}

module _ (sum : List ℕ → ℕ) (P : ℕ) where
  -- a slot that isn't there doesn't verify
  no_slot : (s : Slot) (page : List ℕ) → length page ≤ P → verified_len sum P s page ≡ 0
  no_slot s page short =
      ap (λ (slot : List ℕ). if nat_le 1 (slot_len slot) && nat_le (slot_len slot) P && (sum (take (slot_len slot) page) == slot_crc slot) then slot_len slot else 0)
      (ap (λ (l : List ℕ). take 6 l) (drop_all (P + slot_offset s) page (omega (arith, short))))

  -- a page that has a value has its payload
  pub has_payload : (page : List ℕ) → value_len sum P page ≢ 0 → P ≤ length page
  has_payload page some = elim (cases_lt (length page) P) [
    | inl short ↦
        let first = no_slot First page (omega (arith, short)) in
        let second = no_slot Second page (omega (arith, short)) in
        let none : value_len sum P page ≡ 0 = omega (arith, first, second) in
        absurd (some none)
    | inr enough ↦ enough
  ]

  -- a full page has its payload
  full_payload : (page : List ℕ) → value_len sum P page ≡ P → length (take P page) ≡ P
  full_payload page full = elim (cases_eq P 0) [
    | inl none ↦ length-take-le P page (omega (arith, none))
    | inr some ↦ length-take-le P page (has_payload page (λ none. some (sym full ∙ none)))
  ]

  -- a value has as many bytes as its slot's length
  pub part_size : (page : List ℕ) (slot : Option ActiveChecksum) → active sum P page ≡ slot → length (tip_of (value_and_slot slot page)) ≡ length (take (value_len sum P page) page)
  part_size page None is = ap (λ (n : ℕ). length (take n page)) (sym (active_none sum P page is))
  part_size page (Some s) is = ap (λ (n : ℕ). length (take n page)) (active_is sum P page s is).len

  -- a prefix is as long as its pages' text
  pub prefix_counts : (some : List (List ℕ)) → prefix_size P (prefix_of sum P some) ≡ length (text_of_pages sum P some)
  prefix_counts [] = omega arith
  prefix_counts (page ∷ rest) = elim (cases_eq (value_len sum P page) P) [
    | inl full ↦ omega (
      arith,
      ap (λ (p : Prefix). prefix_size P p) (prefix_full sum P page rest full),
      ap (λ (l : List ℕ). length l) (text_full sum P page rest full),
      length-append (take P page) (text_of_pages sum P rest),
      prefix_counts rest,
      full_payload page full,
    )
    | inr part ↦
        let less : value_len sum P page < P = omega (arith, value_len_le sum P page, part) in
        omega (
          arith,
          ap (λ (p : Prefix). prefix_size P p) (prefix_part sum P page rest part),
          ap (λ (l : List ℕ). length l) (text_part sum P page rest less),
          part_size page (active sum P page) refl,
        )
  ]

  -- a prefix after pages that count as full is as long as these and the text after them
  pub prefix_from_counts : (first pages : ℕ) (readable : List ℕ) → prefix_size P (prefix_from sum P first pages readable) ≡ first * P + counted sum P (pages - first) first readable
  prefix_from_counts first pages readable =
      omega (arith, prefix_counts (pages_from P (pages - first) first readable))

  -- the payloads of full pages
  length-full : (some : List (List ℕ)) → AreFull sum P some → length (flat_map (take P) some) ≡ length some * P
  length-full [] full = omega arith
  length-full (page ∷ some) full = omega (arith, length-append (take P page) (flat_map (take P) some), full_payload page full.0, length-full some full.1)

  -- a text ends among the first pages, or they are full
  text_ends : (front back : List (List ℕ)) → (text_of_pages sum P (front ++ back) ≡ text_of_pages sum P front) ⊎ AreFull sum P front
  text_ends [] back = inr tt
  text_ends (page ∷ front) back = elim (cases_eq (value_len sum P page) P) [
    | inl full ↦ elim (text_ends front back) [
      | inl ends ↦ inl (text_full sum P page (front ++ back) full ∙ ap (λ (l : List ℕ). take P page ++ l) ends ∙ sym (text_full sum P page front full))
      | inr are ↦ inr (full, are)
    ]
    | inr part ↦
        let less : value_len sum P page < P = omega (arith, value_len_le sum P page, part) in
        inl (text_part sum P page (front ++ back) less ∙ sym (text_part sum P page front less))
  ]

  -- how long a text after full pages is
  text_after : (front back : List (List ℕ)) → AreFull sum P front → length (text_of_pages sum P (front ++ back)) ≡ length front * P + length (text_of_pages sum P back)
  text_after front back full = omega (
    arith,
    ap (λ (l : List ℕ). length l) (text_of_full sum P front back full),
    length-append (flat_map (take P) front) (text_of_pages sum P back),
    length-full front full,
  )

  -- the first pages, and those from one of them on
  split_at : (k n : ℕ) (readable : List ℕ) → k ≤ n → pieces n (P + 12) readable ≡ pieces k (P + 12) readable ++ pages_from P (n - k) k readable
  split_at k n readable le =
      ap (λ (m : ℕ). pieces m (P + 12) readable) (let e : n ≡ k + (n - k) = omega (arith, le) in e) ∙ pieces-add k (n - k) (P + 12) readable

  -- where the pages before its start are full, a scan counts the text of all
  pub scan_counts_text : (full end proven : ℕ) (readable : List ℕ) → IsProven sum P full proven readable → scan_to sum P full end proven readable ≡ length (text_of_first sum P end readable)
  scan_counts_text full end proven readable are =
      let start = scan_start P full end proven in
      let front = pieces start (P + 12) readable in
      let few : AreFull sum P front = subst (λ (l : List (List ℕ)). AreFull sum P l) (take-pieces start (min (proven / P) full) (P + 12) readable (omega arith)) (AreFull-take sum P start (pieces (min (proven / P) full) (P + 12) readable) are) in
      omega (
        arith,
        ap (λ (l : List (List ℕ)). length (text_of_pages sum P l)) (split_at start end readable (omega arith)),
        text_after front (pages_from P (end - start) start readable) few,
        ap (λ (n : ℕ). n * P) (length-pieces start (P + 12) readable),
      )

  -- as far as the bound reaches, the text of the pages that it meets is that of all
  pub bounded_text : (flushed most : ℕ) (readable : List ℕ) → 0 < P → min most (length (text_of_first sum P (scan_end P flushed most) readable)) ≡ min most (length (text_of_first sum P flushed readable))
  bounded_text flushed most readable some =
      let met = div_ceil most P in
      let end = scan_end P flushed most in
      let front = pieces end (P + 12) readable in
      let back = pages_from P (flushed - end) end readable in
      let split = split_at end flushed readable (omega arith) in
      elim (cases_lt met flushed) [
        | inl less ↦ elim (text_ends front back) [
          | inl ends ↦ ap (λ (l : List ℕ). min most (length l)) (sym ends ∙ ap (λ (l : List (List ℕ)). text_of_pages sum P l) (sym split))
          | inr full ↦
              let size : length front ≡ met = length-pieces end (P + 12) readable ∙ (let e : min flushed met ≡ met = omega (arith, less) in e) in
              let many : length front * P ≡ met * P = ap (λ (n : ℕ). n * P) size in
              let all = text_after front back full in
              let alone = text_after front [] full in
              omega (
                arith,
                (div_ceil_times most P some).0,
                many,
                all,
                alone,
                ap (λ (l : List (List ℕ)). length (text_of_pages sum P l)) (append-nil front),
                ap (λ (l : List (List ℕ)). length (text_of_pages sum P l)) split,
              )
        ]
        | inr enough ↦ ap (λ (n : ℕ). min most (length (text_of_first sum P n readable))) (let e : min flushed met ≡ flushed = omega (arith, enough) in e)
      ]

  -- where the proven bytes are there, a bounded scan answers the lesser of the bound and the text
  pub bounded_scan : (full flushed proven most : ℕ) (readable : List ℕ) → 0 < P → IsProven sum P full proven readable
      → min most (scan_to sum P full (scan_end P flushed most) proven readable) ≡ min most (length (text_of_first sum P flushed readable))
  bounded_scan full flushed proven most readable some are =
      ap (λ (n : ℕ). min most n) (scan_counts_text full (scan_end P flushed most) proven readable are) ∙ bounded_text flushed most readable some
