-- What a scan keeps of the pages that it reads.
use Rattle.std.proofs.Common.{◌^◌, ◌≡◌, inl, inr, ℕ, zero, suc, ◌+◌, ◌-◌, ◌*◌, ◌/◌, ◌<◌, ◌≤◌, List, [], ◌∷◌, ◌++◌, length, take, drop, div-mul-le_self, slice_range, refl, sym, ◌∙◌, ap, ap₂, subst, arith, append-nil, append_assoc, length-append, length-take}
use Rattle.std.specs.Prelude.{Option, Some, None}
use Rattle.std.proofs.Math.Nat.{mul-le-mul_left}
use Rattle.std.proofs.lemmas.Bool.{cases_eq}
use Rattle.std.proofs.lemmas.List.{take-take, take_all, length-drop, length-take-le, drop-take}
use Rattle.page.specs.Page.{active, pages, pieces, text, text_of_pages, value_len}
use Rattle.crash.proofs.Pages.{length-pieces}
use Rattle.crash.proofs.Texts.{text_full, text_part, value_len_le}
use Rattle.paged_read.specs.declared.prefix.Prefix.{Prefix}
use Rattle.paged_read.specs.Hand.{HandHasRoom, HandState, IsEmptyHand, kept_with, payloads}
use Rattle.paged_read.specs.Prefix.{prefix_of, tip_of}
use Rattle.paged_read.specs.Scans.{pages_from}
use Rattle.paged_read.proofs.Hands.{payloads_fewer, payloads_first, payloads_none, payloads_short}
use Rattle.paged_read.proofs.Prefixes.{IsBatch, back, front, front_is, pages_are, prefix_full, prefix_part, split}
use Rattle.paged_read.proofs.Scanning.{part_size}

-- ---- what is kept

-- nothing more is kept
pub kept_start : (k : Option HandState) → k ≡ kept_with [] k
kept_start None = refl
kept_start (Some hand) = ap (λ (l : List ℕ). Some (record hand { bytes = l })) (sym (append-nil hand.bytes))

-- what is kept of one part and then of another
pub kept_joins : (a b : List ℕ) (k : Option HandState) → kept_with b (kept_with a k) ≡ kept_with (a ++ b) k
kept_joins a b None = refl
kept_joins a b (Some hand) = ap (λ (l : List ℕ). Some (record hand { bytes = l })) (append_assoc hand.bytes a b)

-- room for what follows
pub kept_room : (P more : ℕ) (told : List ℕ) (start : Option HandState) → IsEmptyHand P start → length told + more < 2 ^ 64 → HandHasRoom P more (kept_with told start)
kept_room P more told None empty fits = tt
kept_room P more told (Some hand) empty fits =
    let none : length (hand.bytes ++ told) ≡ length told = ap (λ (h : HandState). length (h.bytes ++ told)) empty in
    (ap (λ (h : HandState). h.page_size) empty, omega (arith, none, fits))

module _ (sum : List ℕ → ℕ) (P : ℕ) where
  -- ---- the values of some pages

  -- where the values of some pages end, in the pages' bytes
  abbrev pub value_end : Prefix → ℕ
  value_end p = p.full_pages * (P + 12) + length (tip_of p.partial)

  -- the bytes up to there are the values, with the footers between them
  pub record AreValues (n : ℕ) (bytes : List ℕ) : Type 0 where
    pub within : value_end (prefix_of sum P (pieces n (P + 12) bytes)) ≤ n * (P + 12)
    pub are : payloads P (take (value_end (prefix_of sum P (pieces n (P + 12) bytes))) bytes) ≡ text_of_pages sum P (pieces n (P + 12) bytes)

  pub values : (n : ℕ) (bytes : List ℕ) → n * (P + 12) ≤ length bytes → AreValues n bytes
  values zero bytes there =
      let none : 0 * (P + 12) + 0 ≡ 0 = omega arith in
      record { within = omega arith; are = ap (λ (k : ℕ). payloads P (take k bytes)) none ∙ payloads_none P }
  values (suc n) bytes there =
      let page = take (P + 12) bytes in
      let rest = pieces n (P + 12) (drop (P + 12) bytes) in
      let p = prefix_of sum P rest in
      let some : P + 12 + n * (P + 12) ≤ length bytes = omega (arith, there) in
      elim (cases_eq (value_len sum P page) P) [
        | inl full ↦
            let later = values n (drop (P + 12) bytes) (omega (arith, some, length-drop (P + 12) bytes)) in
            let to = value_end p in
            let end : value_end (prefix_of sum P (page ∷ rest)) ≡ P + 12 + to = ap (λ (x : Prefix). value_end x) (prefix_full sum P page rest full) ∙ (let e : (1 + p.full_pages) * (P + 12) + length (tip_of p.partial) ≡ P + 12 + to = omega arith in e) in
            record {
              within = omega (arith, end, later.within);
              are = ap (λ (k : ℕ). payloads P (take k bytes)) end
                  ∙ payloads_first P (take (P + 12 + to) bytes)
                  ∙ ap₂ (λ (a b : List ℕ). a ++ payloads P b) (take-take P (P + 12 + to) bytes (omega arith) ∙ sym (take-take P (P + 12) bytes (omega arith))) (drop-take (P + 12) to bytes)
                  ∙ ap (λ (l : List ℕ). take P page ++ l) later.are
                  ∙ sym (text_full sum P page rest full);
            }
        | inr part ↦
            let v = value_len sum P page in
            let le = value_len_le sum P page in
            let less : v < P = omega (arith, le, part) in
            let long : length page ≡ P + 12 = length-take-le (P + 12) bytes (omega (arith, some)) in
            let size = part_size sum P page (active sum P page) refl in
            let same : length (take v page) ≡ v = length-take-le v page (omega (arith, less, long)) in
            let end : value_end (prefix_of sum P (page ∷ rest)) ≡ v = ap (λ (x : Prefix). value_end x) (prefix_part sum P page rest part) ∙ omega (arith, size, same) in
            record {
              within = omega (arith, end, less);
              are = ap (λ (k : ℕ). payloads P (take k bytes)) end
                  ∙ payloads_short P (take v bytes) (omega (arith, less, length-take v bytes))
                  ∙ take_all P (take v bytes) (omega (arith, less, length-take v bytes))
                  ∙ sym (take-take v (P + 12) bytes (omega (arith, less)))
                  ∙ sym (text_part sum P page rest less);
            }
      ]

  -- the values are no more than the bytes
  pub values_few : (n : ℕ) (bytes : List ℕ) → n * (P + 12) ≤ length bytes → length (text_of_pages sum P (pieces n (P + 12) bytes)) ≤ n * (P + 12)
  values_few n bytes there =
      let v = values n bytes there in
      let end = value_end (prefix_of sum P (pieces n (P + 12) bytes)) in
      omega (arith, v.within, ap (λ (l : List ℕ). length l) v.are, payloads_fewer P (take end bytes), length-take end bytes)

  -- the values in the bytes of pages, of which this is the prefix
  module _ (bytes : List ℕ) (p : Prefix) (is : p ≡ prefix_of sum P (pages P bytes)) where
    abbrev count : ℕ
    count = length bytes / (P + 12)

    there : count * (P + 12) ≤ length bytes
    there = div-mul-le_self (length bytes) (P + 12)

    pub end_within : value_end p ≤ length bytes
    end_within = omega (arith, there, ap (λ (x : Prefix). value_end x) is, (values count bytes there).within)

    -- the values are added to what is kept
    pub values_added : (hand next : HandState) (run : List ℕ) (full more : ℕ) → hand.page_size ≡ P → full + more ≡ value_end p → run ≡ slice_range bytes 0 (full + more) → next.page_size ≡ hand.page_size
        → next.bytes ≡ hand.bytes ++ drop 0 (payloads hand.page_size run) → Some next ≡ kept_with (text sum P bytes) (Some hand)
    values_added hand next run full more size end run_is same added =
        let read : run ≡ take (value_end (prefix_of sum P (pages P bytes))) bytes = run_is ∙ (let e : slice_range bytes 0 (full + more) ≡ take (value_end (prefix_of sum P (pages P bytes))) bytes = ap (λ (n : ℕ). take n bytes) (let none : full + more - 0 ≡ full + more = omega arith in none ∙ end ∙ ap (λ (x : Prefix). value_end x) is) in e) in
        let told : payloads hand.page_size run ≡ text sum P bytes = ap₂ (λ (n : ℕ) (l : List ℕ). payloads n l) size read ∙ (values count bytes there).are in
        ap₂ (λ (n : ℕ) (l : List ℕ). Some (record { page_size = n; bytes = l })) same (added ∙ ap (λ (l : List ℕ). hand.bytes ++ l) told)

  -- ---- the text of pages after pages

  -- the text ends among the first pages
  pub text_short : (first more : List (List ℕ)) → (prefix_of sum P first).full_pages < length first → text_of_pages sum P (first ++ more) ≡ text_of_pages sum P first
  text_short [] more short = absurd (omega arith)
  text_short (page ∷ first) more short = elim (cases_eq (value_len sum P page) P) [
    | inl full ↦
        let rest : (prefix_of sum P first).full_pages < length first = omega (arith, short, ap (λ (p : Prefix). p.full_pages) (prefix_full sum P page first full)) in
        text_full sum P page (first ++ more) full ∙ ap (λ (l : List ℕ). take P page ++ l) (text_short first more rest) ∙ sym (text_full sum P page first full)
    | inr part ↦
        let less : value_len sum P page < P = omega (arith, value_len_le sum P page, part) in
        text_part sum P page (first ++ more) less ∙ sym (text_part sum P page first less)
  ]

  -- or the first pages are all full
  pub text_long : (first more : List (List ℕ)) → length first ≤ (prefix_of sum P first).full_pages → text_of_pages sum P (first ++ more) ≡ text_of_pages sum P first ++ text_of_pages sum P more
  text_long [] more long = refl
  text_long (page ∷ first) more long = elim (cases_eq (value_len sum P page) P) [
    | inl full ↦
        let rest : length first ≤ (prefix_of sum P first).full_pages = omega (arith, long, ap (λ (p : Prefix). p.full_pages) (prefix_full sum P page first full)) in
        text_full sum P page (first ++ more) full
        ∙ ap (λ (l : List ℕ). take P page ++ l) (text_long first more rest)
        ∙ sym (append_assoc (take P page) (text_of_pages sum P first) (text_of_pages sum P more))
        ∙ ap (λ (l : List ℕ). l ++ text_of_pages sum P more) (sym (text_full sum P page first full))
    | inr part ↦ absurd (omega (arith, long, ap (λ (p : Prefix). p.full_pages) (prefix_part sum P page first part)))
  ]

  -- ---- batch by batch

  -- the values of the pages from one to before another are kept, and the text goes on there
  pub record KeptTo (from n k : ℕ) (readable : List ℕ) (start now : Option HandState) : Type 0 where
    pub values : List ℕ
    pub whole : text_of_pages sum P (pages_from P (n - from) from readable) ≡ values ++ text_of_pages sum P (pages_from P (n - k) k readable)
    pub is : now ≡ kept_with values start
    pub few : length values ≤ k * (P + 12)

  pub kept_from : (from n : ℕ) (readable : List ℕ) (start : Option HandState) → KeptTo from n from readable start start
  kept_from from n readable start = record { values = []; whole = refl; is = kept_start start; few = omega arith }

  pub kept_fits : (from n k b : ℕ) (readable bytes : List ℕ) (q : Prefix) (start now : Option HandState) → k + b ≤ n → IsBatch sum P k b readable bytes q → KeptTo from n k readable start now → IsEmptyHand P start → n * (P + 12) < 2 ^ 64
      → HandHasRoom P (length bytes) now
  kept_fits from n k b readable bytes q start now le batch so_far empty fits =
      let rest = drop (k * (P + 12)) readable in
      let size : length bytes ≡ b * (P + 12) = ap (λ (l : List ℕ). length l) batch.read ∙ length-take-le (b * (P + 12)) rest (omega (arith, batch.fits, length-drop (k * (P + 12)) readable)) in
      let more : (P + 12) * (k + b) ≤ (P + 12) * n = mul-le-mul_left (P + 12) le in
      subst (λ (h : Option HandState). HandHasRoom P (length bytes) h) (sym so_far.is) (kept_room P (length bytes) so_far.values start empty (omega (arith, so_far.few, size, fits, more)))

  module _ (from n k b : ℕ) (readable bytes : List ℕ) (q : Prefix) (le : k + b ≤ n) (batch : IsBatch sum P k b readable bytes q) (start now next : Option HandState) (so_far : KeptTo from n k readable start now)
      (adds : next ≡ kept_with (text sum P bytes) now) where
    abbrev these : List (List ℕ)
    these = front sum P n k b readable bytes q le batch

    abbrev later : List (List ℕ)
    later = back sum P n k b readable bytes q le batch

    text_is : text sum P bytes ≡ text_of_pages sum P these
    text_is = ap (λ (l : List (List ℕ)). text_of_pages sum P l) (pages_are sum P n k b readable bytes q le batch)

    full_is : q.full_pages ≡ (prefix_of sum P these).full_pages
    full_is = ap (λ (p : Prefix). p.full_pages) (front_is sum P n k b readable bytes q le batch)

    goes : text_of_pages sum P (pages_from P (n - from) from readable) ≡ so_far.values ++ text_of_pages sum P (these ++ later)
    goes = so_far.whole ∙ ap (λ (l : List (List ℕ)). so_far.values ++ text_of_pages sum P l) (split sum P n k b readable bytes q le batch)

    joined : next ≡ kept_with (so_far.values ++ text_of_pages sum P these) start
    joined = adds ∙ ap₂ (λ (l : List ℕ) (h : Option HandState). kept_with l h) text_is so_far.is ∙ kept_joins so_far.values (text_of_pages sum P these) start

    -- the text ends in a batch
    pub kept_ended : q.full_pages < b → next ≡ kept_with (text_of_pages sum P (pages_from P (n - from) from readable)) start
    kept_ended short =
        let shorter : (prefix_of sum P these).full_pages < length these = omega (arith, short, full_is, length-pieces b (P + 12) (drop (k * (P + 12)) readable)) in
        joined ∙ ap (λ (l : List ℕ). kept_with l start) (sym (goes ∙ ap (λ (l : List ℕ). so_far.values ++ l) (text_short these later shorter)))

    -- or it goes on
    pub kept_on : b ≤ q.full_pages → KeptTo from n (k + b) readable start next
    kept_on long =
        let rest = drop (k * (P + 12)) readable in
        let longer : length these ≤ (prefix_of sum P these).full_pages = omega (arith, long, full_is, length-pieces b (P + 12) rest) in
        let reach : b * (P + 12) ≤ length rest = omega (arith, batch.fits, length-drop (k * (P + 12)) readable) in
        record {
          values = so_far.values ++ text_of_pages sum P these;
          whole = goes ∙ ap (λ (l : List ℕ). so_far.values ++ l) (text_long these later longer) ∙ sym (append_assoc so_far.values (text_of_pages sum P these) (text_of_pages sum P later));
          is = joined;
          few = omega (arith, so_far.few, length-append so_far.values (text_of_pages sum P these), values_few b rest reach);
        }
