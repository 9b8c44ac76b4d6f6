-- What the prefix of some pages is, and which text they have.
use Rattle.std.proofs.Common.{◌≡◌, ◌≢◌, inl, inr, ℕ, zero, suc, ◌+◌, ◌*◌, ◌/◌, ◌<◌, ◌≤◌, List, [], ◌∷◌, ◌++◌, length, take, drop, refl, sym, ◌∙◌, ap, subst, arith, append-nil, append_assoc, length-append, take-append-drop}
use Rattle.std.specs.Prelude.{slice_get, Option, Some, None}
use Rattle.std.specs.List.{flat_map}
use Rattle.std.proofs.lemmas.List.{length-take-le, take-take}
use Rattle.std.proofs.Math.Nat.{div-mul-le_self, mul-le-mul_left}
use Rattle.std.proofs.lemmas.Option.{same_Some}
use Rattle.std.proofs.lemmas.Bool.{cases_eq, cases_lt}
use Rattle.page.specs.Page.{pages, pieces, active, value_len, text_of_pages, text}
use Rattle.page.specs.declared.slot.ActiveChecksum.{ActiveChecksum}
use Rattle.page.proofs.Values.{active-none}
use Rattle.crash.specs.Built.{kept_len}
use Rattle.crash.specs.Full.{AreFull}
use Rattle.crash.proofs.Pages.{length-pages, pages_at, pages_fit, pages_reach, take-pieces, pieces_of_take}
use Rattle.crash.proofs.Texts.{active_is, active_none, text_full, text_part, value_len_le}
use Rattle.paged_read.specs.declared.prefix.Prefix.{Prefix}
use Rattle.paged_read.specs.Ranges.{page_at}
use Rattle.paged_read.specs.Prefix.{value_and_slot, prefix_of, prefix_pages, prefix_size, partial_pages, tip_of}
use Rattle.paged.specs.Recovery.{opened_prefix, opened_size, slot_of_tip}
use Rattle.paged_read.proofs.Prefixes.{partial_pages_le, one_page, prefix_full, prefix_part, tip_short, last_is}

module _ (sum : List ℕ → ℕ) (P : ℕ) where
  -- what stands after the full pages: nothing that has a value, or the page whose value this is
  abbrev pub After : List (List ℕ) → ℕ → Option (List ℕ × ActiveChecksum) → Type 0
  After some full None = (page : List ℕ) → slice_get some full ≡ Some page → value_len sum P page ≡ 0
  After some full (Some v) = (page : List ℕ) × (slice_get some full ≡ Some page) × (active sum P page ≡ Some v.1) × (v.0 ≡ take v.1.len page) × (value_len sum P page ≢ P)

  -- the full pages at the front, and what is after them
  pub record IsFirst (some : List (List ℕ)) (p : Prefix) : Type 0 where
    pub within : prefix_pages p ≤ length some
    pub tip : 0 < P → length (tip_of p.partial) < P
    pub full : AreFull sum P (take p.full_pages some)
    pub after : After some p.full_pages p.partial

  -- a page's value is as long as its slot says
  pub told_len : (some : List (List ℕ)) (full : ℕ) (found : Option (List ℕ × ActiveChecksum)) → ((page : List ℕ) → slice_get some full ≡ Some page → P ≤ length page) → After some full found
      → kept_len (slot_of_tip found) ≡ length (tip_of found)
  told_len some full None long is = refl
  told_len some full (Some v) long is =
      let told = active_is sum P is.0 v.1 is.2 in
      sym (ap length is.3 ∙ length-take-le v.1.len is.0 (omega (arith, told.fits, long is.0 is.1)))

  -- the first page isn't full
  after_first : (page : List ℕ) (rest : List (List ℕ)) (slot : Option ActiveChecksum) → value_len sum P page ≢ P → active sum P page ≡ slot → After (page ∷ rest) 0 (value_and_slot slot page)
  after_first page rest None part told = λ other is. ap (λ (l : List ℕ). value_len sum P l) (sym (same_Some page other is)) ∙ active_none sum P page told
  after_first page rest (Some s) part told = (page, refl, told, refl, part)

  -- a page more in front
  after_suc : (page : List ℕ) (rest : List (List ℕ)) (full : ℕ) (found : Option (List ℕ × ActiveChecksum)) → After rest full found → After (page ∷ rest) (suc full) found
  after_suc page rest full None is = is
  after_suc page rest full (Some v) is = is

  after_more : (page : List ℕ) (rest : List (List ℕ)) (full : ℕ) (found : Option (List ℕ × ActiveChecksum)) → After rest full found → After (page ∷ rest) (1 + full) found
  after_more page rest full found is = subst (λ (n : ℕ). After (page ∷ rest) n found) (let e : suc full ≡ 1 + full = omega arith in e) (after_suc page rest full found is)

  -- a value is as long as its page says
  tip_length : (page : List ℕ) (slot : Option ActiveChecksum) → active sum P page ≡ slot → P ≤ length page → length (tip_of (value_and_slot slot page)) ≡ value_len sum P page
  tip_length page None is long = sym (active_none sum P page is)
  tip_length page (Some s) is long =
      let told = active_is sum P page s is in
      length-take-le s.len page (omega (arith, told.fits, long)) ∙ told.len

  pub prefix_is : (some : List (List ℕ)) → IsFirst some (prefix_of sum P some)
  prefix_is [] = record { within = omega arith; tip = λ positive. positive; full = tt; after = λ page is. absurd (cc) }
  prefix_is (page ∷ rest) = elim (cases_eq (value_len sum P page) P) [
    | inl full ↦
        let before = prefix_is rest in
        let p = prefix_of sum P rest in
        subst (λ (q : Prefix). IsFirst (page ∷ rest) q) (sym (prefix_full sum P page rest full)) (record {
          within = omega (arith, before.within);
          tip = before.tip;
          full = subst (λ (n : ℕ). AreFull sum P (take n (page ∷ rest))) (let e : suc p.full_pages ≡ 1 + p.full_pages = omega arith in e) (full, before.full);
          after = after_more page rest p.full_pages p.partial before.after;
        })
    | inr part ↦ subst (λ (q : Prefix). IsFirst (page ∷ rest) q) (sym (prefix_part sum P page rest part)) (record {
      within = omega (arith, partial_pages_le (value_and_slot (active sum P page) page));
      tip = λ positive. tip_short sum P page part;
      full = tt;
      after = after_first page rest (active sum P page) part refl;
    })
  ]

  -- each page of the prefix has a value
  pub prefix_valued : (some : List (List ℕ)) (k : ℕ) (page : List ℕ) → 0 < P → k < prefix_pages (prefix_of sum P some) → slice_get some k ≡ Some page → value_len sum P page ≢ 0
  prefix_valued [] k page positive lt is = absurd (cc)
  prefix_valued (head ∷ rest) zero page positive lt is = λ none.
      let empty : value_len sum P head ≡ 0 = ap (λ (l : List ℕ). value_len sum P l) (same_Some head page is) ∙ none in
      let part = prefix_part sum P head rest (λ full. omega (arith, full, empty)) in
      omega (arith, lt, ap (λ (q : Prefix). prefix_pages q) part, ap (λ (s : Option ActiveChecksum). partial_pages (value_and_slot s head)) (active-none sum P head empty))
  prefix_valued (head ∷ rest) (suc k) page positive lt is = elim (cases_eq (value_len sum P head) P) [
    | inl full ↦ prefix_valued rest k page positive (omega (arith, lt, ap (λ (q : Prefix). prefix_pages q) (prefix_full sum P head rest full))) is
    | inr part ↦ absurd (omega (arith, lt, ap (λ (q : Prefix). prefix_pages q) (prefix_part sum P head rest part), partial_pages_le (value_and_slot (active sum P head) head)))
  ]

  -- and the pages of the prefix have the whole text
  pub text_take : (some : List (List ℕ)) (j : ℕ) → 0 < P → prefix_pages (prefix_of sum P some) ≤ j → text_of_pages sum P (take j some) ≡ text_of_pages sum P some
  text_take [] zero positive le = refl
  text_take [] (suc j) positive le = refl
  text_take (page ∷ rest) zero positive le = elim (cases_eq (value_len sum P page) 0) [
    | inl none ↦ sym (text_part sum P page rest (omega (arith, none)) ∙ ap (λ (n : ℕ). take n page) none)
    | inr some ↦ absurd (elim (cases_eq (value_len sum P page) P) [
      | inl full ↦ omega (arith, le, ap (λ (q : Prefix). prefix_pages q) (prefix_full sum P page rest full))
      | inr part ↦ omega (arith, le, ap (λ (q : Prefix). prefix_pages q) (prefix_part sum P page rest part), one_page sum P page some)
    ])
  ]
  text_take (page ∷ rest) (suc j) positive le = elim (cases_eq (value_len sum P page) P) [
    | inl full ↦
        text_full sum P page (take j rest) full
        ∙ ap (λ (l : List ℕ). take P page ++ l) (text_take rest j positive (omega (arith, le, ap (λ (q : Prefix). prefix_pages q) (prefix_full sum P page rest full))))
        ∙ sym (text_full sum P page rest full)
    | inr part ↦
        let less : value_len sum P page < P = omega (arith, value_len_le sum P page, part) in
        text_part sum P page (take j rest) less ∙ sym (text_part sum P page rest less)
  ]

  -- each of these pages has at least P bytes
  abbrev pub AreLong : List (List ℕ) → Type 0
  AreLong some = (q : ℕ) (page : List ℕ) → slice_get some q ≡ Some page → P ≤ length page

  -- a text is as long as its prefix says
  pub prefix_size_is : (some : List (List ℕ)) → AreLong some → prefix_size P (prefix_of sum P some) ≡ length (text_of_pages sum P some)
  prefix_size_is [] long = omega arith
  prefix_size_is (page ∷ rest) long = elim (cases_eq (value_len sum P page) P) [
    | inl full ↦
        let before = prefix_size_is rest (λ q other is. long (suc q) other is) in
        let front : length (take P page) ≡ P = length-take-le P page (long 0 page refl) in
        omega (
          arith,
          ap (λ (p : Prefix). prefix_size P p) (prefix_full sum P page rest full),
          ap length (text_full sum P page rest full),
          length-append (take P page) (text_of_pages sum P rest),
          before,
          front,
        )
    | inr part ↦
        let less : value_len sum P page < P = omega (arith, value_len_le sum P page, part) in
        omega (
          arith,
          ap (λ (p : Prefix). prefix_size P p) (prefix_part sum P page rest part),
          ap length (text_part sum P page rest less),
          length-take-le (value_len sum P page) page (omega (arith, less, long 0 page refl)),
          tip_length page (active sum P page) refl (long 0 page refl),
        )
  ]

  -- a text begins what all pages in front would have as text, were they full, with the text of
  -- those after
  pub text_begins : (front back : List (List ℕ)) → (rest : List ℕ) × (flat_map (take P) front ++ text_of_pages sum P back ≡ text_of_pages sum P (front ++ back) ++ rest)
  text_begins [] back = ([], sym (append-nil (text_of_pages sum P back)))
  text_begins (page ∷ front) back =
      let more = flat_map (take P) front ++ text_of_pages sum P back in
      let joined : flat_map (take P) (page ∷ front) ++ text_of_pages sum P back ≡ take P page ++ more = append_assoc (take P page) (flat_map (take P) front) (text_of_pages sum P back) in
      elim (cases_eq (value_len sum P page) P) [
        | inl full ↦
            let before = text_begins front back in (
              before.0,
              joined
                  ∙ ap (λ (l : List ℕ). take P page ++ l) before.1
                  ∙ sym (append_assoc (take P page) (text_of_pages sum P (front ++ back)) before.0)
                  ∙ ap (λ (l : List ℕ). l ++ before.0) (sym (text_full sum P page (front ++ back) full)),
            )
        | inr part ↦
            let v = value_len sum P page in
            let less : v < P = omega (arith, value_len_le sum P page, part) in
            let end = drop v (take P page) in (
              end ++ more,
              joined
                  ∙ ap (λ (l : List ℕ). l ++ more) (sym (take-append-drop v (take P page)))
                  ∙ append_assoc (take v (take P page)) end more
                  ∙ ap (λ (l : List ℕ). l ++ (end ++ more)) (take-take v P page (omega (arith, less)) ∙ sym (text_part sum P page (front ++ back) less)),
            )
      ]

  -- the pages of a beginning
  pub pages_of_beginning : (m : ℕ) (bytes : List ℕ) → m ≤ length bytes → pages P (take m bytes) ≡ take (m / (P + 12)) (pages P bytes)
  pages_of_beginning m bytes le =
      let n = m / (P + 12) in
      let reach : n * (P + 12) ≤ m = div-mul-le_self m (P + 12) in
      ap (λ (k : ℕ). pieces (k / (P + 12)) (P + 12) (take m bytes)) (length-take-le m bytes le)
      ∙ pieces_of_take n (P + 12) m bytes reach
      ∙ sym (take-pieces n (length bytes / (P + 12)) (P + 12) bytes (pages_fit P n bytes (omega (arith, reach))))

  -- bytes that were cut after the prefix have it, and the same text
  module _ (m : ℕ) (bytes : List ℕ) (positive : 0 < P) (le : m ≤ length bytes) (kept : prefix_pages (prefix_of sum P (pages P bytes)) * (P + 12) ≤ m) where
    enough : prefix_pages (prefix_of sum P (pages P bytes)) ≤ m / (P + 12)
    enough = omega (arith, pages_fit P (prefix_pages (prefix_of sum P (pages P bytes))) (take m bytes) (omega (arith, kept, length-take-le m bytes le)), ap (λ (k : ℕ). k / (P + 12)) (length-take-le m bytes le))

    pub text_of_beginning : text sum P (take m bytes) ≡ text sum P bytes
    text_of_beginning = ap (λ (l : List (List ℕ)). text_of_pages sum P l) (pages_of_beginning m bytes le) ∙ text_take (pages P bytes) (m / (P + 12)) positive enough

  -- the prefix from the first page on ends no later than the last page that has a value
  pub first_before_last : (bytes : List ℕ) → 0 < P → prefix_pages (prefix_of sum P (pages P bytes)) ≤ prefix_pages (opened_prefix sum P bytes)
  first_before_last bytes positive = elim (cases_lt (prefix_pages (opened_prefix sum P bytes)) (prefix_pages (prefix_of sum P (pages P bytes)))) [
    | inl less ↦
        let n = prefix_pages (opened_prefix sum P bytes) in
        let some = pages P bytes in
        let last = last_is sum P (length bytes / (P + 12)) bytes in
        let lt : n < length bytes / (P + 12) = omega (arith, less, (prefix_is some).within, length-pages P bytes) in
        let here : slice_get some n ≡ Some (page_at P n bytes) = pages_at P n bytes (pages_reach P (n + 1) bytes (omega (arith, lt))) in
        absurd (prefix_valued some n (page_at P n bytes) positive less here (last.none n (omega arith) lt))
    | inr enough ↦ enough
  ]

  -- so opening leaves the prefix, and the text
  module _ (bytes : List ℕ) (positive : 0 < P) where
    pub first_size_le : prefix_pages (prefix_of sum P (pages P bytes)) * (P + 12) ≤ opened_size sum P bytes
    first_size_le = let more : (P + 12) * prefix_pages (prefix_of sum P (pages P bytes)) ≤ (P + 12) * prefix_pages (opened_prefix sum P bytes) = mul-le-mul_left (P + 12) (first_before_last bytes positive) in omega (arith, more)
