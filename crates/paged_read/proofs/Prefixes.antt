-- What a search through a blob's pages finds.
use Rattle.std.proofs.Common.{◌≡◌, ◌≢◌, inl, inr, ℕ, zero, suc, ◌+◌, ◌-◌, ◌*◌, ◌<◌, ◌≤◌, List, [], ◌∷◌, ◌++◌, length, take, drop, refl, sym, ◌∙◌, ap, subst, arith, Bool, true, false, length-take, length-take-le, length-drop}
use Rattle.std.specs.Prelude.{Option, Some, None, is_some, MatchOption, ◌==◌}
use Rattle.std.proofs.Math.Nat.{mul-le-mul_left}
use Rattle.std.proofs.lemmas.List.{take-take, drop-drop, length-drop}
use Rattle.std.proofs.lemmas.Bool.{eq-eqb, ne_eqb, eqb-true, cases_eq, cond-true, cond-false, false≢true}
use Rattle.page.specs.Page.{pieces, pages, active, value_len, value_slot, slot_crc, slot_of, bad_slot}
use Rattle.page.specs.declared.slot.Slot.{Slot}
use Rattle.page.specs.declared.slot.ActiveChecksum.{ActiveChecksum}
use Rattle.page.proofs.Values.{active-none}
use Rattle.crash.specs.Built.{kept_len}
use Rattle.crash.proofs.Texts.{AreBytes, active_is, active_none, value_len_le}
use Rattle.crash.proofs.Lists.{within_take, within_drop}
use Rattle.crash.proofs.Pages.{pieces-add, pages_of_take, take-pages, length-pieces}
use Rattle.paged_read.specs.declared.prefix.Prefix.{Prefix}
use Rattle.paged_read.specs.Ranges.{page_at}
use Rattle.paged_read.specs.Prefix.{after_pages, value_and_slot, prefix_of, last_prefix, prefix_pages, partial_pages, tip_of, HasBytes, bad_in}

-- pages in front of pages in front
pub after-after : (m n : ℕ) (p : Prefix) → after_pages m (after_pages n p) ≡ after_pages (m + n) p
after-after m n p = ap (λ (k : ℕ). record p { full_pages = k }) (let e : m + (n + p.full_pages) ≡ m + n + p.full_pages = omega arith in e)

-- no page in front
pub after-zero : (p : Prefix) → after_pages 0 p ≡ p
after-zero p = ap (λ (k : ℕ). record p { full_pages = k }) (let e : 0 + p.full_pages ≡ p.full_pages = omega arith in e)

-- the last of some pages that fit does too, with the numbers that a program has
pub last_fits : (P size n m reach : ℕ) → size ≡ P + 12 → 0 < n → n ≤ m → m * (P + 12) ≤ reach → (n - 1) * size + size ≤ reach
last_fits P size zero m reach is some le fits = absurd (omega arith)
last_fits P size (suc k) m reach is some le fits =
    let front : (suc k - 1) * size ≡ k * (P + 12) = ap (λ (j : ℕ). j * size) (let e : suc k - 1 ≡ k = omega arith in e) ∙ ap (λ (j : ℕ). k * j) is in
    let more : (P + 12) * suc k ≤ (P + 12) * m = mul-le-mul_left (P + 12) le in
    omega arith

-- a batch of pages after others fits too, with the numbers that a program has
pub batch_fits : (P size k b n reach : ℕ) → size ≡ P + 12 → k + b ≤ n → n * (P + 12) ≤ reach → k * size + b * size ≤ reach
batch_fits P size k b n reach is le fits =
    let front : k * size ≡ k * (P + 12) = ap (λ (j : ℕ). k * j) is in
    let back : b * size ≡ b * (P + 12) = ap (λ (j : ℕ). b * j) is in
    let more : (P + 12) * (k + b) ≤ (P + 12) * n = mul-le-mul_left (P + 12) le in
    omega arith

-- the first of the pieces from one on
pub pieces_from : (n k size : ℕ) (bytes : List ℕ) → k < n → pieces (n - k) size (drop (k * size) bytes) ≡ take size (drop (k * size) bytes) ∷ pieces (n - (k + 1)) size (drop ((k + 1) * size) bytes)
pieces_from n k size bytes lt =
    let count : n - k ≡ suc (n - (k + 1)) = omega arith in
    let offset : k * size + size ≡ (k + 1) * size = omega arith in
    ap (λ (m : ℕ). pieces m size (drop (k * size) bytes)) count
    ∙ ap (λ (l : List ℕ). take size (drop (k * size) bytes) ∷ pieces (n - (k + 1)) size l) (drop-drop size (k * size) bytes ∙ ap (λ (m : ℕ). drop m bytes) offset)

-- a value takes one page at most
pub partial_pages_le : (found : Option (List ℕ × ActiveChecksum)) → partial_pages found ≤ 1
partial_pages_le None = omega arith
partial_pages_le (Some v) = omega arith

-- a value has as many bytes as the slot says, and they are the page's alone
pub value_of_page : (slot : Option ActiveChecksum) (n : ℕ) (bytes : List ℕ) → kept_len slot ≤ n → value_and_slot slot (take n bytes) ≡ value_and_slot slot bytes
value_of_page None n bytes fits = refl
value_of_page (Some s) n bytes fits = ap (λ (l : List ℕ). Some (l, s)) (take-take s.len n bytes fits)

module _ (sum : List ℕ → ℕ) (P : ℕ) where
  -- the slot of a page's value has the value's length
  pub told_len : (page : List ℕ) → kept_len (active sum P page) ≡ value_len sum P page
  told_len page = elim (cases_eq (value_len sum P page) 0) [
    | inl none ↦ ap kept_len (cond-true (value_len sum P page == 0) None (Some (record { slot = value_slot sum P page; len = value_len sum P page; crc = slot_crc (slot_of P (value_slot sum P page) page) })) (eq-eqb _ _ none)) ∙ sym none
    | inr some ↦ ap kept_len (cond-false (value_len sum P page == 0) None (Some (record { slot = value_slot sum P page; len = value_len sum P page; crc = slot_crc (slot_of P (value_slot sum P page) page) })) (ne_eqb _ _ some))
  ]

  -- a page without a value has no slot that verifies
  none_told : (page : List ℕ) (slot : Option ActiveChecksum) → active sum P page ≡ slot → is_some (value_and_slot slot page) ≡ false → value_len sum P page ≡ 0
  none_told page None told none = active_none sum P page told
  none_told page (Some s) told none = absurd (false≢true (sym none))

  -- a value takes one page
  one_told : (slot : Option ActiveChecksum) (page : List ℕ) → kept_len slot ≢ 0 → partial_pages (value_and_slot slot page) ≡ 1
  one_told None page some = absurd (some refl)
  one_told (Some s) page some = refl

  pub one_page : (page : List ℕ) → value_len sum P page ≢ 0 → partial_pages (value_and_slot (active sum P page) page) ≡ 1
  one_page page some = one_told (active sum P page) page (λ none. some (sym (told_len page) ∙ none))

  -- a value lies within its page
  pub value_within : (page : List ℕ) (slot : Option ActiveChecksum) (at n : ℕ) → slot ≡ active sum P page → at + P ≤ n → MatchOption slot (Unit {0}) (λ s. at + s.len ≤ n)
  value_within page None at n is fits = tt
  value_within page (Some s) at n is fits = omega (arith, (active_is sum P page s (sym is)).fits)

  -- the first page is full
  pub prefix_full : (page : List ℕ) (rest : List (List ℕ)) → value_len sum P page ≡ P → prefix_of sum P (page ∷ rest) ≡ after_pages 1 (prefix_of sum P rest)
  prefix_full page rest full = cond-true (value_len sum P page == P) _ _ (eq-eqb _ _ full)

  -- the first page isn't full
  pub prefix_part : (page : List ℕ) (rest : List (List ℕ)) → value_len sum P page ≢ P → prefix_of sum P (page ∷ rest) ≡ record { full_pages = 0; partial = value_and_slot (active sum P page) page }
  prefix_part page rest part = cond-false (value_len sum P page == P) _ _ (ne_eqb _ _ part)

  -- this is the prefix of n pages, where the first k are full
  abbrev pub StandsAt : Prefix → ℕ → ℕ → List ℕ → Type 0
  StandsAt p n k bytes = p ≡ after_pages k (prefix_of sum P (pieces (n - k) (P + 12) (drop (k * (P + 12)) bytes)))

  -- so it has them
  pub stands_reach : (p : Prefix) (n k : ℕ) (bytes : List ℕ) → StandsAt p n k bytes → k ≤ p.full_pages
  stands_reach p n k bytes is = omega (arith, ap (λ (q : Prefix). q.full_pages) is)

  -- nothing was looked at
  pub stands_first : (n : ℕ) (bytes : List ℕ) → StandsAt (prefix_of sum P (pieces n (P + 12) bytes)) n 0 bytes
  stands_first n bytes =
      let count : n ≡ n - 0 = omega arith in
      let offset : 0 ≡ 0 * (P + 12) = omega arith in
      ap (λ (m : ℕ). prefix_of sum P (pieces m (P + 12) bytes)) count
      ∙ ap (λ (m : ℕ). prefix_of sum P (pieces (n - 0) (P + 12) (drop m bytes))) offset
      ∙ sym (after-zero (prefix_of sum P (pieces (n - 0) (P + 12) (drop (0 * (P + 12)) bytes))))

  -- one page more is full
  pub stands_next : (p : Prefix) (n k : ℕ) (bytes : List ℕ) → k < n → StandsAt p n k bytes → value_len sum P (page_at P k bytes) ≡ P → StandsAt p n (k + 1) bytes
  stands_next p n k bytes lt is full =
      is ∙ ap (λ (l : List (List ℕ)). after_pages k (prefix_of sum P l)) (pieces_from n k (P + 12) bytes lt)
      ∙ ap (λ (q : Prefix). after_pages k q) (prefix_full (page_at P k bytes) (pieces (n - (k + 1)) (P + 12) (drop ((k + 1) * (P + 12)) bytes)) full)
      ∙ after-after k 1 (prefix_of sum P (pieces (n - (k + 1)) (P + 12) (drop ((k + 1) * (P + 12)) bytes)))

  -- a page isn't full: the prefix ends with it
  pub stands_part : (p : Prefix) (n k : ℕ) (bytes : List ℕ) → k < n → StandsAt p n k bytes → value_len sum P (page_at P k bytes) ≢ P
      → p ≡ record { full_pages = k; partial = value_and_slot (active sum P (page_at P k bytes)) (page_at P k bytes) }
  stands_part p n k bytes lt is part =
      is ∙ ap (λ (l : List (List ℕ)). after_pages k (prefix_of sum P l)) (pieces_from n k (P + 12) bytes lt)
      ∙ ap (λ (q : Prefix). after_pages k q) (prefix_part (page_at P k bytes) (pieces (n - (k + 1)) (P + 12) (drop ((k + 1) * (P + 12)) bytes)) part)
      ∙ ap (λ (m : ℕ). record { full_pages = m; partial = value_and_slot (active sum P (page_at P k bytes)) (page_at P k bytes) }) (let e : k + 0 ≡ k = omega arith in e)

  -- the slot of a page, with the numbers that a program has
  pub told_at : (size k : ℕ) (seen bytes : List ℕ) (slot : Option ActiveChecksum) → size ≡ P + 12 → seen ≡ bytes → slot ≡ active sum (size - 12) (take size (drop (k * size) seen)) → slot ≡ active sum P (page_at P k bytes)
  told_at size k seen bytes slot is same told =
      told
      ∙ ap (λ (l : List ℕ). active sum (size - 12) (take size (drop (k * size) l))) same
      ∙ ap (λ (n : ℕ). active sum n (take size (drop (k * size) bytes))) (let e : size - 12 ≡ P = omega (arith, is) in e)
      ∙ ap (λ (n : ℕ). active sum P (take n (drop (k * n) bytes))) is

  -- a slot covers a full page
  pub told_full : (page : List ℕ) (slot : Option ActiveChecksum) (full : Bool) → slot ≡ active sum P page → full ≡ (kept_len slot == P) → full ≡ true → value_len sum P page ≡ P
  told_full page slot full told is holds = sym (ap kept_len told ∙ told_len page) ∙ eqb-true (kept_len slot) P (sym is ∙ holds)

  -- a slot doesn't cover a full page
  pub told_part : (page : List ℕ) (slot : Option ActiveChecksum) (full : Bool) → slot ≡ active sum P page → full ≡ (kept_len slot == P) → full ≡ false → value_len sum P page ≢ P
  told_part page slot full told is fails = λ same. false≢true (sym fails ∙ is ∙ eq-eqb (kept_len slot) P (ap kept_len told ∙ told_len page ∙ same))

  -- the value that a slot covers, with the numbers that a program has
  pub value_told : (size k : ℕ) (bytes : List ℕ) (slot : Option ActiveChecksum) (found : Option (List ℕ × ActiveChecksum)) → size ≡ P + 12 → slot ≡ active sum P (page_at P k bytes)
      → found ≡ value_and_slot slot (drop (k * size) bytes) → found ≡ value_and_slot (active sum P (page_at P k bytes)) (page_at P k bytes)
  value_told size k bytes slot found is told value =
      let within : kept_len slot ≤ P + 12 = omega (arith, ap kept_len told, told_len (page_at P k bytes), value_len_le sum P (page_at P k bytes)) in
      value
      ∙ ap (λ (n : ℕ). value_and_slot slot (drop (k * n) bytes)) is
      ∙ sym (value_of_page slot (P + 12) (drop (k * (P + 12)) bytes) within)
      ∙ ap (λ (s : Option ActiveChecksum). value_and_slot s (page_at P k bytes)) told

  -- the slot of a page that was read alone, with the numbers that a program has
  pub told_read : (size k : ℕ) (seen bytes readable : List ℕ) (slot : Option ActiveChecksum) → size ≡ P + 12 → seen ≡ bytes → bytes ≡ take size (drop (k * size) readable) → slot ≡ active sum (size - 12) (take size seen)
      → slot ≡ active sum P (page_at P k readable)
  told_read size k seen bytes readable slot is same read told =
      told_at size k readable readable slot is refl
      (told ∙ ap (λ (l : List ℕ). active sum (size - 12) (take size l)) (same ∙ read) ∙ ap (λ (l : List ℕ). active sum (size - 12) l) (take-take size size (drop (k * size) readable) (omega arith)))

  -- the bad slot of a page that was read alone
  pub bad_read : (size k : ℕ) (seen bytes readable : List ℕ) (bad : Option Slot) → size ≡ P + 12 → seen ≡ bytes → bytes ≡ take size (drop (k * size) readable) → k * size + size ≤ length readable → bad ≡ bad_slot sum (length seen - 12) seen
      → bad ≡ bad_slot sum P (page_at P k readable)
  bad_read size k seen bytes readable bad is same read there told =
      let page : seen ≡ page_at P k readable = same ∙ read ∙ ap (λ (n : ℕ). take n (drop (k * n) readable)) is in
      let reach : k * (P + 12) + (P + 12) ≤ length readable = subst (λ (n : ℕ). k * n + n ≤ length readable) is there in
      let len : length (page_at P k readable) ≡ P + 12 = length-take-le (P + 12) (drop (k * (P + 12)) readable) (omega (arith, reach, length-drop (k * (P + 12)) readable)) in
      told ∙ ap (λ (l : List ℕ). bad_slot sum (length l - 12) l) page ∙ ap (λ (n : ℕ). bad_slot sum n (page_at P k readable)) (let e : length (page_at P k readable) - 12 ≡ P = omega (arith, len) in e)

  -- where that page has a partial value, the bad slot is that of a prefix that ends there
  pub bad_part : (k : ℕ) (readable : List ℕ) (found : Option (List ℕ × ActiveChecksum)) → is_some found ≡ true → bad_slot sum P (page_at P k readable) ≡ bad_in sum P readable (record { full_pages = k; partial = found })
  bad_part k readable None some = absurd (cc some)
  bad_part k readable (Some v) some = refl

  -- the value of a page that was read alone
  pub value_read : (size k : ℕ) (bytes readable : List ℕ) (slot : Option ActiveChecksum) (found : Option (List ℕ × ActiveChecksum)) → size ≡ P + 12 → bytes ≡ take size (drop (k * size) readable) → slot ≡ active sum P (page_at P k readable)
      → found ≡ value_and_slot slot bytes → found ≡ value_and_slot (active sum P (page_at P k readable)) (page_at P k readable)
  value_read size k bytes readable slot found is read told value =
      value ∙ ap (λ (l : List ℕ). value_and_slot slot l) (read ∙ ap (λ (n : ℕ). take n (drop (k * n) readable)) is) ∙ ap (λ (s : Option ActiveChecksum). value_and_slot s (page_at P k readable)) told

  -- a page has a value
  pub found_some : (page : List ℕ) (found : Option (List ℕ × ActiveChecksum)) → found ≡ value_and_slot (active sum P page) page → is_some found ≡ true → value_len sum P page ≢ 0
  found_some page found is some = λ none. false≢true (ap (λ (s : Option ActiveChecksum). is_some (value_and_slot s page)) (sym (active-none sum P page none)) ∙ ap (λ (f : Option (List ℕ × ActiveChecksum)). is_some f) (sym is) ∙ some)

  -- a page has no value
  pub found_none : (page : List ℕ) (found : Option (List ℕ × ActiveChecksum)) → found ≡ value_and_slot (active sum P page) page → is_some found ≡ false → value_len sum P page ≡ 0
  found_none page found is none = none_told page (active sum P page) refl (ap (λ (f : Option (List ℕ × ActiveChecksum)). is_some f) (sym is) ∙ none)

  -- the last page has no value
  pub last_none_suc : (n : ℕ) (bytes : List ℕ) → value_len sum P (page_at P n bytes) ≡ 0 → last_prefix sum P (suc n) bytes ≡ last_prefix sum P n bytes
  last_none_suc n bytes none = cond-true (value_len sum P (page_at P n bytes) == 0) _ _ (eq-eqb _ _ none)

  -- the last page is full
  pub last_full_suc : (n : ℕ) (bytes : List ℕ) → value_len sum P (page_at P n bytes) ≢ 0 → value_len sum P (page_at P n bytes) ≡ P → last_prefix sum P (suc n) bytes ≡ record { full_pages = n + 1; partial = None }
  last_full_suc n bytes some full = cond-false (value_len sum P (page_at P n bytes) == 0) _ _ (ne_eqb _ _ some) ∙ cond-true (value_len sum P (page_at P n bytes) == P) _ _ (eq-eqb _ _ full)

  -- the last page has a value that isn't full
  pub last_part_suc : (n : ℕ) (bytes : List ℕ) → value_len sum P (page_at P n bytes) ≢ 0 → value_len sum P (page_at P n bytes) ≢ P
      → last_prefix sum P (suc n) bytes ≡ record { full_pages = n; partial = value_and_slot (active sum P (page_at P n bytes)) (page_at P n bytes) }
  last_part_suc n bytes some part = cond-false (value_len sum P (page_at P n bytes) == 0) _ _ (ne_eqb _ _ some) ∙ cond-false (value_len sum P (page_at P n bytes) == P) _ _ (ne_eqb _ _ part)

  -- the last page, in a search that began with m pages and came to n, with the numbers that a
  -- program has
  pub last_none : (n m : ℕ) (bytes : List ℕ) → last_prefix sum P n bytes ≡ last_prefix sum P m bytes → 0 < n → value_len sum P (page_at P (n - 1) bytes) ≡ 0 → last_prefix sum P (n - 1) bytes ≡ last_prefix sum P m bytes
  last_none zero m bytes same some none = absurd (omega arith)
  last_none (suc n) m bytes same some none =
      let e : suc n - 1 ≡ n = omega arith in
      ap (λ (k : ℕ). last_prefix sum P k bytes) e ∙ sym (last_none_suc n bytes (ap (λ (k : ℕ). value_len sum P (page_at P k bytes)) (sym e) ∙ none)) ∙ same

  pub last_full : (n m : ℕ) (bytes : List ℕ) → 0 < P → last_prefix sum P n bytes ≡ last_prefix sum P m bytes → 0 < n → value_len sum P (page_at P (n - 1) bytes) ≡ P → record { full_pages = n; partial = None } ≡ last_prefix sum P m bytes
  last_full zero m bytes positive same some full = absurd (omega arith)
  last_full (suc n) m bytes positive same some full =
      let e : suc n - 1 ≡ n = omega arith in
      let here : value_len sum P (page_at P n bytes) ≡ P = ap (λ (k : ℕ). value_len sum P (page_at P k bytes)) (sym e) ∙ full in
      sym (last_full_suc n bytes (λ none. omega (arith, none, here)) here ∙ ap (λ (k : ℕ). record { full_pages = k; partial = None }) (let f : n + 1 ≡ suc n = omega arith in f)) ∙ same

  pub last_part : (n m : ℕ) (bytes : List ℕ) (found : Option (List ℕ × ActiveChecksum)) → last_prefix sum P n bytes ≡ last_prefix sum P m bytes → 0 < n
      → found ≡ value_and_slot (active sum P (page_at P (n - 1) bytes)) (page_at P (n - 1) bytes) → value_len sum P (page_at P (n - 1) bytes) ≢ 0 → value_len sum P (page_at P (n - 1) bytes) ≢ P
      → record { full_pages = n - 1; partial = found } ≡ last_prefix sum P m bytes
  last_part zero m bytes found same some is has part = absurd (omega arith)
  last_part (suc n) m bytes found same some is has part =
      let e : suc n - 1 ≡ n = omega arith in
      let len : value_len sum P (page_at P (suc n - 1) bytes) ≡ value_len sum P (page_at P n bytes) = ap (λ (k : ℕ). value_len sum P (page_at P k bytes)) e in
      ap (λ (v : Option (List ℕ × ActiveChecksum)). record { full_pages = suc n - 1; partial = v }) is
      ∙ ap (λ (k : ℕ). record { full_pages = k; partial = value_and_slot (active sum P (page_at P k bytes)) (page_at P k bytes) }) e
      ∙ sym (last_part_suc n bytes (λ none. has (len ∙ none)) (λ full. part (len ∙ full)))
      ∙ same

  -- the value of a page that isn't full is less than a page's payload
  value_short : (slot : Option ActiveChecksum) (page : List ℕ) → kept_len slot < P → length (tip_of (value_and_slot slot page)) < P
  value_short None page short = short
  value_short (Some s) page short = omega (arith, short, length-take s.len page)

  pub tip_short : (page : List ℕ) → value_len sum P page ≢ P → length (tip_of (value_and_slot (active sum P page) page)) < P
  tip_short page part = value_short (active sum P page) page (omega (arith, told_len page, value_len_le sum P page, part))

  -- the last of some pages that has a value is one of them, and none after it has one
  pub record IsLast (n : ℕ) (bytes : List ℕ) (p : Prefix) : Type 0 where
    pub within : prefix_pages p ≤ n
    pub tip : 0 < P → length (tip_of p.partial) < P
    pub none : (k : ℕ) → prefix_pages p ≤ k → k < n → value_len sum P (page_at P k bytes) ≡ 0

  pub last_is : (n : ℕ) (bytes : List ℕ) → IsLast n bytes (last_prefix sum P n bytes)
  last_is zero bytes = record { within = omega arith; tip = λ positive. positive; none = λ k le lt. absurd (omega arith) }
  last_is (suc n) bytes = elim (cases_eq (value_len sum P (page_at P n bytes)) 0) [
    | inl none ↦
        let before = last_is n bytes in
        subst (λ (p : Prefix). IsLast (suc n) bytes p) (sym (last_none_suc n bytes none)) (record {
          within = omega (arith, before.within);
          tip = before.tip;
          none = λ k le lt. elim (cases_eq k n) [
            | inl is ↦ ap (λ (m : ℕ). value_len sum P (page_at P m bytes)) is ∙ none
            | inr other ↦ before.none k le (omega arith)
          ];
        })
    | inr some ↦ elim (cases_eq (value_len sum P (page_at P n bytes)) P) [
      | inl full ↦ subst (λ (p : Prefix). IsLast (suc n) bytes p) (sym (last_full_suc n bytes some full)) (record { within = omega arith; tip = λ positive. positive; none = λ k le lt. absurd (omega arith) })
      | inr part ↦ subst (λ (p : Prefix). IsLast (suc n) bytes p) (sym (last_part_suc n bytes some part)) (record {
        within = omega (arith, partial_pages_le (value_and_slot (active sum P (page_at P n bytes)) (page_at P n bytes)));
        tip = λ positive. tip_short (page_at P n bytes) part;
        none = λ k le lt. absurd (omega (arith, le, lt, one_page (page_at P n bytes) some));
      })
    ]
  ]

  -- the prefix ends among the first pages
  pub prefix_short : (front back : List (List ℕ)) → (prefix_of sum P front).full_pages < length front → prefix_of sum P (front ++ back) ≡ prefix_of sum P front
  prefix_short [] back short = absurd (omega arith)
  prefix_short (page ∷ front) back short = elim (cases_eq (value_len sum P page) P) [
    | inl full ↦
        let head : prefix_of sum P (page ∷ front) ≡ after_pages 1 (prefix_of sum P front) = prefix_full page front full in
        let rest : (prefix_of sum P front).full_pages < length front = omega (arith, short, ap (λ (p : Prefix). p.full_pages) head) in
        prefix_full page (front ++ back) full ∙ ap (λ (p : Prefix). after_pages 1 p) (prefix_short front back rest) ∙ sym head
    | inr part ↦ prefix_part page (front ++ back) part ∙ sym (prefix_part page front part)
  ]

  -- the first pages are full
  pub prefix_long : (front back : List (List ℕ)) → length front ≤ (prefix_of sum P front).full_pages → prefix_of sum P (front ++ back) ≡ after_pages (length front) (prefix_of sum P back)
  prefix_long [] back long = sym (after-zero (prefix_of sum P back))
  prefix_long (page ∷ front) back long = elim (cases_eq (value_len sum P page) P) [
    | inl full ↦
        let rest : length front ≤ (prefix_of sum P front).full_pages = omega (arith, long, ap (λ (p : Prefix). p.full_pages) (prefix_full page front full)) in
        prefix_full page (front ++ back) full ∙ ap (λ (p : Prefix). after_pages 1 p) (prefix_long front back rest) ∙ after-after 1 (length front) (prefix_of sum P back)
        ∙ ap (λ (n : ℕ). after_pages n (prefix_of sum P back)) (let e : 1 + length front ≡ suc (length front) = omega arith in e)
    | inr part ↦ absurd (omega (arith, long, ap (λ (p : Prefix). p.full_pages) (prefix_part page front part)))
  ]

  -- some of the pages were read at once: these bytes, of which this is the prefix
  pub record IsBatch (k b : ℕ) (readable bytes : List ℕ) (q : Prefix) : Type 0 where
    pub fits : k * (P + 12) + b * (P + 12) ≤ length readable
    pub read : bytes ≡ take (b * (P + 12)) (drop (k * (P + 12)) readable)
    pub prefix : q ≡ prefix_of sum P (pages P bytes)

  -- pages that were read at once, with the numbers that a program has
  pub batch_read : (size k b : ℕ) (readable bytes : List ℕ) (q : Prefix) → size ≡ P + 12 → k * size + b * size ≤ length readable → bytes ≡ take (b * size) (drop (k * size) readable)
      → q ≡ prefix_of sum P (pages P bytes) → IsBatch k b readable bytes q
  batch_read size k b readable bytes q is there read prefix = record {
    fits = subst (λ (m : ℕ). k * m + b * m ≤ length readable) is there;
    read = read ∙ ap (λ (m : ℕ). take (b * m) (drop (k * m) readable)) is;
    prefix = prefix;
  }

  module _ (n k b : ℕ) (readable bytes : List ℕ) (q : Prefix) (le : k + b ≤ n) (batch : IsBatch k b readable bytes q) where
    abbrev rest : List ℕ
    rest = drop (k * (P + 12)) readable

    abbrev pub front : List (List ℕ)
    front = pieces b (P + 12) (drop (k * (P + 12)) readable)

    abbrev pub back : List (List ℕ)
    back = pieces (n - (k + b)) (P + 12) (drop ((k + b) * (P + 12)) readable)

    -- these bytes are pages
    pub pages_are : pages P bytes ≡ front
    pages_are =
        let reach : b * (P + 12) ≤ length rest = omega (arith, batch.fits, length-drop (k * (P + 12)) readable) in
        ap (λ (l : List ℕ). pages P l) batch.read ∙ pages_of_take P b rest reach ∙ take-pages P b rest reach

    pub front_is : q ≡ prefix_of sum P front
    front_is = batch.prefix ∙ ap (λ (l : List (List ℕ)). prefix_of sum P l) pages_are

    pub split : pieces (n - k) (P + 12) rest ≡ front ++ back
    split =
        ap (λ (m : ℕ). pieces m (P + 12) rest) (let e : n - k ≡ b + (n - (k + b)) = omega arith in e)
        ∙ pieces-add b (n - (k + b)) (P + 12) rest
        ∙ ap (λ (l : List ℕ). front ++ pieces (n - (k + b)) (P + 12) l) (drop-drop (b * (P + 12)) (k * (P + 12)) readable ∙ ap (λ (m : ℕ). drop m readable) (let e : k * (P + 12) + b * (P + 12) ≡ (k + b) * (P + 12) = omega arith in e))

    -- the prefix ends among the pages that were read at once
    pub stands_ended : (p : Prefix) → StandsAt p n k readable → q.full_pages < b → p ≡ record { full_pages = k + q.full_pages; partial = q.partial }
    stands_ended p is short =
        let shorter : (prefix_of sum P front).full_pages < length front = omega (arith, short, ap (λ (x : Prefix). x.full_pages) front_is, length-pieces b (P + 12) rest) in
        is ∙ ap (λ (l : List (List ℕ)). after_pages k (prefix_of sum P l)) split ∙ ap (λ (x : Prefix). after_pages k x) (prefix_short front back shorter ∙ sym front_is)

    -- the pages that were read at once are full
    pub stands_on : (p : Prefix) → StandsAt p n k readable → b ≤ q.full_pages → StandsAt p n (k + b) readable
    stands_on p is long =
        let longer : length front ≤ (prefix_of sum P front).full_pages = omega (arith, long, ap (λ (x : Prefix). x.full_pages) front_is, length-pieces b (P + 12) rest) in
        is ∙ ap (λ (l : List (List ℕ)). after_pages k (prefix_of sum P l)) split ∙ ap (λ (x : Prefix). after_pages k x) (prefix_long front back longer)
        ∙ after-after k (length front) (prefix_of sum P back)
        ∙ ap (λ (m : ℕ). after_pages (k + m) (prefix_of sum P back)) (length-pieces b (P + 12) rest)

    -- a page of those that were read at once
    pub page_of_batch : (f : ℕ) → f < b → page_at P f bytes ≡ page_at P (k + f) readable
    page_of_batch f lt =
        let more : (P + 12) * (f + 1) ≤ (P + 12) * b = mul-le-mul_left (P + 12) (let less : f + 1 ≤ b = omega arith in less) in
        ap (λ (l : List ℕ). page_at P f l) batch.read
        ∙ within_take (P + 12) (f * (P + 12)) (b * (P + 12)) rest (omega (arith, more))
        ∙ within_drop (P + 12) (f * (P + 12)) (k * (P + 12)) readable
        ∙ ap (λ (m : ℕ). take (P + 12) (drop m readable)) (let e : k * (P + 12) + f * (P + 12) ≡ (k + f) * (P + 12) = omega arith in e)

  -- a partial page of those that were read at once holds bytes
  pub has_bytes_batch : (n k b : ℕ) (readable bytes : List ℕ) (q : Prefix) (found : Option (List ℕ × ActiveChecksum)) → k + b ≤ n → IsBatch k b readable bytes q → q.full_pages < b → HasBytes P q.full_pages bytes found → HasBytes P (k + q.full_pages) readable found
  has_bytes_batch n k b readable bytes q None le batch short has = tt
  has_bytes_batch n k b readable bytes q (Some v) le batch short has = subst (λ (l : List ℕ). AreBytes l) (page_of_batch n k b readable bytes q le batch q.full_pages short) has

-- a page that was read holds bytes
pub has_bytes : (P size k : ℕ) (seen bytes : List ℕ) (found : Option (List ℕ × ActiveChecksum)) → size ≡ P + 12 → seen ≡ bytes → AreBytes (take size (drop (k * size) seen)) → HasBytes P k bytes found
has_bytes P size k seen bytes None is same are = tt
has_bytes P size k seen bytes (Some v) is same are = subst (λ (n : ℕ). AreBytes (take n (drop (k * n) bytes))) is (subst (λ (l : List ℕ). AreBytes (take size (drop (k * size) l))) same are)

-- a page that was read alone holds bytes
pub has_bytes_read : (P size k : ℕ) (seen bytes readable : List ℕ) (found : Option (List ℕ × ActiveChecksum)) → size ≡ P + 12 → seen ≡ bytes → bytes ≡ take size (drop (k * size) readable) → AreBytes (take size seen) → HasBytes P k readable found
has_bytes_read P size k seen bytes readable found is same read are =
    has_bytes P size k readable readable found is refl (subst (λ (l : List ℕ). AreBytes l) (ap (λ (l : List ℕ). take size l) (same ∙ read) ∙ take-take size size (drop (k * size) readable) (omega arith)) are)
