-- Full pages with their footers.
use Rattle.std.proofs.Common.{◌≡◌, ℕ, ◌+◌, ◌*◌, ◌-◌, ◌^◌, ◌<◌, List, [], ◌∷◌, ◌++◌, length, take, drop, get_or, slice_range, refl, sym, ap, ◌∙◌, arith, append_assoc, append-nil, length-append}
use Rattle.std.specs.Prelude.{Option, None, Some, replicate}
use Rattle.std.specs.List.{All, concat}
use Rattle.std.proofs.lemmas.List.{take_at, drop_at, drop-drop, at_drop_more}
use Rattle.std.proofs.lemmas.List.Elements.{All-head, All-tail}
use Rattle.page.specs.Page.{slot_bytes}
use Rattle.page.specs.Tip.{ArePages}
use Rattle.page.specs.declared.slot.ActiveChecksum.{ActiveChecksum}
use Rattle.page.specs.declared.slot.Slot.{Slot}
use Rattle.page.specs.declared.slot.Slot.TheVariants.{First, Second}
use Rattle.crash.specs.Built.{kept_slot, kept_bytes, footer, page_of, built}
use Rattle.paged.specs.Flush.{footers_of, with_footers}

-- so many bytes are in pages
pub length-pages : (P : ℕ) (pages : List (List ℕ)) → ArePages P pages → length (concat pages) ≡ length pages * P
length-pages P [] are = omega arith
length-pages P (page ∷ pages) are =
    let head : length page ≡ P = All-head (λ page. length page ≡ P) page pages are in
    let others = length-pages P pages (All-tail (λ page. length page ≡ P) page pages are) in
    length-append page (concat pages) ∙ omega (arith, head, others)

-- a footer has twelve bytes
length-footer : (durable : Option ActiveChecksum) (len crc : ℕ) → length (footer (kept_slot durable) (kept_bytes durable) (slot_bytes len crc)) ≡ 12
length-footer None len crc = refl
length-footer (Some kept) len crc = by_slot kept.slot kept.len kept.crc
  where
    by_slot : (s : Slot) (kept_len kept_crc : ℕ) → length (footer s (slot_bytes kept_len kept_crc) (slot_bytes len crc)) ≡ 12
    by_slot First kept_len kept_crc = refl
    by_slot Second kept_len kept_crc = refl

-- a full page needs no zeros
full_page_of : (sum : List ℕ → ℕ) (P : ℕ) (durable : Option ActiveChecksum) (page : List ℕ) → length page ≡ P
    → page_of sum P durable page ≡ page ++ footer (kept_slot durable) (kept_bytes durable) (slot_bytes (length page) (sum page))
full_page_of sum P durable page full =
    let none : P - length page ≡ 0 = omega (arith, full) in
    ap (λ n. page ++ replicate n 0 ++ footer (kept_slot durable) (kept_bytes durable) (slot_bytes (length page) (sum page))) none
    ∙ ap (λ front. front ++ footer (kept_slot durable) (kept_bytes durable) (slot_bytes (length page) (sum page))) (append-nil page)

-- full pages with their footers are those that are built of their bytes
pub with_footers-built : (sum : List ℕ → ℕ) (P : ℕ) (durable : Option ActiveChecksum) (pages : List (List ℕ)) → ArePages P pages
    → with_footers pages (footers_of sum durable pages) ≡ built sum P durable (length pages) (concat pages)
with_footers-built sum P durable [] are = refl
with_footers-built sum P durable (page ∷ pages) are =
    let f = footer (kept_slot durable) (kept_bytes durable) (slot_bytes (length page) (sum page)) in
    let fs = footers_of sum None pages in
    let full : length page ≡ P = All-head (λ page. length page ≡ P) page pages are in
    let others = with_footers-built sum P None pages (All-tail (λ page. length page ≡ P) page pages are) in
    let size = length-footer durable (length page) (sum page) in
    ap (λ bytes. page ++ bytes ++ with_footers pages (drop 12 (f ++ fs))) (take_at f fs 12 size)
    ∙ ap (λ bytes. page ++ f ++ with_footers pages bytes) (drop_at f fs 12 size)
    ∙ ap (λ bytes. page ++ f ++ bytes) others
    ∙ ap (λ bytes. bytes ++ built sum P None (length pages) (concat pages)) (sym (full_page_of sum P durable page full))
    ∙ ap (λ bytes. page_of sum P durable bytes ++ built sum P None (length pages) (concat pages)) (sym (take_at page (concat pages) P full))
    ∙ ap (λ bytes. page_of sum P durable (take P (page ++ concat pages)) ++ built sum P None (length pages) bytes) (sym (drop_at page (concat pages) P full))

-- a page and its footer are the first of those that are left
with_first : (sum : List ℕ → ℕ) (durable : Option ActiveChecksum) (page : List ℕ) (pages : List (List ℕ)) → with_footers (page ∷ pages) (footers_of sum durable (page ∷ pages))
    ≡ page ++ footer (kept_slot durable) (kept_bytes durable) (slot_bytes (length page) (sum page)) ++ with_footers pages (footers_of sum None pages)
with_first sum durable page pages =
    let f = footer (kept_slot durable) (kept_bytes durable) (slot_bytes (length page) (sum page)) in
    let fs = footers_of sum None pages in
    let size = length-footer durable (length page) (sum page) in
    ap (λ bytes. page ++ bytes ++ with_footers pages (drop 12 (f ++ fs))) (take_at f fs 12 size)
    ∙ ap (λ bytes. page ++ f ++ with_footers pages bytes) (drop_at f fs 12 size)

-- one page more, with its footer, where both are copied
pub copied_next : (sum : List ℕ → ℕ) (durable : Option ActiveChecksum) (pages : List (List ℕ)) (i : ℕ) (page footer_more out between next first : List ℕ) → i < length pages → page ≡ get_or pages i page
    → footer_more ≡ footer (kept_slot durable) (kept_bytes durable) (slot_bytes (length page) (sum page)) → between ≡ out ++ page → next ≡ between ++ footer_more
    → out ++ with_footers (drop i pages) (footers_of sum durable (drop i pages)) ≡ first → next ++ with_footers (drop (i + 1) pages) (footers_of sum None (drop (i + 1) pages)) ≡ first
copied_next sum durable pages i page footer_more out between next first below is more joined then before =
    let rest = drop (i + 1) pages in
    let f = footer (kept_slot durable) (kept_bytes durable) (slot_bytes (length page) (sum page)) in
    let others = with_footers rest (footers_of sum None rest) in
    ap (λ bytes. bytes ++ others) (then ∙ ap (λ bytes. bytes ++ footer_more) joined ∙ ap (λ bytes. (out ++ page) ++ bytes) more)
    ∙ ap (λ bytes. bytes ++ others) (append_assoc out page f)
    ∙ append_assoc out (page ++ f) others
    ∙ ap (λ bytes. out ++ bytes) (sym (with_first sum durable page rest))
    ∙ ap (λ p. out ++ with_footers (p ∷ rest) (footers_of sum durable (p ∷ rest))) is
    ∙ ap (λ bytes. out ++ bytes) (sym (at_drop_more (λ ps. with_footers ps (footers_of sum durable ps)) pages i page below))
    ∙ before

-- one page more, with its footer
pub with_next : (page footer_more out between next : List ℕ) (pages : List (List ℕ)) (at : ℕ) (footers first : List ℕ) → footer_more ≡ slice_range footers at (at + 12) → between ≡ out ++ page → next ≡ between ++ footer_more
    → out ++ with_footers (page ∷ pages) (drop at footers) ≡ first → next ++ with_footers pages (drop (at + 12) footers) ≡ first
with_next page footer_more out between next pages at footers first more joined then before =
    let n : at + 12 - at ≡ 12 = omega arith in
    let part : footer_more ≡ take 12 (drop at footers) = more ∙ ap (λ n. take n (drop at footers)) n in
    let rest : drop 12 (drop at footers) ≡ drop (at + 12) footers = drop-drop 12 at footers in
    let all = with_footers pages (drop (at + 12) footers) in
    ap (λ bytes. bytes ++ all) (then ∙ ap (λ bytes. bytes ++ footer_more) joined ∙ ap (λ bytes. out ++ page ++ bytes) part)
    ∙ append_assoc (out ++ page) (take 12 (drop at footers)) all
    ∙ append_assoc out page (take 12 (drop at footers) ++ all)
    ∙ ap (λ bytes. out ++ bytes) (sym (append_assoc page (take 12 (drop at footers)) all))
    ∙ ap (λ bytes. out ++ (page ++ take 12 (drop at footers) ++ with_footers pages bytes)) (sym rest)
    ∙ before

-- twelve bytes for each page
pub length-footers : (sum : List ℕ → ℕ) (durable : Option ActiveChecksum) (pages : List (List ℕ)) → length (footers_of sum durable pages) ≡ 12 * length pages
length-footers sum durable [] = refl
length-footers sum durable (page ∷ pages) =
    let f = footer (kept_slot durable) (kept_bytes durable) (slot_bytes (length page) (sum page)) in
    length-append f (footers_of sum None pages) ∙ omega (arith, length-footer durable (length page) (sum page), length-footers sum None pages)

-- pages of fewer bytes than this have fewer
pub small_pages : (P : ℕ) (pages : List (List ℕ)) → P < 2 ^ 16 → ArePages P pages → All (λ page. length page < 2 ^ 16) pages
small_pages P pages small are k d below = let size : length (get_or pages k d) ≡ P = are k d below in omega (arith, small, size)
