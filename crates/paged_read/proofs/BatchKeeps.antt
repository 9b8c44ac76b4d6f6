-- Pages that were delivered: what is kept of them, and the pieces that are copied.
use Rattle.std.proofs.Common.{◌≡◌, inl, inr, ℕ, zero, suc, ◌+◌, ◌-◌, ◌*◌, ◌<◌, ◌≤◌, List, [], ◌∷◌, length, take, drop, map, get_or, set, refl, sym, ap, ◌∙◌, subst, arith, Err, length-drop}
use Rattle.std.specs.Prelude.{All, slice_get, Some, Option}
use Rattle.std.specs.Option.{option_map}
use Rattle.std.proofs.lemmas.Bool.{cases_eq, cases_lt}
use Rattle.std.proofs.lemmas.Option.{same_Some, slice_get-map, slice_get-get_or, slice_get_within, get_or_from_slice_get}
use Rattle.std.proofs.lemmas.List.{get_or-set_same, get_or-set_other, get_or_default, take_more, map-append, length-take-le, length-map, length-take, get_or-take, get_or-map}
use borrow.Rule.Slice.PartMut.{put_mid}
use Rattle.disk.specs.Disk.{Life, Delivers, bytes_of}
use Rattle.page.specs.Page.{value_len}
use Rattle.cache.specs.CacheState.{CacheState, Puts, put_at}
use Rattle.cache.specs.Pages.{page_of_content}
use Rattle.cache.specs.declared.piece.Piece.{Piece}
use Rattle.paged_read.specs.Failures.{NoneFailed}
use Rattle.paged_read.specs.Tail.{logical_bytes, Tail}
use Rattle.paged_read.specs.Ranges.{page_ranges, page_at}
use Rattle.paged_read.specs.Parts.{with_told, ArePagesFull, PagesFault}
use Rattle.paged_read.specs.Puts.{PutsPages, PutsFirst, delivered_pages}
use Rattle.paged_read.specs.Batch.{CachesFullPage, AreMarked, IsDelivered, KeepsFault, CanPutPiece, IsTold, IsLack, pieces_in, bytes_found}
use Rattle.paged_read.specs.declared.lack.Lack.{Lack}
use Rattle.paged_read.proofs.Leaving.{length-page_at, payload_told, put_mid_is}
use Rattle.crash.proofs.Lists.{within_take}
use Rattle.disk.specs.declared.error.Error.{Error}
use Rattle.disk.specs.declared.error.Error.TheVariants.{ReadFailed, WriteFailed, ResizeFailed, SyncFailed, InvalidChecksum, BlobInsufficientLength, OffsetOverflow, OutOfMemory, IdsExhausted}
use Rattle.paged_read.proofs.BatchReads.{length-page_ranges}
use Rattle.paged_read.proofs.BatchSteps.{told_push}
use Rattle.paged_read.proofs.PutLaws.{puts_joins, puts_one, numbered_more, numbered_first}

-- ---- pages that are kept

-- one more is marked
pub marked_more : (at : List ℕ) (out : List (ℕ × List ℕ)) (n number : ℕ) → n < length out → number < length at → ((d : ℕ × List ℕ) → (get_or out n d).0 ≡ number) → AreMarked at out n → AreMarked (set at number n) out (n + 1)
marked_more at out n number there fits here before = λ k d less. elim (cases_eq (get_or out k d).0 number) [
  | inl same ↦
      let now : get_or (set at number n) (get_or out k d).0 0 ≡ n = ap (λ (m : ℕ). get_or (set at number n) m 0) same ∙ get_or-set_same at number n 0 fits in
      (omega (arith, now, there), ap (λ (m : ℕ). (get_or out m d).0) now ∙ here d ∙ sym same)
  | inr apart ↦ elim (cases_lt k n) [
    | inl before_n ↦
        let h = before k d before_n in
        let stays : get_or (set at number n) (get_or out k d).0 0 ≡ get_or at (get_or out k d).0 0 = get_or-set_other at number (get_or out k d).0 n 0 apart in
        (omega (arith, stays, h.0), ap (λ (m : ℕ). (get_or out m d).0) stays ∙ h.1)
    | inr after ↦ absurd (let same : k ≡ n = omega (arith, less, after) in apart (ap (λ (m : ℕ). (get_or out m d).0) same ∙ here d))
  ]
]

-- one more is full
pub full_more : (sum : List ℕ → ℕ) (P : ℕ) (out : List (ℕ × List ℕ)) (n : ℕ) → ((d : ℕ × List ℕ) → value_len sum P (get_or out n d).1 ≡ P) → ((k : ℕ) (d : ℕ × List ℕ) → k < n → value_len sum P (get_or out k d).1 ≡ P)
    → (k : ℕ) (d : ℕ × List ℕ) → k < n + 1 → value_len sum P (get_or out k d).1 ≡ P
full_more sum P out n here before = λ k d less. elim (cases_lt k n) [
  | inl earlier ↦ before k d earlier
  | inr after ↦ let same : k ≡ n = omega (arith, less, after) in ap (λ (m : ℕ). value_len sum P (get_or out m d).1) same ∙ here d
]

-- a delivered page has its number's bytes
pub delivered_at : (P : ℕ) (pages readable : List ℕ) (out : List (ℕ × List ℕ)) (k : ℕ) (d : ℕ × List ℕ) → Delivers (page_ranges P pages) readable out → k < length out
    → slice_get (map (λ (page : ℕ). page_at P page readable) pages) (get_or out k d).0 ≡ Some (get_or out k d).1
delivered_at P pages readable out k d delivers there =
    let f : ℕ × ℕ → List ℕ = λ r. take r.1 (drop r.0 readable) in
    ap (λ (l : List (List ℕ)). slice_get l (get_or out k d).0) (maps pages) ∙ delivers.each k d there
  where
    maps : (ps : List ℕ) → map (λ (page : ℕ). page_at P page readable) ps ≡ bytes_of (page_ranges P ps) readable
    maps [] = refl
    maps (p ∷ ps) = ap (λ (l : List (List ℕ)). page_at P p readable ∷ l) (maps ps)

pub delivered_number : (P : ℕ) (pages readable : List ℕ) (out : List (ℕ × List ℕ)) (k : ℕ) (d : ℕ × List ℕ) → Delivers (page_ranges P pages) readable out → k < length out → (get_or out k d).0 < length pages
delivered_number P pages readable out k d delivers there =
    let h = slice_get_within (map (λ (page : ℕ). page_at P page readable) pages) (get_or out k d).0 (get_or out k d).1 (delivered_at P pages readable out k d delivers there) in
    let same : length (map (λ (page : ℕ). page_at P page readable) pages) ≡ length pages = lengths pages in
    omega (arith, h, same)
  where
    lengths : (ps : List ℕ) → length (map (λ (page : ℕ). page_at P page readable) ps) ≡ length ps
    lengths [] = refl
    lengths (p ∷ ps) = ap suc (lengths ps)

pub delivered_bytes : (P : ℕ) (pages readable : List ℕ) (out : List (ℕ × List ℕ)) (k : ℕ) (d : ℕ × List ℕ) (page : ℕ) → Delivers (page_ranges P pages) readable out → k < length out → slice_get pages (get_or out k d).0 ≡ Some page
    → (get_or out k d).1 ≡ page_at P page readable
delivered_bytes P pages readable out k d page delivers there is =
    same_Some (get_or out k d).1 (page_at P page readable) (sym (delivered_at P pages readable out k d delivers there) ∙ slice_get-map (λ (p : ℕ). page_at P p readable) pages (get_or out k d).0 ∙ ap (λ (o : Option ℕ). option_map (λ (p : ℕ). page_at P p readable) o) is)

-- a delivered page is whole
pub delivered_whole : (t : Tail) (pages readable : List ℕ) (out : List (ℕ × List ℕ)) → t.full_pages * (t.page_size + 12) ≤ length readable → All (λ page. page < t.full_pages) pages → Delivers (page_ranges t.page_size pages) readable out
    → All (IsDelivered t.page_size (length pages)) out
delivered_whole t pages readable out reach below delivers = λ k d there.
    let number = delivered_number t.page_size pages readable out k d delivers there in
    let page = get_or pages (get_or out k d).0 0 in
    let bytes = delivered_bytes t.page_size pages readable out k d page delivers there (slice_get-get_or pages (get_or out k d).0 0 number) in
    (number, ap length bytes ∙ length-page_at t page readable reach (below (get_or out k d).0 0 number))

-- one delivered page more is put
pub puts_more : (t : Tail) (cache between after : CacheState) (readable pages : List ℕ) (out : List (ℕ × List ℕ)) (k : ℕ) (bytes : List ℕ) (page : ℕ) → t.full_pages * (t.page_size + 12) ≤ length readable → between.page_size ≡ t.page_size
    → All (λ page. page < t.full_pages) pages → Delivers (page_ranges t.page_size pages) readable out → k < length out → ((d : ℕ × List ℕ) → (get_or out k d).1 ≡ bytes)
    → ((d : ℕ × List ℕ) → page ≡ get_or pages (get_or out k d).0 0) → Puts (t.id, page) (take t.page_size bytes) between after
    → PutsPages t.id (logical_bytes t readable) (delivered_pages pages (take k out)) cache between → PutsPages t.id (logical_bytes t readable) (delivered_pages pages (take (k + 1) out)) cache after
puts_more t cache between after readable pages out k bytes page reach size below delivers there bytes_is page_is puts before =
    let d : ℕ × List ℕ = (0, []) in
    let content = logical_bytes t readable in
    let number = delivered_number t.page_size pages readable out k d delivers there in
    let here : page ≡ get_or pages (get_or out k d).0 0 = page_is d in
    let less : page < t.full_pages = omega (arith, here, below (get_or out k d).0 0 number) in
    let is : bytes ≡ page_at t.page_size page readable =
    sym (bytes_is d) ∙ delivered_bytes t.page_size pages readable out k d page delivers there (slice_get-get_or pages (get_or out k d).0 0 number ∙ ap (λ (p : ℕ). Some p) (sym here)) in
    let payload : take t.page_size bytes ≡ page_of_content between.page_size content page =
    ap (λ (l : List ℕ). take t.page_size l) is ∙ payload_told t readable reach page less ∙ ap (λ (P : ℕ). page_of_content P content page) (sym size) in
    let one = puts_one t.id page content (take t.page_size bytes) between after payload puts in
    subst (λ (l : List ℕ). PutsPages t.id content l cache after) (sym (numbered_more pages out k d there))
    (puts_joins t.id content (delivered_pages pages (take k out)) (get_or pages (get_or out k d).0 0 ∷ []) cache between after before (subst (λ (p : ℕ). PutsPages t.id content (p ∷ []) between after) here one))

-- the pages that were put are full
pub kept_full : (sum : List ℕ → ℕ) (P : ℕ) (pages readable : List ℕ) (out : List (ℕ × List ℕ)) (k : ℕ) → Delivers (page_ranges P pages) readable out → ((j : ℕ) (d : ℕ × List ℕ) → j < k → value_len sum P (get_or out j d).1 ≡ P)
    → ArePagesFull sum P (take k (delivered_pages pages out)) readable
kept_full sum P pages readable out k delivers full = λ page (j, within, is).
    let d : ℕ × List ℕ = (0, []) in
    let f : ℕ × List ℕ → ℕ = λ r. get_or pages r.0 0 in
    let size = length-take k (delivered_pages pages out) in
    let less : j < k = omega (arith, within, size) in
    let there : j < length out = omega (arith, within, size, length-map out f) in
    let same : get_or pages (get_or out j d).0 0 ≡ page = sym (get_or-map f out j d page there) ∙ sym (get_or-take k (delivered_pages pages out) j page less) ∙ is in
    let number = delivered_number P pages readable out j d delivers there in
    let bytes = delivered_bytes P pages readable out j d page delivers there (slice_get-get_or pages (get_or out j d).0 0 number ∙ ap (λ (p : ℕ). Some p) same) in
    sym (ap (λ (l : List ℕ). value_len sum P l) bytes) ∙ full j d less

-- where a page is refused, those before it were put
pub puts_refused : (sum : List ℕ → ℕ) (t : Tail) (cache between after : CacheState) (pages readable : List ℕ) (out : List (ℕ × List ℕ)) (k : ℕ) → Delivers (page_ranges t.page_size pages) readable out
    → ((j : ℕ) (d : ℕ × List ℕ) → j < k → value_len sum t.page_size (get_or out j d).1 ≡ t.page_size) → PutsPages t.id (logical_bytes t readable) (delivered_pages pages (take k out)) cache between → after ≡ between → PutsFirst sum t (delivered_pages pages out) readable cache after
puts_refused sum t cache between after pages readable out k delivers full puts same = record {
  count = k;
  full = kept_full sum t.page_size pages readable out k delivers full;
  puts = subst (λ (l : List ℕ). PutsPages t.id (logical_bytes t readable) l cache after) (sym (numbered_first pages out k)) (subst (λ (c : CacheState). PutsPages t.id (logical_bytes t readable) (delivered_pages pages (take k out)) cache c) (sym same) puts);
}

-- a page that is refused isn't put
pub refused_not_put : (sum : List ℕ → ℕ) (P : ℕ) (key : ℕ × ℕ) (bytes : List ℕ) (old new : CacheState) (e : Error) → CachesFullPage sum P key bytes old new (Err e) → new ≡ old
refused_not_put sum P key bytes old new ReadFailed keeps = absurd keeps
refused_not_put sum P key bytes old new WriteFailed keeps = absurd keeps
refused_not_put sum P key bytes old new ResizeFailed keeps = absurd keeps
refused_not_put sum P key bytes old new SyncFailed keeps = absurd keeps
refused_not_put sum P key bytes old new InvalidChecksum keeps = keeps.1
refused_not_put sum P key bytes old new BlobInsufficientLength keeps = absurd keeps
refused_not_put sum P key bytes old new OffsetOverflow keeps = absurd keeps
refused_not_put sum P key bytes old new OutOfMemory keeps = absurd keeps
refused_not_put sum P key bytes old new IdsExhausted keeps = absurd keeps

-- ---- pieces that are copied

-- one piece more
pub told_more : (P : ℕ) (content : List ℕ) (lacks : List Lack) (i : ℕ) (d : Lack) (at : List ℕ) (out : List (ℕ × List ℕ)) (buf part first : List ℕ) (room : ℕ) → i < length lacks → CanPutPiece at out room (get_or lacks i d)
    → IsTold P content at out (get_or lacks i d) → part ≡ take ((get_or lacks i d).piece.skip + (get_or lacks i d).piece.len - (get_or lacks i d).piece.skip) (drop (get_or lacks i d).piece.skip (bytes_found at out (get_or lacks i d).number))
    → buf ≡ with_told P content (pieces_in (take i lacks)) first
    → put_mid (get_or lacks i d).piece.place ((get_or lacks i d).piece.place + (get_or lacks i d).piece.len - (get_or lacks i d).piece.place) buf part ≡ with_told P content (pieces_in (take (i + 1) lacks)) first
told_more P content lacks i d at out buf part first room there ready logical_bytes is before =
    let lack = get_or lacks i d in
    let piece = lack.piece in
    let found = bytes_found at out lack.number in
    let n : piece.skip + piece.len - piece.skip ≡ piece.len = omega arith in
    let many : length (take piece.len (drop piece.skip found)) ≡ piece.len = length-take-le piece.len (drop piece.skip found) (omega (arith, ready.within, length-drop piece.skip found)) in
    put_mid_is piece.place piece.len buf part (take piece.len (drop piece.skip found)) (is ∙ ap (λ (m : ℕ). take m (drop piece.skip found)) n) many
    ∙ ap (λ (l : List ℕ). put_at piece.place l buf) logical_bytes
    ∙ ap (λ (l : List ℕ). put_at piece.place (take piece.len (drop piece.skip (page_of_content P content piece.page))) l) before
    ∙ sym (told_push P content (pieces_in (take i lacks)) piece first)
    ∙ ap (λ (l : List Piece). with_told P content l first) (sym (map-append (λ (l : Lack). l.piece) (take i lacks) (lack ∷ [])) ∙ ap (λ (l : List Lack). pieces_in l) (sym (take_more lacks i d there)))

-- ---- all of them

-- the page of a number is found
found_number : (P : ℕ) (pages readable at : List ℕ) (out : List (ℕ × List ℕ)) (number : ℕ) (d : ℕ × List ℕ) → Delivers (page_ranges P pages) readable out → AreMarked at out (length out) → number < length pages
    → (get_or at number 0 < length out) × ((get_or out (get_or at number 0) d).0 ≡ number)
found_number P pages readable at out number d delivers marked there =
    let has = delivers.all number (omega (arith, there, length-page_ranges P pages)) in
    let k = has.0 in
    let less : k < length out = omega (arith, has.1, length-map out (λ (r : ℕ × List ℕ). r.0)) in
    let is : (get_or out k d).0 ≡ number = sym (get_or-map-at out k number d less) ∙ has.2 in
    let h = marked k d less in
    (subst (λ (n : ℕ). get_or at n 0 < length out) is h.0, subst (λ (n : ℕ). (get_or out (get_or at n 0) d).0 ≡ n) is h.1)
  where
    get_or-map-at : (xs : List (ℕ × List ℕ)) (k n : ℕ) (e : ℕ × List ℕ) → k < length xs → get_or (map (λ (r : ℕ × List ℕ). r.0) xs) k n ≡ (get_or xs k e).0
    get_or-map-at [] k n e less = absurd (omega arith)
    get_or-map-at (x ∷ xs) zero n e less = refl
    get_or-map-at (x ∷ xs) (suc k) n e less = get_or-map-at xs k n e (omega arith)

found_bytes : (P : ℕ) (pages readable at : List ℕ) (out : List (ℕ × List ℕ)) (number page : ℕ) → Delivers (page_ranges P pages) readable out → AreMarked at out (length out) → slice_get pages number ≡ Some page
    → bytes_found at out number ≡ page_at P page readable
found_bytes P pages readable at out number page delivers marked is =
    let d : ℕ × List ℕ = (0, []) in
    let h = found_number P pages readable at out number d delivers marked (slice_get_within pages number page is) in
    delivered_bytes P pages readable out (get_or at number 0) d page delivers h.0 (ap (λ (n : ℕ). slice_get pages n) h.1 ∙ is)

-- each piece can be copied
pub lacks_ready : (t : Tail) (pages readable at : List ℕ) (out : List (ℕ × List ℕ)) (room : ℕ) (lacks : List Lack) → t.full_pages * (t.page_size + 12) ≤ length readable → All (λ page. page < t.full_pages) pages → Delivers (page_ranges t.page_size pages) readable out
    → AreMarked at out (length out) → length at ≡ length pages → All (IsLack t.page_size pages room) lacks → All (CanPutPiece at out room) lacks
lacks_ready t pages readable at out room lacks reach below delivers marked long each = λ k d less.
    let lack = get_or lacks k d in
    let h = each k d less in
    let there = slice_get_within pages lack.number lack.piece.page h.page in
    let page_below : lack.piece.page < t.full_pages = subst (λ (p : ℕ). p < t.full_pages) (get_or_from_slice_get pages lack.number lack.piece.page 0 h.page) (below lack.number 0 there) in
    let found = found_bytes t.page_size pages readable at out lack.number lack.piece.page delivers marked h.page in
    record {
      number = omega (arith, there, long);
      found = (found_number t.page_size pages readable at out lack.number (0, []) delivers marked there).0;
      within = omega (arith, h.within, ap length found, length-page_at t lack.piece.page readable reach page_below);
      fits = h.fits;
    }

-- nothing is lacking where no page is read
pub no_lacks : (P room : ℕ) (pages : List ℕ) (lacks : List Lack) → pages ≡ [] → All (IsLack P pages room) lacks → lacks ≡ []
no_lacks P room pages [] none each = refl
no_lacks P room pages (lack ∷ lacks) none each =
    let there = slice_get_within pages lack.number lack.piece.page (each 0 lack (omega arith)).page in
    absurd (omega (arith, there, ap length none))

-- each piece that is lacking gets the content's bytes
pub lacks_told : (t : Tail) (pages readable at : List ℕ) (out : List (ℕ × List ℕ)) (room : ℕ) (lacks : List Lack) → t.full_pages * (t.page_size + 12) ≤ length readable → All (λ page. page < t.full_pages) pages → Delivers (page_ranges t.page_size pages) readable out
    → AreMarked at out (length out) → All (IsLack t.page_size pages room) lacks → All (IsTold t.page_size (logical_bytes t readable) at out) lacks
lacks_told t pages readable at out room lacks reach below delivers marked each = λ k d less.
    let lack = get_or lacks k d in
    let piece = lack.piece in
    let h = each k d less in
    let there = slice_get_within pages lack.number piece.page h.page in
    let page_below : piece.page < t.full_pages = subst (λ (p : ℕ). p < t.full_pages) (get_or_from_slice_get pages lack.number piece.page 0 h.page) (below lack.number 0 there) in
    ap (λ (l : List ℕ). take piece.len (drop piece.skip l)) (found_bytes t.page_size pages readable at out lack.number piece.page delivers marked h.page)
    ∙ sym (within_take piece.len piece.skip t.page_size (page_at t.page_size piece.page readable) h.within)
    ∙ ap (λ (l : List ℕ). take piece.len (drop piece.skip l)) (payload_told t readable reach piece.page page_below)

-- each page is full
pub pages_full : (sum : List ℕ → ℕ) (P : ℕ) (pages readable at : List ℕ) (out : List (ℕ × List ℕ)) → Delivers (page_ranges P pages) readable out → AreMarked at out (length out) → All (λ page. value_len sum P page.1 ≡ P) out
    → ArePagesFull sum P pages readable
pages_full sum P pages readable at out delivers marked full = λ page (number, there, is).
    let d : ℕ × List ℕ = (0, []) in
    let here : slice_get pages number ≡ Some page = slice_get-get_or pages number page there ∙ ap (λ (p : ℕ). Some p) is in
    let h = found_number P pages readable at out number d delivers marked there in
    sym (ap (λ (l : List ℕ). value_len sum P l) (found_bytes P pages readable at out number page delivers marked here)) ∙ full (get_or at number 0) d h.0

-- why a delivered page isn't kept
pub keeps_fault : (sum : List ℕ → ℕ) (P : ℕ) (pages : List ℕ) (out : List (ℕ × List ℕ)) (old new : Life) (e : Error) → Delivers (page_ranges P pages) old.present.readable out → NoneFailed old.present new.present → KeepsFault sum P out e → PagesFault sum P pages old new e
keeps_fault sum P pages out old new ReadFailed delivers none fault = absurd fault
keeps_fault sum P pages out old new WriteFailed delivers none fault = fault
keeps_fault sum P pages out old new ResizeFailed delivers none fault = fault
keeps_fault sum P pages out old new SyncFailed delivers none fault = fault
keeps_fault sum P pages out old new InvalidChecksum delivers none (k, there, unfull) =
    let d : ℕ × List ℕ = (0, []) in
    let number = (get_or out k d).0 in
    let less = delivered_number P pages old.present.readable out k d delivers there in
    let page = get_or pages number 0 in
    (page, (number, less, get_or_default pages number page 0 less), (λ full. unfull d (ap (λ (l : List ℕ). value_len sum P l) (delivered_bytes P pages old.present.readable out k d page delivers there (slice_get-get_or pages number 0 less)) ∙ full)), none)
keeps_fault sum P pages out old new BlobInsufficientLength delivers none fault = fault
keeps_fault sum P pages out old new OffsetOverflow delivers none fault = fault
keeps_fault sum P pages out old new OutOfMemory delivers none fault = none
keeps_fault sum P pages out old new IdsExhausted delivers none fault = fault

-- ---- the same under other names

pub delivers_same : (P : ℕ) (pages pages_there readable readable_there : List ℕ) (out out_there : List (ℕ × List ℕ)) → pages_there ≡ pages → readable_there ≡ readable → out_there ≡ out → Delivers (page_ranges P pages) readable out
    → Delivers (page_ranges P pages_there) readable_there out_there
delivers_same P pages pages_there readable readable_there out out_there same_pages same_readable same_out delivers =
    subst (λ (l : List (ℕ × List ℕ)). Delivers (page_ranges P pages_there) readable_there l) (sym same_out)
    (subst (λ (r : List ℕ). Delivers (page_ranges P pages_there) r out) (sym same_readable)
    (subst (λ (ps : List ℕ). Delivers (page_ranges P ps) readable out) (sym same_pages) delivers))

pub whole_same : (P : ℕ) (pages pages_there : List ℕ) (out out_there : List (ℕ × List ℕ)) → pages_there ≡ pages → out_there ≡ out → All (IsDelivered P (length pages)) out → All (IsDelivered P (length pages_there)) out_there
whole_same P pages pages_there out out_there same_pages same_out whole =
    subst (λ (l : List (ℕ × List ℕ)). All (IsDelivered P (length pages_there)) l) (sym same_out) (subst (λ (ps : List ℕ). All (IsDelivered P (length ps)) out) (sym same_pages) whole)

pub ready_same : (at at_there : List ℕ) (out out_there : List (ℕ × List ℕ)) (room : ℕ) (lacks lacks_there : List Lack) → at_there ≡ at → out_there ≡ out → lacks_there ≡ lacks → All (CanPutPiece at out room) lacks → All (CanPutPiece at_there out_there room) lacks_there
ready_same at at_there out out_there room lacks lacks_there same_at same_out same_lacks ready =
    subst (λ (l : List Lack). All (CanPutPiece at_there out_there room) l) (sym same_lacks)
    (subst (λ (o : List (ℕ × List ℕ)). All (CanPutPiece at_there o room) lacks) (sym same_out) (subst (λ (a : List ℕ). All (CanPutPiece a out room) lacks) (sym same_at) ready))

pub told_same : (P : ℕ) (content at at_there : List ℕ) (out out_there : List (ℕ × List ℕ)) (lacks lacks_there : List Lack) → at_there ≡ at → out_there ≡ out → lacks_there ≡ lacks → All (IsTold P content at out) lacks → All (IsTold P content at_there out_there) lacks_there
told_same P content at at_there out out_there lacks lacks_there same_at same_out same_lacks logical_bytes =
    subst (λ (l : List Lack). All (IsTold P content at_there out_there) l) (sym same_lacks)
    (subst (λ (o : List (ℕ × List ℕ)). All (IsTold P content at_there o) lacks) (sym same_out) (subst (λ (a : List ℕ). All (IsTold P content a out) lacks) (sym same_at) logical_bytes))

pub marked_same : (at : List ℕ) (out out_there : List (ℕ × List ℕ)) → out_there ≡ out → AreMarked at out_there (length out_there) → AreMarked at out (length out)
marked_same at out out_there same marked = subst (λ (o : List (ℕ × List ℕ)). AreMarked at o (length o)) same marked
