-- Reads of bytes in a file, of which the digests of their pages are known.
use Rattle.std.proofs.Common.{◌≡◌, ◌<◌, ◌≤◌, ◌*◌, ◌+◌, ◌-◌, ◌/◌, ◌%◌, ◌∙◌, ℕ, List, [], ◌∷◌, ◌++◌, length}
use Rattle.std.proofs.Common.{take, drop, ap, refl, sym, subst, inl, inr, arith, append-nil, append_assoc, length-append, true, false, true≢false}
use Rattle.std.specs.Prelude.{Option, Some, None, IfSome, Ok, Err, slice_range}
use Rattle.std.proofs.lemmas.List.{length-drop, length-take-le, take_all}
use Rattle.std.proofs.lemmas.Nat.{div-add-mod'}
use Rattle.std.proofs.Math.Nat.{mod-lt}
use Rattle.std.proofs.lemmas.Slice.{overwrites, take-put_mid}
use borrow.Rule.Slice.PartMut.{put_mid}
use Rattle.page_digests.specs.declared.error.Error.{Error}
use Rattle.page_digests.specs.declared.error.Error.TheVariants.{Damaged, OutOfMemory, System}
use Rattle.page_digests.specs.PagedBytes.{BytesGoes, BytesLoadGoes, BytesPageFails, BytesState, CopiesPiece, CopyGoes, FetchGoes, IsCopying, IsKnown, IsPagedBytes, IsPageOf, IsPageRefused, IsPageWrong, IsSameBytes}
use Rattle.page_digests.specs.Pages.{digest_at, content_page, page_len, range_at}
use Rattle.page_digests.specs.Reads.{IsReadOn, IsTouched, pages_touched}
use Rattle.page_digests.specs.Buffers.{ComparesGoes}
use Rattle.page_digests.specs.Sources.{EndsWithRead, SourceRead, refused}
use Rattle.page_digests.proofs.Costs.{read_on, touched_more}
use Rattle.page_digests.proofs.Paging.{length-page_at, page_below}
use Rattle.page_digests.proofs.Pieces.{joined, range_at-none}
use Rattle.page_digests.proofs.Twins.{judged}
use Rattle.page_digests.proofs.Verified.{digest_listed}

-- the top has a digest of each page
pub top_has : (d : List ℕ → List ℕ) (u s : BytesState) (j : ℕ) → u ≡ s → IsPagedBytes d u → j * s.page_size < s.len → j * 32 + 32 ≤ length u.top
top_has d u s j same is within =
    let here : j * u.page_size < u.len = subst (λ (v : BytesState). j * v.page_size < v.len) (sym same) within in
    let below = page_below u.page_size u.len j is.positive here in
    omega (arith, is.top, below)

same_bytes : (s : BytesState) → IsSameBytes s s
same_bytes s = record { start = refl; len = refl; page_size = refl; top = refl; reads = ([], sym (append-nil s.reads)) }

-- one read more
pub one_more : (old new : List SourceRead) (last : SourceRead) → new ≡ old ++ last ∷ [] → length new ≤ length old + 1
one_more old new last is =
    let both : length (old ++ last ∷ []) ≡ length old + 1 = length-append old (last ∷ []) in
    let len : length new ≡ length (old ++ last ∷ []) = ap length is in
    omega arith

-- it is read
pub page_fetched : (d : List ℕ → List ℕ) (u s : BytesState) (j n : ℕ) (digest page : List ℕ) (reads : List SourceRead) → u ≡ s
    → ComparesGoes d (u.start + j * u.page_size) n digest u.reads reads page (Ok true)
    → FetchGoes d j s (record u { cached = Some j; page = page; reads = reads }) (Ok tt)
page_fetched d u s j n digest page reads same goes =
    subst (λ (v : BytesState). FetchGoes d j v (record u { cached = Some j; page = page; reads = reads }) (Ok tt)) same (record {
      same = record { start = refl; len = refl; page_size = refl; top = refl; reads = (_, goes.0) };
      calls = one_more u.reads reads _ goes.0;
      held = refl;
      answers = refl;
    })

-- the one read of a call is its last
pub one_read : (old new : List SourceRead) (last : SourceRead) → new ≡ old ++ last ∷ [] → EndsWithRead old new last
one_read old new last is = ([], is ∙ ap (λ (l : List SourceRead). l ++ last ∷ []) (sym (append-nil old)))

-- and the last read of a call is that of one that began before it
pub read_after : (old mid new more : List SourceRead) (last : SourceRead) → mid ≡ old ++ more → EndsWithRead mid new last → EndsWithRead old new last
read_after old mid new more last since (rest, is) = (
  more ++ rest,
  is ∙ ap (λ (l : List SourceRead). l ++ rest ++ last ∷ []) since ∙ ap (λ (l : List SourceRead). l ++ last ∷ []) (append_assoc old more rest),
)

-- it is wrong
pub page_wrong : (d : List ℕ → List ℕ) (u s : BytesState) (j n : ℕ) (digest page : List ℕ) (reads : List SourceRead) → u ≡ s
    → n ≡ page_len s.page_size s.len j → digest ≡ digest_at j s.top → ComparesGoes d (u.start + j * u.page_size) n digest u.reads reads page (Ok false)
    → FetchGoes d j s (record u { cached = None; page = page; reads = reads }) (Err Damaged)
page_wrong d u s j n digest page reads same len its goes =
    subst (λ (v : BytesState). n ≡ page_len v.page_size v.len j → digest ≡ digest_at j v.top → FetchGoes d j v (record u { cached = None; page = page; reads = reads }) (Err Damaged)) same
    (wrong goes) len its
  where
    wrong : ComparesGoes d (u.start + j * u.page_size) n digest u.reads reads page (Ok false) → n ≡ page_len u.page_size u.len j → digest ≡ digest_at j u.top
        → FetchGoes d j u (record u { cached = None; page = page; reads = reads }) (Err Damaged)
    wrong (read, long, small, compared) count is = record {
      same = record { start = refl; len = refl; page_size = refl; top = refl; reads = (_, read) };
      calls = one_more u.reads reads _ read;
      held = refl;
      answers = (page, one_read u.reads reads _ read, long ∙ count, λ e. true≢false (sym (compared.1 (e ∙ sym is))));
    }

-- it can't be read
pub page_refused : (d : List ℕ → List ℕ) (u s : BytesState) (j n : ℕ) (digest page : List ℕ) (reads : List SourceRead) (e : Error) → u ≡ s
    → n ≡ page_len s.page_size s.len j → ComparesGoes d (u.start + j * u.page_size) n digest u.reads reads page (Err e)
    → FetchGoes d j s (record u { cached = None; page = page; reads = reads }) (Err e)
page_refused d u s j n digest page reads e same len goes =
    subst (λ (v : BytesState). n ≡ page_len v.page_size v.len j → FetchGoes d j v (record u { cached = None; page = page; reads = reads }) (Err e)) same (by_error e goes) len
  where
    by_error : (e : Error) → ComparesGoes d (u.start + j * u.page_size) n digest u.reads reads page (Err e) → n ≡ page_len u.page_size u.len j
        → FetchGoes d j u (record u { cached = None; page = page; reads = reads }) (Err e)
    by_error Damaged none count = absurd none
    by_error (System x) read count = record {
      same = record { start = refl; len = refl; page_size = refl; top = refl; reads = (_, read) };
      calls = one_more u.reads reads _ read;
      held = refl;
      answers = subst (λ (k : ℕ). EndsWithRead u.reads reads (refused (u.start + j * u.page_size) k)) count (one_read u.reads reads _ read);
    }
    by_error OutOfMemory none count = record {
      same = record { start = refl; len = refl; page_size = refl; top = refl; reads = ([], none ∙ sym (append-nil u.reads)) };
      calls = let e : length reads ≡ length u.reads = ap length none in omega arith;
      held = refl;
      answers = tt;
    }

-- ---- pieces

its_page : (d : List ℕ → List ℕ) (v : BytesState) (j : ℕ) → IsPagedBytes d v → v.cached ≡ Some j → IsPageOf d v j v.page
its_page d v j is there = subst (λ (cached : Option ℕ). IfSome cached (λ k. IsPageOf d v k v.page)) there is.page

-- the page that was read last is one of all bytes with these digests
pub cached_known : (d : List ℕ → List ℕ) → ((b : List ℕ) → length (d b) ≡ 32) → (v : BytesState) (j : ℕ) → IsPagedBytes d v → v.cached ≡ Some j
    → IsKnown d v.page_size v.len v.top (content_page v.page_size j) v.page
cached_known d sized v j is there all len listed =
    let page : IsPageOf d v j v.page = its_page d v j is there in
    let within : j * v.page_size < length all = subst (λ (n : ℕ). j * v.page_size < n) (sym len) page.within in
    let long : length v.page ≡ length (content_page v.page_size j all) = page.len ∙ ap (λ (n : ℕ). page_len v.page_size n j) (sym len) ∙ sym (length-page_at v.page_size j all) in
    let its : d v.page ≡ d (content_page v.page_size j all) = page.digest ∙ ap (digest_at j) (sym listed) ∙ digest_listed d sized v.page_size j all is.positive within in
    elim (judged d v.page (content_page v.page_size j all) page.are_bytes long its) [
      | inl same ↦ inl same
      | inr twin ↦ inr (j, v.page, within, twin)
    ]

-- how many bytes of a buffer are copied over
pub part_len : (bytes : List ℕ) (done n k : ℕ) → done + n ≤ length bytes → k ≡ n → length (take k (drop done bytes)) ≡ n
part_len bytes done n k fits count =
    let rest : length (drop done bytes) ≡ length bytes - done = length-drop done bytes in
    let enough : k ≤ length (drop done bytes) = omega arith in
    length-take-le k (drop done bytes) enough ∙ count

-- a page can't be had
pub copy_failed : (d : List ℕ → List ℕ) (s t : BytesState) (at done z : ℕ) (bytes : List ℕ) (e : Error) → z ≡ s.page_size → BytesLoadGoes d (at / z) s t (Err e)
    → CopyGoes d at done s t bytes bytes (Err e)
copy_failed d s t at done z bytes e size goes =
    let is : BytesLoadGoes d (at / s.page_size) s t (Err e) = subst (λ (k : ℕ). BytesLoadGoes d (at / k) s t (Err e)) size goes in
    record { same = is.same; len = refl; calls = is.calls; held = is.held; answers = is.answers }

-- bytes of a page, behind those that were copied
known_more : (d : List ℕ → List ℕ) (P len : ℕ) (top : List ℕ) (offset done n i skip : ℕ) (out page : List ℕ) → skip + n ≤ P → i * P + skip ≡ offset + done
    → IsKnown d P len top (range_at offset done) out → IsKnown d P len top (content_page P i) page → IsKnown d P len top (range_at offset (done + n)) (out ++ take n (drop skip page))
known_more d P len top offset done n i skip out page fits at outs pages all long listed =
    elim (outs all long listed) [
      | inr twin ↦ inr twin
      | inl begin ↦
          elim (pages all long listed) [
            | inr twin ↦ inr twin
            | inl its ↦ inl (joined P all offset done n i skip out page fits at begin its)
          ]
    ]

-- what is known of some bytes is known of the same ones after a read
known_before : (d : List ℕ → List ℕ) (s t : BytesState) (of : (P : ℕ) → List ℕ → List ℕ) (bytes : List ℕ) → IsSameBytes s t → IsKnown d t.page_size t.len t.top (of t.page_size) bytes
    → IsKnown d s.page_size s.len s.top (of s.page_size) bytes
known_before d s t of bytes same known =
    subst (λ (P : ℕ). IsKnown d P s.len s.top (of P) bytes) same.page_size
    (subst (λ (n : ℕ). IsKnown d t.page_size n s.top (of t.page_size) bytes) same.len
    (subst (λ (top : List ℕ). IsKnown d t.page_size t.len top (of t.page_size) bytes) same.top known))

-- a piece is copied
pub copy_done : (d : List ℕ → List ℕ) → ((b : List ℕ) → length (d b) ≡ 32) → (s t v : BytesState) (at done n z k : ℕ) (bytes piece : List ℕ) → z ≡ s.page_size → v ≡ t → IsPagedBytes d v
    → BytesLoadGoes d (at / z) s t (Ok tt) → 0 < n → done + n ≤ length bytes → at % z + n ≤ z → length piece ≡ n → k ≡ n
    → piece ≡ slice_range v.page (at % z) (at % z + n) → CopyGoes d at done s t bytes (put_mid done k bytes piece) (Ok n)
copy_done d sized s t v at done n z k bytes piece size same is goes some fits room len count its = record {
  same = goes.same;
  len = all_of_it;
  calls = goes.calls;
  held = λ held. goes.held (held ∙ ap (λ (P : ℕ). Some (at / P)) (sym size));
  answers = (some, fits, subst (λ (P : ℕ). at % P + n ≤ P) size room, goes.answers ∙ ap (λ (P : ℕ). Some (at / P)) size, copies);
}
  where
    starts : done ≤ length bytes
    starts = omega arith

    all_of_it : length (put_mid done k bytes piece) ≡ length bytes
    all_of_it = grind (arith, overwrites)

    page : IsKnown d s.page_size s.len s.top (content_page s.page_size (at / z)) v.page
    page =
        let there : v.cached ≡ Some (at / z) = ap (λ (w : BytesState). w.cached) same ∙ goes.answers in
        let here : IsKnown d v.page_size v.len v.top (content_page v.page_size (at / z)) v.page = cached_known d sized v (at / z) is there in
        known_before d s t (λ (P : ℕ). content_page P (at / z)) v.page goes.same
        (subst (λ (w : BytesState). IsKnown d w.page_size w.len w.top (content_page w.page_size (at / z)) v.page) same here)

    copies : CopiesPiece d s at done n bytes (put_mid done k bytes piece)
    copies start begin before =
        let front : take (done + n) (put_mid done k bytes piece) ≡ take done bytes ++ piece =
        take-put_mid done k bytes piece (done + n) (omega (arith, len)) starts in
        let span : at % z + n - at % z ≡ n = omega arith in
        let is_piece : piece ≡ take n (drop (at % z) v.page) = its ∙ ap (λ (m : ℕ). take m (drop (at % z) v.page)) span in
        let fits_here : at % z + n ≤ s.page_size = omega arith in
        let place : at / z * s.page_size + at % z ≡ start + done = ap (λ (P : ℕ). at / z * P + at % z) (sym size) ∙ div-add-mod' at z ∙ sym begin in
        subst (IsKnown d s.page_size s.len s.top (range_at start (done + n))) (sym (front ∙ ap (λ (l : List ℕ). take done bytes ++ l) is_piece))
        (known_more d s.page_size s.len s.top start done n (at / z) (at % z) (take done bytes) v.page fits_here place before page)

-- ---- a range

pub copy_begins : (d : List ℕ → List ℕ) (at len : ℕ) (s : BytesState) (bytes : List ℕ) → length bytes ≡ len → IsCopying d at len s s 0 bytes
copy_begins d at len s bytes long = record {
  within = omega arith;
  len = long;
  same = same_bytes s;
  known = λ all _ _. inl (range_at-none all at);
  reads_on = λ from count base begin is.
      let e : count ≡ count + 0 = omega arith in subst (λ (k : ℕ). IsReadOn s.page_size from k base (length s.reads) s.cached) e is;
}

-- the same bytes after two calls
pub bytes_after : (s t u : BytesState) → IsSameBytes s t → IsSameBytes t u → IsSameBytes s u
bytes_after s t u one other = record {
  start = other.start ∙ one.start;
  len = other.len ∙ one.len;
  page_size = other.page_size ∙ one.page_size;
  top = other.top ∙ one.top;
  reads = (one.reads.0 ++ other.reads.0, other.reads.1 ∙ ap (λ (l : List SourceRead). l ++ other.reads.0) one.reads.1 ∙ append_assoc s.reads one.reads.0 other.reads.0);
}

-- a piece more
pub copy_more : (d : List ℕ → List ℕ) (at len : ℕ) (s t u : BytesState) (done n : ℕ) (before after : List ℕ) → 0 < s.page_size → IsCopying d at len s t done before
    → CopyGoes d (at + done) done t u before after (Ok n) → IsCopying d at len s u (done + n) after
copy_more d at len s t u done n before after positive is goes = record {
  within = let fits = goes.answers.1 in omega (arith, is.len, fits);
  len = goes.len ∙ is.len;
  same = bytes_after s t u is.same goes.same;
  known = known_before d s t (λ (P : ℕ). range_at at (done + n)) (take (done + n) after) is.same
      (goes.answers.4 at refl (known_after is.known));
  reads_on = λ from count base begin first.
      let place : from + (count + done) ≡ at + done = omega arith in
      let all : count + done + n ≡ count + (done + n) = omega arith in
      let room : (from + (count + done)) % s.page_size + n ≤ s.page_size =
      subst (λ (k : ℕ). k % s.page_size + n ≤ s.page_size) (sym place) (subst (λ (P : ℕ). (at + done) % P + n ≤ P) is.same.page_size goes.answers.2) in
      let here : (at + done) / t.page_size ≡ (from + (count + done)) / s.page_size =
      ap (λ (P : ℕ). (at + done) / P) is.same.page_size ∙ ap (λ (k : ℕ). k / s.page_size) (sym place) in
      subst (λ (k : ℕ). IsReadOn s.page_size from k base (length u.reads) u.cached) all
      (read_on s.page_size from (count + done) n base (length t.reads) (length u.reads) t.cached u.cached positive (is.reads_on from count base begin first) goes.answers.0 room
      (goes.answers.3 ∙ ap Some here) goes.calls (λ held. let e : length u.reads ≡ length t.reads = ap length (goes.held (held ∙ ap Some (sym here))) in omega arith));
}
  where
    known_after : IsKnown d s.page_size s.len s.top (range_at at done) (take done before) → IsKnown d t.page_size t.len t.top (range_at at done) (take done before)
    known_after known =
        subst (λ (P : ℕ). IsKnown d P t.len t.top (range_at at done) (take done before)) (sym is.same.page_size)
        (subst (λ (n : ℕ). IsKnown d s.page_size n t.top (range_at at done) (take done before)) (sym is.same.len)
        (subst (λ (top : List ℕ). IsKnown d s.page_size s.len top (range_at at done) (take done before)) (sym is.same.top) known))

-- the page of a byte of a range is one that it touches
byte_touches : (P at len done : ℕ) → 0 < P → done < len → IsTouched P at len ((at + done) / P)
byte_touches P at len done positive below =
    let split : (at + done) / P * P + (at + done) % P ≡ at + done = div-add-mod' (at + done) P in
    let small : (at + done) % P < P = mod-lt (at + done) positive in
    (omega arith, omega arith)

-- a page that failed since a call began failed in it
pub page_fails_before : (d : List ℕ → List ℕ) (j : ℕ) (s t : BytesState) (new : List SourceRead) (e : Error) → IsSameBytes s t → BytesPageFails d t j t.reads new e → BytesPageFails d s j s.reads new e
page_fails_before d j s t new Damaged same (bytes, last, len, differ) =
    subst (λ (P : ℕ). IsPageWrong d (record s { page_size = P }) j s.reads new) same.page_size
    (subst (λ (start : ℕ). IsPageWrong d (record s { page_size = t.page_size; start = start }) j s.reads new) same.start
    (subst (λ (n : ℕ). IsPageWrong d (record s { page_size = t.page_size; start = t.start; len = n }) j s.reads new) same.len
    (subst (λ (top : List ℕ). IsPageWrong d (record s { page_size = t.page_size; start = t.start; len = t.len; top = top }) j s.reads new) same.top
    (bytes, read_after s.reads t.reads new same.reads.0 _ same.reads.1 last, len, differ))))
page_fails_before d j s t new (System x) same last =
    subst (λ (P : ℕ). IsPageRefused (record s { page_size = P }) j s.reads new) same.page_size
    (subst (λ (start : ℕ). IsPageRefused (record s { page_size = t.page_size; start = start }) j s.reads new) same.start
    (subst (λ (n : ℕ). IsPageRefused (record s { page_size = t.page_size; start = t.start; len = n }) j s.reads new) same.len
    (read_after s.reads t.reads new same.reads.0 _ same.reads.1 last)))
page_fails_before d j s t new OutOfMemory same fails = tt

-- a page can't be had
pub read_failed : (d : List ℕ → List ℕ) (at : ℕ) (s t u : BytesState) (done : ℕ) (whole before after : List ℕ) (e : Error) → 0 < s.page_size → done < length before
    → IsCopying d at (length whole) s t done before → CopyGoes d (at + done) done t u before after (Err e) → BytesGoes d at s u whole after (Err e)
read_failed d at s t u done whole before after e positive below is goes =
    record { same = bytes_after s t u is.same goes.same; len = goes.len ∙ is.len; reads_on = λ from count base begin first. (ends from count base begin first, tt); answers = ((at + done) / s.page_size, touched, fails) }
  where
    ends : (from count base : ℕ) → from + count ≡ at → IsReadOn s.page_size from count base (length s.reads) s.cached → length u.reads ≤ base + pages_touched s.page_size from (count + length whole)
    ends from count base begin first =
        let place : from + (count + done) ≡ at + done = omega arith in
        let one : 0 < 1 = omega arith in
        let small : (from + (count + done)) % s.page_size < s.page_size = mod-lt (from + (count + done)) positive in
        let here : (at + done) / t.page_size ≡ (from + (count + done)) / s.page_size =
        ap (λ (P : ℕ). (at + done) / P) is.same.page_size ∙ ap (λ (k : ℕ). k / s.page_size) (sym place) in
        let next = read_on s.page_size from (count + done) 1 base (length t.reads) (length u.reads) t.cached (Some ((from + (count + done)) / s.page_size)) positive (is.reads_on from count base begin first) one
        (omega arith) refl goes.calls (λ held. let e : length u.reads ≡ length t.reads = ap length (goes.held (held ∙ ap Some (sym here))) in omega arith) in
        let more = touched_more s.page_size from (count + done + 1) (count + length whole) positive (omega (arith, is.len)) in
        omega (arith, next.calls, more)

    touched : IsTouched s.page_size at (length after) ((at + done) / s.page_size)
    touched = byte_touches s.page_size at (length after) done positive (omega (arith, goes.len))

    fails : BytesPageFails d s ((at + done) / s.page_size) s.reads u.reads e
    fails =
        subst (λ (P : ℕ). BytesPageFails d s ((at + done) / P) s.reads u.reads e) is.same.page_size
        (page_fails_before d ((at + done) / t.page_size) s t u.reads e is.same goes.answers)

-- all of a range is copied
pub range_copied : (d : List ℕ → List ℕ) (at : ℕ) (s t : BytesState) (done : ℕ) (whole bytes : List ℕ) → length bytes ≤ done → IsCopying d at (length whole) s t done bytes
    → BytesGoes d at s t whole bytes (Ok tt)
range_copied d at s t done whole bytes all is =
    record { same = is.same; len = is.len; reads_on = λ from count base begin first. ((whole_on from count base begin first).calls, whole_on from count base begin first); answers = its }
  where
    count_is : done ≡ length whole
    count_is = omega (arith, is.within, is.len)

    whole_on : (from count base : ℕ) → from + count ≡ at → IsReadOn s.page_size from count base (length s.reads) s.cached → IsReadOn s.page_size from (count + length whole) base (length t.reads) t.cached
    whole_on from count base begin first =
        subst (λ (k : ℕ). IsReadOn s.page_size from (count + k) base (length t.reads) t.cached) count_is (is.reads_on from count base begin first)

    its : IsKnown d s.page_size s.len s.top (range_at at (length bytes)) bytes
    its =
        let long : done ≡ length bytes = omega (arith, is.within, is.len) in
        subst (λ (k : ℕ). IsKnown d s.page_size s.len s.top (range_at at k) bytes) long
        (subst (IsKnown d s.page_size s.len s.top (range_at at done)) (take_all done bytes (omega arith)) is.known)
