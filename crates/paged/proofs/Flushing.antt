-- What a flush writes, and that offsets still fit.
use Rattle.std.proofs.Common.{◌≡◌, ℕ, ◌+◌, ◌*◌, ◌-◌, ◌/◌, ◌%◌, ◌<◌, ◌≤◌, ◌^◌, List, [], ◌++◌, length, take, drop, refl, sym, ap, ◌∙◌, subst, arith, append-nil, length-drop, inl, inr, Bool, true, false, min}
use Rattle.std.proofs.Math.Nat.{mod-lt, div-zero, div-add-mod', mod-eq_of_lt, div-eq_of_lt, mul-div_cancel, mul-le-mul_right, add-mul, zero-mul}
use Rattle.std.proofs.lemmas.List.{take_all, length-take-le}
use Rattle.std.specs.Prelude.{Option, not, ◌==◌, ◌&&◌}
use Rattle.std.specs.Int.{div_ceil}
use Rattle.std.specs.List.{concat}
use Rattle.page.specs.Tip.{ArePages}
use Rattle.page.specs.declared.slot.ActiveChecksum.{ActiveChecksum}
use Rattle.writer_state.specs.WriterState.{WriterState}
use Rattle.crash.specs.Built.{built, page_of, durable_after, written_pages}
use Rattle.paged.specs.Writer.{physical_blob_size, FitsBlob}
use Rattle.writer_state.specs.Sound.{CanWrite}
use Rattle.crash.proofs.BuiltLaws.{length-built}
use Rattle.paged.specs.Flush.{full_in, rest_of, rest_bytes, has_work, after_flush, flush_bytes, footers_of, with_footers, offset_of}
use Rattle.std.proofs.lemmas.Bool.Decides.{nat_tests}
use Rattle.std.proofs.lemmas.Nat.{le-div}
use Rattle.std.proofs.lemmas.Bool.{cases_lt}
use Rattle.paged.proofs.Building.{built-take, built-suc}
use Rattle.paged.proofs.Footers.{length-pages, with_footers-built}

-- what is left of a tip after its full pages is less than a page
pub length-rest : (w : WriterState) → length (rest_of w) ≡ length w.tip % w.page_size
length-rest w = rw length-drop (omega (arith, div-add-mod' (length w.tip) w.page_size))

-- the full pages, and the rest
pub flush_bytes-by_rest : (sum : List ℕ → ℕ) (w : WriterState) (rest : Bool) → 0 < w.page_size
    → built sum w.page_size w.durable (full_in w) w.tip ++ rest_bytes sum w rest ≡ flush_bytes sum w rest
flush_bytes-by_rest sum w false some = append-nil (built sum w.page_size w.durable (full_in w) w.tip)
flush_bytes-by_rest sum w true some =
    let short : length (rest_of w) ≤ w.page_size = omega (arith, length-rest w, mod-lt (length w.tip) some) in
    sym (built-suc sum w.page_size w.durable (full_in w) w.tip
    ∙ ap (λ rest. built sum w.page_size w.durable (full_in w) w.tip ++ page_of sum w.page_size (durable_after w.durable (full_in w)) rest) (take_all w.page_size (rest_of w) short))

-- a tip's full pages have whole pages
pub length-full : (w : WriterState) → length (take (full_in w * w.page_size) w.tip) ≡ full_in w * w.page_size
length-full w = length-take-le (full_in w * w.page_size) w.tip (omega (arith, div-add-mod' (length w.tip) w.page_size))

-- the page of a tip that has no full pages
pub rest_bytes-short : (sum : List ℕ → ℕ) (w : WriterState) → length w.tip < w.page_size → rest_bytes sum w true ≡ page_of sum w.page_size w.durable w.tip
rest_bytes-short sum w short = ap (λ k. page_of sum w.page_size (durable_after w.durable k) (drop (k * w.page_size) w.tip)) (div-eq_of_lt short) ∙ ap (λ n. page_of sum w.page_size w.durable (drop n w.tip)) (zero-mul w.page_size)

-- the page of what is left, where the full pages were taken out of the tip
pub short_drained : (w : WriterState) → 0 < w.page_size → length (rest_of w) < w.page_size
short_drained w some = omega (arith, length-rest w, mod-lt (length w.tip) some)

rest_bytes-drained : (sum : List ℕ → ℕ) (w : WriterState) (flushed : Option ActiveChecksum) (rest : Bool) → 0 < w.page_size → rest_bytes sum (after_flush w flushed w.sync) rest ≡ rest_bytes sum w rest
rest_bytes-drained sum w flushed false some = refl
rest_bytes-drained sum w flushed true some = rest_bytes-short sum (after_flush w flushed w.sync) (short_drained w some)

-- the full pages that a flush writes, as a program builds them
pub pages-drained : (sum : List ℕ → ℕ) (w : WriterState) (durable : Option ActiveChecksum) (pages : List (List ℕ)) → 0 < w.page_size → durable ≡ w.durable
    → ArePages w.page_size pages → concat pages ≡ take (full_in w * w.page_size) w.tip
    → with_footers pages (footers_of sum durable pages) ≡ built sum w.page_size w.durable (full_in w) w.tip
pages-drained sum w durable pages some slot are is =
    let bytes : length pages * w.page_size ≡ full_in w * w.page_size = sym (length-pages w.page_size pages are) ∙ ap length is ∙ length-full w in
    let count : length pages ≡ full_in w = sym (mul-div_cancel (length pages) some) ∙ ap (λ n. n / w.page_size) bytes ∙ mul-div_cancel (full_in w) some in
    with_footers-built sum w.page_size durable pages are
    ∙ (λ i. built sum w.page_size (slot i) (count i) (is i))
    ∙ built-take sum w.page_size w.durable (full_in w) w.tip

-- and then the page of the rest, as a program builds it
pub flush_bytes-drained : (sum : List ℕ → ℕ) (w v : WriterState) (flushed : Option ActiveChecksum) (rest : Bool) → 0 < w.page_size → v ≡ after_flush w flushed w.sync
    → built sum w.page_size w.durable (full_in w) w.tip ++ rest_bytes sum v rest ≡ flush_bytes sum w rest
flush_bytes-drained sum w v flushed rest some state =
    ap (λ (u : WriterState). built sum w.page_size w.durable (full_in w) w.tip ++ rest_bytes sum u rest) state
    ∙ ap (λ b. built sum w.page_size w.durable (full_in w) w.tip ++ b) (rest_bytes-drained sum w flushed rest some)
    ∙ flush_bytes-by_rest sum w rest some

-- a tip without full pages is as it is without them
pub none_full : (w : WriterState) → length w.tip < w.page_size → 0 ≡ full_in w
none_full w short = sym (div-eq_of_lt short)

pub built-none : (sum : List ℕ → ℕ) (w : WriterState) (bufs : List (List ℕ)) → length w.tip < w.page_size → bufs ≡ [] → concat bufs ≡ built sum w.page_size w.durable (full_in w) w.tip
built-none sum w bufs short is = ap concat is ∙ ap (λ k. built sum w.page_size w.durable k w.tip) (none_full w short)

pub advanced-none : (w : WriterState) → length w.tip < w.page_size → w ≡ after_flush w (durable_after w.flushed (full_in w)) w.sync
advanced-none w short =
    let none = none_full w short in
    let pages : w.full_pages ≡ w.full_pages + full_in w = omega (arith, none) in
    let rest : w.tip ≡ rest_of w = ap (λ n. drop n w.tip) (sym (zero-mul w.page_size)) ∙ ap (λ k. drop (k * w.page_size) w.tip) none in
    let flushed : w.flushed ≡ durable_after w.flushed (full_in w) = ap (durable_after w.flushed) none in
    let durable : w.durable ≡ durable_after w.durable (full_in w) = ap (durable_after w.durable) none in
    λ i. record w { full_pages = pages i; tip = rest i; flushed = flushed i; durable = durable i }

-- pages that are taken off the front of some bytes are counted off
pub div_ceil-rest : (n r P : ℕ) → 0 < P → r ≡ n - n / P * P → n / P + div_ceil r P ≡ div_ceil n P
div_ceil-rest n r P some is =
    let small : r < P = omega (arith, div-add-mod' n P, mod-lt n some) in
    let same : r ≡ n % P = omega (arith, div-add-mod' n P) in
    omega (arith, div-eq_of_lt small, mod-eq_of_lt small, ap (λ x. min 1 x) same)

-- the physical size of a blob, with pages that are counted off
pub fits-rest : (P full n r : ℕ) → 0 < P → r ≡ n - n / P * P → physical_blob_size P (full + n / P) r ≡ physical_blob_size P full n
fits-rest P full n r some is = ap (λ pages. pages * (P + 12)) (omega (arith, div_ceil-rest n r P some is))

-- a flush writes no more pages than the tip has
pages_at_most : (w : WriterState) (rest : Bool) → 0 < w.page_size → CanWrite w.page_size w.tip (full_in w) rest → written_pages (full_in w) rest ≤ div_ceil (length w.tip) w.page_size
pages_at_most w false some can = omega arith
pages_at_most w true some can = omega (arith, div-add-mod' (length w.tip) w.page_size, mod-lt (length w.tip) some)

-- where something can be written pages have some bytes
pub can_some : (w : WriterState) (rest : Bool) → CanWrite w.page_size w.tip (full_in w) rest → 0 < w.page_size
can_some w rest can = elim (cases_lt 0 w.page_size) [ inl some ↦ some | inr none ↦ absurd (nothing w rest (omega (arith, none)) can) ]
  where
    nothing : (w : WriterState) (rest : Bool) → w.page_size ≡ 0 → CanWrite w.page_size w.tip (full_in w) rest → ⊥
    nothing w false none can = omega (arith, can.0, ap (λ n. length w.tip / n) none, div-zero (length w.tip))
    nothing w true none can = omega (arith, can.1, ap (λ n. (full_in w + 1) * n) none)

-- the offsets of a flush are numbers of 64 bits
pub flush_fits : (sum : List ℕ → ℕ) (w : WriterState) (rest : Bool) → 0 < w.page_size → CanWrite w.page_size w.tip (full_in w) rest → FitsBlob w.page_size w.full_pages (length w.tip)
    → offset_of w + length (flush_bytes sum w rest) < 2 ^ 64
flush_fits sum w rest some can fits =
    let n = written_pages (full_in w) rest in
    let pages : w.full_pages + n ≤ w.full_pages + div_ceil (length w.tip) w.page_size = omega (arith, pages_at_most w rest some can) in
    let bytes : (w.full_pages + n) * (w.page_size + 12) ≤ physical_blob_size w.page_size w.full_pages (length w.tip) = mul-le-mul_right (w.page_size + 12) pages in
    omega (arith, length-built sum w.page_size w.durable n w.tip, add-mul w.full_pages n (w.page_size + 12), bytes, fits)

-- a full page can be written
pub can_flush : (w : WriterState) → 0 < w.page_size → has_work w false ≡ true → CanWrite w.page_size w.tip (full_in w) false
can_flush w some work =
    let enough : w.page_size ≤ length w.tip = grind (arith, nat_tests, work) in
    let one : 1 ≤ full_in w = le-div 1 (length w.tip) w.page_size some (omega arith) in
    (omega arith, omega (arith, div-add-mod' (length w.tip) w.page_size))

-- what a sync has to write can be written
pub can_sync : (w : WriterState) (rest : Bool) → 0 < w.page_size → has_work w true ≡ true → rest ≡ not (length w.tip % w.page_size == 0) → CanWrite w.page_size w.tip (full_in w) rest
can_sync w false some work is =
    let enough : w.page_size ≤ length w.tip = grind (arith, nat_tests, work, is) in
    let one : 1 ≤ full_in w = le-div 1 (length w.tip) w.page_size some (omega arith) in
    (omega arith, omega (arith, div-add-mod' (length w.tip) w.page_size))
can_sync w true some work is =
    let left : 0 < length w.tip % w.page_size = grind (arith, nat_tests, is) in
    (omega (arith, div-add-mod' (length w.tip) w.page_size), omega (arith, div-add-mod' (length w.tip) w.page_size, mod-lt (length w.tip) some))

-- what a sync has to write can be written, where the rest is written if it is asked for and there
-- is some
pub can_flush_rest : (w : WriterState) (rest after : Bool) → 0 < w.page_size → has_work w rest ≡ true → after ≡ (rest && not (length w.tip % w.page_size == 0)) → CanWrite w.page_size w.tip (full_in w) after
can_flush_rest w false after some work is = subst (λ (b : Bool). CanWrite w.page_size w.tip (full_in w) b) (sym is) (can_flush w some work)
can_flush_rest w true after some work is = can_sync w after some work is
