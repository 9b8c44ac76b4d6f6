-- What keeps a writer in accord with what is readable: a flush, a sync, a longer tip, the durable
-- slot brought up to date; and what makes a writer accord with it.
use Rattle.std.proofs.Common.{◌≡◌, inl, inr, ℕ, zero, suc, ◌+◌, ◌-◌, ◌*◌, ◌^◌, ◌<◌, ◌≤◌, List, [], ◌∷◌, ◌++◌, length, take, drop, sym, ◌∙◌, ap, subst, arith, append_assoc, length-append, length-drop, take-append-drop}
use Rattle.std.specs.Prelude.{slice_get, Option, Some, None, Bool, true, false}
use Rattle.std.specs.List.{flat_map}
use Rattle.std.proofs.lemmas.List.{take-take, take_all, append-nil, take-append-le, length-take-le}
use Rattle.std.proofs.lemmas.Option.{same_Some}
use Rattle.std.proofs.lemmas.Grind.{flat_map-append}
use Rattle.std.proofs.Math.Nat.{mul-le-mul_left}
use Rattle.disk.specs.Disk.{Disk, Operation, HasOperated, applied, Request, coverings, AreCovered}
use Rattle.disk.specs.Disk.Operation.{Write}
use Rattle.page.specs.Slot.{other}
use Rattle.page.specs.Page.{pages, slot_of, value_len, text, active}
use Rattle.page.specs.declared.slot.ActiveChecksum.{ActiveChecksum}
use Rattle.writer_state.specs.WriterState.{WriterState, after_write}
use Rattle.writer_state.specs.declared.sync_state.SyncState.{SyncState}
use Rattle.writer_state.specs.declared.sync_state.SyncState.TheVariants.{Clean, Dirty, Pending}
use Rattle.crash.specs.Full.{AreFull}
use Rattle.crash.specs.Distinct.{DurableTells}
use Rattle.crash.specs.Built.{kept_slot, kept_len, page_of, built_pages, built, durable_after, rest_written, written_pages}
use Rattle.crash.specs.Contents.{latest, stored}
use Rattle.writer_state.specs.Sound.{content, HasTipPage, TipPage, StateFits, StartsFit, MayFlush, IsWrittenOut, CanWrite, IsIntact}
use Rattle.crash.specs.Started.{AllSettled}
use Rattle.crash.proofs.Disks.{latest-append}
use Rattle.crash.proofs.Lists.{take_past, drop_past, within_append, slice_get-append_right}
use Rattle.crash.proofs.Pages.{length-stored, stored_within, length-offset, length-rewritten, pages_of_rewritten, pages_at, fewer_fit, take-pages, length-pieces}
use Rattle.crash.proofs.Texts.{AreFull-append, text_exact, text_of_part, AreBytes, active_is, active_slot}
use Rattle.crash.proofs.BuiltLaws.{IsSmall, length-built, pieces-built, built_pages_at, take-built_pages, built_payloads, built_full, value_len_of, page_begins, slot_new}

-- the blob ends with the pages below the tip, or with the tip's page
pub tip_reach : (sum : List ℕ → ℕ) (P full : ℕ) (tip readable : List ℕ) (flushed : Option ActiveChecksum) → TipPage sum P full tip readable flushed
    → (full * (P + 12) ≤ length readable) × (length readable ≤ (full + 1) * (P + 12))
tip_reach sum P full tip readable None is = (omega arith, omega arith)
tip_reach sum P full tip readable (Some f) is = (omega (arith, is.size), omega (arith, is.size))

-- at least one page is written, and as many as were cut off the tip
pub written_some : (P k : ℕ) (tip : List ℕ) (rest : Bool) → CanWrite P tip k rest → (0 < written_pages k rest) × (k ≤ written_pages k rest) × (k * P ≤ length tip)
written_some P k tip false can = (can.0, omega arith, can.1)
written_some P k tip true can = (omega arith, omega arith, omega (arith, can.0))

-- a flush begins within the blob, and ends at its end or after
pub flush_reach : (sum : List ℕ → ℕ) (P full k : ℕ) (tip readable : List ℕ) (flushed : Option ActiveChecksum) (rest : Bool) → TipPage sum P full tip readable flushed → CanWrite P tip k rest
    → (full * (P + 12) ≤ length readable) × (length readable ≤ (full + written_pages k rest) * (P + 12))
flush_reach sum P full k tip readable flushed rest is can =
    let m = written_pages k rest in
    let reach = tip_reach sum P full tip readable flushed is in
    let one = written_some P k tip rest can in
    let more : (P + 12) * (full + 1) ≤ (P + 12) * (full + m) = mul-le-mul_left (P + 12) (let le : full + 1 ≤ full + m = omega (arith, one.0) in le) in
    (reach.0, omega (arith, more, reach.1))

module _ (sum : List ℕ → ℕ) (P q m : ℕ) (durable : Option ActiveChecksum) (tip old : List ℕ) (begins : q * (P + 12) ≤ length old) (ends : length old ≤ (q + m) * (P + 12)) where
  abbrev bytes : List ℕ
  bytes = built sum P durable m tip

  abbrev written : List ℕ
  written = applied (Write (q * (P + 12)) (built sum P durable m tip)) old

  size : length bytes ≡ m * (P + 12)
  size = length-built sum P durable m tip

  reach : length old ≤ q * (P + 12) + length bytes
  reach = omega (arith, size)

  -- the length after a flush
  pub length-written : length written ≡ (q + m) * (P + 12)
  length-written = length-rewritten P q m bytes old size begins reach

  -- the pages after a flush
  pub pages_written : pages P written ≡ take q (pages P old) ++ built_pages sum P durable m tip
  pages_written = pages_of_rewritten P q m bytes old size begins reach ∙ ap (λ (l : List (List ℕ)). take q (pages P old) ++ l) (pieces-built sum P durable m tip)

  length_front : length (take q (pages P old)) ≡ q
  length_front = ap length (take-pages P q old begins) ∙ length-pieces q (P + 12) old

  -- the first pages after a flush
  pub first_written : (k : ℕ) → k ≤ m → take (q + k) (pages P written) ≡ take q (pages P old) ++ built_pages sum P durable k tip
  first_written k le =
      let front = take q (pages P old) in
      ap (λ (l : List (List ℕ)). take (q + k) l) pages_written
      ∙ take_past (q + k) front (built_pages sum P durable m tip) (omega (arith, length_front))
      ∙ ap (λ (n : ℕ). front ++ take n (built_pages sum P durable m tip)) (let e : q + k - length front ≡ k = omega (arith, length_front) in e)
      ∙ ap (λ (l : List (List ℕ)). front ++ l) (take-built_pages sum P durable k m tip le)

  -- a page that a flush wrote
  pub page_written : (k : ℕ) → k < m → take (P + 12) (drop ((q + k) * (P + 12)) written) ≡ page_of sum P (durable_after durable k) (take P (drop (k * P) tip))
  page_written k lt =
      let front = take q (pages P old) in
      let back = built_pages sum P durable m tip in
      let fits : (q + k + 1) * (P + 12) ≤ length written = fewer_fit P (q + k + 1) (q + m) written (omega arith) (omega (arith, length-written)) in
      same_Some _ _ (
      sym (pages_at P (q + k) written fits)
      ∙ ap (λ (l : List (List ℕ)). slice_get l (q + k)) pages_written
      ∙ slice_get-append_right front back (q + k) (omega (arith, length_front))
      ∙ ap (λ (n : ℕ). slice_get back n) (let e : q + k - length front ≡ k = omega (arith, length_front) in e)
      ∙ built_pages_at sum P durable m k tip lt
      )

  -- the payloads after a flush of whole chunks
  pub stored_written : (k : ℕ) → k ≤ m → k * P ≤ length tip → stored P (q + k) written ≡ stored P q old ++ take (k * P) tip
  stored_written k le fits =
      ap (λ (l : List (List ℕ)). flat_map (take P) l) (first_written k le)
      ∙ flat_map-append (take P) (take q (pages P old)) (built_pages sum P durable k tip)
      ∙ ap (λ (l : List ℕ). stored P q old ++ l) (built_payloads sum P durable k tip fits)

-- the slot that a flush repeats fits the new tip: once full pages were written there is no such
-- slot
pub kept_after : (sum : List ℕ → ℕ) (P k : ℕ) (durable : Option ActiveChecksum) (tip : List ℕ) → kept_len durable ≤ P → kept_len durable ≤ length tip → DurableTells sum tip durable
    → (kept_len (durable_after durable k) ≤ P) × (kept_len (durable_after durable k) ≤ length (drop (k * P) tip)) × DurableTells sum (drop (k * P) tip) (durable_after durable k)
kept_after sum P zero durable tip a b c = let e : 0 * P ≡ 0 = omega arith in rw e (a, b, c)
kept_after sum P (suc k) durable tip a b c = (omega arith, omega arith, tt)

-- ---- started syncs

-- what is settled is settled on a disk like this one
pub all_settled_alike : (d e : Disk) → coverings e ≡ coverings d → e.settled ≡ d.settled → AllSettled d → AllSettled e
all_settled_alike d e covers settled all name c is = omega (arith, all name c (ap (λ (cs : List (ℕ × List ℕ)). slice_get cs name) (sym covers) ∙ is), settled)

-- where a flush may begin, each started sync is settled
pub flush_settled : (d : Disk) (s : SyncState) (flushed durable : Option ActiveChecksum) → MayFlush s flushed durable → StartsFit d s → AllSettled d
flush_settled d Clean flushed durable ready starts = starts
flush_settled d Dirty flushed durable ready starts = starts
flush_settled d (Pending name) flushed durable ready starts = absurd ready

-- a state fits a disk that is alike
pub starts_alike : (d e : Disk) (s : SyncState) → e.readable ≡ d.readable → e.since ≡ d.since → coverings e ≡ coverings d → e.settled ≡ d.settled → StartsFit d s → StartsFit e s
starts_alike d e Clean same since covers settled starts = all_settled_alike d e covers settled starts
starts_alike d e Dirty same since covers settled starts = all_settled_alike d e covers settled starts
starts_alike d e (Pending name) same since covers settled starts = record {
  covers = starts.covers;
  named = ap (λ (cs : List (ℕ × List ℕ)). slice_get cs name) covers ∙ starts.named;
  all = omega (arith, starts.all, settled, ap length since);
  bytes = starts.bytes ∙ sym same;
  others = λ other c is. elim (starts.others other c (ap (λ (cs : List (ℕ × List ℕ)). slice_get cs other) (sym covers) ∙ is)) [
    | inl done ↦ inl (omega (arith, done, settled))
    | inr same ↦ inr same
  ];
}

-- each started sync covers at most what there is
pub starts_within : (d : Disk) (s : SyncState) → StartsFit d s → AreCovered d
starts_within d Clean starts name c is = omega (arith, starts name c is)
starts_within d Dirty starts name c is = omega (arith, starts name c is)
starts_within d (Pending pending) starts name c is = elim (starts.others name c is) [
  | inl done ↦ omega (arith, done)
  | inr same ↦
      let here : starts.covers ≡ c = same_Some starts.covers c (sym starts.named ∙ ap (λ (n : ℕ). slice_get (coverings d) n) (sym same) ∙ is) in
      omega (arith, starts.all, ap (λ (x : ℕ × List ℕ). x.0) here)
]

-- where nothing is unsynced each started sync is settled
pub rest_settled : (d : Disk) → AreCovered d → d.since ≡ [] → AllSettled d
rest_settled d within none name c is = omega (arith, within name c is, ap length none)

-- once all is settled each started sync is
pub settled_starts : (d e : Disk) → AreCovered d → coverings e ≡ coverings d → e.settled ≡ d.settled + length d.since → AllSettled e
settled_starts d e within covers settled name c is = omega (arith, within name c (ap (λ (cs : List (ℕ × List ℕ)). slice_get cs name) (sym covers) ∙ is), settled)

-- the tip's page after a flush of whole pages alone, or of the rest too
tip_after : (sum : List ℕ → ℕ) (w : WriterState) (old : List ℕ) (k : ℕ) (rest : Bool) → IsSmall sum → 0 < w.page_size → w.page_size < 2 ^ 16
    → (kept_len w.durable ≤ w.page_size) × (kept_len w.durable ≤ length w.tip) × DurableTells sum w.tip w.durable → CanWrite w.page_size w.tip k rest
    → w.full_pages * (w.page_size + 12) ≤ length old → length old ≤ (w.full_pages + written_pages k rest) * (w.page_size + 12)
    → TipPage sum w.page_size (w.full_pages + k) (drop (k * w.page_size) w.tip) (applied (Write (w.full_pages * (w.page_size + 12)) (built sum w.page_size w.durable (written_pages k rest) w.tip)) old)
    (rest_written sum (durable_after w.durable k) (drop (k * w.page_size) w.tip) rest)
tip_after sum w old k false small some small_page carries can begins ends = length-written sum w.page_size w.full_pages k w.durable w.tip old begins ends
tip_after sum w old k true small some small_page carries can begins ends =
    let P = w.page_size in
    let q = w.full_pages in
    let chunk = drop (k * P) w.tip in
    let d = durable_after w.durable k in
    let new = applied (Write (q * (P + 12)) (built sum P w.durable (suc k) w.tip)) old in
    let length_chunk : length chunk ≡ length w.tip - k * P = length-drop (k * P) w.tip in
    let within : length chunk ≤ P = omega (arith, length_chunk, can.1) in
    let starts : 0 < length chunk = omega (arith, length_chunk, can.0) in
    let kept = kept_after sum P k w.durable w.tip carries.0 carries.1 carries.2 in
    let page : take (P + 12) (drop ((q + k) * (P + 12)) new) ≡ page_of sum P d chunk =
    page_written sum P q (suc k) w.durable w.tip old begins ends k (omega arith) ∙ ap (λ (l : List ℕ). page_of sum P d l) (take_all P chunk within) in
    record {
      size = length-written sum P q (suc k) w.durable w.tip old begins ends ∙ (let e : (q + suc k) * (P + 12) ≡ (q + k + 1) * (P + 12) = omega arith in e);
      some = starts;
      there = omega arith;
      part = omega (arith, length_chunk, can.1);
      crc = ap sum (sym (take_all (length chunk) chunk (omega arith)));
      value = ap (λ (l : List ℕ). value_len sum P l) page ∙ value_len_of sum P d chunk small small_page starts within kept.1;
      begins = sym (take-take (length chunk) (P + 12) (drop ((q + k) * (P + 12)) new) (omega (arith, within)))
          ∙ ap (λ (l : List ℕ). take (length chunk) l) page
          ∙ page_begins sum P d chunk within
          ∙ sym (take_all (length chunk) chunk (omega arith));
      slot = ap (λ (l : List ℕ). slot_of P (other (kept_slot d)) l) page ∙ slot_new sum P d chunk within;
    }

module _ (sum : List ℕ → ℕ) (w : WriterState) (d e : Disk) (k : ℕ) (rest : Bool) (bytes : List ℕ) (small : IsSmall sum) (stands : IsWrittenOut sum w d) (can : CanWrite w.page_size w.tip k rest)
    (is : bytes ≡ built sum w.page_size w.durable (written_pages k rest) w.tip)
    (readable : e.readable ≡ applied (Write (w.full_pages * (w.page_size + 12)) bytes) d.readable) where
  known : e.readable ≡ applied (Write (w.full_pages * (w.page_size + 12)) (built sum w.page_size w.durable (written_pages k rest) w.tip)) d.readable
  known = readable ∙ ap (λ (l : List ℕ). applied (Write (w.full_pages * (w.page_size + 12)) l) d.readable) is

  begins : w.full_pages * (w.page_size + 12) ≤ length d.readable
  begins = (flush_reach sum w.page_size w.full_pages k w.tip d.readable w.flushed rest stands.tip_page can).0

  ends : length d.readable ≤ (w.full_pages + written_pages k rest) * (w.page_size + 12)
  ends = (flush_reach sum w.page_size w.full_pages k w.tip d.readable w.flushed rest stands.tip_page can).1

  -- a flush keeps the content
  pub flush_content : content (after_write sum w k rest) e.readable ≡ content w d.readable
  flush_content =
      let P = w.page_size in
      let one = written_some P k w.tip rest can in
      ap (λ (l : List ℕ). stored P (w.full_pages + k) l ++ drop (k * P) w.tip) known
      ∙ ap (λ (l : List ℕ). l ++ drop (k * P) w.tip) (stored_written sum P w.full_pages (written_pages k rest) w.durable w.tip d.readable begins ends k one.1 one.2)
      ∙ append_assoc (stored P w.full_pages d.readable) (take (k * P) w.tip) (drop (k * P) w.tip)
      ∙ ap (λ (l : List ℕ). stored P w.full_pages d.readable ++ l) (take-append-drop (k * P) w.tip)

  -- after a flush that is done the writer fits what is readable then
  pub flush_stands : e.base ≡ d.base → e.since ≡ d.since ++ Write (w.full_pages * (w.page_size + 12)) bytes ∷ [] → AllSettled e → IsWrittenOut sum (after_write sum w k rest) e
  flush_stands base since settled =
      let P = w.page_size in
      let q = w.full_pages in
      let one = written_some P k w.tip rest can in
      record {
        some = stands.some;
        small = stands.small;
        done = readable ∙ ap (λ (l : List ℕ). applied (Write (q * (P + 12)) bytes) l) stands.done
            ∙ sym (latest-append d.base d.since (Write (q * (P + 12)) bytes ∷ []))
            ∙ sym (cc (base, since));
        tip_page = subst (λ (l : List ℕ). TipPage sum P (q + k) (drop (k * P) w.tip) l (rest_written sum (durable_after w.durable k) (drop (k * P) w.tip) rest)) (sym known)
            (tip_after sum w d.readable k rest small stands.some stands.small stands.carries can begins ends);
        state = tt;
        starts = settled;
        carries = kept_after sum P k w.durable w.tip stands.carries.0 stands.carries.1 stands.carries.2;
      }

  -- the pages that a flush writes are full, and where those below the tip were, all below the new
  -- tip are
  pub flush_full : IsIntact sum w d → IsIntact sum (after_write sum w k rest) e
  flush_full full =
      let P = w.page_size in
      let q = w.full_pages in
      let one = written_some P k w.tip rest can in
      let front = take q (pages P d.readable) in
      let pages_front : take (q + k) (pages P e.readable) ≡ front ++ built_pages sum P w.durable k w.tip =
      ap (λ (l : List ℕ). take (q + k) (pages P l)) known ∙ first_written sum P q (written_pages k rest) w.durable w.tip d.readable begins ends k one.1 in
      subst (λ (l : List (List ℕ)). AreFull sum P l) (sym pages_front)
      (AreFull-append sum P front (built_pages sum P w.durable k w.tip) full (built_full sum P w.durable k w.tip small stands.some stands.small stands.carries.0 one.2))

  -- after a write that the device did the writer fits what is readable then
  pub operated_stands : (request : Request) → MayFlush w.sync w.flushed w.durable → HasOperated (Write (w.full_pages * (w.page_size + 12)) bytes) request false d e → IsWrittenOut sum (after_write sum w k rest) e
  operated_stands request ready done =
      flush_stands (ap (λ (x : Disk). x.base) done.rest) (ap (λ (x : Disk). x.since) done.rest)
      (all_settled_alike d e (ap (λ (x : Disk). coverings x) done.rest) (ap (λ (x : Disk). x.settled) done.rest) (flush_settled d w.sync w.flushed w.durable ready stands.starts))

-- ---- the same bytes in another state

-- a state that fits a disk fits one like it
pub fits_alike : (d e : Disk) (s : SyncState) → e.readable ≡ d.readable → e.base ≡ d.base → e.since ≡ d.since → StateFits d s → StateFits e s
fits_alike d e Clean same base since fits = (since ∙ fits.0, base ∙ fits.1 ∙ sym same)
fits_alike d e Dirty same base since fits = tt
fits_alike d e (Pending name) same base since fits = tt

-- each state fits a disk with nothing unsynced
settled_fits : (d : Disk) (s : SyncState) → d.since ≡ [] → d.base ≡ d.readable → StateFits d s
settled_fits d Clean since base = (since, base)
settled_fits d Dirty since base = tt
settled_fits d (Pending name) since base = tt

-- the tip's page is also that of a longer tip
longer_tip : (sum : List ℕ → ℕ) (P full : ℕ) (tip more readable : List ℕ) (flushed : Option ActiveChecksum) → TipPage sum P full tip readable flushed → TipPage sum P full (tip ++ more) readable flushed
longer_tip sum P full tip more readable None is = is
longer_tip sum P full tip more readable (Some f) is =
    let same : take f.len tip ≡ take f.len (tip ++ more) = sym (take-append-le f.len tip more is.there) in
    record {
      size = is.size;
      some = is.some;
      there = omega (arith, length-append tip more, is.there);
      part = is.part;
      crc = is.crc ∙ ap sum same;
      value = is.value;
      begins = is.begins ∙ same;
      slot = is.slot;
    }

-- the slot that was flushed last has the length and the checksum of a beginning of the tip
pub flushed_fits : (sum : List ℕ → ℕ) (P full : ℕ) (tip readable : List ℕ) (flushed : Option ActiveChecksum) → TipPage sum P full tip readable flushed → (kept_len flushed ≤ P) × (kept_len flushed ≤ length tip) × DurableTells sum tip flushed
flushed_fits sum P full tip readable None is = (omega arith, omega arith, tt)
flushed_fits sum P full tip readable (Some f) is = (omega (arith, is.part), is.there, is.crc)

-- a slot of a beginning of the tip is one of a longer tip
pub tells_longer : (sum : List ℕ → ℕ) (tip more : List ℕ) (durable : Option ActiveChecksum) → kept_len durable ≤ length tip → DurableTells sum tip durable → DurableTells sum (tip ++ more) durable
tells_longer sum tip more None few tells = tt
tells_longer sum tip more (Some f) few tells = tells ∙ ap sum (sym (take-append-le f.len tip more few))

module _ (sum : List ℕ → ℕ) (w : WriterState) (d e : Disk) (stands : IsWrittenOut sum w d) (same : e.readable ≡ d.readable) where
  -- whether a writer fits what is readable depends on the bytes, and on what of them is durable
  pub state_stands : (s : SyncState) → e.readable ≡ latest e.base e.since → StateFits e s → StartsFit e s → IsWrittenOut sum (record w { sync = s }) e
  state_stands s done fits starts = record {
    some = stands.some;
    small = stands.small;
    done = done;
    tip_page = subst (λ (l : List ℕ). TipPage sum w.page_size w.full_pages w.tip l w.flushed) (sym same) stands.tip_page;
    state = fits;
    starts = starts;
    carries = stands.carries;
  }

  -- after a sync that is done a clean writer fits what is readable
  pub settle_stands : (s : SyncState) → e.base ≡ d.readable → e.since ≡ [] → StartsFit e s → IsWrittenOut sum (record w { sync = s }) e
  settle_stands s base since starts = state_stands s (same ∙ sym base ∙ ap (λ (os : List Operation). latest e.base os) (sym since)) (settled_fits e s since (base ∙ sym same)) starts

  -- on a disk with the same readable bytes the content is the same
  pub alike_content : content w e.readable ≡ content w d.readable
  alike_content = ap (λ (l : List ℕ). content w l) same

-- ---- a writer that knows more

module _ (sum : List ℕ → ℕ) (w : WriterState) (d : Disk) (stands : IsWrittenOut sum w d) where
  -- a writer with a longer tip still fits what is readable
  pub longer_stands : (more : List ℕ) → IsWrittenOut sum (record w { tip = w.tip ++ more }) d
  longer_stands more = record {
    some = stands.some;
    small = stands.small;
    done = stands.done;
    tip_page = longer_tip sum w.page_size w.full_pages w.tip more d.readable w.flushed stands.tip_page;
    state = stands.state;
    starts = stands.starts;
    carries = (stands.carries.0, omega (arith, length-append w.tip more, stands.carries.1), tells_longer sum w.tip more w.durable stands.carries.1 stands.carries.2);
  }

  -- a longer tip makes the content longer
  pub longer_content : (more : List ℕ) → content (record w { tip = w.tip ++ more }) d.readable ≡ content w d.readable ++ more
  longer_content more = sym (append_assoc (stored w.page_size w.full_pages d.readable) w.tip more)

  -- a flush may repeat the slot that was flushed last
  pub carry_stands : IsWrittenOut sum (record w { durable = w.flushed }) d
  carry_stands = record {
    some = stands.some;
    small = stands.small;
    done = stands.done;
    tip_page = stands.tip_page;
    state = stands.state;
    starts = stands.starts;
    carries = flushed_fits sum w.page_size w.full_pages w.tip d.readable w.flushed stands.tip_page;
  }

-- ---- from what is readable

module _ (sum : List ℕ → ℕ) (w : WriterState) (d : Disk) (since : d.since ≡ []) (base : d.base ≡ d.readable) (some : 0 < w.page_size) (small : w.page_size < 2 ^ 16)
    (carried : w.durable ≡ w.flushed) where
  -- with nothing unsynced a writer that knows the blob's pages fits what is readable
  pub settled_stands : StartsFit d w.sync → TipPage sum w.page_size w.full_pages w.tip d.readable w.flushed → IsWrittenOut sum w d
  settled_stands starts tip_page = record {
    some = some;
    small = small;
    done = sym base ∙ ap (λ (os : List Operation). latest d.base os) (sym since);
    tip_page = tip_page;
    state = settled_fits d w.sync since base;
    starts = starts;
    carries = rw carried (flushed_fits sum w.page_size w.full_pages w.tip d.readable w.flushed tip_page);
  }

  -- where the blob ends with a full page, a writer that buffers nothing fits it
  pub exact_stands : StartsFit d w.sync → w.flushed ≡ None → length d.readable ≡ w.full_pages * (w.page_size + 12) → IsWrittenOut sum w d
  exact_stands starts none size = settled_stands starts (subst (λ (f : Option ActiveChecksum). TipPage sum w.page_size w.full_pages w.tip d.readable f) (sym none) size)

module _ (sum : List ℕ → ℕ) (w : WriterState) (d : Disk) (since : d.since ≡ []) (base : d.base ≡ d.readable) (some : 0 < w.page_size) (small : w.page_size < 2 ^ 16)
    (full : IsIntact sum w d) (carried : w.durable ≡ w.flushed) where
  -- where the pages are full and nothing is buffered, the content is the text
  pub exact_content : w.tip ≡ [] → length d.readable ≡ w.full_pages * (w.page_size + 12) → content w d.readable ≡ text sum w.page_size d.readable
  exact_content empty size =
      ap (λ (l : List ℕ). stored w.page_size w.full_pages d.readable ++ l) empty
      ∙ append-nil (stored w.page_size w.full_pages d.readable)
      ∙ sym (text_exact sum w.page_size w.full_pages d.readable full size)

-- the last page has a value that is not full: it is the tip's page
pub has_page : (sum : List ℕ → ℕ) (P full : ℕ) (tip readable : List ℕ) (a : ActiveChecksum) → length readable ≡ (full + 1) * (P + 12)
    → AreBytes (take (P + 12) (drop (full * (P + 12)) readable))
    → active sum P (take (P + 12) (drop (full * (P + 12)) readable)) ≡ Some a → a.len < P
    → tip ≡ take a.len (drop (full * (P + 12)) readable) → HasTipPage sum P full tip readable a
has_page sum P full tip readable a size are is part tip_is =
    let rest = drop (full * (P + 12)) readable in
    let page = take (P + 12) rest in
    let told = active_is sum P page a is in
    let fits : (full + 1) * (P + 12) ≤ length readable = omega (arith, size) in
    let long : length rest ≡ P + 12 = omega (arith, length-drop (full * (P + 12)) readable, size) in
    let length_tip : length tip ≡ a.len = ap length tip_is ∙ length-take-le a.len rest (omega (arith, long)) in
    let begins : take a.len tip ≡ tip = take_all a.len tip (omega (arith, length_tip)) in
    let of_page : take a.len page ≡ take a.len rest = take-take a.len (P + 12) rest (omega arith) in
    record {
      size = size;
      some = told.some;
      there = omega (arith, length_tip);
      part = part;
      crc = told.crc ∙ ap sum (of_page ∙ sym tip_is ∙ sym begins);
      value = sym told.len;
      begins = sym tip_is ∙ sym begins;
      slot = active_slot sum P page a (length-offset P full readable fits) are is;
    }

-- where the last page is the tip's, and the pages below it are full, the content is the text
pub page_content : (sum : List ℕ → ℕ) (w : WriterState) (readable : List ℕ) (a : ActiveChecksum) → AreFull sum w.page_size (take w.full_pages (pages w.page_size readable))
    → (w.full_pages + 1) * (w.page_size + 12) ≤ length readable
    → active sum w.page_size (take (w.page_size + 12) (drop (w.full_pages * (w.page_size + 12)) readable)) ≡ Some a → a.len < w.page_size
    → w.tip ≡ take a.len (drop (w.full_pages * (w.page_size + 12)) readable) → content w readable ≡ text sum w.page_size readable
page_content sum w readable a full fits is part tip_is =
    let P = w.page_size in
    let rest = drop (w.full_pages * (P + 12)) readable in
    let page = take (P + 12) rest in
    let told = active_is sum P page a is in
    ap (λ (l : List ℕ). stored P w.full_pages readable ++ l) (tip_is ∙ sym (take-take a.len (P + 12) rest (omega arith)) ∙ ap (λ (n : ℕ). take n page) told.len)
    ∙ sym (text_of_part sum P w.full_pages readable full fits (omega (arith, told.len)))

-- ---- the content by its offsets

module _ (w : WriterState) (readable : List ℕ) (reach : w.full_pages * (w.page_size + 12) ≤ length readable) where
  -- the content is as long as the full pages' payloads and the tip
  pub length-content : length (content w readable) ≡ w.full_pages * w.page_size + length w.tip
  length-content = omega (arith, length-append (stored w.page_size w.full_pages readable) w.tip, length-stored w.page_size w.full_pages readable reach)

  -- a part of the content in a full page stands in that page
  pub content_in_page : (p i n : ℕ) → p < w.full_pages → i + n ≤ w.page_size → take n (drop (p * w.page_size + i) (content w readable)) ≡ take n (drop (p * (w.page_size + 12) + i) readable)
  content_in_page p i n lt fits =
      let P = w.page_size in
      let joined = stored P w.full_pages readable in
      let more : P * (p + 1) ≤ P * w.full_pages = mul-le-mul_left P (let le : p + 1 ≤ w.full_pages = omega (arith, lt) in le) in
      within_append n (p * P + i) joined w.tip (omega (arith, length-stored P w.full_pages readable reach, more))
      ∙ stored_within P w.full_pages p i n readable reach lt fits

  -- a part of the content in the tip stands in the tip
  pub content_in_tip : (i : ℕ) → drop (w.full_pages * w.page_size + i) (content w readable) ≡ drop i w.tip
  content_in_tip i =
      let P = w.page_size in
      let joined = stored P w.full_pages readable in
      let size : length joined ≡ w.full_pages * P = length-stored P w.full_pages readable reach in
      drop_past (w.full_pages * P + i) joined w.tip (omega (arith, size)) ∙ ap (λ (n : ℕ). drop n w.tip) (let e : w.full_pages * P + i - length joined ≡ i = omega (arith, size) in e)
