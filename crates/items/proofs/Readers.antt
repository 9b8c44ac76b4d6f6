-- Snapshots and replays of items, from those of their bytes.
use Rattle.std.proofs.Common.{max, le_trans, ◌≡◌, inl, inr, ℕ, suc, ◌+◌, ◌-◌, ◌*◌, ◌/◌, ◌^◌, ◌<◌, ◌≤◌, List, [], ◌∷◌, length, take, drop, Some, Ok, Err, Result, refl, sym, ap, ap₂, ◌∙◌, subst, arith, append-nil, length-drop, add-one}
use Rattle.std.specs.Prelude.{Bool, false, nat_le}
use Rattle.std.proofs.lemmas.Bool.{cases_lt, leb-false}
use Rattle.std.proofs.lemmas.List.{drop_all, drop-drop, nil_from_length}
use Rattle.std.proofs.Math.Nat.{div-le_self, div-mul-le_self, mul-div_cancel, mul-le-mul_right}
use Rattle.crash.proofs.Pages.{drop-pieces}
use Rattle.disk.specs.Disk.{Life}
use Rattle.disk.specs.declared.error.Error.{Error}
use Rattle.disk.specs.declared.error.Error.TheVariants.{ReadFailed, WriteFailed, ResizeFailed, SyncFailed, InvalidChecksum, BlobInsufficientLength, OffsetOverflow, OutOfMemory, IdsExhausted}
use Rattle.page.specs.Page.{pieces}
use Rattle.cache.specs.CacheState.{CacheState}
use Rattle.writer_state.specs.WriterState.{WriterState}
use Rattle.paged_read.specs.Failures.{TellsFailure}
use Rattle.paged_read.proofs.Failing.{none_failed_same}
use Rattle.paged_read.specs.Replay.{CopyToBytesGoes, FillFault, IsHad, IsReplayOf, ReplayState, ReplaysOn, Seeks}
use Rattle.paged_read.specs.Snapshots.{SnapshotReads}
use Rattle.paged_read.specs.Tail.{Tail, tail_size}
use Rattle.paged.specs.Goes.{HasReplay as HasWriterReplay, HasSnapshot as HasWriterSnapshot}
use Rattle.paged.specs.Ready.{IsReady}
use Rattle.paged.specs.Snapshots.{TriesSnapshot}
use Rattle.items.specs.Items.{items}
use Rattle.items.specs.State.{ItemsReplayState, ItemsSnapshotState, ItemsState}
use Rattle.items.specs.Standing.{AreItems, IsItemsReplay, IsItemsSnapshot, ReplaysItems, bytes_along, items_content, bytes_over, items_left}
use Rattle.items.specs.Readers.{HoldsAlong, HasItemsReplay, HasItemsSnapshot, NextItemRefused, SeekItemGoes, TriesItemsSnapshot}
use Rattle.items.proofs.Laws.{items_within, length-items}
use Rattle.items.proofs.Standing.{along, is_replay, is_snapshot, stand, stands_on}
use Rattle.items.proofs.Calls.{goes_same}

-- ---- made

-- a snapshot of items
over_items : (sum : List ℕ → ℕ) (t : Tail) (s : ℕ) (held : List ℕ) (cache : CacheState) (life : Life) → 0 < s → length held ≡ length held / s * s → tail_size t ≡ length held → SnapshotReads sum t held cache life.present
    → IsItemsSnapshot sum (record { tail = t; size = s }) cache life
over_items sum t s held cache life some whole long stands =
    let r : ItemsSnapshotState = record { tail = t; size = s } in
    let is : bytes_over r life ≡ held = stands.tail.is in
    is_snapshot sum r cache life (record {
      some = some;
      stands = subst (λ (l : List ℕ). SnapshotReads sum t l cache life.present) (sym is) stands;
      size = long ∙ sym (ap length is);
      whole = subst (λ (l : List ℕ). length l ≡ length l / s * s) (sym is) whole;
    })

pub made : (sum : List ℕ → ℕ) (s : ItemsState) (cache after : CacheState) (old new : Life) (w : WriterState) (t : Tail) (now : ItemsState) → AreItems sum s cache old → HasWriterSnapshot sum s.writer after old new w t → now.writer ≡ w → now.size ≡ s.size
    → IsReady sum w after new → HasItemsSnapshot sum s after old new now (record { tail = t; size = s.size })
made sum s cache after old new w t now items goes is size is_ready =
    let stood = stand sum s cache old items in
    let gone = goes_same sum s cache after old new w now items goes.holds is size is_ready in
    let held = items_content s old in
    let long : tail_size t ≡ length held = ap (λ (u : Tail). tail_size u) goes.tail ∙ goes.holds.size ∙ ap length (goes.holds.content ∙ append-nil held) in
    let own : w.id ≡ s.writer.id = goes.holds.same.id in
    let pages : t.full_pages ≡ now.writer.full_pages = ap (λ (u : Tail). u.full_pages) goes.tail ∙ ap (λ (v : WriterState). v.full_pages) (sym is) in
    record {
      goes = gone.0;
      same = gone.1;
      snapshot = over_items sum t s.size held after new stood.some stood.whole long (goes.stands stood.ready.sound);
      over = ap (λ (l : List ℕ). Rattle.items.specs.Items.items s.size l) (goes.stands stood.ready.sound).tail.is;
      size = refl;
      id = ap (λ (u : Tail). u.id) goes.tail ∙ own;
      below = omega (arith, pages);
    }

-- a snapshot of items for which nothing is written
pub tried_snapshot : (sum : List ℕ → ℕ) (s : ItemsState) (t : Tail) → TriesSnapshot s.writer (Ok (Some t)) → TriesItemsSnapshot sum s (Ok (Some (record { tail = t; size = s.size })))
tried_snapshot sum s t (short, is) = (
  short,
  refl,
  ap (λ (u : Tail). u.id) is,
  ap (λ (u : Tail). u.full_pages) is,
  λ cache life items.
      let stood = stand sum s cache life items in
      let stands : SnapshotReads sum t (items_content s life) cache life.present = subst (λ (u : Tail). SnapshotReads sum u (items_content s life) cache life.present) (sym is) (stands_on sum s cache life items) in
      let long : tail_size t ≡ length (items_content s life) = ap (λ (u : Tail). tail_size u) is ∙ stood.size in
      (over_items sum t s.size (items_content s life) cache life stood.some stood.whole long stands, ap (λ (l : List ℕ). Rattle.items.specs.Items.items s.size l) stands.tail.is),
)

-- a replay of items that stands between two of them
along_items : (sum : List ℕ → ℕ) (r : ItemsReplayState) (held : List ℕ) (k : ℕ) (life : Life) → 0 < r.size → length held ≡ length held / r.size * r.size → tail_size r.replay.tail ≡ length held → r.replay.position ≡ k * r.size
    → IsReplayOf sum r.replay held life.present → IsItemsReplay sum r life × (bytes_along r life ≡ held)
along_items sum r held k life some whole long at gives =
    let is : bytes_along r life ≡ held = gives.tail.is in (
      is_replay sum r life (record {
        some = some;
        gives = subst (λ (l : List ℕ). IsReplayOf sum r.replay l life.present) (sym is) gives;
        size = long ∙ sym (ap length is);
        whole = subst (λ (l : List ℕ). length l ≡ length l / r.size * r.size) (sym is) whole;
        between = at ∙ ap (λ (i : ℕ). i * r.size) (sym (ap (λ (i : ℕ). i / r.size) at ∙ mul-div_cancel k some));
      }),
      is,
    )

pub began : (sum : List ℕ → ℕ) (s : ItemsState) (buffer_size : ℕ) (cache after : CacheState) (old new : Life) (w : WriterState) (replay : ReplayState) (now : ItemsState) → AreItems sum s cache old → HasWriterReplay sum s.writer buffer_size after old new w replay → now.writer ≡ w → now.size ≡ s.size
    → IsReady sum w after new → HasItemsReplay sum s after old new now (record { replay = replay; size = s.size })
began sum s buffer_size cache after old new w replay now items goes is size is_ready =
    let stood = stand sum s cache old items in
    let gone = goes_same sum s cache after old new w now items goes.holds is size is_ready in
    let held = items_content s old in
    let r : ItemsReplayState = record { replay = replay; size = s.size } in
    let long : tail_size replay.tail ≡ length held = ap (λ (x : ReplayState). tail_size x.tail) goes.replay ∙ goes.holds.size ∙ ap length (goes.holds.content ∙ append-nil held) in
    let start : replay.position ≡ 0 = ap (λ (x : ReplayState). x.position) goes.replay in
    let at : replay.position ≡ 0 * s.size = omega (arith, start) in
    let found = along_items sum r held 0 new stood.some stood.whole long at (goes.gives stood.ready.sound) in
    record {
      goes = gone.0;
      same = gone.1;
      replay = found.0;
      left = ap₂ (λ (i : ℕ) (l : List ℕ). Rattle.items.specs.Items.items s.size (drop i l)) start found.1;
      size = refl;
      page_size = goes.page_size ∙ ap (λ (v : WriterState). v.page_size) (sym is);
      below = subst (λ (v : WriterState). replay.tail.full_pages ≤ v.full_pages) (sym is) goes.below;
    }

-- ---- the next item

-- the first of some items, and the others
items_step : (s j : ℕ) (xs : List ℕ) → 0 < s → length xs ≡ (j + 1) * s → items s xs ≡ take s xs ∷ items s (drop s xs)
items_step s j xs some long =
    let left : length (drop s xs) ≡ j * s = omega (arith, length-drop s xs, long) in
    let n : length xs / s ≡ suc j = ap (λ (k : ℕ). k / s) long ∙ mul-div_cancel (j + 1) some ∙ add-one j in
    let m : length (drop s xs) / s ≡ j = ap (λ (k : ℕ). k / s) left ∙ mul-div_cancel j some in
    ap (λ (k : ℕ). pieces k s xs) n ∙ ap (λ (k : ℕ). take s xs ∷ pieces k s (drop s xs)) (sym m)

-- no bytes have no item
items_nil : (s : ℕ) → items s [] ≡ []
items_nil s =
    let none : 0 / s ≡ 0 = omega (arith, div-le_self 0 s) in
    nil_from_length (items s []) (length-items s [] ∙ none)

-- from one item to the next
items_next : (s k : ℕ) (held : List ℕ) (position : ℕ) → 0 < s → length held ≡ length held / s * s → position ≡ k * s → position + s ≤ length held → items s (drop position held) ≡ take s (drop position held) ∷ items s (drop (position + s) held)
items_next s k held position some whole at there =
    let up : (k + 1) * s ≤ length held = omega (arith, at, there) in
    let more : k + 1 ≤ length held / s = items_within s (k + 1) held some up in
    let j = length held / s - (k + 1) in
    let all : length held / s ≡ k + (j + 1) = omega (arith, more) in
    let long : length held ≡ k * s + (j + 1) * s = whole ∙ ap (λ (n : ℕ). n * s) all ∙ omega arith in
    let rest : length (drop position held) ≡ (j + 1) * s = omega (arith, length-drop position held, long, at) in
    items_step s j (drop position held) some rest ∙ ap (λ (l : List ℕ). take s (drop position held) ∷ items s l) (drop-drop s position held)

-- no item is left
items_end : (s k : ℕ) (held : List ℕ) (position : ℕ) → length held ≡ length held / s * s → position ≡ k * s → length held < position + s → items s (drop position held) ≡ []
items_end s k held position whole at past =
    let less : length held / s < k + 1 = elim (cases_lt (length held / s) (k + 1)) [
      | inl less ↦ less
      | inr more ↦ let up : (k + 1) * s ≤ length held / s * s = mul-le-mul_right s more in absurd (omega (arith, up, whole, at, past))
    ] in
    let most : length held / s * s ≤ k * s = mul-le-mul_right s (omega (arith, less)) in
    ap (λ (l : List ℕ). items s l) (drop_all position held (omega (arith, most, whole, at))) ∙ items_nil s

-- what a replay reads of the blob leaves where it stands
module _ (sum : List ℕ → ℕ) (r : ItemsReplayState) (old new : Life) (was : ReplaysItems sum r old) where
  abbrev pub held : List ℕ
  held = bytes_along r old

  at : r.replay.position ≡ r.replay.position / r.size * r.size
  at = was.between

  -- the replay stands where it stood
  pub stays_there : (now : ItemsReplayState) → now.size ≡ r.size → now.replay.tail ≡ r.replay.tail → now.replay.position ≡ r.replay.position → IsReplayOf sum now.replay held new.present
      → IsItemsReplay sum now new × (items_left now new ≡ items_left r old)
  stays_there now size tail position gives =
      let found = along_items sum now held (r.replay.position / r.size) new (subst (λ (n : ℕ). 0 < n) (sym size) was.some)
      (subst (λ (n : ℕ). length held ≡ length held / n * n) (sym size) was.whole) (ap (λ (t : Tail). tail_size t) tail ∙ was.size)
      (position ∙ at ∙ ap (λ (n : ℕ). r.replay.position / r.size * n) (sym size)) gives in
      (found.0, ap₂ (λ (n : ℕ) (l : List ℕ). items n l) size (ap₂ (λ (i : ℕ) (l : List ℕ). drop i l) position found.1))

  -- the replay gave an item, and stands after it
  pub gave : (now : ItemsReplayState) (item : List ℕ) → now.size ≡ r.size → now.replay.tail ≡ r.replay.tail → now.replay.position ≡ r.replay.position + r.size → IsReplayOf sum now.replay held new.present
      → r.replay.position + r.size ≤ tail_size r.replay.tail → item ≡ take r.size (drop r.replay.position held) → IsItemsReplay sum now new × (items_left r old ≡ item ∷ items_left now new)
  gave now item size tail position gives there is =
      let k = r.replay.position / r.size in
      let next : now.replay.position ≡ (k + 1) * now.size = position ∙ (let e : r.replay.position + r.size ≡ (k + 1) * r.size = omega (arith, at) in e) ∙ ap (λ (n : ℕ). (k + 1) * n) (sym size) in
      let found = along_items sum now held (k + 1) new (subst (λ (n : ℕ). 0 < n) (sym size) was.some)
      (subst (λ (n : ℕ). length held ≡ length held / n * n) (sym size) was.whole) (ap (λ (t : Tail). tail_size t) tail ∙ was.size) next gives in
      let left : items_left now new ≡ items r.size (drop (r.replay.position + r.size) held) = ap₂ (λ (n : ℕ) (l : List ℕ). items n l) size (ap₂ (λ (i : ℕ) (l : List ℕ). drop i l) position found.1) in (
        found.0,
        items_next r.size k held r.replay.position was.some was.whole at (omega (arith, there, was.size)) ∙ ap₂ (λ (b : List ℕ) (l : List (List ℕ)). b ∷ l) (sym is) (sym left),
      )

  -- the replay had no item to give
  pub had_none : tail_size r.replay.tail < r.replay.position + r.size → items_left r old ≡ []
  had_none past = items_end r.size (r.replay.position / r.size) held r.replay.position was.whole at (omega (arith, past, was.size))

  -- a fill isn't refused for a page, and if no more came to hand, memory was refused and no read
  -- failed
  pub fill_refused : (now : ItemsReplayState) (e : Error) → FillFault sum r.replay.tail old new e → (length now.replay.hand ≡ length r.replay.hand → TellsFailure {A = Bool} old new (Err e)) → NextItemRefused r now old new e
  fill_refused now ReadFailed fault tells = fault
  fill_refused now OutOfMemory fault tells = λ same. tells same (λ is. absurd (cc is))
  fill_refused now InvalidChecksum fault tells = absurd (fault was.gives.tail.full)
  fill_refused now WriteFailed fault tells = fault
  fill_refused now ResizeFailed fault tells = fault
  fill_refused now SyncFailed fault tells = fault
  fill_refused now BlobInsufficientLength fault tells = fault
  fill_refused now OffsetOverflow fault tells = fault
  fill_refused now IdsExhausted fault tells = fault

-- what is at hand after a fill, and after the item is taken
pub holds_along : (r : ItemsReplayState) (mid now : ReplayState) (count : ℕ) → count ≡ r.size → mid.batch ≡ r.replay.batch → length mid.hand ≤ max (length r.replay.hand) (count + r.replay.batch * r.replay.tail.page_size) → now.batch ≡ mid.batch → length now.hand ≤ length mid.hand
    → HoldsAlong r (record { replay = now; size = r.size })
holds_along r mid now count value filled most taken less = (
  taken ∙ filled,
  le_trans less (subst (λ (n : ℕ). length mid.hand ≤ max (length r.replay.hand) (n + r.replay.batch * r.replay.tail.page_size)) value most),
)

-- whether so many bytes are there
pub not_there : (position count size : ℕ) → false ≡ nat_le (position + count) size → size < position + count
not_there position count size is = leb-false (position + count) size (sym is)

-- ---- going to an item

-- the items from one on are those of the bytes from there on
items_from : (s i : ℕ) (held : List ℕ) → 0 < s → length held ≡ length held / s * s → i * s ≤ length held → items s (drop (i * s) held) ≡ drop i (items s held)
items_from s i held some whole there =
    let within : i ≤ length held / s = items_within s i held some there in
    let n = length held / s - i in
    let all : length held / s ≡ i + n = omega (arith, within) in
    let long : length held ≡ i * s + n * s = whole ∙ ap (λ (k : ℕ). k * s) all ∙ omega arith in
    let left : length (drop (i * s) held) ≡ n * s = omega (arith, length-drop (i * s) held, long) in
    ap (λ (k : ℕ). pieces k s (drop (i * s) held)) (ap (λ (k : ℕ). k / s) left ∙ mul-div_cancel n some) ∙ sym (drop-pieces i n s held) ∙ ap (λ (k : ℕ). drop i (pieces k s held)) (sym all)

-- an item of a number past the last isn't there
pub past_end : (s i : ℕ) (held : List ℕ) → 0 < s → length held < i * s → length held / s < i
past_end s i held some past = elim (cases_lt (length held / s) i) [
  | inl less ↦ less
  | inr more ↦
      let up : i * s ≤ length held / s * s = mul-le-mul_right s more in
      absurd (omega (arith, up, div-mul-le_self (length held) s, past))
]

sought : (sum : List ℕ → ℕ) (r now : ItemsReplayState) (i offset : ℕ) → offset ≡ i * r.size → now.size ≡ r.size → Seeks r.replay offset now.replay (Ok tt) → ReplaysOn r.replay now.replay → SeekItemGoes sum r i now (Ok tt)
sought sum r now i offset is size (within, seeks) goes = λ life replay.
    let was = along sum r life replay in
    let held = bytes_along r life in
    let tail : now.replay.tail ≡ r.replay.tail = ap (λ (x : ReplayState). x.tail) seeks in
    let position : now.replay.position ≡ i * r.size = ap (λ (x : ReplayState). x.position) seeks ∙ is in
    let there : i * r.size ≤ length held = omega (arith, within, is, was.size) in
    let found = along_items sum now held i life (subst (λ (n : ℕ). 0 < n) (sym size) was.some)
    (subst (λ (n : ℕ). length held ≡ length held / n * n) (sym size) was.whole) (ap (λ (t : Tail). tail_size t) tail ∙ was.size)
    (position ∙ ap (λ (n : ℕ). i * n) (sym size)) (goes.1 sum held life.present was.gives) in
    (found.0, ap₂ (λ (n : ℕ) (l : List ℕ). items n l) size (ap₂ (λ (k : ℕ) (l : List ℕ). drop k l) position found.1) ∙ items_from r.size i held was.some was.whole there)

not_sought : (sum : List ℕ → ℕ) (r now : ItemsReplayState) (i offset : ℕ) → offset ≡ i * r.size → i * r.size < 2 ^ 64 → (now.replay ≡ r.replay → now ≡ r) → (e : Error) → Seeks r.replay offset now.replay (Err e) → SeekItemGoes sum r i now (Err e)
not_sought sum r now i offset is fits same BlobInsufficientLength (past, stays) = (
  fits,
  same stays,
  λ life replay. let was = along sum r life replay in past_end r.size i (bytes_along r life) was.some (omega (arith, past, was.size, is)),
)
not_sought sum r now i offset is fits same ReadFailed seeks = absurd seeks
not_sought sum r now i offset is fits same WriteFailed seeks = absurd seeks
not_sought sum r now i offset is fits same ResizeFailed seeks = absurd seeks
not_sought sum r now i offset is fits same SyncFailed seeks = absurd seeks
not_sought sum r now i offset is fits same InvalidChecksum seeks = absurd seeks
not_sought sum r now i offset is fits same OffsetOverflow seeks = absurd seeks
not_sought sum r now i offset is fits same OutOfMemory seeks = absurd seeks
not_sought sum r now i offset is fits same IdsExhausted seeks = absurd seeks

-- a replay goes to an item, whatever it answers
pub seeks_item : (sum : List ℕ → ℕ) (r : ItemsReplayState) (replay : ReplayState) (i offset : ℕ) (result : Result (Unit {0}) Error) → offset ≡ i * r.size → i * r.size < 2 ^ 64 → Seeks r.replay offset replay result → ReplaysOn r.replay replay
    → SeekItemGoes sum r i (record { replay = replay; size = r.size }) result
seeks_item sum r replay i offset (Ok u) is fits seeks goes = sought sum r (record { replay = replay; size = r.size }) i offset is refl seeks goes
seeks_item sum r replay i offset (Err e) is fits seeks goes = not_sought sum r (record { replay = replay; size = r.size }) i offset is fits (λ same. ap (λ (x : ReplayState). record { replay = x; size = r.size }) same) e seeks

-- an item that is at hand was so before, unless more came to hand; then the device wasn't asked
pub copy_unasked : (r now : ItemsReplayState) (count : ℕ) (old new : Life) → count ≤ length now.replay.hand → (IsHad r.replay count → new ≡ old) → NextItemRefused r now old new OutOfMemory
copy_unasked r now count old new there idle = λ same. none_failed_same old new (idle (inl (omega (arith, same, there))))

-- a copy of bytes is refused for want of memory alone, and then nothing changes
pub copy_refused : (r now : ReplayState) (count : ℕ) (e : Error) → CopyToBytesGoes r count now (Err e) → (e ≡ OutOfMemory) × (now ≡ r)
copy_refused r now count OutOfMemory same = (refl, same)
copy_refused r now count ReadFailed none = absurd none
copy_refused r now count WriteFailed none = absurd none
copy_refused r now count ResizeFailed none = absurd none
copy_refused r now count SyncFailed none = absurd none
copy_refused r now count InvalidChecksum none = absurd none
copy_refused r now count BlobInsufficientLength none = absurd none
copy_refused r now count OffsetOverflow none = absurd none
copy_refused r now count IdsExhausted none = absurd none
