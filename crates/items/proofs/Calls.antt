-- What the calls of items do that take them, from what the writer's do.
use Rattle.std.proofs.Common.{◌≡◌, ◌≢◌, ℕ, ◌+◌, ◌*◌, ◌/◌, ◌<◌, ◌≤◌, List, [], ◌∷◌, ◌++◌, length, Some, None, Ok, Err, Result, refl, sym, ap, ap₂, ◌∙◌, subst, arith, length-append, append-nil}
use Rattle.std.specs.Prelude.{Option, slice_get, ◌-◌}
use Rattle.crash.proofs.Lists.{slice_get-append_right}
use Rattle.std.proofs.Math.Nat.{mul-div_cancel}
use Rattle.disk.specs.Disk.{Life}
use Rattle.disk.specs.declared.error.Error.{Error}
use Rattle.disk.specs.declared.error.Error.TheVariants.{ReadFailed, WriteFailed, ResizeFailed, SyncFailed, InvalidChecksum, BlobInsufficientLength, OffsetOverflow, OutOfMemory, IdsExhausted}
use Rattle.disk.specs.declared.started_sync.StartedSync.{StartedSync}
use Rattle.disk.specs.declared.started_sync.StartedSync.TheVariants.{Done, Named}
use Rattle.cache.specs.CacheState.{CacheState}
use Rattle.crash.specs.Kept.{AllKeep}
use Rattle.crash.specs.Moments.{through_end}
use Rattle.crash.specs.Started.{CoversStay, WouldKeep}
use Rattle.crash.specs.Stays.{KeepsAll}
use Rattle.writer_state.specs.WriterState.{WriterState}
use Rattle.writer_state.specs.declared.sync_state.SyncState.{SyncState}
use Rattle.writer_state.specs.declared.sync_state.SyncState.TheVariants.{Clean, Dirty, Pending}
use Rattle.paged.specs.Caches.{KeepsReads}
use Rattle.paged.specs.Calls.{BuffersOver, Completed, StartedSyncKeeps, Succeeds, TryAppendGoes, waited_state}
use Rattle.paged.specs.Goes.{AppendAnswers, HasSynced, HasWaited, Holds, IsUnderWay}
use Rattle.paged.specs.Owes.{Owed, OwedThrough, Owes}
use Rattle.paged.specs.Ready.{IsReady}
use Rattle.items.specs.Items.{items, AreDurable, AreFirst, WouldBeDurable}
use Rattle.items.specs.State.{ItemsState}
use Rattle.items.specs.Standing.{AreItems, AreReady, ItemsCallLeaves, StandAsItems, items_content, count, items_of}
use Rattle.items.specs.Calls.{AllDurable, AreStarted, AreSynced, CompletesItems, DurabilityLasts, GoOn, GoReady, HaveWaited, IsPushed, PushAnswers, StartedFor, TryPushGoes}
use Rattle.items.proofs.Laws.{length-items, durable_longer, durable_of, first_of_itself, first_of_more, items_more, would_longer}
use Rattle.items.proofs.Standing.{are_items, owed_leaves, stand}

-- no sync was completed by no call
completed_by_none : (sum : List ℕ → ℕ) (P : ℕ) (held : List ℕ) (before after : SyncState) (old new : Life) → after ≡ before → Completed sum P held before after old new
completed_by_none sum P held Clean after old new same = tt
completed_by_none sum P held Dirty after old new same = tt
completed_by_none sum P held (Pending name) after old new same = λ apart cover within would. absurd (apart same)

-- a writer that went on with the sync that it had
held_on : (sum : List ℕ → ℕ) (w now : WriterState) (more : List ℕ) (old new : Life) → Succeeds sum w old more now new → now.sync ≡ w.sync → Holds sum w old more now new
held_on sum w now more old new goes same = record {
  same = goes.same;
  size = goes.size;
  only = goes.only;
  log = goes.log;
  completed = completed_by_none sum w.page_size (Rattle.writer_state.specs.Sound.content w old.present.readable) w.sync now.sync old new same;
  waits = goes.waits;
  served = goes.served;
  content = goes.content;
}

-- ---- going on

-- the writer went on, so the items did
pub go_on : (sum : List ℕ → ℕ) (s : ItemsState) (more : List ℕ) (cache after : CacheState) (old new : Life) (w : WriterState) (now : ItemsState) → StandAsItems sum s cache old → Holds sum s.writer old more w new → now.writer ≡ w → now.size ≡ s.size
    → length (items_content s old ++ more) ≡ length (items_content s old ++ more) / s.size * s.size → IsReady sum w after new → GoOn sum s more after old new now
go_on sum s more cache after old new w now stood held is size whole is_ready =
    let holds = subst (λ (v : WriterState). Holds sum s.writer old more v new) (sym is) held in
    record {
      stand = are_items sum now after new (record {
        some = subst (λ (n : ℕ). 0 < n) (sym size) stood.some;
        ready = subst (λ (v : WriterState). IsReady sum v after new) (sym is) is_ready;
        size = holds.size;
        whole = subst (λ (n : ℕ). length (items_content now new) ≡ length (items_content now new) / n * n) (sym size)
            (subst (λ (l : List ℕ). length l ≡ length l / s.size * s.size) (sym holds.content) whole);
        only = holds.only;
      });
      holds = holds.content;
      size = size;
      same = holds.same;
    }

-- so the items went on by a call that pushes nothing
pub goes_same : (sum : List ℕ → ℕ) (s : ItemsState) (cache after : CacheState) (old new : Life) (w : WriterState) (now : ItemsState) → AreItems sum s cache old → Holds sum s.writer old [] w new → now.writer ≡ w → now.size ≡ s.size
    → IsReady sum w after new → GoOn sum s [] after old new now × (items_of now new ≡ items_of s old)
goes_same sum s cache after old new w now stood holds is size is_ready =
    let was = stand sum s cache old stood in
    let nil : items_content s old ++ [] ≡ items_content s old = append-nil (items_content s old) in
    let gone = go_on sum s [] cache after old new w now was holds is size (subst (λ (l : List ℕ). length l ≡ length l / s.size * s.size) (sym nil) was.whole) is_ready in
    (gone, ap₂ (λ (k : ℕ) (l : List ℕ). items k l) size (gone.holds ∙ nil))

-- ---- what lasts

-- what holds of pages, a size and a content holds of the items now
carried : (Q : (P s : ℕ) → List ℕ → Type 0) (s now : ItemsState) (held : List ℕ) (new : Life) → now.writer.page_size ≡ s.writer.page_size → now.size ≡ s.size → items_content now new ≡ held → Q s.writer.page_size s.size held → Q now.writer.page_size now.size (items_content now new)
carried Q s now held new page_size size holds says =
    subst (λ (p : ℕ). Q p now.size (items_content now new)) (sym page_size) (subst (λ (k : ℕ). Q s.writer.page_size k (items_content now new)) (sym size) (subst (λ (l : List ℕ). Q s.writer.page_size s.size l) (sym holds) says))

-- a sync that was completed, by whichever call
completes : (sum : List ℕ → ℕ) (s now : ItemsState) (before : SyncState) (old new : Life) → 0 < s.size → ((n : ℕ) → AreDurable sum s.writer.page_size s.size (items_content s old) n new.present → AreDurable sum now.writer.page_size now.size (items_content now new) n new.present)
    → Completed sum s.writer.page_size (items_content s old) before now.writer.sync old new → CompletesItems sum s now before old new
completes sum s now Clean old new some up completed = tt
completes sum s now Dirty old new some up completed = tt
completes sum s now (Pending name) old new some up completed = λ apart n would.
    up n (durable_of sum s.writer.page_size s.size (items_content s old) n new.present some would.within (completed apart (n * s.size) would.within would.keeps))

-- the writer went on, and keeps what was kept of each content
lasts : (sum : List ℕ → ℕ) (s : ItemsState) (more : List ℕ) (cache : CacheState) (old new : Life) (w : WriterState) (now : ItemsState) → AreItems sum s cache old → Holds sum s.writer old more w new → now.writer ≡ w → now.size ≡ s.size
    → ((content : List ℕ) (floor : ℕ) → floor ≤ length content → AllKeep sum s.writer.page_size content floor old.present → AllKeep sum s.writer.page_size content floor new.present)
    → CoversStay sum s.writer.page_size (items_content s old) old.present new.present → DurabilityLasts sum s now old new
lasts sum s more cache old new w now items held_now is size kept covers =
    let some = (stand sum s cache old items).some in
    let holds = subst (λ (v : WriterState). Holds sum s.writer old more v new) (sym is) held_now in
    let P = s.writer.page_size in
    let held = items_content s old in
    let up : (n : ℕ) → AreDurable sum P s.size held n new.present → AreDurable sum now.writer.page_size now.size (items_content now new) n new.present =
    λ n durable. carried (λ p k l. AreDurable sum p k l n new.present) s now (held ++ more) new holds.same.page_size size holds.content (durable_longer sum P s.size held more n new.present some durable) in
    record {
      durable = λ n durable. up n (durable_of sum P s.size held n new.present some durable.within (kept held (n * s.size) durable.within durable.bytes));
      started = λ n name would.
          let still : WouldBeDurable sum P s.size held n name new.present = record { within = would.within; keeps = covers name (n * s.size) would.within would.keeps } in
          carried (λ p k l. WouldBeDurable sum p k l n name new.present) s now (held ++ more) new holds.same.page_size size holds.content (would_longer sum P s.size held more n name new.present still);
      completed = completes sum s now s.writer.sync old new some up holds.completed;
    }

-- what lasts through a call, by what that holds at each of its moments
pub lasts_through : (sum : List ℕ → ℕ) (s : ItemsState) (more all : List ℕ) (cache : CacheState) (old new : Life) (w : WriterState) (now : ItemsState) → AreItems sum s cache old → Holds sum s.writer old more w new → now.writer ≡ w → now.size ≡ s.size
    → OwedThrough sum s.writer.page_size s.writer.full_pages (items_content s old) all old new → DurabilityLasts sum s now old new
lasts_through sum s more all cache old new w now items holds is size through =
    let owed = through_end (Owed sum s.writer.page_size s.writer.full_pages (items_content s old) all old.present) old new through in
    lasts sum s more cache old new w now items holds is size owed.kept owed.covers

-- where nothing was done, no sync was completed
none_completes : (sum : List ℕ → ℕ) (s now : ItemsState) (before : SyncState) (life : Life) → now.writer.sync ≡ before → CompletesItems sum s now before life life
none_completes sum s now Clean life same = tt
none_completes sum s now Dirty life same = tt
none_completes sum s now (Pending name) life same = λ apart. absurd (apart same)

lasts_same : (sum : List ℕ → ℕ) (s now : ItemsState) (life : Life) → now ≡ s → DurabilityLasts sum s now life life
lasts_same sum s now life same =
    subst (λ (t : ItemsState). DurabilityLasts sum s t life life) (sym same) (record { durable = λ n durable. durable; started = λ n name would. would; completed = none_completes sum s s s.writer.sync life refl })

-- ---- what a client hands on

pub are_ready : (sum : List ℕ → ℕ) (s : ItemsState) (cache : CacheState) (life : Life) → AreItems sum s cache life → AreReady sum s cache life
are_ready sum s cache life items =
    let stood = stand sum s cache life items in
    (items, length-items s.size (items_content s life) ∙ ap (λ (n : ℕ). n / s.size) (sym stood.size), stood.ready.can.page_size)

pub ready : (sum : List ℕ → ℕ) (s : ItemsState) (more : List ℕ) (after : CacheState) (old new : Life) (now : ItemsState) → GoOn sum s more after old new now → GoReady sum s now after new
ready sum s more after old new now goes = (are_ready sum now after new goes.stand, goes.size, goes.same.page_size, goes.same.id, goes.same.full_pages)

-- ---- pushes

-- whole items and one more are whole
one_more : (s : ℕ) (content item : List ℕ) → 0 < s → length content ≡ length content / s * s → length item ≡ s → length (content ++ item) ≡ length (content ++ item) / s * s
one_more s content item some whole size =
    let n = length content / s in
    let long : length (content ++ item) ≡ (n + 1) * s = omega (arith, length-append content item, whole, size) in
    let count : length (content ++ item) / s ≡ n + 1 = ap (λ (k : ℕ). k / s) long ∙ mul-div_cancel (n + 1) some in
    long ∙ ap (λ (k : ℕ). k * s) (sym count)

-- the last of a list that got one more
slice_get_last : (xs : List (List ℕ)) (x : List ℕ) → slice_get (xs ++ x ∷ []) (length xs) ≡ Some x
slice_get_last xs x =
    let none : length xs - length xs ≡ 0 = omega arith in
    slice_get-append_right xs (x ∷ []) (length xs) (omega arith) ∙ ap (λ (k : ℕ). slice_get (x ∷ []) k) none

-- an append of an item, by its answer
pub pushed : (sum : List ℕ → ℕ) (s : ItemsState) (item : List ℕ) (cache after : CacheState) (old new : Life) (w : WriterState) (now : ItemsState) (i : ℕ) → AreItems sum s cache old → length item ≡ s.size → i ≡ count s
    → Holds sum s.writer old item w new → now.writer ≡ w → now.size ≡ s.size → IsReady sum w after new → IsPushed sum s item after old new now i
pushed sum s item cache after old new w now i items long number holds is size is_ready =
    let stood = stand sum s cache old items in
    let gone = go_on sum s item cache after old new w now stood holds is size (one_more s.size (items_content s old) item stood.some stood.whole long) is_ready in
    let all = items_of s old in
    let added : items_of now new ≡ all ++ item ∷ [] = ap₂ (λ (k : ℕ) (l : List ℕ). Rattle.items.specs.Items.items k l) size gone.holds ∙ items_more s.size (items_content s old) item stood.some stood.whole long in
    let last : i ≡ length all = number ∙ sym (are_ready sum s cache old items).1 in
    record {
      goes = gone;
      at = number;
      added = added;
      there = ap₂ (λ (l : List (List ℕ)) (n : ℕ). slice_get l n) added last ∙ slice_get_last all item;
    }

pub not_pushed : (sum : List ℕ → ℕ) (s : ItemsState) (item : List ℕ) (after : CacheState) (old new : Life) (e : Error) → AppendAnswers sum s.writer item old new (Err e) → PushAnswers sum s item after old new (Err e)
not_pushed sum s item after old new OffsetOverflow refused = refused
not_pushed sum s item after old new ReadFailed refused = refused.cause
not_pushed sum s item after old new WriteFailed refused = refused.cause
not_pushed sum s item after old new ResizeFailed refused = refused.cause
not_pushed sum s item after old new SyncFailed refused = refused.cause
not_pushed sum s item after old new InvalidChecksum refused = refused.cause
not_pushed sum s item after old new BlobInsufficientLength refused = refused.cause
not_pushed sum s item after old new OutOfMemory refused = refused.cause
not_pushed sum s item after old new IdsExhausted refused = refused.cause

-- what a push leaves: the items, or one more
pub push_leaves : (sum : List ℕ → ℕ) (s : ItemsState) (item : List ℕ) (cache after : CacheState) (old new : Life) → AreItems sum s cache old → length item ≡ s.size → Owes sum s.writer (items_content s old ++ item) cache after old new
    → ItemsCallLeaves sum s (items_of s old ++ item ∷ []) cache after old new
push_leaves sum s item cache after old new items long owes =
    let stood = stand sum s cache old items in
    let held = items_content s old in
    let all = items_of s old ++ item ∷ [] in
    owed_leaves sum s all (held ++ item) cache after old new stood.some (first_of_more (items_of s old) (item ∷ []))
    (subst (λ (l : List (List ℕ)). AreFirst l all) (sym (items_more s.size held item stood.some stood.whole long)) (first_of_itself all)) owes

-- a push that asks no device
tried_holds : (sum : List ℕ → ℕ) (s : ItemsState) (bytes : List ℕ) (v : WriterState) (at : ℕ) (cache : CacheState) (life : Life) → TryAppendGoes s.writer bytes v (Ok (Some at)) → BuffersOver sum s.writer bytes v (Ok (Some at)) → AreItems sum s cache life
    → Holds sum s.writer life bytes v life
tried_holds sum s bytes v at cache life tries appends items =
    held_on sum s.writer v bytes life life (appends life (stand sum s cache life items).ready.sound).1 (ap (λ (w : WriterState). w.sync) tries.3)

pub tried_some : (sum : List ℕ → ℕ) (s : ItemsState) (bytes : List ℕ) (v : WriterState) (at i : ℕ) → TryAppendGoes s.writer bytes v (Ok (Some at)) → BuffersOver sum s.writer bytes v (Ok (Some at)) → KeepsReads s.writer v → length bytes ≡ s.size → i ≡ count s
    → TryPushGoes sum s bytes (record { writer = v; size = s.size }) (Ok (Some i))
tried_some sum s bytes v at i tries appends reads long number = (
  (tries.0, tries.1),
  number,
  λ cache life items.
      let was = (stand sum s cache life items).ready in
      pushed sum s bytes cache cache life life v (record { writer = v; size = s.size }) i items long number (tried_holds sum s bytes v at cache life tries appends items) refl refl
      (record { sound = (appends life was.sound).1.sound; can = reads cache life.present was.can; fresh = was.fresh }),
)

pub tried_none : (sum : List ℕ → ℕ) (s : ItemsState) (bytes : List ℕ) (v : WriterState) → TryAppendGoes s.writer bytes v (Ok None) → TryPushGoes sum s bytes (record { writer = v; size = s.size }) (Ok None)
tried_none sum s bytes v tries = (tries.0, tries.1, ap (λ (w : WriterState). record { writer = w; size = s.size }) tries.2)

pub not_tried : (sum : List ℕ → ℕ) (s : ItemsState) (bytes : List ℕ) (v : WriterState) (e : Error) → TryAppendGoes s.writer bytes v (Err e) → TryPushGoes sum s bytes (record { writer = v; size = s.size }) (Err e)
not_tried sum s bytes v OffsetOverflow tries = (tries.0, ap (λ (w : WriterState). record { writer = w; size = s.size }) tries.1)
not_tried sum s bytes v OutOfMemory tries = ((tries.0, tries.1), ap (λ (w : WriterState). record { writer = w; size = s.size }) tries.2)
not_tried sum s bytes v ReadFailed tries = absurd tries
not_tried sum s bytes v WriteFailed tries = absurd tries
not_tried sum s bytes v ResizeFailed tries = absurd tries
not_tried sum s bytes v SyncFailed tries = absurd tries
not_tried sum s bytes v InvalidChecksum tries = absurd tries
not_tried sum s bytes v BlobInsufficientLength tries = absurd tries
not_tried sum s bytes v IdsExhausted tries = absurd tries

-- after a push that asks no device items are such, whatever it answered
same_ready : (sum : List ℕ → ℕ) (s now : ItemsState) → now ≡ s → (cache : CacheState) (life : Life) → AreItems sum s cache life → GoReady sum s now cache life × DurabilityLasts sum s now life life
same_ready sum s now same cache life items =
    (subst (λ (t : ItemsState). GoReady sum s t cache life) (sym same) (are_ready sum s cache life items, refl, refl, refl, omega arith), lasts_same sum s now life same)

some_ready : (sum : List ℕ → ℕ) (s : ItemsState) (bytes : List ℕ) (v : WriterState) (at i : ℕ) → TryAppendGoes s.writer bytes v (Ok (Some at)) → BuffersOver sum s.writer bytes v (Ok (Some at)) → TryPushGoes sum s bytes (record { writer = v; size = s.size }) (Ok (Some i))
    → (cache : CacheState) (life : Life) → AreItems sum s cache life → GoReady sum s (record { writer = v; size = s.size }) cache life × DurabilityLasts sum s (record { writer = v; size = s.size }) life life
some_ready sum s bytes v at i tries appends pushes cache life items =
    let now : ItemsState = record { writer = v; size = s.size } in
    let holds = tried_holds sum s bytes v at cache life tries appends items in
    (ready sum s bytes cache life life now (pushes.2 cache life items).goes, lasts sum s bytes cache life life v now items holds refl refl (λ content floor enough kept. kept) (λ name cover within would. would))

pub tries_ready : (sum : List ℕ → ℕ) (s : ItemsState) (bytes : List ℕ) (v : WriterState) (i : ℕ) (result : Result (Option ℕ) Error) → TryAppendGoes s.writer bytes v result → BuffersOver sum s.writer bytes v result → KeepsReads s.writer v → length bytes ≡ s.size → i ≡ count s
    → (cache : CacheState) (life : Life) → AreItems sum s cache life → GoReady sum s (record { writer = v; size = s.size }) cache life × DurabilityLasts sum s (record { writer = v; size = s.size }) life life
tries_ready sum s bytes v i (Ok (Some at)) tries appends reads long number = some_ready sum s bytes v at i tries appends (tried_some sum s bytes v at i tries appends reads long number)
tries_ready sum s bytes v i (Ok None) tries appends reads long number = same_ready sum s (record { writer = v; size = s.size }) (tried_none sum s bytes v tries).2
tries_ready sum s bytes v i (Err OffsetOverflow) tries appends reads long number = same_ready sum s (record { writer = v; size = s.size }) (not_tried sum s bytes v OffsetOverflow tries).1
tries_ready sum s bytes v i (Err OutOfMemory) tries appends reads long number = same_ready sum s (record { writer = v; size = s.size }) (not_tried sum s bytes v OutOfMemory tries).1
tries_ready sum s bytes v i (Err ReadFailed) tries appends reads long number = absurd tries
tries_ready sum s bytes v i (Err WriteFailed) tries appends reads long number = absurd tries
tries_ready sum s bytes v i (Err ResizeFailed) tries appends reads long number = absurd tries
tries_ready sum s bytes v i (Err SyncFailed) tries appends reads long number = absurd tries
tries_ready sum s bytes v i (Err InvalidChecksum) tries appends reads long number = absurd tries
tries_ready sum s bytes v i (Err BlobInsufficientLength) tries appends reads long number = absurd tries
tries_ready sum s bytes v i (Err IdsExhausted) tries appends reads long number = absurd tries

-- ---- syncs

-- where all bytes are kept all items are durable
pub all_durable : (sum : List ℕ → ℕ) (s : ItemsState) (cache : CacheState) (life : Life) → StandAsItems sum s cache life → KeepsAll sum s.writer.page_size (items_content s life) life → AllDurable sum s life
all_durable sum s cache life stood keeps =
    let n = count s in
    let long : n * s.size ≡ length (items_content s life) = ap (λ (k : ℕ). k / s.size * s.size) stood.size ∙ sym stood.whole in
    durable_of sum s.writer.page_size s.size (items_content s life) n life.present stood.some (omega (arith, long))
    (subst (λ (k : ℕ). AllKeep sum s.writer.page_size (items_content s life) k life.present) (sym long) keeps)

-- a sync of the writer is one of the items
pub synced : (sum : List ℕ → ℕ) (s : ItemsState) (cache after : CacheState) (old new : Life) (w : WriterState) (now : ItemsState) → AreItems sum s cache old → HasSynced sum s.writer old new w → now.writer ≡ w → now.size ≡ s.size
    → IsReady sum w after new → AreSynced sum s after old new now
synced sum s cache after old new w now stood goes is size is_ready =
    let P = s.writer.page_size in
    let gone = goes_same sum s cache after old new w now stood goes.holds is size is_ready in
    let same : items_content now new ≡ items_content s old = gone.0.holds ∙ append-nil (items_content s old) in
    record {
      goes = gone.0;
      same = gone.1;
      durable = all_durable sum now after new (stand sum now after new gone.0.stand)
          (subst (λ (p : ℕ). KeepsAll sum p (items_content now new) new) (sym gone.0.same.page_size) (subst (λ (l : List ℕ). KeepsAll sum P l new) (sym same) (goes.durable (stand sum s cache old stood).ready.sound)));
    }

-- where all bytes are durable, or will be once the sync completed, so are all items
started_for : (sum : List ℕ → ℕ) (s : ItemsState) (cache : CacheState) (life : Life) (started : StartedSync) → AreItems sum s cache life → StartedSyncKeeps sum s.writer.page_size (items_content s life) life started → StartedFor sum s life started
started_for sum s cache life Done items starts = all_durable sum s cache life (stand sum s cache life items) starts
started_for sum s cache life (Named name) items starts =
    let stood = stand sum s cache life items in
    let long : count s * s.size ≡ length (items_content s life) = ap (λ (k : ℕ). k / s.size * s.size) stood.size ∙ sym stood.whole in
    record {
      within = omega (arith, long);
      keeps = subst (λ (k : ℕ). WouldKeep sum s.writer.page_size (items_content s life) name k life.present) (sym long) starts;
    }

-- a sync that was started
pub begun : (sum : List ℕ → ℕ) (s : ItemsState) (cache after : CacheState) (old new : Life) (w : WriterState) (started : StartedSync) (now : ItemsState) → AreItems sum s cache old → IsUnderWay sum s.writer old new w started → now.writer ≡ w → now.size ≡ s.size
    → IsReady sum w after new → AreStarted sum s after old new now started
begun sum s cache after old new w started now items goes is size is_ready =
    let gone = goes_same sum s cache after old new w now items goes.holds is size is_ready in
    let same : items_content now new ≡ items_content s old = gone.0.holds ∙ append-nil (items_content s old) in
    record {
      goes = gone.0;
      same = gone.1;
      sync = ap (λ (v : WriterState). v.sync) is ∙ goes.state;
      covers = started_for sum now after new started gone.0.stand
          (subst (λ (P : ℕ). StartedSyncKeeps sum P (items_content now new) new started) (sym gone.0.same.page_size) (subst (λ (l : List ℕ). StartedSyncKeeps sum s.writer.page_size l new started) (sym same) (goes.starts (stand sum s cache old items).ready.sound)));
    }

-- no sync is pending once it was waited for
never_pending : (sync : SyncState) (name : ℕ) → waited_state sync ≢ Pending name
never_pending Clean name = λ same. cc
never_pending Dirty name = λ same. cc
never_pending (Pending other) name = λ same. cc

-- a wait
pub waited : (sum : List ℕ → ℕ) (s : ItemsState) (cache : CacheState) (old new : Life) (w : WriterState) (now : ItemsState) → AreItems sum s cache old → HasWaited sum s.writer old new w → now.writer ≡ w → now.size ≡ s.size
    → IsReady sum w cache new → HaveWaited sum s cache old new now
waited sum s cache old new w now items goes is size is_ready =
    let gone = goes_same sum s cache cache old new w now items goes.holds is size is_ready in
    let sync : now.writer.sync ≡ waited_state s.writer.sync = ap (λ (v : WriterState). v.sync) (is ∙ goes.state) in
    record {
      goes = gone.0;
      same = gone.1;
      sync = λ name pending. never_pending s.writer.sync name (sym sync ∙ pending);
    }
