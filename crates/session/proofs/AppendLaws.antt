-- What the steps do that append, and how much they buffer.
use Rattle.std.proofs.Common.{◌≡◌, ℕ, ◌+◌, ◌<◌, ◌≤◌, List, [], ◌∷◌, ◌++◌, length, refl, sym, ap, ◌∙◌, subst, arith, append-nil, length-append, inl, inr, Bool, true, false, Ok, Err, Result, Vec, ◌*◌, ◌/◌, ◌%◌, min, lit<, lit≤}
use Rattle.std.specs.Prelude.{Option, Some, None, nat_le, nat_lt, nat_eq, if◌then◌else◌, is_some, ◌==◌, ◌||◌, ◌&&◌, not}
use Rattle.std.specs.declared.alloc.Global.{Global}
use Rattle.std.proofs.Math.Nat.{mul-add-div_right, mul-add-mod_self_right, mod-eq_of_lt}
use Rattle.std.proofs.lemmas.Bool.{false≢true, leb-true, le-leb, cases_lt}
use Rattle.std.proofs.lemmas.Bool.Decides.{nat_tests}
use Rattle.disk.specs.Disk.{Disk, Life, life_after}
use Rattle.disk.specs.declared.error.Error.{Error}
use Rattle.disk.specs.declared.error.Error.TheVariants.{ReadFailed, WriteFailed, ResizeFailed, SyncFailed, InvalidChecksum, BlobInsufficientLength, OffsetOverflow, OutOfMemory, IdsExhausted}
use Rattle.page.specs.declared.slot.ActiveChecksum.{ActiveChecksum}
use Rattle.crash.specs.Kept.{AllKeep, Through, Moments}
use Rattle.crash.specs.Started.{CoversThrough}
use Rattle.writer_state.specs.WriterState.{WriterState}
use Rattle.writer_state.specs.declared.sync_state.SyncState.{SyncState}
use Rattle.writer_state.specs.declared.sync_state.SyncState.TheVariants.{Clean, Dirty, Pending}
use Rattle.crash.specs.Built.{kept_len}
use Rattle.writer_state.specs.Sound.{IsSound, TipPage, content as content_of}
use Rattle.crash.specs.Stays.{Stays, StaysThrough}
use Rattle.crash.proofs.Moments.{keeps_longer}
use Rattle.paged.specs.Writer.{physical_blob_size}
use Rattle.paged.specs.Flush.{has_work}
use Rattle.paged.specs.Calls.{PendingSyncFailed as CallHadFailed, BuffersAll, Succeeds, Appends, TryAppendGoes, IsSettled, HoldsWithin, settle_calls, sync_calls, start_calls, wait_calls, unstarted_calls}
use Rattle.paged.proofs.Flushes.{size_is_length, begins}
use Rattle.paged.proofs.Halves.{appends_stay}
use Rattle.session.specs.declared.steps.Step.TheVariants.{Append, TryAppend}
use Rattle.session.specs.declared.steps.Reply.{Reply}
use Rattle.session.specs.declared.steps.Reply.TheVariants.{At, Nothing, Fault}
use Rattle.session.specs.Run.{RunState, SessionState, fits_buffer, buffered_after, written_after, awaited_after, appended, ended, needs_sync, HasCause, AwaitedSyncFailed, FaultsComeFirst, UsesDevice, AllCover, pending_in, WriterRepresents}
use Rattle.session.specs.Run.DeviceUse.{Leaves, Changes}
use Rattle.session.proofs.Words.{OwesStarts, AppendTold}
use Rattle.session.proofs.Apart.{AlwaysApart, StandsApart, SteppedApart}
use Rattle.session.proofs.StepLaws.{held, no_moments, turned_here, few_calls, cover_longer, halves, each_end, stepped, unasked, unasked_over, stands_now, stands_ended, Halves}

-- ---- what is buffered

-- bytes that fit the buffer
fit : (s : RunState) (w : WriterState) (more : ℕ) → length w.tip ≡ s.buffered → w.capacity ≡ s.capacity → fits_buffer s more ≡ true → length w.tip + more ≤ w.capacity
fit s w more buffered capacity is = omega (arith, leb-true (s.buffered + more) s.capacity is, buffered, capacity)

-- bytes that don't fit the buffer
pass : (s : RunState) (w : WriterState) (more : ℕ) → length w.tip ≡ s.buffered → w.capacity ≡ s.capacity → fits_buffer s more ≡ false → w.capacity < length w.tip + more
pass s w more buffered capacity is =
    let h : s.capacity < s.buffered + more = grind (arith, nat_tests, is) in omega (arith, h, buffered, capacity)

-- what is left after full pages, where it is less than a page
pub rest_is : (P full more tip n : ℕ) → full * P + more ≡ n * P + tip → tip < P → tip ≡ more % P
rest_is P full more tip n same short = sym (mod-eq_of_lt short) ∙ sym (mul-add-mod_self_right n P tip) ∙ ap (λ (k : ℕ). k % P) (sym same) ∙ mul-add-mod_self_right full P more

-- what is left in the tip of a writer whose content has grown
pub rest_left : (sum : List ℕ → ℕ) (w v : WriterState) (old new : Life) (bytes : List ℕ) → IsSound sum w old.present → Succeeds sum w old bytes v new → length v.tip < v.page_size → length v.tip ≡ (length w.tip + length bytes) % w.page_size
rest_left sum w v old new bytes sound goes short =
    let same : v.page_size ≡ w.page_size = goes.same.page_size in
    let size : w.full_pages * w.page_size + (length w.tip + length bytes) ≡ v.full_pages * w.page_size + length v.tip =
    omega (arith, size_is_length sum w old sound, size_is_length sum v new goes.sound, ap length goes.content, length-append (content_of w old.present.readable) bytes, ap (λ (n : ℕ). v.full_pages * n) same) in
    rest_is w.page_size w.full_pages (length w.tip + length bytes) (length v.tip) v.full_pages size (omega (arith, short, same))

-- a writer that buffers no bytes
buffers_none : (w v : WriterState) (bytes : List ℕ) → v ≡ record w { tip = w.tip ++ bytes } → bytes ≡ [] → v ≡ w
buffers_none w v bytes is none = is ∙ ap (λ (l : List ℕ). record w { tip = w.tip ++ l }) none ∙ ap (λ (l : List ℕ). record w { tip = l }) (append-nil w.tip)

-- whether a flush has work, by its three tests
no_work : (a b c : Bool) → a ≡ false → c ≡ true → (a || (true && (not b && not c))) ≡ false
no_work true b c below same = absurd (false≢true (sym below))
no_work false true c below same = refl
no_work false false true below same = refl
no_work false false false below same = absurd (false≢true same)

pub full_work : (a b c : Bool) → a ≡ true → (a || (true && (not b && not c))) ≡ true
full_work true b c is = refl
full_work false b c is = absurd (false≢true is)

rest_work : (a b c : Bool) → b ≡ false → c ≡ false → (a || (true && (not b && not c))) ≡ true
rest_work true b c some more = refl
rest_work false false false some more = refl
rest_work false true c some more = absurd (false≢true (sym some))
rest_work false false true some more = absurd (false≢true (sym more))

-- a writer all of whose bytes are written leaves a flush no work
pub written_no_work : (v : WriterState) → length v.tip < v.page_size → kept_len v.flushed ≡ length v.tip → has_work v true ≡ false
written_no_work v fewer flushed =
    let short : length v.tip % v.page_size ≡ length v.tip = mod-eq_of_lt fewer in
    let all : length v.tip % v.page_size ≡ kept_len v.flushed = short ∙ sym flushed in
    let below : nat_le v.page_size (length v.tip) ≡ false = grind (arith, nat_tests, fewer) in
    let same : (length v.tip % v.page_size == kept_len v.flushed) ≡ true = grind (arith, nat_tests, all) in
    no_work (nat_le v.page_size (length v.tip)) (length v.tip % v.page_size == 0) (length v.tip % v.page_size == kept_len v.flushed) below same

-- no more bytes of the tip were written than it has
kept_there : (sum : List ℕ → ℕ) (P full : ℕ) (tip readable : List ℕ) (flushed : Option ActiveChecksum) → TipPage sum P full tip readable flushed → kept_len flushed ≤ length tip
kept_there sum P full tip readable None page = omega arith
kept_there sum P full tip readable (Some f) page = page.there

-- bytes that were buffered give a flush work
buffered_work : (sum : List ℕ → ℕ) (w : WriterState) (bytes : List ℕ) (d : Disk) → IsSound sum w d → 0 < length bytes → has_work (record w { tip = w.tip ++ bytes }) true ≡ true
unfolding IsSound
buffered_work sum w bytes d sound some =
    let n = length (w.tip ++ bytes) in
    let kept : kept_len w.flushed ≤ length w.tip = kept_there sum w.page_size w.full_pages w.tip d.readable w.flushed sound.stands.tip_page in
    let more : kept_len w.flushed < n = omega (arith, kept, some, length-append w.tip bytes) in
    elim (cases_lt n w.page_size) [
      | inl short ↦
          let rest : n % w.page_size ≡ n = mod-eq_of_lt short in
          let first : (n % w.page_size == 0) ≡ false = grind (arith, nat_tests, rest, more) in
          let second : (n % w.page_size == kept_len w.flushed) ≡ false = grind (arith, nat_tests, rest, more) in
          rest_work (nat_le w.page_size n) (n % w.page_size == 0) (n % w.page_size == kept_len w.flushed) first second
      | inr full ↦
          let first : nat_le w.page_size n ≡ true = grind (arith, nat_tests, full) in
          full_work (nat_le w.page_size n) (n % w.page_size == 0) (n % w.page_size == kept_len w.flushed) first
    ]

-- the calls of starting a sync, by whether a flush has work
pub start_work : (work : Bool) (state : SyncState) → work ≡ true → nat_eq (if work then wait_calls state + 2 else unstarted_calls state) 0 ≡ false
start_work true Clean is = refl
start_work true Dirty is = refl
start_work true (Pending name) is = refl
start_work false state is = absurd (false≢true is)

pub start_dirty : (work : Bool) (state : SyncState) → state ≡ Dirty → nat_eq (if work then wait_calls state + 2 else unstarted_calls state) 0 ≡ false
start_dirty true Dirty is = refl
start_dirty false Dirty is = refl
start_dirty work Clean is = absurd (cc is)
start_dirty work (Pending name) is = absurd (cc is)

start_none : (work : Bool) (state : SyncState) → work ≡ false → unstarted_calls state ≡ 0 → nat_eq (if work then wait_calls state + 2 else unstarted_calls state) 0 ≡ true
start_none true state is none = absurd (false≢true (sym is))
start_none false Clean is none = refl
start_none false Dirty is none = absurd (cc none)
start_none false (Pending name) is none = refl

-- a settled writer has no sync to start
pub settled_started : (v : WriterState) → IsSettled v → true ≡ nat_eq (start_calls v) 0
settled_started v settled = sym (start_none (has_work v true) v.sync (written_no_work v settled.short settled.flushed) (ap unstarted_calls settled.clean))

-- a settled writer waits for no sync
pub settled_awaits : (v : WriterState) → IsSettled v → None ≡ pending_in v.sync
settled_awaits v settled = sym (ap pending_in settled.clean)

-- whether a sync has something to do
needs_calls : (work : Bool) (state : SyncState)
    → nat_lt 0 ((if work then 1 else 0) + settle_calls state) ≡ (not (nat_eq (if work then wait_calls state + 2 else unstarted_calls state) 0) || is_some (pending_in state))
needs_calls true Clean = refl
needs_calls true Dirty = refl
needs_calls true (Pending name) = refl
needs_calls false Clean = refl
needs_calls false Dirty = refl
needs_calls false (Pending name) = refl

pub needs_is : (w : WriterState) (P : ℕ) (s : RunState) (d : Disk) → WriterRepresents P w s d → nat_lt 0 (sync_calls w) ≡ needs_sync s
needs_is w P s d fits = needs_calls (has_work w true) w.sync ∙ rw (fits.written, fits.awaited) refl

-- where a sync has something to do, it may be refused
pub sync_needed : (w : WriterState) (P : ℕ) (s : RunState) (d : Disk) → WriterRepresents P w s d → (sync_calls w ≡ 0 → ⊥) → needs_sync s ≡ true
sync_needed w P s d fits some = sym (needs_is w P s d fits) ∙ (elim (cases_lt 0 (sync_calls w)) [ inl more ↦ (let yes : nat_lt 0 (sync_calls w) ≡ true = grind (arith, nat_tests, more) in yes) | inr none ↦ absurd (some (omega (arith, none))) ])

-- a sync makes two calls at most
pub calls_few : (work : Bool) (state : SyncState) → (if work then 1 else 0) + settle_calls state ≤ 2
calls_few true Clean = lit≤ tt
calls_few true Dirty = lit≤ tt
calls_few true (Pending name) = lit≤ tt
calls_few false Clean = lit≤ tt
calls_few false Dirty = lit≤ tt
calls_few false (Pending name) = lit≤ tt

-- a sync makes the calls of a wait alone, where all is written
pub calls_written : (work : Bool) (state : SyncState) → true ≡ nat_eq (if work then wait_calls state + 2 else unstarted_calls state) 0 → (if work then 1 else 0) + settle_calls state ≡ wait_calls state
calls_written true Clean is = absurd (false≢true (sym is))
calls_written true Dirty is = absurd (false≢true (sym is))
calls_written true (Pending name) is = absurd (false≢true (sym is))
calls_written false Clean is = refl
calls_written false Dirty is = absurd (false≢true (sym is))
calls_written false (Pending name) is = refl

pub wait_none : (state : SyncState) → None ≡ pending_in state → wait_calls state ≡ 0
wait_none Clean is = refl
wait_none Dirty is = refl
wait_none (Pending name) is = absurd (cc is)

pub wait_one : (state : SyncState) → wait_calls state ≤ 1
wait_one Clean = lit≤ tt
wait_one Dirty = lit≤ tt
wait_one (Pending name) = lit≤ tt

-- the sync that a writer waits for had failed
pub had_failed_as : (state : SyncState) (o : Option ℕ) (d : Disk) → o ≡ pending_in state → CallHadFailed state d → AwaitedSyncFailed o d
had_failed_as Clean o d is had = absurd had
had_failed_as Dirty o d is had = absurd had
had_failed_as (Pending name) o d is had = subst (λ (o : Option ℕ). AwaitedSyncFailed o d) (sym is) had

-- whether all is written after an append, of no bytes or of some
written_stays : (w v : WriterState) (bytes : List ℕ) (written : Bool) → written ≡ nat_eq (start_calls w) 0 → (bytes ≡ [] → v ≡ w) → (0 < length bytes → nat_eq (start_calls v) 0 ≡ false) → written_after bytes written ≡ nat_eq (start_calls v) 0
written_stays w v [] written is same some = is ∙ ap (λ (x : WriterState). nat_eq (start_calls x) 0) (sym (same refl))
written_stays w v (byte ∷ bytes) written is same some = sym (some (omega arith))

-- whether all is written after bytes were buffered
buffered_written : (sum : List ℕ → ℕ) (w v : WriterState) (bytes : List ℕ) (d : Disk) (written : Bool) → IsSound sum w d → written ≡ nat_eq (start_calls w) 0 → v ≡ record w { tip = w.tip ++ bytes } → written_after bytes written ≡ nat_eq (start_calls v) 0
buffered_written sum w v bytes d written sound is same =
    written_stays w v bytes written is (buffers_none w v bytes same) (λ some.
    subst (λ (x : WriterState). nat_eq (start_calls x) 0 ≡ false) (sym same) (start_work (has_work (record w { tip = w.tip ++ bytes }) true) w.sync (buffered_work sum w bytes d sound some)))

-- ---- appends

-- what holds at each moment of an append
append_through : (sum : List ℕ → ℕ) (was : SessionState) (P : ℕ) (w : WriterState) (bytes : List ℕ) (old new : Life) (result : Result (WriterState × ℕ) Error) (before : RunState) → IsSound sum w old.present
    → Appends sum w bytes old new result → StandsApart sum P (held was (Some w)) before old.present → StaysThrough sum P (before.content ++ bytes) old new
unfolding IsSound
append_through sum was P w bytes old new result before sound appends stands =
    subst (λ (n : ℕ). StaysThrough sum n (before.content ++ bytes) old new) stands.fits.page_size
    (subst (λ (l : List ℕ). StaysThrough sum w.page_size (l ++ bytes) old new) (sym stands.fits.content) (appends_stay sum w bytes old new result sound appends))

-- what a call keeps of the started syncs, in the words of the standing
pub owed_starts : (sum : List ℕ → ℕ) (P : ℕ) (was : SessionState) (w : WriterState) (old new : Life) (before : RunState) → StandsApart sum P (held was (Some w)) before old.present → OwesStarts sum w old new → CoversThrough sum P before.content old new
owed_starts sum P was w old new before stands owes =
    subst (λ (n : ℕ). CoversThrough sum n before.content old new) stands.fits.page_size
    (subst (λ (l : List ℕ). CoversThrough sum w.page_size l old new) (sym stands.fits.content) owes.covers)

-- so both halves hold at each moment of an append, and the covers
append_halves : (sum : List ℕ → ℕ) (was : SessionState) (P : ℕ) (w : WriterState) (bytes : List ℕ) (old new : Life) (before : RunState) → StandsApart sum P (held was (Some w)) before old.present
    → (through : Moments (Stays sum P (before.content ++ bytes) old.present) old new) → OwesStarts sum w old new → Halves sum P before.content (before.content ++ bytes) before.floor before.covers old new through.moments
append_halves sum was P w bytes old new before stands through owes =
    halves sum P before.content (before.content ++ bytes) before.floor before.covers old new (begins before.content bytes) (omega (arith, length-append before.content bytes)) stands.floor stands.within through
    (owed_starts sum P was w old new before stands owes) stands.kept stands.covered

-- what a session stands for once bytes are appended
appended_stands : (sum : List ℕ → ℕ) (was : SessionState) (P : ℕ) (w v : WriterState) (bytes : List ℕ) (old new : Life) (before : RunState) → StandsApart sum P (held was (Some w)) before old.present → Succeeds sum w old bytes v new
    → HoldsWithin v → length v.tip ≡ buffered_after P before (length bytes) → written_after bytes before.written ≡ nat_eq (start_calls v) 0 → awaited_after before (length bytes) ≡ pending_in v.sync
    → AllKeep sum P before.content before.floor new.present → AllCover sum P before.content before.covers new.present → Stays sum P (before.content ++ bytes) old.present new.present
    → StandsApart sum P (held was (Some v)) (appended P bytes before) new.present
appended_stands sum was P w v bytes old new before stands goes within buffered written awaited kept covered stays =
    let fits = stands.fits in
    let longer = before.content ++ bytes in
    let more : length before.content ≤ length longer = omega (arith, length-append before.content bytes) in
    stands_now sum P was v old new (appended P bytes before)
    (record {
      page_size = goes.same.page_size ∙ fits.page_size;
      has_writer = fits.has_writer;
      content = ap (λ (l : List ℕ). l ++ bytes) fits.content ∙ sym goes.content;
      otherwise = refl;
      capacity = goes.same.capacity ∙ fits.capacity;
      buffered = buffered;
      within = omega (arith, within, buffered, goes.same.capacity, fits.capacity);
      written = written;
      awaited = awaited;
    })
    stands.phase stands.names (omega (arith, stands.floor, more)) (λ k x lt. let few = stands.within k x lt in omega (arith, few, more))
    (keeps_longer sum P before.content longer before.floor new.present (begins before.content bytes) stands.floor kept)
    (cover_longer sum P before.content longer before.covers new.present (begins before.content bytes) stands.within covered) stays

-- the offsets of a blob by its pages, and by the size of its content
pub physical_by_size : (P full n : ℕ) → 0 < P → physical_blob_size P full n ≡ physical_blob_size P 0 (full * P + n)
physical_by_size P full n some =
    let quotient : (full * P + n) / P ≡ full + n / P = mul-add-div_right some full n in
    let part : min 1 ((full * P + n) % P) ≡ min 1 (n % P) = ap (λ (r : ℕ). min 1 r) (mul-add-mod_self_right full P n) in
    ap (λ (pages : ℕ). pages * (P + 12)) (omega (arith, quotient, part))

-- the offsets that the blob needs, of a writer and of what it stands for
needed_offsets : (sum : List ℕ → ℕ) (was : SessionState) (P : ℕ) (w : WriterState) (more : ℕ) (life : Life) (before : RunState) → IsSound sum w life.present → StandsApart sum P (held was (Some w)) before life.present
    → physical_blob_size w.page_size w.full_pages (length w.tip + more) ≡ physical_blob_size P 0 (length before.content + more)
unfolding IsSound
needed_offsets sum was P w more life before sound stands =
    let size : w.full_pages * w.page_size + length w.tip ≡ length before.content = size_is_length sum w life sound ∙ ap length (sym stands.fits.content) in
    physical_by_size w.page_size w.full_pages (length w.tip + more) sound.stands.some
    ∙ ap (λ (n : ℕ). physical_blob_size w.page_size 0 n) (let is : w.full_pages * w.page_size + (length w.tip + more) ≡ length before.content + more = omega (arith, size) in is)
    ∙ ap (λ (n : ℕ). physical_blob_size n 0 (length before.content + more)) stands.fits.page_size

-- an append that passes the greatest `u64` is refused with OffsetOverflow
append_foretold : (sum : List ℕ → ℕ) (was : SessionState) (P : ℕ) (w : WriterState) (bytes : Vec ℕ Global) (old new : Life) (result : Result (WriterState × ℕ) Error) (reply : Reply) (before : RunState) → IsSound sum w old.present → StandsApart sum P (held was (Some w)) before old.present
    → AppendTold sum w bytes.items old new result → (result ≡ Err OffsetOverflow → reply ≡ Fault OffsetOverflow) → FaultsComeFirst P (Append bytes) reply before
append_foretold sum was P w bytes old new result reply before sound stands says is =
    (λ overflows. is (says.overflow (omega (arith, overflows, needed_offsets sum was P w (length bytes.items) old before sound stands))), λ none. absurd none)

-- an append that is done
pub append_steps : (sum : List ℕ → ℕ) (was : SessionState) (w v : WriterState) (bytes : Vec ℕ Global) (n : ℕ) (old new : Life) → IsSound sum w old.present → AppendTold sum w bytes.items old new (Ok (v, n))
    → AlwaysApart sum (Append bytes) (At n) (held was (Some w)) (held was (Some v)) old new
unfolding Through
append_steps sum was w v bytes n old new sound says = λ P before stands. by_room P before stands (fits_buffer before (length bytes.items)) refl
  where
    offset : (P : ℕ) (before : RunState) → StandsApart sum P (held was (Some w)) before old.present → n ≡ length before.content
    offset P before stands = says.appends.0 ∙ ap length (sym stands.fits.content)

    foretold : (P : ℕ) (before : RunState) → StandsApart sum P (held was (Some w)) before old.present → FaultsComeFirst P (Append bytes) (At n) before
    foretold P before stands = append_foretold sum was P w bytes old new (Ok (v, n)) (At n) before sound stands says (λ is. absurd (cc is))

    by_room : (P : ℕ) (before : RunState) → StandsApart sum P (held was (Some w)) before old.present → (room : Bool) → fits_buffer before (length bytes.items) ≡ room → SteppedApart sum P (Append bytes) (At n) (held was (Some v)) old new before before.snapshots before.replays
    by_room P before stands true is =
        let fits = stands.fits in
        let all : (v ≡ record w { tip = w.tip ++ bytes.items }) × (new ≡ old) = says.buffered (fit before w (length bytes.items) fits.buffered fits.capacity is) in
        let goes : Succeeds sum w old bytes.items v old = subst (λ (life : Life). Succeeds sum w old bytes.items v life) all.1 says.appends.1 in
        let through : StaysThrough sum P (before.content ++ bytes.items) old old =
        subst (λ (life : Life). StaysThrough sum P (before.content ++ bytes.items) old life) all.1 (append_through sum was P w bytes.items old new (Ok (v, n)) before sound says.appends stands) in
        let tip : length v.tip ≡ before.buffered + length bytes.items =
        ap (λ (x : WriterState). length x.tip) all.0 ∙ length-append w.tip bytes.items ∙ ap (λ (k : ℕ). k + length bytes.items) fits.buffered in
        let buffered : length v.tip ≡ buffered_after P before (length bytes.items) =
        subst (λ (b : Bool). length v.tip ≡ (if b then before.buffered + length bytes.items else (before.buffered + length bytes.items) % P)) (sym is) tip in
        let written = buffered_written sum w v bytes.items old.present before.written sound fits.written all.0 in
        let awaited : awaited_after before (length bytes.items) ≡ pending_in v.sync =
        subst (λ (b : Bool). (if b then before.awaited else None) ≡ pending_in v.sync) (sym is) (fits.awaited ∙ ap (λ (x : WriterState). pending_in x.sync) (sym all.0)) in
        unasked_over sum P was w (Append bytes) (At n) (held was (Some v)) old new before (appended P bytes.items before) all.1 (turned_here before.has_writer fits.has_writer) stands (offset P before stands, refl) (foretold P before stands)
        (appended_stands sum was P w v bytes.items old old before stands goes says.within buffered written awaited stands.kept stands.covered through.start)
    by_room P before stands false is =
        let fits = stands.fits in
        let passes : w.capacity < length w.tip + length bytes.items = pass before w (length bytes.items) fits.buffered fits.capacity is in
        let through = append_through sum was P w bytes.items old new (Ok (v, n)) before sound says.appends stands in
        let h = append_halves sum was P w bytes.items old new before stands through says.owes in
        let kept : AllKeep sum P before.content before.floor new.present = each_end (AllKeep sum P before.content before.floor) old new through.moments h.goes h.kept in
        let covered : AllCover sum P before.content before.covers new.present = each_end (AllCover sum P before.content before.covers) old new through.moments h.goes h.covered in
        let goes = says.appends.1 in
        let dirty : v.sync ≡ Dirty = says.dirty passes in
        let short : length v.tip < v.page_size = omega (arith, says.flushed passes, goes.same.page_size) in
        let rest : length v.tip ≡ (before.buffered + length bytes.items) % P =
        rest_left sum w v old new bytes.items sound goes short ∙ ap (λ (k : ℕ). (k + length bytes.items) % w.page_size) fits.buffered ∙ ap (λ (k : ℕ). (before.buffered + length bytes.items) % k) fits.page_size in
        let buffered : length v.tip ≡ buffered_after P before (length bytes.items) =
        subst (λ (b : Bool). length v.tip ≡ (if b then before.buffered + length bytes.items else (before.buffered + length bytes.items) % P)) (sym is) rest in
        let some : bytes.items ≡ [] → v ≡ w = λ none. absurd (omega (arith, passes, ap length none, fits.within, fits.buffered, fits.capacity)) in
        let written = written_stays w v bytes.items before.written fits.written some (λ more. start_dirty (has_work v true) v.sync dirty) in
        let awaited : awaited_after before (length bytes.items) ≡ pending_in v.sync =
        subst (λ (b : Bool). (if b then before.awaited else None) ≡ pending_in v.sync) (sym is) (ap pending_in (sym dirty)) in
        stepped sum P (Append bytes) (At n) (held was (Some v)) old new before (appended P bytes.items before) through.moments fits.has_writer (turned_here before.has_writer fits.has_writer) h
        (subst (λ (b : Bool). UsesDevice (if b then Leaves else Changes 3) old.present through.moments) (sym is) (few_calls old new through.moments 3 h.goes says.calls))
        (offset P before stands, refl) (foretold P before stands)
        (appended_stands sum was P w v bytes.items old new before stands goes says.within buffered written awaited kept covered h.stays)

-- an append that doesn't fit waits for the started sync, so that sync may have failed
pub had_without_room : (awaited : Option ℕ) (d : Disk) (room : Bool) → (room ≡ true → ⊥) → AwaitedSyncFailed awaited d → AwaitedSyncFailed (if room then None else awaited) d
had_without_room awaited d true never had = absurd (never refl)
had_without_room awaited d false never had = had

-- why an append is refused
append_cause : (sum : List ℕ → ℕ) (P : ℕ) (w : WriterState) (bytes : Vec ℕ Global) (old new : Life) (e : Error) (before : RunState)
    → physical_blob_size w.page_size w.full_pages (length w.tip + length bytes.items) ≡ physical_blob_size P 0 (length before.content + length bytes.items) → before.awaited ≡ pending_in w.sync
    → (fits_buffer before (length bytes.items) ≡ true → e ≡ SyncFailed → ⊥) → Appends sum w bytes.items old new (Err e) → HasCause P (Append bytes) before old.present new.present e
append_cause sum P w bytes old new ReadFailed before offsets awaited room goes = absurd goes.cause
append_cause sum P w bytes old new WriteFailed before offsets awaited room goes = ((0, lit< tt, refl), goes.cause)
append_cause sum P w bytes old new ResizeFailed before offsets awaited room goes = absurd goes.cause
append_cause sum P w bytes old new SyncFailed before offsets awaited room goes = (
  (1, lit< tt, refl),
  elim goes.cause [
    | inl failed ↦ inl failed
    | inr had ↦ inr (had_without_room before.awaited old.present (fits_buffer before (length bytes.items)) (λ is. room is refl) (had_failed_as w.sync before.awaited old.present awaited had))
  ],
)
append_cause sum P w bytes old new InvalidChecksum before offsets awaited room goes = absurd goes.cause
append_cause sum P w bytes old new BlobInsufficientLength before offsets awaited room goes = absurd goes.cause
append_cause sum P w bytes old new OffsetOverflow before offsets awaited room goes = omega (arith, goes.1, offsets)
append_cause sum P w bytes old new OutOfMemory before offsets awaited room goes = tt
append_cause sum P w bytes old new IdsExhausted before offsets awaited room goes = absurd goes.cause

-- an append that is refused
pub append_refused_steps : (sum : List ℕ → ℕ) (was : SessionState) (w : WriterState) (bytes : Vec ℕ Global) (e : Error) (old new : Life) → IsSound sum w old.present → AppendTold sum w bytes.items old new (Err e)
    → AlwaysApart sum (Append bytes) (Fault e) (held was (Some w)) (held was None) old new
unfolding Through
append_refused_steps sum was w bytes e old new sound says = λ P before stands.
    let fits = stands.fits in
    let longer = before.content ++ bytes.items in
    let through = append_through sum was P w bytes.items old new (Err e) before sound says.appends stands in
    let h = append_halves sum was P w bytes.items old new before stands through says.owes in
    let room : fits_buffer before (length bytes.items) ≡ true → BuffersAll w bytes.items old new (Err e) = λ is. says.buffered (fit before w (length bytes.items) fits.buffered fits.capacity is) in
    let cause = append_cause sum P w bytes old new e before (needed_offsets sum was P w (length bytes.items) old before sound stands) fits.awaited (λ is fault. subst (λ (x : Error). BuffersAll w bytes.items old new (Err x)) fault (room is)) says.appends in
    stepped sum P (Append bytes) (Fault e) (held was None) old new before (ended longer before) through.moments fits.has_writer (turned_here before.has_writer fits.has_writer) h
    (touched through.moments h.goes (fits_buffer before (length bytes.items)) (λ is. stayed e (room is)))
    (cause, refl) (append_foretold sum was P w bytes old new (Err e) (Fault e) before sound stands says (λ is. cc is)) (stands_ended sum P was w old new before longer through.moments stands h)
  where
    stayed : (e : Error) → BuffersAll w bytes.items old new (Err e) → new ≡ old
    stayed ReadFailed none = absurd none
    stayed WriteFailed none = absurd none
    stayed ResizeFailed none = absurd none
    stayed SyncFailed none = absurd none
    stayed InvalidChecksum none = absurd none
    stayed BlobInsufficientLength none = absurd none
    stayed OffsetOverflow same = same
    stayed OutOfMemory same = same
    stayed IdsExhausted none = absurd none

    touched : (moments : List Disk) → new ≡ life_after old moments → (room : Bool) → (room ≡ true → new ≡ old) → UsesDevice (if room then Leaves else Changes 3) old.present moments
    touched moments goes true same = no_moments old new moments goes (same refl)
    touched moments goes false same = few_calls old new moments 3 goes says.calls

-- ---- tries

-- a try whose bytes are buffered
pub try_steps : (sum : List ℕ → ℕ) (was : SessionState) (w v : WriterState) (bytes : Vec ℕ Global) (n : ℕ) (life : Life) → IsSound sum w life.present → TryAppendGoes w bytes.items v (Ok (Some n)) → Appends sum w bytes.items life life (Ok (v, n))
    → AlwaysApart sum (TryAppend bytes) (At n) (held was (Some w)) (held was (Some v)) life life
unfolding Through
try_steps sum was w v bytes n life sound tries appends = λ P before stands.
    let fits = stands.fits in
    let through = append_through sum was P w bytes.items life life (Ok (v, n)) before sound appends stands in
    let room : fits_buffer before (length bytes.items) ≡ true = le-leb (before.buffered + length bytes.items) before.capacity (omega (arith, tries.1, fits.buffered, fits.capacity)) in
    let tip : length v.tip ≡ before.buffered + length bytes.items =
    ap (λ (x : WriterState). length x.tip) tries.3 ∙ length-append w.tip bytes.items ∙ ap (λ (k : ℕ). k + length bytes.items) fits.buffered in
    let buffered : length v.tip ≡ buffered_after P before (length bytes.items) =
    subst (λ (b : Bool). length v.tip ≡ (if b then before.buffered + length bytes.items else (before.buffered + length bytes.items) % P)) (sym room) tip in
    let within : HoldsWithin v = omega (arith, tip, appends.1.same.capacity, fits.capacity, fits.buffered, tries.1) in
    let written = buffered_written sum w v bytes.items life.present before.written sound fits.written tries.3 in
    let awaited : awaited_after before (length bytes.items) ≡ pending_in v.sync =
    subst (λ (b : Bool). (if b then before.awaited else None) ≡ pending_in v.sync) (sym room) (fits.awaited ∙ ap (λ (x : WriterState). pending_in x.sync) (sym tries.3)) in
    let offsets = needed_offsets sum was P w (length bytes.items) life before sound stands in
    unasked sum P was w (TryAppend bytes) (At n) (held was (Some v)) life before (appended P bytes.items before) (turned_here before.has_writer fits.has_writer) stands (room, appends.0 ∙ ap length (sym fits.content), refl)
    (λ overflows. absurd (omega (arith, overflows, offsets, tries.0)), λ none. absurd none)
    (appended_stands sum was P w v bytes.items life life before stands appends.1 within buffered written awaited stands.kept stands.covered through.start)

-- a try whose bytes don't fit
pub try_nothing_steps : (sum : List ℕ → ℕ) (was : SessionState) (w v : WriterState) (bytes : Vec ℕ Global) (life : Life) → IsSound sum w life.present → TryAppendGoes w bytes.items v (Ok None) → AlwaysApart sum (TryAppend bytes) Nothing (held was (Some w)) (held was (Some w)) life life
try_nothing_steps sum was w v bytes life sound tries = λ P before stands.
    let fits = stands.fits in
    let passes : before.capacity < before.buffered + length bytes.items = omega (arith, tries.1, fits.buffered, fits.capacity) in
    let room : fits_buffer before (length bytes.items) ≡ false = grind (arith, nat_tests, passes) in
    let offsets = needed_offsets sum was P w (length bytes.items) life before sound stands in
    unasked sum P was w (TryAppend bytes) Nothing (held was (Some w)) life before before (turned_here before.has_writer fits.has_writer) stands (room, refl) (λ overflows. absurd (omega (arith, overflows, offsets, tries.0)), λ none. absurd none) stands

-- why a try is refused
try_cause : (P : ℕ) (w v : WriterState) (bytes : Vec ℕ Global) (before : RunState) (from to : Disk) (e : Error) → length w.tip ≡ before.buffered → w.capacity ≡ before.capacity
    → physical_blob_size w.page_size w.full_pages (length w.tip + length bytes.items) ≡ physical_blob_size P 0 (length before.content + length bytes.items)
    → TryAppendGoes w bytes.items v (Err e) → HasCause P (TryAppend bytes) before from to e × (v ≡ w) × FaultsComeFirst P (TryAppend bytes) (Fault e) before
try_cause P w v bytes before from to ReadFailed buffered capacity offsets tries = absurd tries
try_cause P w v bytes before from to WriteFailed buffered capacity offsets tries = absurd tries
try_cause P w v bytes before from to ResizeFailed buffered capacity offsets tries = absurd tries
try_cause P w v bytes before from to SyncFailed buffered capacity offsets tries = absurd tries
try_cause P w v bytes before from to InvalidChecksum buffered capacity offsets tries = absurd tries
try_cause P w v bytes before from to BlobInsufficientLength buffered capacity offsets tries = absurd tries
try_cause P w v bytes before from to OffsetOverflow buffered capacity offsets tries = (omega (arith, tries.0, offsets), tries.1, (λ overflows. refl, λ none. absurd none))
try_cause P w v bytes before from to OutOfMemory buffered capacity offsets tries = (
  le-leb (before.buffered + length bytes.items) before.capacity (omega (arith, tries.1, buffered, capacity)),
  tries.2,
  (λ overflows. absurd (omega (arith, overflows, offsets, tries.0)), λ none. absurd none),
)
try_cause P w v bytes before from to IdsExhausted buffered capacity offsets tries = absurd tries

-- the writer that a refused try leaves
pub try_same : (w v : WriterState) (bytes : List ℕ) (e : Error) → TryAppendGoes w bytes v (Err e) → v ≡ w
try_same w v bytes ReadFailed tries = absurd tries
try_same w v bytes WriteFailed tries = absurd tries
try_same w v bytes ResizeFailed tries = absurd tries
try_same w v bytes SyncFailed tries = absurd tries
try_same w v bytes InvalidChecksum tries = absurd tries
try_same w v bytes BlobInsufficientLength tries = absurd tries
try_same w v bytes OffsetOverflow tries = tries.1
try_same w v bytes OutOfMemory tries = tries.2
try_same w v bytes IdsExhausted tries = absurd tries

-- a try that is refused
pub try_refused_steps : (sum : List ℕ → ℕ) (was : SessionState) (w v : WriterState) (bytes : Vec ℕ Global) (e : Error) (life : Life) → IsSound sum w life.present → TryAppendGoes w bytes.items v (Err e)
    → AlwaysApart sum (TryAppend bytes) (Fault e) (held was (Some w)) (held was (Some w)) life life
try_refused_steps sum was w v bytes e life sound tries = λ P before stands.
    let cause = try_cause P w v bytes before life.present life.present e stands.fits.buffered stands.fits.capacity (needed_offsets sum was P w (length bytes.items) life before sound stands) tries in
    unasked sum P was w (TryAppend bytes) (Fault e) (held was (Some w)) life before before (turned_here before.has_writer stands.fits.has_writer) stands (cause.0, refl) cause.2 stands
