-- What the steps that read ranges do.
use Rattle.std.proofs.Common.{◌≡◌, ◌⊎◌, ℕ, zero, suc, ◌+◌, ◌^◌, ◌<◌, ◌≤◌, List, [], ◌∷◌, ◌++◌, length, take, drop, cond, refl, sym, ap, ◌∙◌, subst, arith, inl, inr, Bool, true, false, Ok, Err, Result, Vec, lit<}
use Rattle.std.specs.Prelude.{Option, Some, None, nat_le, nat_lt, ◌&&◌, if◌then◌else◌, sum_by}
use Rattle.std.specs.List.{filter, flat_map, range_with_len}
use Rattle.std.specs.declared.alloc.Global.{Global}
use Rattle.std.proofs.lemmas.Bool.{leb-true, le-leb, and_parts, false≢true}
use Rattle.std.proofs.lemmas.List.{drop_all}
use Rattle.disk.specs.Disk.{Life}
use Rattle.disk.specs.declared.error.Error.{Error}
use Rattle.disk.specs.declared.error.Error.TheVariants.{ReadFailed, WriteFailed, ResizeFailed, SyncFailed, InvalidChecksum, BlobInsufficientLength, OffsetOverflow, OutOfMemory, IdsExhausted}
use Rattle.page.specs.Geometry.{AreInOrderFrom, AreInOrder, EndWithin, RangesGo}
use Rattle.crash.specs.Kept.{AllOnly, Through}
use Rattle.crash.specs.Looks.{Looked, looked_start}
use Rattle.crash.specs.Started.{StartsCanBeAwaited}
use Rattle.writer_state.specs.WriterState.{WriterState}
use Rattle.writer_state.specs.Sound.{IsSound}
use Rattle.cache.specs.CacheState.{CacheState}
use Rattle.paged_read.specs.Tail.{Tail}
use Rattle.paged_read.specs.Failures.{none_failed_start}
use Rattle.paged_read.specs.Ranges.{missing, is_served, missed_from, page_ranges, ReadsMany, AsksTogether, Misses}
use Rattle.paged_read.proofs.RangedLists.{refused_not}
use Rattle.paged.specs.Caches.{tail_of}
use Rattle.paged.specs.Reads.{size_of}
use Rattle.paged.proofs.Flushes.{size_is_length}
use Rattle.paged.proofs.There.{reads_keep_sound}
use Rattle.session.specs.declared.steps.Step.{Step}
use Rattle.session.specs.declared.steps.Step.TheVariants.{ReadRanges, TryReadRanges}
use Rattle.session.specs.declared.steps.Reply.{Reply}
use Rattle.session.specs.declared.steps.Reply.TheVariants.{At, Nothing, Done, Started, Answer, Length, Bytes, Fault, Closed, NotRecovering, NoSuch, Served, Missed, BadRanges, Taken, Sealed, NotAppending, Replaying}
use Rattle.session.specs.Run.{RunState, SessionState, in_order_from, fit_together, turned_away, content_after, HasCause, TakesStep, FaultsComeFirst, RiseBelow, NumbersSome, use_of_step}
use Rattle.session.specs.Calls.{CostsRanges, ReadsRanges, ReadRangesSays, DidReadRanges, TriedRanges, DidTryReadRanges}
use Rattle.paged_read.specs.Reads.{ReadManyCosts}
use Rattle.paged_read.proofs.PutLaws.{puts_none}
use Rattle.std.proofs.lemmas.List.Sorted.{IsPermutation-refl}
use Rattle.session.proofs.StepLaws.{held, answers_away, leaves, begun_keeps, begun_covers, only_there, raised_within, unasked}
use Rattle.session.proofs.SizeLaws.{looked_steps, alike_stays_started}
use Rattle.session.proofs.SessionLaws.{closed_takes, held_takes, sound_of, same_rest}
use Rattle.session.proofs.Apart.{AlwaysApart, IsReadyApart, StandsApart, StepsApart}

-- ---- ranges that one call can take

-- the loop has gone over all ranges
order_all : (ranges : List (ℕ × ℕ)) (i end : ℕ) → length ranges ≤ i → in_order_from end (drop i ranges) ≡ in_order_from 0 ranges → in_order_from 0 ranges ≡ true
order_all ranges i end all order = sym order ∙ ap (λ (rs : List (ℕ × ℕ)). in_order_from end rs) (drop_all i ranges all)

total_all : (ranges : List (ℕ × ℕ)) (i total : ℕ) → length ranges ≤ i → total + sum_by (λ range. range.1) (drop i ranges) ≡ sum_by (λ range. range.1) ranges → total ≡ sum_by (λ range. range.1) ranges
total_all ranges i total all sum =
    let none : sum_by (λ (range : ℕ × ℕ). range.1) (drop i ranges) ≡ 0 = ap (λ (rs : List (ℕ × ℕ)). sum_by (λ range. range.1) rs) (drop_all i ranges all) in
    omega (arith, none, sum)

-- then the ranges fit in one call
all_fit : (ranges : List (ℕ × ℕ)) (total : ℕ) → in_order_from 0 ranges ≡ true → total ≡ sum_by (λ range. range.1) ranges → total < 2 ^ 64 → true ≡ fit_together ranges
all_fit ranges total order is small =
    let few : nat_lt (sum_by (λ (range : ℕ × ℕ). range.1) ranges) (2 ^ 64) ≡ true = le-leb (suc (sum_by (λ (range : ℕ × ℕ). range.1) ranges)) (2 ^ 64) (omega (arith, is, small)) in
    sym (ap (λ (b : Bool). b && nat_lt (sum_by (λ range. range.1) ranges) (2 ^ 64)) order ∙ few)

-- ranges are in order where they are tested to be
in_order : (offset : ℕ) (ranges : List (ℕ × ℕ)) → in_order_from offset ranges ≡ true → AreInOrderFrom offset ranges
in_order offset [] is = tt
in_order offset (range ∷ ranges) is =
    let parts = and_parts (nat_le offset range.0) (in_order_from (range.0 + range.1) ranges) is in
    (leb-true offset range.0 parts.0, in_order (range.0 + range.1) ranges parts.1)

-- once the loop has gone over all ranges
pub fit_after : (ranges : List (ℕ × ℕ)) (i end total : ℕ) → length ranges ≤ i → in_order_from end (drop i ranges) ≡ in_order_from 0 ranges → total + sum_by (λ range. range.1) (drop i ranges) ≡ sum_by (λ range. range.1) ranges → total < 2 ^ 64
    → true ≡ fit_together ranges
fit_after ranges i end total all order sum small = all_fit ranges total (order_all ranges i end all order) (total_all ranges i total all sum) small

pub in_order_after : (ranges : List (ℕ × ℕ)) (i end : ℕ) → length ranges ≤ i → in_order_from end (drop i ranges) ≡ in_order_from 0 ranges → AreInOrder ranges
in_order_after ranges i end all order = in_order 0 ranges (order_all ranges i end all order)

-- ---- the first range that can't be read

-- there is only one first range that can't be read
one_first : (size : ℕ) (before before_it after after_it : List (ℕ × ℕ)) (range other : ℕ × ℕ) → before ++ range ∷ after ≡ before_it ++ other ∷ after_it → EndWithin size before → EndWithin size before_it → size < range.0 + range.1 → size < other.0 + other.1 → range ≡ other
one_first size [] [] after after_it range other is ends ends_it passes passes_it = cc is
one_first size [] (first ∷ before_it) after after_it range other is ends ends_it passes passes_it =
    let same : range ≡ first = cc is in
    let within : first.0 + first.1 ≤ size = ends_it 0 first (omega arith) in
    absurd (omega (arith, passes, within, ap (λ (r : ℕ × ℕ). r.0 + r.1) same))
one_first size (first ∷ before) [] after after_it range other is ends ends_it passes passes_it =
    let same : first ≡ other = cc is in
    let within : first.0 + first.1 ≤ size = ends 0 first (omega arith) in
    absurd (omega (arith, passes_it, within, ap (λ (r : ℕ × ℕ). r.0 + r.1) same))
one_first size (first ∷ before) (first_it ∷ before_it) after after_it range other is ends ends_it passes passes_it =
    let rest : before ++ range ∷ after ≡ before_it ++ other ∷ after_it = cc is in
    one_first size before before_it after after_it range other rest (λ k d less. ends (suc k) d (omega (arith, less))) (λ k d less. ends_it (suc k) d (omega (arith, less))) passes passes_it

-- so that range doesn't pass both the greatest `u64` and only the end
not_both : (size : ℕ) (ranges : List (ℕ × ℕ)) → size < 2 ^ 64 → RangesGo size ranges (Err OffsetOverflow) → RangesGo size ranges (Err BlobInsufficientLength) → ⊥
not_both size ranges small (before, after, (range, is, ends, goes)) (before_it, after_it, (other, is_it, ends_it, goes_it)) =
    let same = one_first size before before_it after after_it range other (sym is ∙ is_it) ends ends_it (omega (arith, goes, small)) goes_it.1 in
    omega (arith, goes, goes_it.0, ap (λ (r : ℕ × ℕ). r.0 + r.1) same)

-- an overflow of that range is answered
overflow_told : (sum : List ℕ → ℕ) (w : WriterState) (cache : CacheState) (ranges : List (ℕ × ℕ)) (old new : Life) (reply : Reply) → size_of w < 2 ^ 64 → ReadsRanges sum w cache ranges old new reply → RangesGo (size_of w) ranges (Err OffsetOverflow) → reply ≡ Fault OffsetOverflow
overflow_told sum w cache ranges old new (Served count bytes) small reads goes = absurd (refused_not (size_of w) ranges OffsetOverflow small goes reads.0)
overflow_told sum w cache ranges old new (Fault OffsetOverflow) small reads goes = refl
overflow_told sum w cache ranges old new (Fault BlobInsufficientLength) small reads goes = absurd (not_both (size_of w) ranges small goes reads.1)
overflow_told sum w cache ranges old new (Fault ReadFailed) small reads goes = absurd (refused_not (size_of w) ranges OffsetOverflow small goes reads.0)
overflow_told sum w cache ranges old new (Fault WriteFailed) small reads goes = absurd reads.1
overflow_told sum w cache ranges old new (Fault ResizeFailed) small reads goes = absurd reads.1
overflow_told sum w cache ranges old new (Fault SyncFailed) small reads goes = absurd reads.1
overflow_told sum w cache ranges old new (Fault InvalidChecksum) small reads goes = absurd (refused_not (size_of w) ranges OffsetOverflow small goes reads.0)
overflow_told sum w cache ranges old new (Fault OutOfMemory) small reads goes = absurd (refused_not (size_of w) ranges OffsetOverflow small goes reads.0)
overflow_told sum w cache ranges old new (Fault IdsExhausted) small reads goes = absurd reads.1
overflow_told sum w cache ranges old new (At n) small reads goes = absurd reads
overflow_told sum w cache ranges old new Nothing small reads goes = absurd reads
overflow_told sum w cache ranges old new Done small reads goes = absurd reads
overflow_told sum w cache ranges old new (Started sync) small reads goes = absurd reads
overflow_told sum w cache ranges old new (Answer answer) small reads goes = absurd reads
overflow_told sum w cache ranges old new (Length n) small reads goes = absurd reads
overflow_told sum w cache ranges old new (Bytes bytes) small reads goes = absurd reads
overflow_told sum w cache ranges old new (Missed numbers) small reads goes = absurd reads
overflow_told sum w cache ranges old new Closed small reads goes = absurd reads
overflow_told sum w cache ranges old new NotRecovering small reads goes = absurd reads
overflow_told sum w cache ranges old new BadRanges small reads goes = absurd reads
overflow_told sum w cache ranges old new (Taken index) small reads goes = absurd reads
overflow_told sum w cache ranges old new (Sealed index sync) small reads goes = absurd reads
overflow_told sum w cache ranges old new NotAppending small reads goes = absurd reads
overflow_told sum w cache ranges old new (Replaying number) small reads goes = absurd reads
overflow_told sum w cache ranges old new NoSuch small reads goes = absurd reads

end_told : (sum : List ℕ → ℕ) (w : WriterState) (cache : CacheState) (ranges : List (ℕ × ℕ)) (old new : Life) (reply : Reply) → size_of w < 2 ^ 64 → ReadsRanges sum w cache ranges old new reply → RangesGo (size_of w) ranges (Err BlobInsufficientLength) → reply ≡ Fault BlobInsufficientLength
end_told sum w cache ranges old new (Served count bytes) small reads goes = absurd (refused_not (size_of w) ranges BlobInsufficientLength small goes reads.0)
end_told sum w cache ranges old new (Fault OffsetOverflow) small reads goes = absurd (not_both (size_of w) ranges small reads.1 goes)
end_told sum w cache ranges old new (Fault BlobInsufficientLength) small reads goes = refl
end_told sum w cache ranges old new (Fault ReadFailed) small reads goes = absurd (refused_not (size_of w) ranges BlobInsufficientLength small goes reads.0)
end_told sum w cache ranges old new (Fault WriteFailed) small reads goes = absurd reads.1
end_told sum w cache ranges old new (Fault ResizeFailed) small reads goes = absurd reads.1
end_told sum w cache ranges old new (Fault SyncFailed) small reads goes = absurd reads.1
end_told sum w cache ranges old new (Fault InvalidChecksum) small reads goes = absurd (refused_not (size_of w) ranges BlobInsufficientLength small goes reads.0)
end_told sum w cache ranges old new (Fault OutOfMemory) small reads goes = absurd (refused_not (size_of w) ranges BlobInsufficientLength small goes reads.0)
end_told sum w cache ranges old new (Fault IdsExhausted) small reads goes = absurd reads.1
end_told sum w cache ranges old new (At n) small reads goes = absurd reads
end_told sum w cache ranges old new Nothing small reads goes = absurd reads
end_told sum w cache ranges old new Done small reads goes = absurd reads
end_told sum w cache ranges old new (Started sync) small reads goes = absurd reads
end_told sum w cache ranges old new (Answer answer) small reads goes = absurd reads
end_told sum w cache ranges old new (Length n) small reads goes = absurd reads
end_told sum w cache ranges old new (Bytes bytes) small reads goes = absurd reads
end_told sum w cache ranges old new (Missed numbers) small reads goes = absurd reads
end_told sum w cache ranges old new Closed small reads goes = absurd reads
end_told sum w cache ranges old new NotRecovering small reads goes = absurd reads
end_told sum w cache ranges old new BadRanges small reads goes = absurd reads
end_told sum w cache ranges old new (Taken index) small reads goes = absurd reads
end_told sum w cache ranges old new (Sealed index sync) small reads goes = absurd reads
end_told sum w cache ranges old new NotAppending small reads goes = absurd reads
end_told sum w cache ranges old new (Replaying number) small reads goes = absurd reads
end_told sum w cache ranges old new NoSuch small reads goes = absurd reads

-- ---- what a read of them says

-- a read answers the error of the first range that can't be read
says_by : (sum : List ℕ → ℕ) (w : WriterState) (cache after : CacheState) (ranges : List (ℕ × ℕ)) (old new : Life) (reply : Reply) → size_of w < 2 ^ 64 → ReadsRanges sum w cache ranges old new reply → (reply ≡ Fault InvalidChecksum → ⊥) → CostsRanges sum w cache after ranges old new reply → Looked old new
    → ReadRangesSays sum w cache after ranges old new reply
says_by sum w cache after ranges old new reply small reads full costs looked = record {
  reads = reads;
  full = full;
  overflow = overflow_told sum w cache ranges old new reply small reads;
  end = end_told sum w cache ranges old new reply small reads;
  costs = costs;
  looked = looked;
}

-- nothing is asked for where the blob stayed
asks_none : (ranges : List (ℕ × ℕ)) (life : Life) → AsksTogether ranges life life
asks_none [] life = refl
asks_none (range ∷ ranges) life = inl refl

-- nothing is put in the cache either
costs_nothing : (sum : List ℕ → ℕ) (w : WriterState) (cache : CacheState) (ranges : List (ℕ × ℕ)) (life : Life) (e : Error) → CostsRanges sum w cache cache ranges life life (Fault e)
costs_nothing sum w cache ranges life e =
    let pages = missing cache (tail_of w) ranges in
    record {
      asks = asks_none (page_ranges w.page_size pages) life;
      puts = record { order = pages; each = IsPermutation-refl pages; puts = puts_none sum (tail_of w) pages life.present.readable cache };
    }

-- the first that can't be read decides
refused_reads : (sum : List ℕ → ℕ) (w : WriterState) (cache : CacheState) (ranges : List (ℕ × ℕ)) (life : Life) (e : Error) → RangesGo (size_of w) ranges (Err e) → ReadsMany sum (tail_of w) cache ranges [] life life (Err e)
refused_reads sum w cache ranges life OffsetOverflow goes = (refl, goes)
refused_reads sum w cache ranges life BlobInsufficientLength goes = (refl, goes)
refused_reads sum w cache ranges life ReadFailed (before, after, (range, is, ends, goes)) = absurd goes
refused_reads sum w cache ranges life WriteFailed (before, after, (range, is, ends, goes)) = absurd goes
refused_reads sum w cache ranges life ResizeFailed (before, after, (range, is, ends, goes)) = absurd goes
refused_reads sum w cache ranges life SyncFailed (before, after, (range, is, ends, goes)) = absurd goes
refused_reads sum w cache ranges life InvalidChecksum (before, after, (range, is, ends, goes)) = absurd goes
refused_reads sum w cache ranges life OutOfMemory (before, after, (range, is, ends, goes)) = absurd goes
refused_reads sum w cache ranges life IdsExhausted (before, after, (range, is, ends, goes)) = absurd goes

refused_full : (size : ℕ) (ranges : List (ℕ × ℕ)) (e : Error) → RangesGo size ranges (Err e) → Fault e ≡ Fault InvalidChecksum → ⊥
refused_full size ranges OffsetOverflow goes is = cc is
refused_full size ranges BlobInsufficientLength goes is = cc is
refused_full size ranges ReadFailed goes is = cc is
refused_full size ranges WriteFailed goes is = cc is
refused_full size ranges ResizeFailed goes is = cc is
refused_full size ranges SyncFailed goes is = cc is
refused_full size ranges InvalidChecksum (before, after, (range, at, ends, goes)) is = goes
refused_full size ranges OutOfMemory goes is = cc is
refused_full size ranges IdsExhausted goes is = cc is

pub refused_says : (sum : List ℕ → ℕ) (w : WriterState) (cache : CacheState) (ranges : List (ℕ × ℕ)) (life : Life) (e : Error) (size : ℕ) → size ≡ size_of w → size < 2 ^ 64 → RangesGo size ranges (Err e) → ReadRangesSays sum w cache cache ranges life life (Fault e)
refused_says sum w cache ranges life e size is small goes =
    let here : RangesGo (size_of w) ranges (Err e) = subst (λ (n : ℕ). RangesGo n ranges (Err e)) is goes in
    says_by sum w cache cache ranges life life (Fault e) (omega (arith, is, small)) (refused_reads sum w cache ranges life e here) (refused_full (size_of w) ranges e here) (costs_nothing sum w cache ranges life e) (looked_start life)

-- where none was refused they can be read
none_refused : (size : ℕ) (ranges : List (ℕ × ℕ)) (result : Result (Unit {0}) Error) → ((e : Error) → result ≡ Err e → ⊥) → RangesGo size ranges result → EndWithin size ranges
none_refused size ranges (Ok u) not_err goes = goes
none_refused size ranges (Err e) not_err goes = absurd (not_err e refl)

-- there is no memory for bytes within the size
pub no_room_says : (sum : List ℕ → ℕ) (w : WriterState) (cache : CacheState) (ranges : List (ℕ × ℕ)) (life : Life) (e : Error) (size : ℕ) (result : Result (Unit {0}) Error) → size ≡ size_of w → size < 2 ^ 64 → e ≡ OutOfMemory → ((error : Error) → result ≡ Err error → ⊥) → RangesGo size ranges result
    → ReadRangesSays sum w cache cache ranges life life (Fault e)
no_room_says sum w cache ranges life e size result same small is not_err goes =
    let ends : EndWithin (size_of w) ranges = subst (λ (n : ℕ). EndWithin n ranges) same (none_refused size ranges result not_err goes) in
    subst (λ (x : Error). ReadRangesSays sum w cache cache ranges life life (Fault x)) (sym is)
    (says_by sum w cache cache ranges life life (Fault OutOfMemory) (omega (arith, same, small)) (ends, none_failed_start life.present) (λ other. cc other) (costs_nothing sum w cache ranges life OutOfMemory) (looked_start life))

-- bytes were read
pub served_says : (sum : List ℕ → ℕ) (w : WriterState) (cache after : CacheState) (ranges : List (ℕ × ℕ)) (buf : List ℕ) (old new : Life) (count : ℕ) (bytes : Vec ℕ Global) → size_of w < 2 ^ 64 → bytes.items ≡ buf → ReadsMany sum (tail_of w) cache ranges buf old new (Ok count) → ReadManyCosts {A = ℕ} sum (tail_of w) ranges cache after old new (Ok count)
    → Looked old new → ReadRangesSays sum w cache after ranges old new (Served count bytes)
served_says sum w cache after ranges buf old new count bytes small is reads costs looked =
    says_by sum w cache after ranges old new (Served count bytes) small (subst (λ (l : List ℕ). ReadsMany sum (tail_of w) cache ranges l old new (Ok count)) (sym is) reads) (λ other. cc other) costs looked

-- why no bytes were read doesn't depend on the bytes
no_bytes : (sum : List ℕ → ℕ) (t : Tail) (cache : CacheState) (ranges : List (ℕ × ℕ)) (bytes : List ℕ) (old new : Life) (e : Error) → ReadsMany sum t cache ranges bytes old new (Err e) → ReadsMany sum t cache ranges [] old new (Err e)
no_bytes sum t cache ranges bytes old new ReadFailed reads = reads
no_bytes sum t cache ranges bytes old new WriteFailed reads = reads
no_bytes sum t cache ranges bytes old new ResizeFailed reads = reads
no_bytes sum t cache ranges bytes old new SyncFailed reads = reads
no_bytes sum t cache ranges bytes old new InvalidChecksum reads = reads
no_bytes sum t cache ranges bytes old new BlobInsufficientLength reads = reads
no_bytes sum t cache ranges bytes old new OffsetOverflow reads = reads
no_bytes sum t cache ranges bytes old new OutOfMemory reads = reads
no_bytes sum t cache ranges bytes old new IdsExhausted reads = reads

pub fault_says : (sum : List ℕ → ℕ) (w : WriterState) (cache after : CacheState) (ranges : List (ℕ × ℕ)) (bytes : List ℕ) (old new : Life) (e : Error) → size_of w < 2 ^ 64 → (e ≡ InvalidChecksum → ⊥) → ReadsMany sum (tail_of w) cache ranges bytes old new (Err e) → ReadManyCosts {A = ℕ} sum (tail_of w) ranges cache after old new (Err e) → Looked old new
    → ReadRangesSays sum w cache after ranges old new (Fault e)
fault_says sum w cache after ranges bytes old new e small full reads costs looked = says_by sum w cache after ranges old new (Fault e) small (no_bytes sum (tail_of w) cache ranges bytes old new e reads) (λ is. full (cc is)) costs looked

-- ---- a read of ranges as a step

-- a read of ranges is turned away by two tests: whether there is a writer, and whether the ranges
-- fit
turned_none : (a fit : Bool) → a ≡ false → (if a then (if fit then None else Some BadRanges) else Some Closed) ≡ Some Closed
turned_none false fit none = refl
turned_none true fit none = absurd (false≢true (sym none))

turned_bad : (a fit : Bool) → a ≡ true → fit ≡ false → (if a then (if fit then None else Some BadRanges) else Some Closed) ≡ Some BadRanges
turned_bad true false has bad = refl
turned_bad false fit has bad = absurd (false≢true has)
turned_bad true true has bad = absurd (false≢true (sym bad))

turned_fit : (a fit : Bool) → a ≡ true → fit ≡ true → (if a then (if fit then None else Some BadRanges) else Some Closed) ≡ None
turned_fit true true has fits = refl
turned_fit false fit has fits = absurd (false≢true has)
turned_fit true false has fits = absurd (false≢true fits)

-- a step that is turned away though there is a writer
pub away_steps : (sum : List ℕ → ℕ) (step : Step) (reply : Reply) (was : SessionState) (w : WriterState) (life : Life) → ((before : RunState) → before.has_writer ≡ true → was.recovering ≡ before.recovering → turned_away step before ≡ Some reply) → ((content : List ℕ) → content_after step content ≡ content)
    → AlwaysApart sum step reply (held was (Some w)) (held was (Some w)) life life
away_steps sum step reply was w life away same = λ P before stands.
    let only : AllOnly sum P before.content (if before.has_writer then content_after step before.content else before.otherwise) life.present =
    subst (λ (l : List ℕ). AllOnly sum P before.content (if before.has_writer then l else before.otherwise) life.present) (sym (same before.content)) (only_there sum P (Some w) before life.present life.present stands.fits stands.only) in
    record {
      moments = [];
      goes = refl;
      after = before;
      did = record {
        answer = answers_away sum P step reply life.present life.present before (away before stands.fits.has_writer stands.phase);
        touches = leaves (use_of_step P step before) life.present;
        stopped = λ gone. refl;
        kept = (begun_keeps sum P step before life.present stands.kept, tt);
        covered = (begun_covers sum P step before life.present stands.covered, tt);
        only = (only, tt);
        within = raised_within sum P (held was (Some w)) life life before [] refl stands;
      };
      stands = stands;
      same = refl;
      alike = refl;
    }

-- of a session with a writer
bad_takes : (sum : List ℕ → ℕ) (step : Step) (was : SessionState) (w : WriterState) (old new : Life) (reply : Reply) → ((before : RunState) → before.has_writer ≡ true → turned_away step before ≡ Some BadRanges) → ((content : List ℕ) → content_after step content ≡ content)
    → was.writer ≡ Some w → IsReadyApart sum was old.present → reply ≡ BadRanges → new ≡ old → StepsApart sum step reply was was old new
bad_takes sum step was w old new reply away stays at ready replied same =
    subst (λ (r : Reply). StepsApart sum step r was was old new) (sym replied)
    (subst (λ (life : Life). StepsApart sum step BadRanges was was old life) (sym same)
    (held_takes sum step BadRanges was was w (Some w) old old at (same_rest was) at (sound_of sum was w old.present at ready) ready.starts (away_steps sum step BadRanges was w old (λ before has phase. away before has) stays)))

-- why a read of ranges is refused
ranges_cause : (sum : List ℕ → ℕ) (P : ℕ) (w : WriterState) (cache : CacheState) (ranges : Vec (ℕ × ℕ) Global) (before : RunState) (old new : Life) (e : Error) → size_of w ≡ length before.content → (e ≡ InvalidChecksum → ⊥) → ReadsMany sum (tail_of w) cache ranges.items [] old new (Err e)
    → HasCause P (ReadRanges ranges) before old.present new.present e
ranges_cause sum P w cache ranges before old new ReadFailed size full goes = ((0, lit< tt, refl), goes.1)
ranges_cause sum P w cache ranges before old new WriteFailed size full goes = absurd goes.1
ranges_cause sum P w cache ranges before old new ResizeFailed size full goes = absurd goes.1
ranges_cause sum P w cache ranges before old new SyncFailed size full goes = absurd goes.1
ranges_cause sum P w cache ranges before old new InvalidChecksum size full goes = absurd (full refl)
ranges_cause sum P w cache ranges before old new BlobInsufficientLength size full goes = subst (λ (n : ℕ). RangesGo n ranges.items (Err BlobInsufficientLength)) size goes.1
ranges_cause sum P w cache ranges before old new OffsetOverflow size full goes = subst (λ (n : ℕ). RangesGo n ranges.items (Err OffsetOverflow)) size goes.1
ranges_cause sum P w cache ranges before old new OutOfMemory size full goes = tt
ranges_cause sum P w cache ranges before old new IdsExhausted size full goes = absurd goes.1

-- a filter leaves no more elements than there are
filter_few : {X : Type 0} (p : X → Bool) (xs : List X) → length (filter p xs) ≤ length xs
filter_few p [] = omega arith
filter_few p (x ∷ xs) = by_test (p x) (filter_few p xs)
  where
    by_test : (b : Bool) → length (filter p xs) ≤ length xs → length (cond b (x ∷ filter p xs) (filter p xs)) ≤ suc (length xs)
    by_test true few = omega (arith, few)
    by_test false few = omega (arith, few)

-- a read of ranges that one call can take
read_ranges_steps : (sum : List ℕ → ℕ) (was : SessionState) (w : WriterState) (cache after : CacheState) (ranges : Vec (ℕ × ℕ) Global) (old new : Life) (reply : Reply) → fit_together ranges.items ≡ true → IsSound sum w old.present → ReadRangesSays sum w cache after ranges.items old new reply
    → AlwaysApart sum (ReadRanges ranges) reply (held was (Some w)) (held was (Some w)) old new
unfolding Through
read_ranges_steps sum was w cache after ranges old new reply fits sound says = λ P before stands.
    let size : size_of w ≡ length before.content = size_is_length sum w old sound ∙ ap length (sym stands.fits.content) in
    let foretold : FaultsComeFirst P (ReadRanges ranges) reply before = (
      λ passes. says.overflow (subst (λ (n : ℕ). RangesGo n ranges.items (Err OffsetOverflow)) (sym size) passes),
      λ passes. says.end (subst (λ (n : ℕ). RangesGo n ranges.items (Err BlobInsufficientLength)) (sym size) passes),
    ) in
    looked_steps sum was P w (ReadRanges ranges) reply old new before refl refl (turned_fit before.has_writer (fit_together ranges.items) stands.fits.has_writer fits) sound says.looked says.looked.through says.looked.through.each stands (taken reply P before stands size says.full says.reads) foretold
  where
    taken : (r : Reply) (P : ℕ) (before : RunState) → StandsApart sum P (held was (Some w)) before old.present → size_of w ≡ length before.content → (r ≡ Fault InvalidChecksum → ⊥) → ReadsRanges sum w cache ranges.items old new r → TakesStep sum P (ReadRanges ranges) r old.present new.present before before
    taken (Served count bytes) P before stands size full reads =
        let few : count ≤ length ranges.items = omega (arith, reads.1, filter_few (is_served cache (tail_of w)) ranges.items) in (
          (subst (λ (n : ℕ). EndWithin n ranges.items) size reads.0, reads.2 ∙ ap (λ (l : List ℕ). flat_map (λ (range : ℕ × ℕ). take range.1 (drop range.0 l)) ranges.items) (sym stands.fits.content)),
          few,
          refl,
        )
    taken (Fault e) P before stands size full reads = let cause = ranges_cause sum P w cache ranges before old new e size (λ is. full (ap Fault is)) reads in (cause, refl)
    taken (At n) P before stands size full reads = absurd reads
    taken Nothing P before stands size full reads = absurd reads
    taken Done P before stands size full reads = absurd reads
    taken (Started sync) P before stands size full reads = absurd reads
    taken (Answer answer) P before stands size full reads = absurd reads
    taken (Length n) P before stands size full reads = absurd reads
    taken (Bytes bytes) P before stands size full reads = absurd reads
    taken Closed P before stands size full reads = absurd reads
    taken NotRecovering P before stands size full reads = absurd reads
    taken BadRanges P before stands size full reads = absurd reads
    taken (Taken index) P before stands size full reads = absurd reads
    taken (Sealed index sync) P before stands size full reads = absurd reads
    taken NotAppending P before stands size full reads = absurd reads
    taken (Replaying number) P before stands size full reads = absurd reads
    taken NoSuch P before stands size full reads = absurd reads
    taken (Missed numbers) P before stands size full reads = absurd reads

-- a read of ranges by a session
pub read_ranges_takes : (sum : List ℕ → ℕ) (was : SessionState) (cache after : CacheState) (ranges : Vec (ℕ × ℕ) Global) (old new : Life) (reply : Reply) → IsReadyApart sum was old.present → DidReadRanges sum was.writer (fit_together ranges.items) cache after ranges.items old new reply
    → StepsApart sum (ReadRanges ranges) reply was was old new
read_ranges_takes sum was cache after ranges old new reply ready goes = by_writer was.writer refl (fit_together ranges.items) refl goes
  where
    by_writer : (o : Option WriterState) → was.writer ≡ o → (fit : Bool) → fit_together ranges.items ≡ fit → DidReadRanges sum o fit cache after ranges.items old new reply → StepsApart sum (ReadRanges ranges) reply was was old new
    by_writer None at fit is goes = closed_takes sum (ReadRanges ranges) was was old new reply (λ before none. turned_none before.has_writer (fit_together ranges.items) none) at ready goes.0 refl goes.1
    by_writer (Some w) at false is goes = bad_takes sum (ReadRanges ranges) was w old new reply (λ before has. turned_bad before.has_writer (fit_together ranges.items) has is) (λ content. refl) at ready goes.0 goes.1
    by_writer (Some w) at true is says =
        let sound = sound_of sum was w old.present at ready in
        let starts : (was.names ≡ []) ⊎ StartsCanBeAwaited new.present = elim ready.starts [ inl none ↦ inl none | inr stand ↦ inr (alike_stays_started old.present new.present says.looked.same stand) ] in
        held_takes sum (ReadRanges ranges) reply was was w (Some w) old new at (same_rest was) at (reads_keep_sound sum w old new says.looked sound) starts (read_ranges_steps sum was w cache after ranges old new reply is sound says)

-- ---- a question for ranges

-- numbers that rise from a later start
rise_before : (from end : ℕ) (ns : List ℕ) → RiseBelow (from + 1) end ns → RiseBelow from end ns
rise_before from end [] rise = tt
rise_before from end (n ∷ ns) rise = (omega (arith, rise.0), rise.1, rise.2)

-- the numbers of the missed ranges rise
missed_rise : (cache : CacheState) (t : Tail) (n end : ℕ) (ranges : List (ℕ × ℕ)) → n + length ranges ≤ end → RiseBelow n end (missed_from n cache t ranges)
missed_rise cache t n end [] enough = tt
missed_rise cache t n end (range ∷ ranges) enough = by_test (is_served cache t range) (missed_rise cache t (n + 1) end ranges (omega (arith, enough)))
  where
    by_test : (b : Bool) → RiseBelow (n + 1) end (missed_from (n + 1) cache t ranges) → RiseBelow n end (if b then missed_from (n + 1) cache t ranges else n ∷ missed_from (n + 1) cache t ranges)
    by_test true rise = rise_before n end (missed_from (n + 1) cache t ranges) rise
    by_test false rise = (omega arith, omega (arith, enough), rise)

-- the numbers of all ranges rise
all_rise : (n end count : ℕ) → n + count ≤ end → RiseBelow n end (range_with_len n count)
all_rise n end zero enough = tt
all_rise n end (suc count) enough = (omega arith, omega (arith, enough), all_rise (n + 1) end count (omega (arith, enough)))

-- which numbers a question answers, by the content
numbers_some : (w : WriterState) (cache : CacheState) (ranges : List (ℕ × ℕ)) (content numbers : List ℕ) → size_of w ≡ length content → Misses (tail_of w) ranges cache numbers → NumbersSome content ranges numbers
numbers_some w cache ranges content numbers size (inl (ends, is)) =
    (subst (λ (ns : List ℕ). RiseBelow 0 (length ranges) ns) (sym is) (missed_rise cache (tail_of w) 0 (length ranges) ranges (omega arith)), inl (subst (λ (n : ℕ). EndWithin n ranges) size ends))
numbers_some w cache ranges content numbers size (inr (passes, is)) =
    (subst (λ (ns : List ℕ). RiseBelow 0 (length ranges) ns) (sym is) (all_rise 0 (length ranges) (length ranges) (omega arith)), inr is)

try_read_ranges_steps : (sum : List ℕ → ℕ) (was : SessionState) (w : WriterState) (cache : CacheState) (ranges : Vec (ℕ × ℕ) Global) (life : Life) (reply : Reply) → fit_together ranges.items ≡ true → IsSound sum w life.present → TriedRanges w cache ranges.items reply
    → AlwaysApart sum (TryReadRanges ranges) reply (held was (Some w)) (held was (Some w)) life life
try_read_ranges_steps sum was w cache ranges life reply fits sound tried = λ P before stands.
    let size : size_of w ≡ length before.content = size_is_length sum w life sound ∙ ap length (sym stands.fits.content) in
    unasked sum P was w (TryReadRanges ranges) reply (held was (Some w)) life before before (turned_fit before.has_writer (fit_together ranges.items) stands.fits.has_writer fits) stands (taken reply P before size tried) (λ none. absurd none, λ none. absurd none) stands
  where
    taken : (r : Reply) (P : ℕ) (before : RunState) → size_of w ≡ length before.content → TriedRanges w cache ranges.items r → TakesStep sum P (TryReadRanges ranges) r life.present life.present before before
    taken (Missed numbers) P before size misses = (numbers_some w cache ranges.items before.content numbers.items size misses, refl)
    taken (Fault e) P before size is = subst (λ (x : Error). TakesStep sum P (TryReadRanges ranges) (Fault x) life.present life.present before before) (sym is) (tt, refl)
    taken (At n) P before size tried = absurd tried
    taken Nothing P before size tried = absurd tried
    taken Done P before size tried = absurd tried
    taken (Started sync) P before size tried = absurd tried
    taken (Answer answer) P before size tried = absurd tried
    taken (Length n) P before size tried = absurd tried
    taken (Bytes bytes) P before size tried = absurd tried
    taken Closed P before size tried = absurd tried
    taken NotRecovering P before size tried = absurd tried
    taken BadRanges P before size tried = absurd tried
    taken (Taken index) P before size tried = absurd tried
    taken (Sealed index sync) P before size tried = absurd tried
    taken NotAppending P before size tried = absurd tried
    taken (Replaying number) P before size tried = absurd tried
    taken NoSuch P before size tried = absurd tried
    taken (Served count bytes) P before size tried = absurd tried

-- a question for ranges by a session
pub try_read_ranges_takes : (sum : List ℕ → ℕ) (was : SessionState) (cache : CacheState) (ranges : Vec (ℕ × ℕ) Global) (life : Life) (reply : Reply) → IsReadyApart sum was life.present → DidTryReadRanges was.writer (fit_together ranges.items) cache ranges.items reply
    → StepsApart sum (TryReadRanges ranges) reply was was life life
try_read_ranges_takes sum was cache ranges life reply ready goes = by_writer was.writer refl (fit_together ranges.items) refl goes
  where
    by_writer : (o : Option WriterState) → was.writer ≡ o → (fit : Bool) → fit_together ranges.items ≡ fit → DidTryReadRanges o fit cache ranges.items reply → StepsApart sum (TryReadRanges ranges) reply was was life life
    by_writer None at fit is goes = closed_takes sum (TryReadRanges ranges) was was life life reply (λ before none. turned_none before.has_writer (fit_together ranges.items) none) at ready goes refl refl
    by_writer (Some w) at false is goes = bad_takes sum (TryReadRanges ranges) was w life life reply (λ before has. turned_bad before.has_writer (fit_together ranges.items) has is) (λ content. refl) at ready goes refl
    by_writer (Some w) at true is tried =
        let sound = sound_of sum was w life.present at ready in
        held_takes sum (TryReadRanges ranges) reply was was w (Some w) life life at (same_rest was) at sound ready.starts (try_read_ranges_steps sum was w cache ranges life reply is sound tried)
