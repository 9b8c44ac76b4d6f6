-- What the steps do that read, or answer a size.
use Rattle.std.proofs.Common.{◌≡◌, ℕ, ◌<◌, List, [], ◌∷◌, length, take, drop, refl, sym, ap, ◌∙◌, subst, arith, Ok, Err, ◌^◌, lit<}
use Rattle.std.specs.Prelude.{Some, None, Vec}
use Rattle.std.specs.declared.alloc.Global.{Global}
use Rattle.disk.specs.Disk.{Disk, Life, coverings}
use Rattle.disk.specs.declared.error.Error.{Error}
use Rattle.disk.specs.declared.error.Error.TheVariants.{ReadFailed, WriteFailed, ResizeFailed, SyncFailed, InvalidChecksum, BlobInsufficientLength, OffsetOverflow, OutOfMemory, IdsExhausted}
use Rattle.crash.specs.Kept.{AllKeep, Through, Moments}
use Rattle.crash.specs.Started.{CoversStay, CoversThrough, StartsCanBeAwaited}
use Rattle.writer_state.specs.WriterState.{WriterState}
use Rattle.writer_state.specs.Sound.{IsSound, content as content_of}
use Rattle.crash.specs.Stays.{Stays, StaysThrough}
use Rattle.crash.specs.Looks.{SameButLog, Looked, looked_start}
use Rattle.crash.specs.Moments.{each_then}
use Rattle.crash.proofs.Moments.{stays_itself, stays_alike}
use Rattle.writer_state.proofs.StartedLaws.{alike_would}
use Rattle.paged.proofs.Flushes.{size_is_length, begins}
use Rattle.cache.specs.CacheState.{CacheState}
use Rattle.paged_read.specs.Tail.{Tail, tail_size as size_of_tail}
use Rattle.paged_read.specs.Failures.{none_failed_start}
use Rattle.paged_read.specs.Ranges.{Reads, missing}
use Rattle.paged_read.specs.Reads.{ReadCosts, ReadIntoGoes}
use Rattle.paged_read.proofs.PutLaws.{asked_none}
use Rattle.paged.specs.Caches.{tail_of}
use Rattle.paged.specs.Reads.{size_of}
use Rattle.session.specs.declared.steps.Step.{Step}
use Rattle.session.specs.declared.steps.Step.TheVariants.{Size, Read}
use Rattle.session.specs.declared.steps.Reply.{Reply}
use Rattle.session.specs.declared.steps.Reply.TheVariants.{At, Nothing, Done, Started, Answer, Length, Bytes, Fault, Closed, NotRecovering, NoSuch, Served, Missed, BadRanges, Taken, Sealed, NotAppending, Replaying}
use Rattle.session.specs.Run.{RunState, SessionState, at_step, turned_away, HasCause, content_after, TakesStep, FaultsComeFirst, use_of_step, UsesDevice, AllCover}
use Rattle.session.specs.Calls.{RangeStepGoes, ReadsBytes, RefusesRoom}
use Rattle.session.proofs.Apart.{AlwaysApart, StandsApart, SteppedApart}
use Rattle.session.proofs.StepLaws.{held, turned_here, each_end, stepped, unasked, stands_now, Halves}
use Rattle.session.proofs.SyncLaws.{same_halves}

-- ---- reads and sizes

-- where only the log changed, started syncs stay as they were
pub alike_stays_started : (d e : Disk) → SameButLog d e → StartsCanBeAwaited d → StartsCanBeAwaited e
alike_stays_started d e alike stand = subst StartsCanBeAwaited (sym alike) stand

-- a step that only reads and leaves the standing
pub looked_steps : (sum : List ℕ → ℕ) (was : SessionState) (P : ℕ) (w : WriterState) (step : Step) (reply : Reply) (old new : Life) (before : RunState) → content_after step before.content ≡ before.content → at_step step before ≡ before → turned_away step before ≡ None
    → IsSound sum w old.present → Looked old new → (seen : Moments (SameButLog old.present) old new) → UsesDevice (use_of_step P step before) old.present seen.moments → StandsApart sum P (held was (Some w)) before old.present → TakesStep sum P step reply old.present new.present before before → FaultsComeFirst P step reply before
    → SteppedApart sum P step reply (held was (Some w)) old new before before.snapshots before.replays
unfolding Through IsSound
looked_steps sum was P w step reply old new before same begins here sound looked seen touches stands takes foretells =
    let fits = stands.fits in
    let start : Stays sum P before.content old.present old.present =
    subst (λ (n : ℕ). Stays sum n before.content old.present old.present) fits.page_size
    (subst (λ (l : List ℕ). Stays sum w.page_size l old.present old.present) (sym fits.content) (stays_itself sum w.page_size (content_of w old.present.readable) old.present sound.truthful sound.vouched)) in
    let owed : (d : Disk) → SameButLog old.present d → Stays sum P before.content old.present d =
    λ d alike. stays_alike sum P before.content old.present old.present d (ap (λ (x : Disk). x.base) alike) (ap (λ (x : Disk). x.since) alike) start in
    let cover : (d : Disk) → SameButLog old.present d → CoversStay sum P before.content old.present d =
    λ d alike. λ name cover enough would.
    alike_would sum P before.content old.present d (ap (λ (x : Disk). x.base) alike) (ap (λ (x : Disk). x.since) alike) (ap (λ (x : Disk). x.settled) alike) (ap (λ (x : Disk). coverings x) alike) name cover would in
    let through : StaysThrough sum P before.content old new = record {
      moments = seen.moments;
      goes = seen.goes;
      start = start;
      each = each_then (SameButLog old.present) (Stays sum P before.content old.present) seen.moments owed seen.each;
    } in
    let covering : CoversThrough sum P before.content old new = record {
      moments = seen.moments;
      goes = seen.goes;
      start = λ name cover enough would. would;
      each = each_then (SameButLog old.present) (CoversStay sum P before.content old.present) seen.moments cover seen.each;
    } in
    let h = same_halves sum was P w old new before stands through covering in
    stepped sum P step reply (held was (Some w)) old new before before through.moments fits.has_writer here (subst (λ (s : RunState). Halves sum P before.content (content_after step before.content) s.floor s.covers old new through.moments) (sym begins)
    (subst (λ (l : List ℕ). Halves sum P before.content l before.floor before.covers old new through.moments) (sym same) h)) touches takes
    foretells
    (stands_now sum P was w old new before
    (record {
      page_size = fits.page_size;
      has_writer = fits.has_writer;
      content = fits.content ∙ sym (ap (λ (x : Disk). content_of w x.readable) looked.same);
      otherwise = fits.otherwise;
      capacity = fits.capacity;
      buffered = fits.buffered;
      within = fits.within;
      written = fits.written;
      awaited = fits.awaited;
    })
    stands.phase stands.names stands.floor stands.within (each_end (AllKeep sum P before.content before.floor) old new through.moments h.goes h.kept)
    (each_end (AllCover sum P before.content before.covers) old new through.moments h.goes h.covered) h.stays)

-- why a read is refused: a sound writer has no page below its tip that isn't full
read_cause : (sum : List ℕ → ℕ) (P : ℕ) (w : WriterState) (cache : CacheState) (offset len : ℕ) (before : RunState) (old new : Life) (e : Error) → size_of w ≡ length before.content → (e ≡ InvalidChecksum → ⊥)
    → Reads {A = Vec ℕ Global} sum (tail_of w) cache (offset, len) (λ b. b.items) old new (Err e) → HasCause P (Read offset len) before old.present new.present e
read_cause sum P w cache offset len before old new ReadFailed size full goes = ((0, lit< tt, refl), goes)
read_cause sum P w cache offset len before old new WriteFailed size full goes = absurd goes
read_cause sum P w cache offset len before old new ResizeFailed size full goes = absurd goes
read_cause sum P w cache offset len before old new SyncFailed size full goes = absurd goes
read_cause sum P w cache offset len before old new InvalidChecksum size full goes = absurd (full refl)
read_cause sum P w cache offset len before old new BlobInsufficientLength size full goes = (goes.1, omega (arith, size, goes.2))
read_cause sum P w cache offset len before old new OffsetOverflow size full goes = goes.1
read_cause sum P w cache offset len before old new OutOfMemory size full goes = tt
read_cause sum P w cache offset len before old new IdsExhausted size full goes = absurd goes

-- what a read costs that asks for nothing
costs_none : (sum : List ℕ → ℕ) (t : Tail) (cache : CacheState) (offset len : ℕ) (life : Life) (e : Error) → ReadCosts {A = Vec ℕ Global} sum t (offset, len) cache cache life life (Err e)
costs_none sum t cache offset len life e = record {
  asks = (omega arith, λ served. refl);
  puts = asked_none sum t (missing cache t ((offset, len) ∷ [])) life cache e;
}

-- no room was made for the bytes of a read
pub room_refused : (sum : List ℕ → ℕ) (t : Tail) (cache : CacheState) (offset len size : ℕ) (life : Life) (e : Error) → size ≡ size_of_tail t → size < 2 ^ 64 → RefusesRoom size offset len e → RangeStepGoes sum t cache cache offset len life life (Fault e)
room_refused sum t cache offset len size life OffsetOverflow is small passes = record {
  reads = record {
    goes = record {
      answers = (refl, passes);
      overflow = λ over. refl;
      end = λ within over. absurd (omega (arith, within, passes));
      never = λ full other. cc other;
      never_if_sound = λ w sound same few other. cc other;
    };
    costs = costs_none sum t cache offset len life OffsetOverflow;
  };
  looked = looked_start life;
}
room_refused sum t cache offset len size life BlobInsufficientLength is small (within, passes) = record {
  reads = record {
    goes = record {
      answers = (refl, within, omega (arith, is, passes));
      overflow = λ over. absurd (omega (arith, over, within));
      end = λ below over. refl;
      never = λ full other. cc other;
      never_if_sound = λ w sound same few other. cc other;
    };
    costs = costs_none sum t cache offset len life BlobInsufficientLength;
  };
  looked = looked_start life;
}
room_refused sum t cache offset len size life OutOfMemory is small within = record {
  reads = record {
    goes = record {
      answers = none_failed_start life.present;
      overflow = λ over. absurd (omega (arith, over, within, small));
      end = λ below over. absurd (omega (arith, over, within, is));
      never = λ full other. cc other;
      never_if_sound = λ w sound same few other. cc other;
    };
    costs = costs_none sum t cache offset len life OutOfMemory;
  };
  looked = looked_start life;
}
room_refused sum t cache offset len size life ReadFailed is small none = absurd none
room_refused sum t cache offset len size life WriteFailed is small none = absurd none
room_refused sum t cache offset len size life ResizeFailed is small none = absurd none
room_refused sum t cache offset len size life SyncFailed is small none = absurd none
room_refused sum t cache offset len size life InvalidChecksum is small none = absurd none
room_refused sum t cache offset len size life IdsExhausted is small none = absurd none

-- a read into room for its bytes, as a step
pub read_says : (sum : List ℕ → ℕ) (t : Tail) (cache after : CacheState) (offset len size : ℕ) (old new : Life) (was buf : List ℕ) (bytes : Vec ℕ Global) → size ≡ size_of_tail t → size < 2 ^ 64 → bytes.items ≡ buf → length was ≡ len
    → ReadIntoGoes sum t cache offset was buf old new (Ok tt) → ReadCosts {A = Unit {0}} sum t (offset, length was) cache after old new (Ok tt) → Looked old new → RangeStepGoes sum t cache after offset len old new (Bytes bytes)
read_says sum t cache after offset len size old new was buf bytes is small same room into costs looked =
    let goes : Reads {A = Unit {0}} sum t cache (offset, len) (λ u. buf) old new (Ok tt) = subst (λ (n : ℕ). Reads {A = Unit {0}} sum t cache (offset, n) (λ u. buf) old new (Ok tt)) room into.answers in
    let cost : ReadCosts {A = Unit {0}} sum t (offset, len) cache after old new (Ok tt) = subst (λ (n : ℕ). ReadCosts {A = Unit {0}} sum t (offset, n) cache after old new (Ok tt)) room costs in
    record {
      reads = record {
        goes = record {
          answers = (goes.0, same ∙ goes.1, goes.2, goes.3);
          overflow = λ passes. absurd (omega (arith, passes, goes.0, is, small));
          end = λ within passes. absurd (omega (arith, passes, goes.0));
          never = λ full other. cc other;
          never_if_sound = λ w sound same few other. cc other;
        };
        costs = record { asks = cost.asks; puts = cost.puts };
      };
      looked = looked;
    }

-- why nothing was read doesn't depend on the room
no_bytes : (sum : List ℕ → ℕ) (t : Tail) (cache : CacheState) (range : ℕ × ℕ) (buf : List ℕ) (old new : Life) (e : Error) → Reads {A = Unit {0}} sum t cache range (λ u. buf) old new (Err e) → Reads {A = Vec ℕ Global} sum t cache range (λ b. b.items) old new (Err e)
no_bytes sum t cache range buf old new ReadFailed reads = reads
no_bytes sum t cache range buf old new WriteFailed reads = reads
no_bytes sum t cache range buf old new ResizeFailed reads = reads
no_bytes sum t cache range buf old new SyncFailed reads = reads
no_bytes sum t cache range buf old new InvalidChecksum reads = reads
no_bytes sum t cache range buf old new BlobInsufficientLength reads = reads
no_bytes sum t cache range buf old new OffsetOverflow reads = reads
no_bytes sum t cache range buf old new OutOfMemory reads = reads
no_bytes sum t cache range buf old new IdsExhausted reads = reads

pub read_fails : (sum : List ℕ → ℕ) (t : Tail) (cache after : CacheState) (offset len : ℕ) (old new : Life) (was buf : List ℕ) (e : Error) → length was ≡ len → ReadIntoGoes sum t cache offset was buf old new (Err e) → ReadCosts {A = Unit {0}} sum t (offset, length was) cache after old new (Err e) → Looked old new
    → RangeStepGoes sum t cache after offset len old new (Fault e)
read_fails sum t cache after offset len old new was buf e room into costs looked =
    subst (λ (n : ℕ). RangeStepGoes sum t cache after offset n old new (Fault e)) room
    (record {
      reads = record {
        goes = record {
          answers = no_bytes sum t cache (offset, length was) buf old new e into.answers;
          overflow = λ passes. cc (into.overflow passes);
          end = λ within passes. cc (into.end within passes);
          never = λ full other. into.never full (cc other);
          never_if_sound = λ w sound same few other. into.never_if_sound w sound same few (cc other);
        };
        costs = record { asks = costs.asks; puts = costs.puts };
      };
      looked = looked;
    })

-- a read
pub read_steps : (sum : List ℕ → ℕ) (was : SessionState) (w : WriterState) (cache after : CacheState) (offset len : ℕ) (old new : Life) (reply : Reply) → IsSound sum w old.present → RangeStepGoes sum (tail_of w) cache after offset len old new reply
    → AlwaysApart sum (Read offset len) reply (held was (Some w)) (held was (Some w)) old new
unfolding Through
read_steps sum was w cache after offset len old new reply sound says = λ P before stands.
    let size : size_of w ≡ length before.content = size_is_length sum w old sound ∙ ap length (sym stands.fits.content) in
    let both = taken reply P before stands size says.reads in
    looked_steps sum was P w (Read offset len) reply old new before refl refl (turned_here before.has_writer stands.fits.has_writer) sound says.looked says.looked.through says.looked.through.each stands both.0 both.1
  where
    taken : (r : Reply) (P : ℕ) (before : RunState) → StandsApart sum P (held was (Some w)) before old.present → size_of w ≡ length before.content → ReadsBytes sum (tail_of w) cache after offset len old new r
        → TakesStep sum P (Read offset len) r old.present new.present before before × FaultsComeFirst P (Read offset len) r before
    taken (Bytes bytes) P before stands size reads =
        let goes = reads.goes in
        let same : bytes.items ≡ take len (drop offset before.content) = goes.answers.1 ∙ ap (λ (l : List ℕ). take len (drop offset l)) (sym stands.fits.content) in
        (((omega (arith, size, goes.answers.0), same), refl), (λ over. absurd (cc (goes.overflow over)), λ passes. absurd (cc (goes.end passes.0 (omega (arith, size, passes.1))))))
    taken (Fault e) P before stands size reads =
        let goes = reads.goes in
        let cause = read_cause sum P w cache offset len before old new e size (λ is. goes.never_if_sound w sound refl (omega arith) (ap Err is)) goes.answers in
        ((cause, refl), (λ over. cc (goes.overflow over), λ passes. cc (goes.end passes.0 (omega (arith, size, passes.1)))))
    taken (At n) P before stands size reads = absurd reads
    taken Nothing P before stands size reads = absurd reads
    taken Done P before stands size reads = absurd reads
    taken (Started sync) P before stands size reads = absurd reads
    taken (Answer answer) P before stands size reads = absurd reads
    taken NoSuch P before stands size reads = absurd reads
    taken NotRecovering P before stands size reads = absurd reads
    taken (Served count read) P before stands size reads = absurd reads
    taken (Missed numbers) P before stands size reads = absurd reads
    taken BadRanges P before stands size reads = absurd reads
    taken (Taken index) P before stands size reads = absurd reads
    taken (Sealed index sync) P before stands size reads = absurd reads
    taken NotAppending P before stands size reads = absurd reads
    taken (Replaying number) P before stands size reads = absurd reads
    taken (Length n) P before stands size reads = absurd reads
    taken Closed P before stands size reads = absurd reads

-- the size
pub size_steps : (sum : List ℕ → ℕ) (was : SessionState) (w : WriterState) (life : Life) → IsSound sum w life.present → AlwaysApart sum Size (Length (size_of w)) (held was (Some w)) (held was (Some w)) life life
size_steps sum was w life sound = λ P before stands.
    unasked sum P was w Size (Length (size_of w)) (held was (Some w)) life before before (turned_here before.has_writer stands.fits.has_writer) stands (size_is_length sum w life sound ∙ ap length (sym stands.fits.content), refl) (λ none. absurd none, λ none. absurd none) stands
