-- What the steps that read other than all of a range do.
use Rattle.std.proofs.Common.{◌≡◌, ◌⊎◌, ℕ, ◌+◌, ◌-◌, ◌*◌, ◌<◌, ◌≤◌, List, [], length, take, drop, min, refl, sym, ap, ◌∙◌, subst, arith, inl, inr, Bool, true, false, Err, lit<}
use Rattle.std.specs.Prelude.{Option, Some, None, nat_le, nat_eq, if◌then◌else◌}
use Rattle.std.proofs.lemmas.Bool.Decides.{nat_tests}
use Rattle.std.proofs.lemmas.Bool.{leb-true, and_parts, cases_lt}
use Rattle.std.proofs.lemmas.List.{take_all, length-drop}
use Rattle.disk.specs.Disk.{Life}
use Rattle.disk.specs.declared.error.Error.{Error}
use Rattle.disk.specs.declared.error.Error.TheVariants.{ReadFailed, WriteFailed, ResizeFailed, SyncFailed, InvalidChecksum, BlobInsufficientLength, OffsetOverflow, OutOfMemory, IdsExhausted}
use Rattle.crash.specs.Kept.{Through}
use Rattle.crash.specs.Started.{StartsCanBeAwaited}
use Rattle.writer_state.specs.WriterState.{WriterState}
use Rattle.writer_state.specs.Sound.{IsSound}
use Rattle.cache.specs.CacheState.{CacheState}
use Rattle.paged_read.specs.Tail.{CanRead}
use Rattle.paged_read.specs.Ranges.{ReadsUpTo, is_served}
use Rattle.paged.specs.Caches.{tail_of}
use Rattle.paged.specs.Reads.{size_of}
use Rattle.paged.proofs.Flushes.{size_is_length}
use Rattle.paged.proofs.There.{reads_keep_sound}
use Rattle.std.specs.declared.num.NonZeroUsize.{NonZeroUsize}
use Rattle.page.specs.Page.{text}
use Rattle.paged_read.specs.Scans.{IsWithinBlob, ScanAnswers, scan_end, scan_to}
use Rattle.paged.specs.Scans.{flushed_pages}
use Rattle.std.specs.Int.NonZero.{non_zero_usize_get}
use Rattle.session.specs.declared.steps.Step.TheVariants.{ReadUpTo, Scan, TryRead}
use Rattle.session.specs.declared.steps.Reply.{Reply}
use Rattle.session.specs.declared.steps.Reply.TheVariants.{At, Nothing, Done, Started, Answer, Length, Bytes, Fault, Closed, NotRecovering, NoSuch, Served, Missed, BadRanges, Taken, Sealed, NotAppending, Replaying}
use Rattle.session.specs.Run.{RunState, SessionState, HasCause, TakesStep, UsesDevice, FaultsComeFirst, FitsWriter}
use Rattle.session.specs.Run.DeviceUse.{Leaves, Looks}
use Rattle.session.specs.Calls.{ReadsBytesUpTo, ReadsUpToRange, DidReadUpTo, TriedBytes, DidTryRead, ScanCounts, ScansBlob, DidScan}
use Rattle.session.proofs.StepLaws.{no_moments, held, turned_here, turned_closed, unasked}
use Rattle.session.proofs.SizeLaws.{looked_steps, alike_stays_started}
use Rattle.session.proofs.SessionLaws.{closed_takes, held_takes, sound_of, can_of, same_rest}
use Rattle.session.proofs.Apart.{AlwaysApart, IsReadyApart, StandsApart, StepsApart}

-- ---- at most so many bytes

-- the bytes that are there
take_up_to : (xs : List ℕ) (offset len size : ℕ) → size ≡ length xs → take (min len (size - offset)) (drop offset xs) ≡ take len (drop offset xs)
take_up_to xs offset len size is =
    let rest : length (drop offset xs) ≡ size - offset = length-drop offset xs ∙ ap (λ (n : ℕ). n - offset) (sym is) in
    elim (cases_lt (size - offset) len) [
      | inl fewer ↦ take_all (min len (size - offset)) (drop offset xs) (omega (arith, rest, fewer)) ∙ sym (take_all len (drop offset xs) (omega (arith, rest, fewer)))
      | inr all ↦ let same : min len (size - offset) ≡ len = omega (arith, all) in ap (λ (n : ℕ). take n (drop offset xs)) same
    ]

-- why a read of at most so many bytes is refused
up_to_cause : (sum : List ℕ → ℕ) (P : ℕ) (w : WriterState) (cache : CacheState) (offset len : ℕ) (before : RunState) (old new : Life) (e : Error) → size_of w ≡ length before.content → (e ≡ InvalidChecksum → ⊥)
    → ReadsUpTo sum (tail_of w) cache offset len old new (Err e) → HasCause P (ReadUpTo offset len) before old.present new.present e
up_to_cause sum P w cache offset len before old new ReadFailed size full goes = ((0, lit< tt, refl), goes)
up_to_cause sum P w cache offset len before old new WriteFailed size full goes = absurd goes
up_to_cause sum P w cache offset len before old new ResizeFailed size full goes = absurd goes
up_to_cause sum P w cache offset len before old new SyncFailed size full goes = absurd goes
up_to_cause sum P w cache offset len before old new InvalidChecksum size full goes = absurd (full refl)
up_to_cause sum P w cache offset len before old new BlobInsufficientLength size full goes = (goes.1, omega (arith, size, goes.2))
up_to_cause sum P w cache offset len before old new OffsetOverflow size full goes = absurd goes
up_to_cause sum P w cache offset len before old new OutOfMemory size full goes = tt
up_to_cause sum P w cache offset len before old new IdsExhausted size full goes = absurd goes

-- a read of at most so many bytes
read_up_to_steps : (sum : List ℕ → ℕ) (was : SessionState) (w : WriterState) (cache after : CacheState) (offset len : ℕ) (old new : Life) (reply : Reply) → IsSound sum w old.present → ReadsUpToRange sum (tail_of w) cache after offset len old new reply
    → AlwaysApart sum (ReadUpTo offset len) reply (held was (Some w)) (held was (Some w)) old new
unfolding Through
read_up_to_steps sum was w cache after offset len old new reply sound says = λ P before stands.
    let size : size_of w ≡ length before.content = size_is_length sum w old sound ∙ ap length (sym stands.fits.content) in
    let both = taken reply P before stands size says.reads in
    looked_steps sum was P w (ReadUpTo offset len) reply old new before refl refl (turned_here before.has_writer stands.fits.has_writer) sound says.looked says.looked.through says.looked.through.each stands both.0 both.1
  where
    some : (P : ℕ) (before : RunState) → size_of w ≡ length before.content → (len ≡ 0) ⊎ (offset < size_of w) → (len ≡ 0) ⊎ (offset < length before.content)
    some P before size (inl none) = inl none
    some P before size (inr there) = inr (omega (arith, size, there))

    taken : (r : Reply) (P : ℕ) (before : RunState) → StandsApart sum P (held was (Some w)) before old.present → size_of w ≡ length before.content → ReadsBytesUpTo sum (tail_of w) cache after offset len old new r
        → TakesStep sum P (ReadUpTo offset len) r old.present new.present before before × FaultsComeFirst P (ReadUpTo offset len) r before
    taken (Bytes bytes) P before stands size (count, reads) =
        let goes = reads.goes in
        let is : bytes.items ≡ take (min len (size_of w - offset)) (drop offset before.content) = goes.answers.1 ∙ ap (λ (l : List ℕ). take (min len (size_of w - offset)) (drop offset l)) (sym stands.fits.content) in
        (((some P before size goes.answers.0, is ∙ take_up_to before.content offset len (size_of w) size), refl), (λ none. absurd none, λ passes. absurd (cc (goes.end passes.0 (omega (arith, size, passes.1))))))
    taken (Fault e) P before stands size reads =
        let goes = reads.goes in
        let cause = up_to_cause sum P w cache offset len before old new e size (λ is. goes.never_if_sound w sound refl (omega arith) (ap Err is)) goes.answers in
        ((cause, refl), (λ none. absurd none, λ passes. cc (goes.end passes.0 (omega (arith, size, passes.1)))))
    taken (At n) P before stands size reads = absurd reads
    taken Nothing P before stands size reads = absurd reads
    taken Done P before stands size reads = absurd reads
    taken (Started sync) P before stands size reads = absurd reads
    taken (Answer answer) P before stands size reads = absurd reads
    taken NoSuch P before stands size reads = absurd reads
    taken NotRecovering P before stands size reads = absurd reads
    taken (Served count read) P before stands size reads = absurd reads
    taken (Missed numbers) P before stands size reads = absurd reads
    taken BadRanges P before stands size reads = absurd reads
    taken (Taken index) P before stands size reads = absurd reads
    taken (Sealed index sync) P before stands size reads = absurd reads
    taken NotAppending P before stands size reads = absurd reads
    taken (Replaying number) P before stands size reads = absurd reads
    taken (Length n) P before stands size reads = absurd reads
    taken Closed P before stands size reads = absurd reads

-- a read of at most so many bytes by a session
pub read_up_to_takes : (sum : List ℕ → ℕ) (was : SessionState) (cache after : CacheState) (offset len : ℕ) (old new : Life) (reply : Reply) → IsReadyApart sum was old.present → DidReadUpTo sum was.writer cache after offset len old new reply
    → StepsApart sum (ReadUpTo offset len) reply was was old new
read_up_to_takes sum was cache after offset len old new reply ready goes = by_writer was.writer refl goes
  where
    by_writer : (o : Option WriterState) → was.writer ≡ o → DidReadUpTo sum o cache after offset len old new reply → StepsApart sum (ReadUpTo offset len) reply was was old new
    by_writer None at goes = closed_takes sum (ReadUpTo offset len) was was old new reply (λ before none. turned_closed before.has_writer none) at ready goes.0 refl goes.1
    by_writer (Some w) at says =
        let sound = sound_of sum was w old.present at ready in
        let starts : (was.names ≡ []) ⊎ StartsCanBeAwaited new.present = elim ready.starts [ inl none ↦ inl none | inr stand ↦ inr (alike_stays_started old.present new.present says.looked.same stand) ] in
        held_takes sum (ReadUpTo offset len) reply was was w (Some w) old new at (same_rest was) at (reads_keep_sound sum w old new says.looked sound) starts (read_up_to_steps sum was w cache after offset len old new reply sound says)

-- ---- scans

-- why a scan is refused
scan_cause : (P proven most reach len : ℕ) (buffer_size : NonZeroUsize) (old new : Life) (before : RunState) (e : Error) → ScanAnswers reach len old new (Err e) → IsWithinBlob {A = ℕ} (Err e) → (most ≡ 0 → ⊥)
    → HasCause P (Scan proven most buffer_size) before old.present new.present e
scan_cause P proven most reach len buffer_size old new before ReadFailed scans within some = ((0, lit< tt, refl), scans.0)
scan_cause P proven most reach len buffer_size old new before OutOfMemory scans within some = some
scan_cause P proven most reach len buffer_size old new before WriteFailed scans within some = absurd scans
scan_cause P proven most reach len buffer_size old new before ResizeFailed scans within some = absurd scans
scan_cause P proven most reach len buffer_size old new before SyncFailed scans within some = absurd scans
scan_cause P proven most reach len buffer_size old new before InvalidChecksum scans within some = absurd scans
scan_cause P proven most reach len buffer_size old new before BlobInsufficientLength scans within some = absurd within
scan_cause P proven most reach len buffer_size old new before OffsetOverflow scans within some = absurd within
scan_cause P proven most reach len buffer_size old new before IdsExhausted scans within some = absurd scans

scan_steps : (sum : List ℕ → ℕ) (was : SessionState) (w : WriterState) (proven most : ℕ) (buffer_size : NonZeroUsize) (old new : Life) (reply : Reply) → IsSound sum w old.present → ScansBlob sum w proven most (non_zero_usize_get buffer_size) old new reply
    → AlwaysApart sum (Scan proven most buffer_size) reply (held was (Some w)) (held was (Some w)) old new
unfolding Through
scan_steps sum was w proven most buffer_size old new reply sound says = λ P before stands.
    let both = taken reply P before stands says.counts in
    looked_steps sum was P w (Scan proven most buffer_size) reply old new before refl refl (turned_here before.has_writer stands.fits.has_writer) sound says.looked says.looked.through (touched (nat_eq most 0) refl both.1) stands
    both.0 (λ none. absurd none, λ none. absurd none)
  where
    touched : (test : Bool) → nat_eq most 0 ≡ test → (most ≡ 0 → new ≡ old) → UsesDevice (if test then Leaves else Looks) old.present says.looked.through.moments
    touched true none idle = let zero_most : most ≡ 0 = grind (arith, nat_tests, none) in no_moments old new says.looked.through.moments says.looked.through.goes (idle zero_most)
    touched false some idle = says.looked.through.each

    taken : (r : Reply) (P : ℕ) (before : RunState) → StandsApart sum P (held was (Some w)) before old.present → ScanCounts sum w proven most (non_zero_usize_get buffer_size) old new r
        → TakesStep sum P (Scan proven most buffer_size) r old.present new.present before before × (most ≡ 0 → new ≡ old)
    taken (Length n) P before stands counts =
        let text_is : n ≡ min most (length (text sum w.page_size old.present.readable)) = counts.goes.text sound in
        ((text_is ∙ ap (λ (p : ℕ). min most (length (text sum p old.present.readable))) stands.fits.page_size, refl), λ none. (counts.goes.none none).1)
    taken (Fault e) P before stands counts =
        let end : ℕ = scan_end w.page_size (flushed_pages w) most in
        let cause = scan_cause P proven most (end * (w.page_size + 12)) (min most (scan_to sum w.page_size w.full_pages end proven old.present.readable)) buffer_size old new before e counts.goes.answers (counts.goes.never (inl sound))
        (λ none. absurd (cc (counts.goes.none none).0)) in
        ((cause, refl), λ none. (counts.goes.none none).1)
    taken (At n) P before stands counts = absurd counts
    taken Nothing P before stands counts = absurd counts
    taken Done P before stands counts = absurd counts
    taken (Started sync) P before stands counts = absurd counts
    taken (Answer answer) P before stands counts = absurd counts
    taken (Bytes read) P before stands counts = absurd counts
    taken Closed P before stands counts = absurd counts
    taken NoSuch P before stands counts = absurd counts
    taken NotRecovering P before stands counts = absurd counts
    taken (Served count read) P before stands counts = absurd counts
    taken (Missed numbers) P before stands counts = absurd counts
    taken BadRanges P before stands counts = absurd counts
    taken (Taken index) P before stands counts = absurd counts
    taken (Sealed index sync) P before stands counts = absurd counts
    taken NotAppending P before stands counts = absurd counts
    taken (Replaying number) P before stands counts = absurd counts

-- a scan by a session
pub scan_takes : (sum : List ℕ → ℕ) (was : SessionState) (proven most : ℕ) (buffer_size : NonZeroUsize) (old new : Life) (reply : Reply) → IsReadyApart sum was old.present → DidScan sum was.writer proven most (non_zero_usize_get buffer_size) old new reply
    → StepsApart sum (Scan proven most buffer_size) reply was was old new
scan_takes sum was proven most buffer_size old new reply ready goes = by_writer was.writer refl goes
  where
    by_writer : (o : Option WriterState) → was.writer ≡ o → DidScan sum o proven most (non_zero_usize_get buffer_size) old new reply → StepsApart sum (Scan proven most buffer_size) reply was was old new
    by_writer None at goes = closed_takes sum (Scan proven most buffer_size) was was old new reply (λ before none. turned_closed before.has_writer none) at ready goes.0 refl goes.1
    by_writer (Some w) at says =
        let sound = sound_of sum was w old.present at ready in
        let starts : (was.names ≡ []) ⊎ StartsCanBeAwaited new.present = elim ready.starts [ inl none ↦ inl none | inr stand ↦ inr (alike_stays_started old.present new.present says.looked.same stand) ] in
        held_takes sum (Scan proven most buffer_size) reply was was w (Some w) old new at (same_rest was) at (reads_keep_sound sum w old new says.looked sound) starts (scan_steps sum was w proven most buffer_size old new reply sound says)

-- ---- bytes that need no device

try_read_steps : (sum : List ℕ → ℕ) (was : SessionState) (w : WriterState) (cache : CacheState) (offset len : ℕ) (life : Life) (reply : Reply) → IsSound sum w life.present → CanRead (tail_of w) cache life.present → TriedBytes w cache offset len reply
    → AlwaysApart sum (TryRead offset len) reply (held was (Some w)) (held was (Some w)) life life
try_read_steps sum was w cache offset len life reply sound can tried = λ P before stands.
    let size : size_of w ≡ length before.content = size_is_length sum w life sound ∙ ap length (sym stands.fits.content) in
    unasked sum P was w (TryRead offset len) reply (held was (Some w)) life before before (turned_here before.has_writer stands.fits.has_writer) stands (taken reply P before stands size tried) (λ none. absurd none, λ none. absurd none) stands
  where
    taken : (r : Reply) (P : ℕ) (before : RunState) → StandsApart sum P (held was (Some w)) before life.present → size_of w ≡ length before.content → TriedBytes w cache offset len r → TakesStep sum P (TryRead offset len) r life.present life.present before before
    taken (Bytes bytes) P before stands size tries =
        let within : offset + len ≤ size_of w = leb-true (offset + len) (size_of w) (and_parts (nat_le (offset + len) (size_of w)) (is_served cache (tail_of w) (offset, len)) (sym tries.0)).0 in
        ((omega (arith, size, within), tries.1 refl life.present can ∙ ap (λ (l : List ℕ). take len (drop offset l)) (sym stands.fits.content)), refl)
    taken Nothing P before stands size tried = refl
    taken (Fault e) P before stands size (is, within) =
        subst (λ (x : Error). TakesStep sum P (TryRead offset len) (Fault x) life.present life.present before before) (sym is) (omega (arith, size, within), refl)
    taken (At n) P before stands size tried = absurd tried
    taken Done P before stands size tried = absurd tried
    taken (Started sync) P before stands size tried = absurd tried
    taken (Answer answer) P before stands size tried = absurd tried
    taken (Length n) P before stands size tried = absurd tried
    taken Closed P before stands size tried = absurd tried
    taken NoSuch P before stands size tried = absurd tried
    taken NotRecovering P before stands size tried = absurd tried
    taken (Served count read) P before stands size tried = absurd tried
    taken (Missed numbers) P before stands size tried = absurd tried
    taken BadRanges P before stands size tried = absurd tried
    taken (Taken index) P before stands size tried = absurd tried
    taken (Sealed index sync) P before stands size tried = absurd tried
    taken NotAppending P before stands size tried = absurd tried
    taken (Replaying number) P before stands size tried = absurd tried

-- a read of bytes that need no device, by a session
pub try_read_takes : (sum : List ℕ → ℕ) (was : SessionState) (cache : CacheState) (offset len : ℕ) (life : Life) (reply : Reply) → IsReadyApart sum was life.present → FitsWriter was.writer cache life.present → DidTryRead was.writer cache offset len reply
    → StepsApart sum (TryRead offset len) reply was was life life
try_read_takes sum was cache offset len life reply ready fits goes = by_writer was.writer refl goes
  where
    by_writer : (o : Option WriterState) → was.writer ≡ o → DidTryRead o cache offset len reply → StepsApart sum (TryRead offset len) reply was was life life
    by_writer None at is = closed_takes sum (TryRead offset len) was was life life reply (λ before none. turned_closed before.has_writer none) at ready is refl refl
    by_writer (Some w) at tried =
        let sound = sound_of sum was w life.present at ready in
        held_takes sum (TryRead offset len) reply was was w (Some w) life life at (same_rest was) at sound ready.starts (try_read_steps sum was w cache offset len life reply sound (can_of was w cache life.present at fits) tried)
