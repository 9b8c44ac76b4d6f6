-- What the step of a truncate does.
use Rattle.std.proofs.Common.{◌≡◌, ℕ, ◌+◌, ◌≤◌, ◌%◌, List, [], ◌∷◌, length, take, map, refl, sym, ap, ◌∙◌, subst, arith, inl, inr, Bool, true, false, Ok, Err, lit<, lit≤, min, length-take}
use Rattle.std.specs.Prelude.{All, Option, Some, None, nat_lt, nat_eq, if◌then◌else◌, ◌==◌, ◌&&◌}
use Rattle.std.specs.Int.{div_ceil}
use Rattle.std.specs.List.{list_any}
use Rattle.std.proofs.Math.Seq.{take-length}
use Rattle.std.proofs.lemmas.List.{take-take}
use Rattle.std.proofs.lemmas.Bool.{false≢true}
use Rattle.disk.specs.Disk.{Disk, Life, life_after}
use Rattle.disk.specs.declared.error.Error.{Error}
use Rattle.disk.specs.declared.error.Error.TheVariants.{ReadFailed, WriteFailed, ResizeFailed, SyncFailed, InvalidChecksum, BlobInsufficientLength, OffsetOverflow, OutOfMemory, IdsExhausted}
use Rattle.crash.specs.Kept.{AllKeep, AllOnly, Each, Through, Moments}
use Rattle.crash.specs.Stays.{LeavesOnly}
use Rattle.crash.specs.Started.{WouldKeep, CoversStay, CoversThrough}
use Rattle.writer_state.specs.WriterState.{WriterState}
use Rattle.cache.specs.CacheState.{CacheState}
use Rattle.writer_state.specs.Sound.{IsSound, content as content_of}
use Rattle.crash.specs.Moments.{each_then}
use Rattle.crash.proofs.Moments.{keeps_longer, keeps_shorter}
use Rattle.writer_state.proofs.Soundness.{sound_leaves}
use Rattle.page.specs.Page.{text}
use Rattle.paged.specs.Calls.{settle_calls}
use Rattle.paged.specs.Flush.{has_work}
use Rattle.paged.specs.Reads.{size_of}
use Rattle.paged.specs.Truncate.{TruncateCause, shorten_calls, truncate_calls}
use Rattle.paged.proofs.Flushes.{size_is_length}
use Rattle.session.specs.declared.steps.Step.TheVariants.{Truncate}
use Rattle.session.specs.declared.steps.Reply.{Reply}
use Rattle.session.specs.declared.steps.Reply.TheVariants.{At, Nothing, Done, Started, Answer, Length, Bytes, Fault, Closed, NotRecovering, NoSuch, Served, Missed, BadRanges, Taken, Sealed, NotAppending, Replaying}
use Rattle.session.specs.Run.{RunState, SessionState, truncated, lowered, forgetting, at_step, ended, turned_away, HasCause, TakesStep, pending_in, AllCover, NamesFit}
use Rattle.session.specs.Run.DeviceUse.{Changes}
use Rattle.session.specs.Calls.{IsClosed, KeepsRest, TruncateSays, TruncatesWriter, DidTruncate}
use Rattle.session.proofs.StepLaws.{held, held_same, keeps_fewer, would_longer, cover_stays, all_lowered, begun_keeps, begun_covers, through_each, each_end, few_calls, raised_within, leaves, answers_away, stepped_by}
use Rattle.session.proofs.AppendLaws.{had_failed_as, calls_few, settled_started, settled_awaits}
use Rattle.session.proofs.SessionLaws.{closed_takes, held_by, held_takes, sound_of}
use Rattle.session.proofs.PromiseLaws.{tip_is}
use Rattle.session.proofs.Apart.{AlwaysApart, AlwaysBy, StepsBy, IsReadyApart, StandsApart, SteppedApart, StepsApart}

-- ---- the first bytes

-- the first bytes are a prefix
pub first_bytes : (n : ℕ) (content : List ℕ) → take n content ≡ take (length (take n content)) content
first_bytes n content = sym (take-length (take n content)) ∙ take-take (length (take n content)) n content (omega (arith, length-take n content))

-- what is kept of a content is kept of its first bytes, and no more than they have
keeps_first : (sum : List ℕ → ℕ) (P n : ℕ) (content : List ℕ) (floor : ℕ) (d : Disk) → floor ≤ length content → AllKeep sum P content floor d → AllKeep sum P (take n content) (min n floor) d
keeps_first sum P n content floor d within keeps =
    keeps_shorter sum P (take n content) content (min n floor) d (first_bytes n content) (omega (arith, within, length-take n content)) (keeps_fewer sum P content (min n floor) floor d (omega arith) keeps)

would_first : (sum : List ℕ → ℕ) (P n : ℕ) (content : List ℕ) (name cover : ℕ) (d : Disk) → cover ≤ length content → WouldKeep sum P content name cover d → WouldKeep sum P (take n content) name (min n cover) d
would_first sum P n content name cover d within would = record {
  covers = would.covers;
  named = would.named;
  keeps = keeps_first sum P n content cover _ within would.keeps;
}

-- the lowered covers are within the first bytes
lowered_within : (n : ℕ) (s : RunState) → All (λ c. c.1 ≤ length s.content) s.covers → All (λ c. c.1 ≤ length (take n s.content)) (lowered n s).covers
lowered_within n s within = all_lowered (λ c. c.1 ≤ length s.content) (λ c. c.1 ≤ length (take n s.content)) n s.covers (λ c few. omega (arith, few, length-take n s.content)) within

-- the lowered covers cover of the first bytes what they covered of the content
lowered_first : (sum : List ℕ → ℕ) (P n : ℕ) (s : RunState) (d : Disk) → All (λ c. c.1 ≤ length s.content) s.covers → AllCover sum P s.content s.covers d → AllCover sum P (take n s.content) (lowered n s).covers d
lowered_first sum P n s d within covered =
    all_lowered (λ c. (c.1 ≤ length s.content) × WouldKeep sum P s.content c.0 c.1 d) (λ c. WouldKeep sum P (take n s.content) c.0 c.1 d) n s.covers (λ c both. would_first sum P n s.content c.0 c.1 d both.0 both.1)
    (λ k x lt. (within k x lt, covered k x lt))

-- the lowered covers have the names that they had
lowered_any : (n asked : ℕ) (covers : List (ℕ × ℕ)) → list_any (λ (c : ℕ × ℕ). nat_eq c.0 asked) (map (λ (c : ℕ × ℕ). (c.0, min n c.1)) covers) ≡ list_any (λ (c : ℕ × ℕ). nat_eq c.0 asked) covers
lowered_any n asked [] = refl
lowered_any n asked (c ∷ cs) = rw (lowered_any n asked cs) refl

lowered_names : (n : ℕ) (names : List ℕ) (s : RunState) → NamesFit names s.covers → NamesFit names (lowered n s).covers
lowered_names n names s fits = λ asked. fits asked ∙ sym (lowered_any n asked s.covers)

-- ---- each moment

-- what holds at each moment of a truncate, by the content and the lowered standing
record CutHalves (sum : List ℕ → ℕ) (P n : ℕ) (s : RunState) (old new : Life) (moments : List Disk) : Type 0 where
  goes : new ≡ life_after old moments
  kept : Each (AllKeep sum P s.content (lowered n s).floor) (old.present ∷ moments)
  covered : Each (AllCover sum P s.content (lowered n s).covers) (old.present ∷ moments)
  first : Each (AllCover sum P (take n s.content) (lowered n s).covers) (old.present ∷ moments)
  only : Each (AllOnly sum P s.content (take n s.content)) (old.present ∷ moments)

cut_halves : (sum : List ℕ → ℕ) (P n : ℕ) (s : RunState) (old new : Life) → s.floor ≤ length s.content → All (λ c. c.1 ≤ length s.content) s.covers → AllKeep sum P s.content s.floor old.present → AllCover sum P s.content s.covers old.present
    → Through (AllKeep sum P (take n s.content) (min n s.floor)) old new → CoversThrough sum P (take n s.content) old new → (through : Moments (AllOnly sum P s.content (take n s.content)) old new) → CutHalves sum P n s old new through.moments
cut_halves sum P n s old new enough within keeps covered floors covering through =
    let few : min n s.floor ≤ length (take n s.content) = omega (arith, enough, length-take n s.content) in
    let longer : (d : Disk) → AllKeep sum P (take n s.content) (min n s.floor) d → AllKeep sum P s.content (min n s.floor) d = λ d kept. keeps_longer sum P (take n s.content) s.content (min n s.floor) d (first_bytes n s.content) few kept in
    let at : AllCover sum P (take n s.content) (lowered n s).covers old.present = lowered_first sum P n s old.present within covered in
    let inside = lowered_within n s within in
    let later : (d : Disk) → CoversStay sum P (take n s.content) old.present d → AllCover sum P (take n s.content) (lowered n s).covers d =
    λ d stay. cover_stays sum P (take n s.content) (lowered n s).covers old.present d inside stay at in
    let all : (d : Disk) → AllCover sum P (take n s.content) (lowered n s).covers d → AllCover sum P s.content (lowered n s).covers d =
    λ d first. λ k x lt. would_longer sum P (take n s.content) s.content _ _ d (first_bytes n s.content) (inside k x lt) (first k x lt) in
    let firsts : Each (AllCover sum P (take n s.content) (lowered n s).covers) through.moments =
    each_then (CoversStay sum P (take n s.content) old.present) (AllCover sum P (take n s.content) (lowered n s).covers) through.moments later (through_each (CoversStay sum P (take n s.content) old.present) old new through.moments covering through.goes) in
    record {
      goes = through.goes;
      kept = (
        longer old.present (keeps_first sum P n s.content s.floor old.present enough keeps),
        each_then (AllKeep sum P (take n s.content) (min n s.floor)) (AllKeep sum P s.content (min n s.floor)) through.moments longer (through_each (AllKeep sum P (take n s.content) (min n s.floor)) old new through.moments floors through.goes),
      );
      covered = (all old.present at, each_then (AllCover sum P (take n s.content) (lowered n s).covers) (AllCover sum P s.content (lowered n s).covers) through.moments all firsts);
      first = (at, firsts);
      only = (through.start, through.each);
    }

-- what a crash leaves at each moment, by what the call promises, in the words of the standing
says_only : (sum : List ℕ → ℕ) (P : ℕ) (was : SessionState) (w : WriterState) (n : ℕ) (old new : Life) (s : RunState) → StandsApart sum P (held was (Some w)) s old.present
    → LeavesOnly sum w.page_size (content_of w old.present.readable) (take n (content_of w old.present.readable)) old new → LeavesOnly sum P s.content (take n s.content) old new
says_only sum P was w n old new s stands only =
    subst (λ (p : ℕ). LeavesOnly sum p s.content (take n s.content) old new) stands.fits.page_size
    (subst (λ (l : List ℕ). LeavesOnly sum w.page_size l (take n l) old new) (sym stands.fits.content) only)

says_covers : (sum : List ℕ → ℕ) (P : ℕ) (was : SessionState) (w : WriterState) (n : ℕ) (old new : Life) (s : RunState) → StandsApart sum P (held was (Some w)) s old.present
    → CoversThrough sum w.page_size (take n (content_of w old.present.readable)) old new → CoversThrough sum P (take n s.content) old new
says_covers sum P was w n old new s stands covers =
    subst (λ (p : ℕ). CoversThrough sum p (take n s.content) old new) stands.fits.page_size
    (subst (λ (l : List ℕ). CoversThrough sum w.page_size (take n l) old new) (sym stands.fits.content) covers)

says_floors : (sum : List ℕ → ℕ) (P : ℕ) (was : SessionState) (w : WriterState) (n : ℕ) (old new : Life) (s : RunState) → StandsApart sum P (held was (Some w)) s old.present
    → ((content : List ℕ) (floor : ℕ) → floor ≤ length (take n content) → AllKeep sum w.page_size (take n content) floor old.present → Through (AllKeep sum w.page_size (take n content) floor) old new)
    → Through (AllKeep sum P (take n s.content) (min n s.floor)) old new
says_floors sum P was w n old new s stands floors =
    let size = stands.fits.page_size in
    let first = keeps_first sum P n s.content s.floor old.present stands.floor stands.kept in
    subst (λ (p : ℕ). Through (AllKeep sum p (take n s.content) (min n s.floor)) old new) size
    (floors s.content (min n s.floor) (omega (arith, stands.floor, length-take n s.content)) (subst (λ (p : ℕ). AllKeep sum p (take n s.content) (min n s.floor) old.present) (sym size) first))

-- ---- the calls

resize_few : (same : Bool) → (if same then 0 else 2) ≤ 2
resize_few true = lit≤ tt
resize_few false = lit≤ tt

rewrite_few : (whole : Bool) → (if whole then 0 else 4) ≤ 4
rewrite_few true = lit≤ tt
rewrite_few false = lit≤ tt

-- a cut makes six calls at most
shorten_few : (P size n : ℕ) → shorten_calls P size n ≤ 6
shorten_few P size n = omega (arith, resize_few (div_ceil n P == div_ceil size P), rewrite_few (n % P == 0))

truncate_few : (w : WriterState) (n size : ℕ) → size ≡ size_of w → truncate_calls w n ≤ (if nat_lt n size then 8 else 2)
truncate_few w n size is = by_test (nat_lt n size) (nat_lt n (size_of w)) (ap (λ (k : ℕ). nat_lt n k) is)
  where
    by_test : (a b : Bool) → a ≡ b → (if has_work w true then 1 else 0) + settle_calls w.sync + (if b then shorten_calls w.page_size (size_of w) n else 0) ≤ (if a then 8 else 2)
    by_test true true same = omega (arith, calls_few (has_work w true) w.sync, shorten_few w.page_size (size_of w) n)
    by_test false false same = omega (arith, calls_few (has_work w true) w.sync)
    by_test true false same = absurd (false≢true (sym same))
    by_test false true same = absurd (false≢true same)

-- ---- one step

-- the standing as a truncate begins
lowers : (n : ℕ) (s : RunState) → s.has_writer ≡ true → s.recovering ≡ true → at_step (Truncate n) s ≡ forgetting (lowered n s)
lowers n s has phase = by_phase s.has_writer s.recovering has phase
  where
    by_phase : (a b : Bool) → a ≡ true → b ≡ true → (if a && b then forgetting (lowered n s) else s) ≡ forgetting (lowered n s)
    by_phase true true one two = refl
    by_phase false b one two = absurd (false≢true one)
    by_phase true false one two = absurd (false≢true two)

not_turned : (n : ℕ) (s : RunState) → s.has_writer ≡ true → s.recovering ≡ true → turned_away (Truncate n) s ≡ None
not_turned n s has phase = by_phase s.has_writer s.recovering has phase
  where
    by_phase : (a b : Bool) → a ≡ true → b ≡ true → (if a then (if b then None else Some NotRecovering) else Some Closed) ≡ None
    by_phase true true one two = refl
    by_phase false b one two = absurd (false≢true one)
    by_phase true false one two = absurd (false≢true two)

-- a truncate, by what holds at each moment
cut_steps : (sum : List ℕ → ℕ) (P n : ℕ) (was : SessionState) (w : WriterState) (reply : Reply) (now : SessionState) (old new : Life) (before after : RunState) (moments : List Disk) → was.recovering ≡ true → IsSound sum w old.present
    → StandsApart sum P (held was (Some w)) before old.present → CutHalves sum P n before old new moments → length new.present.log ≤ length old.present.log + truncate_calls w n
    → ((s : RunState) → s ≡ forgetting (lowered n before) → at_step (Truncate n) before ≡ s → TakesStep sum P (Truncate n) reply old.present new.present before after)
    → StandsApart sum P now after new.present → SteppedApart sum P (Truncate n) reply now old new before after.snapshots after.replays
cut_steps sum P n was w reply now old new before after moments recovering sound stands h few takes after_it =
    let has = stands.fits.has_writer in
    let phase : before.recovering ≡ true = sym stands.phase ∙ recovering in
    let lower = lowers n before has phase in
    let size : length before.content ≡ size_of w = ap length stands.fits.content ∙ sym (size_is_length sum w old sound) in
    let most = truncate_few w n (length before.content) size in
    stepped_by sum P (Truncate n) reply now old new before after moments has (not_turned n before has phase) h.goes (subst (λ (s : RunState). Each (AllKeep sum P before.content s.floor) (old.present ∷ moments)) (sym lower) h.kept)
    (subst (λ (s : RunState). Each (AllCover sum P before.content s.covers) (old.present ∷ moments)) (sym lower) h.covered) h.only
    (few_calls old new moments (if nat_lt n (length before.content) then 8 else 2) h.goes (omega (arith, few, most))) (takes (forgetting (lowered n before)) refl lower) (λ none. absurd none, λ none. absurd none) after_it

-- a truncate that is done
truncate_steps : (sum : List ℕ → ℕ) (was : SessionState) (w v : WriterState) (n : ℕ) (cache after : CacheState) (old new : Life) → was.recovering ≡ true → IsSound sum w old.present → TruncateSays sum w n cache after old new (Ok v)
    → AlwaysBy true sum (Truncate n) (Length (size_of v)) (held was (Some w)) (held was (Some v)) old new
unfolding Through
truncate_steps sum was w v n cache after old new recovering sound says = λ P before stands.
    let fits = stands.fits in
    let is = says.goes.answers in
    let through = says_only sum P was w n old new before stands (says.owes.only sound) in
    let h = cut_halves sum P n before old new stands.floor stands.within stands.kept stands.covered (says_floors sum P was w n old new before stands says.owes.floors) (says_covers sum P was w n old new before stands (says.owes.covers sound)) through in
    let size : size_of w ≡ length before.content = size_is_length sum w old sound ∙ ap length (sym fits.content) in
    let page : v.page_size ≡ P = is.same.page_size ∙ fits.page_size in
    let holds : content_of v new.present.readable ≡ take n before.content = is.content ∙ ap (λ (l : List ℕ). take n l) (sym fits.content) in
    let room : v.capacity ≡ before.capacity = is.same.capacity ∙ fits.capacity in
    let buffered : length v.tip ≡ length (take n before.content) % P =
    tip_is sum v new (says.goes.sound sound) is.settled.short ∙ ap (λ (l : List ℕ). length l % v.page_size) holds ∙ ap (λ (p : ℕ). length (take n before.content) % p) page in
    let after_it : StandsApart sum P (held was (Some v)) (truncated P n (forgetting (lowered n before))) new.present = record {
      fits = record {
        page_size = page;
        has_writer = fits.has_writer;
        content = sym holds;
        otherwise = refl;
        capacity = room;
        buffered = buffered;
        within = omega (arith, says.goes.within, buffered, room);
        written = settled_started v is.settled;
        awaited = settled_awaits v is.settled;
      };
      phase = stands.phase;
      names = lowered_names n was.names before stands.names;
      floor = omega arith;
      within = lowered_within n before stands.within;
      kept = subst (λ (p : ℕ). AllKeep sum p (take n before.content) (length (take n before.content)) new.present) fits.page_size
          (subst (λ (l : List ℕ). AllKeep sum w.page_size (take n l) (length (take n l)) new.present) (sym fits.content) (says.goes.durable sound));
      covered = each_end (AllCover sum P (take n before.content) (lowered n before).covers) old new through.moments h.goes h.first;
      only = subst (λ (p : ℕ). AllOnly sum p (take n before.content) (take n before.content) new.present) page
          (subst (λ (l : List ℕ). AllOnly sum v.page_size l l new.present) holds (sound_leaves sum v new.present (says.goes.sound sound)));
    } in
    cut_steps sum P n was w (Length (size_of v)) (held was (Some v)) old new before (truncated P n (forgetting (lowered n before))) through.moments recovering sound stands h says.costs.calls
    (λ s lower begins. subst (λ (x : RunState). (size_of v ≡ min n (length x.content)) × (truncated P n (forgetting (lowered n before)) ≡ truncated P n x)) (sym (begins ∙ lower)) (is.size ∙ ap (λ (k : ℕ). min n k) size, refl)) after_it

-- why a truncate is refused
truncate_cause : (sum : List ℕ → ℕ) (P n : ℕ) (w : WriterState) (before : RunState) (old new : Life) (e : Error) → IsSound sum w old.present → before.awaited ≡ pending_in w.sync → TruncateCause sum n w old new e
    → HasCause P (Truncate n) before old.present new.present e
truncate_cause sum P n w before old new ReadFailed sound awaited cause = ((0, lit< tt, refl), cause)
truncate_cause sum P n w before old new WriteFailed sound awaited cause = ((1, lit< tt, refl), cause)
truncate_cause sum P n w before old new ResizeFailed sound awaited cause = ((2, lit< tt, refl), cause)
truncate_cause sum P n w before old new SyncFailed sound awaited cause = ((3, lit< tt, refl), elim cause [ inl failed ↦ inl failed | inr had ↦ inr (had_failed_as w.sync before.awaited old.present awaited had) ])
truncate_cause sum P n w before old new InvalidChecksum sound awaited cause = absurd (cause.2 sound)
truncate_cause sum P n w before old new BlobInsufficientLength sound awaited cause = absurd cause
truncate_cause sum P n w before old new OffsetOverflow sound awaited cause = absurd cause
truncate_cause sum P n w before old new OutOfMemory sound awaited cause = tt
truncate_cause sum P n w before old new IdsExhausted sound awaited cause = absurd cause

truncate_refused_steps : (sum : List ℕ → ℕ) (was : SessionState) (w : WriterState) (n : ℕ) (e : Error) (cache after : CacheState) (old new : Life) → was.recovering ≡ true → IsSound sum w old.present → TruncateSays sum w n cache after old new (Err e)
    → AlwaysBy true sum (Truncate n) (Fault e) (held was (Some w)) (held was None) old new
unfolding Through
truncate_refused_steps sum was w n e cache after old new recovering sound says = λ P before stands.
    let through = says_only sum P was w n old new before stands (says.owes.only sound) in
    let h = cut_halves sum P n before old new stands.floor stands.within stands.kept stands.covered (says_floors sum P was w n old new before stands says.owes.floors) (says_covers sum P was w n old new before stands (says.owes.covers sound)) through in
    let cause = truncate_cause sum P n w before old new e sound stands.fits.awaited says.goes.answers.0 in
    let after_it : StandsApart sum P (held was None) (ended (take n before.content) (forgetting (lowered n before))) new.present = record {
      fits = refl;
      phase = stands.phase;
      names = lowered_names n was.names before stands.names;
      floor = omega (arith, stands.floor);
      within = all_lowered (λ c. c.1 ≤ length before.content) (λ c. c.1 ≤ length before.content) n before.covers (λ c few. omega (arith, few)) stands.within;
      kept = each_end (AllKeep sum P before.content (lowered n before).floor) old new through.moments h.goes h.kept;
      covered = each_end (AllCover sum P before.content (lowered n before).covers) old new through.moments h.goes h.covered;
      only = each_end (AllOnly sum P before.content (take n before.content)) old new through.moments h.goes h.only;
    } in
    cut_steps sum P n was w (Fault e) (held was None) old new before (ended (take n before.content) (forgetting (lowered n before))) through.moments recovering sound stands h says.costs.calls
    (λ s lower begins. (cause, subst (λ (x : RunState). ended (take n before.content) (forgetting (lowered n before)) ≡ ended (take n x.content) x) (sym (begins ∙ lower)) refl)) after_it

-- where the recovery has ended a truncate is turned away
turned_steps : (sum : List ℕ → ℕ) (was : SessionState) (w : WriterState) (n : ℕ) (life : Life) → was.recovering ≡ false → AlwaysApart sum (Truncate n) NotRecovering (held was (Some w)) (held was (Some w)) life life
turned_steps sum was w n life ends = λ P before stands.
    let has = stands.fits.has_writer in
    let only : AllOnly sum P before.content (take n before.content) life.present = record {
      only = λ image is_image free. elim (stands.only.only image is_image free) [
        | inl starts ↦ inl starts
        | inr starts ↦ inl (starts ∙ ap (λ (l : List ℕ). take (length (text sum P image)) l) stands.fits.otherwise)
      ];
      vouched = stands.only.vouched;
    } in
    record {
      moments = [];
      goes = refl;
      after = before;
      did = record {
        answer = answers_away sum P (Truncate n) NotRecovering life.present life.present before (away before.has_writer before.recovering has (sym stands.phase ∙ ends));
        touches = leaves (Changes (if nat_lt n (length before.content) then 8 else 2)) life.present;
        stopped = λ gone. refl;
        kept = (begun_keeps sum P (Truncate n) before life.present stands.kept, tt);
        covered = (begun_covers sum P (Truncate n) before life.present stands.covered, tt);
        only = (subst (λ (b : Bool). AllOnly sum P before.content (if b then take n before.content else before.otherwise) life.present) (sym has) only, tt);
        within = raised_within sum P (held was (Some w)) life life before [] refl stands;
      };
      stands = stands;
      same = refl;
      alike = refl;
    }
  where
    away : (a b : Bool) → a ≡ true → b ≡ false → (if a then (if b then None else Some NotRecovering) else Some Closed) ≡ Some NotRecovering
    away true false one two = refl
    away false b one two = absurd (false≢true one)
    away true true one two = absurd (false≢true (sym two))

-- ---- a step of a session

closed_turned : (n : ℕ) (s : RunState) → s.has_writer ≡ false → turned_away (Truncate n) s ≡ Some Closed
closed_turned n s none = by_writer s.has_writer none
  where
    by_writer : (a : Bool) → a ≡ false → (if a then (if s.recovering then None else Some NotRecovering) else Some Closed) ≡ Some Closed
    by_writer false is = refl
    by_writer true is = absurd (false≢true (sym is))

-- a truncate by a session with a writer in recovery
cuts_takes : (sum : List ℕ → ℕ) (was now : SessionState) (w : WriterState) (n : ℕ) (cache after : CacheState) (old new : Life) (reply : Reply) → was.writer ≡ Some w → was.recovering ≡ true → IsSound sum w old.present → KeepsRest was now → TruncatesWriter sum w now.writer n cache after old new reply
    → StepsBy true sum (Truncate n) reply was now old new
cuts_takes sum was now w n cache after old new (Length m) at recovering sound rest (v, is, size, says) =
    subst (λ (k : ℕ). StepsBy true sum (Truncate n) (Length k) was now old new) (sym size)
    (held_by true sum (Truncate n) (Length (size_of v)) was now w (Some v) old new at rest is (says.goes.sound sound) (inr (says.owes.starts sound)) (truncate_steps sum was w v n cache after old new recovering sound says))
cuts_takes sum was now w n cache after old new (Fault e) at recovering sound rest (is, says) =
    held_by true sum (Truncate n) (Fault e) was now w None old new at rest is tt (inr (says.owes.starts sound)) (truncate_refused_steps sum was w n e cache after old new recovering sound says)
cuts_takes sum was now w n cache after old new (At m) at recovering sound rest cuts = absurd cuts
cuts_takes sum was now w n cache after old new Nothing at recovering sound rest cuts = absurd cuts
cuts_takes sum was now w n cache after old new Done at recovering sound rest cuts = absurd cuts
cuts_takes sum was now w n cache after old new (Started sync) at recovering sound rest cuts = absurd cuts
cuts_takes sum was now w n cache after old new (Answer answer) at recovering sound rest cuts = absurd cuts
cuts_takes sum was now w n cache after old new (Bytes read) at recovering sound rest cuts = absurd cuts
cuts_takes sum was now w n cache after old new Closed at recovering sound rest cuts = absurd cuts
cuts_takes sum was now w n cache after old new NotRecovering at recovering sound rest cuts = absurd cuts
cuts_takes sum was now w n cache after old new (Served count read) at recovering sound rest cuts = absurd cuts
cuts_takes sum was now w n cache after old new (Missed numbers) at recovering sound rest cuts = absurd cuts
cuts_takes sum was now w n cache after old new BadRanges at recovering sound rest cuts = absurd cuts
cuts_takes sum was now w n cache after old new (Taken index) at recovering sound rest cuts = absurd cuts
cuts_takes sum was now w n cache after old new (Sealed index sync) at recovering sound rest cuts = absurd cuts
cuts_takes sum was now w n cache after old new NotAppending at recovering sound rest cuts = absurd cuts
cuts_takes sum was now w n cache after old new NoSuch at recovering sound rest cuts = absurd cuts
cuts_takes sum was now w n cache after old new (Replaying index) at recovering sound rest cuts = absurd cuts

-- a truncate by a session that is closed
pub truncated_closed : (sum : List ℕ → ℕ) (was now : SessionState) (n : ℕ) (old new : Life) (reply : Reply) → IsReadyApart sum was old.present → was.writer ≡ None → KeepsRest was now → IsClosed now.writer old new reply
    → StepsApart sum (Truncate n) reply was now old new
truncated_closed sum was now n old new reply ready at rest closed =
    closed_takes sum (Truncate n) was now old new reply (λ before none. closed_turned n before none) at ready closed.replied
    (rest ∙ ap (λ (o : Option WriterState). held was o) (closed.writer ∙ sym at) ∙ sym (held_same was was.writer refl)) closed.life

-- a truncate by a session in recovery
pub truncated_cut : (sum : List ℕ → ℕ) (was now : SessionState) (w : WriterState) (n : ℕ) (cache after : CacheState) (old new : Life) (reply : Reply) → IsReadyApart sum was old.present → was.recovering ≡ true → was.writer ≡ Some w → KeepsRest was now → TruncatesWriter sum w now.writer n cache after old new reply
    → StepsBy true sum (Truncate n) reply was now old new
truncated_cut sum was now w n cache after old new reply ready phase at rest cuts = cuts_takes sum was now w n cache after old new reply at phase (sound_of sum was w old.present at ready) rest cuts

-- a truncate by a session whose recovery has ended
pub truncated_turned : (sum : List ℕ → ℕ) (was now : SessionState) (w : WriterState) (n : ℕ) (cache after : CacheState) (old new : Life) (reply : Reply) → IsReadyApart sum was old.present → was.recovering ≡ false → was.writer ≡ Some w → KeepsRest was now → DidTruncate sum false (Some w) now.writer n cache after old new reply
    → StepsApart sum (Truncate n) reply was now old new
truncated_turned sum was now w n cache after old new reply ready phase at rest (replied, is, same, held) =
    subst (λ (r : Reply). StepsApart sum (Truncate n) r was now old new) (sym replied)
    (subst (λ (life : Life). StepsApart sum (Truncate n) NotRecovering was now old life) (sym same)
    (held_takes sum (Truncate n) NotRecovering was now w (Some w) old old at rest is (sound_of sum was w old.present at ready) ready.starts (turned_steps sum was w n old phase)))
