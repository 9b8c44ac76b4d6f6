-- What one step of a session does, from what the calls of its writer did.
use Rattle.std.proofs.Common.{◌≡◌, ℕ, zero, suc, ◌+◌, ◌≤◌, List, [], ◌∷◌, length, take, map, refl, sym, ap, ◌∙◌, subst, arith, inl, inr, Bool, true, false, min, max}
use Rattle.std.specs.Prelude.{All, Option, Some, None, if◌then◌else◌, is_some, ◌&&◌}
use Rattle.std.proofs.Math.Seq.{take-length}
use Rattle.std.proofs.lemmas.Bool.{false≢true}
use Rattle.disk.specs.Disk.{Disk, Life, next, life_after}
use Rattle.crash.specs.Kept.{AllKeep, AllOnly, Each, Through, Moments}
use Rattle.crash.specs.Started.{WouldKeep, CoversStay, CoversThrough}
use Rattle.writer_state.specs.WriterState.{WriterState}
use Rattle.crash.specs.Stays.{Stays}
use Rattle.crash.specs.Moments.{each_last, through_end, each_then}
use Rattle.crash.proofs.Moments.{keeps_longer, keeps_shorter}
use Rattle.crash.proofs.Promise.{keeps_less}
use Rattle.page.specs.Page.{text}
use Rattle.session.specs.declared.steps.Step.{Step}
use Rattle.session.specs.declared.steps.Step.TheVariants.{Append, Owned, TryAppend, Sync, StartSync, Wait, WaitSync, Needs, Size, Read, ReadUpTo, TryRead, ReadRanges, TryReadRanges, Begin, Truncate, Snapshot, TrySnapshot, Snap, Seal, Replay, Ensure, Take, Seek, DropSnapshot, DropReplay, Scan}
use Rattle.session.specs.declared.steps.Reply.{Reply}
use Rattle.session.specs.declared.steps.Reply.TheVariants.{Closed}
use Rattle.session.specs.Run.{RunState, SessionState, ended, is_complete, raised_floor, raised, lowered, forgetting, at_step, turned_away, content_after, TakesStep, FaultsComeFirst, AnswersStep, DeviceUse, use_of_step, last, UsesDevice, AllCover, WriterRepresents, WriterFits, NamesFit}
use Rattle.session.specs.Run.DeviceUse.{Leaves, Looks, Changes}
use Rattle.session.proofs.Apart.{AlwaysApart, StandsApart, SteppedApart}

-- a session with another writer, or none
abbrev pub held : SessionState → Option WriterState → SessionState
held was writer = record was { writer = writer }

-- a session with the writer that it has is the session
pub held_same : (was : SessionState) (o : Option WriterState) → was.writer ≡ o → was ≡ held was o
held_same was o is = rw (sym is) refl

-- ---- moments

-- the present after some moments is the last of them
pub last_is : (life : Life) (ds : List Disk) → (life_after life ds).present ≡ last life.present ds
last_is life [] = refl
last_is life (d ∷ ds) = last_is (next life d) ds

-- two lives are the same where their disks are
same_life : (a b : Life) → a.present ≡ b.present → a.past ≡ b.past → a ≡ b
same_life a b present past = rw (present, past) refl

-- how many moments a life has had
length_after : (life : Life) (ds : List Disk) → length (life_after life ds).past ≡ length life.past + length ds
length_after life [] = omega arith
length_after life (d ∷ ds) = omega (arith, length_after (next life d) ds)

-- the parts of a list
heads : (a b : Disk) (xs ys : List Disk) → a ∷ xs ≡ b ∷ ys → a ≡ b
heads a b xs ys is = cc

tails : (a b : Disk) (xs ys : List Disk) → a ∷ xs ≡ b ∷ ys → xs ≡ ys
tails a b xs ys is = cc

join_moments : (a b : Disk) (xs ys : List Disk) → a ≡ b → xs ≡ ys → a ∷ xs ≡ b ∷ ys
join_moments a b xs ys first rest = cc

-- the moments by which a life went on are known from where it began and ended
pub same_moments : (a b : Life) (ds es : List Disk) → length a.past ≡ length b.past → life_after a ds ≡ life_after b es → (a ≡ b) × (ds ≡ es)
same_moments a b [] [] long is = (is, refl)
same_moments a b [] (e ∷ es) long is = absurd (omega (arith, long, ap (λ (l : Life). length l.past) is, length_after (next b e) es))
same_moments a b (d ∷ ds) [] long is = absurd (omega (arith, long, ap (λ (l : Life). length l.past) is, length_after (next a d) ds))
same_moments a b (d ∷ ds) (e ∷ es) long is =
    let r = same_moments (next a d) (next b e) ds es (ap suc long) is in
    let newest : d ≡ e = ap (λ (l : Life). l.present) r.0 in
    let older : a.present ∷ a.past ≡ b.present ∷ b.past = ap (λ (l : Life). l.past) r.0 in
    (same_life a b (heads a.present b.present a.past b.past older) (tails a.present b.present a.past b.past older), join_moments d e ds es newest r.1)

-- where a life stayed there were none
pub no_moments : (old new : Life) (ds : List Disk) → new ≡ life_after old ds → new ≡ old → ds ≡ []
no_moments old new ds goes same = (same_moments old old ds [] refl (sym goes ∙ same)).1

-- what holds through a life holds at each of its moments
pub through_each : (Q : Disk → Type 0) (old new : Life) (ds : List Disk) → Through Q old new → new ≡ life_after old ds → Each Q ds
unfolding Through
through_each Q old new ds through goes = subst (λ (l : List Disk). Each Q l) (same_moments old old through.moments ds refl (sym through.goes ∙ goes)).1 through.each

-- ---- tables

-- where there is a writer, a step that needs one isn't turned away
pub answers_here : (sum : List ℕ → ℕ) (P : ℕ) (step : Step) (reply : Reply) (from to : Disk) (s after : RunState) → turned_away step s ≡ None → TakesStep sum P step reply from to s after → FaultsComeFirst P step reply s → AnswersStep sum P step reply from to s after
answers_here sum P step reply from to s after here takes foretells =
    subst
    (λ (turn : Option Reply). elim turn as (λ (o : Option Reply). Type 0) [
      | Some other ↦ (reply ≡ other) × (after ≡ s)
      | None ↦ TakesStep sum P step reply from to s after × FaultsComeFirst P step reply s
    ])
    (sym here) (takes, foretells)

-- a step that is turned away leaves the standing as it was
pub answers_away : (sum : List ℕ → ℕ) (P : ℕ) (step : Step) (reply : Reply) (from to : Disk) (s : RunState) → turned_away step s ≡ Some reply → AnswersStep sum P step reply from to s s
answers_away sum P step reply from to s away =
    subst
    (λ (turn : Option Reply). elim turn as (λ (o : Option Reply). Type 0) [
      | Some other ↦ (reply ≡ other) × (s ≡ s)
      | None ↦ TakesStep sum P step reply from to s s × FaultsComeFirst P step reply s
    ])
    (sym away) (refl, refl)

-- by whether there is a writer
pub turned_here : (has_writer : Bool) → has_writer ≡ true → (if has_writer then None else Some Closed) ≡ None
turned_here true has = refl
turned_here false has = absurd (false≢true has)

pub turned_closed : (has_writer : Bool) → has_writer ≡ false → (if has_writer then None else Some Closed) ≡ Some Closed
turned_closed true has = absurd (false≢true (sym has))
turned_closed false has = refl

pub not_turned_away : (step : Step) (s : RunState) (moments : List Disk) → turned_away step s ≡ None → is_some (turned_away step s) ≡ true → moments ≡ []
not_turned_away step s moments here away =
    let stays : is_some (turned_away step s) ≡ false = ap (λ (o : Option Reply). is_some o) here in
    absurd (false≢true (sym stays ∙ away))

-- a step may always leave the disk
pub leaves : (t : DeviceUse) (d : Disk) → UsesDevice t d []
leaves Leaves d = refl
leaves Looks d = tt
leaves (Changes most) d = omega arith

-- and a step may make so many calls
pub few_calls : (old new : Life) (moments : List Disk) (most : ℕ) → new ≡ life_after old moments → length new.present.log ≤ length old.present.log + most → UsesDevice (Changes most) old.present moments
few_calls old new moments most goes few = subst (λ (d : Disk). length d.log ≤ length old.present.log + most) (ap (λ (life : Life). life.present) goes ∙ last_is old moments) few

-- a floor raised by what is within the content stays within it
pub raise_within : (d : Disk) (covers : List (ℕ × ℕ)) (floor n : ℕ) → floor ≤ n → All (λ c. c.1 ≤ n) covers → raised_floor d covers floor ≤ n
raise_within d [] floor n enough within = enough
raise_within d (c ∷ covers) floor n enough within =
    raise_within d covers (if is_complete d c.0 then max c.1 floor else floor) n (by_test (is_complete d c.0) (within 0 c (omega arith))) (λ k x lt. within (suc k) x (omega (arith, lt)))
  where
    by_test : (test : Bool) → c.1 ≤ n → (if test then max c.1 floor else floor) ≤ n
    by_test true few = omega (arith, few, enough)
    by_test false few = enough

-- ---- what stands as a step begins

-- if so many bytes are kept, fewer are kept too
pub keeps_fewer : (sum : List ℕ → ℕ) (P : ℕ) (content : List ℕ) (fewer floor : ℕ) (d : Disk) → fewer ≤ floor → AllKeep sum P content floor d → AllKeep sum P content fewer d
keeps_fewer sum P content fewer floor d less keeps = keeps_less sum P content floor fewer d less keeps

-- if so many bytes are covered, fewer are covered too
pub would_fewer : (sum : List ℕ → ℕ) (P : ℕ) (content : List ℕ) (name fewer cover : ℕ) (d : Disk) → fewer ≤ cover → WouldKeep sum P content name cover d → WouldKeep sum P content name fewer d
would_fewer sum P content name fewer cover d less would = record { covers = would.covers; named = would.named; keeps = keeps_fewer sum P content fewer cover _ less would.keeps }

-- what holds of each cover holds of the lowered ones in other words
pub all_lowered : (Q R : ℕ × ℕ → Type 0) (n : ℕ) (covers : List (ℕ × ℕ)) → ((c : ℕ × ℕ) → Q c → R (c.0, min n c.1)) → All Q covers → All R (map (λ (c : ℕ × ℕ). (c.0, min n c.1)) covers)
all_lowered Q R n [] turned all = λ k x lt. absurd (omega (arith, lt))
all_lowered Q R n (c ∷ cs) turned all = both (all_lowered Q R n cs turned (λ j y below. all (suc j) y (omega (arith, below))))
  where
    both : All R (map (λ (c : ℕ × ℕ). (c.0, min n c.1)) cs) → All R ((c.0, min n c.1) ∷ map (λ (c : ℕ × ℕ). (c.0, min n c.1)) cs)
    both more zero x lt = turned c (all 0 c (omega arith))
    both more (suc k) x lt = more k x (omega (arith, lt))

-- a step never begins with more bytes kept than stood before
lowered_keeps : (sum : List ℕ → ℕ) (P n : ℕ) (s : RunState) (d : Disk) → AllKeep sum P s.content s.floor d → AllKeep sum P s.content (lowered n s).floor d
lowered_keeps sum P n s d keeps = keeps_fewer sum P s.content (min n s.floor) s.floor d (omega arith) keeps

lowered_covers : (sum : List ℕ → ℕ) (P n : ℕ) (s : RunState) (d : Disk) → AllCover sum P s.content s.covers d → AllCover sum P s.content (lowered n s).covers d
lowered_covers sum P n s d covered =
    all_lowered (λ c. WouldKeep sum P s.content c.0 c.1 d) (λ c. WouldKeep sum P s.content c.0 c.1 d) n s.covers (λ c would. would_fewer sum P s.content c.0 (min n c.1) c.1 d (omega arith) would) covered

-- what holds of the standing and of the lowered one holds of what stands as a step begins
begun_either : (Q : RunState → Type 0) (step : Step) (s : RunState) → Q s → ((n : ℕ) → Q (forgetting (lowered n s))) → Q (at_step step s)
begun_either Q (Truncate n) s same less = by_phase (s.has_writer && s.recovering)
  where
    by_phase : (cuts : Bool) → Q (if cuts then forgetting (lowered n s) else s)
    by_phase true = less n
    by_phase false = same
begun_either Q (Append bytes) s same less = same
begun_either Q (Owned bytes) s same less = same
begun_either Q (TryAppend bytes) s same less = same
begun_either Q Sync s same less = same
begun_either Q StartSync s same less = same
begun_either Q Wait s same less = same
begun_either Q (WaitSync name) s same less = same
begun_either Q Needs s same less = same
begun_either Q Size s same less = same
begun_either Q (Read offset len) s same less = same
begun_either Q (ReadUpTo offset len) s same less = same
begun_either Q (TryRead offset len) s same less = same
begun_either Q (ReadRanges ranges) s same less = same
begun_either Q (TryReadRanges ranges) s same less = same
begun_either Q Begin s same less = same
begun_either Q Snapshot s same less = same
begun_either Q TrySnapshot s same less = same
begun_either Q (Snap index offset len) s same less = same
begun_either Q Seal s same less = same
begun_either Q (Replay buffer_size) s same less = same
begun_either Q (Ensure index count) s same less = same
begun_either Q (Take index count) s same less = same
begun_either Q (Seek index offset) s same less = same
begun_either Q (DropSnapshot index) s same less = same
begun_either Q (DropReplay index) s same less = same
begun_either Q (Scan proven most buffer_size) s same less = same

pub begun_keeps : (sum : List ℕ → ℕ) (P : ℕ) (step : Step) (s : RunState) (d : Disk) → AllKeep sum P s.content s.floor d → AllKeep sum P s.content (at_step step s).floor d
begun_keeps sum P step s d keeps = begun_either (λ x. AllKeep sum P s.content x.floor d) step s keeps (λ n. lowered_keeps sum P n s d keeps)

pub begun_covers : (sum : List ℕ → ℕ) (P : ℕ) (step : Step) (s : RunState) (d : Disk) → AllCover sum P s.content s.covers d → AllCover sum P s.content (at_step step s).covers d
begun_covers sum P step s d covered = begun_either (λ x. AllCover sum P s.content x.covers d) step s covered (λ n. lowered_covers sum P n s d covered)

pub begun_within : (step : Step) (s : RunState) (n : ℕ) → s.floor ≤ n → (at_step step s).floor ≤ n
begun_within step s n within = begun_either (λ x. x.floor ≤ n) step s within (λ m. omega (arith, within))

-- ---- both halves, and what started syncs cover

-- what a started sync covers of a content it covers of a longer one
pub would_longer : (sum : List ℕ → ℕ) (P : ℕ) (content longer : List ℕ) (name cover : ℕ) (d : Disk) → content ≡ take (length content) longer → cover ≤ length content → WouldKeep sum P content name cover d → WouldKeep sum P longer name cover d
would_longer sum P content longer name cover d starts enough would = record { covers = would.covers; named = would.named; keeps = keeps_longer sum P content longer cover _ starts enough would.keeps }

pub cover_longer : (sum : List ℕ → ℕ) (P : ℕ) (content longer : List ℕ) (covers : List (ℕ × ℕ)) (d : Disk) → content ≡ take (length content) longer → All (λ c. c.1 ≤ length content) covers → AllCover sum P content covers d → AllCover sum P longer covers d
cover_longer sum P content longer covers d starts within covered = λ k x lt. would_longer sum P content longer _ _ d starts (within k x lt) (covered k x lt)

-- a call keeps what each started sync covers
pub cover_stays : (sum : List ℕ → ℕ) (P : ℕ) (content : List ℕ) (covers : List (ℕ × ℕ)) (d e : Disk) → All (λ c. c.1 ≤ length content) covers → CoversStay sum P content d e → AllCover sum P content covers d → AllCover sum P content covers e
cover_stays sum P content covers d e within stay covered = λ k x lt. stay _ _ (within k x lt) (covered k x lt)

-- both halves at each moment of a call, and what holds at its end
pub record Halves (sum : List ℕ → ℕ) (P : ℕ) (content longer : List ℕ) (floor : ℕ) (covers : List (ℕ × ℕ)) (old new : Life) (moments : List Disk) : Type 0 where
  pub goes : new ≡ life_after old moments
  pub kept : Each (AllKeep sum P content floor) (old.present ∷ moments)
  pub covered : Each (AllCover sum P content covers) (old.present ∷ moments)
  pub only : Each (AllOnly sum P content longer) (old.present ∷ moments)
  pub stays : Stays sum P longer old.present new.present

-- both halves, by what holds at each moment
pub halves : (sum : List ℕ → ℕ) (P : ℕ) (content longer : List ℕ) (floor : ℕ) (covers : List (ℕ × ℕ)) (old new : Life) → content ≡ take (length content) longer → length content ≤ length longer → floor ≤ length content
    → All (λ c. c.1 ≤ length content) covers → (through : Moments (Stays sum P longer old.present) old new) → CoversThrough sum P content old new → AllKeep sum P content floor old.present → AllCover sum P content covers old.present
    → Halves sum P content longer floor covers old new through.moments
unfolding Through
halves sum P content longer floor covers old new starts more enough within through covering keeps covered =
    let kept : (d : Disk) → Stays sum P longer old.present d → AllKeep sum P content floor d =
    λ d stays. keeps_shorter sum P content longer floor d starts enough (stays.kept floor (omega arith) (keeps_longer sum P content longer floor old.present starts enough keeps)) in
    let only : (d : Disk) → Stays sum P longer old.present d → AllOnly sum P content longer d = λ d stays. record { only = λ image is_image free. inr (stays.only image is_image free); vouched = stays.vouched } in
    let cover : (d : Disk) → CoversStay sum P content old.present d → AllCover sum P content covers d = λ d stay. cover_stays sum P content covers old.present d within stay covered in
    record {
      goes = through.goes;
      kept = (kept old.present through.start, each_then (Stays sum P longer old.present) (AllKeep sum P content floor) through.moments kept through.each);
      covered = (covered, each_then (CoversStay sum P content old.present) (AllCover sum P content covers) through.moments cover (through_each (CoversStay sum P content old.present) old new through.moments covering through.goes));
      only = (only old.present through.start, each_then (Stays sum P longer old.present) (AllOnly sum P content longer) through.moments only through.each);
      stays = through_end (Stays sum P longer old.present) old new through;
    }

-- what holds at each moment holds at the end
pub each_end : (Q : Disk → Type 0) (old new : Life) (ds : List Disk) → new ≡ life_after old ds → Each Q (old.present ∷ ds) → Q new.present
each_end Q old new ds goes each = subst (λ (life : Life). Q life.present) (sym goes) (each_last Q old ds each.0 each.1)

-- a content is a prefix of itself
pub itself : (content : List ℕ) → content ≡ take (length content) content
itself content = sym (take-length content)

-- ---- steps

-- the floor within the content once it is raised
pub raised_within : (sum : List ℕ → ℕ) (P : ℕ) (now : SessionState) (old new : Life) (after : RunState) (moments : List Disk) → new ≡ life_after old moments → StandsApart sum P now after new.present
    → (raised (last old.present moments) after).floor ≤ length after.content
raised_within sum P now old new after moments goes stands = raise_within (last old.present moments) after.covers after.floor (length after.content) stands.floor stands.within

-- a step by a session with a writer, by what holds at each moment and the answer
pub stepped_by : (sum : List ℕ → ℕ) (P : ℕ) (step : Step) (reply : Reply) (now : SessionState) (old new : Life) (before after : RunState) (moments : List Disk) → before.has_writer ≡ true → turned_away step before ≡ None
    → new ≡ life_after old moments → Each (AllKeep sum P before.content (at_step step before).floor) (old.present ∷ moments) → Each (AllCover sum P before.content (at_step step before).covers) (old.present ∷ moments)
    → Each (AllOnly sum P before.content (content_after step before.content)) (old.present ∷ moments) → UsesDevice (use_of_step P step before) old.present moments → TakesStep sum P step reply old.present new.present before after → FaultsComeFirst P step reply before
    → StandsApart sum P now after new.present → SteppedApart sum P step reply now old new before after.snapshots after.replays
stepped_by sum P step reply now old new before after moments has here goes kept covered only touches takes foretells stands = record {
  moments = moments;
  goes = goes;
  after = after;
  did = record {
    answer = subst (λ (to : Disk). AnswersStep sum P step reply old.present to before after) (ap (λ (life : Life). life.present) goes ∙ last_is old moments) (answers_here sum P step reply old.present new.present before after here takes foretells);
    touches = touches;
    stopped = not_turned_away step before moments here;
    kept = kept;
    covered = covered;
    only = subst (λ (b : Bool). Each (AllOnly sum P before.content (if b then content_after step before.content else before.otherwise)) (old.present ∷ moments)) (sym has) only;
    within = raised_within sum P now old new after moments goes stands;
  };
  stands = stands;
  same = refl;
  alike = refl;
}

-- such a step, by both halves
pub stepped : (sum : List ℕ → ℕ) (P : ℕ) (step : Step) (reply : Reply) (now : SessionState) (old new : Life) (before after : RunState) (moments : List Disk) → before.has_writer ≡ true → turned_away step before ≡ None
    → Halves sum P before.content (content_after step before.content) (at_step step before).floor (at_step step before).covers old new moments → UsesDevice (use_of_step P step before) old.present moments → TakesStep sum P step reply old.present new.present before after
    → FaultsComeFirst P step reply before → StandsApart sum P now after new.present → SteppedApart sum P step reply now old new before after.snapshots after.replays
stepped sum P step reply now old new before after moments has here h touches takes foretells stands =
    stepped_by sum P step reply now old new before after moments has here h.goes h.kept h.covered h.only touches takes foretells stands

-- of the two contents that a step may leave, the first, where the writer's stays
pub only_there : (sum : List ℕ → ℕ) (P : ℕ) (o : Option WriterState) (before : RunState) (d e : Disk) → WriterFits P o before d → AllOnly sum P before.content before.otherwise e
    → AllOnly sum P before.content (if before.has_writer then before.content else before.otherwise) e
only_there sum P None before d e fits only = subst (λ (b : Bool). AllOnly sum P before.content (if b then before.content else before.otherwise) e) (sym fits) only
only_there sum P (Some w) before d e fits only =
    subst (λ (b : Bool). AllOnly sum P before.content (if b then before.content else before.otherwise) e) (sym fits.has_writer)
    (subst (λ (l : List ℕ). AllOnly sum P before.content l e) fits.otherwise only)

-- a session that is closed stays so
pub closed_steps : (sum : List ℕ → ℕ) (step : Step) (was now : SessionState) (old new : Life) (reply : Reply) → was.writer ≡ None → ((before : RunState) → before.has_writer ≡ false → turned_away step before ≡ Some Closed) → reply ≡ Closed → now ≡ was
    → new ≡ old → AlwaysApart sum step reply was now old new
closed_steps sum step was now old new reply none away replied same_session same = λ P before stands.
    let fits : WriterFits P None before old.present = subst (λ (o : Option WriterState). WriterFits P o before old.present) none stands.fits in
    let is : SteppedApart sum P step Closed was old old before before.snapshots before.replays = record {
      moments = [];
      goes = refl;
      after = before;
      did = record {
        answer = answers_away sum P step Closed old.present old.present before (away before fits);
        touches = leaves (use_of_step P step before) old.present;
        stopped = λ gone. refl;
        kept = (begun_keeps sum P step before old.present stands.kept, tt);
        covered = (begun_covers sum P step before old.present stands.covered, tt);
        only = (subst (λ (b : Bool). AllOnly sum P before.content (if b then content_after step before.content else before.otherwise) old.present) (sym fits) stands.only, tt);
        within = raised_within sum P was old old before [] refl stands;
      };
      stands = stands;
      same = refl;
      alike = refl;
    } in
    subst (λ (r : Reply). SteppedApart sum P step r now old new before before.snapshots before.replays) (sym replied)
    (subst (λ (v : SessionState). SteppedApart sum P step Closed v old new before before.snapshots before.replays) (sym same_session)
    (subst (λ (life : Life). SteppedApart sum P step Closed was old life before before.snapshots before.replays) (sym same) is))

-- a step by a session with a writer that asks the device nothing
pub unasked : (sum : List ℕ → ℕ) (P : ℕ) (was : SessionState) (w : WriterState) (step : Step) (reply : Reply) (now : SessionState) (life : Life) (before after : RunState) → turned_away step before ≡ None → StandsApart sum P (held was (Some w)) before life.present
    → TakesStep sum P step reply life.present life.present before after → FaultsComeFirst P step reply before → StandsApart sum P now after life.present → SteppedApart sum P step reply now life life before after.snapshots after.replays
unasked sum P was w step reply now life before after here stands takes foretells stands_after =
    let has = stands.fits.has_writer in
    let only : AllOnly sum P before.content (content_after step before.content) life.present = record {
      only = λ image is_image free. elim (stands.only.only image is_image free) [
        | inl starts ↦ inl starts
        | inr starts ↦ inl (subst (λ (l : List ℕ). text sum P image ≡ take (length (text sum P image)) l) stands.fits.otherwise starts)
      ];
      vouched = stands.only.vouched;
    } in
    record {
      moments = [];
      goes = refl;
      after = after;
      did = record {
        answer = answers_here sum P step reply life.present life.present before after here takes foretells;
        touches = leaves (use_of_step P step before) life.present;
        stopped = λ away. refl;
        kept = (begun_keeps sum P step before life.present stands.kept, tt);
        covered = (begun_covers sum P step before life.present stands.covered, tt);
        only = (subst (λ (b : Bool). AllOnly sum P before.content (if b then content_after step before.content else before.otherwise) life.present) (sym has) only, tt);
        within = raised_within sum P now life life after [] refl stands_after;
      };
      stands = stands_after;
      same = refl;
      alike = refl;
    }

-- such a step, over a blob that stayed as it was
pub unasked_over : (sum : List ℕ → ℕ) (P : ℕ) (was : SessionState) (w : WriterState) (step : Step) (reply : Reply) (now : SessionState) (old new : Life) (before after : RunState) → new ≡ old → turned_away step before ≡ None
    → StandsApart sum P (held was (Some w)) before old.present → TakesStep sum P step reply old.present old.present before after → FaultsComeFirst P step reply before → StandsApart sum P now after old.present → SteppedApart sum P step reply now old new before after.snapshots after.replays
unasked_over sum P was w step reply now old new before after same here stands takes foretells stands_after =
    subst (λ (life : Life). SteppedApart sum P step reply now old life before after.snapshots after.replays) (sym same) (unasked sum P was w step reply now old before after here stands takes foretells stands_after)

-- what a session with this writer stands for, once its call was done, or didn't take it
pub stands_now : (sum : List ℕ → ℕ) (P : ℕ) (was : SessionState) (v : WriterState) (old new : Life) (after : RunState) → WriterRepresents P v after new.present → was.recovering ≡ after.recovering → NamesFit was.names after.covers
    → after.floor ≤ length after.content → All (λ c. c.1 ≤ length after.content) after.covers → AllKeep sum P after.content after.floor new.present → AllCover sum P after.content after.covers new.present
    → Stays sum P after.content old.present new.present → StandsApart sum P (held was (Some v)) after new.present
stands_now sum P was v old new after fits phase names enough within kept covered stays = record {
  fits = fits;
  phase = phase;
  names = names;
  floor = enough;
  within = within;
  kept = kept;
  covered = covered;
  only = record { only = λ image is_image free. inl (stays.only image is_image free); vouched = stays.vouched };
}

-- what a session without a writer stands for, once its call was refused
pub stands_ended : (sum : List ℕ → ℕ) (P : ℕ) (was : SessionState) (w : WriterState) (old new : Life) (before : RunState) (longer : List ℕ) (moments : List Disk) → StandsApart sum P (held was (Some w)) before old.present
    → Halves sum P before.content longer before.floor before.covers old new moments → StandsApart sum P (held was None) (ended longer before) new.present
stands_ended sum P was w old new before longer moments stands h = record {
  fits = refl;
  phase = stands.phase;
  names = stands.names;
  floor = stands.floor;
  within = stands.within;
  kept = each_end (AllKeep sum P before.content before.floor) old new moments h.goes h.kept;
  covered = each_end (AllCover sum P before.content before.covers) old new moments h.goes h.covered;
  only = each_end (AllOnly sum P before.content longer) old new moments h.goes h.only;
}
