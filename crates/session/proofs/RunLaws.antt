-- A run goes on by one step.
use Rattle.std.proofs.Common.{◌≡◌, ℕ, ◌+◌, List, [], ◌∷◌, ◌++◌, length, refl, sym, ap, ◌∙◌, subst, append-nil, append_assoc, length-append, inl, inr, suc, ◌≤◌, arith, slice_get, Bool, true, false}
use Rattle.std.specs.Prelude.{Option, Some, None, nat_le, max, if◌then◌else◌}
use Rattle.std.proofs.lemmas.Bool.{cases_lt}
use Rattle.std.proofs.lemmas.Bool.Decides.{nat_tests}
use Rattle.std.proofs.lemmas.Option.{same_Some}
use Rattle.disk.specs.Disk.{Disk, Life, life_after, coverings}
use Rattle.crash.specs.Kept.{AllKeep, AllOnly}
use Rattle.crash.specs.Started.{WouldKeep}
use Rattle.writer_state.specs.WriterState.{WriterState}
use Rattle.writer_state.proofs.StartedLaws.{settled_already}
use Rattle.crash.specs.Moments.{life_after-append}
use Rattle.cache.specs.CacheState.{CacheState}
use Rattle.session.specs.declared.steps.Step.{Step}
use Rattle.session.specs.declared.steps.Reply.{Reply}
use Rattle.session.specs.Run.{RunState, SessionState, is_complete, raised_floor, raised, AllCover, Represents, last, Did, Ran, RunsAlways, WriterFits, IsSessionReady}
use Rattle.session.specs.Calls.{DidCall, RanCalls, RunGoes, Steps}
use Rattle.session.proofs.StepLaws.{last_is, raise_within}

-- ---- floors that are raised

-- the greater of two floors
greater_floor : (sum : List ℕ → ℕ) (P : ℕ) (content : List ℕ) (a b : ℕ) (d : Disk) → AllKeep sum P content a d → AllKeep sum P content b d → AllKeep sum P content (max a b) d
greater_floor sum P content a b d first second = elim (cases_lt a b) [
  | inl less ↦ let e : b ≡ max a b = omega arith in subst (λ (n : ℕ). AllKeep sum P content n d) e second
  | inr more ↦ let e : a ≡ max a b = omega arith in subst (λ (n : ℕ). AllKeep sum P content n d) e first
]

-- the floor is raised by one started sync
raised_once : (sum : List ℕ → ℕ) (P : ℕ) (content : List ℕ) (name cover floor : ℕ) (d : Disk) → WouldKeep sum P content name cover d → AllKeep sum P content floor d → AllKeep sum P content (if is_complete d name then max cover floor else floor) d
raised_once sum P content name cover floor d would keeps = by_cover (slice_get (coverings d) name) would.named
  where
    by_test : (test : Bool) → (nat_le would.covers.0 d.settled) ≡ test → AllKeep sum P content (if test then max cover floor else floor) d
    by_test true done =
        let settled : would.covers.0 ≤ d.settled = grind (arith, nat_tests, done) in
        greater_floor sum P content cover floor d (subst (λ (x : Disk). AllKeep sum P content cover x) (settled_already would.covers d settled) would.keeps) keeps
    by_test false pending = keeps

    by_cover : (o : Option (ℕ × List ℕ)) → o ≡ Some would.covers → AllKeep sum P content (if elim o [ None ↦ false | Some c ↦ nat_le c.0 d.settled ] then max cover floor else floor) d
    by_cover None is = absurd (cc is)
    by_cover (Some c) is =
        subst (λ (x : ℕ × List ℕ). AllKeep sum P content (if nat_le x.0 d.settled then max cover floor else floor) d) (sym (same_Some c would.covers is)) (by_test (nat_le would.covers.0 d.settled) refl)

-- the floor is raised by all started syncs
raised_keeps : (sum : List ℕ → ℕ) (P : ℕ) (content : List ℕ) (covers : List (ℕ × ℕ)) (floor : ℕ) (d : Disk) → AllCover sum P content covers d → AllKeep sum P content floor d → AllKeep sum P content (raised_floor d covers floor) d
raised_keeps sum P content [] floor d would keeps = keeps
raised_keeps sum P content (c ∷ covers) floor d would keeps =
    raised_keeps sum P content covers (if is_complete d c.0 then max c.1 floor else floor) d (λ k x lt. would (suc k) x (omega (arith, lt)))
    (raised_once sum P content c.0 c.1 floor d (would 0 c (omega arith)) keeps)

-- a writer stands for the content with the floor raised too
raised_fits : (P : ℕ) (o : Option WriterState) (s : RunState) (d : Disk) → WriterFits P o s d → WriterFits P o (raised d s) d
raised_fits P None s d fits = fits
raised_fits P (Some w) s d fits = record {
  page_size = fits.page_size;
  has_writer = fits.has_writer;
  content = fits.content;
  otherwise = fits.otherwise;
  capacity = fits.capacity;
  buffered = fits.buffered;
  within = fits.within;
  written = fits.written;
  awaited = fits.awaited;
}

-- where a session stands for something, it stands for it with the floor raised
pub raised_stands : (sum : List ℕ → ℕ) (P : ℕ) (session : SessionState) (s : RunState) (d : Disk) → Represents sum P session s d → Represents sum P session (raised d s) d
raised_stands sum P session s d stands = record {
  fits = raised_fits P session.writer s d stands.fits;
  phase = stands.phase;
  names = stands.names;
  floor = raise_within d s.covers s.floor (length s.content) stands.floor stands.within;
  within = stands.within;
  kept = raised_keeps sum P s.content s.covers s.floor d stands.covered stands.kept;
  covered = stands.covered;
  only = stands.only;
  snapshots = stands.snapshots;
  replays = stands.replays;
}

-- ---- a run

-- the last of joined moments
last-append : (d : Disk) (xs ys : List Disk) → last d (xs ++ ys) ≡ last (last d xs) ys
last-append d [] ys = refl
last-append d (x ∷ xs) ys = last-append x xs ys

-- one step more
pub ran_more : (sum : List ℕ → ℕ) (P : ℕ) (steps : List Step) (replies : List Reply) (step : Step) (reply : Reply) (from to : Disk) (moments more : List Disk) (before mid after : RunState)
    → Ran sum P steps replies from moments before mid → to ≡ last from moments → Did sum P step reply to more mid after
    → AllKeep sum P after.content (raised (last to more) after).floor (last to more) → AllOnly sum P after.content after.otherwise (last to more)
    → Ran sum P (steps ++ step ∷ []) (replies ++ reply ∷ []) from (moments ++ more) before (raised (last to more) after)
ran_more sum P [] [] step reply from to moments more before mid after (none, same, keeps, has) reaches did kept only =
    let at : to ≡ from = reaches ∙ ap (λ (ds : List Disk). last from ds) none in
    let stood : AllKeep sum P mid.content mid.floor to × AllOnly sum P mid.content mid.otherwise to =
    subst (λ (s : RunState). AllKeep sum P s.content s.floor to × AllOnly sum P s.content s.otherwise to) (sym same)
    (subst (λ (d : Disk). AllKeep sum P before.content before.floor d × AllOnly sum P before.content before.otherwise d) (sym at) (keeps, has)) in
    let one : Ran sum P (step ∷ []) (reply ∷ []) to more mid (raised (last to more) after) = (stood.0, stood.1, more, [], sym (append-nil more), after, did, (refl, refl, kept, only)) in
    subst (λ (ds : List Disk). Ran sum P (step ∷ []) (reply ∷ []) from (ds ++ more) before (raised (last to more) after)) (sym none)
    (subst (λ (s : RunState). Ran sum P (step ∷ []) (reply ∷ []) from more s (raised (last to more) after)) same
    (subst (λ (d : Disk). Ran sum P (step ∷ []) (reply ∷ []) d more mid (raised (last to more) after)) at one))
ran_more sum P (x ∷ xs) (r ∷ rs) step reply from to moments more before mid after (keeps, has, first, rest, is, between, one, others) reaches did kept only = (
  keeps,
  has,
  first,
  rest ++ more,
  ap (λ (ds : List Disk). ds ++ more) is ∙ append_assoc first rest more,
  between,
  one,
  ran_more sum P xs rs step reply (last from first) to rest more (raised (last from first) between) mid after others (reaches ∙ ap (λ (ds : List Disk). last from ds) is ∙ last-append from first rest) did kept only,
)
ran_more sum P [] (r ∷ rs) step reply from to moments more before mid after ran reaches did kept only = absurd ran
ran_more sum P (x ∷ xs) [] step reply from to moments more before mid after ran reaches did kept only = absurd ran

-- a run of no step
pub runs_none : (sum : List ℕ → ℕ) (was : SessionState) (life : Life) (replies : List Reply) → RunsAlways sum [] was was life life replies replies
runs_none sum was life replies = record {
  added = [];
  adds = sym (append-nil replies);
  count = refl;
  runs = λ P before stands. record { moments = []; goes = refl; after = before; ran = (refl, refl, stands.kept, stands.only); stands = stands };
}

-- a run and one step more
pub runs_more : (sum : List ℕ → ℕ) (steps : List Step) (step : Step) (reply : Reply) (was mid now : SessionState) (old between new : Life) (earlier replies more : List Reply)
    → RunsAlways sum steps was mid old between earlier replies → Steps sum step reply mid now between new → more ≡ replies ++ reply ∷ [] → RunsAlways sum (steps ++ step ∷ []) was now old new earlier more
runs_more sum steps step reply was mid now old between new earlier replies more ran takes is = record {
  added = ran.added ++ reply ∷ [];
  adds = is ∙ ap (λ (rs : List Reply). rs ++ reply ∷ []) ran.adds ∙ append_assoc earlier ran.added (reply ∷ []);
  count = length-append ran.added (reply ∷ []) ∙ ap (λ (n : ℕ). n + 1) ran.count ∙ sym (length-append steps (step ∷ []));
  runs = λ P before stands.
      let a = ran.runs P before stands in
      let b = takes.always P a.after a.stands in
      let end : new.present ≡ last between.present b.moments = ap (λ (life : Life). life.present) b.goes ∙ last_is between b.moments in
      let final : Represents sum P now (raised (last between.present b.moments) b.after) (last between.present b.moments) =
      raised_stands sum P now b.after (last between.present b.moments) (subst (λ (d : Disk). Represents sum P now b.after d) end b.stands) in
      record {
        moments = a.moments ++ b.moments;
        goes = b.goes ∙ ap (λ (life : Life). life_after life b.moments) a.goes ∙ sym (life_after-append old a.moments b.moments);
        after = raised (last between.present b.moments) b.after;
        ran = ran_more sum P steps ran.added step reply old.present between.present a.moments b.moments before a.after b.after a.ran (ap (λ (life : Life). life.present) a.goes ∙ last_is old a.moments) b.did final.kept final.only;
        stands = subst (λ (d : Disk). Represents sum P now (raised (last between.present b.moments) b.after) d) (sym end) final;
      };
}

-- ---- the calls of a run

-- the calls of a run of steps, and of one step more
calls_more : (sum : List ℕ → ℕ) (steps : List Step) (replies : List Reply) (step : Step) (reply : Reply) (was mid now : SessionState) (cache held after : CacheState) (old between new : Life) → RanCalls sum steps replies was mid cache held old between → IsSessionReady sum mid held between.present
    → DidCall sum step reply mid now held after between new → RanCalls sum (steps ++ step ∷ []) (replies ++ reply ∷ []) was now cache after old new
calls_more sum [] [] step reply was mid now cache held after old between new (same, kept, stayed) ready did =
    let first : IsSessionReady sum was cache old.present × DidCall sum step reply was now cache after old new =
    subst (λ (s : SessionState). IsSessionReady sum s cache old.present × DidCall sum step reply s now cache after old new) same
    (subst (λ (c : CacheState). IsSessionReady sum mid c old.present × DidCall sum step reply mid now c after old new) kept
    (subst (λ (life : Life). IsSessionReady sum mid held life.present × DidCall sum step reply mid now held after life new) stayed (ready, did))) in
    (first.0, now, after, new, first.1, (refl, refl, refl))
calls_more sum (x ∷ xs) (r ∷ rs) step reply was mid now cache held after old between new (begins, next, kept, life, one, others) ready did =
    (begins, next, kept, life, one, calls_more sum xs rs step reply next mid now kept held after life between new others ready did)
calls_more sum [] (r ∷ rs) step reply was mid now cache held after old between new ran ready did = absurd ran
calls_more sum (x ∷ xs) [] step reply was mid now cache held after old between new ran ready did = absurd ran

-- the calls of a run of no step
pub goes_none : (sum : List ℕ → ℕ) (was : SessionState) (cache : CacheState) (life : Life) (replies : List Reply) → RunGoes sum [] was was cache cache life life replies replies
unfolding runs_none
goes_none sum was cache life replies = record { always = runs_none sum was life replies; calls = (refl, refl, refl) }

-- the calls of a run and of one step more
pub goes_more : (sum : List ℕ → ℕ) (steps : List Step) (step : Step) (reply : Reply) (was mid now : SessionState) (cache held after : CacheState) (old between new : Life) (earlier replies more : List Reply)
    → RunGoes sum steps was mid cache held old between earlier replies → IsSessionReady sum mid held between.present → Steps sum step reply mid now between new → DidCall sum step reply mid now held after between new → more ≡ replies ++ reply ∷ []
    → RunGoes sum (steps ++ step ∷ []) was now cache after old new earlier more
unfolding runs_more
goes_more sum steps step reply was mid now cache held after old between new earlier replies more ran ready takes did is = record {
  always = runs_more sum steps step reply was mid now old between new earlier replies more ran.always takes is;
  calls = calls_more sum steps ran.always.added step reply was mid now cache held after old between new ran.calls ready did;
}
