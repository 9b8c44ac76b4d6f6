-- The promise of a run, put together from what a run and a recovery say.
use Rattle.std.proofs.Common.{◌≡◌, ℕ, ◌+◌, ◌<◌, ◌≤◌, List, [], ◌∷◌, ◌++◌, length, take, refl, sym, ap, ◌∙◌, subst, arith, inl, inr, Bool, true, false, length-take}
use Rattle.std.specs.Prelude.{Ok, ◌⊎◌, ◌%◌, ◌*◌}
use Rattle.std.proofs.lemmas.List.{take-take}
use Rattle.disk.specs.Disk.{Disk, IsImage, Life, next, life_after}
use Rattle.page.specs.Page.{text}
use Rattle.page.specs.Geometry.{adjusted}
use Rattle.cache.specs.CacheState.{CacheState}
use Rattle.crash.specs.Guard.{IsChanceFree}
use Rattle.crash.specs.Distinct.{IsDistinct}
use Rattle.crash.proofs.DistinctLaws.{distinct_is_chance_free, vouched_at_rest}
use Rattle.crash.specs.Kept.{AllKeep, AllOnly, Each, Through}
use Rattle.crash.specs.Stays.{Stays, KeepsAll, KeepsAllFloors}
use Rattle.writer_state.specs.WriterState.{WriterState}
use Rattle.writer_state.specs.Sound.{IsSound, content as content_of}
use Rattle.crash.proofs.Disks.{base_is_whole}
use Rattle.disk.specs.Images.{only_image}
use Rattle.crash.specs.Moments.{each_last, through_end, life_after-append, each_then}
use Rattle.crash.proofs.Moments.{stays_itself}
use Rattle.crash.proofs.Promise.{keeps_nothing, keeps_same, keeps_settle, whole_is_chance_free}
use Rattle.paged.specs.Calls.{HoldsWithin}
use Rattle.paged.specs.Recovery.{IsDurable, LeavesText}
use Rattle.paged.specs.Recovers.{Recovers}
use Rattle.paged.proofs.Recovered.{recovered_capacity}
use Rattle.session.specs.declared.steps.Step.{Step}
use Rattle.session.specs.declared.steps.Reply.{Reply}
use Rattle.session.specs.Run.{RunState, SessionState, raised, at_step as begun_with, other_content, last, Ran, Represents, RunsAlways}
use Rattle.session.specs.Promise.{IsMoment, HasCrashed, Crashes, Attempts, HasRecovered, ComesBack, IsPrefixOf, Survives, EachStepIsExact, Promises, session_of, fresh, BeginsWithFloor, IsPrefixOfEither, IsBegun, AttemptsThrough, opened, RepresentsWhereSound, RecoversFrom, GivesBack, GivesBackLeft, LeadsOn}
use Rattle.session.specs.Promise.ComesBack.{recovered, crashed, attempted}
use Rattle.session.proofs.Apart.{whole}
use Rattle.session.proofs.StepLaws.{same_moments, begun_within, stands_now}
use Rattle.session.proofs.AppendLaws.{settled_started, settled_awaits}
use Rattle.paged.proofs.Flushes.{size_is_length}
use Rattle.std.proofs.Math.Nat.{mul-add-mod_self_right, mod-eq_of_lt}
use Rattle.std.proofs.lemmas.Bool.{false≢true}

-- ---- moments of a life

-- what holds of joined moments holds of the first
each_front : (Q : Disk → Type 0) (ds es : List Disk) → Each Q (ds ++ es) → Each Q ds
each_front Q [] es each = tt
each_front Q (d ∷ ds) es each = (each.0, each_front Q ds es each.1)

-- what holds through a life holds at each moment of it
pub through_moment : (Q : Disk → Type 0) (old new : Life) (d : Disk) → Through Q old new → IsMoment old new d → Q d
unfolding Through
through_moment Q old new d through (before, after, goes, is) =
    let same : through.moments ≡ before ++ after = (same_moments old old through.moments (before ++ after) refl (sym through.goes ∙ goes ∙ sym (life_after-append old before after))).1 in
    let each : Each Q before = each_front Q before after (subst (λ (l : List Disk). Each Q l) same through.each) in
    subst Q (sym is) (each_last Q old before through.start each)

-- each of the moments by which a life went on is a moment of it
each_moment : (old new : Life) (before moments : List Disk) → new ≡ life_after (life_after old before) moments → Each (λ d. IsMoment old new d) moments
each_moment old new before [] goes = tt
each_moment old new before (d ∷ ds) goes =
    let joined : life_after old (before ++ d ∷ []) ≡ next (life_after old before) d = life_after-append old before (d ∷ []) in
    let later : new ≡ life_after (life_after old (before ++ d ∷ [])) ds = goes ∙ ap (λ (l : Life). life_after l ds) (sym joined) in
    ((before ++ d ∷ [], ds, later, ap (λ (l : Life). l.present) (sym joined)), each_moment old new (before ++ d ∷ []) ds later)

-- ---- prefixes

-- a prefix of a prefix
pub begins_further : (given mid content : List ℕ) → IsPrefixOf given mid → IsPrefixOf mid content → IsPrefixOf given content
begins_further given mid content first second =
    let few : length given ≤ length mid = omega (arith, ap length first, length-take (length given) mid) in
    first ∙ ap (λ (l : List ℕ). take (length given) l) second ∙ take-take (length given) (length mid) content few

begins_either : (given mid a b : List ℕ) → IsPrefixOf given mid → IsPrefixOf mid a ⊎ IsPrefixOf mid b → IsPrefixOf given a ⊎ IsPrefixOf given b
begins_either given mid a b first either = elim either [ inl h ↦ inl (begins_further given mid a first h) | inr h ↦ inr (begins_further given mid b first h) ]

-- ---- what every image keeps, through crashes and recoveries

-- a durable disk has one image
durable_image : (d : Disk) (image : List ℕ) → IsDurable d → IsImage d image → image ≡ d.readable
durable_image d image durable is_image = only_image d image durable.since is_image ∙ durable.base

-- that image is chance-free (no checksum slot verifies by chance)
durable_free : (sum : List ℕ → ℕ) (P : ℕ) (d : Disk) → IsDurable d → IsChanceFree sum P d d.readable
durable_free sum P d durable = subst (λ (l : List ℕ). IsChanceFree sum P d l) durable.base (whole_is_chance_free sum P d d.base (base_is_whole d.base d.since))

-- the text that a recovery gave
given_text : (sum : List ℕ → ℕ) (P : ℕ) (fair : Bool) (d : Disk) (given : List ℕ) → HasRecovered sum P fair d given → given ≡ text sum P d.readable
given_text sum P fair d given r = r.content ∙ r.recovers.content ∙ ap (λ (n : ℕ). text sum n r.old.present.readable) r.page_size ∙ ap (λ (e : Disk). text sum P e.readable) r.began

-- the floor of a content is one of the text of what is readable
floor_of_text : (sum : List ℕ → ℕ) (P : ℕ) (content : List ℕ) (floor : ℕ) (d : Disk) → floor ≤ length content → IsImage d d.readable → AllKeep sum P content floor d
    → (floor ≤ length (text sum P d.readable)) × AllKeep sum P (text sum P d.readable) floor d
floor_of_text sum P content floor d enough image keeps =
    let now : take floor (text sum P d.readable) ≡ take floor content = keeps.kept d.readable image in
    (omega (arith, enough, ap length now, length-take floor (text sum P d.readable), length-take floor content), keeps_same sum P content (text sum P d.readable) floor d (sym now) keeps)

-- a crash keeps the floor
crash_keeps : (sum : List ℕ → ℕ) (P : ℕ) (content : List ℕ) (floor : ℕ) (d e : Disk) → HasCrashed d e → AllKeep sum P content floor d → AllKeep sum P content floor e
crash_keeps sum P content floor d e c keeps = keeps_settle sum P content floor d e (subst (λ (l : List ℕ). IsImage d l) (sym c.durable.base) c.image) c.durable.since keeps

-- a recovery keeps the floor at each of its moments
attempt_keeps : (sum : List ℕ → ℕ) (P : ℕ) (fair : Bool) (content : List ℕ) (floor : ℕ) (d m : Disk) → floor ≤ length content → Attempts sum P fair d m → AllKeep sum P content floor d → AllKeep sum P content floor m
attempt_keeps sum P fair content floor d m enough a keeps =
    let T = text sum P d.readable in
    let of_text = floor_of_text sum P content floor d enough a.image keeps in
    let begun : AllKeep sum P T floor a.old.present = subst (λ (e : Disk). AllKeep sum P T floor e) (sym a.began) of_text.1 in
    let later : AllKeep sum P T floor m = through_moment (AllKeep sum P T floor) a.old a.new m (a.kept floor of_text.0 begun) a.moment in
    keeps_same sum P T content floor m (keeps.kept d.readable a.image) later

-- what comes back keeps the floor
pub comes_kept : (sum : List ℕ → ℕ) (P : ℕ) (fair : Bool) (content : List ℕ) (floor : ℕ) (d : Disk) (given : List ℕ) → floor ≤ length content → AllKeep sum P content floor d → ComesBack sum P fair d given
    → take floor given ≡ take floor content
comes_kept sum P fair content floor d given enough keeps (recovered at out r) = ap (λ (l : List ℕ). take floor l) (given_text sum P fair d given r) ∙ keeps.kept d.readable r.image
comes_kept sum P fair content floor d given enough keeps (crashed at out e c rest) = comes_kept sum P fair content floor e given enough (crash_keeps sum P content floor d e c.crashed keeps) rest
comes_kept sum P fair content floor d given enough keeps (attempted at out m a rest) = comes_kept sum P fair content floor m given enough (attempt_keeps sum P fair content floor d m enough a keeps) rest

-- chance aside a crash leaves only the contents
crash_leaves : (sum : List ℕ → ℕ) (P : ℕ) (content other : List ℕ) (d e : Disk) → Crashes sum P true d e → AllOnly sum P content other d → AllOnly sum P content other e
crash_leaves sum P content other d e c only = record {
  only = λ image is_image free.
      subst (λ (l : List ℕ). IsPrefixOf (text sum P l) content ⊎ IsPrefixOf (text sum P l) other) (sym (durable_image e image c.crashed.durable is_image))
      (only.only e.readable c.crashed.image (distinct_is_chance_free sum P d e.readable only.vouched c.crashed.image (c.free refl)));
  vouched = vouched_at_rest sum P e c.crashed.durable.since;
}

-- chance aside, a recovery leaves only the contents at each of its moments
attempt_leaves : (sum : List ℕ → ℕ) (P : ℕ) (content other : List ℕ) (d m : Disk) → Attempts sum P true d m → AllOnly sum P content other d → AllOnly sum P content other m
attempt_leaves sum P content other d m a only =
    let T = text sum P a.old.present.readable in
    let durable : IsDurable a.old.present = subst IsDurable (sym a.began) (a.durable refl) in
    let now : IsPrefixOf (text sum P d.readable) content ⊎ IsPrefixOf (text sum P d.readable) other = only.only d.readable a.image (durable_free sum P d (a.durable refl)) in
    let was : IsPrefixOf T content ⊎ IsPrefixOf T other = subst (λ (e : Disk). IsPrefixOf (text sum P e.readable) content ⊎ IsPrefixOf (text sum P e.readable) other) (sym a.began) now in
    let later : AllOnly sum P T T m = through_moment (AllOnly sum P T T) a.old a.new m (a.only durable) a.moment in
    record {
      only = λ image is_image free.
          let begins : IsPrefixOf (text sum P image) T = elim (later.only image is_image free) [ inl h ↦ h | inr h ↦ h ] in
          begins_either (text sum P image) T content other begins was;
      vouched = later.vouched;
    }

-- what comes back is a prefix of one of the contents
pub comes_only : (sum : List ℕ → ℕ) (P : ℕ) (content other : List ℕ) (d : Disk) (given : List ℕ) → AllOnly sum P content other d → ComesBack sum P true d given → IsPrefixOf given content ⊎ IsPrefixOf given other
comes_only sum P content other d given only (recovered at out r) =
    subst (λ (l : List ℕ). IsPrefixOf l content ⊎ IsPrefixOf l other) (sym (given_text sum P true d given r)) (only.only d.readable r.image (durable_free sum P d (r.durable refl)))
comes_only sum P content other d given only (crashed at out e c rest) = comes_only sum P content other e given (crash_leaves sum P content other d e c only) rest
comes_only sum P content other d given only (attempted at out m a rest) = comes_only sum P content other m given (attempt_leaves sum P content other d m a only) rest

-- a moment is survived if every image keeps the floor and holds only these contents
pub survives : (sum : List ℕ → ℕ) (P : ℕ) (content other : List ℕ) (floor : ℕ) (d : Disk) → floor ≤ length content → AllKeep sum P content floor d → AllOnly sum P content other d → Survives sum P content other floor d
survives sum P content other floor d enough keeps only = record {
  kept = λ fair given comes. comes_kept sum P fair content floor d given enough keeps comes;
  only = λ given comes. comes_only sum P content other d given only comes;
}

-- ---- runs

-- both halves of that, at each moment
survive_each : (sum : List ℕ → ℕ) (P : ℕ) (content other : List ℕ) (floor : ℕ) (ds : List Disk) → floor ≤ length content → Each (AllKeep sum P content floor) ds → Each (AllOnly sum P content other) ds → Each (Survives sum P content other floor) ds
survive_each sum P content other floor [] enough kept only = tt
survive_each sum P content other floor (d ∷ ds) enough kept only = (survives sum P content other floor d enough kept.0 only.0, survive_each sum P content other floor ds enough kept.1 only.1)

-- a run is exact
pub ran_tells : (sum : List ℕ → ℕ) (P : ℕ) (steps : List Step) (replies : List Reply) (from : Disk) (moments : List Disk) (s after : RunState) → s.floor ≤ length s.content → Ran sum P steps replies from moments s after
    → EachStepIsExact sum P steps replies from moments s after
ran_tells sum P [] [] from moments s after enough (none, same, keeps, only) = (none, same, survives sum P s.content s.otherwise s.floor from enough keeps only)
ran_tells sum P (step ∷ steps) (reply ∷ replies) from moments s after enough (keeps, only, first, rest, is, mid, did, ran) = (
  survives sum P s.content s.otherwise s.floor from enough keeps only,
  first,
  rest,
  is,
  mid,
  did.answer,
  survive_each sum P s.content (other_content step s) (begun_with step s).floor (from ∷ first) (begun_within step s (length s.content) enough) did.kept did.only,
  ran_tells sum P steps replies (last from first) rest (raised (last from first) mid) after did.within ran,
)
ran_tells sum P [] (reply ∷ replies) from moments s after enough ran = absurd ran
ran_tells sum P (step ∷ steps) [] from moments s after enough ran = absurd ran

-- the promise of a run
pub promises : (sum : List ℕ → ℕ) (steps : List Step) (was now : SessionState) (old new : Life) (earlier replies : List Reply) → RunsAlways sum steps was now old new earlier replies → Promises sum steps was now old new earlier replies
promises sum steps was now old new earlier replies always = λ P before stands.
    let runs = always.runs P before stands in
    record {
      added = always.added;
      adds = always.adds;
      moments = runs.moments;
      goes = runs.goes;
      after = runs.after;
      tells = ran_tells sum P steps always.added old.present runs.moments before runs.after stands.floor runs.ran;
      stands = runs.stands;
    }

-- ---- how a session begins

-- a session with a sound writer
pub stands_where_sound : (sum : List ℕ → ℕ) (w : WriterState) → RepresentsWhereSound sum w
unfolding IsSound
stands_where_sound sum w = λ d floor sound within enough keeps.
    let s : RunState = opened w floor d.readable in
    let life : Life = record { present = d; past = [] } in
    whole sum w.page_size (session_of w) s d refl refl (stands_now sum w.page_size (session_of w) w life life s
    (record {
      page_size = refl;
      has_writer = refl;
      content = refl;
      otherwise = refl;
      capacity = refl;
      buffered = refl;
      within = within;
      written = refl;
      awaited = refl;
    })
    refl (λ name. refl) enough (λ k x lt. absurd (omega (arith, lt))) keeps (λ k x lt. absurd (omega (arith, lt))) (stays_itself sum w.page_size (content_of w d.readable) d sound.truthful sound.vouched))

-- the size of a content is that of full pages and of a tip that is less
pub tip_is : (sum : List ℕ → ℕ) (w : WriterState) (life : Life) → IsSound sum w life.present → length w.tip < w.page_size → length w.tip ≡ length (content_of w life.present.readable) % w.page_size
tip_is sum w life sound short =
    let size : w.full_pages * w.page_size + length w.tip ≡ length (content_of w life.present.readable) = size_is_length sum w life sound in
    sym (mod-eq_of_lt short) ∙ sym (mul-add-mod_self_right w.full_pages w.page_size (length w.tip)) ∙ ap (λ (n : ℕ). n % w.page_size) size

-- a writer that a recovery gave
pub fresh_stands : (sum : List ℕ → ℕ) (w : WriterState) (cache : CacheState) (capacity : ℕ) (old new : Life) → Recovers sum cache capacity old new (Ok w) → HoldsWithin w
    → KeepsAll sum cache.page_size (text sum cache.page_size old.present.readable) new → Represents sum cache.page_size (session_of w) (fresh cache.page_size (adjusted capacity cache.page_size) (text sum cache.page_size old.present.readable)) new.present
unfolding IsSound
fresh_stands sum w cache capacity old new recovers within durable =
    let P = cache.page_size in
    let T = text sum P old.present.readable in
    let size : w.page_size ≡ P = recovers.page_size in
    let room : w.capacity ≡ adjusted capacity P = recovered_capacity sum cache capacity old new w recovers in
    let holds : content_of w new.present.readable ≡ T = recovers.content in
    let buffered : length w.tip ≡ length T % P =
    tip_is sum w new recovers.sound recovers.settled.short ∙ ap (λ (l : List ℕ). length l % w.page_size) holds ∙ ap (λ (n : ℕ). length T % n) size in
    let stays : Stays sum P T new.present new.present =
    subst (λ (n : ℕ). Stays sum n T new.present new.present) size
    (subst (λ (l : List ℕ). Stays sum w.page_size l new.present new.present) holds (stays_itself sum w.page_size (content_of w new.present.readable) new.present recovers.sound.truthful recovers.sound.vouched)) in
    whole sum P (session_of w) (fresh P (adjusted capacity P) T) new.present refl refl (stands_now sum P (session_of w) w new new (fresh P (adjusted capacity P) T)
    (record {
      page_size = size;
      has_writer = refl;
      content = sym holds;
      otherwise = refl;
      capacity = room;
      buffered = buffered;
      within = omega (arith, within, buffered, room);
      written = settled_started w recovers.settled;
      awaited = settled_awaits w recovers.settled;
    })
    refl (λ name. refl) (omega arith) (λ k x lt. absurd (omega (arith, lt))) durable (λ k x lt. absurd (omega (arith, lt))) stays)

-- `fair` asks nothing of what isn't fair
pub unfair : {A : Type 0} → false ≡ true → A
unfair is = absurd (false≢true is)

-- what a recovery gave keeps the floor of whatever a session stood for as the recovery began
pub recovered_keeps : (sum : List ℕ → ℕ) (P : ℕ) (d : Disk) (given : List ℕ) → HasRecovered sum P false d given → BeginsWithFloor sum P d given
recovered_keeps sum P d given r = λ was s stands. comes_kept sum P false s.content s.floor d given stands.floor stands.kept (recovered d given r)

-- chance aside, if all was durable as the recovery began, what it gave is a prefix of one of the
-- contents
pub recovered_leaves : (sum : List ℕ → ℕ) (P : ℕ) (d : Disk) (given : List ℕ) → HasRecovered sum P true d given → IsPrefixOfEither sum P d given
recovered_leaves sum P d given r = λ was s stands. comes_only sum P s.content s.otherwise d given stands.only (recovered d given r)

-- so a session begins
pub begun : (sum : List ℕ → ℕ) (w : WriterState) (now : SessionState) (cache : CacheState) (capacity : ℕ) (old new : Life) → now ≡ session_of w → Recovers sum cache capacity old new (Ok w) → HoldsWithin w
    → KeepsAll sum cache.page_size (text sum cache.page_size old.present.readable) new → IsBegun sum cache capacity old new now
begun sum w now cache capacity old new is recovers within durable = record {
  writer = w;
  begins = is;
  recovers = recovers;
  stands = subst (λ (o : SessionState). Represents sum cache.page_size o (fresh cache.page_size (adjusted capacity cache.page_size) (text sum cache.page_size old.present.readable)) new.present) (sym is)
      (fresh_stands sum w cache capacity old new recovers within durable);
}

-- a recovery that answers Ok gave the text
pub recovers_from : (sum : List ℕ → ℕ) (w : WriterState) (cache : CacheState) (capacity : ℕ) (old new : Life) → IsImage old.present old.present.readable → Recovers sum cache capacity old new (Ok w) → RecoversFrom sum cache.page_size old.present
recovers_from sum w cache capacity old new image recovers = λ fair durable. record {
  old = old;
  new = new;
  cache = cache;
  capacity = capacity;
  writer = w;
  began = refl;
  page_size = refl;
  recovers = recovers;
  content = sym recovers.content;
  image = image;
  durable = durable;
}

-- what a recovery gave, by what a session stood for as it began
pub gives_back : (sum : List ℕ → ℕ) (w : WriterState) (cache : CacheState) (capacity : ℕ) (old new : Life) → IsImage old.present old.present.readable → Recovers sum cache capacity old new (Ok w) → GivesBack sum cache.page_size old.present
gives_back sum w cache capacity old new image recovers =
    let from : RecoversFrom sum cache.page_size old.present = recovers_from sum w cache capacity old new image recovers in
    record {
      recovered = from;
      floor = recovered_keeps sum cache.page_size old.present (text sum cache.page_size old.present.readable) (from false unfair);
      content = λ durable. recovered_leaves sum cache.page_size old.present (text sum cache.page_size old.present.readable) (from true (λ fair. durable));
    }

-- each moment of a recovery is one of an attempt
pub attempts_through : (sum : List ℕ → ℕ) (P : ℕ) (old new : Life) → IsImage old.present old.present.readable → KeepsAllFloors sum P old new → LeavesText sum P old new → AttemptsThrough sum P old new
unfolding Through
attempts_through sum P old new image kept only = λ fair durable.
    let through : Through (AllKeep sum P (text sum P old.present.readable) 0) old new = kept (text sum P old.present.readable) 0 (omega arith) (keeps_nothing sum P (text sum P old.present.readable) old.present) in
    let at : (d : Disk) → IsMoment old new d → Attempts sum P fair old.present d = λ d moment. record {
      old = old;
      new = new;
      began = refl;
      moment = moment;
      image = image;
      kept = kept (text sum P old.present.readable);
      only = only;
      durable = durable;
    } in
    record {
      moments = through.moments;
      goes = through.goes;
      start = at old.present ([], through.moments, through.goes, refl);
      each = each_then (IsMoment old new) (Attempts sum P fair old.present) through.moments at (each_moment old new [] through.moments through.goes);
    }

-- ---- a crash, and a recovery after it

-- what came back after a crash keeps the floor
pub crashed_keeps : (sum : List ℕ → ℕ) (P : ℕ) (d e : Disk) (left : List ℕ) → HasCrashed d e → e.readable ≡ left → RecoversFrom sum P e → BeginsWithFloor sum P d (text sum P left)
crashed_keeps sum P d e left c is from = λ was s stands.
    let comes : ComesBack sum P false d (text sum P e.readable) = crashed d (text sum P e.readable) e (record { crashed = c; free = unfair }) (recovered e (text sum P e.readable) (from false (unfair))) in
    let kept : take s.floor (text sum P e.readable) ≡ take s.floor s.content = comes_kept sum P false s.content s.floor d (text sum P e.readable) stands.floor stands.kept comes in
    subst (λ (l : List ℕ). take s.floor (text sum P l) ≡ take s.floor s.content) is kept

-- chance aside, what came back is a prefix of a content that a session stood for
pub crashed_leaves : (sum : List ℕ → ℕ) (P : ℕ) (d e : Disk) (left : List ℕ) → HasCrashed d e → e.readable ≡ left → RecoversFrom sum P e → IsDistinct sum P d left → IsPrefixOfEither sum P d (text sum P left)
crashed_leaves sum P d e left c is from free = λ was s stands.
    let comes : ComesBack sum P true d (text sum P e.readable) =
    crashed d (text sum P e.readable) e (record { crashed = c; free = λ fair. subst (λ (l : List ℕ). IsDistinct sum P d l) (sym is) free }) (recovered e (text sum P e.readable) (from true (λ fair. c.durable))) in
    let only : IsPrefixOf (text sum P e.readable) s.content ⊎ IsPrefixOf (text sum P e.readable) s.otherwise = comes_only sum P s.content s.otherwise d (text sum P e.readable) stands.only comes in
    subst (λ (l : List ℕ). IsPrefixOf (text sum P l) s.content ⊎ IsPrefixOf (text sum P l) s.otherwise) is only

-- what came back, by what a session stood for as the crash came
pub left_back : (sum : List ℕ → ℕ) (P : ℕ) (d e : Disk) (left : List ℕ) → HasCrashed d e → e.readable ≡ left → RecoversFrom sum P e → GivesBackLeft sum P d left
left_back sum P d e left c is from = record { floor = crashed_keeps sum P d e left c is from; content = crashed_leaves sum P d e left c is from }

-- what comes back later came through that crash and that recovery
pub crashed_leads : (sum : List ℕ → ℕ) (P : ℕ) (d : Disk) (left : List ℕ) (old new : Life) → HasCrashed d old.present → old.present.readable ≡ left → AttemptsThrough sum P old new
    → LeadsOn sum P d left new.present
crashed_leads sum P d left old new c is attempts = λ fair free given comes.
    let attempt : Attempts sum P fair old.present new.present = through_end (Attempts sum P fair old.present) old new (attempts fair (λ fair. c.durable)) in
    crashed d given old.present (record { crashed = c; free = λ f. subst (λ (l : List ℕ). IsDistinct sum P d l) (sym is) (free f) }) (attempted old.present given new.present attempt comes)
