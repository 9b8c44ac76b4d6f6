-- Two runs, one after the other, are one run of all the steps. Whoever calls `run` again and again
-- puts the runs together by these laws, and has the promise of them all.
use Rattle.std.specs.Prelude.{◌≡◌, ℕ, List, [], ◌∷◌, ◌++◌, length}
use Rattle.std.proofs.Common.{sym, ap, ◌∙◌, subst, refl, append_assoc, length-append, ◌+◌}
use Rattle.disk.specs.Disk.{Disk, Life, life_after}
use Rattle.cache.specs.CacheState.{CacheState}
use Rattle.crash.specs.Moments.{life_after-append}
use Rattle.session.specs.declared.steps.Step.{Step}
use Rattle.session.specs.declared.steps.Reply.{Reply}
use Rattle.session.specs.Run.{RunState, SessionState, last, raised, Ran, RunsAlways}
use Rattle.session.specs.Calls.{RanCalls, RunGoes}
use Rattle.session.specs.Promise.{Promises}
pub use Rattle.session.proofs.RunLaws.{runs_none}
use Rattle.session.proofs.PromiseLaws.{promises as kept}

-- ---- from moment to moment

-- the last of joined moments
last_joined : (d : Disk) (xs ys : List Disk) → last d (xs ++ ys) ≡ last (last d xs) ys
last_joined d [] ys = refl
last_joined d (x ∷ xs) ys = last_joined x xs ys

-- the present after some moments is the last of them
last_present : (life : Life) (ds : List Disk) → (life_after life ds).present ≡ last life.present ds
last_present life [] = refl
last_present life (d ∷ ds) = last_present (record { present = d; past = life.present ∷ life.past }) ds

-- what holds of the moments of the first run and of the second holds of both
ran_joins : (sum : List ℕ → ℕ) (P : ℕ) (steps more : List Step) (replies others : List Reply)
    (from : Disk) (moments later : List Disk) (before mid after : RunState)
    → Ran sum P steps replies from moments before mid
    → Ran sum P more others (last from moments) later mid after
    → Ran sum P (steps ++ more) (replies ++ others) from (moments ++ later) before after
ran_joins sum P [] more [] others from moments later before mid after (none, same, keeps, only) ran =
    subst (λ (ds : List Disk). Ran sum P more others from (ds ++ later) before after) (sym none)
    (subst (λ (s : RunState). Ran sum P more others from later s after) same
    (subst (λ (ds : List Disk). Ran sum P more others (last from ds) later mid after) none ran))
ran_joins sum P (step ∷ steps) more (reply ∷ replies) others from moments later before mid after
    (keeps, only, first, rest, is, between, did, goes) ran = (
      keeps,
      only,
      first,
      rest ++ later,
      ap (λ (ds : List Disk). ds ++ later) is ∙ append_assoc first rest later,
      between,
      did,
      ran_joins sum P steps more replies others (last from first) rest later
          (raised (last from first) between) mid after goes
          (subst (λ (d : Disk). Ran sum P more others d later mid after)
          (ap (λ (ds : List Disk). last from ds) is ∙ last_joined from first rest) ran),
    )
ran_joins sum P [] more (r ∷ rs) others from moments later before mid after none ran = absurd none
ran_joins sum P (x ∷ xs) more [] others from moments later before mid after none ran = absurd none

-- ---- two calls of `run`

-- two calls of `run`, of which the second began with no reply
pub runs_join : (sum : List ℕ → ℕ) (steps more : List Step) (was mid now : SessionState)
    (old between new : Life) (earlier replies others : List Reply)
    → RunsAlways sum steps was mid old between earlier replies
    → RunsAlways sum more mid now between new [] others
    → RunsAlways sum (steps ++ more) was now old new earlier (replies ++ others)
runs_join sum steps more was mid now old between new earlier replies others first second = record {
  added = first.added ++ second.added;
  adds =
      ap (λ (rs : List Reply). rs ++ others) first.adds
      ∙ append_assoc earlier first.added others
      ∙ ap (λ (rs : List Reply). earlier ++ (first.added ++ rs)) second.adds;
  count =
      length-append first.added second.added
      ∙ ap (λ (n : ℕ). n + length second.added) first.count
      ∙ ap (λ (n : ℕ). length steps + n) second.count
      ∙ sym (length-append steps more);
  runs = λ P before stands.
      let a = first.runs P before stands in
      let b = second.runs P a.after a.stands in
      let at : between.present ≡ last old.present a.moments =
      ap (λ (life : Life). life.present) a.goes ∙ last_present old a.moments in
      record {
        moments = a.moments ++ b.moments;
        goes =
            b.goes ∙ ap (λ (life : Life). life_after life b.moments) a.goes
            ∙ sym (life_after-append old a.moments b.moments);
        after = b.after;
        ran = ran_joins sum P steps more first.added second.added old.present a.moments b.moments
            before a.after b.after a.ran
            (subst (λ (d : Disk). Ran sum P more second.added d b.moments a.after b.after) at b.ran);
        stands = b.stands;
      };
}

-- what each step's call did in the first run and in the second it did in both
calls_join : (sum : List ℕ → ℕ) (steps more : List Step) (replies others : List Reply)
    (was mid now : SessionState) (cache held after : CacheState) (old between new : Life)
    → RanCalls sum steps replies was mid cache held old between
    → RanCalls sum more others mid now held after between new
    → RanCalls sum (steps ++ more) (replies ++ others) was now cache after old new
calls_join sum [] more [] others was mid now cache held after old between new (same, kept, stayed)
    ran =
    subst (λ (s : SessionState). RanCalls sum more others s now cache after old new) same
    (subst (λ (c : CacheState). RanCalls sum more others mid now c after old new) kept
    (subst (λ (life : Life). RanCalls sum more others mid now held after life new) stayed ran))
calls_join sum (step ∷ steps) more (reply ∷ replies) others was mid now cache held after old between
    new (ready, next, keeps, life, did, goes) ran = (
      ready,
      next,
      keeps,
      life,
      did,
      calls_join sum steps more replies others next mid now keeps held
          after life between new goes ran,
    )
calls_join sum [] more (r ∷ rs) others was mid now cache held after old between new none ran =
    absurd none
calls_join sum (x ∷ xs) more [] others was mid now cache held after old between new none ran =
    absurd none

-- so two runs are one, with what each step's call did
pub goes_join : (sum : List ℕ → ℕ) (steps more : List Step) (was mid now : SessionState)
    (cache held after : CacheState) (old between new : Life) (earlier replies others : List Reply)
    → RunGoes sum steps was mid cache held old between earlier replies
    → RunGoes sum more mid now held after between new [] others
    → RunGoes sum (steps ++ more) was now cache after old new earlier (replies ++ others)
unfolding runs_join
goes_join sum steps more was mid now cache held after old between new earlier replies others first
    second = record {
      always = runs_join sum steps more was mid now old between new earlier replies others first.always
          second.always;
      calls = calls_join sum steps more first.always.added second.always.added was mid now cache held
          after old between new first.calls second.calls;
    }

-- a run keeps its promise
pub promised : (sum : List ℕ → ℕ) (steps : List Step) (was now : SessionState) (old new : Life)
    (earlier replies : List Reply) → RunsAlways sum steps was now old new earlier replies
    → Promises sum steps was now old new earlier replies
promised sum steps was now old new earlier replies runs =
    kept sum steps was now old new earlier replies runs
