-- Runs of items: what each step does, from what the call of the items does.
use Rattle.std.proofs.Common.{inl, inr, take, ◌≤◌, ◌≡◌, ◌≢◌, ℕ, List, [], ◌∷◌, ◌++◌, length, refl, sym, ap, ◌∙◌, subst, append-nil, length-append, arith, Some, None}
use Rattle.std.specs.Prelude.{Option}
use Rattle.std.proofs.lemmas.Bool.{cases_lt}
use Rattle.std.proofs.lemmas.List.{append_assoc, take_all, take-append-le}
use Rattle.disk.specs.Disk.{Life}
use Rattle.cache.specs.CacheState.{CacheState}
use Rattle.cache.specs.Pages.{IsFresh}
use Rattle.crash.specs.Kept.{Through}
use Rattle.crash.specs.Moments.{through_start, through_joins, through_end}
use Rattle.items.specs.State.{ItemsState}
use Rattle.items.specs.Standing.{AreItems, items_of, ItemsCallLeaves}
use Rattle.items.specs.Items.{AreDurable, KeepsItems}
use Rattle.items.specs.declared.run.ItemStep.{ItemStep}
use Rattle.items.specs.declared.run.ItemStep.TheVariants.{Push, Get, Len, Sync}
use Rattle.items.specs.Run.RunsItems.{no_step, one_more}
use Rattle.items.specs.Run.{HasSizes, SameSizes, DidItem, RunsItems, RanItems, Stop, IsOpenSession, StepLeaves, PushedItem, TellsLength}
use Rattle.items.specs.declared.run.ItemReply.{ItemReply}
use Rattle.items.specs.declared.run.ItemReply.TheVariants.{BadItem}
use Rattle.items.proofs.Laws.{first_of_more}
use Rattle.items.proofs.Standing.{nothing_leaves, stand}

-- the cache serves on
pub fresh_in : (sum : List ℕ → ℕ) (was : Option ItemsState) (cache : CacheState) (life : Life) → IsOpenSession sum was cache life → IsFresh cache
fresh_in sum None cache life stood = stood
fresh_in sum (Some s) cache life stood = (stand sum s cache life stood).ready.fresh

-- doing nothing leaves items as they are, and so the first of more
pub nothing_done : (sum : List ℕ → ℕ) (s : ItemsState) (more : List (List ℕ)) (cache : CacheState) (life : Life) → AreItems sum s cache life → ItemsCallLeaves sum s (items_of s life ++ more) cache cache life life
nothing_done sum s more cache life stood = nothing_leaves sum s (items_of s life ++ more) cache life (first_of_more (items_of s life) more) stood

pub step_nothing : (sum : List ℕ → ℕ) (was : Option ItemsState) (more : List (List ℕ)) (cache : CacheState) (life : Life) → IsOpenSession sum was cache life → StepLeaves sum was more cache cache life life
step_nothing sum None more cache life stood = (refl, refl)
step_nothing sum (Some s) more cache life stood = nothing_done sum s more cache life stood

own_sizes : (was : Option ItemsState) → SameSizes was was
own_sizes None = tt
own_sizes (Some s) = (refl, refl)

pub bad_push : (sum : List ℕ → ℕ) (item : List ℕ) (was now : Option ItemsState) (s : ItemsState) (cache : CacheState) (life : Life) → was ≡ Some s → now ≡ Some s → length item ≢ s.size → IsOpenSession sum was cache life → PushedItem sum item was now cache cache life life BadItem
bad_push sum item was now s cache life is then other stood =
    subst (λ (o : Option ItemsState). IsOpenSession sum o cache life → PushedItem sum item o now cache cache life life BadItem) (sym is)
    (subst (λ (o : Option ItemsState). AreItems sum s cache life → PushedItem sum item (Some s) o cache cache life life BadItem) (sym then)
    (λ items. record { stands = items; leaves = nothing_done sum s (item ∷ []) cache life items; sizes = (refl, refl); says = (other, refl, refl) })) stood

-- a question for the number of items
pub did_len : (sum : List ℕ → ℕ) (was : Option ItemsState) (cache : CacheState) (life : Life) (reply : ItemReply) → IsOpenSession sum was cache life → TellsLength was reply → DidItem sum Len was was cache cache life life reply
did_len sum was cache life reply stood tells = record {
  stands = stood;
  leaves = step_nothing sum was [] cache life stood;
  sizes = own_sizes was;
  says = (refl, refl, tells);
}

-- ---- what is durable stays so

sizes_stay : (P s : ℕ) (was now : Option ItemsState) → HasSizes P s was → SameSizes was now → HasSizes P s now
sizes_stay P s was None has same = tt
sizes_stay P s None (Some t) has same = absurd same
sizes_stay P s (Some u) (Some t) has same = (same.0 ∙ has.0, same.1 ∙ has.1)

step_keeps : (sum : List ℕ → ℕ) (P s : ℕ) (was : Option ItemsState) (more : List (List ℕ)) (cache after : CacheState) (old new : Life) → HasSizes P s was → StepLeaves sum was more cache after old new → KeepsItems sum P s old new
step_keeps sum P s None more cache after old new has leaves = λ content n durable.
    subst (λ (life : Life). Through (AreDurable sum P s content n) old life) (sym leaves.1) (through_start (AreDurable sum P s content n) old durable)
step_keeps sum P s (Some t) more cache after old new has leaves =
    subst (λ (p : ℕ). KeepsItems sum p s old new) has.0 (subst (λ (k : ℕ). KeepsItems sum t.writer.page_size k old new) has.1 leaves.kept)

-- what each step leaves, and the sizes
step_stays : (sum : List ℕ → ℕ) (P s : ℕ) (step : ItemStep) (was now : Option ItemsState) (cache after : CacheState) (old new : Life) (reply : ItemReply) → HasSizes P s was → DidItem sum step was now cache after old new reply → KeepsItems sum P s old new × HasSizes P s now
step_stays sum P s (Push item) was now cache after old new reply has did = (step_keeps sum P s was (item.items ∷ []) cache after old new has did.leaves, sizes_stay P s was now has did.sizes)
step_stays sum P s (Get i) was now cache after old new reply has did = (step_keeps sum P s was [] cache after old new has did.leaves, sizes_stay P s was now has did.sizes)
step_stays sum P s Len was now cache after old new reply has did = (step_keeps sum P s was [] cache after old new has did.leaves, sizes_stay P s was now has did.sizes)
step_stays sum P s Sync was now cache after old new reply has did = (step_keeps sum P s was [] cache after old new has did.leaves, sizes_stay P s was now has did.sizes)

runs_keep : (sum : List ℕ → ℕ) (P s : ℕ) (was : Option ItemsState) (cache : CacheState) (old : Life) (steps : List ItemStep) (replies : List ItemReply) (now : Option ItemsState) (after : CacheState) (new : Life) → HasSizes P s was → RunsItems sum was cache old steps replies now after new
    → KeepsItems sum P s old new × HasSizes P s now
runs_keep sum P s was cache old _ _ _ _ _ has no_step = (λ content n durable. through_start (AreDurable sum P s content n) old durable, has)
runs_keep sum P s was cache old _ _ _ _ _ has (one_more steps replies mid between then step reply now after new runs did) =
    let first = runs_keep sum P s was cache old steps replies mid between then has runs in
    let second = step_stays sum P s step mid now between after then new reply first.1 did in (
      λ content n durable.
          let begun : Through (AreDurable sum P s content n) old then = first.0 content n durable in
          through_joins (AreDurable sum P s content n) old then new begun (second.0 content n (through_end (AreDurable sum P s content n) old then begun)),
      second.1,
    )

-- after a step the session is open
pub opened : (sum : List ℕ → ℕ) (step : ItemStep) (was now : Option ItemsState) (cache after : CacheState) (old new : Life) (reply : ItemReply) → DidItem sum step was now cache after old new reply → IsOpenSession sum now after new
opened sum (Push item) was now cache after old new reply did = did.stands
opened sum (Get i) was now cache after old new reply did = did.stands
opened sum Len was now cache after old new reply did = did.stands
opened sum Sync was now cache after old new reply did = did.stands

-- ---- the moments after the steps

-- the moment after all steps
stop_last : (sum : List ℕ → ℕ) (steps : List ItemStep) (replies : List ItemReply) (was now : Option ItemsState) (cache after : CacheState) (old new : Life) (taken : ℕ) → RunsItems sum was cache old steps replies now after new → IsOpenSession sum now after new → length steps ≤ taken → length replies ≤ taken
    → Stop sum steps replies was now cache old new taken
stop_last sum steps replies was now cache after old new taken runs stood steps_end replies_end = record {
  mid = now;
  between = after;
  then = new;
  runs = subst (λ (l : List ItemStep). RunsItems sum was cache old l (take taken replies) now after new) (sym (take_all taken steps steps_end))
      (subst (λ (l : List ItemReply). RunsItems sum was cache old steps l now after new) (sym (take_all taken replies replies_end)) runs);
  stands = stood;
  kept = λ P s has. (λ content n durable. through_start (AreDurable sum P s content n) new durable, has);
}

-- a moment before one step more
stop_before : (sum : List ℕ → ℕ) (steps : List ItemStep) (replies : List ItemReply) (step : ItemStep) (reply : ItemReply) (was mid now : Option ItemsState) (cache between after : CacheState) (old then new : Life) (taken : ℕ) → taken ≤ length steps → taken ≤ length replies
    → Stop sum steps replies was mid cache old then taken → DidItem sum step mid now between after then new reply → Stop sum (steps ++ step ∷ []) (replies ++ reply ∷ []) was now cache old new taken
stop_before sum steps replies step reply was mid now cache between after old then new taken steps_there replies_there stop did = record {
  mid = stop.mid;
  between = stop.between;
  then = stop.then;
  runs = subst (λ (l : List ItemStep). RunsItems sum was cache old l (take taken (replies ++ reply ∷ [])) stop.mid stop.between stop.then) (sym (take-append-le taken steps (step ∷ []) steps_there))
      (subst (λ (l : List ItemReply). RunsItems sum was cache old (take taken steps) l stop.mid stop.between stop.then) (sym (take-append-le taken replies (reply ∷ []) replies_there)) stop.runs);
  stands = stop.stands;
  kept = λ P s has.
      let first = stop.kept P s has in
      let second = step_stays sum P s step mid now between after then new reply first.1 did in (
        λ content n durable.
            let begun : Through (AreDurable sum P s content n) stop.then then = first.0 content n durable in
            through_joins (AreDurable sum P s content n) stop.then then new begun (second.0 content n (through_end (AreDurable sum P s content n) stop.then then begun)),
        second.1,
      );
}

-- a run of no step, and of one more
pub ran_none : (sum : List ℕ → ℕ) (was : Option ItemsState) (cache : CacheState) (life : Life) (replies : List ItemReply) → IsOpenSession sum was cache life → RanItems sum [] was was cache cache life life replies replies
ran_none sum was cache life replies stood = record {
  added = [];
  adds = sym (append-nil replies);
  count = refl;
  runs = no_step;
  kept = λ P s has content n durable. through_start (AreDurable sum P s content n) life durable;
  stops = λ taken there. stop_last sum [] [] was was cache cache life life taken no_step stood (omega arith) (omega arith);
}

pub ran_more : (sum : List ℕ → ℕ) (steps : List ItemStep) (step : ItemStep) (reply : ItemReply) (was mid now : Option ItemsState) (cache between after : CacheState) (old then new : Life) (earlier replies all : List ItemReply)
    → RanItems sum steps was mid cache between old then earlier replies → DidItem sum step mid now between after then new reply → all ≡ replies ++ reply ∷ [] → RanItems sum (steps ++ step ∷ []) was now cache after old new earlier all
ran_more sum steps step reply was mid now cache between after old then new earlier replies all ran did is =
    let runs : RunsItems sum was cache old (steps ++ step ∷ []) (ran.added ++ reply ∷ []) now after new = one_more steps ran.added mid between then step reply now after new ran.runs did in
    let longer = length-append steps (step ∷ []) in
    let more = length-append ran.added (reply ∷ []) in
    record {
      added = ran.added ++ reply ∷ [];
      adds = is ∙ ap (λ (l : List ItemReply). l ++ reply ∷ []) ran.adds ∙ append_assoc earlier ran.added (reply ∷ []);
      count = omega (arith, more, longer, ran.count);
      runs = runs;
      kept = λ P s has. (runs_keep sum P s was cache old (steps ++ step ∷ []) (ran.added ++ reply ∷ []) now after new has runs).0;
      stops = λ taken there. elim (cases_lt (length steps) taken) [
        | inl past ↦
            stop_last sum (steps ++ step ∷ []) (ran.added ++ reply ∷ []) was now cache after old new taken runs (opened sum step mid now between after then new reply did) (omega (arith, past, longer)) (omega (arith, past, more, ran.count))
        | inr within ↦ stop_before sum steps ran.added step reply was mid now cache between after old then new taken within (omega (arith, within, ran.count)) (ran.stops taken within) did
      ];
    }
