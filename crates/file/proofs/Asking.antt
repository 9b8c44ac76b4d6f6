-- What a host was asked for, with one event more.
use Rattle.std.proofs.Common.{◌≡◌, ◌&&◌, ℕ, List, [], ◌∷◌, ◌++◌, Bool, true, false, Ok, Err, refl, sym, ap, ◌∙◌, subst, append-nil, append_assoc}
use Rattle.std.specs.Prelude.{Result}
use Rattle.disk.specs.declared.action.Action.{Action}
use Rattle.disk.specs.declared.action.Event.{Event}
use Rattle.disk.specs.declared.error.Error.{Error}
use Rattle.disk.specs.declared.error.Error.TheVariants.{ReadFailed, WriteFailed, ResizeFailed, SyncFailed, InvalidChecksum, BlobInsufficientLength, OffsetOverflow, OutOfMemory, IdsExhausted}
use Rattle.disk.specs.History.{History}
use Rattle.disk.specs.declared.started_sync.StartedSync.TheVariants.{Named}
use Rattle.disk.specs.Past.{history_with}
use Rattle.disk.specs.VecBlob.{VecState, Tells, TellsStart, TellsWait}
use Rattle.disk.specs.declared.action.Action.TheVariants as actions
use Rattle.file.specs.Asked.{event, outcome, requests_of, all_done, asked_by, HaveOutcome, WasAsked, Passes, is_sync, ends_in_failed_sync}

asked_more : (es : List Event) (e : Event) → asked_by (es ++ e ∷ []) ≡ asked_by es ++ all_done (requests_of e.action)
asked_more [] e = append-nil (all_done (requests_of e.action))
asked_more (x ∷ es) e = ap (λ l. all_done (requests_of x.action) ++ l) (asked_more es e) ∙ sym (append_assoc (all_done (requests_of x.action)) (asked_by es) (all_done (requests_of e.action)))

outcome_more : (failed : Bool) (es : List Event) (e : Event) → HaveOutcome failed es → e.failed ≡ failed → HaveOutcome failed (es ++ e ∷ [])
outcome_more failed [] e have is = (is, tt)
outcome_more failed (x ∷ es) e have is = (have.0, outcome_more failed es e have.1 is)

-- one event more keeps `WasAsked`: the host was asked for what the event asks for, or for nothing
-- if a call had failed before
pub went_on : (was now : Bool) (a : Action) (events after asked more : List Event) → WasAsked was events asked → Passes was now (requests_of a) asked more → after ≡ events ++ event a now ∷ [] → WasAsked now after more
went_on false false a events after asked more w p e = record {
  done = subst (HaveOutcome false) (sym e) (outcome_more false events (event a false) w.done refl);
  just = p ∙ ap (λ l. l ++ all_done (requests_of a)) w.just ∙ sym (asked_more events (event a false)) ∙ ap asked_by (sym e);
}
went_on false true a events after asked more w p e = record {
  before = events;
  action = a;
  since = [];
  all = e;
  done = w.done;
  failed = tt;
  last = p.0;
  just = p.1 ∙ ap (λ l. l ++ p.0) w.just;
  fails = p.2;
}
went_on true true a events after asked more w p e = record {
  before = w.before;
  action = w.action;
  since = w.since ++ event a true ∷ [];
  all = e ∙ ap (λ l. l ++ event a true ∷ []) w.all ∙ append_assoc w.before (event w.action true ∷ w.since) (event a true ∷ []);
  done = w.done;
  failed = outcome_more true w.since (event a true) w.failed refl;
  last = w.last;
  just = p ∙ w.just;
  fails = w.fails;
}
went_on true false a events after asked more w p e = absurd p

-- one event more for which no host is asked keeps `WasAsked`
looked_on : (was : Bool) (a : Action) (events after asked : List Event) → requests_of a ≡ [] → WasAsked was events asked → after ≡ events ++ event a was ∷ [] → WasAsked was after asked
looked_on false a events after asked none w e = went_on false false a events after asked asked w (sym (append-nil asked) ∙ ap (λ l. asked ++ all_done l) (sym none)) e
looked_on true a events after asked none w e = went_on true true a events after asked asked w refl e

-- a history that stays as it was keeps `WasAsked`
stays : (was now : VecState) (asked : List Event) → now.stopped ≡ was.stopped → now.history ≡ was.history → WasAsked was.stopped was.history.events asked → WasAsked now.stopped now.history.events asked
stays was now asked stopped same w =
    subst (λ (b : Bool). WasAsked b now.history.events asked) (sym stopped) (subst (λ (h : History). WasAsked was.stopped h.events asked) (sym same) w)

goes : (a : Action) (failed : Bool) (was now : VecState) (asked : List Event) → requests_of a ≡ [] → now.stopped ≡ was.stopped → was.stopped ≡ failed → now.history ≡ history_with a failed was.history → WasAsked was.stopped was.history.events asked → WasAsked now.stopped now.history.events asked
goes a failed was now asked none stopped is e w =
    subst (λ (b : Bool). WasAsked b now.history.events asked) (sym stopped)
    (looked_on was.stopped a was.history.events now.history.events asked none w (ap (λ (h : History). h.events) e ∙ ap (λ b. was.history.events ++ event a b ∷ []) (sym is)))

-- a call of the blob in memory for which no host is asked keeps `WasAsked`
pub looks : {T : Type 0} → (a : Action) (was now : VecState) (asked : List Event) (result : Result T Error) → requests_of a ≡ [] → Tells a was now result → now.stopped ≡ was.stopped → WasAsked was.stopped was.history.events asked → WasAsked now.stopped now.history.events asked
looks a was now asked (Ok x) none t stopped w = goes a false was now asked none stopped t.0 t.1 w
looks a was now asked (Err BlobInsufficientLength) none t stopped w = stays was now asked stopped t w
looks a was now asked (Err OffsetOverflow) none t stopped w = stays was now asked stopped t w
looks a was now asked (Err OutOfMemory) none t stopped w = stays was now asked stopped t w
looks a was now asked (Err ReadFailed) none t stopped w = goes a true was now asked none stopped t.0 t.1 w
looks a was now asked (Err WriteFailed) none t stopped w = goes a true was now asked none stopped t.0 t.1 w
looks a was now asked (Err ResizeFailed) none t stopped w = goes a true was now asked none stopped t.0 t.1 w
looks a was now asked (Err SyncFailed) none t stopped w = goes a true was now asked none stopped t.0 t.1 w
looks a was now asked (Err InvalidChecksum) none t stopped w = goes a true was now asked none stopped t.0 t.1 w
looks a was now asked (Err IdsExhausted) none t stopped w = goes a true was now asked none stopped t.0 t.1 w

pub starts : {T : Type 0} → (was now : VecState) (asked : List Event) (result : Result T Error) → TellsStart was now result → now.stopped ≡ was.stopped → WasAsked was.stopped was.history.events asked → WasAsked now.stopped now.history.events asked
starts was now asked (Ok x) t stopped w = goes actions.StartSync was.stopped was now asked refl stopped refl t w
starts was now asked (Err e) t stopped w = stays was now asked stopped t w

-- a call for which the host was asked first keeps `WasAsked`
pub calls : (a : Action) (was mid now : VecState) (asked more : List Event) → WasAsked was.stopped was.history.events asked → mid.history ≡ was.history → Passes was.stopped mid.stopped (requests_of a) asked more → now.history ≡ history_with a mid.stopped mid.history → now.stopped ≡ mid.stopped
    → WasAsked now.stopped now.history.events more
calls a was mid now asked more w same p e stopped =
    subst (λ (b : Bool). WasAsked b now.history.events more) (sym stopped)
    (went_on was.stopped mid.stopped a was.history.events now.history.events asked more w p
    (ap (λ (h : History). h.events) (e ∙ ap (history_with a mid.stopped) same)))

-- a wait for a sync keeps `WasAsked`
pub waits : (name started : ℕ) (was mid now : VecState) (asked more : List Event) (result : Result (Unit {0}) Error) → WasAsked was.stopped was.history.events asked → mid.history ≡ was.history → Passes was.stopped mid.stopped (actions.Sync ∷ []) asked more → TellsWait (Named name) started mid now result
    → now.stopped ≡ mid.stopped → WasAsked now.stopped now.history.events more
waits name started was mid now asked more (Ok u) w same p t stopped = calls (actions.WaitSync name) was mid now asked more w same p (t.2 ∙ ap (λ b. history_with (actions.WaitSync name) b mid.history) (sym t.0)) stopped
waits name started was mid now asked more (Err e) w same p t stopped = calls (actions.WaitSync name) was mid now asked more w same p t.1 stopped

-- ---- whether the last call was a sync that failed

-- the last call is the one that was added
pub ends_more : (events : List Event) (e : Event) → ends_in_failed_sync (events ++ e ∷ []) ≡ is_sync e.action && e.failed
ends_more [] e = refl
ends_more (x ∷ []) e = refl
ends_more (x ∷ y ∷ events) e = ends_more (y ∷ events) e

-- after calls that were done, none is a sync that failed
pub ends_done : (actions : List Action) (events : List Event) → ends_in_failed_sync events ≡ false → ends_in_failed_sync (events ++ all_done actions) ≡ false
ends_done [] events none = ap ends_in_failed_sync (append-nil events) ∙ none
ends_done (a ∷ actions) events none =
    ap ends_in_failed_sync (sym (append_assoc events (event a false ∷ []) (all_done actions)))
    ∙ ends_done actions (events ++ event a false ∷ []) (ends_more events (event a false) ∙ and_false (is_sync a))
  where
    and_false : (b : Bool) → (b && false) ≡ false
    and_false true = refl
    and_false false = refl

-- what a call that was done, or failed, and that is no sync, leaves
pub ends_other : {T E : Type 0} (a : Action) (events : List Event) (result : Result T E) → is_sync a ≡ false → ends_in_failed_sync (events ++ outcome a result ∷ []) ≡ false
ends_other a events (Ok x) other = ends_more events (event a false) ∙ ap (λ (b : Bool). b && false) other
ends_other a events (Err e) other = ends_more events (event a true) ∙ ap (λ (b : Bool). b && true) other
