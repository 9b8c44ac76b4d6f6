-- What a folder is asked for as segments are dropped.
use Rattle.std.specs.Prelude.{◌≡◌, ◌≢◌, ◌<◌, ◌≤◌, ◌++◌, ◌∷◌, [], ℕ, suc, List, false, Result, Ok, Err}
use Rattle.std.proofs.Common.{ap, sym, ◌∙◌, refl, subst, inl, inr, arith, append_assoc, append-nil}
use Rattle.segments.specs.declared.call.FolderCall.{FolderCall}
use Rattle.segments.specs.declared.call.FolderCall.TheVariants as calls
use Rattle.segments.specs.FolderEvents.{FolderEvent, folder_outcome}
use Rattle.segments.specs.Log.{AreDone, AreOfOlder, AsksNoSync, AsksOfOlder, AsksWell, NoneSyncs}

-- such calls, of which the last removal was of a segment before `next`
pub record AsksBelow (next first : ℕ) (old new : List FolderEvent) : Type 0 where
  pub events : List FolderEvent
  pub all : new ≡ old ++ events
  pub below : AreOfOlder 0 first events
  pub none : NoneSyncs events
  pub more : (es : List FolderEvent) → AreOfOlder next first es → AreOfOlder 0 first (events ++ es)

-- a later bound is a stronger one
later : (from next first : ℕ) (es : List FolderEvent) → from ≤ next → AreOfOlder next first es → AreOfOlder from first es
later from next first [] before is = tt
later from next first (e ∷ es) before (inl is) = inl (is.0, omega (arith, before, is.1), is.2, is.3, is.4)
later from next first (e ∷ es) before (inr is) = inr (is.0, later from next first es before is.1)

pub asks_none : (next first : ℕ) (events : List FolderEvent) → AsksBelow next first events events
asks_none next first events = record { events = []; all = sym (append-nil events); below = tt; none = tt; more = λ es is. later 0 next first es (omega arith) is }

call_of : {T E : Type 0} (call : FolderCall) (result : Result T E) → (folder_outcome call result).call ≡ call
call_of call (Ok t) = refl
call_of call (Err e) = refl

none_more : (es : List FolderEvent) (e : FolderEvent) → e.call ≢ calls.Syncs → NoneSyncs es → NoneSyncs (es ++ e ∷ [])
none_more [] e is none = (is, tt)
none_more (x ∷ es) e is none = (none.0, none_more es e is none.1)

no_sync : (number : ℕ) (call : FolderCall) → call ≡ calls.Removes number → call ≢ calls.Syncs
no_sync number call is = λ same. absurd (cc (sym is ∙ same))

pub asks_later : (from next first : ℕ) (old new : List FolderEvent) → AsksBelow from first old new → from ≤ next → AsksBelow next first old new
asks_later from next first old new is before =
    record { events = is.events; all = is.all; below = is.below; none = is.none; more = λ es then. is.more es (later from next first es before then) }

pub asks_removal : {T E : Type 0} (next first number : ℕ) (old mid new : List FolderEvent) (result : Result T E) → AsksBelow number first old mid
    → new ≡ mid ++ folder_outcome (calls.Removes number) result ∷ [] → number < first → next ≡ suc number → AsksBelow next first old new
asks_removal next first number old mid new result is more below after =
    let e = folder_outcome (calls.Removes number) result in
    let call = call_of (calls.Removes number) result in
    record {
      events = is.events ++ e ∷ [];
      all = more ∙ ap (λ es. es ++ e ∷ []) is.all ∙ append_assoc old is.events (e ∷ []);
      below = is.more (e ∷ []) (inl (number, omega arith, below, call, tt));
      none = none_more is.events e (no_sync number e.call call) is.none;
      more = λ es then. subst (λ all. AreOfOlder 0 first all) (sym (append_assoc is.events (e ∷ []) es))
          (is.more (e ∷ es) (inl (number, omega arith, below, call, subst (λ n. AreOfOlder n first es) after then)));
    }

pub asks_done : (next first : ℕ) (old new : List FolderEvent) → AsksBelow next first old new → AsksOfOlder first old new
asks_done next first old new is = record { events = is.events; all = is.all; below = is.below }

pub asks_no_sync : (next first : ℕ) (old new : List FolderEvent) → AsksBelow next first old new → AsksNoSync old new
asks_no_sync next first old new is = record { events = is.events; all = is.all; none = is.none }

-- a removal more is no sync
pub asks_none_more : (next first number : ℕ) (old mid new : List FolderEvent) (e : FolderEvent) → AsksBelow next first old mid → e.call ≡ calls.Removes number
    → new ≡ mid ++ e ∷ [] → AsksNoSync old new
asks_none_more next first number old mid new e is call more = record {
  events = is.events ++ e ∷ [];
  all = more ∙ ap (λ (es : List FolderEvent). es ++ e ∷ []) is.all ∙ append_assoc old is.events (e ∷ []);
  none = none_more is.events e (no_sync number e.call call) is.none;
}

-- nothing was asked, so nothing failed
pub asks_well : (events : List FolderEvent) → AsksWell events events
asks_well events = record { events = []; all = sym (append-nil events); done = tt }

done_more : (es : List FolderEvent) (e : FolderEvent) → e.failed ≡ false → AreDone es → AreDone (es ++ e ∷ [])
done_more [] e is done = (is, tt)
done_more (x ∷ es) e is done = (done.0, done_more es e is done.1)

-- one call more, which succeeded
pub well_more : (old mid new : List FolderEvent) (e : FolderEvent) → AsksWell old mid → new ≡ mid ++ e ∷ [] → e.failed ≡ false → AsksWell old new
well_more old mid new e well more is = record {
  events = well.events ++ e ∷ [];
  all = more ∙ ap (λ (es : List FolderEvent). es ++ e ∷ []) well.all ∙ append_assoc old well.events (e ∷ []);
  done = done_more well.events e is well.done;
}

-- a sync behind removals
pub older_then_sync : (from first : ℕ) (es : List FolderEvent) (e : FolderEvent) → e.call ≡ calls.Syncs → AreOfOlder from first es → AreOfOlder from first (es ++ e ∷ [])
older_then_sync from first [] e is before = inr (is, tt)
older_then_sync from first (x ∷ es) e is (inl (number, from_on, below, call, after)) = inl (number, from_on, below, call, older_then_sync (suc number) first es e is after)
older_then_sync from first (x ∷ es) e is (inr (call, after)) = inr (call, older_then_sync from first es e is after)

pub asks_sync : {T E : Type 0} (first : ℕ) (old mid new : List FolderEvent) (result : Result T E) → AsksOfOlder first old mid
    → new ≡ mid ++ folder_outcome calls.Syncs result ∷ [] → AsksOfOlder first old new
asks_sync first old mid new result is more =
    let e = folder_outcome calls.Syncs result in
    record {
      events = is.events ++ e ∷ [];
      all = more ∙ ap (λ es. es ++ e ∷ []) is.all ∙ append_assoc old is.events (e ∷ []);
      below = older_then_sync 0 first is.events e (call_of calls.Syncs result) is.below;
    }
