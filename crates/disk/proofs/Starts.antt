-- Started syncs, and waits for them.
use Rattle.std.proofs.Common.{◌≡◌, ◌⊎◌, ◌<◌, ◌≤◌, ◌+◌, ℕ, suc, zero, List, [], ◌∷◌, ◌++◌, length, map, take, replicate, ap, sym, ◌∙◌, subst, refl, arith, Bool, true, false, inl, inr, slice_set, Ok, Err}
use Rattle.std.specs.Prelude.{slice_get, Option, Some, None, if◌then◌else◌}
use Rattle.std.proofs.lemmas.List.{length_push, length-map, length-replicate, take_all}
use Rattle.disk.specs.Disk.{Disk, Life, Started, WaitSync, next, logged, disk_settled_to, waited, waited_for, is_failed, had_failed, failed_at, WaitGoes, failures}
use Rattle.disk.specs.declared.error.Error.TheVariants.{SyncFailed}
use Rattle.disk.specs.declared.action.Action.{Action}
use Rattle.disk.specs.declared.action.Action.TheVariants as actions
use Rattle.disk.specs.declared.action.Start.{Start}
use Rattle.disk.specs.declared.action.Call.{Call}
use Rattle.disk.specs.declared.action.Event.{Event}
use Rattle.disk.specs.History.{History, life_of, life_after_action, spent, done, redone, names_in}
use Rattle.disk.specs.Past.{history_with}
use Rattle.disk.specs.VecBlob.{IsPlain}
use Rattle.disk.specs.Memory.{failing_at, started_by, AreWell, AreWithin, TellsHistory, entries_of, history_of}
use Rattle.disk.proofs.Histories.{life_went, reads_went, waited_started}

-- the started sync of a name is marked as failed
pub failing_set : (starts : List Start) (name : ℕ) (s : Start) → slice_get starts name ≡ Some s → slice_set starts name (record s { failed = true }) ≡ failing_at name starts
failing_set [] name s is = absurd (cc)
failing_set (t ∷ ss) zero s is = let same : s ≡ t = cc in ap (λ (x : Start). record x { failed = true } ∷ ss) same
failing_set (t ∷ ss) (suc name) s is = ap (λ (l : List Start). t ∷ l) (failing_set ss name s is)

-- where no started sync has this name, none is marked
pub failing_out : (starts : List Start) (name : ℕ) → length starts ≤ name → starts ≡ failing_at name starts
failing_out [] name out = refl
failing_out (t ∷ ss) zero out = absurd (omega (arith, out))
failing_out (t ∷ ss) (suc name) out = ap (λ (l : List Start). t ∷ l) (failing_out ss name (omega (arith, out)))

-- the syncs that were started in earlier lives cover nothing
pub spent_starts : (h : History) (n : ℕ) → map (started_by h) (replicate n (record { events = 0; failed = true })) ≡ replicate n (spent h.first)
spent_starts h zero = refl
spent_starts h (suc n) = ap (λ (l : List Started). spent h.first ∷ l) (spent_starts h n)

spent_within : (n : ℕ) → AreWithin 0 (replicate n (record { events = 0; failed = true }))
spent_within zero = tt
spent_within (suc n) = (omega arith, spent_within n)

-- a sync that has failed is marked already
failed_again : (ss : List Started) (name : ℕ) → is_failed (slice_get ss name) ≡ true → failed_at name ss ≡ ss
failed_again [] name is = refl
failed_again (s ∷ ss) zero is = ap (λ (b : Bool). record s { failed = b } ∷ ss) (sym is)
failed_again (s ∷ ss) (suc name) is = ap (λ (l : List Started). s ∷ l) (failed_again ss name is)

-- a wait for a sync that has failed leaves the disk
waited_in_vain : (d : Disk) (o : Option Started) → is_failed o ≡ true → waited_for o d ≡ d
waited_in_vain d None is = refl
waited_in_vain d (Some s) is = ap (λ (b : Bool). if b then d else disk_settled_to (s.covers, s.bytes) d) is

pub wait_fails : (name : ℕ) (failed : Bool) (old new : Life) → (failed ≡ true) ⊎ (had_failed old.present.started name ≡ true) → new ≡ life_after_action (actions.WaitSync name) failed old → WaitGoes name old new (Err SyncFailed)
wait_fails name true old new why e = (true, inl refl, e)
wait_fails name false old new (inl wrong) e = absurd (cc)
wait_fails name false old new (inr is) e =
    let d = old.present in
    let same : waited name false d ≡ record d { started = failed_at name d.started } =
    waited_in_vain d (slice_get d.started name) is ∙ ap (λ (ss : List Started). record d { started = ss }) (sym (failed_again d.started name is)) in
    (false, inr is, e ∙ ap (λ (x : Disk). next old (logged (WaitSync name) false x)) same)

waits_well : (name : ℕ) (old new : Life) (o : Option Started) → slice_get old.present.started name ≡ o → is_failed o ≡ false → new ≡ next old (logged (WaitSync name) false (waited_for o old.present)) → WaitGoes name old new (Ok tt)
waits_well name old new None is well e = absurd (cc)
waits_well name old new (Some s) is well e =
    (s, is, well, e ∙ ap (λ (b : Bool). next old (logged (WaitSync name) false (if b then old.present else disk_settled_to (s.covers, s.bytes) old.present))) well)

pub wait_goes : (name : ℕ) (old new : Life) → had_failed old.present.started name ≡ false → new ≡ life_after_action (actions.WaitSync name) false old → WaitGoes name old new (Ok tt)
wait_goes name old new well e = waits_well name old new (slice_get old.present.started name) refl well e

-- where no started sync has failed, the one of this name hasn't
pub well_at : (ss : List Started) (name : ℕ) → AreWell ss → name < length ss → is_failed (slice_get ss name) ≡ false
well_at [] name well below = absurd (omega (arith, below))
well_at (s ∷ ss) zero well below = well.0
well_at (s ∷ ss) (suc name) well below = well_at ss name well.1 (omega (arith, below))

pub none_at : (ss : List Started) (name : ℕ) → length ss ≤ name → is_failed (slice_get ss name) ≡ true
none_at [] name out = refl
none_at (s ∷ ss) zero out = absurd (omega (arith, out))
none_at (s ∷ ss) (suc name) out = none_at ss name (omega (arith, out))

well_more : (ss : List Started) (s : Started) → AreWell ss → s.failed ≡ false → AreWell (ss ++ s ∷ [])
well_more [] s well is = (is, tt)
well_more (t ∷ ss) s well is = (well.0, well_more ss s well.1 is)

-- a write starts no sync
pub write_keeps : (offset : ℕ) (bytes : List ℕ) (sync failed : Bool) (life : Life) → (life_after_action (actions.Write offset bytes sync) failed life).present.started ≡ life.present.started
write_keeps offset bytes true true life = refl
write_keeps offset bytes true false life = refl
write_keeps offset bytes false failed life = refl

pub sync_keeps : (failed : Bool) (life : Life) → (life_after_action actions.Sync failed life).present.started ≡ life.present.started
sync_keeps true life = refl
sync_keeps false life = refl

length-failed_at : (name : ℕ) (ss : List Started) → length (failed_at name ss) ≡ length ss
length-failed_at name [] = refl
length-failed_at zero (s ∷ ss) = refl
length-failed_at (suc name) (s ∷ ss) = ap (λ n. suc n) (length-failed_at name ss)

-- one event more that starts no sync, and waits for none, leaves the started syncs
pub plain_went : (a : Action) (stopped : Bool) (old new : History) (bytes after : List ℕ) (n : ℕ) → ((life : Life) → (life_after_action a stopped life).present.started ≡ life.present.started) → new ≡ history_with a stopped old → IsPlain (life_of old).present bytes n stopped
    → after ≡ redone (record { action = a; failed = stopped }) bytes → IsPlain (life_of new).present after n stopped
plain_went a stopped old new bytes after n keeps e plain moved =
    let same : (life_of new).present.started ≡ (life_of old).present.started = ap (λ (l : Life). l.present.started) (life_went a stopped old new e) ∙ keeps (life_of old) in
    record {
      reads = reads_went a stopped old new bytes after e plain.reads moved;
      names = ap length same ∙ plain.names;
      well = λ goes. subst AreWell (sym same) (plain.well goes);
    }

-- an action that only reads, done or failed, leaves the bytes
pub same_bytes : (a : Action) (stopped : Bool) (bytes : List ℕ) → done a bytes ≡ bytes → bytes ≡ redone (record { action = a; failed = stopped }) bytes
same_bytes a true bytes is = refl
same_bytes a false bytes is = sym is

pub plain_waits : (name : ℕ) (stopped : Bool) (old new : History) (bytes : List ℕ) (n : ℕ) → new ≡ history_with (actions.WaitSync name) stopped old → IsPlain (life_of old).present bytes n stopped → IsPlain (life_of new).present bytes n stopped
plain_waits name false old new bytes n e plain = plain_went (actions.WaitSync name) false old new bytes bytes n (λ life. waited_started name life.present) e plain refl
plain_waits name true old new bytes n e plain =
    let same : (life_of new).present.started ≡ failed_at name (life_of old).present.started = ap (λ (l : Life). l.present.started) (life_went (actions.WaitSync name) true old new e) in
    record {
      reads = reads_went (actions.WaitSync name) true old new bytes bytes e plain.reads refl;
      names = ap length same ∙ length-failed_at name (life_of old).present.started ∙ plain.names;
      well = λ goes. absurd (cc);
    }

pub plain_starts : (stopped : Bool) (old new : History) (bytes : List ℕ) (n : ℕ) → new ≡ history_with actions.StartSync stopped old → IsPlain (life_of old).present bytes n stopped → IsPlain (life_of new).present bytes (n + 1) stopped
plain_starts stopped old new bytes n e plain =
    let d = (life_of old).present in
    let s : Started = record { covers = d.settled + length d.since; bytes = d.readable; failed = stopped } in
    let same : (life_of new).present.started ≡ d.started ++ s ∷ [] = ap (λ (l : Life). l.present.started) (life_went actions.StartSync stopped old new e) in
    record {
      reads = reads_went actions.StartSync stopped old new bytes bytes e plain.reads (same_bytes actions.StartSync stopped bytes refl);
      names = ap length same ∙ omega (arith, length_push d.started s, plain.names);
      well = λ goes. subst AreWell (sym same) (well_more d.started s (plain.well goes) goes);
    }

-- there are as many started syncs as the blob counts
pub length-started : (h : History) (starts : List Start) → (life_of h).present.started ≡ map (started_by h) starts → length (life_of h).present.started ≡ length starts
length-started h starts is = ap length is ∙ length-map starts (started_by h)

-- a life that begins with what a crash left
pub begun_kept : (first readable : List ℕ) (calls : List Call) (failed : List Bool) (failing faults earlier : ℕ) (backwards : Bool) (starts starts' : List Start) (events : List Event) → events ≡ [] → readable ≡ first → earlier ≡ length calls → length failed ≡ length calls
    → faults ≡ failures (entries_of calls failed) → length starts ≡ names_in (entries_of calls failed) → starts' ≡ replicate (length starts) (record { events = 0; failed = true })
    → TellsHistory (history_of first earlier calls failed events failing backwards) readable calls failed faults earlier 0 starts'
begun_kept first readable calls failed failing faults earlier backwards starts starts' events none same before outcomes few names is =
    rw (none, same, is, before) (
    let all_calls : take (length calls) calls ≡ calls = take_all (length calls) calls (omega arith) in
    let all_failed : take (length calls) failed ≡ failed = take_all (length calls) failed (omega (arith, outcomes)) in
    let log : entries_of (take (length calls) calls) (take (length calls) failed) ≡ entries_of calls failed = rw (all_calls, all_failed) refl in
    let h = history_of first (length calls) calls failed [] failing backwards in
    record {
      bytes = refl;
      base = refl;
      since = refl;
      count = refl;
      within = omega arith;
      started = ap (λ (n : ℕ). replicate n (spent first)) (ap names_in log ∙ sym names) ∙ sym (spent_starts h (length starts));
      covers = spent_within (length starts);
      names = length-replicate (length starts) (record { events = 0; failed = true }) ∙ names ∙ ap names_in (sym log);
      log = sym log;
      outcomes = outcomes;
      before = omega arith;
      failures = few ∙ ap failures (sym log);
    })
