-- A history with one event more, and the fields that keep it.
use Rattle.std.proofs.Common.{suc, zero, ◌≡◌, ◌≤◌, ◌<◌, ℕ, nat_lt, max, Option, Some, None, slice_get, inl, inr, subst, ap₂, ◌+◌, ◌-◌, ◌==◌, List, [], ◌∷◌, ◌++◌, length, map, take, drop, Bool, true, false, if◌then◌else◌, refl, sym, ap, ◌∙◌, arith, append-nil, append_assoc, length-append}
use Rattle.std.proofs.Math.Seq.{take-append-add}
use Rattle.std.proofs.lemmas.Bool.{cases_lt}
use Rattle.std.proofs.lemmas.Bool.Decides.{nat_tests}
use Rattle.std.proofs.lemmas.List.{take-append-le, drop-append-le, take_all, drop_all, length_push, length-take-le, take-append-drop, drop-drop, drop_at, take_at, nil_from_length}
use Rattle.disk.specs.Disk.{Entry, Request, Life, failures, Operation, Write, Disk, Started, StartSync, WaitSync, disk_settled_to, starts, waited, waited_for, failed_at}
use Rattle.disk.specs.declared.action.Action.{Action}
use Rattle.disk.specs.declared.action.Action.TheVariants as actions
use Rattle.disk.specs.declared.action.Event.{Event}
use Rattle.disk.specs.declared.action.Call.{Call}
use Rattle.disk.specs.History.{History, life_of, life_after_action, life_after_events, begun, with_action, asked, operation_of, names_in, redone, replayed, operations_of, request_of}
use Rattle.disk.specs.Past.{history_with}
use Rattle.disk.specs.declared.action.Start.{Start}
use Rattle.disk.specs.Memory.{entries_of, history_of, TellsHistory, settled_after, starts_after, failing_at, started_by, AreWithin, settled_for}

abbrev event : Action → Bool → Event
event action failed = record { action = action; failed = failed }

abbrev entry : Request → Bool → Entry
entry request failed = record { request = request; failed = failed }

-- one event more is one step more of the life
goes_on-append : (es : List Event) (life : Life) (e : Event) → life_after_events life (es ++ e ∷ []) ≡ life_after_action e.action e.failed (life_after_events life es)
goes_on-append [] life e = refl
goes_on-append (x ∷ es) life e = goes_on-append es (life_after_action x.action x.failed life) e

-- a wait leaves what is readable, and the log
module _ (d : Disk) where
  settled_if : (c : ℕ × List ℕ) (b : Bool) → ((if b then record d { base = c.1; since = drop (c.0 - d.settled) d.since; settled = c.0 } else d).readable ≡ d.readable)
      × ((if b then record d { base = c.1; since = drop (c.0 - d.settled) d.since; settled = c.0 } else d).log ≡ d.log)
      × ((if b then record d { base = c.1; since = drop (c.0 - d.settled) d.since; settled = c.0 } else d).started ≡ d.started)
  settled_if c true = (refl, refl, refl)
  settled_if c false = (refl, refl, refl)

  same_if : (c : ℕ × List ℕ) (failed : Bool) → ((if failed then d else disk_settled_to c d).readable ≡ d.readable) × ((if failed then d else disk_settled_to c d).log ≡ d.log) × ((if failed then d else disk_settled_to c d).started ≡ d.started)
  same_if c true = (refl, refl, refl)
  same_if c false = settled_if c (nat_lt d.settled c.0)

  same_of : (o : Option Started) → ((waited_for o d).readable ≡ d.readable) × ((waited_for o d).log ≡ d.log) × ((waited_for o d).started ≡ d.started)
  same_of None = (refl, refl, refl)
  same_of (Some s) = same_if (s.covers, s.bytes) s.failed

waited_readable : (name : ℕ) (d : Disk) → (waited name false d).readable ≡ d.readable
waited_readable name d = (same_of d (slice_get d.started name)).0

waited_log : (name : ℕ) (d : Disk) → (waited name false d).log ≡ d.log
waited_log name d = (same_of d (slice_get d.started name)).1

pub waited_started : (name : ℕ) (d : Disk) → (waited name false d).started ≡ d.started
waited_started name d = (same_of d (slice_get d.started name)).2

-- what is readable after one action more
lives_readable : (a : Action) (failed : Bool) (life : Life) → (life_after_action a failed life).present.readable ≡ redone (event a failed) life.present.readable
lives_readable (actions.Read offset len) true life = refl
lives_readable (actions.ReadMany ranges) true life = refl
lives_readable (actions.StartReadMany ranges) true life = refl
lives_readable (actions.Read offset len) false life = refl
lives_readable (actions.ReadMany ranges) false life = refl
lives_readable (actions.StartReadMany ranges) false life = refl
lives_readable (actions.Write offset bytes false) failed life = refl
lives_readable (actions.Write offset bytes true) true life = refl
lives_readable (actions.Write offset bytes true) false life = refl
lives_readable (actions.Resize len) failed life = refl
lives_readable actions.Sync true life = refl
lives_readable actions.Sync false life = refl
lives_readable actions.StartSync true life = refl
lives_readable actions.StartSync false life = refl
lives_readable (actions.WaitSync name) true life = refl
lives_readable (actions.WaitSync name) false life = waited_readable name life.present

-- what one action more adds to the log
lives_log : (a : Action) (failed : Bool) (life : Life) → (life_after_action a failed life).present.log ≡ life.present.log ++ entry (asked a) failed ∷ []
lives_log (actions.Read offset len) failed life = refl
lives_log (actions.ReadMany ranges) failed life = refl
lives_log (actions.StartReadMany ranges) failed life = refl
lives_log (actions.Write offset bytes false) failed life = refl
lives_log (actions.Write offset bytes true) true life = refl
lives_log (actions.Write offset bytes true) false life = refl
lives_log (actions.Resize len) failed life = refl
lives_log actions.Sync true life = refl
lives_log actions.Sync false life = refl
lives_log actions.StartSync failed life = refl
lives_log (actions.WaitSync name) true life = refl
lives_log (actions.WaitSync name) false life = ap (λ l. l ++ entry (WaitSync name) false ∷ []) (waited_log name life.present)

-- what is readable in the end is what the events do to the bytes
goes_on_readable : (es : List Event) (life : Life) → (life_after_events life es).present.readable ≡ replayed es life.present.readable
goes_on_readable [] life = refl
goes_on_readable (e ∷ es) life = goes_on_readable es (life_after_action e.action e.failed life) ∙ ap (replayed es) (lives_readable e.action e.failed life)

operations_of-append : (xs ys : List Event) → operations_of (xs ++ ys) ≡ operations_of xs ++ operations_of ys
operations_of-append [] ys = refl
operations_of-append (x ∷ xs) ys = ap (λ v. operation_of x.action ++ v) (operations_of-append xs ys) ∙ sym (append_assoc (operation_of x.action) (operations_of xs) (operations_of ys))

entries_of-append : (calls : List Call) (failed : List Bool) (call : Call) (fault : Bool) → length failed ≡ length calls → entries_of (calls ++ call ∷ []) (failed ++ fault ∷ []) ≡ entries_of calls failed ++ entry (request_of call) fault ∷ []
entries_of-append [] [] call fault e = refl
entries_of-append [] (f ∷ failed) call fault e = absurd (omega arith)
entries_of-append (c ∷ calls) [] call fault e = absurd (omega arith)
entries_of-append (c ∷ calls) (f ∷ failed) call fault e = ap (λ v. entry (request_of c) f ∷ v) (entries_of-append calls failed call fault (omega arith))

-- the requests of the log's entries are those of the calls
pub requests_of_entries : (calls : List Call) (failed : List Bool) → length failed ≡ length calls → map request_of calls ≡ map (λ e. e.request) (entries_of calls failed)
requests_of_entries [] failed e = refl
requests_of_entries (c ∷ calls) [] e = absurd (omega arith)
requests_of_entries (c ∷ calls) (f ∷ failed) e = ap (λ v. request_of c ∷ v) (requests_of_entries calls failed (omega arith))

failures-append : (log : List Entry) (request : Request) (failed : Bool) → failures (log ++ entry request failed ∷ []) ≡ failures log + (if failed then 1 else 0)
failures-append [] request failed = omega arith
failures-append (e ∷ log) request failed = omega (arith, failures-append log request failed)

-- one call fails at most once
pub one_at_most : (failed : Bool) → (if failed then 1 else 0) ≤ 1
one_at_most true = omega arith
one_at_most false = omega arith

failures_le : (log : List Entry) → failures log ≤ length log
failures_le [] = omega arith
failures_le (e ∷ log) = omega (arith, failures_le log, one_at_most e.failed)

length-entries_of : (calls : List Call) (failed : List Bool) → length failed ≡ length calls → length (entries_of calls failed) ≡ length calls
length-entries_of [] failed e = refl
length-entries_of (c ∷ calls) [] e = absurd (omega arith)
length-entries_of (c ∷ calls) (f ∷ failed) e = ap (λ n. suc n) (length-entries_of calls failed (omega arith))

pub faults_le : (h : History) (readable : List ℕ) (calls : List Call) (failed : List Bool) (faults earlier settled : ℕ) (starts : List Start) → TellsHistory h readable calls failed faults earlier settled starts → faults ≤ length calls
faults_le h readable calls failed faults earlier settled starts k =
    omega (arith, k.failures, ap failures k.log, failures_le (entries_of calls failed), length-entries_of calls failed k.outcomes)

-- the history of the fields with one event more
pub history_more : (first : List ℕ) (earlier : ℕ) (calls : List Call) (failed : List Bool) (events : List Event) (failing : ℕ) (backwards : Bool) (a : Action) (c : Call) → earlier ≤ length calls → length failed ≡ length calls → history_of first earlier (calls ++ c ∷ []) (failed ++ (failing == 1) ∷ []) (events ++ event a (failing == 1) ∷ []) (failing - 1) backwards ≡ with_action a (history_of first earlier calls failed events failing backwards)
history_more first earlier calls failed events failing backwards a c before outcomes =
    rw (take-append-le earlier calls (c ∷ []) before, take-append-le earlier failed ((failing == 1) ∷ []) (omega arith)) refl

-- the history of the fields with one event more, where the fields after it have names of their own
pub told_next : (first : List ℕ) (calls calls' : List Call) (failed failed' : List Bool) (events events' : List Event) (earlier failing failing' : ℕ) (backwards : Bool) (a : Action) (c : Call) (h : History) → earlier ≤ length calls → length failed ≡ length calls → history_of first earlier calls failed events failing backwards ≡ h
    → calls' ≡ calls ++ c ∷ [] → failed' ≡ failed ++ (failing == 1) ∷ [] → events' ≡ events ++ event a (failing == 1) ∷ [] → failing' ≡ failing - 1 → history_of first earlier calls' failed' events' failing' backwards ≡ with_action a h
told_next first calls calls' failed failed' events events' earlier failing failing' backwards a c h before outcomes same ec ef ee en =
    rw (ec, ef, ee, en, history_more first earlier calls failed events failing backwards a c before outcomes) (ap (with_action a) same)

-- the life of a history with one event more
pub life_told : (a : Action) (h : History) → life_of (with_action a h) ≡ life_after_action a (h.failing == 1) (life_of h)
life_told a h = goes_on-append h.events (begun h.first h.earlier) (event a (h.failing == 1))

-- the life of a history with one event more, done or failed
pub life_went : (a : Action) (failed : Bool) (old new : History) → new ≡ history_with a failed old → life_of new ≡ life_after_action a failed (life_of old)
life_went a failed old new e = rw e (goes_on-append old.events (begun old.first old.earlier) (event a failed))

-- what is readable after one event more
pub reads_went : (a : Action) (failed : Bool) (old new : History) (bytes after : List ℕ) → new ≡ history_with a failed old → bytes ≡ (life_of old).present.readable → after ≡ redone (event a failed) bytes → after ≡ (life_of new).present.readable
reads_went a failed old new bytes after e same moved =
    moved ∙ ap (redone (event a failed)) same ∙ sym (ap (λ l. l.present.readable) (life_went a failed old new e) ∙ lives_readable a failed (life_of old))

-- what the events do to the bytes that the life began with is what is readable
pub readable_is : (h : History) → (life_of h).present.readable ≡ replayed h.events h.first
readable_is h = goes_on_readable h.events (begun h.first h.earlier)

-- the log after one event more
log_more : (h : History) (a : Action) → (life_of (with_action a h)).present.log ≡ (life_of h).present.log ++ entry (asked a) (h.failing == 1) ∷ []
log_more h a = ap (λ life. life.present.log) (life_told a h) ∙ lives_log a (h.failing == 1) (life_of h)

-- the first m events are what is durable, and the operations of those after them are what isn't
record DurableTo (h : History) (m : ℕ) (d : Disk) : Type 0 where
  base : d.base ≡ replayed (take m h.events) h.first
  since : d.since ≡ operations_of (drop m h.events)
  count : d.settled ≡ length (operations_of (take m h.events))
  within : m ≤ length h.events

abbrev with_event : History → Event → History
with_event h e = record h { events = h.events ++ e ∷ [] }

-- one event more that makes nothing durable: the first m events still are what is durable
kept_to : (h : History) (e : Event) (m : ℕ) (d f : Disk) → DurableTo h m d → f.base ≡ d.base → f.since ≡ d.since ++ operation_of e.action → f.settled ≡ d.settled → DurableTo (with_event h e) m f
kept_to h e m d f at base since settled =
    let front : take m (h.events ++ e ∷ []) ≡ take m h.events = take-append-le m h.events (e ∷ []) at.within in
    record {
      base = base ∙ at.base ∙ ap (λ (es : List Event). replayed es h.first) (sym front);
      since = since ∙ ap (λ (os : List Operation). os ++ operation_of e.action) at.since
          ∙ sym (ap operations_of (drop-append-le m h.events (e ∷ []) at.within) ∙ operations_of-append (drop m h.events) (e ∷ []) ∙ ap (λ (os : List Operation). operations_of (drop m h.events) ++ os) (append-nil (operation_of e.action)));
      count = settled ∙ at.count ∙ ap (λ (es : List Event). length (operations_of es)) (sym front);
      within = omega (arith, at.within, length_push h.events e);
    }

-- one event more that makes all durable: all events are
all_to : (h : History) (e : Event) (f : Disk) → f.base ≡ replayed (h.events ++ e ∷ []) h.first → f.since ≡ [] → f.settled ≡ length (operations_of (h.events ++ e ∷ [])) → DurableTo (with_event h e) (length h.events + 1) f
all_to h e f base since settled =
    let long = length_push h.events e in
    let whole : take (length h.events + 1) (h.events ++ e ∷ []) ≡ h.events ++ e ∷ [] = take_all (length h.events + 1) (h.events ++ e ∷ []) (omega (arith, long)) in
    let none : drop (length h.events + 1) (h.events ++ e ∷ []) ≡ [] = drop_all (length h.events + 1) (h.events ++ e ∷ []) (omega (arith, long)) in
    record {
      base = base ∙ ap (λ (es : List Event). replayed es h.first) (sym whole);
      since = since ∙ ap operations_of (sym none);
      count = settled ∙ ap (λ (es : List Event). length (operations_of es)) (sym whole);
      within = omega (arith, long);
    }

replayed-append : (xs ys : List Event) (bytes : List ℕ) → replayed (xs ++ ys) bytes ≡ replayed ys (replayed xs bytes)
replayed-append [] ys bytes = refl
replayed-append (x ∷ xs) ys bytes = replayed-append xs ys (redone x bytes)

-- events without operations leave the bytes
idle_redone : (a : Action) (failed : Bool) (bytes : List ℕ) → length (operation_of a) ≡ 0 → redone (event a failed) bytes ≡ bytes
idle_redone a true bytes none = refl
idle_redone (actions.Read offset len) false bytes none = refl
idle_redone (actions.ReadMany ranges) false bytes none = refl
idle_redone (actions.StartReadMany ranges) false bytes none = refl
idle_redone (actions.Write offset new sync) false bytes none = absurd (omega (arith, none))
idle_redone (actions.Resize len) false bytes none = absurd (omega (arith, none))
idle_redone actions.Sync false bytes none = refl
idle_redone actions.StartSync false bytes none = refl
idle_redone (actions.WaitSync name) false bytes none = refl

idle_replayed : (es : List Event) (bytes : List ℕ) → length (operations_of es) ≡ 0 → replayed es bytes ≡ bytes
idle_replayed [] bytes none = refl
idle_replayed (e ∷ es) bytes none =
    let long = length-append (operation_of e.action) (operations_of es) in
    ap (replayed es) (idle_redone e.action e.failed bytes (omega (arith, none, long))) ∙ idle_replayed es bytes (omega (arith, none, long))

-- what stands between two counts of events
module _ (es : List Event) (m k : ℕ) (order : m ≤ k) (within : k ≤ length es) where
  abbrev between : List Event
  between = take (k - m) (drop m es)

  front_is : take k es ≡ take m es ++ between
  front_is =
      let long : length (take m es) ≡ m = length-take-le m es (omega (arith, order, within)) in
      let sum : k ≡ length (take m es) + (k - m) = omega (arith, order, long) in
      ap (take k) (sym (take-append-drop m es)) ∙ ap (λ (n : ℕ). take n (take m es ++ drop m es)) sum ∙ take-append-add (take m es) (drop m es) (k - m)

  back_is : drop m es ≡ between ++ drop k es
  back_is =
      let sum : m + (k - m) ≡ k = omega (arith, order) in
      sym (take-append-drop (k - m) (drop m es)) ∙ ap (λ (l : List Event). between ++ l) (drop-drop (k - m) m es ∙ ap (λ (n : ℕ). drop n es) sum)

  front_operations : operations_of (take k es) ≡ operations_of (take m es) ++ operations_of between
  front_operations = ap operations_of front_is ∙ operations_of-append (take m es) between

  back_operations : operations_of (drop m es) ≡ operations_of between ++ operations_of (drop k es)
  back_operations = ap operations_of back_is ∙ operations_of-append between (drop k es)

-- more events have no fewer operations
fewer_operations : (es : List Event) (m k : ℕ) → m ≤ k → k ≤ length es → length (operations_of (take m es)) ≤ length (operations_of (take k es))
fewer_operations es m k order within =
    omega (arith, ap length (front_operations es m k order within), length-append (operations_of (take m es)) (operations_of (between es m k order within)))

-- what a started sync covers is made durable
module _ (h : History) (m k : ℕ) (d : Disk) (at : DurableTo h m d) (covered : k ≤ length h.events) where
  abbrev c : ℕ × List ℕ
  c = (length (operations_of (take k h.events)), replayed (take k h.events) h.first)

  abbrev settled_to_if : Bool → Disk
  settled_to_if b = if b then record d { base = c.1; since = drop (c.0 - d.settled) d.since; settled = c.0 } else d

  further : m ≤ k → DurableTo h k (record d { base = c.1; since = drop (c.0 - d.settled) d.since; settled = c.0 })
  further order =
      let os = operations_of (between h.events m k order covered) in
      let n : c.0 - d.settled ≡ length os = omega (arith, at.count, ap length (front_operations h.events m k order covered), length-append (operations_of (take m h.events)) os) in
      record {
        base = refl;
        since = ap (λ (l : List Operation). drop (c.0 - d.settled) l) (at.since ∙ back_operations h.events m k order covered)
            ∙ drop_at os (operations_of (drop k h.events)) (c.0 - d.settled) (sym n);
        count = refl;
        within = covered;
      }

  idle : m ≤ k → c.0 ≤ d.settled → DurableTo h k d
  idle order few =
      let es = between h.events m k order covered in
      let none : length (operations_of es) ≡ 0 = omega (arith, few, at.count, ap length (front_operations h.events m k order covered), length-append (operations_of (take m h.events)) (operations_of es)) in
      record {
        base = at.base ∙ sym (ap (λ (l : List Event). replayed l h.first) (front_is h.events m k order covered) ∙ replayed-append (take m h.events) es h.first ∙ idle_replayed es (replayed (take m h.events) h.first) none);
        since = at.since ∙ back_operations h.events m k order covered ∙ ap (λ (l : List Operation). l ++ operations_of (drop k h.events)) (nil_from_length (operations_of es) none);
        count = omega (arith, at.count, few, fewer_operations h.events m k order covered);
        within = covered;
      }

  settles_if : (b : Bool) → b ≡ nat_lt d.settled c.0 → DurableTo h (max m k) (settled_to_if b)
  settles_if true is =
      let more : d.settled < c.0 = grind (arith, nat_tests, is) in
      elim (cases_lt m k) [
        | inl less ↦ let e : max m k ≡ k = omega (arith, less) in rw e (further (omega (arith, less)))
        | inr enough ↦ absurd (omega (arith, more, at.count, fewer_operations h.events k m enough at.within))
      ]
  settles_if false is =
      let few : c.0 ≤ d.settled = grind (arith, nat_tests, is) in
      elim (cases_lt m k) [
        | inl less ↦ let e : max m k ≡ k = omega (arith, less) in rw e (idle (omega (arith, less)) few)
        | inr enough ↦ let e : max m k ≡ m = omega (arith, enough) in rw e at
      ]

  settles_to : DurableTo h (max m k) (disk_settled_to c d)
  settles_to = settles_if (nat_lt d.settled c.0) refl

-- a started sync of the fields, as the history has it
abbrev as_started : History → Option Start → Option Started
as_started h None = None
as_started h (Some s) = Some (started_by h s)

get_started : (h : History) (starts : List Start) (name : ℕ) → slice_get (map (started_by h) starts) name ≡ as_started h (slice_get starts name)
get_started h [] name = refl
get_started h (t ∷ ss) zero = refl
get_started h (t ∷ ss) (suc name) = get_started h ss name

within_at : (n : ℕ) (starts : List Start) (name : ℕ) (s : Start) → AreWithin n starts → slice_get starts name ≡ Some s → s.events ≤ n
within_at n [] name s are is = absurd (cc)
within_at n (t ∷ ss) zero s are is = let same : t ≡ s = cc in subst (λ (x : Start). x.events ≤ n) same are.0
within_at n (t ∷ ss) (suc name) s are is = within_at n ss name s are.1 is

-- a wait that is done
module _ (h : History) (m : ℕ) (d : Disk) (at : DurableTo h m d) where
  waits_if : (s : Start) (failed : Bool) → s.events ≤ length h.events → DurableTo h (if failed then m else max m s.events) (if failed then d else disk_settled_to ((started_by h s).covers, (started_by h s).bytes) d)
  waits_if s true within = at
  waits_if s false within = settles_to h m s.events d at within

  waits_of : (starts : List Start) (name : ℕ) (o : Option Start) → slice_get starts name ≡ o → AreWithin (length h.events) starts → DurableTo h (settled_for o m) (waited_for (as_started h o) d)
  waits_of starts name None is are = at
  waits_of starts name (Some s) is are = waits_if s s.failed (within_at (length h.events) starts name s are is)

  waits : (starts : List Start) (name : ℕ) → d.started ≡ map (started_by h) starts → AreWithin (length h.events) starts → DurableTo h (settled_for (slice_get starts name) m) (waited name false d)
  waits starts name is are =
      subst (λ (o : Option Started). DurableTo h (settled_for (slice_get starts name) m) (waited_for o d))
      (sym (ap (λ (ss : List Started). slice_get ss name) is ∙ get_started h starts name)) (waits_of starts name (slice_get starts name) refl are)

-- the operations of all events are the durable ones and those that aren't durable
total : (h : History) (m : ℕ) (d : Disk) → DurableTo h m d → d.settled + length d.since ≡ length (operations_of h.events)
total h m d at =
    omega (arith, at.count, ap length at.since, length-append (operations_of (take m h.events)) (operations_of (drop m h.events)), ap length (sym (operations_of-append (take m h.events) (drop m h.events)) ∙ ap operations_of (take-append-drop m h.events)))

total_more : (h : History) (e : Event) (m : ℕ) (d : Disk) → DurableTo h m d → d.settled + length d.since + length (operation_of e.action) ≡ length (operations_of (h.events ++ e ∷ []))
total_more h e m d at =
    omega (arith, total h m d at, ap length (operations_of-append h.events (e ∷ []) ∙ ap (λ (os : List Operation). operations_of h.events ++ os) (append-nil (operation_of e.action))), length-append (operations_of h.events) (operation_of e.action))

-- how many events are durable after one more
module _ (h : History) (starts : List Start) (m : ℕ) (at : DurableTo h m (life_of h).present) (is : (life_of h).present.started ≡ map (started_by h) starts) (are : AreWithin (length h.events) starts) where
  abbrev now : Disk
  now = (life_of h).present

  abbrev next_disk : Action → Bool → Disk
  next_disk a failed = (life_after_action a failed (life_of h)).present

  -- what is readable after one event more
  read_next : (a : Action) (failed : Bool) → (next_disk a failed).readable ≡ replayed (h.events ++ event a failed ∷ []) h.first
  read_next a failed = lives_readable a failed (life_of h) ∙ ap (redone (event a failed)) (readable_is h) ∙ sym (replayed-append h.events (event a failed ∷ []) h.first)

  durable_more : (a : Action) (failed : Bool) → DurableTo (with_event h (event a failed)) (settled_after a failed starts m (length h.events)) (next_disk a failed)
  durable_more (actions.Read offset len) true = kept_to h (event (actions.Read offset len) true) m now (next_disk (actions.Read offset len) true) at refl (sym (append-nil now.since)) refl
  durable_more (actions.ReadMany ranges) true = kept_to h (event (actions.ReadMany ranges) true) m now (next_disk (actions.ReadMany ranges) true) at refl (sym (append-nil now.since)) refl
  durable_more (actions.StartReadMany ranges) true = kept_to h (event (actions.StartReadMany ranges) true) m now (next_disk (actions.StartReadMany ranges) true) at refl (sym (append-nil now.since)) refl
  durable_more (actions.Read offset len) false = kept_to h (event (actions.Read offset len) false) m now (next_disk (actions.Read offset len) false) at refl (sym (append-nil now.since)) refl
  durable_more (actions.ReadMany ranges) false = kept_to h (event (actions.ReadMany ranges) false) m now (next_disk (actions.ReadMany ranges) false) at refl (sym (append-nil now.since)) refl
  durable_more (actions.StartReadMany ranges) false = kept_to h (event (actions.StartReadMany ranges) false) m now (next_disk (actions.StartReadMany ranges) false) at refl (sym (append-nil now.since)) refl
  durable_more (actions.Write offset bytes false) true = kept_to h (event (actions.Write offset bytes false) true) m now (next_disk (actions.Write offset bytes false) true) at refl refl refl
  durable_more (actions.Write offset bytes false) false = kept_to h (event (actions.Write offset bytes false) false) m now (next_disk (actions.Write offset bytes false) false) at refl refl refl
  durable_more (actions.Write offset bytes true) true = kept_to h (event (actions.Write offset bytes true) true) m now (next_disk (actions.Write offset bytes true) true) at refl refl refl
  durable_more (actions.Write offset bytes true) false =
      let e = event (actions.Write offset bytes true) false in
      let o : Operation = Write offset bytes in
      all_to h e (next_disk (actions.Write offset bytes true) false) (read_next (actions.Write offset bytes true) false) refl (omega (arith, total_more h e m now at, length-append now.since (o ∷ [])))
  durable_more (actions.Resize len) true = kept_to h (event (actions.Resize len) true) m now (next_disk (actions.Resize len) true) at refl refl refl
  durable_more (actions.Resize len) false = kept_to h (event (actions.Resize len) false) m now (next_disk (actions.Resize len) false) at refl refl refl
  durable_more actions.Sync true = kept_to h (event actions.Sync true) m now (next_disk actions.Sync true) at refl (sym (append-nil now.since)) refl
  durable_more actions.Sync false = all_to h (event actions.Sync false) (next_disk actions.Sync false) (read_next actions.Sync false) refl (omega (arith, total_more h (event actions.Sync false) m now at))
  durable_more actions.StartSync true = kept_to h (event actions.StartSync true) m now (next_disk actions.StartSync true) at refl (sym (append-nil now.since)) refl
  durable_more actions.StartSync false = kept_to h (event actions.StartSync false) m now (next_disk actions.StartSync false) at refl (sym (append-nil now.since)) refl
  durable_more (actions.WaitSync name) true = kept_to h (event (actions.WaitSync name) true) m now (next_disk (actions.WaitSync name) true) at refl (sym (append-nil now.since)) refl
  durable_more (actions.WaitSync name) false =
      let mid = waited name false now in
      kept_to h (event (actions.WaitSync name) false) (settled_after (actions.WaitSync name) false starts m (length h.events)) mid (next_disk (actions.WaitSync name) false) (waits h m now at starts name is are) refl (sym (append-nil mid.since)) refl

-- the started syncs don't change with one event more
same_starts : (h : History) (e : Event) (starts : List Start) → AreWithin (length h.events) starts → map (started_by (with_event h e)) starts ≡ map (started_by h) starts
same_starts h e [] are = refl
same_starts h e (s ∷ ss) are =
    let same : started_by (with_event h e) s ≡ started_by h s = ap (λ (es : List Event). record { covers = length (operations_of es); bytes = replayed es h.first; failed = s.failed }) (take-append-le s.events h.events (e ∷ []) are.0) in
    ap₂ (λ (x : Started) (l : List Started). x ∷ l) same (same_starts h e ss are.1)

failing_is : (h : History) (name : ℕ) (starts : List Start) → failed_at name (map (started_by h) starts) ≡ map (started_by h) (failing_at name starts)
failing_is h name [] = refl
failing_is h zero (s ∷ ss) = refl
failing_is h (suc name) (s ∷ ss) = ap (λ (l : List Started). started_by h s ∷ l) (failing_is h name ss)

failing_within : (n name : ℕ) (starts : List Start) → AreWithin n starts → AreWithin n (failing_at name starts)
failing_within n name [] are = tt
failing_within n zero (s ∷ ss) are = are
failing_within n (suc name) (s ∷ ss) are = (are.0, failing_within n name ss are.1)

failing_length : (name : ℕ) (starts : List Start) → length (failing_at name starts) ≡ length starts
failing_length name [] = refl
failing_length zero (s ∷ ss) = refl
failing_length (suc name) (s ∷ ss) = ap (λ n. suc n) (failing_length name ss)

later_within : (n : ℕ) (starts : List Start) → AreWithin n starts → AreWithin (n + 1) starts
later_within n [] are = tt
later_within n (s ∷ ss) are = (omega (arith, are.0), later_within n ss are.1)

push_within : (n : ℕ) (starts : List Start) (failed : Bool) → AreWithin n starts → AreWithin (n + 1) (starts ++ record { events = n; failed = failed } ∷ [])
push_within n [] failed are = (omega arith, tt)
push_within n (s ∷ ss) failed are = (omega (arith, are.0), push_within n ss failed are.1)

within_more : (a : Action) (failed : Bool) (n : ℕ) (starts : List Start) → AreWithin n starts → AreWithin (n + 1) (starts_after a failed starts n)
within_more actions.StartSync failed n starts are = push_within n starts failed are
within_more (actions.WaitSync name) true n starts are = later_within n (failing_at name starts) (failing_within n name starts are)
within_more (actions.WaitSync name) false n starts are = later_within n starts are
within_more (actions.Read offset len) failed n starts are = later_within n starts are
within_more (actions.ReadMany ranges) failed n starts are = later_within n starts are
within_more (actions.StartReadMany ranges) failed n starts are = later_within n starts are
within_more (actions.Write offset bytes sync) failed n starts are = later_within n starts are
within_more (actions.Resize len) failed n starts are = later_within n starts are
within_more actions.Sync failed n starts are = later_within n starts are

map_push : (h : History) (starts : List Start) (s : Start) → map (started_by h) (starts ++ s ∷ []) ≡ map (started_by h) starts ++ started_by h s ∷ []
map_push h [] s = refl
map_push h (t ∷ ss) s = ap (λ (l : List Started). started_by h t ∷ l) (map_push h ss s)

-- the started syncs after one event more
module _ (h : History) (starts : List Start) (m : ℕ) (at : DurableTo h m (life_of h).present) (is : (life_of h).present.started ≡ map (started_by h) starts) (are : AreWithin (length h.events) starts) where
  started_more : (a : Action) (failed : Bool) → (life_after_action a failed (life_of h)).present.started ≡ map (started_by (with_event h (event a failed))) (starts_after a failed starts (length h.events))
  started_more (actions.Read offset len) failed = is ∙ sym (same_starts h (event (actions.Read offset len) failed) starts are)
  started_more (actions.ReadMany ranges) failed = is ∙ sym (same_starts h (event (actions.ReadMany ranges) failed) starts are)
  started_more (actions.StartReadMany ranges) failed = is ∙ sym (same_starts h (event (actions.StartReadMany ranges) failed) starts are)
  started_more (actions.Write offset bytes false) failed = is ∙ sym (same_starts h (event (actions.Write offset bytes false) failed) starts are)
  started_more (actions.Write offset bytes true) true = is ∙ sym (same_starts h (event (actions.Write offset bytes true) true) starts are)
  started_more (actions.Write offset bytes true) false = is ∙ sym (same_starts h (event (actions.Write offset bytes true) false) starts are)
  started_more (actions.Resize len) failed = is ∙ sym (same_starts h (event (actions.Resize len) failed) starts are)
  started_more actions.Sync true = is ∙ sym (same_starts h (event actions.Sync true) starts are)
  started_more actions.Sync false = is ∙ sym (same_starts h (event actions.Sync false) starts are)
  started_more actions.StartSync failed =
      let e = event actions.StartSync failed in
      let s : Start = record { events = length h.events; failed = failed } in
      let whole : take (length h.events) (h.events ++ e ∷ []) ≡ h.events = take_at h.events (e ∷ []) (length h.events) refl in
      let new : record { covers = (life_of h).present.settled + length (life_of h).present.since; bytes = (life_of h).present.readable; failed = failed } ≡ started_by (with_event h e) s =
      (λ i. record { covers = total h m (life_of h).present at i; bytes = readable_is h i; failed = failed })
      ∙ ap (λ (es : List Event). record { covers = length (operations_of es); bytes = replayed es h.first; failed = failed }) (sym whole) in
      ap₂ (λ (l : List Started) (x : Started). l ++ x ∷ []) (is ∙ sym (same_starts h e starts are)) new ∙ sym (map_push (with_event h e) starts s)
  started_more (actions.WaitSync name) true =
      ap (failed_at name) (is ∙ sym (same_starts h (event (actions.WaitSync name) true) starts are)) ∙ failing_is (with_event h (event (actions.WaitSync name) true)) name starts
  started_more (actions.WaitSync name) false = waited_started name (life_of h).present ∙ is ∙ sym (same_starts h (event (actions.WaitSync name) false) starts are)

-- how many names were given after one call more
names_append : (log : List Entry) (e : Entry) → names_in (log ++ e ∷ []) ≡ names_in log + names_in (e ∷ [])
names_append [] e = omega arith
names_append (x ∷ log) e = omega (arith, names_append log e)

names_more : (a : Action) (failed : Bool) (starts : List Start) (n : ℕ) (log : List Entry) → length starts ≡ names_in log → length (starts_after a failed starts n) ≡ names_in (log ++ entry (asked a) failed ∷ [])
names_more actions.StartSync failed starts n log is = omega (arith, is, names_append log (entry StartSync failed), length_push starts (record { events = n; failed = failed }))
names_more (actions.WaitSync name) true starts n log is = omega (arith, is, failing_length name starts, names_append log (entry (WaitSync name) true))
names_more (actions.WaitSync name) false starts n log is = omega (arith, is, names_append log (entry (WaitSync name) false))
names_more (actions.Read offset len) failed starts n log is = omega (arith, is, names_append log (entry (asked (actions.Read offset len)) failed))
names_more (actions.ReadMany ranges) failed starts n log is = omega (arith, is, names_append log (entry (asked (actions.ReadMany ranges)) failed))
names_more (actions.StartReadMany ranges) failed starts n log is = omega (arith, is, names_append log (entry (asked (actions.StartReadMany ranges)) failed))
names_more (actions.Write offset bytes sync) failed starts n log is = omega (arith, is, names_append log (entry (asked (actions.Write offset bytes sync)) failed))
names_more (actions.Resize len) failed starts n log is = omega (arith, is, names_append log (entry (asked (actions.Resize len)) failed))
names_more actions.Sync failed starts n log is = omega (arith, is, names_append log (entry (asked actions.Sync) failed))

-- the fields keep a history with one event more
pub kept_more : (h : History) (a : Action) (readable : List ℕ) (calls : List Call) (failed : List Bool) (faults earlier settled : ℕ) (starts : List Start) (c : Call) → TellsHistory h readable calls failed faults earlier settled starts → request_of c ≡ asked a
    → TellsHistory (with_action a h) (redone (event a (h.failing == 1)) readable) (calls ++ c ∷ []) (failed ++ (h.failing == 1) ∷ []) (faults + (if h.failing == 1 then 1 else 0)) earlier (settled_after a (h.failing == 1) starts settled (length h.events)) (starts_after a (h.failing == 1) starts (length h.events))
kept_more h a readable calls failed faults earlier settled starts c k same =
    let fails = h.failing == 1 in
    let long_calls = length_push calls c in
    let long_failed = length_push failed fails in
    let at : DurableTo h settled (life_of h).present = record { base = k.base; since = k.since; count = k.count; within = k.within } in
    let to = durable_more h starts settled at k.started k.covers a fails in
    let life = life_told a h in
    record {
      bytes = ap (redone (event a fails)) k.bytes ∙ sym (ap (λ life. life.present.readable) life ∙ lives_readable a fails (life_of h));
      base = ap (λ life. life.present.base) life ∙ to.base;
      since = ap (λ life. life.present.since) life ∙ to.since;
      count = ap (λ life. life.present.settled) life ∙ to.count;
      within = to.within;
      started = ap (λ life. life.present.started) life ∙ started_more h starts settled at k.started k.covers a fails;
      covers = rw (length_push h.events (event a fails)) (within_more a fails (length h.events) starts k.covers);
      names = names_more a fails starts (length h.events) (life_of h).present.log k.names ∙ ap names_in (sym (log_more h a));
      log = entries_of-append calls failed c fails k.outcomes ∙ ap (λ log. log ++ entry (request_of c) fails ∷ []) k.log ∙ ap (λ r. (life_of h).present.log ++ entry r fails ∷ []) same ∙ sym (log_more h a);
      outcomes = long_failed ∙ ap (λ n. n + 1) k.outcomes ∙ sym long_calls;
      before = omega (arith, k.before);
      failures = ap (λ n. n + (if fails then 1 else 0)) k.failures ∙ sym (ap failures (log_more h a) ∙ failures-append (life_of h).present.log (asked a) fails);
    }

-- the fields keep a history with one action more
pub kept_next : (first readable readable' : List ℕ) (calls calls' : List Call) (failed failed' : List Bool) (events events' : List Event) (earlier settled settled' faults faults' failing failing' : ℕ) (backwards : Bool) (starts starts' : List Start) (a : Action) (c : Call)
    → TellsHistory (history_of first earlier calls failed events failing backwards) readable calls failed faults earlier settled starts → request_of c ≡ asked a → calls' ≡ calls ++ c ∷ [] → failed' ≡ failed ++ (failing == 1) ∷ [] → events' ≡ events ++ event a (failing == 1) ∷ [] → readable' ≡ redone (event a (failing == 1)) readable → failing' ≡ failing - 1 → faults' ≡ faults + (if failing == 1 then 1 else 0)
    → settled' ≡ settled_after a (failing == 1) starts settled (length events) → starts' ≡ starts_after a (failing == 1) starts (length events)
    → TellsHistory (history_of first earlier calls' failed' events' failing' backwards) readable' calls' failed' faults' earlier settled' starts'
kept_next first readable readable' calls calls' failed failed' events events' earlier settled settled' faults faults' failing failing' backwards starts starts' a c k same ec ef ee er en eu es et =
    rw (ec, ef, ee, er, en, eu, es, et, history_more first earlier calls failed events failing backwards a c k.before k.outcomes)
    (kept_more (history_of first earlier calls failed events failing backwards) a readable calls failed faults earlier settled starts c k same)
