-- Started syncs: starting one, waiting for one, and what each covers.
use Rattle.std.proofs.Common.{◌≡◌, inl, inr, ◌⊎◌, ℕ, zero, suc, ◌+◌, ◌-◌, ◌<◌, ◌≤◌, List, [], ◌∷◌, ◌++◌, length, drop, slice_get, map, refl, sym, ap, ◌∙◌, subst, arith, Bool, true, false, Result, Ok, Err}
use Rattle.std.specs.Prelude.{Option, Some, nat_lt, if◌then◌else◌, option_map}
use Rattle.std.proofs.lemmas.Bool.{cases_lt}
use Rattle.std.proofs.lemmas.Bool.Decides.{nat_tests}
use Rattle.std.proofs.lemmas.Option.{same_Some, slice_get-map, slice_get_within}
use Rattle.std.proofs.lemmas.List.{drop_all, map-append, length-map, nil_from_length}
use Rattle.disk.specs.Disk.{Disk, Life, Started, Operation, WaitSync, next, logged, coverings, disk_settled_to, starts, failed_at, WaitGoes, AreCovered}
use Rattle.disk.specs.declared.error.Error.{Error}
use Rattle.disk.specs.declared.error.Error.TheVariants.{SyncFailed, OutOfMemory}
use Rattle.writer_state.specs.WriterState.{WriterState}
use Rattle.writer_state.specs.declared.sync_state.SyncState.{SyncState}
use Rattle.writer_state.specs.declared.sync_state.SyncState.TheVariants.{Clean, Dirty, Pending}
use Rattle.crash.specs.Kept.{AllKeep}
use Rattle.crash.specs.Stays.{Stays, StaysThrough}
use Rattle.crash.specs.Started.{WouldKeep, CoversStay, AllSettled}
use Rattle.crash.specs.Contents.{latest}
use Rattle.writer_state.specs.Sound.{content, IsIntact, IsPending, StartsFit, Consistency}
use Rattle.crash.proofs.BuiltLaws.{IsSmall}
use Rattle.disk.specs.Disk.Operation.{Write}
use Rattle.disk.proofs.Lists.{joined_element}
use Rattle.crash.specs.Built.{kept_len}
use Rattle.crash.proofs.Lists.{slice_get-append_left, slice_get-append_right}
use Rattle.writer_state.proofs.FlushLaws.{starts_within, settled_starts}
use Rattle.crash.specs.Moments.{through_more}
use Rattle.crash.proofs.Moments.{stays_through_start, keeps_alike}
use Rattle.writer_state.proofs.Soundness.{same_bytes_consistent, alike_consistent, alike_stays, settle_consistent, settle_stays, settle_keeps, intact_still}

-- ---- what is settled

-- a sync whose operations are settled settles nothing more
pub settled_already : (c : ℕ × List ℕ) (d : Disk) → c.0 ≤ d.settled → disk_settled_to c d ≡ d
settled_already c d done = let no : nat_lt d.settled c.0 ≡ false = grind (arith, nat_tests) in ap (λ (b : Bool). if b then record d { base = c.1; since = drop (c.0 - d.settled) d.since; settled = c.0 } else d) no

-- settling a sync leaves what is readable, the log and the list of started syncs
pub settles_same : (c : ℕ × List ℕ) (d : Disk) → ((disk_settled_to c d).readable ≡ d.readable) × ((disk_settled_to c d).log ≡ d.log) × ((disk_settled_to c d).started ≡ d.started)
settles_same c d = by_test (nat_lt d.settled c.0)
  where
    To : Bool → Disk
    To test = if test then record d { base = c.1; since = drop (c.0 - d.settled) d.since; settled = c.0 } else d

    by_test : (test : Bool) → ((To test).readable ≡ d.readable) × ((To test).log ≡ d.log) × ((To test).started ≡ d.started)
    by_test true = (refl, refl, refl)
    by_test false = (refl, refl, refl)

-- a disk once a sync is settled that covers all that wasn't
pub record IsSettledAll (d e : Disk) : Type 0 where
  pub readable : e.readable ≡ d.readable
  pub base : e.base ≡ d.readable
  pub since : e.since ≡ []
  pub settled : e.settled ≡ d.settled + length d.since
  pub covers : coverings e ≡ coverings d

pub settles_all : (c : ℕ × List ℕ) (d : Disk) → d.readable ≡ latest d.base d.since → c.0 ≡ d.settled + length d.since → c.1 ≡ d.readable → IsSettledAll d (disk_settled_to c d)
settles_all c d done all bytes = elim (cases_lt d.settled c.0) [
  | inl more ↦
      let yes : nat_lt d.settled c.0 ≡ true = grind (arith, nat_tests) in
      let is : disk_settled_to c d ≡ record d { base = c.1; since = drop (c.0 - d.settled) d.since; settled = c.0 } =
      ap (λ (b : Bool). if b then record d { base = c.1; since = drop (c.0 - d.settled) d.since; settled = c.0 } else d) yes in
      record {
        readable = ap (λ (x : Disk). x.readable) is;
        base = ap (λ (x : Disk). x.base) is ∙ bytes;
        since = ap (λ (x : Disk). x.since) is ∙ drop_all (c.0 - d.settled) d.since (omega (arith, all));
        settled = ap (λ (x : Disk). x.settled) is ∙ all;
        covers = ap (λ (x : Disk). coverings x) is;
      }
  | inr none ↦
      let is : disk_settled_to c d ≡ d = settled_already c d none in
      let nothing : d.since ≡ [] = nil_from_length d.since (omega (arith, none, all)) in
      record {
        readable = ap (λ (x : Disk). x.readable) is;
        base = ap (λ (x : Disk). x.base) is ∙ sym (done ∙ ap (λ (os : List Operation). latest d.base os) nothing);
        since = ap (λ (x : Disk). x.since) is ∙ nothing;
        settled = ap (λ (x : Disk). x.settled) is ∙ (let e : d.settled ≡ d.settled + length d.since = omega (arith, ap length nothing) in e);
        covers = ap (λ (x : Disk). coverings x) is;
      }
]

-- marking a sync as failed changes nothing of what it covers
abbrev pub covering : Started → ℕ × List ℕ
covering s = (s.covers, s.bytes)

pub covers_failed : (name : ℕ) (ss : List Started) → map covering (failed_at name ss) ≡ map covering ss
covers_failed name [] = refl
covers_failed zero (s ∷ ss) = refl
covers_failed (suc name) (s ∷ ss) = ap (λ (cs : List (ℕ × List ℕ)). (s.covers, s.bytes) ∷ cs) (covers_failed name ss)

-- what a started sync covers, by its name
pub covering_of : (name : ℕ) (d : Disk) (s : Started) → slice_get d.started name ≡ Some s → slice_get (coverings d) name ≡ Some (s.covers, s.bytes)
covering_of name d s is = slice_get-map covering d.started name ∙ ap (λ (o : Option Started). option_map covering o) is

-- ---- starting a sync

module _ (sum : List ℕ → ℕ) (w : WriterState) (d : Disk) (failed : Bool) (sound : Consistency sum w d) (settled : AllSettled d) where
  covers_more : coverings (starts failed d) ≡ coverings d ++ (d.settled + length d.since, d.readable) ∷ []
  covers_more = map-append covering d.started (record { covers = d.settled + length d.since; bytes = d.readable; failed = failed } ∷ [])

  -- the new sync is the last of the started ones
  last_covers : slice_get (coverings (starts failed d)) (length d.started) ≡ Some (d.settled + length d.since, d.readable)
  last_covers =
      let size : length (coverings d) ≡ length d.started = length-map d.started covering in
      ap (λ (cs : List (ℕ × List ℕ)). slice_get cs (length d.started)) covers_more
      ∙ slice_get-append_right (coverings d) ((d.settled + length d.since, d.readable) ∷ []) (length d.started) (omega (arith, size))
      ∙ ap (λ (n : ℕ). slice_get ((d.settled + length d.since, d.readable) ∷ []) n) (let e : length d.started - length (coverings d) ≡ 0 = omega (arith, size) in e)

  is_pending : IsPending (length d.started) (starts failed d)
  is_pending = record {
    covers = (d.settled + length d.since, d.readable);
    named = last_covers;
    all = refl;
    bytes = refl;
    others = λ other c is. elim (joined_element (coverings d) ((d.settled + length d.since, d.readable) ∷ []) other c (ap (λ (cs : List (ℕ × List ℕ)). slice_get cs other) (sym covers_more) ∙ is)) [
      | inl before ↦ inl (settled other c before)
      | inr new ↦ inr (omega (arith, new.1, length-map d.started covering, slice_get_within ((d.settled + length d.since, d.readable) ∷ []) new.0 c new.2))
    ];
  }

  -- after a start of a sync the writer is consistent, and pending
  pub start_consistent : Consistency sum (record w { sync = Pending (length d.started) }) (starts failed d)
  start_consistent = same_bytes_consistent sum w d (starts failed d) sound refl (Pending (length d.started)) refl refl tt is_pending (λ tip is. tt)

-- ---- waiting for a started sync, by the writer or by somebody else

-- what a wait for a sync leaves, where it is done
module _ (sum : List ℕ → ℕ) (w : WriterState) (d : Disk) (sound : Consistency sum w d) where
  within : AreCovered d
  within = starts_within d w.sync sound.stands.starts

  -- a wait for the pending sync
  module _ (name : ℕ) (pending : IsPending name d) (e : Disk) (is : e ≡ logged (WaitSync name) false (disk_settled_to pending.covers d)) where
    all_settled : IsSettledAll d e
    all_settled =
        let s = settles_all pending.covers d sound.stands.done pending.all pending.bytes in
        record {
          readable = ap (λ (x : Disk). x.readable) is ∙ s.readable;
          base = ap (λ (x : Disk). x.base) is ∙ s.base;
          since = ap (λ (x : Disk). x.since) is ∙ s.since;
          settled = ap (λ (x : Disk). x.settled) is ∙ s.settled;
          covers = ap (λ (x : Disk). coverings x) is ∙ s.covers;
        }

    -- leaves a clean, consistent writer, where the writer waited
    pub waited_clean : IsSmall sum → Consistency sum (record w { sync = Clean }) e
    waited_clean small = settle_consistent sum w d e sound all_settled.readable Clean small all_settled.base all_settled.since (settled_starts d e within all_settled.covers all_settled.settled) refl

    -- leaves a consistent writer that is still pending, where somebody else waited
    pub waited_after : w.sync ≡ Pending name → IsSmall sum → Consistency sum w e
    waited_after state small =
        subst (λ (s : SyncState). Consistency sum (record w { sync = s }) e) (sym state)
        (settle_consistent sum w d e sound all_settled.readable (Pending name) small all_settled.base all_settled.since (record {
          covers = pending.covers;
          named = ap (λ (cs : List (ℕ × List ℕ)). slice_get cs name) all_settled.covers ∙ pending.named;
          all = omega (arith, pending.all, all_settled.settled, ap length all_settled.since);
          bytes = pending.bytes ∙ sym all_settled.readable;
          others = λ other c there. inl (settled_starts d e within all_settled.covers all_settled.settled other c there);
        }) tt)

    pub waited_stays : Stays sum w.page_size (content w d.readable) d e
    waited_stays = settle_stays sum w d e sound all_settled.readable all_settled.base all_settled.since

  -- a wait for a sync that was settled before leaves the writer as it was
  module _ (name : ℕ) (failed : Bool) (c : ℕ × List ℕ) (settled : c.0 ≤ d.settled) (e : Disk) (is : e ≡ logged (WaitSync name) failed (disk_settled_to c d)) where
    was : e ≡ logged (WaitSync name) failed d
    was = is ∙ ap (λ (x : Disk). logged (WaitSync name) failed x) (settled_already c d settled)

    pub again_consistent : Consistency sum w e
    again_consistent = alike_consistent sum w d e sound (ap (λ (x : Disk). x.readable) was) (ap (λ (x : Disk). x.base) was) (ap (λ (x : Disk). x.since) was) (ap (λ (x : Disk). coverings x) was) (ap (λ (x : Disk). x.settled) was)

    pub again_stays : Stays sum w.page_size (content w d.readable) d e
    again_stays = alike_stays sum w d e sound (ap (λ (x : Disk). x.readable) was) (ap (λ (x : Disk). x.base) was) (ap (λ (x : Disk). x.since) was)

-- a started sync is settled, or is the pending one
pub which : (d : Disk) (s : SyncState) (name : ℕ) (c : ℕ × List ℕ) → StartsFit d s → slice_get (coverings d) name ≡ Some c
    → (c.0 ≤ d.settled) ⊎ ((p : IsPending name d) × (s ≡ Pending name) × (p.covers ≡ c))
which d Clean name c starts is = inl (starts name c is)
which d Dirty name c starts is = inl (starts name c is)
which d (Pending pending) name c starts is = elim (starts.others name c is) [
  | inl done ↦ inl done
  | inr same ↦
      let here : IsPending name d = subst (λ (n : ℕ). IsPending n d) (sym same) starts in
      inr (here, ap (λ (n : ℕ). Pending n) (sym same), same_Some here.covers c (sym here.named ∙ is))
]

-- a wait for any started sync, by anybody, leaves the writer consistent, and `Stays` holds at each
-- of its moments
module _ (sum : List ℕ → ℕ) (w : WriterState) (old new : Life) (name : ℕ) (small : IsSmall sum) (sound : Consistency sum w old.present) where
  abbrev IsLeft : Type 0
  IsLeft = Consistency sum w new.present × StaysThrough sum w.page_size (content w old.present.readable) old new

  one_moment : (e : Disk) → new ≡ next old e → Consistency sum w e → Stays sum w.page_size (content w old.present.readable) old.present e → IsLeft
  one_moment e is here stays = (
    subst (λ (life : Life). Consistency sum w life.present) (sym is) here,
    subst (λ (life : Life). StaysThrough sum w.page_size (content w old.present.readable) old life) (sym is)
        (through_more (Stays sum w.page_size (content w old.present.readable) old.present) old old e (stays_through_start sum w.page_size (content w old.present.readable) old sound.truthful sound.vouched) stays),
  )

  pub wait_leaves : (answer : Result (Unit {0}) Error) → WaitGoes name old new answer → IsLeft
  wait_leaves (Ok u) (s, named, well, is) =
      let d = old.present in
      let c : ℕ × List ℕ = (s.covers, s.bytes) in
      let e = logged (WaitSync name) false (disk_settled_to c d) in
      elim (which d w.sync name c sound.stands.starts (covering_of name d s named)) [
        | inl done ↦ one_moment e is (again_consistent sum w d sound name false c done e refl) (again_stays sum w d sound name false c done e refl)
        | inr (p, state, same) ↦
            let e_is : e ≡ logged (WaitSync name) false (disk_settled_to p.covers d) = ap (λ (x : ℕ × List ℕ). logged (WaitSync name) false (disk_settled_to x d)) (sym same) in
            one_moment e is (waited_after sum w d sound name p e e_is state small) (waited_stays sum w d sound name p e e_is)
      ]
  wait_leaves (Err SyncFailed) (failed, why, is) =
      let d = old.present in
      let e = logged (WaitSync name) failed (record d { started = failed_at name d.started }) in
      one_moment e is (alike_consistent sum w d e sound refl refl refl (covers_failed name d.started) refl) (alike_stays sum w d e sound refl refl refl)
  wait_leaves (Err OutOfMemory) is = (
    subst (λ (life : Life). Consistency sum w life.present) (sym is) sound,
    subst (λ (life : Life). StaysThrough sum w.page_size (content w old.present.readable) old life) (sym is) (stays_through_start sum w.page_size (content w old.present.readable) old sound.truthful sound.vouched),
  )
  wait_leaves (Err e) goes = absurd goes

  -- where the writer waits, it is clean after the wait
  pub wait_consistent : (u : Unit {0}) → w.sync ≡ Pending name → WaitGoes name old new (Ok u) → Consistency sum (record w { sync = Clean }) new.present
  wait_consistent u state (s, named, well, is) =
      let d = old.present in
      let p : IsPending name d = subst (λ (s : SyncState). StartsFit d s) state sound.stands.starts in
      let same : p.covers ≡ (s.covers, s.bytes) = same_Some p.covers (s.covers, s.bytes) (sym p.named ∙ covering_of name d s named) in
      let e_is : new.present ≡ logged (WaitSync name) false (disk_settled_to p.covers d) = ap (λ (life : Life). life.present) is ∙ ap (λ (x : ℕ × List ℕ). logged (WaitSync name) false (disk_settled_to x d)) (sym same) in
      waited_clean sum w d sound name p new.present e_is small

-- ---- what a started sync covers

module _ (sum : List ℕ → ℕ) (P : ℕ) (content : List ℕ) where
  -- what a sync that is settled would keep, every image keeps
  pub settled_keeps : (name cover : ℕ) (d : Disk) → AllSettled d → WouldKeep sum P content name cover d → AllKeep sum P content cover d
  settled_keeps name cover d all would = subst (λ (x : Disk). AllKeep sum P content cover x) (settled_already would.covers d (all name would.covers would.named)) would.keeps

  pub keeps_settled : (name cover : ℕ) (d : Disk) (c : ℕ × List ℕ) → AllSettled d → slice_get (coverings d) name ≡ Some c → AllKeep sum P content cover d → WouldKeep sum P content name cover d
  keeps_settled name cover d c all named keeps = record { covers = c; named = named; keeps = subst (λ (x : Disk). AllKeep sum P content cover x) (sym (settled_already c d (all name c named))) keeps }

  -- so a write leaves what each started sync would keep, since it comes where all are settled
  pub write_covers : (d e : Disk) → coverings e ≡ coverings d → AllSettled d → AllSettled e → Stays sum P content d e → CoversStay sum P content d e
  write_covers d e covers before after stays name cover enough would =
      keeps_settled name cover e would.covers after (ap (λ (cs : List (ℕ × List ℕ)). slice_get cs name) covers ∙ would.named)
      (stays.kept cover enough (settled_keeps name cover d before would))

  -- what a started sync would keep depends on the base, the operations and the started syncs alone
  pub alike_would : (d e : Disk) → e.base ≡ d.base → e.since ≡ d.since → e.settled ≡ d.settled → coverings e ≡ coverings d → (name cover : ℕ) → WouldKeep sum P content name cover d → WouldKeep sum P content name cover e
  alike_would d e base since settled covers name cover would =
      let c = would.covers in
      let same : ((disk_settled_to c e).base ≡ (disk_settled_to c d).base) × ((disk_settled_to c e).since ≡ (disk_settled_to c d).since) = elim (cases_lt d.settled c.0) [
        | inl more ↦
            let yes : nat_lt d.settled c.0 ≡ true = grind (arith, nat_tests) in
            let yes_e : nat_lt e.settled c.0 ≡ true = ap (λ (n : ℕ). nat_lt n c.0) settled ∙ yes in
            let is_d : disk_settled_to c d ≡ record d { base = c.1; since = drop (c.0 - d.settled) d.since; settled = c.0 } =
            ap (λ (b : Bool). if b then record d { base = c.1; since = drop (c.0 - d.settled) d.since; settled = c.0 } else d) yes in
            let is_e : disk_settled_to c e ≡ record e { base = c.1; since = drop (c.0 - e.settled) e.since; settled = c.0 } =
            ap (λ (b : Bool). if b then record e { base = c.1; since = drop (c.0 - e.settled) e.since; settled = c.0 } else e) yes_e in (
              ap (λ (x : Disk). x.base) is_e ∙ sym (ap (λ (x : Disk). x.base) is_d),
              ap (λ (x : Disk). x.since) is_e ∙ ap (λ (n : ℕ). drop (c.0 - n) e.since) settled ∙ ap (λ (os : List Operation). drop (c.0 - d.settled) os) since ∙ sym (ap (λ (x : Disk). x.since) is_d),
            )
        | inr none ↦
            let is_d = settled_already c d none in
            let is_e = settled_already c e (omega (arith, none, settled)) in
            (ap (λ (x : Disk). x.base) is_e ∙ base ∙ sym (ap (λ (x : Disk). x.base) is_d), ap (λ (x : Disk). x.since) is_e ∙ since ∙ sym (ap (λ (x : Disk). x.since) is_d))
      ] in
      record {
        covers = c;
        named = ap (λ (cs : List (ℕ × List ℕ)). slice_get cs name) covers ∙ would.named;
        keeps = keeps_alike sum P content cover (disk_settled_to c d) (disk_settled_to c e) same.0 same.1 would.keeps;
      }

  pub alike_covers : (d e : Disk) → e.base ≡ d.base → e.since ≡ d.since → e.settled ≡ d.settled → coverings e ≡ coverings d → CoversStay sum P content d e
  alike_covers d e base since settled covers name cover enough would = alike_would d e base since settled covers name cover would

-- what a started sync would keep is kept after a wait for it that answers Ok
pub waited_keeps : (sum : List ℕ → ℕ) (P : ℕ) (content : List ℕ) (name cover : ℕ) (old new : Life) (u : Unit {0}) → WouldKeep sum P content name cover old.present → WaitGoes name old new (Ok u) → AllKeep sum P content cover new.present
waited_keeps sum P content name cover old new u would (s, named, well, is) =
    let same : would.covers ≡ (s.covers, s.bytes) = same_Some would.covers (s.covers, s.bytes) (sym would.named ∙ covering_of name old.present s named) in
    let e_is : new.present ≡ logged (WaitSync name) false (disk_settled_to would.covers old.present) = ap (λ (life : Life). life.present) is ∙ ap (λ (x : ℕ × List ℕ). logged (WaitSync name) false (disk_settled_to x old.present)) (sym same) in
    keeps_alike sum P content cover (disk_settled_to would.covers old.present) new.present (ap (λ (x : Disk). x.base) e_is) (ap (λ (x : Disk). x.since) e_is) would.keeps

module _ (sum : List ℕ → ℕ) (w : WriterState) (d : Disk) (sound : Consistency sum w d) where
  -- a sync, or a wait for the pending sync, leaves what each started sync would keep
  pub settle_covers : (e : Disk) → IsSettledAll d e → CoversStay sum w.page_size (content w d.readable) d e
  settle_covers e is name cover enough would =
      let all_e : AllSettled e = settled_starts d e (starts_within d w.sync sound.stands.starts) is.covers is.settled in
      let named_e : slice_get (coverings e) name ≡ Some would.covers = ap (λ (cs : List (ℕ × List ℕ)). slice_get cs name) is.covers ∙ would.named in
      keeps_settled sum w.page_size (content w d.readable) name cover e would.covers all_e named_e
      (elim (which d w.sync name would.covers sound.stands.starts would.named) [
        | inl done ↦
            (settle_stays sum w d e sound is.readable is.base is.since).kept cover enough (subst (λ (x : Disk). AllKeep sum w.page_size (content w d.readable) cover x) (settled_already would.covers d done) would.keeps)
        | inr (p, state, same) ↦
            let s = settles_all p.covers d sound.stands.done p.all p.bytes in
            let keeps : AllKeep sum w.page_size (content w d.readable) cover (disk_settled_to p.covers d) = subst (λ (c : ℕ × List ℕ). AllKeep sum w.page_size (content w d.readable) cover (disk_settled_to c d)) (sym same) would.keeps in
            keeps_alike sum w.page_size (content w d.readable) cover (disk_settled_to p.covers d) e (is.base ∙ sym s.base) (is.since ∙ sym s.since) keeps
      ])

  -- starting a sync leaves what the others would keep
  pub start_covers : (failed : Bool) → AllSettled d → CoversStay sum w.page_size (content w d.readable) d (starts failed d)
  start_covers failed all name cover enough would =
      let keeps = settled_keeps sum w.page_size (content w d.readable) name cover d all would in
      let before : name < length (coverings d) = slice_get_within (coverings d) name would.covers would.named in
      record {
        covers = would.covers;
        named = ap (λ (cs : List (ℕ × List ℕ)). slice_get cs name) (covers_more sum w d failed sound all) ∙ slice_get-append_left (coverings d) ((d.settled + length d.since, d.readable) ∷ []) name before ∙ would.named;
        keeps = subst (λ (x : Disk). AllKeep sum w.page_size (content w d.readable) cover x) (sym (settled_already would.covers (starts failed d) (all name would.covers would.named)))
            (keeps_alike sum w.page_size (content w d.readable) cover d (starts failed d) refl refl keeps);
      }

  -- where all that was appended is written, the new sync would keep all of it
  pub started_covers : (failed : Bool) → IsSmall sum → IsIntact sum w d → AllSettled d → kept_len w.flushed ≡ length w.tip
      → WouldKeep sum w.page_size (content w d.readable) (length d.started) (length (content w d.readable)) (starts failed d)
  started_covers failed small full all written =
      let c : ℕ × List ℕ = (d.settled + length d.since, d.readable) in
      let e = disk_settled_to c (starts failed d) in
      let s = settles_all c (starts failed d) sound.stands.done refl refl in
      let here : Consistency sum (record w { sync = Clean }) e =
      settle_consistent sum (record w { sync = Pending (length d.started) }) (starts failed d) e (start_consistent sum w d failed sound all) s.readable Clean small s.base s.since
      (settled_starts (starts failed d) e (starts_within (starts failed d) (Pending (length d.started)) (is_pending sum w d failed sound all)) s.covers s.settled) refl in
      let same : content w e.readable ≡ content w d.readable = ap (λ (l : List ℕ). content w l) s.readable in
      record {
        covers = c;
        named = last_covers sum w d failed sound all;
        keeps = subst (λ (l : List ℕ). AllKeep sum w.page_size l (length l) e) same (settle_keeps sum (record w { sync = Clean }) e here (intact_still sum w d e s.readable full) refl written);
      }

  -- where all that was appended is written, the pending sync would keep all of it
  pub pending_covers : (name : ℕ) → IsSmall sum → IsIntact sum w d → w.sync ≡ Pending name → kept_len w.flushed ≡ length w.tip → WouldKeep sum w.page_size (content w d.readable) name (length (content w d.readable)) d
  pending_covers name small full state written =
      let p : IsPending name d = subst (λ (s : SyncState). StartsFit d s) state sound.stands.starts in
      let e = disk_settled_to p.covers d in
      let s = settles_all p.covers d sound.stands.done p.all p.bytes in
      let here : Consistency sum (record w { sync = Clean }) e = settle_consistent sum w d e sound s.readable Clean small s.base s.since (settled_starts d e (starts_within d w.sync sound.stands.starts) s.covers s.settled) refl in
      let same : content w e.readable ≡ content w d.readable = ap (λ (l : List ℕ). content w l) s.readable in
      record {
        covers = p.covers;
        named = p.named;
        keeps = subst (λ (l : List ℕ). AllKeep sum w.page_size l (length l) e) same (settle_keeps sum (record w { sync = Clean }) e here (intact_still sum w d e s.readable full) refl written);
      }

  -- `Stays` holds after a start of a sync
  pub start_stays : (failed : Bool) → Stays sum w.page_size (content w d.readable) d (starts failed d)
  start_stays failed = alike_stays sum w d (starts failed d) sound refl refl refl

-- what a started sync would keep at one moment, and at the next, it would keep over both
pub covers_join : (sum : List ℕ → ℕ) (P : ℕ) (content : List ℕ) (c d e : Disk) → CoversStay sum P content c d → CoversStay sum P content d e → CoversStay sum P content c e
covers_join sum P content c d e first second name cover enough would = second name cover enough (first name cover enough would)

-- a wait leaves what each started sync would keep
module _ (sum : List ℕ → ℕ) (w : WriterState) (old new : Life) (name : ℕ) (sound : Consistency sum w old.present) where
  pub wait_covers : (answer : Result (Unit {0}) Error) → WaitGoes name old new answer → CoversStay sum w.page_size (content w old.present.readable) old.present new.present
  wait_covers (Ok u) (s, named, well, is) =
      let d = old.present in
      let c : ℕ × List ℕ = (s.covers, s.bytes) in
      let at : new.present ≡ logged (WaitSync name) false (disk_settled_to c d) = ap (λ (life : Life). life.present) is in
      elim (which d w.sync name c sound.stands.starts (covering_of name d s named)) [
        | inl done ↦
            let was : new.present ≡ logged (WaitSync name) false d = at ∙ ap (λ (x : Disk). logged (WaitSync name) false x) (settled_already c d done) in
            alike_covers sum w.page_size (content w d.readable) d new.present (ap (λ (x : Disk). x.base) was) (ap (λ (x : Disk). x.since) was) (ap (λ (x : Disk). x.settled) was) (ap (λ (x : Disk). coverings x) was)
        | inr (p, state, same) ↦
            settle_covers sum w d sound new.present (all_settled sum w d sound name p new.present (at ∙ ap (λ (x : ℕ × List ℕ). logged (WaitSync name) false (disk_settled_to x d)) (sym same)))
      ]
  wait_covers (Err SyncFailed) (failed, why, is) =
      let d = old.present in
      let was : new.present ≡ logged (WaitSync name) failed (record d { started = failed_at name d.started }) = ap (λ (life : Life). life.present) is in
      alike_covers sum w.page_size (content w d.readable) d new.present (ap (λ (x : Disk). x.base) was) (ap (λ (x : Disk). x.since) was) (ap (λ (x : Disk). x.settled) was)
      (ap (λ (x : Disk). coverings x) was ∙ covers_failed name d.started)
  wait_covers (Err OutOfMemory) is =
      subst (λ (life : Life). CoversStay sum w.page_size (content w old.present.readable) old.present life.present) (sym is) (λ other cover enough would. would)
  wait_covers (Err e) goes = absurd goes

-- ---- an example: "ab" is written after nothing, and a sync is started; the blob is 16 bytes, none durable

abbrev pub ab_page : List ℕ
ab_page = 97 ∷ 98 ∷ 0 ∷ 0 ∷ 0 ∷ 2 ∷ 0 ∷ 0 ∷ 0 ∷ 195 ∷ 0 ∷ 0 ∷ 0 ∷ 0 ∷ 0 ∷ 0 ∷ []

abbrev pub ab_written : Disk
ab_written = record { readable = ab_page; base = []; since = Write 0 ab_page ∷ []; settled = 0; started = []; log = [] }

abbrev pub ab_started : Disk
ab_started = starts false ab_written
