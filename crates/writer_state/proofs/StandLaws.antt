-- A wait for a started sync where the writer may be gone.
use Rattle.std.proofs.Common.{◌≡◌, inl, inr, refl, ℕ, ◌+◌, ◌-◌, ◌≤◌, List, [], length, drop, slice_get, sym, ap, ◌∙◌, subst, arith, append-nil, Bool, true, false, Result, Ok, Err}
use Rattle.std.specs.Prelude.{Some, nat_lt, if◌then◌else◌}
use Rattle.std.proofs.lemmas.Bool.{cases_lt}
use Rattle.std.proofs.lemmas.Bool.Decides.{nat_tests}
use Rattle.std.proofs.lemmas.Option.{same_Some}
use Rattle.std.proofs.lemmas.List.{drop_all, nil_from_length}
use Rattle.disk.specs.Disk.{Disk, Life, Operation, HasOperated, Request, WaitSync, logged, settled_disk, coverings, disk_settled_to, failed_at, WriteGoes, SyncGoes, WaitGoes}
use Rattle.disk.specs.Disk.Operation.{Write}
use Rattle.disk.specs.Disk.Request.{WriteAt, SyncAll}
use Rattle.disk.specs.declared.error.Error.{Error}
use Rattle.disk.specs.declared.error.Error.TheVariants.{WriteFailed, SyncFailed, OffsetOverflow, OutOfMemory}
use Rattle.writer_state.specs.WriterState.{WriterState}
use Rattle.writer_state.specs.declared.sync_state.SyncState.{SyncState}
use Rattle.writer_state.specs.declared.sync_state.SyncState.TheVariants.{Clean, Dirty, Pending}
use Rattle.crash.specs.Kept.{AllKeep, AllOnly}
use Rattle.crash.specs.Started.{WouldKeep, StartsCanBeAwaited, AllSettled}
use Rattle.crash.specs.Contents.{latest}
use Rattle.writer_state.specs.Sound.{StartsFit, Consistency}
use Rattle.writer_state.proofs.FlushLaws.{all_settled_alike, starts_within, settled_starts}
use Rattle.writer_state.proofs.Soundness.{alike_consistent}
use Rattle.crash.proofs.Disks.{image_alike, image_covered}
use Rattle.crash.proofs.DistinctLaws.{vouched_alike, vouched_at_rest}
use Rattle.crash.proofs.Moments.{keeps_alike, keeps_covered, chance_free_alike, chance_free_covered}
use Rattle.writer_state.proofs.StartedLaws.{alike_would, settled_already, covers_failed, covering_of}

-- where a writer is sound each started sync can be awaited
pub starts_stand : (d : Disk) (s : SyncState) → d.readable ≡ latest d.base d.since → StartsFit d s → StartsCanBeAwaited d
starts_stand d Clean done starts name c is = inl (starts name c is)
starts_stand d Dirty done starts name c is = inl (starts name c is)
starts_stand d (Pending pending) done starts name c is = elim (starts.others name c is) [
  | inl settled ↦ inl settled
  | inr same ↦
      let here : starts.covers ≡ c = same_Some starts.covers c (sym starts.named ∙ ap (λ (n : ℕ). slice_get (coverings d) n) (sym same) ∙ is) in
      inr (omega (arith, starts.all, ap (λ (x : ℕ × List ℕ). x.0) here), sym (ap (λ (x : ℕ × List ℕ). x.1) here) ∙ starts.bytes ∙ done)
]

-- where each started sync is settled it can be awaited, also after a write that failed
pub all_settled_stand : (d : Disk) → AllSettled d → StartsCanBeAwaited d
all_settled_stand d all name c is = inl (all name c is)

pub consistent_stands : (sum : List ℕ → ℕ) (w : WriterState) (d : Disk) → Consistency sum w d → StartsCanBeAwaited d
consistent_stands sum w d sound = starts_stand d w.sync sound.stands.done sound.stands.starts

-- after a write each started sync can be awaited, whatever the device answers
pub write_stands : (offset : ℕ) (bytes : List ℕ) (sync : Bool) (old new : Life) (answer : Result (Unit {0}) Error) → AllSettled old.present → WriteGoes offset bytes sync old new answer → StartsCanBeAwaited new.present
write_stands offset bytes sync old new answer settled goes = by_answer sync answer goes
  where
    done : (request : Request) (failed : Bool) (d : Disk) → HasOperated (Write offset bytes) request failed old.present d → AllSettled d
    done request failed d operated = all_settled_alike old.present d (ap (λ (x : Disk). coverings x) operated.rest) (ap (λ (x : Disk). x.settled) operated.rest) settled

    at : (d : Disk) → new.present ≡ d → AllSettled d → StartsCanBeAwaited new.present
    at d is all = subst (λ (x : Disk). StartsCanBeAwaited x) (sym is) (all_settled_stand d all)

    same : new ≡ old → StartsCanBeAwaited new.present
    same is = at old.present (ap (λ (l : Life). l.present) is) settled

    by_answer : (sync : Bool) (answer : Result (Unit {0}) Error) → WriteGoes offset bytes sync old new answer → StartsCanBeAwaited new.present
    by_answer true (Ok u) (d, goes, operated) =
        let still : AllSettled d = done (WriteAt offset (length bytes) true) false d operated in
        at (settled_disk d) (ap (λ (l : Life). l.present) goes) (λ name c named. omega (arith, still name c named))
    by_answer true (Err WriteFailed) (d, goes, operated) = at d (ap (λ (l : Life). l.present) goes) (done (WriteAt offset (length bytes) true) true d operated)
    by_answer true (Err OffsetOverflow) (is, passes) = same is
    by_answer true (Err OutOfMemory) (is, has) = same is
    by_answer true (Err e) goes = absurd goes
    by_answer false (Ok u) (d, goes, operated) = at d (ap (λ (l : Life). l.present) goes) (done (WriteAt offset (length bytes) false) false d operated)
    by_answer false (Err OffsetOverflow) (is, passes) = same is
    by_answer false (Err OutOfMemory) (is, has) = same is
    by_answer false (Err e) (fault, (d, goes, operated)) = at d (ap (λ (l : Life). l.present) goes) (done (WriteAt offset (length bytes) false) true d operated)

-- after a sync each started sync can be awaited, whatever the device answers
pub sync_stands : (sum : List ℕ → ℕ) (w : WriterState) (old new : Life) (answer : Result (Unit {0}) Error) → Consistency sum w old.present → SyncGoes old new answer → StartsCanBeAwaited new.present
sync_stands sum w old new (Ok u) sound is =
    let e = settled_disk (logged SyncAll false old.present) in
    subst (λ (x : Disk). StartsCanBeAwaited x) (sym (ap (λ (l : Life). l.present) is)) (all_settled_stand e (settled_starts old.present e (starts_within old.present w.sync sound.stands.starts) refl refl))
sync_stands sum w old new (Err SyncFailed) sound is =
    let e = logged SyncAll true old.present in
    subst (λ (x : Disk). StartsCanBeAwaited x) (sym (ap (λ (l : Life). l.present) is)) (consistent_stands sum w e (alike_consistent sum w old.present e sound refl refl refl refl refl))
sync_stands sum w old new (Err OutOfMemory) sound is = subst (λ (l : Life). StartsCanBeAwaited l.present) (sym is) (consistent_stands sum w old.present sound)
sync_stands sum w old new (Err e) sound goes = absurd goes

-- what a wait keeps: floors, what started syncs cover, and the content
pub record WaitKeeps (sum : List ℕ → ℕ) (P : ℕ) (d e : Disk) : Type 0 where
  pub keeps : (content : List ℕ) (floor : ℕ) → AllKeep sum P content floor d → AllKeep sum P content floor e
  pub only : (before after : List ℕ) → AllOnly sum P before after d → AllOnly sum P before after e
  pub covers : (content : List ℕ) (name cover : ℕ) → WouldKeep sum P content name cover d → WouldKeep sum P content name cover e
  pub starts : StartsCanBeAwaited e

-- a wait that changes nothing but the log, or marks a sync as failed, keeps all that
alike_keeps : (sum : List ℕ → ℕ) (P : ℕ) (d e : Disk) → StartsCanBeAwaited d → e.base ≡ d.base → e.since ≡ d.since → e.settled ≡ d.settled → coverings e ≡ coverings d → WaitKeeps sum P d e
alike_keeps sum P d e stand base since settled covers = record {
  keeps = λ content floor keeps. keeps_alike sum P content floor d e base since keeps;
  only = λ before after only. record { only = λ image is_image free. only.only image (image_alike d e image base since is_image) (chance_free_alike sum P d e image base since free); vouched = vouched_alike sum P d e base since only.vouched };
  covers = λ content name cover would. alike_would sum P content d e base since settled covers name cover would;
  starts = λ name c is. elim (stand name c (ap (λ (cs : List (ℕ × List ℕ)). slice_get cs name) (sym covers) ∙ is)) [
    | inl done ↦ inl (omega (arith, done, settled))
    | inr all ↦ inr (omega (arith, all.0, settled, ap length since), all.1 ∙ sym (cc (base, since)))
  ];
}

-- all is settled, with the last whole state as the base
record IsSettledTo (d e : Disk) : Type 0 where
  base : e.base ≡ latest d.base d.since
  since : e.since ≡ []
  settled : e.settled ≡ d.settled + length d.since
  covers : coverings e ≡ coverings d

settles_latest : (c : ℕ × List ℕ) (d : Disk) → c.0 ≡ d.settled + length d.since → c.1 ≡ latest d.base d.since → IsSettledTo d (disk_settled_to c d)
settles_latest c d all bytes = elim (cases_lt d.settled c.0) [
  | inl more ↦
      let yes : nat_lt d.settled c.0 ≡ true = grind (arith, nat_tests) in
      let is : disk_settled_to c d ≡ record d { base = c.1; since = drop (c.0 - d.settled) d.since; settled = c.0 } =
      ap (λ (b : Bool). if b then record d { base = c.1; since = drop (c.0 - d.settled) d.since; settled = c.0 } else d) yes in
      record {
        base = ap (λ (x : Disk). x.base) is ∙ bytes;
        since = ap (λ (x : Disk). x.since) is ∙ drop_all (c.0 - d.settled) d.since (omega (arith, all));
        settled = ap (λ (x : Disk). x.settled) is ∙ all;
        covers = ap (λ (x : Disk). coverings x) is;
      }
  | inr none ↦
      let is : disk_settled_to c d ≡ d = settled_already c d none in
      let nothing : d.since ≡ [] = nil_from_length d.since (omega (arith, none, all)) in
      record {
        base = ap (λ (x : Disk). x.base) is ∙ sym (ap (λ (os : List Operation). latest d.base os) nothing);
        since = ap (λ (x : Disk). x.since) is ∙ nothing;
        settled = ap (λ (x : Disk). x.settled) is ∙ (let e : d.settled ≡ d.settled + length d.since = omega (arith, ap length nothing) in e);
        covers = ap (λ (x : Disk). coverings x) is;
      }
]

settled_keeps_all : (sum : List ℕ → ℕ) (P : ℕ) (d e : Disk) → StartsCanBeAwaited d → IsSettledTo d e → WaitKeeps sum P d e
settled_keeps_all sum P d e stand to = record {
  keeps = keeps_floor;
  only = λ before after only. record {
    only = λ image is_image free.
        only.only image (image_covered d e d.since [] (sym (append-nil d.since)) to.base to.since image is_image) (chance_free_covered sum P d e d.since [] image (sym (append-nil d.since)) to.base to.since free);
    vouched = vouched_at_rest sum P e to.since;
  };
  covers = λ content name cover would.
      let named : slice_get (coverings e) name ≡ Some would.covers = ap (λ (cs : List (ℕ × List ℕ)). slice_get cs name) to.covers ∙ would.named in
      let at_e : AllKeep sum P content cover e = elim (stand name would.covers would.named) [
        | inl done ↦ keeps_floor content cover (subst (λ (x : Disk). AllKeep sum P content cover x) (settled_already would.covers d done) would.keeps)
        | inr all ↦
            let same = settles_latest would.covers d all.0 all.1 in
            keeps_alike sum P content cover (disk_settled_to would.covers d) e (to.base ∙ sym same.base) (to.since ∙ sym same.since) would.keeps
      ] in
      record { covers = would.covers; named = named; keeps = subst (λ (x : Disk). AllKeep sum P content cover x) (sym (settled_already would.covers e (settled_at name would.covers would.named))) at_e };
  starts = λ name c is. inl (settled_at name c (ap (λ (cs : List (ℕ × List ℕ)). slice_get cs name) (sym to.covers) ∙ is));
}
  where
    keeps_floor : (content : List ℕ) (floor : ℕ) → AllKeep sum P content floor d → AllKeep sum P content floor e
    keeps_floor content floor keeps = keeps_covered sum P content floor d e d.since [] (sym (append-nil d.since)) to.base to.since keeps

    settled_at : (name : ℕ) (c : ℕ × List ℕ) → slice_get (coverings d) name ≡ Some c → c.0 ≤ e.settled
    settled_at name c is = elim (stand name c is) [ inl done ↦ omega (arith, done, to.settled) | inr all ↦ omega (arith, all.0, to.settled) ]

-- a wait for any started sync, whatever it answers, keeps each floor, each cover and each content
pub wait_keeps : (sum : List ℕ → ℕ) (P : ℕ) (name : ℕ) (old new : Life) (answer : Result (Unit {0}) Error)
    → StartsCanBeAwaited old.present → WaitGoes name old new answer → WaitKeeps sum P old.present new.present
wait_keeps sum P name old new (Ok u) stand (s, named, well, is) =
    let d = old.present in
    let c : ℕ × List ℕ = (s.covers, s.bytes) in
    let at : new.present ≡ logged (WaitSync name) false (disk_settled_to c d) = ap (λ (life : Life). life.present) is in
    elim (stand name c (covering_of name d s named)) [
      | inl done ↦
          let was : new.present ≡ logged (WaitSync name) false d = at ∙ ap (λ (x : Disk). logged (WaitSync name) false x) (settled_already c d done) in
          let base = ap (λ (x : Disk). x.base) was in
          let since = ap (λ (x : Disk). x.since) was in
          let settled = ap (λ (x : Disk). x.settled) was in
          let covers = ap (λ (x : Disk). coverings x) was in
          alike_keeps sum P d new.present stand base since settled covers
      | inr all ↦
          let to = settles_latest c d all.0 all.1 in
          settled_keeps_all sum P d new.present stand (record {
            base = ap (λ (x : Disk). x.base) at ∙ to.base;
            since = ap (λ (x : Disk). x.since) at ∙ to.since;
            settled = ap (λ (x : Disk). x.settled) at ∙ to.settled;
            covers = ap (λ (x : Disk). coverings x) at ∙ to.covers;
          })
    ]
wait_keeps sum P name old new (Err SyncFailed) stand (failed, why, is) =
    let d = old.present in
    let was : new.present ≡ logged (WaitSync name) failed (record d { started = failed_at name d.started }) = ap (λ (life : Life). life.present) is in
    let base = ap (λ (x : Disk). x.base) was in
    let since = ap (λ (x : Disk). x.since) was in
    let settled = ap (λ (x : Disk). x.settled) was in
    let covers : coverings new.present ≡ coverings d = ap (λ (x : Disk). coverings x) was ∙ covers_failed name d.started in
    alike_keeps sum P d new.present stand base since settled covers
wait_keeps sum P name old new (Err OutOfMemory) stand is =
    let was : new.present ≡ old.present = ap (λ (life : Life). life.present) is in
    let base = ap (λ (x : Disk). x.base) was in
    let since = ap (λ (x : Disk). x.since) was in
    let settled = ap (λ (x : Disk). x.settled) was in
    let covers = ap (λ (x : Disk). coverings x) was in
    alike_keeps sum P old.present new.present stand base since settled covers
wait_keeps sum P name old new (Err e) stand goes = absurd goes
