-- What started syncs cover stays covered at each moment of a call, whatever the device answers.
use Rattle.std.proofs.Common.{◌≡◌, ℕ, ◌+◌, ◌*◌, ◌≤◌, List, length, refl, sym, ap, subst, arith, take, length-take}
use Rattle.std.specs.Prelude.{Bool, true, false, Result, Ok, Err}
use Rattle.disk.specs.declared.error.Error.{Error}
use Rattle.disk.specs.declared.error.Error.TheVariants.{WriteFailed, SyncFailed, OffsetOverflow, OutOfMemory}
use Rattle.disk.specs.Disk.{Disk, Life, HasOperated, Request, next, settled_disk, logged, coverings, WriteGoes, SyncGoes, disk_settled_to}
use Rattle.disk.specs.Disk.Operation.{Write}
use Rattle.disk.specs.Disk.Request.{WriteAt, SyncAll}
use Rattle.writer_state.specs.WriterState.{WriterState}
use Rattle.crash.specs.Built.{built, written_pages}
use Rattle.crash.specs.Started.{WouldKeep, CoversStay, CoversThrough, AllSettled}
use Rattle.writer_state.specs.Sound.{content, MayFlush, Consistency, CanWrite}
use Rattle.crash.proofs.BuiltLaws.{IsSmall}
use Rattle.writer_state.proofs.FlushLaws.{all_settled_alike, flush_settled}
use Rattle.crash.specs.Moments.{through_start, through_more, through_joins, through_then, through_end}
use Rattle.crash.proofs.Moments.{keeps_longer, keeps_shorter}
use Rattle.writer_state.proofs.Soundness.{operated_stays, operated_settle_stays}
use Rattle.writer_state.proofs.StartedLaws.{write_covers, settle_covers, covers_join, alike_covers}

module _ (sum : List ℕ → ℕ) (P : ℕ) (content : List ℕ) (old : Life) where
  -- what a started sync would keep at a moment it would keep at that moment
  itself : CoversStay sum P content old.present old.present
  itself name cover enough would = would

  pub covers_none : (new : Life) → new ≡ old → CoversThrough sum P content old new
  covers_none new is = subst (λ (life : Life). CoversThrough sum P content old life) (sym is) (through_start (CoversStay sum P content old.present) old itself)

  pub covers_one : (new : Life) (d : Disk) → new ≡ next old d → CoversStay sum P content old.present d → CoversThrough sum P content old new
  covers_one new d is stays = subst (λ (life : Life). CoversThrough sum P content old life) (sym is) (through_more (CoversStay sum P content old.present) old old d (through_start (CoversStay sum P content old.present) old itself) stays)

  pub covers_two : (new : Life) (d e : Disk) → new ≡ next (next old d) e → CoversStay sum P content old.present d → CoversStay sum P content old.present e → CoversThrough sum P content old new
  covers_two new d e is first second =
      subst (λ (life : Life). CoversThrough sum P content old life) (sym is) (through_more (CoversStay sum P content old.present) old (next old d) e (covers_one (next old d) d refl first) second)

-- what a started sync would keep it would keep at each moment of two calls in turn
pub covers_through_join : (sum : List ℕ → ℕ) (P : ℕ) (content : List ℕ) (old mid new : Life) → CoversThrough sum P content old mid → CoversThrough sum P content mid new → CoversThrough sum P content old new
covers_through_join sum P content old mid new first second =
    let reached = through_end (CoversStay sum P content old.present) old mid first in
    through_joins (CoversStay sum P content old.present) old mid new first
    (through_then (CoversStay sum P content mid.present) (CoversStay sum P content old.present) mid new (λ d later. covers_join sum P content old.present mid.present d reached later) second)

-- a sync keeps what started syncs cover, whatever the device answers
module _ (sum : List ℕ → ℕ) (w : WriterState) (old new : Life) (sound : Consistency sum w old.present) where
  abbrev all : List ℕ
  all = content w old.present.readable

  pub sync_covers : (answer : Result (Unit {0}) Error) → SyncGoes old new answer → CoversThrough sum w.page_size all old new
  sync_covers (Ok u) is =
      let e = settled_disk (logged SyncAll false old.present) in
      covers_one sum w.page_size all old new e is (settle_covers sum w old.present sound e (record { readable = refl; base = refl; since = refl; settled = refl; covers = refl }))
  sync_covers (Err SyncFailed) is = covers_one sum w.page_size all old new (logged SyncAll true old.present) is (alike_covers sum w.page_size all old.present (logged SyncAll true old.present) refl refl refl refl)
  sync_covers (Err OutOfMemory) is = covers_none sum w.page_size all old new is
  sync_covers (Err e) goes = absurd goes

-- a flush keeps what started syncs cover, whatever the device answers
module _ (sum : List ℕ → ℕ) (w : WriterState) (old new : Life) (k : ℕ) (rest : Bool) (bytes : List ℕ) (small : IsSmall sum) (sound : Consistency sum w old.present) (ready : MayFlush w.sync w.flushed w.durable)
    (can : CanWrite w.page_size w.tip k rest) (is : bytes ≡ built sum w.page_size w.durable (written_pages k rest) w.tip) where
  abbrev whole : List ℕ
  whole = content w old.present.readable

  abbrev offset : ℕ
  offset = w.full_pages * (w.page_size + 12)

  settled : AllSettled old.present
  settled = flush_settled old.present w.sync w.flushed w.durable ready sound.stands.starts

  operated : (request : Request) (failed : Bool) (d : Disk) → HasOperated (Write offset bytes) request failed old.present d → CoversStay sum w.page_size whole old.present d
  operated request failed d done =
      let covers : coverings d ≡ coverings old.present = ap (λ (x : Disk). coverings x) done.rest in
      write_covers sum w.page_size whole old.present d covers settled (all_settled_alike old.present d covers (ap (λ (x : Disk). x.settled) done.rest) settled)
      (operated_stays sum w old.present d k rest bytes small sound ready can is request failed done)

  operated_settled : (request : Request) (d : Disk) → HasOperated (Write offset bytes) request false old.present d → CoversStay sum w.page_size whole old.present (settled_disk d)
  operated_settled request d done =
      let covers : coverings d ≡ coverings old.present = ap (λ (x : Disk). coverings x) done.rest in
      let same : d.settled ≡ old.present.settled = ap (λ (x : Disk). x.settled) done.rest in
      let still : AllSettled d = all_settled_alike old.present d covers same settled in
      write_covers sum w.page_size whole old.present (settled_disk d) covers settled (λ name c named. omega (arith, still name c named))
      (operated_settle_stays sum w old.present d k rest bytes small sound ready can is request (settled_disk d) done refl refl)

  pub write_covers_through : (sync : Bool) (answer : Result (Unit {0}) Error) → WriteGoes offset bytes sync old new answer → CoversThrough sum w.page_size whole old new
  write_covers_through true (Ok u) (d, goes, done) =
      covers_two sum w.page_size whole old new d (settled_disk d) goes (operated (WriteAt offset (length bytes) true) false d done) (operated_settled (WriteAt offset (length bytes) true) d done)
  write_covers_through true (Err WriteFailed) (d, goes, done) = covers_one sum w.page_size whole old new d goes (operated (WriteAt offset (length bytes) true) true d done)
  write_covers_through true (Err OffsetOverflow) (same, passes) = covers_none sum w.page_size whole old new same
  write_covers_through true (Err OutOfMemory) (same, has) = covers_none sum w.page_size whole old new same
  write_covers_through true (Err e) goes = absurd goes
  write_covers_through false (Ok u) (d, goes, done) = covers_one sum w.page_size whole old new d goes (operated (WriteAt offset (length bytes) false) false d done)
  write_covers_through false (Err OffsetOverflow) (same, passes) = covers_none sum w.page_size whole old new same
  write_covers_through false (Err OutOfMemory) (same, has) = covers_none sum w.page_size whole old new same
  write_covers_through false (Err e) (fault, (d, goes, done)) = covers_one sum w.page_size whole old new d goes (operated (WriteAt offset (length bytes) false) true d done)

-- what a started sync would keep of a longer content it would keep of a beginning of that
pub would_longer : (sum : List ℕ → ℕ) (P : ℕ) (content longer : List ℕ) (name cover : ℕ) (d : Disk) → content ≡ take (length content) longer → cover ≤ length content → WouldKeep sum P content name cover d → WouldKeep sum P longer name cover d
would_longer sum P content longer name cover d begins enough would = record { covers = would.covers; named = would.named; keeps = keeps_longer sum P content longer cover (disk_settled_to would.covers d) begins enough would.keeps }

would_shorter : (sum : List ℕ → ℕ) (P : ℕ) (content longer : List ℕ) (name cover : ℕ) (d : Disk) → content ≡ take (length content) longer → cover ≤ length content → WouldKeep sum P longer name cover d → WouldKeep sum P content name cover d
would_shorter sum P content longer name cover d begins enough would = record { covers = would.covers; named = would.named; keeps = keeps_shorter sum P content longer cover (disk_settled_to would.covers d) begins enough would.keeps }

pub covers_shorter : (sum : List ℕ → ℕ) (P : ℕ) (content longer : List ℕ) (old new : Life) → content ≡ take (length content) longer → CoversThrough sum P longer old new → CoversThrough sum P content old new
covers_shorter sum P content longer old new begins through =
    let more : length content ≤ length longer = omega (arith, ap length begins, length-take (length content) longer) in
    through_then (CoversStay sum P longer old.present) (CoversStay sum P content old.present) old new
    (λ d stays. λ name cover enough would. would_shorter sum P content longer name cover d begins enough (stays name cover (omega (arith, enough, more)) (would_longer sum P content longer name cover old.present begins enough would))) through
