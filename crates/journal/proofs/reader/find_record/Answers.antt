use Rattle.std.proofs.Common.{◌≤◌, ◌∙◌, List, ℕ, Ok, length, refl, sym, ap, arith, subst}
use Rattle.std.specs.Prelude.{Option}
use Rattle.paged_read.specs.Failures.{NoneFailed, none_failed_joins, none_failed_start}
use Rattle.paged_read.specs.Tail.{logical_bytes}
use Rattle.journal.specs.declared.frame.Found.{Found}
use Rattle.journal.specs.Costs.{FrameCosts, NextCosts}
use Rattle.journal.specs.Journal.{IsFound, ReadRecordGoes}
use Rattle.journal.proofs.Costs.{next_costs, none_passed, passed_on}
use Rattle.journal.specs.Reader.{OnlyLooks}
use Rattle.journal.proofs.Readers.{looks_start, looks_join, next_found, next_later, next_none, next_refused, not_some}
use Rattle.journal.proofs.reader.find_record.Given.{Over}
use Rattle.journal.proofs.reader.find_record.Goals as goal
use Rattle.journal.proofs.reader.find_record.Goals.{After-find}

pub frames-init : goal.frames-init
frames-init g c = record {
  looks = looks_start g.H.Sum.sum_of c.args.snapshot.now c.args.cache.now (g.B.Blob.life c.args.blob.now) c.requires.opened;
  none_failed = none_failed_start (g.B.Blob.life c.args.blob.now).present;
  so_far = refl;
  passed = none_passed g.R.Sum.sum_of c.args.snapshot.now (logical_bytes c.args.snapshot.now (g.B.Blob.life c.args.blob.now).present.readable) c.args.from c.args.cache.now (g.B.Blob.life c.args.blob.now);
}

-- the reads until now, and this one
looks : (g : Over) (c : After-find g) → OnlyLooks g.H.Sum.sum_of c.args.snapshot.now c.args.cache.now c.find.new.cache (g.B.Blob.life c.args.blob.now) (g.B.Blob.life c.find.new.blob)
looks g c =
    looks_join g.H.Sum.sum_of c.args.snapshot.now c.args.cache.now c.frames.cache c.find.new.cache (g.B.Blob.life c.args.blob.now) (g.B.Blob.life c.frames.blob) (g.B.Blob.life c.find.new.blob)
    c.frames.invariant.looks c.find.ensures.leaves

-- none of them failed, where this one answers
none_failed : (g : Over) (c : After-find g) → NoneFailed (g.B.Blob.life c.frames.blob).present (g.B.Blob.life c.find.new.blob).present → NoneFailed (g.B.Blob.life c.args.blob.now).present (g.B.Blob.life c.find.new.blob).present
none_failed g c this =
    none_failed_joins (g.B.Blob.life c.args.blob.now).present (g.B.Blob.life c.frames.blob).present (g.B.Blob.life c.find.new.blob).present c.frames.invariant.none_failed this

-- this frame, of the content that there was, and the frames until now
frame_there : (g : Over) (c : After-find g) → FrameCosts c.args.snapshot.now (logical_bytes c.args.snapshot.now (g.B.Blob.life c.args.blob.now).present.readable) c.frames.offset c.frames.cache c.find.new.cache (g.B.Blob.life c.frames.blob) (g.B.Blob.life c.find.new.blob)
frame_there g c =
    subst (λ (l : List ℕ). FrameCosts c.args.snapshot.now l c.frames.offset c.frames.cache c.find.new.cache (g.B.Blob.life c.frames.blob) (g.B.Blob.life c.find.new.blob)) c.frames.invariant.looks.holds c.find.ensures.costs

costs : (g : Over) (c : After-find g) → NextCosts g.R.Sum.sum_of c.args.snapshot.now (logical_bytes c.args.snapshot.now (g.B.Blob.life c.args.blob.now).present.readable) c.args.from c.args.cache.now c.find.new.cache (g.B.Blob.life c.args.blob.now) (g.B.Blob.life c.find.new.blob)
costs g c =
    next_costs g.R.Sum.sum_of c.args.snapshot.now (logical_bytes c.args.snapshot.now (g.B.Blob.life c.args.blob.now).present.readable) c.args.from c.frames.offset c.args.cache.now c.frames.cache c.find.new.cache (g.B.Blob.life c.args.blob.now) (g.B.Blob.life c.frames.blob) (g.B.Blob.life c.find.new.blob)
    c.frames.invariant.passed (frame_there g c)

pub returns-in_err-found-clause-costs : goal.returns-in_err-found-clause-costs
returns-in_err-found-clause-costs g c = costs g (goal.at.returns-in_err-found-clause-costs g c).After-find

pub returns-in_default-clause-costs : goal.returns-in_default-clause-costs
returns-in_default-clause-costs g c = costs g (goal.at.returns-in_default-clause-costs g c).After-find

pub returns-then-is_some-clause-costs : goal.returns-then-is_some-clause-costs
returns-then-is_some-clause-costs g c = costs g (goal.at.returns-then-is_some-clause-costs g c).After-find

pub returns-in_err-found-clause-finds : goal.returns-in_err-found-clause-finds
returns-in_err-found-clause-finds g c =
    next_refused g.R.Sum.sum_of (logical_bytes c.args.snapshot.now (g.B.Blob.life c.args.blob.now).present.readable) c.args.from (g.B.Blob.life c.args.blob.now) (g.B.Blob.life c.frames.blob) (g.B.Blob.life c.find.new.blob)
    c.in_err-found.field-0.0 c.from_residual.result c.from_residual.ensures.1 c.frames.invariant.looks.looked c.frames.invariant.none_failed c.in_err-found.ensures.reads

pub returns-in_err-found-clause-leaves : goal.returns-in_err-found-clause-leaves
returns-in_err-found-clause-leaves g c = looks g (goal.at.returns-in_err-found-clause-leaves g c).After-find

pub returns-in_default-clause-finds : goal.returns-in_default-clause-finds
returns-in_default-clause-finds g c =
    let own = g.R.Sum.sum_of in
    let t = c.args.snapshot.now in
    let mid = g.B.Blob.life c.frames.blob in
    let held = logical_bytes t (g.B.Blob.life c.args.blob.now).present.readable in
    let here =
    subst (λ (o : Option Found). ReadRecordGoes own (logical_bytes t mid.present.readable) c.frames.offset mid (g.B.Blob.life c.find.new.blob) (Ok o)) c.in_default.is c.in_ok-found.ensures.reads in
    let end : length held ≤ c.frames.offset = omega (arith, here.0, ap length c.frames.invariant.looks.holds) in
    (next_none own held c.args.from c.frames.offset c.frames.invariant.so_far end, none_failed g (goal.at.returns-in_default-clause-finds g c).After-find here.1)

pub returns-in_default-clause-leaves : goal.returns-in_default-clause-leaves
returns-in_default-clause-leaves g c = looks g (goal.at.returns-in_default-clause-leaves g c).After-find

pub returns-then-is_some-clause-finds : goal.returns-then-is_some-clause-finds
returns-then-is_some-clause-finds g c =
    let own = g.R.Sum.sum_of in
    let t = c.args.snapshot.now in
    let mid = g.B.Blob.life c.frames.blob in
    let held = logical_bytes t (g.B.Blob.life c.args.blob.now).present.readable in
    let f = c.in-Some.found in
    let here = subst (λ (o : Option Found). ReadRecordGoes own (logical_bytes t mid.present.readable) c.frames.offset mid (g.B.Blob.life c.find.new.blob) (Ok o)) c.in-Some.is c.in_ok-found.ensures.reads in
    let there = subst (λ (l : List ℕ). IsFound own l c.frames.offset f.bytes f.end) c.frames.invariant.looks.holds here.0 in
    (next_found own held c.args.from c.frames.offset f.bytes f.end c.frames.invariant.so_far there (sym c.is_some.ensures ∙ c.if-is_some.true), none_failed g (goal.at.returns-then-is_some-clause-finds g c).After-find here.1)

pub returns-then-is_some-clause-leaves : goal.returns-then-is_some-clause-leaves
returns-then-is_some-clause-leaves g c = looks g (goal.at.returns-then-is_some-clause-leaves g c).After-find

pub frames-preserved : goal.frames-preserved
frames-preserved g c =
    let own = g.R.Sum.sum_of in
    let t = c.args.snapshot.now in
    let mid = g.B.Blob.life c.frames.blob in
    let f = c.in-Some.found in
    let offset = c.frames.offset in
    let here = subst (λ (o : Option Found). ReadRecordGoes own (logical_bytes t mid.present.readable) offset mid (g.B.Blob.life c.find.new.blob) (Ok o)) c.in-Some.is c.in_ok-found.ensures.reads in
    let there = subst (λ (l : List ℕ). IsFound own l offset f.bytes f.end) c.frames.invariant.looks.holds here.0 in
    let old = g.B.Blob.life c.args.blob.now in
    let held = logical_bytes t old.present.readable in
    let new = g.B.Blob.life c.find.new.blob in
    let so_far = next_later own held c.args.from offset f.bytes f.end c.frames.invariant.so_far there (not_some f.bytes (sym c.is_some.ensures ∙ c.if-is_some.false)) in
    record {
      looks = looks g (goal.at.frames-preserved g c).After-find;
      none_failed = none_failed g (goal.at.frames-preserved g c).After-find here.1;
      so_far = so_far;
      passed = passed_on own t held c.args.from offset c.args.cache.now c.frames.cache c.find.new.cache old mid new c.frames.invariant.passed (frame_there g (goal.at.frames-preserved g c).After-find) f.end there.after so_far;
    }
