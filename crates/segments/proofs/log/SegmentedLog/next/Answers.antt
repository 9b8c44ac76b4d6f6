use Rattle.std.specs.Prelude.{◌∷◌, [], List, ℕ, Ok}
use Rattle.std.proofs.Common.{refl, inl, inr, subst}
use Rattle.segments.specs.declared.scanning.Step.{Step}
use Rattle.segments.specs.Scan.{StepGoes}
use Rattle.segments.proofs.Joining.{leaves_joins, leaves_start}
use Rattle.segments.proofs.Stepping.{behind_back, behind_joins, between_back, between_joins, end_back, next_refused}
use Rattle.segments.proofs.log.SegmentedLog.next.Goals as goal

pub loop-bytes-init : goal.loop-bytes-init
loop-bytes-init g c = record {
  ready = c.requires.log;
  leaves = leaves_start g.H.Sum.sum_of g.R.Sum.sum_of c.args.self.now;
  so_far = λ held tells. inl refl;
  further = inl refl;
  same = refl;
}

pub returns-in_err-bytes-clause-goes : goal.returns-in_err-bytes-clause-goes
returns-in_err-bytes-clause-goes g c =
    next_refused g.H.Sum.sum_of g.R.Sum.sum_of g.D.Digest.digest_of c.args.self.now c.loop-bytes.self c.step.new.self c.args.place.now c.loop-bytes.at c.loop-bytes.place c.in_err-bytes.field-0.0 c.from_residual.result
    c.loop-bytes.invariant.leaves c.loop-bytes.invariant.further c.loop-bytes.invariant.so_far c.loop-bytes.invariant.same c.from_residual.ensures.1 c.in_err-bytes.ensures.goes

pub returns-in_err-bytes-clause-leaves : goal.returns-in_err-bytes-clause-leaves
returns-in_err-bytes-clause-leaves g c =
    leaves_joins g.H.Sum.sum_of g.R.Sum.sum_of c.args.self.now c.loop-bytes.self c.step.new.self c.loop-bytes.invariant.leaves c.step.ensures.leaves

pub returns-in-Record-clause-goes : goal.returns-in-Record-clause-goes
returns-in-Record-clause-goes g c =
    let sum = g.H.Sum.sum_of in
    let own = g.R.Sum.sum_of in
    let d : List ℕ → List ℕ = g.D.Digest.digest_of in
    let goes = subst (λ (s : Step). StepGoes sum own d c.loop-bytes.self c.step.new.self c.loop-bytes.at (Ok s)) c.in-Record.is c.in_ok-bytes.ensures.goes in (
      c.loop-bytes.invariant.so_far,
      between_back sum own d c.args.self.now c.loop-bytes.self (c.in-Record.bytes ∷ []) c.loop-bytes.at c.in-Record.behind c.loop-bytes.invariant.leaves goes.0,
    )

pub returns-in-Record-clause-moves : goal.returns-in-Record-clause-moves
returns-in-Record-clause-moves g c =
    let sum = g.H.Sum.sum_of in
    let own = g.R.Sum.sum_of in
    let d : List ℕ → List ℕ = g.D.Digest.digest_of in
    let goes = subst (λ (s : Step). StepGoes sum own d c.loop-bytes.self c.step.new.self c.loop-bytes.at (Ok s)) c.in-Record.is c.in_ok-bytes.ensures.goes in
    behind_joins c.args.self.now c.args.place.now c.loop-bytes.at c.in-Record.behind c.loop-bytes.invariant.further
    (behind_back sum own c.args.self.now c.loop-bytes.self c.loop-bytes.at c.in-Record.behind c.loop-bytes.invariant.leaves goes.1)

pub returns-in-Record-clause-leaves : goal.returns-in-Record-clause-leaves
returns-in-Record-clause-leaves g c =
    leaves_joins g.H.Sum.sum_of g.R.Sum.sum_of c.args.self.now c.loop-bytes.self c.step.new.self c.loop-bytes.invariant.leaves c.step.ensures.leaves

pub loop-bytes-smaller : goal.loop-bytes-smaller
loop-bytes-smaller g c =
    let sum = g.H.Sum.sum_of in
    let own = g.R.Sum.sum_of in
    let d : List ℕ → List ℕ = g.D.Digest.digest_of in
    let goes = subst (λ (s : Step). StepGoes sum own d c.loop-bytes.self c.step.new.self c.loop-bytes.at (Ok s)) c.in-Passed.is c.in_ok-bytes.ensures.goes in
    (behind_back sum own c.args.self.now c.loop-bytes.self c.loop-bytes.at c.in-Passed.to c.loop-bytes.invariant.leaves goes.1).nearer

pub loop-bytes-preserved : goal.loop-bytes-preserved
loop-bytes-preserved g c =
    let sum = g.H.Sum.sum_of in
    let own = g.R.Sum.sum_of in
    let d : List ℕ → List ℕ = g.D.Digest.digest_of in
    let before = c.loop-bytes.invariant in
    let goes = subst (λ (s : Step). StepGoes sum own d c.loop-bytes.self c.step.new.self c.loop-bytes.at (Ok s)) c.in-Passed.is c.in_ok-bytes.ensures.goes in
    record {
      ready = c.step.ensures.ready;
      leaves = leaves_joins sum own c.args.self.now c.loop-bytes.self c.step.new.self before.leaves c.step.ensures.leaves;
      so_far = between_joins sum own d c.args.self.now [] c.args.place.now c.loop-bytes.at c.in-Passed.to before.so_far
          (between_back sum own d c.args.self.now c.loop-bytes.self [] c.loop-bytes.at c.in-Passed.to before.leaves goes.0);
      further = inr (behind_joins c.args.self.now c.args.place.now c.loop-bytes.at c.in-Passed.to before.further
          (behind_back sum own c.args.self.now c.loop-bytes.self c.loop-bytes.at c.in-Passed.to before.leaves goes.1));
      same = before.same;
    }

pub returns-in-End-clause-goes : goal.returns-in-End-clause-goes
returns-in-End-clause-goes g c =
    let sum = g.H.Sum.sum_of in
    let own = g.R.Sum.sum_of in
    let d : List ℕ → List ℕ = g.D.Digest.digest_of in
    let goes = subst (λ (s : Step). StepGoes sum own d c.loop-bytes.self c.step.new.self c.loop-bytes.at (Ok s)) c.in-End.is c.in_ok-bytes.ensures.goes in
    (c.loop-bytes.invariant.so_far, end_back sum own c.args.self.now c.loop-bytes.self c.loop-bytes.at c.loop-bytes.invariant.leaves goes)

pub returns-in-End-clause-leaves : goal.returns-in-End-clause-leaves
returns-in-End-clause-leaves g c =
    leaves_joins g.H.Sum.sum_of g.R.Sum.sum_of c.args.self.now c.loop-bytes.self c.step.new.self c.loop-bytes.invariant.leaves c.step.ensures.leaves
