use Rattle.std.specs.Prelude.{◌∷◌, [], List, ℕ, Ok, Option}
use Rattle.std.proofs.Common.{subst, sym, arith}
use Rattle.journal.specs.Frame.{listed}
use Rattle.journal.specs.declared.frame.Found.{Found}
use Rattle.segments.specs.Log.{LogReadGoes}
use Rattle.segments.specs.Scan.{StandBetween, place_at}
use Rattle.segments.proofs.Stepping.{step_found}
use Rattle.segments.proofs.log.SegmentedLog.step.Goals as goal

pub returns-in-Some-bytes-clause-goes : goal.returns-in-Some-bytes-clause-goes
returns-in-Some-bytes-clause-goes g c =
    let sum = g.H.Sum.sum_of in
    let own = g.R.Sum.sum_of in
    let d : List ℕ → List ℕ = g.D.Digest.digest_of in
    let at = place_at c.args.segment c.args.offset in
    let f = c.in-Some.found in
    let read = subst (λ (o : Option Found). LogReadGoes sum own d c.args.self.now c.read.new.self at (Ok o)) c.in-Some.is c.in_ok-found.ensures.goes in
    let found = step_found sum own d c.args.self.now c.read.new.self at f (omega (arith, c.ranges.offset)) read in (
      subst (λ (b : List ℕ). StandBetween sum own d c.args.self.now (b ∷ []) at (place_at c.args.segment f.end)) (sym c.in-Some-bytes.bytes-is)
          (subst (λ (o : Option (List ℕ)). StandBetween sum own d c.args.self.now (listed o) at (place_at c.args.segment f.end)) c.in-Some-bytes.is found.0),
      found.1,
    )

pub returns-in-None-clause-goes : goal.returns-in-None-clause-goes
returns-in-None-clause-goes g c =
    let sum = g.H.Sum.sum_of in
    let own = g.R.Sum.sum_of in
    let d : List ℕ → List ℕ = g.D.Digest.digest_of in
    let at = place_at c.args.segment c.args.offset in
    let f = c.in-Some.found in
    let read = subst (λ (o : Option Found). LogReadGoes sum own d c.args.self.now c.read.new.self at (Ok o)) c.in-Some.is c.in_ok-found.ensures.goes in
    let found = step_found sum own d c.args.self.now c.read.new.self at f (omega (arith, c.ranges.offset)) read in
    (subst (λ (o : Option (List ℕ)). StandBetween sum own d c.args.self.now (listed o) at (place_at c.args.segment f.end)) c.in-None.is found.0, found.1)
