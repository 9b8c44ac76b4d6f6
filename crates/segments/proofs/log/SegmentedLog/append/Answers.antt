use Rattle.std.specs.Prelude.{◌<◌}
use Rattle.std.proofs.Common.{arith, inl, inr, subst}
use Rattle.segments.specs.Owned.{owned_size}
use Rattle.segments.proofs.Appends.{after_goes, after_survives, here_goes, is_long, turn_goes}
use Rattle.segments.proofs.Records.{log_adds, log_adds_after}
use Rattle.segments.proofs.Rotating.{digest_same}
use Rattle.segments.proofs.log.SegmentedLog.append.Given
use Rattle.segments.proofs.log.SegmentedLog.append.Goals as goal
use Rattle.segments.proofs.log.SegmentedLog.append.Goals.{After-append_here}

is_short : (g : Given.Over) (c : After-append_here g) → owned_size c.args.self.now.current.journal < c.args.self.now.most
is_short g c = subst (λ s. owned_size s.current.journal < s.most) c.self.view_is (omega (arith, c.if-size-self.true, c.size.ensures))

pub returns-then-size-self-clause-goes : goal.returns-then-size-self-clause-goes
returns-then-size-self-clause-goes g c =
    here_goes g.H.Sum.sum_of g.R.Sum.sum_of g.D.Digest.digest_of c.args.bytes.now c.args.self.now c.append_here.new.self c.append_here.result (is_short g c) c.append_here.ensures.goes c.append_here.ensures.rest

pub returns-then-size-self-clause-survives : goal.returns-then-size-self-clause-survives
returns-then-size-self-clause-survives g c = inl (c.append_here.ensures.rest, c.append_here.ensures.lasts)

pub returns-then-size-self-clause-adds : goal.returns-then-size-self-clause-adds
returns-then-size-self-clause-adds g c =
    log_adds g.H.Sum.sum_of g.R.Sum.sum_of g.D.Digest.digest_of c.args.bytes.now c.args.self.now c.append_here.new.self c.append_here.result
    (here_goes g.H.Sum.sum_of g.R.Sum.sum_of g.D.Digest.digest_of c.args.bytes.now c.args.self.now c.append_here.new.self c.append_here.result (is_short g c) c.append_here.ensures.goes c.append_here.ensures.rest)

pub returns-in-Ok-clause-goes : goal.returns-in-Ok-clause-goes
returns-in-Ok-clause-goes g c =
    after_goes g.H.Sum.sum_of g.R.Sum.sum_of g.D.Digest.digest_of c.args.bytes.now c.args.self.now c.rotate.new.self c.append_here-in-Ok.new.self c.append_here-in-Ok.result (is_long _ c.args.self.now c.self.view_is (omega (arith, c.if-size-self.false, c.size.ensures)))
    c.in-Ok.ensures.goes c.append_here-in-Ok.ensures.goes c.append_here-in-Ok.ensures.rest

pub returns-in-Ok-clause-adds : goal.returns-in-Ok-clause-adds
returns-in-Ok-clause-adds g c =
    log_adds_after g.H.Sum.sum_of g.R.Sum.sum_of g.D.Digest.digest_of c.args.bytes.now c.args.self.now c.rotate.new.self c.append_here-in-Ok.new.self c.append_here-in-Ok.result
    c.in-Ok.ensures.goes (is_long _ c.args.self.now c.self.view_is (omega (arith, c.if-size-self.false, c.size.ensures))) c.append_here-in-Ok.ensures.goes c.append_here-in-Ok.ensures.rest

pub returns-in-Ok-clause-survives : goal.returns-in-Ok-clause-survives
returns-in-Ok-clause-survives g c =
    after_survives g.H.Sum.sum_of g.R.Sum.sum_of g.D.Digest.digest_of c.args.bytes.now c.args.self.now c.rotate.new.self c.append_here-in-Ok.new.self c.append_here-in-Ok.result
    c.in-Ok.ensures.goes c.append_here-in-Ok.ensures.goes c.append_here-in-Ok.ensures.rest c.rotate.ensures.turns c.append_here-in-Ok.ensures.lasts

pub returns-in-Err-clause-goes : goal.returns-in-Err-clause-goes
returns-in-Err-clause-goes g c =
    turn_goes g.H.Sum.sum_of g.R.Sum.sum_of g.D.Digest.digest_of c.args.bytes.now c.args.self.now c.rotate.new.self c.in-Err.error (is_long _ c.args.self.now c.self.view_is (omega (arith, c.if-size-self.false, c.size.ensures))) c.in-Err.ensures.goes

pub returns-in-Err-clause-survives : goal.returns-in-Err-clause-survives
returns-in-Err-clause-survives g c = inr (inl (c.in-Err.ensures.goes.0, c.rotate.ensures.turns))

pub returns-then-size-self-clause-digest : goal.returns-then-size-self-clause-digest
returns-then-size-self-clause-digest g c = λ are.
    digest_same g.D.Digest.NUMBER c.args.self.now.listing c.append_here.new.self.listing c.append_here.ensures.rest.listing are

pub returns-in-Ok-clause-digest : goal.returns-in-Ok-clause-digest
returns-in-Ok-clause-digest g c = λ are.
    digest_same g.D.Digest.NUMBER c.rotate.new.self.listing c.append_here-in-Ok.new.self.listing c.append_here-in-Ok.ensures.rest.listing (c.rotate.ensures.digest are)
