use Rattle.std.proofs.Common.{ap, refl, subst, sym, ◌∙◌}
use Rattle.std.specs.Prelude.{Err}
use Rattle.segments.specs.Log.{IsLog, LogState, RotateGoes}
use Rattle.segments.specs.Owned.{OwnedState}
use Rattle.segments.proofs.Refusing.{enter_refused}
use Rattle.segments.proofs.Rotating.{current_is, digest_after, forget_ready, listing_is, rotate_goes, turning_of}
use Rattle.segments.proofs.Turning.{close_survives, let_go, let_go_kept, turn_survives}
use Rattle.segments.proofs.log.SegmentedLog.rotate.Goals as goal

pub returns-in_err-closed-clause-turns : goal.returns-in_err-closed-clause-turns
returns-in_err-closed-clause-turns g c =
    close_survives g.H.Sum.sum_of g.R.Sum.sum_of g.D.Digest.digest_of c.args.self.now c.close_current.new.self c.close_current.new.self c.requires.log c.close_current.ensures.keeps
    c.close_current.ensures.rest.manifest refl

pub returns-in_err-write_list-clause-turns : goal.returns-in_err-write_list-clause-turns
returns-in_err-write_list-clause-turns g c =
    close_survives g.H.Sum.sum_of g.R.Sum.sum_of g.D.Digest.digest_of c.args.self.now c.close_current.new.self c.write_list.new.self c.requires.log c.close_current.ensures.keeps
    (ap (λ (l : LogState). l.manifest) c.write_list.ensures.rest ∙ c.close_current.ensures.rest.manifest)
    (ap (λ (l : LogState). l.current) c.write_list.ensures.rest)

pub returns-in_err-next-clause-turns : goal.returns-in_err-next-clause-turns
returns-in_err-next-clause-turns g c =
    close_survives g.H.Sum.sum_of g.R.Sum.sum_of g.D.Digest.digest_of c.args.self.now c.close_current.new.self c.open_next.new.self c.requires.log c.close_current.ensures.keeps
    (ap (λ (l : LogState). l.manifest) c.open_next.ensures.rest ∙ ap (λ (l : LogState). l.manifest) c.write_list.ensures.rest ∙ c.close_current.ensures.rest.manifest)
    (ap (λ (l : LogState). l.current) c.open_next.ensures.rest ∙ ap (λ (l : LogState). l.current) c.write_list.ensures.rest)

pub returns-in-Ok-clause-goes : goal.returns-in-Ok-clause-goes
returns-in-Ok-clause-goes g c =
    let sum = g.H.Sum.sum_of in
    let own = g.R.Sum.sum_of in
    let d = g.D.Digest.digest_of in
    let s = c.args.self.now in
    let m = c.close_current.new.self in
    let w = c.write_list.new.self in
    let n = c.open_next.new.self in
    let f = c.follow_with.new.self in
    let next = c.in_ok-next.next in
    let kept = c.in_ok-closed.closed in
    let turning = turning_of sum own d s m w n f next kept c.in_ok-closed.levels c.in_ok-write_list.field-0 c.in_ok-closed.ensures.goes c.close_current.ensures.keeps c.close_current.ensures.rest
    c.in_ok-write_list.ensures.goes c.write_list.ensures.rest c.in_ok-next.ensures.goes c.open_next.ensures.rest c.follow_with.ensures.goes in
    rotate_goes sum own d s m w n f next kept turning c.enter.new.self g.met.D.Digest.sized c.in-Ok.ensures.goes c.enter.ensures.rest

pub returns-in-Ok-clause-turns : goal.returns-in-Ok-clause-turns
returns-in-Ok-clause-turns g c =
    let sum = g.H.Sum.sum_of in
    let own = g.R.Sum.sum_of in
    let d = g.D.Digest.digest_of in
    let s = c.args.self.now in
    let m = c.close_current.new.self in
    let w = c.write_list.new.self in
    let n = c.open_next.new.self in
    let f = c.follow_with.new.self in
    let next = c.in_ok-next.next in
    let kept = c.in_ok-closed.closed in
    let turning = turning_of sum own d s m w n f next kept c.in_ok-closed.levels c.in_ok-write_list.field-0 c.in_ok-closed.ensures.goes c.close_current.ensures.keeps c.close_current.ensures.rest
    c.in_ok-write_list.ensures.goes c.write_list.ensures.rest c.in_ok-next.ensures.goes c.open_next.ensures.rest c.follow_with.ensures.goes in
    turn_survives sum own d s m w n f c.enter.new.self c.enter.new.self next kept c.requires.log turning c.enter.ensures.tries refl
    (ap (λ (o : OwnedState). o.life) (c.enter.ensures.rest.current ∙ current_is sum own d s m w n f next kept turning))
    (let_go_kept sum own d s m w n f c.enter.new.self next kept turning c.in-Ok.ensures.goes.kept)

pub returns-in-Ok-clause-digest : goal.returns-in-Ok-clause-digest
returns-in-Ok-clause-digest g c = λ are.
    let sum = g.H.Sum.sum_of in
    let own = g.R.Sum.sum_of in
    let d = g.D.Digest.digest_of in
    let s = c.args.self.now in
    let m = c.close_current.new.self in
    let w = c.write_list.new.self in
    let n = c.open_next.new.self in
    let f = c.follow_with.new.self in
    let next = c.in_ok-next.next in
    let kept = c.in_ok-closed.closed in
    let turning = turning_of sum own d s m w n f next kept c.in_ok-closed.levels c.in_ok-write_list.field-0 c.in_ok-closed.ensures.goes c.close_current.ensures.keeps c.close_current.ensures.rest
    c.in_ok-write_list.ensures.goes c.write_list.ensures.rest c.in_ok-next.ensures.goes c.open_next.ensures.rest c.follow_with.ensures.goes in
    digest_after g.D.Digest.NUMBER s.listing c.enter.new.self.listing kept (listing_is sum own d s m w n f next kept turning c.enter.new.self c.in-Ok.ensures.goes) c.in_ok-closed.ensures.digest are

pub returns-clause-goes : goal.returns-clause-goes
returns-clause-goes g c =
    let sum = g.H.Sum.sum_of in
    let own = g.R.Sum.sum_of in
    let d = g.D.Digest.digest_of in
    let s = c.args.self.now in
    let m = c.close_current.new.self in
    let w = c.write_list.new.self in
    let n = c.open_next.new.self in
    let f = c.follow_with.new.self in
    let next = c.in_ok-next.next in
    let kept = c.in_ok-closed.closed in
    let turning = turning_of sum own d s m w n f next kept c.in_ok-closed.levels c.in_ok-write_list.field-0 c.in_ok-closed.ensures.goes c.close_current.ensures.keeps c.close_current.ensures.rest
    c.in_ok-write_list.ensures.goes c.write_list.ensures.rest c.in_ok-next.ensures.goes c.open_next.ensures.rest c.follow_with.ensures.goes in
    subst (λ (v : LogState). RotateGoes sum own d s (record v { current = c.forget.new.self }) (Err c.in-Err.error)) (sym c.self.view_is)
    (enter_refused sum own d s m w n f c.enter.new.self next c.forget.new.self kept c.in-Err.error turning c.enter.ensures.rest c.in-Err.ensures.goes (ap (λ (o : OwnedState). o.journal) c.forget.ensures.lets))

pub returns-clause-ready : goal.returns-clause-ready
returns-clause-ready g c =
    let sum = g.H.Sum.sum_of in
    let own = g.R.Sum.sum_of in
    forget_ready sum own _ c.forget.new.self (subst (λ (v : LogState). IsLog sum own v) (sym c.self.view_is) c.enter.ensures.ready) c.forget.ensures.lets

pub returns-clause-turns : goal.returns-clause-turns
returns-clause-turns g c =
    let sum = g.H.Sum.sum_of in
    let own = g.R.Sum.sum_of in
    let d = g.D.Digest.digest_of in
    let s = c.args.self.now in
    let m = c.close_current.new.self in
    let w = c.write_list.new.self in
    let n = c.open_next.new.self in
    let f = c.follow_with.new.self in
    let next = c.in_ok-next.next in
    let kept = c.in_ok-closed.closed in
    let turning = turning_of sum own d s m w n f next kept c.in_ok-closed.levels c.in_ok-write_list.field-0 c.in_ok-closed.ensures.goes c.close_current.ensures.keeps c.close_current.ensures.rest
    c.in_ok-write_list.ensures.goes c.write_list.ensures.rest c.in_ok-next.ensures.goes c.open_next.ensures.rest c.follow_with.ensures.goes in
    turn_survives sum own d s m w n f c.enter.new.self _ next kept c.requires.log turning c.enter.ensures.tries
    (ap (λ (l : LogState). l.manifest) c.self.view_is)
    (ap (λ (o : OwnedState). o.life) (c.forget.ensures.lets) ∙ ap (λ (l : LogState). l.current.life) c.self.view_is
    ∙ ap (λ (o : OwnedState). o.life) (c.enter.ensures.rest.current ∙ current_is sum own d s m w n f next kept turning))
    (let_go sum own d s m w n f _ next kept turning (ap (λ (l : LogState). l.asked) c.self.view_is ∙ c.in-Err.ensures.goes.asked))
