use Rattle.std.specs.Prelude.{Ok, Option, ◌<◌}
use Rattle.std.proofs.Common.{arith, subst}
use Rattle.journal.specs.declared.frame.Found.{Found}
use Rattle.segments.specs.Owned.{OwnedReadGoes}
use Rattle.segments.proofs.Joining.{leaves_current, leaves_joins}
use Rattle.segments.proofs.OpenWalks.{open_on, open_stops}
use Rattle.segments.proofs.log.SegmentedLog.nth_of_open.Goals as goal

pub loop-found-preserved-else-left-eq0 : goal.loop-found-preserved-else-left-eq0
loop-found-preserved-else-left-eq0 g c =
    let sum = g.H.Sum.sum_of in
    let own = g.R.Sum.sum_of in
    let m = c.loop-found.self in
    let t = c.read_current.new.self in
    let inv = c.loop-found.invariant in
    let some : 0 < c.loop-found.left = omega arith in
    record {
      ready = c.read_current.ensures.ready;
      leaves = leaves_joins sum own c.args.self.now m t inv.leaves (leaves_current sum own m t c.read_current.ensures.rest c.read_current.ensures.leaves);
      walking = open_on sum own c.args.self.now m t c.args.n c.loop-found.left c.loop-found.at c.in-Some.found some inv.leaves inv.walking
          (subst (λ (o : Option Found). OwnedReadGoes own c.loop-found.at m.current t.current (Ok o)) c.in-Some.is c.in_ok-found.ensures.goes);
    }

pub loop-found-preserved-else-left-eq0-2 : goal.loop-found-preserved-else-left-eq0-2
loop-found-preserved-else-left-eq0-2 g c =
    let sum = g.H.Sum.sum_of in
    let own = g.R.Sum.sum_of in
    let m = c.loop-found.self in
    let t = c.read_current.new.self in
    let inv = c.loop-found.invariant in
    let some : 0 < c.loop-found.left = omega arith in
    record {
      ready = c.read_current.ensures.ready;
      leaves = leaves_joins sum own c.args.self.now m t inv.leaves (leaves_current sum own m t c.read_current.ensures.rest c.read_current.ensures.leaves);
      walking = open_on sum own c.args.self.now m t c.args.n c.loop-found.left c.loop-found.at c.in-Some.found some inv.leaves inv.walking
          (subst (λ (o : Option Found). OwnedReadGoes own c.loop-found.at m.current t.current (Ok o)) c.in-Some.is c.in_ok-found.ensures.goes);
    }

pub loop-found-preserved : goal.loop-found-preserved
loop-found-preserved g c =
    let sum = g.H.Sum.sum_of in
    let own = g.R.Sum.sum_of in
    let m = c.loop-found.self in
    let t = c.read_current.new.self in
    let inv = c.loop-found.invariant in
    let some : 0 < c.loop-found.left = omega arith in
    record {
      ready = c.read_current.ensures.ready;
      leaves = leaves_joins sum own c.args.self.now m t inv.leaves (leaves_current sum own m t c.read_current.ensures.rest c.read_current.ensures.leaves);
      walking = open_on sum own c.args.self.now m t c.args.n c.loop-found.left c.loop-found.at c.in-Some.found some inv.leaves inv.walking
          (subst (λ (o : Option Found). OwnedReadGoes own c.loop-found.at m.current t.current (Ok o)) c.in-Some.is c.in_ok-found.ensures.goes);
    }

pub returns-in-None-clause-goes : goal.returns-in-None-clause-goes
returns-in-None-clause-goes g c =
    let sum = g.H.Sum.sum_of in
    let own = g.R.Sum.sum_of in
    let m = c.loop-found.self in
    let t = c.read_current.new.self in
    let inv = c.loop-found.invariant in
    open_stops sum own c.args.self.now m t t c.args.n c.loop-found.left c.loop-found.at inv.leaves inv.walking
    (subst (λ (o : Option Found). OwnedReadGoes own c.loop-found.at m.current t.current (Ok o)) c.in-None.is c.in_ok-found.ensures.goes)
