use Rattle.std.proofs.Common.{ap, subst, sym}
use Rattle.disk.specs.Disk.{Life}
use Rattle.crash.specs.Looks.{Looked, looked_joins, looked_start}
use Rattle.workloads.proofs.load.pass_all.Goals as goal
use Rattle.workloads.proofs.load.pass_all.Goals.{else-loop-test, then-loop-test+in_ok-ensure+then-not-branch}

pub loop-init : goal.loop-init
loop-init g c = (c.requires, looked_start (g.B.Blob.life c.args.blob.now))

pub loop-preserved : goal.loop-preserved
loop-preserved g c = (
  c.advance.ensures.replays.0 (g.B.Blob.life c.ensure.new.blob).present c.ensure.ensures.goes.can,
  looked_joins (g.B.Blob.life c.args.blob.now) (g.B.Blob.life c.loop.blob)
      (g.B.Blob.life c.ensure.new.blob) c.loop.invariant.1 c.ensure.ensures.leaves.looked,
)

pub returns-in_err-ensure : goal.returns-in_err-ensure
returns-in_err-ensure g c =
    looked_joins (g.B.Blob.life c.args.blob.now) (g.B.Blob.life c.loop.blob)
    (g.B.Blob.life c.ensure.new.blob) c.loop.invariant.1 c.ensure.ensures.leaves.looked

pub returns : goal.returns
returns g c =
    let old = g.B.Blob.life c.args.blob.now in
    elim c.loop-test.branch [
      | else-loop-test w ↦
          subst (λ (l : Life). Looked old l) (sym (ap g.B.Blob.life w.blob-is)) c.loop.invariant.1
      | then-loop-test+in_ok-ensure+then-not-branch w ↦
          subst (λ (l : Life). Looked old l) (sym (ap g.B.Blob.life w.blob-is))
          (looked_joins old (g.B.Blob.life c.loop.blob) (g.B.Blob.life w.ensure.new.blob)
          c.loop.invariant.1 w.ensure.ensures.leaves.looked)
    ]
