use Rattle.std.proofs.Common.{subst, sym}
use Rattle.items.specs.declared.run.ItemStep.{ItemStep}
use Rattle.items.specs.Run.{DidItem}
use Rattle.items.proofs.Runs.{did_len}
use Rattle.items.proofs.run.ItemSession.step.Goals as goal

pub returns-in-Len : goal.returns-in-Len
returns-in-Len g c =
    let sum = g.H.Sum.sum_of in
    let life = g.B.Blob.life c.args.blob.now in
    record {
      did = subst (λ (step : ItemStep). DidItem sum step c.args.self.now c.args.self.now c.args.cache.now c.args.cache.now life life c.len.result) (sym c.in-Len.is)
          (did_len sum c.args.self.now c.args.cache.now life c.len.result c.requires.open c.len.ensures);
    }
