use Rattle.std.proofs.Common.{rules, ◌≡◌, ◌∙◌, Some, refl, sym}
use Rattle.items.proofs.Runs.{bad_push}
use Rattle.items.proofs.run.ItemSession.push.Goals as goal

pub returns-then-item-item_size : goal.returns-then-item-item_size
returns-then-item-item_size g c =
    let is : c.args.self.now ≡ Some c.in-Some.items = search rules in
    record {
      pushed = bad_push g.H.Sum.sum_of c.args.item.now c.args.self.now (Some c.in-Some.items) c.in-Some.items c.args.cache.now (g.B.Blob.life c.args.blob.now) is refl
          (λ same. c.if-item-item_size.true (same ∙ sym c.item_size.ensures)) c.requires.open;
    }
