use Rattle.std.proofs.Common.{ℕ, List, ◌+◌, drop, sym, ap, ◌∙◌}
use Rattle.disk.specs.Torn.{torn_write}
use Rattle.disk.proofs.Torn.{torn_write_more}
use Rattle.disk.proofs.action.tear_write.Goals as goal

pub loop-index-preserved : goal.loop-index-preserved
loop-index-preserved c =
    let keep = c.args.keep.now in
    let bytes = c.args.bytes.now in
    let offset = c.args.offset in
    let i = c.loop-index.index in
    ap (λ (image : List ℕ). torn_write (drop (i + 1) keep) (offset + (i + 1)) (drop (i + 1) bytes) image) c.in_ok-put_flagged.ensures
    ∙ sym (torn_write_more keep bytes c.loop-index.image.items offset i c.loop-index-test.true c.requires)
    ∙ c.loop-index.invariant
