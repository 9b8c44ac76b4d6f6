use Rattle.disk.proofs.Torn.{torn_split}
use Rattle.disk.proofs.action.Action.tear.Goals as goal

pub returns-in_ok-tear_write-in-Write : goal.returns-in_ok-tear_write-in-Write
returns-in_ok-tear_write-in-Write c = λ os.
    rw c.in-Write.is (torn_split c.args.keep.now c.split_at.result.0.now c.split_at.result.1.now c.in-Write.offset c.min.result c.in-Write.bytes c.args.image.now.items c.tear_write.new.image.items os (cc) (cc) (cc) (let done = c.in_ok-tear_write-in-Write.ensures in cc))
