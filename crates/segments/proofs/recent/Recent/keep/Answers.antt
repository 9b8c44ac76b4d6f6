use Rattle.std.proofs.Common.{arith}
use Rattle.segments.proofs.Recents.{kept_full, kept_room}
use Rattle.segments.proofs.recent.Recent.keep.Goals as goal

pub returns-then-len-lt-OPENED : goal.returns-then-len-lt-OPENED
returns-then-len-lt-OPENED g c = kept_room c.args.segment c.self.inside.segments.items c.args.self.now c.push_reserved.new.self.items c.self.view_is (omega arith) c.push_reserved.ensures.items

pub returns : goal.returns
returns g c =
    kept_full c.args.segment c.self.inside.segments.items c.args.self.now c.remove.new.self.items c.push_reserved-2.new.self.items c.self.view_is (omega arith) c.remove.ensures.by_index.2 c.push_reserved-2.ensures.items
