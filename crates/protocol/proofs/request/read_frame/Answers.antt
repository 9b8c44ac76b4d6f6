use Rattle.std.proofs.Common.{◌≡◌, ◌+◌, ◌-◌, arith, length, take}
use Rattle.std.proofs.lemmas.List.{length-take-le}
use Rattle.protocol.proofs.Frames.{after_empty, after_end, after_kind, one_byte}
use Rattle.protocol.proofs.request.read_frame.Goals as goal

pub returns-then-length-eq0 : goal.returns-then-length-eq0
returns-then-length-eq0 g c = record { reads = after_empty c.args.version c.args.length (g.R.Read.remaining c.args.input.now) c.if-length-eq0.true }

pub returns-then-branch-eq0 : goal.returns-then-branch-eq0
returns-then-branch-eq0 g c =
    let read = c.in_ok-read_front.ensures in
    let room = c.read_front.new.room in
    let count = c.in_ok-read_front.field-0 in
    let none : length (take count room) ≡ 0 = omega (arith, length-take-le count room read.count, c.if-branch-eq0.true) in
    record {
      reads = after_end c.args.version c.args.length (take count room) (g.R.Read.remaining c.args.input.now) (g.R.Read.remaining c.read_front.new.input)
          c.requires (omega (arith, c.if-length-eq0.false)) none read.came.takes (read.came.ends (omega (arith, none)));
    }

pub returns : goal.returns
returns g c =
    let read = c.in_ok-read_front.ensures in
    let room = c.read_front.new.room in
    let count = c.in_ok-read_front.field-0 in
    let long : c.args.length - 1 + 1 ≡ c.args.length = omega (arith, c.if-length-eq0.false) in
    record {
      reads = after_kind c.args.version c.args.length (c.args.length - 1) _ (take count room)
          (g.R.Read.remaining c.args.input.now) (g.R.Read.remaining c.read_front.new.input) (g.R.Read.remaining c.read_body.new.input) c.read_body.result
          long (one_byte room count _ read.size c.if-branch-eq0.false) read.came.takes c.read_body.ensures.reads;
    }
