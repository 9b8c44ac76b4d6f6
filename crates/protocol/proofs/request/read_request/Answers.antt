use Rattle.std.proofs.Common.{◌≡◌, ◌<◌, ◌∙◌, sym, arith, length, take}
use Rattle.std.proofs.lemmas.Grind.{common_steps}
use Rattle.std.proofs.lemmas.List.{length-take-le, take_all}
use Rattle.protocol.proofs.Frames.{request_cut, request_refused}
use Rattle.protocol.proofs.request.read_request.Goals as goal

pub returns-then-count-lt4 : goal.returns-then-count-lt4
returns-then-count-lt4 g c =
    let read = c.in_ok-count.ensures in
    let head = take c.in_ok-count.count c.read_front.new.room in
    let long : length head ≡ c.in_ok-count.count = length-take-le c.in_ok-count.count c.read_front.new.room read.count in
    let short : length head < 4 = omega (arith, long, c.if-count-lt4.true) in
    record {
      request = request_cut c.args.version (g.R.Read.remaining c.args.input.now) (g.R.Read.remaining c.read_front.new.input) head
          short (omega (arith, long, c.if-count-eq0.false)) read.came.takes (read.came.ends short);
    }

pub returns-in_err-request : goal.returns-in_err-request
returns-in_err-request g c =
    let read = c.in_ok-count.ensures in
    let room = c.read_front.new.room in
    let head = take c.in_ok-count.count room in
    let all : head ≡ room = take_all c.in_ok-count.count room (omega (arith, read.size, c.if-count-lt4.false)) in
    let four : length head ≡ 4 = omega (arith, length-take-le c.in_ok-count.count room read.count, read.count, read.size, c.if-count-lt4.false) in
    record {
      request = request_refused c.args.version c.length_of-length.result head
          (g.R.Read.remaining c.args.input.now) (g.R.Read.remaining c.read_front.new.input) (g.R.Read.remaining c.read_frame.new.input)
          c.in_err-request.field-0.0 c.from_residual-in_err-request.result four (c.length_of-length.ensures.told ∙ sym all)
          read.came.takes c.from_residual-in_err-request.ensures.1 c.in_err-request.ensures.reads;
    }

pub returns : goal.returns
returns g c = grind (arith, common_steps)
