use Rattle.std.specs.Prelude.{false}
use Rattle.protocol.specs.Answer.{answer_bytes}
use Rattle.protocol.proofs.Taken.{last_answer}
use Rattle.protocol.proofs.taking.write_last.Goals as goal

pub returns : goal.returns
returns g c =
    let reply = c.in-Some.reply.now in
    (answer_bytes reply false, last_answer 0 c.args.replies.now reply c.requires.none c.in-Some.ensures.value, c.write_answer.ensures)
