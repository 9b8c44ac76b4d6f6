use Rattle.std.proofs.Common.{refl}
use Rattle.protocol.specs.Answer.{answer_bytes}
use Rattle.protocol.proofs.Taken.{one_of}
use Rattle.protocol.proofs.taking.answer_one.Goals as goal

pub returns : goal.returns
returns g c =
    let reply = c.reply-item.result in
    (answer_bytes reply c.args.sync_failed, (reply, one_of c.args.replies.now reply c.in-len1.len_at_least c.in-len1.len_below c.reply-item.is, refl), c.write_answer.ensures)
