use Rattle.std.proofs.Common.{◌≡◌, drop}
use Rattle.protocol.specs.Answer.{first_refusal, refusal_from}
use Rattle.protocol.proofs.refusal.tell_refusal.Given as goal

abbrev pub invariant-loop-reply : goal.invariant-loop-reply
invariant-loop-reply g l = record {
  same : g.W.Write.contents l.out ≡ g.W.Write.contents l.fn.out;
  counts : l.taken ≡ l.reply-index;
  rest : refusal_from l.taken (drop l.reply-index l.replies) ≡ first_refusal l.replies;
}
