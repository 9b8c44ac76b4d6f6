use Rattle.std.proofs.Common.{◌≡◌, drop}
use Rattle.protocol.specs.Answer.{fault_in}
use Rattle.protocol.proofs.refusal.first_fault.Given as goal

abbrev pub invariant-loop-reply : goal.invariant-loop-reply
invariant-loop-reply l = fault_in (drop l.reply-index l.replies) ≡ fault_in l.replies
