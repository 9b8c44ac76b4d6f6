use Rattle.std.proofs.Common.{◌≡◌, take, map}
use Rattle.scripts.specs.Script.{flag_digit}
use Rattle.scripts.proofs.word.parse_flags.Given as goal

abbrev pub invariant-loop-digit : goal.invariant-loop-digit
invariant-loop-digit l = map flag_digit l.flags.items ≡ take l.digit-index l.word
