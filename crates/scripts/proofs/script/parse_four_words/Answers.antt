use Rattle.std.proofs.Common.{rules}
use Rattle.scripts.proofs.Lines.{no_four_words}
use Rattle.scripts.proofs.script.parse_four_words.Goals as goal

pub returns-in_default : goal.returns-in_default
returns-in_default c = record { reads = no_four_words c.args.name.now c.args.first.now c.args.second.now c.args.third.now c.requires.read c.requires.cached (λ is. search rules) (λ is. search rules) }
