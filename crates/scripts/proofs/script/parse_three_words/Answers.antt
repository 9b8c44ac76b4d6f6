use Rattle.std.proofs.Common.{rules}
use Rattle.scripts.proofs.Lines.{no_three_words}
use Rattle.scripts.proofs.script.parse_three_words.Goals as goal

pub returns-in_default : goal.returns-in_default
returns-in_default c = record { reads = no_three_words c.args.name.now c.args.first.now c.args.second.now c.requires.read c.requires.cached (λ is. search rules) (λ is. search rules) (λ is. search rules) (λ is. search rules) (λ is. search rules) (λ is. search rules) }
