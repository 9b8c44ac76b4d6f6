use Rattle.std.proofs.Common.{rules, tests}
use Rattle.std.proofs.lemmas.Iterator.Consumers.{map_from_collect}
use Rattle.std.proofs.lemmas.Iterator.Splits.{YieldsList-from_slice_split}
use Rattle.scripts.proofs.Lines.{some_parts}
use Rattle.scripts.proofs.word.parts.Goals as goal

pub returns-clause-parts : goal.returns-clause-parts
returns-clause-parts c = map_from_collect _ c.collect.ensures.ran (YieldsList-from_slice_split _ _ c.args.bytes.now c.split.ensures.rest c.split.ensures.done c.split.ensures.closure (λ x r q k. search (rules, tests)))

pub returns-clause-some : goal.returns-clause-some
returns-clause-some c = some_parts c.args.at c.args.bytes.now c.collect.result (returns-clause-parts c)
