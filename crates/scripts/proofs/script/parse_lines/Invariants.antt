use Rattle.std.proofs.Common.{◌≡◌, take, map}
use Rattle.scripts.specs.Script.{words_of}
use Rattle.scripts.proofs.script.parse_lines.Given as goal

abbrev pub invariant-loop-index : goal.invariant-loop-index
invariant-loop-index g l = map g.L.AnyLine.words l.lines.items ≡ map words_of (take l.index (map (λ line. line.now) l.others))
