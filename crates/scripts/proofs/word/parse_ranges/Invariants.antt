use Rattle.std.proofs.Common.{◌≡◌, map, take}
use Rattle.std.specs.Prelude.{All}
use Rattle.scripts.specs.Script.{IsRangeOfU64, range_word}
use Rattle.scripts.proofs.word.parse_ranges.Given as goal

abbrev pub invariant-loop-word : goal.invariant-loop-word
invariant-loop-word l = record {
  same : map range_word l.ranges.items ≡ take l.word-index (map (λ word. word.now) l.words);
  are : All IsRangeOfU64 l.ranges.items;
}
