use Rattle.std.proofs.Common.{rules, sym, subst, map, List, ℕ, ◌∷◌, codes, Bor, arith}
use Rattle.std.proofs.lemmas.Slice.Eq.{text_from_reads}
use Rattle.scripts.specs.Script.{IsReadAs, IsLine, line_words}
use Rattle.scripts.proofs.script.parse_named.Goals as goal

pub returns-in-99 : goal.returns-in-99
returns-in-99 c = record {
  reads = subst (λ (name : List ℕ). IsReadAs line_words IsLine (name ∷ map (λ (word : Bor (List ℕ)). word.now) c.args.others.now) c.parse_try_read_ranges.result)
      (sym (text_from_reads c.args.name.now (codes "cached-ranges") (omega arith) (search rules))) c.parse_try_read_ranges.ensures.reads;
}
