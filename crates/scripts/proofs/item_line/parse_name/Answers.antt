use Rattle.std.proofs.Common.{rules, ap, List, ℕ, [], ◌∷◌, codes, arith}
use Rattle.std.proofs.lemmas.Slice.Eq.{text_from_reads}
use Rattle.scripts.proofs.item_line.parse_name.Goals as goal

pub returns-in-recover : goal.returns-in-recover
returns-in-recover c = record { reads = (ap (λ (word : List ℕ). word ∷ []) (text_from_reads c.args.name.now (codes "recover") (omega arith) (search rules)), tt) }
