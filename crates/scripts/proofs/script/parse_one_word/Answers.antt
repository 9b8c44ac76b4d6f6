use Rattle.std.proofs.Common.{◌≡◌, rules, ap, length, List, ℕ, [], ◌∷◌, codes, arith}
use Rattle.std.proofs.lemmas.Slice.Eq.{text_from_reads, HasBytesAt}
use Rattle.scripts.proofs.Lines.{no_one_word}
use Rattle.scripts.proofs.script.parse_one_word.Goals as goal

pub returns-in-recover : goal.returns-in-recover
returns-in-recover c = record { reads = (ap (λ (word : List ℕ). word ∷ []) (text_from_reads c.args.name.now (codes "recover") (omega arith) (search rules)), tt) }

pub returns-in-115 : goal.returns-in-115
returns-in-115 c = record { reads = (ap (λ (word : List ℕ). word ∷ []) (text_from_reads c.args.name.now (codes "start-sync") (omega arith) (search rules)), tt) }

pub returns-in-snapshot : goal.returns-in-snapshot
returns-in-snapshot c = record { reads = (ap (λ (word : List ℕ). word ∷ []) (text_from_reads c.args.name.now (codes "snapshot") (omega arith) (search rules)), tt) }

pub returns-in-116 : goal.returns-in-116
returns-in-116 c = record { reads = (ap (λ (word : List ℕ). word ∷ []) (text_from_reads c.args.name.now (codes "try-snapshot") (omega arith) (search rules)), tt) }

-- byte by byte, since the search doesn't read so long a name at once
no_try_snapshot : (c : goal.In_default) → length c.args.name.now ≡ 12 → HasBytesAt c.args.name.now 0 (codes "try-snapshot") → ⊥
no_try_snapshot c long bytes = search rules

pub returns-in_default : goal.returns-in_default
returns-in_default c = record { reads = no_one_word c.args.name.now (λ is. search rules) (λ is. search rules) (λ is. search rules) (λ is. search rules) (λ is. search rules) (λ is. search rules) (λ is. search rules) (λ is. search rules) (λ is. search rules) (λ is. no_try_snapshot c (ap (λ (word : List ℕ). length word) is) (search rules)) (λ is. search rules) }
