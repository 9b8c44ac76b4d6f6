use Rattle.std.proofs.Common.{rules, sym, subst, List, ℕ, [], ◌∷◌, codes, arith}
use Rattle.std.proofs.lemmas.Slice.Eq.{text_from_reads}
use Rattle.scripts.specs.Script.{IsReadAs, IsLine, line_words}
use Rattle.scripts.proofs.Lines.{no_two_words}
use Rattle.scripts.proofs.script.parse_two_words.Goals as goal

pub returns-in-119 : goal.returns-in-119
returns-in-119 c = record {
  reads = subst (λ (name : List ℕ). IsReadAs line_words IsLine (name ∷ c.args.word.now ∷ []) c.parse_wait_sync.result) (sym (text_from_reads c.args.name.now (codes "wait-sync") (omega arith) (search rules)))
      c.parse_wait_sync.ensures.reads;
}

pub returns-in-truncate : goal.returns-in-truncate
returns-in-truncate c = record {
  reads = subst (λ (name : List ℕ). IsReadAs line_words IsLine (name ∷ c.args.word.now ∷ []) c.parse_truncate.result) (sym (text_from_reads c.args.name.now (codes "truncate") (omega arith) (search rules)))
      c.parse_truncate.ensures.reads;
}

pub returns-in_default : goal.returns-in_default
returns-in_default c = record { reads = no_two_words c.args.name.now c.args.word.now c.requires.read c.requires.cached (λ is. search rules) (λ is. search rules) (λ is. search rules) (λ is. search rules) (λ is. search rules) (λ is. search rules) (λ is. search rules) (λ is. search rules) }
