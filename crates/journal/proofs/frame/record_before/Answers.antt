use Rattle.std.proofs.Common.{◌≡◌, ◌++◌, ◌∙◌, List, ℕ, length, sym, ap}
use Rattle.journal.proofs.Frames.{record_of-before, record_of-none}
use Rattle.journal.proofs.frame.record_before.Goals as goal

pub returns-then-is_record_of : goal.returns-then-is_record_of
returns-then-is_record_of g c = λ frame says is.
    let same : c.as_ref.result.now ≡ c.args.bytes = c.as_ref.ensures in
    record_of-before g.R.Sum.sum_of frame c.args.bytes c.args.after.now
    (sym (c.is_record_of.ensures frame (says ∙ sym (ap length same)) (is ∙ ap (λ (l : List ℕ). l ++ c.args.after.now) (sym same))) ∙ c.if-is_record_of.true) says is

pub returns-else-is_record_of : goal.returns-else-is_record_of
returns-else-is_record_of g c = λ frame says is.
    let same : c.as_ref.result.now ≡ c.args.bytes = c.as_ref.ensures in
    record_of-none g.R.Sum.sum_of frame
    (sym (c.is_record_of.ensures frame (says ∙ sym (ap length same)) (is ∙ ap (λ (l : List ℕ). l ++ c.args.after.now) (sym same))) ∙ c.if-is_record_of.false)
