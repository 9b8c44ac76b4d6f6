use Rattle.std.proofs.Common.{length, inl, inr, ap, sym, ◌∙◌, arith}
use Rattle.std.specs.Prelude.{Some}
use Rattle.std.proofs.lemmas.Bool.{cases_lt}
use Rattle.std.proofs.lemmas.Option.{slice_get-get_or}
use Rattle.disk.proofs.Starts.{failing_set, failing_out}
use Rattle.disk.proofs.action.fail.Goals as goal

pub returns-in-Some : goal.returns-in-Some
returns-in-Some c =
    let starts = c.args.starts.now.items in
    let item = c.in-Some.ensures.item.3 in
    failing_set starts c.args.name c.in-Some.start.now (slice_get-get_or starts c.args.name c.in-Some.start.now item.0 ∙ ap Some (sym (item.1 c.in-Some.start.now)))

pub returns-in_default : goal.returns-in_default
returns-in_default c =
    let starts = c.args.starts.now in
    elim (cases_lt c.args.name (length starts.items)) [
      | inl below ↦ absurd (let wrong = c.in_default.ensures.variant.1 (omega (arith, below, starts.ok.0)) in cc)
      | inr out ↦ failing_out starts.items c.args.name out
    ]
