use Rattle.std.proofs.Common.{◌≡◌, ◌∙◌, sym, ap, true, false, rules}
use Rattle.std.specs.Prelude.{is_some}
use Rattle.protocol.specs.Together.{tells_ranges}
use Rattle.protocol.specs.declared.request.Request.TheVariants.{Ranges}
use Rattle.protocol.proofs.Requested.{and_false, no_steps, reads_ranges, unreadable}
use Rattle.protocol.proofs.taking.take_ranges.Goals as goal

pub returns-in_default-clause-takes : goal.returns-in_default-clause-takes
returns-in_default-clause-takes g c =
    let none : tells_ranges c.args.fields.items ≡ false = ap tells_ranges (sym c.deref.ensures.value) ∙ sym c.in_ok-ranges.ensures.tells ∙ ap is_some c.in_default.is in
    unreadable g.H.Sum.sum_of c.args.setting.now (Ranges c.args.fields) c.args.session.now (g.B.Blob.life c.args.blob.now) (g.B.Cause.sync_failed c.args.blob.now) (g.W.Write.contents c.args.out.now) (g.W.Write.contents c.tell_unreadable.new.out) c.tell_unreadable.result
    (and_false c.args.setting.now.read_only) (no_steps c.args.setting.now c.args.fields none) none c.tell_unreadable.ensures

pub take_last-requires-clause-steps : goal.take_last-requires-clause-steps
take_last-requires-clause-steps g c =
    let are : tells_ranges c.args.fields.items ≡ true = ap tells_ranges (sym c.deref.ensures.value) ∙ sym c.in_ok-ranges.ensures.tells ∙ ap is_some c.in-Some.is in
    reads_ranges c.args.setting.now c.args.fields c.in-Some.ranges are (search rules)
