use Rattle.std.proofs.Common.{refl, subst, sym}
use Rattle.segments.proofs.Removals.{AsksBelow, asks_none_more}
use Rattle.segments.proofs.dropping.remove_files.Goals as goal

pub returns-in_err-remove-clause-unsynced : goal.returns-in_err-remove-clause-unsynced
returns-in_err-remove-clause-unsynced g c =
    let next = c.loop-number.number in
    let first = c.args.first in
    let old = g.F.Folder.asked c.args.folder.now in
    let looked = subst (λ now. AsksBelow next first old now) (sym c.has.ensures.asked) c.loop-number.invariant.0 in
    asks_none_more next first next old _ _ _ looked refl c.in_err-remove.ensures.asked
