use Rattle.segments.specs.Log.{AsksWell}
use Rattle.segments.proofs.Removals.{AsksBelow}
use Rattle.segments.proofs.dropping.remove_files.Given as goal

abbrev pub invariant-loop-number : goal.invariant-loop-number
invariant-loop-number g l =
    let old = g.F.Folder.asked l.fn.folder in
    let now = g.F.Folder.asked l.folder in
    AsksBelow l.number l.first old now × AsksWell old now
