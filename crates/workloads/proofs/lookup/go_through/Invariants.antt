use Rattle.cache.specs.Pages.{IsFresh}
use Rattle.journal.specs.Reader.{IsReader}
use Rattle.workloads.proofs.lookup.go_through.Given as goal

abbrev pub invariant-loop : goal.invariant-loop
invariant-loop g l =
    IsFresh l.cache × IsReader g.H.Sum.sum_of l.reader l.cache (g.B.Blob.life l.blob)
