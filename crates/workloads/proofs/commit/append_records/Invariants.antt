use Rattle.cache.specs.Pages.{IsFresh}
use Rattle.journal.specs.Journal.{IsJournal}
use Rattle.workloads.proofs.commit.append_records.Given as goal

abbrev pub invariant-loop : goal.invariant-loop
invariant-loop g l =
    IsFresh l.cache × IsJournal g.H.Sum.sum_of l.journal l.cache (g.B.Blob.life l.blob)
