use Rattle.std.proofs.Common.{List, ℕ, subst, sym}
use Rattle.journal.specs.Frame.{AreWholeFrames}
use Rattle.journal.proofs.Journals.{between_of, is_journal, whole_of}
use Rattle.journal.proofs.Readers.{reads_leave}
use Rattle.journal.proofs.Starts.{starts_looked}
use Rattle.journal.proofs.journal.Journal.read_record.Goals as goal

pub find-requires : goal.find-requires
find-requires g c = record { between = between_of g.H.Sum.sum_of c.args.self.now c.args.cache.now (g.B.Blob.life c.args.blob.now) c.requires.journal }

pub returns-clause-ready : goal.returns-clause-ready
returns-clause-ready g c =
    let left = c.find.ensures.leaves in
    is_journal g.H.Sum.sum_of c.args.self.now c.find.new.cache (g.B.Blob.life c.find.new.blob) left.between
    (subst (λ (l : List ℕ). AreWholeFrames l) (sym left.holds) (whole_of g.H.Sum.sum_of c.args.self.now c.args.cache.now (g.B.Blob.life c.args.blob.now) c.requires.journal))

pub returns-clause-leaves : goal.returns-clause-leaves
returns-clause-leaves g c = reads_leave g.H.Sum.sum_of g.R.Sum.sum_of c.args.self.now c.args.cache.now c.find.new.cache (g.B.Blob.life c.args.blob.now) (g.B.Blob.life c.find.new.blob) c.find.ensures.leaves

pub returns-clause-starts : goal.returns-clause-starts
returns-clause-starts g c = starts_looked g.H.Sum.sum_of g.R.Sum.sum_of c.args.self.now (g.B.Blob.life c.args.blob.now) (g.B.Blob.life c.find.new.blob) c.find.ensures.leaves.looked

pub returns-clause-costs : goal.returns-clause-costs
returns-clause-costs g c = c.find.ensures.costs
