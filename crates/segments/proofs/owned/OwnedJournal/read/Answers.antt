use Rattle.std.specs.Int.NonZero.{non_zero_u16_get}
use Rattle.segments.proofs.Ahead.{digests_looked}
use Rattle.segments.proofs.owned.OwnedJournal.read.Goals as goal

pub invariant_of-self : goal.invariant_of-self
invariant_of-self g c =
    digests_looked g.D.Digest.digest_of (non_zero_u16_get c.self.inside.page_size) (g.B.Blob.life c.self.inside.blob) (g.B.Blob.life c.read_record.new.blob) c.self.inside.digesting c.self.inside.journal
    c.read_record.ensures.leaves.looked c.self.invariant
