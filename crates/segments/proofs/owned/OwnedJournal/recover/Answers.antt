use Rattle.std.specs.Prelude.{Some}
use Rattle.std.specs.Int.NonZero.{non_zero_u16_get}
use Rattle.segments.proofs.Ahead.{digests_none}
use Rattle.segments.proofs.owned.OwnedJournal.recover.Goals as goal

pub invariant_of-self : goal.invariant_of-self
invariant_of-self g c =
    digests_none g.D.Digest.digest_of (non_zero_u16_get c.self.inside.page_size) (g.B.Blob.life c.recover.new.blob) c.new.result (Some c.in-Ok.journal) c.new.ensures.begun c.new.ensures.pages
