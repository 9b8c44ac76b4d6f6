use Rattle.std.proofs.Common.{sym, ◌∙◌}
use Rattle.std.specs.Int.NonZero.{non_zero_u16_get}
use Rattle.segments.proofs.Ahead.{ahead_kept, digests_taken}
use Rattle.segments.proofs.owned.OwnedJournal.commit.Goals as goal

pub invariant_of-self-in-Ok : goal.invariant_of-self-in-Ok
invariant_of-self-in-Ok g c =
    let d = g.D.Digest.digest_of in
    let P = non_zero_u16_get c.self.inside.page_size in
    let was = digests_taken d P (g.B.Blob.life c.self.inside.blob) c.self.inside.digesting c.self.inside.journal c.in-Some.journal c.self.invariant (sym c.take.ensures.value ∙ c.in-Some.is) in
    ahead_kept d P _ _ c.self.inside.digesting was (c.in-Ok.ensures).goes.holds
