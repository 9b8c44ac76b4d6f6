use Rattle.std.proofs.Common.{◌∙◌, ap}
use Rattle.std.specs.Int.NonZero.{non_zero_u16_get}
use Rattle.segments.specs.SegmentLevels.{SegmentDigestingState}
use Rattle.segments.proofs.Ahead.{digests_gone, digests_renewed}
use Rattle.segments.proofs.owned.OwnedJournal.take_digesting.Goals as goal

pub invariant_of-self : goal.invariant_of-self
invariant_of-self g c =
    digests_renewed g.D.Digest.digest_of (non_zero_u16_get c.self.inside.page_size) (g.B.Blob.life c.self.inside.blob) c.new-begun.result c.replace.new.dest c.self.inside.journal c.replace.ensures.after c.new-begun.ensures.begun c.new-begun.ensures.pages

pub returns-clause-taken : goal.returns-clause-taken
returns-clause-taken g c =
    digests_gone _ c.args.self.now c.replace.new.dest.digested.pages c.self.view_is
    (ap (λ (x : SegmentDigestingState). x.digested.pages) c.replace.ensures.after ∙ c.new-begun.ensures.pages)
