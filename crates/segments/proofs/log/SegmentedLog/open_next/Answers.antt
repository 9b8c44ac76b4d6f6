use Rattle.std.proofs.Common.{arith, ◌∙◌}
use Rattle.segments.proofs.Rotating.{next_asked, next_of, unlisted_of}
use Rattle.segments.proofs.log.SegmentedLog.open_next.Goals as goal

pub returns-in-Ok-clause-goes : goal.returns-in-Ok-clause-goes
returns-in-Ok-clause-goes g c =
    next_of g.H.Sum.sum_of g.R.Sum.sum_of _ _ _ (g.B.Blob.life c.in_ok-blob.blob) c.in-Ok.next c.in-Ok.field-0-1.items c.self.view_is (λ full. c.if-number.false (c.open-number.ensures ∙ full)) c.in-Ok.ensures.has c.in-Ok.ensures.leaves c.in_ok-blob.ensures.rests
    (omega (arith, c.len.ensures, c.if-len-gt0.false))
    (next_asked (g.F.Folder.asked c.self.inside.folder) _ c.open-number.result _ (g.B.Blob.life c.in_ok-blob.blob) c.open-number.ensures (omega (arith, c.len.ensures, c.if-len-gt0.false)) c.in_ok-blob.ensures.asks_for)

pub returns-then-len-gt0-clause-goes : goal.returns-then-len-gt0-clause-goes
returns-then-len-gt0-clause-goes g c =
    unlisted_of _ c.args.self.now _ c.open-number.result (g.B.Blob.life c.in_ok-blob.blob).present.readable c.self.view_is c.open-number.ensures
    (omega (arith, c.len.ensures, c.if-len-gt0.true)) c.in_ok-blob.ensures.asks_for
