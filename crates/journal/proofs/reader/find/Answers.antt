use Rattle.std.proofs.Common.{subst, sym}
use Rattle.paged_read.specs.Tail.{logical_bytes, Tail}
use Rattle.journal.specs.Costs.{FrameCosts}
use Rattle.journal.specs.Journal.{ReadRecordGoes}
use Rattle.journal.specs.Reader.{IsOpenSnapshot, ViewLeaves}
use Rattle.journal.proofs.Readers.{views_look}
use Rattle.journal.proofs.reader.find.Goals as goal

pub frame_at-requires : goal.frame_at-requires
frame_at-requires g c =
    let life = g.B.Blob.life c.args.blob.now in
    record {
      view = c.view.ensures.view;
      readable = subst (λ (t : Tail). IsOpenSnapshot g.H.Sum.sum_of t c.args.cache.now life) (sym c.view.ensures.tail) c.requires.opened;
    }

pub returns-clause-reads : goal.returns-clause-reads
returns-clause-reads g c =
    let old = g.B.Blob.life c.args.blob.now in
    let new = g.B.Blob.life c.frame_at.new.blob in
    subst (λ (t : Tail). ReadRecordGoes g.R.Sum.sum_of (logical_bytes t old.present.readable) c.args.offset old new c.frame_at.result) c.view.ensures.tail c.frame_at.ensures.goes

pub returns-clause-leaves : goal.returns-clause-leaves
returns-clause-leaves g c =
    let old = g.B.Blob.life c.args.blob.now in
    let new = g.B.Blob.life c.frame_at.new.blob in
    views_look g.H.Sum.sum_of c.args.snapshot.now c.args.cache.now c.frame_at.new.cache old new c.view.ensures.short
    (subst (λ (t : Tail). ViewLeaves g.H.Sum.sum_of t c.args.cache.now c.frame_at.new.cache old new) c.view.ensures.tail c.frame_at.ensures.leaves)

pub returns-clause-costs : goal.returns-clause-costs
returns-clause-costs g c =
    let old = g.B.Blob.life c.args.blob.now in
    let new = g.B.Blob.life c.frame_at.new.blob in
    subst (λ (t : Tail). FrameCosts t (logical_bytes t old.present.readable) c.args.offset c.args.cache.now c.frame_at.new.cache old new) c.view.ensures.tail c.frame_at.ensures.costs
