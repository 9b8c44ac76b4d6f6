use Rattle.std.proofs.Common.{◌≡◌, ◌∙◌, ap, subst, sym}
use Rattle.writer_state.specs.WriterState.{WriterState}
use Rattle.paged_read.specs.Tail.{logical_bytes, Tail, tail_at}
use Rattle.paged.specs.Caches.{tail_of}
use Rattle.journal.specs.Costs.{FrameCosts}
use Rattle.journal.specs.Journal.{ReadRecordGoes}
use Rattle.journal.specs.Reader.{IsOpenSnapshot, ViewLeaves}
use Rattle.journal.proofs.Readers.{opened_writer, views_read}
use Rattle.journal.proofs.journal.Journal.find.Goals as goal

pub frame_at-requires : goal.frame_at-requires
frame_at-requires g c =
    let v = c.view.result in
    let life = g.B.Blob.life c.args.blob.now in
    let e : tail_at v.page_size v.id v.tip.now ≡ tail_of c.args.self.now = c.view.ensures.tail ∙ ap (λ (w : WriterState). tail_of w) c.self.view_is in
    record {
      view = c.view.ensures.view;
      readable = subst (λ (t : Tail). IsOpenSnapshot g.H.Sum.sum_of t c.args.cache.now life) (sym e) (opened_writer g.H.Sum.sum_of c.args.self.now c.args.cache.now life c.requires.between);
    }

pub returns-clause-reads : goal.returns-clause-reads
returns-clause-reads g c =
    let v = c.view.result in
    let old = g.B.Blob.life c.args.blob.now in
    let new = g.B.Blob.life c.frame_at.new.blob in
    let e : tail_at v.page_size v.id v.tip.now ≡ tail_of c.args.self.now = c.view.ensures.tail ∙ ap (λ (w : WriterState). tail_of w) c.self.view_is in
    subst (λ (t : Tail). ReadRecordGoes g.R.Sum.sum_of (logical_bytes t old.present.readable) c.args.offset old new c.frame_at.result) e c.frame_at.ensures.goes

pub returns-clause-leaves : goal.returns-clause-leaves
returns-clause-leaves g c =
    let v = c.view.result in
    let old = g.B.Blob.life c.args.blob.now in
    let new = g.B.Blob.life c.frame_at.new.blob in
    let e : tail_at v.page_size v.id v.tip.now ≡ tail_of c.args.self.now = c.view.ensures.tail ∙ ap (λ (w : WriterState). tail_of w) c.self.view_is in
    views_read g.H.Sum.sum_of c.args.self.now c.args.cache.now c.frame_at.new.cache old new c.requires.between
    (subst (λ (t : Tail). ViewLeaves g.H.Sum.sum_of t c.args.cache.now c.frame_at.new.cache old new) e c.frame_at.ensures.leaves)

pub returns-clause-costs : goal.returns-clause-costs
returns-clause-costs g c =
    let v = c.view.result in
    let old = g.B.Blob.life c.args.blob.now in
    let new = g.B.Blob.life c.frame_at.new.blob in
    let e : tail_at v.page_size v.id v.tip.now ≡ tail_of c.args.self.now = c.view.ensures.tail ∙ ap (λ (w : WriterState). tail_of w) c.self.view_is in
    subst (λ (t : Tail). FrameCosts t (logical_bytes t old.present.readable) c.args.offset c.args.cache.now c.frame_at.new.cache old new) e c.frame_at.ensures.costs
