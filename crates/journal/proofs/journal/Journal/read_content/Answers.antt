use Rattle.std.proofs.Common.{◌≡◌, ◌∙◌, ℕ, List, ap, arith, length, subst, sym}
use Rattle.writer_state.specs.WriterState.{WriterState}
use Rattle.paged_read.specs.Tail.{CanRead, Tail, tail_at}
use Rattle.paged.specs.Caches.{tail_of}
use Rattle.paged_read.specs.Reads.{ReadCosts, ReadIntoGoes, ReadLeaves}
use Rattle.journal.specs.Frame.{AreWholeFrames}
use Rattle.journal.specs.Journal.{OnlyReads}
use Rattle.journal.proofs.Costs.{range_costs}
use Rattle.journal.proofs.Journals.{between_of, is_journal, whole_of}
use Rattle.journal.proofs.Readers.{content_filled, opened_writer, read_views, reads_leave, views_read}
use Rattle.journal.proofs.Starts.{starts_looked}
use Rattle.journal.proofs.journal.Journal.read_content.Given.{Over}
use Rattle.journal.proofs.journal.Journal.read_content.Goals as goal
use Rattle.journal.proofs.journal.Journal.read_content.Goals.{After-read_into}

-- the view is that of the journal's writer
same : (g : Over) (c : After-read_into g) → tail_at c.view.result.page_size c.view.result.id c.view.result.tip.now ≡ tail_of c.args.self.now
same g c = c.view.ensures.tail ∙ ap (λ (w : WriterState). tail_of w) c.self.view_is

pub read_into-requires : goal.read_into-requires
read_into-requires g c =
    let v = c.view.result in
    let life = g.B.Blob.life c.args.blob.now in
    let e : tail_at v.page_size v.id v.tip.now ≡ tail_of c.args.self.now = c.view.ensures.tail ∙ ap (λ (w : WriterState). tail_of w) c.self.view_is in
    let between = between_of g.H.Sum.sum_of c.args.self.now c.args.cache.now life c.requires.journal in
    record {
      view = c.view.ensures.view;
      can = subst (λ (t : Tail). CanRead t c.args.cache.now life.present) (sym e) (opened_writer g.H.Sum.sum_of c.args.self.now c.args.cache.now life between).stands.can;
    }

pub returns-clause-goes : goal.returns-clause-goes
returns-clause-goes g c =
    let sum = g.H.Sum.sum_of in
    let w = c.args.self.now in
    let old = g.B.Blob.life c.args.blob.now in
    let new = g.B.Blob.life c.read_into.new.blob in
    let goes = subst (λ (t : Tail). ReadIntoGoes sum t c.args.cache.now c.args.offset c.args.bytes.now c.read_into.new.buf old new c.read_into.result) (same g (goal.at.returns-clause-goes g c).After-read_into) c.read_into.ensures.goes in
    content_filled sum (tail_of w) c.args.cache.now c.args.offset c.args.bytes.now c.read_into.new.buf old new c.read_into.result goes
    (opened_writer sum w c.args.cache.now old (between_of sum w c.args.cache.now old c.requires.journal)) c.requires.within (omega (arith, c.requires.within, c.size.ensures))

-- what the read leaves
left : (g : Over) (c : After-read_into g) → OnlyReads g.H.Sum.sum_of c.args.self.now c.args.cache.now c.read_into.new.cache (g.B.Blob.life c.args.blob.now) (g.B.Blob.life c.read_into.new.blob)
left g c =
    let sum = g.H.Sum.sum_of in
    let w = c.args.self.now in
    let old = g.B.Blob.life c.args.blob.now in
    let new = g.B.Blob.life c.read_into.new.blob in
    let between = between_of sum w c.args.cache.now old c.requires.journal in
    views_read sum w c.args.cache.now c.read_into.new.cache old new between
    (read_views sum (tail_of w) c.args.cache.now c.read_into.new.cache old new (opened_writer sum w c.args.cache.now old between)
    (subst (λ (t : Tail). ReadLeaves sum t c.args.cache.now c.read_into.new.cache old new) (same g c) c.read_into.ensures.leaves))

pub returns-clause-ready : goal.returns-clause-ready
returns-clause-ready g c =
    let sum = g.H.Sum.sum_of in
    let w = c.args.self.now in
    let reads = left g (goal.at.returns-clause-ready g c).After-read_into in
    is_journal sum w c.read_into.new.cache (g.B.Blob.life c.read_into.new.blob) reads.between
    (subst (λ (l : List ℕ). AreWholeFrames l) (sym reads.holds) (whole_of sum w c.args.cache.now (g.B.Blob.life c.args.blob.now) c.requires.journal))

pub returns-clause-leaves : goal.returns-clause-leaves
returns-clause-leaves g c =
    reads_leave g.H.Sum.sum_of g.R.Sum.sum_of c.args.self.now c.args.cache.now c.read_into.new.cache (g.B.Blob.life c.args.blob.now) (g.B.Blob.life c.read_into.new.blob)
    (left g (goal.at.returns-clause-leaves g c).After-read_into)

pub returns-clause-starts : goal.returns-clause-starts
returns-clause-starts g c =
    starts_looked g.H.Sum.sum_of g.R.Sum.sum_of c.args.self.now (g.B.Blob.life c.args.blob.now) (g.B.Blob.life c.read_into.new.blob) c.read_into.ensures.leaves.looked

pub returns-clause-costs : goal.returns-clause-costs
returns-clause-costs g c =
    let sum = g.H.Sum.sum_of in
    let range : ℕ × ℕ = (c.args.offset, length c.args.bytes.now) in
    let old = g.B.Blob.life c.args.blob.now in
    let new = g.B.Blob.life c.read_into.new.blob in
    range_costs sum (tail_of c.args.self.now) range c.args.cache.now c.read_into.new.cache old new c.read_into.result
    (subst (λ (t : Tail). ReadCosts sum t range c.args.cache.now c.read_into.new.cache old new c.read_into.result) (same g (goal.at.returns-clause-costs g c).After-read_into) c.read_into.ensures.costs)
