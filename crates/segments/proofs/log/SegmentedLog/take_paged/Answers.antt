use Rattle.std.specs.Prelude.{List, ℕ}
use Rattle.std.proofs.Common.{ap, subst, sym}
use Rattle.std.specs.Int.NonZero.{non_zero_u16_get}
use Rattle.segments.specs.Log.{IsLog, LogState}
use Rattle.segments.specs.PagedReads.{PagedSegmentState}
use Rattle.segments.specs.Recent.{HavePages}
use Rattle.segments.proofs.Recents.{pages_left, taken_of}
use Rattle.segments.proofs.log.SegmentedLog.take_paged.Goals as goal

pub returns-in-Some-clause-goes : goal.returns-in-Some-clause-goes
returns-in-Some-clause-goes g c =
    let P : ℕ = c.args.self.now.page_size in
    let have = subst (λ (l : List PagedSegmentState). HavePages P l) (sym (ap (λ (s : LogState). s.reading.paged) c.self.view_is)) c.requires.log.reading.paged in
    taken_of P c.args.number c.args.kept.seal c.args.kept.marks c.self.inside.recent c.take.new.self c.in-Some.segment c.in-Some.ensures have

pub returns-in-Some-clause-ready : goal.returns-in-Some-clause-ready
returns-in-Some-clause-ready g c =
    let P : ℕ = non_zero_u16_get c.self.inside.options.page_size in
    let log = subst (λ (s : LogState). IsLog g.H.Sum.sum_of g.R.Sum.sum_of s) (sym c.self.view_is) c.requires.log in
    record {
      manifest = log.manifest;
      current = log.current;
      manifest_pages = log.manifest_pages;
      current_pages = log.current_pages;
      lists = log.lists;
      reading = record {
        whole = log.reading.whole;
        paged = pages_left P c.args.number c.args.kept.seal c.args.kept.marks c.self.inside.recent c.take.new.self c.in-Some.segment c.in-Some.ensures log.reading.paged;
      };
    }
