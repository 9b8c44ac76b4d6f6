use Rattle.std.specs.Prelude.{◌≡◌, List, ℕ}
use Rattle.std.proofs.Common.{◌∙◌, ap, subst, sym}
use Rattle.std.specs.Int.NonZero.{non_zero_u16_get}
use Rattle.segments.specs.Log.{IsLog, LogState}
use Rattle.segments.specs.PagedReads.{PagedSegmentState}
use Rattle.segments.specs.Recent.{HavePages}
use Rattle.segments.proofs.Recents.{pages_kept}
use Rattle.segments.proofs.SearchesInLog.{nth_answered}
use Rattle.segments.proofs.SegmentMarks.{SegmentStays}
use Rattle.segments.proofs.SegmentSearches.{stays_searched}
use Rattle.segments.proofs.log.SegmentedLog.nth_by_marks.Goals as goal

pub returns-in-Ok-clause-goes : goal.returns-in-Ok-clause-goes
returns-in-Ok-clause-goes g c =
    let i = c.self.inside in
    let P : ℕ = non_zero_u16_get i.options.page_size in
    let r : PagedSegmentState = c.in-Ok.paged in
    let q : PagedSegmentState = c.nth-found.new.self in
    let after : LogState = record {
      manifest = i.manifest;
      current = i.current;
      listing = i.listing;
      asked = g.F.Folder.asked i.folder;
      reading = record { whole = i.loaded; paged = c.keep.new.self };
      page_size = P;
      most = i.options.segment_size;
      known = i.known;
    } in
    let stays : SegmentStays r q = stays_searched g.D.Digest.digest_of c.args.n r q c.nth-found.result c.nth-found.ensures in
    nth_answered g.D.Digest.digest_of c.args.self.now after c.args.segment c.args.n c.args.kept r q i.recent c.nth-found.result c.requires.listed c.keep.ensures c.in-Ok.ensures.goes c.in-Ok.ensures.marks stays.number
    c.nth-found.ensures.answers

pub returns-in-Ok-clause-ready : goal.returns-in-Ok-clause-ready
returns-in-Ok-clause-ready g c =
    let P : ℕ = non_zero_u16_get c.self.inside.options.page_size in
    let log = subst (λ (s : LogState). IsLog g.H.Sum.sum_of g.R.Sum.sum_of s) (sym c.self.view_is) c.take_paged.ensures.ready in
    let size : P ≡ c.args.self.now.page_size = ap (λ (s : LogState). s.page_size) c.self.view_is ∙ c.take_paged.ensures.rest.page_size in
    let of : c.nth-found.new.self.content.page_size ≡ P = c.nth-found.ensures.same.page_size ∙ c.in-Ok.ensures.goes.page_size ∙ sym size in
    record {
      manifest = log.manifest;
      current = log.current;
      manifest_pages = log.manifest_pages;
      current_pages = log.current_pages;
      lists = log.lists;
      reading = record {
        whole = log.reading.whole;
        paged = subst (λ (l : List PagedSegmentState). HavePages P l) (sym c.keep.ensures) (pages_kept P 8 c.nth-found.new.self c.self.inside.recent log.reading.paged of);
      };
    }
