use Rattle.std.specs.Prelude.{◌≡◌, List, ℕ}
use Rattle.std.proofs.Common.{◌∙◌, ap, subst, sym}
use Rattle.std.specs.Int.NonZero.{non_zero_u16_get}
use Rattle.segments.specs.Log.{IsLog, LogState}
use Rattle.segments.specs.PagedReads.{PagedSegmentState}
use Rattle.segments.specs.Recent.{HavePages}
use Rattle.segments.proofs.PagedReading.{begins_in_log, segment_read}
use Rattle.segments.proofs.Recents.{pages_kept}
use Rattle.segments.proofs.log.SegmentedLog.read_paged.Goals as goal

pub returns-in-Ok-clause-goes : goal.returns-in-Ok-clause-goes
returns-in-Ok-clause-goes g c =
    let i = c.self.inside in
    let after : LogState = record {
      manifest = i.manifest;
      current = i.current;
      listing = i.listing;
      asked = g.F.Folder.asked i.folder;
      reading = record { whole = i.loaded; paged = c.keep.new.self };
      page_size = non_zero_u16_get i.options.page_size;
      most = i.options.segment_size;
      known = i.known;
    } in
    segment_read g.H.Sum.sum_of g.R.Sum.sum_of g.D.Digest.digest_of c.args.self.now after c.args.place c.args.kept c.in-Ok.segment c.read-found.new.self i.recent c.read-found.result
    c.requires.listed c.keep.ensures c.in-Ok.ensures.goes c.in-Ok.ensures.marks c.read-found.ensures

pub returns-in-Ok-clause-begins : goal.returns-in-Ok-clause-begins
returns-in-Ok-clause-begins g c =
    let i = c.self.inside in
    let P : ℕ = non_zero_u16_get i.options.page_size in
    let lists : i.listing ≡ c.args.self.now.listing = ap (λ (s : LogState). s.listing) c.self.view_is ∙ c.take_paged.ensures.rest.listing in
    let size : P ≡ c.args.self.now.page_size = ap (λ (s : LogState). s.page_size) c.self.view_is ∙ c.take_paged.ensures.rest.page_size in
    let after : LogState = record {
      manifest = i.manifest;
      current = i.current;
      listing = i.listing;
      asked = g.F.Folder.asked i.folder;
      reading = record { whole = i.loaded; paged = c.keep.new.self };
      page_size = P;
      most = i.options.segment_size;
      known = i.known;
    } in
    begins_in_log g.D.Digest.digest_of g.R.Sum.sum_of c.args.self.now after c.args.place c.args.kept c.in-Ok.segment c.read-found.new.self i.recent c.read-found.result c.requires.listed lists size c.keep.ensures
    c.in-Ok.ensures.goes c.in-Ok.ensures.marks c.read-found.ensures

pub returns-in-Ok-clause-ready : goal.returns-in-Ok-clause-ready
returns-in-Ok-clause-ready g c =
    let P : ℕ = non_zero_u16_get c.self.inside.options.page_size in
    let log = subst (λ (s : LogState). IsLog g.H.Sum.sum_of g.R.Sum.sum_of s) (sym c.self.view_is) c.take_paged.ensures.ready in
    let size : P ≡ c.args.self.now.page_size = ap (λ (s : LogState). s.page_size) c.self.view_is ∙ c.take_paged.ensures.rest.page_size in
    let of : c.read-found.new.self.content.page_size ≡ P = c.read-found.ensures.same.page_size ∙ c.in-Ok.ensures.goes.page_size ∙ sym size in
    record {
      manifest = log.manifest;
      current = log.current;
      manifest_pages = log.manifest_pages;
      current_pages = log.current_pages;
      lists = log.lists;
      reading = record {
        whole = log.reading.whole;
        paged = subst (λ (l : List PagedSegmentState). HavePages P l) (sym c.keep.ensures) (pages_kept P 8 c.read-found.new.self c.self.inside.recent log.reading.paged of);
      };
    }
