use Rattle.std.specs.Prelude.{◌≡◌, ℕ}
use Rattle.std.proofs.Common.{◌∙◌, ap, subst, sym}
use Rattle.std.specs.Int.NonZero.{non_zero_u16_get}
use Rattle.segments.specs.Log.{IsLoaded, IsLog, LogState}
use Rattle.segments.proofs.Loading.{load_refused, reads_whole}
use Rattle.segments.proofs.log.SegmentedLog.read_whole.Goals as goal

pub returns-in-Ok-clause-goes : goal.returns-in-Ok-clause-goes
returns-in-Ok-clause-goes g c =
    reads_whole g.H.Sum.sum_of g.R.Sum.sum_of g.D.Digest.digest_of c.args.self.now _ c.args.place c.args.kept c.in-Ok.loaded c.read-found.result c.requires.listed c.in-Ok.ensures.goes
    (c.read-found.ensures.goes g.D.Digest.digest_of)

pub returns-in-Err-clause-goes : goal.returns-in-Err-clause-goes
returns-in-Err-clause-goes g c =
    load_refused g.H.Sum.sum_of g.R.Sum.sum_of g.D.Digest.digest_of c.args.self.now c.take_loaded.new.self c.args.place c.args.kept c.in-Err.error c.requires.listed c.in-Err.ensures.goes

pub returns-in-Ok-clause-ready : goal.returns-in-Ok-clause-ready
returns-in-Ok-clause-ready g c =
    let sum = g.H.Sum.sum_of in
    let own = g.R.Sum.sum_of in
    let P : ℕ = non_zero_u16_get c.self.inside.options.page_size in
    let log = subst (λ (s : LogState). IsLog sum own s) (sym c.self.view_is) c.take_loaded.ensures.ready in
    let size : P ≡ c.args.self.now.page_size = ap (λ (s : LogState). s.page_size) c.self.view_is ∙ c.take_loaded.ensures.rest.page_size in
    record {
      manifest = log.manifest;
      current = log.current;
      manifest_pages = log.manifest_pages;
      current_pages = log.current_pages;
      lists = log.lists;
      reading = record {
        whole = subst (λ (n : ℕ). IsLoaded sum own n c.read-found.new.self) (c.in-Ok.ensures.goes.loaded.page_size ∙ sym size) c.read-found.ensures.loaded;
        paged = log.reading.paged;
      };
    }
