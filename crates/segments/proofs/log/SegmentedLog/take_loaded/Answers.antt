use Rattle.std.specs.Prelude.{IfSome, Option, ℕ}
use Rattle.std.proofs.Common.{subst, sym}
use Rattle.std.specs.Int.NonZero.{non_zero_u16_get}
use Rattle.segments.specs.Log.{IsLoaded, IsLog, LoadedState, LogState}
use Rattle.segments.proofs.log.SegmentedLog.take_loaded.Goals as goal

pub returns-then-is_of-clause-ready : goal.returns-then-is_of-clause-ready
returns-then-is_of-clause-ready g c =
    let sum = g.H.Sum.sum_of in
    let own = g.R.Sum.sum_of in
    let P : ℕ = non_zero_u16_get c.self.inside.options.page_size in
    let log = subst (λ (s : LogState). IsLog sum own s) (sym c.self.view_is) c.requires.log in
    record {
      manifest = log.manifest;
      current = log.current;
      manifest_pages = log.manifest_pages;
      current_pages = log.current_pages;
      lists = log.lists;
      reading = record { whole = subst (λ (o : Option LoadedState). IfSome o (λ l. IsLoaded sum own P l)) (sym c.take.ensures.after) tt; paged = log.reading.paged };
    }

pub returns-clause-ready : goal.returns-clause-ready
returns-clause-ready g c =
    let sum = g.H.Sum.sum_of in
    let own = g.R.Sum.sum_of in
    let P : ℕ = non_zero_u16_get c.self.inside.options.page_size in
    let log = subst (λ (s : LogState). IsLog sum own s) (sym c.self.view_is) c.requires.log in
    subst (λ (s : LogState). IsLog sum own s) (sym c.load.ensures.same) (record {
      manifest = log.manifest;
      current = log.current;
      manifest_pages = log.manifest_pages;
      current_pages = log.current_pages;
      lists = log.lists;
      reading = record { whole = subst (λ (o : Option LoadedState). IfSome o (λ l. IsLoaded sum own P l)) (sym c.take.ensures.after) tt; paged = log.reading.paged };
    })
