use Rattle.std.proofs.Common.{◌≡◌, ◌∙◌, ◌+◌, ℕ, List, length, ap, sym, subst}
use Rattle.std.proofs.lemmas.List.Elements.{All-get_or}
use Rattle.cache.specs.CacheState.{Puts}
use Rattle.cache.proofs.CacheLaws.{put_weakly}
use Rattle.paged.proofs.Caching.{page_put}
use Rattle.paged.proofs.flush.cache_pages.Goals as goal

pub keep-requires : goal.keep-requires
keep-requires c =
    let page = c.index-pages-index.result in
    ap length c.as_ref.ensures ∙ ap length c.index-pages-index.is
    ∙ All-get_or (λ page. length page ≡ c.args.cache.now.page_size) c.args.pages.now c.loop-index.index
    page c.loop-index-test.true c.requires.size
    ∙ sym c.loop-index.invariant.1

pub loop-index-preserved : goal.loop-index-preserved
loop-index-preserved c =
    let i : ℕ = c.loop-index.index in
    let page = c.index-pages-index.result in
    let key : ℕ × ℕ = (c.args.id, c.args.first + i) in
    let last = subst (λ (b : List ℕ). Puts key b c.loop-index.cache c.keep.new.self)
    (c.as_ref.ensures ∙ c.index-pages-index.is) c.keep.ensures.puts in (
      page_put c.args.id c.args.first i c.args.pages.now page c.args.cache.now c.loop-index.cache
          c.keep.new.self c.requires.size c.loop-index-test.true c.loop-index.invariant.0 last,
      (put_weakly key c.as_ref.result.now c.loop-index.cache c.keep.new.self c.keep.ensures.puts).settings.page_size
          ∙ c.loop-index.invariant.1,
    )
