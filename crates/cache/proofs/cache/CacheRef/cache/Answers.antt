use Rattle.std.proofs.Common.{◌≡◌, ◌∙◌, ◌+◌, ◌*◌, ◌-◌, ◌/◌, ap, subst, ℕ, suc, List, take, drop, arith}
use Rattle.cache.specs.CacheState.{CacheState, Puts, PutsAll}
use Rattle.cache.proofs.CacheLaws.{puts_one_more, put_weakly}
use Rattle.cache.proofs.cache.CacheRef.cache.Goals as goal

pub loop-index-preserved : goal.loop-index-preserved
loop-index-preserved c =
    let first : ℕ = c.args.offset / c.from-size.result in
    let n : ℕ = c.loop-index.index in
    let old : CacheState = c.args.self.now in
    let bytes : List ℕ = take old.page_size (drop (n * old.page_size) c.args.buf.now) in
    let size : ℕ = c.from-size.result in
    let buf : List ℕ = c.args.buf.now in
    let key : ℕ × ℕ = (c.args.id, first + n) in
    let mid : CacheState = c.loop-index.self in
    let new : CacheState = c.keep.new.self in
    let less : n * size + size - n * size ≡ size = omega arith in
    let size_is : size ≡ old.page_size =
    c.from-size.ensures ∙ c.get.ensures.value
    ∙ ap (λ (s : CacheState). s.page_size) c.self.view_is in
    let last : Puts (c.args.id, first + n) bytes c.loop-index.self c.keep.new.self =
    subst (λ (P : ℕ). Puts key (take P (drop (n * P) buf)) mid new) size_is
    (subst (λ (k : ℕ). Puts key (take k (drop (n * size) buf)) mid new) less c.keep.ensures.puts) in
    let e : suc n ≡ n + 1 = omega arith in (
      subst (λ (k : ℕ). PutsAll c.args.id first k c.args.buf.now old c.keep.new.self) e
          (puts_one_more c.args.id first n c.args.buf.now old c.loop-index.self c.keep.new.self
          c.loop-index.invariant.0 last),
      (put_weakly (c.args.id, first + n) bytes c.loop-index.self c.keep.new.self last).settings.page_size
          ∙ c.loop-index.invariant.1,
    )
