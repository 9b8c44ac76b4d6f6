use Rattle.std.proofs.Common.{◌∙◌, ap, sym, length}
use Rattle.std.specs.Int.NonZero.{non_zero_u16_get}
use Rattle.cache.specs.CacheState.{CacheState}
use Rattle.cache.proofs.Found.{pages_many}
use Rattle.cache.proofs.cache.CacheRef.len.Goals as goal

pub returns-clause-len : goal.returns-clause-len
returns-clause-len c =
    let t = c.self.inside.slots in
    sym (pages_many t.used (non_zero_u16_get t.page_size) t.keys.items t.bytes.items
    c.self.invariant.within)
    ∙ ap (λ (s : CacheState). length s.pages) c.self.view_is
