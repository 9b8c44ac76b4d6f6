use Rattle.std.proofs.Common.{sym, subst}
use Rattle.std.specs.Int.NonZero.{non_zero_u16_get, non_zero_usize_get}
use Rattle.disk.specs.History.{life_of}
use Rattle.cache.specs.CacheState.{CacheState}
use Rattle.session.specs.Promise.{closed}
use Rattle.session.specs.Run.{SessionState}
use Rattle.conformance.specs.Pair.{AreBothReady}
use Rattle.conformance.proofs.PairLaws.{both_anew}
use Rattle.conformance.proofs.pair.Pair.new.Goals as goal

pub invariant_of-pair : goal.invariant_of-pair
invariant_of-pair g c =
    let sum = g.H.Sum.sum_of in let cache = c.in-Ok.cache in
    let d = (life_of c.new-2.result).present in let e = (life_of c.new-3.result).present in
    let anew = both_anew sum (non_zero_u16_get c.args.page_size) (non_zero_usize_get c.args.pages) d e in
    let made = subst (λ (k : CacheState). AreBothReady sum closed closed k d e) (sym c.in-Ok.ensures.made) anew in
    let first = subst (λ (s : SessionState). AreBothReady sum s closed cache d e) (sym c.closed.ensures) made in
    subst (λ (s : SessionState). AreBothReady sum c.closed.result s cache d e) (sym c.closed-2.ensures) first
