use Rattle.std.proofs.Common.{◌≡◌, ◌<◌, ◌+◌, ◌*◌, ℕ, List, ap, arith, length, refl, sym, subst, take}
use Rattle.std.specs.Prelude.{IfOk, Option, []}
use Rattle.std.specs.List.{concat}
use Rattle.std.proofs.lemmas.Result.{IfOk-weaker}
use Rattle.page.specs.declared.slot.ActiveChecksum.{ActiveChecksum}
use Rattle.crash.specs.Built.{built, durable_after}
use Rattle.writer_state.specs.WriterState.{WriterState}
use Rattle.paged.specs.Flush.{TellsFirst, full_in, after_flush}
use Rattle.paged.proofs.Caching.{puts_nothing, put_either, taken_put}
use Rattle.paged.proofs.Flushing.{advanced-none, built-none, pages-drained}
use Rattle.paged.proofs.Known.{pages_tell}
use Rattle.paged.proofs.writer.Writer.take_full.Goals as goal

pub returns-then-len-from-clause-bytes : goal.returns-then-len-from-clause-bytes
returns-then-len-from-clause-bytes g c =
    let sum = g.H.Sum.sum_of in
    let w = c.args.self.now in
    let short : length w.tip < w.page_size = omega (arith, c.if-len-from.true, c.len.ensures, c.from.ensures, c.get.ensures.value, ap (λ (s : WriterState). s.page_size) c.self.view_is, ap (λ (s : WriterState). length s.tip) c.self.view_is) in
    IfOk-weaker c.with_capacity.result (λ bufs. bufs ≡ []) (λ bufs. concat bufs ≡ built sum w.page_size w.durable (full_in w) w.tip)
    (λ bufs none. built-none sum w bufs short none) c.with_capacity.ensures.made

pub returns-then-len-from-clause-state : goal.returns-then-len-from-clause-state
returns-then-len-from-clause-state g c =
    let w = c.args.self.now in
    let short : length w.tip < w.page_size = omega (arith, c.if-len-from.true, c.len.ensures, c.from.ensures, c.get.ensures.value, ap (λ (s : WriterState). s.page_size) c.self.view_is, ap (λ (s : WriterState). length s.tip) c.self.view_is) in
    IfOk-weaker c.with_capacity.result (λ bufs. bufs ≡ []) (λ bufs. w ≡ after_flush w (durable_after w.flushed (full_in w)) w.sync)
    (λ bufs none. advanced-none w short) c.with_capacity.ensures.made

pub returns-then-len-from-clause-puts : goal.returns-then-len-from-clause-puts
returns-then-len-from-clause-puts g c =
    let w = c.args.self.now in
    put_either w w w.tip c.args.cache.now c.args.cache.now w.full_pages c.with_capacity.result refl
    (puts_nothing w.id w.full_pages w.page_size w.tip c.args.cache.now)

pub physical_pages-requires-clause-known : goal.physical_pages-requires-clause-known
physical_pages-requires-clause-known g c =
    let sum = g.H.Sum.sum_of in
    let w = c.args.self.now in
    let slot = ap (λ (s : WriterState). s.flushed) c.self.view_is in
    pages_tell sum w.page_size (full_in w * w.page_size) c.self.inside.flushed c.in_ok-pages.pages.items w.tip c.in_ok-pages.ensures.pages c.in_ok-pages.ensures.bytes
    (subst (λ (s : Option ActiveChecksum). TellsFirst sum s (take w.page_size w.tip)) (sym slot) c.requires.known)

pub returns-clause-bytes : goal.returns-clause-bytes
returns-clause-bytes g c =
    let sum = g.H.Sum.sum_of in
    let w = c.args.self.now in
    let some : 0 < w.page_size = subst (λ n. 0 < n) (ap (λ s. s.page_size) c.self.view_is) c.self.inside.page_size.ok in
    subst (λ (b : List ℕ). IfOk c.physical_pages.result (λ bufs. concat bufs ≡ b))
    (pages-drained sum w c.self.inside.durable c.in_ok-pages.pages.items some (ap (λ s. s.durable) c.self.view_is) c.in_ok-pages.ensures.pages c.in_ok-pages.ensures.bytes)
    c.physical_pages.ensures.bytes

pub returns-clause-puts : goal.returns-clause-puts
returns-clause-puts g c =
    let w = c.args.self.now in
    let some : 0 < w.page_size = subst (λ n. 0 < n) (ap (λ s. s.page_size) c.self.view_is) c.self.inside.page_size.ok in
    let puts = taken_put w c.self.inside.id c.full_pages-first.result c.in_ok-pages.pages.items c.deref.result.now c.args.cache.now
    c.cache_pages.new.cache (ap (λ (s : WriterState). s.id) c.self.view_is) c.full_pages-first.ensures.value c.deref.ensures.value some c.requires.cached
    c.in_ok-pages.ensures.pages c.in_ok-pages.ensures.bytes c.cache_pages.ensures in
    put_either w c.drain.new.self w.tip c.args.cache.now c.cache_pages.new.cache (w.full_pages + full_in w) c.physical_pages.result
    (ap (λ (s : WriterState). s.full_pages) c.in_ok-pages.ensures.state) puts
