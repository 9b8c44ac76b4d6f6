use Rattle.std.proofs.Common.{◌≡◌, ◌<◌, ◌+◌, ◌++◌, ◌/◌, length, ap, sym, ◌∙◌, subst, ℕ}
use Rattle.writer_state.specs.WriterState.{WriterState}
use Rattle.paged.specs.Direct.{buffering}
use Rattle.paged.specs.Flush.{full_in}
use Rattle.paged.proofs.Caching.{direct_put, refused_after, put_either}
use Rattle.std.specs.Prelude.{IfOk}
use Rattle.std.specs.List.{concat}
use Rattle.crash.specs.Built.{built}
use Rattle.paged.proofs.Bypass.{direct_bytes}
use Rattle.paged.proofs.writer.Writer.take_direct.Goals as goal

pub returns-clause-bytes : goal.returns-clause-bytes
returns-clause-bytes g c =
    let sum = g.H.Sum.sum_of in
    let w = c.args.self.now in
    let size : c.from-page_size.result ≡ w.page_size = c.from-page_size.ensures ∙ c.get.ensures.value ∙ ap (λ s. s.page_size) c.self.view_is in
    let slot : c.self.inside.durable ≡ w.durable = ap (λ s. s.durable) c.self.view_is in
    subst (λ b. IfOk c.cut_pages.result (λ bufs. concat bufs ≡ b))
    ((λ i. built sum (size i) (slot i) (length c.args.whole / size i) c.args.whole) ∙ direct_bytes w c.args.whole c.args.rest.now c.requires.direct sum)
    c.cut_pages.ensures.bytes

pub returns-in_err-pass-clause-puts : goal.returns-in_err-pass-clause-puts
returns-in_err-pass-clause-puts g c =
    let w = c.args.self.now in
    let some : 0 < w.page_size = subst (λ n. 0 < n) (ap (λ s. s.page_size) c.self.view_is) c.self.inside.page_size.ok in
    let to : ℕ = w.full_pages + full_in (buffering w (c.args.whole ++ c.args.rest.now)) in
    let puts = direct_put w c.args.whole c.args.rest.now c.as_ref.result.now c.self.inside.id (c.offset.result / c.args.cache.now.page_size) c.args.cache.now
    c.cache.new.self c.requires.direct (ap (λ (s : WriterState). s.id) c.self.view_is)
    (ap (λ (n : ℕ). n / c.args.cache.now.page_size) c.offset.ensures
    ∙ ap (λ (P : ℕ). c.self.inside.tip.offset / P) (c.requires.cached ∙ sym (ap (λ (s : WriterState). s.page_size) c.self.view_is))
    ∙ ap (λ (s : WriterState). s.full_pages) c.self.view_is)
    c.as_ref.ensures some c.requires.cached c.cache.ensures.puts_all in
    refused_after _ w c.pass.new.self (c.args.whole ++ c.args.rest.now) c.args.cache.now c.cache.new.self to c.from_residual.result
    c.from_residual.ensures.1 puts

pub returns-clause-puts : goal.returns-clause-puts
returns-clause-puts g c =
    let w = c.args.self.now in
    let some : 0 < w.page_size = subst (λ n. 0 < n) (ap (λ s. s.page_size) c.self.view_is) c.self.inside.page_size.ok in
    let to : ℕ = w.full_pages + full_in (buffering w (c.args.whole ++ c.args.rest.now)) in
    let puts = direct_put w c.args.whole c.args.rest.now c.as_ref.result.now c.self.inside.id (c.offset.result / c.args.cache.now.page_size) c.args.cache.now
    c.cache.new.self c.requires.direct (ap (λ (s : WriterState). s.id) c.self.view_is)
    (ap (λ (n : ℕ). n / c.args.cache.now.page_size) c.offset.ensures
    ∙ ap (λ (P : ℕ). c.self.inside.tip.offset / P) (c.requires.cached ∙ sym (ap (λ (s : WriterState). s.page_size) c.self.view_is))
    ∙ ap (λ (s : WriterState). s.full_pages) c.self.view_is)
    c.as_ref.ensures some c.requires.cached c.cache.ensures.puts_all in
    put_either w c.pass.new.self (c.args.whole ++ c.args.rest.now) c.args.cache.now c.cache.new.self to c.cut_pages.result
    (ap (λ (s : WriterState). s.full_pages) c.in_ok-pass.ensures.state) puts
