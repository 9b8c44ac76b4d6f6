use Rattle.std.proofs.Common.{◌≡◌, ◌++◌, sym, ap, ◌∙◌}
use Rattle.std.specs.List.{concat}
use Rattle.crash.specs.Built.{page_of}
use Rattle.paged.proofs.Flushing.{rest_bytes-short}
use Rattle.paged.proofs.writer.Writer.push_rest.Goals as goal

pub returns-clause-bytes : goal.returns-clause-bytes
returns-clause-bytes g c =
    let w = c.args.self.now in
    let size : c.from-page_size.result ≡ w.page_size = c.from-page_size.ensures ∙ c.get.ensures.value ∙ ap (λ s. s.page_size) c.self.view_is in
    let slot : c.self.inside.durable ≡ w.durable = ap (λ s. s.durable) c.self.view_is in
    let tip : c.partial.result.now ≡ w.tip = c.partial.ensures ∙ ap (λ s. s.tip) c.self.view_is in
    let page : c.from.result ≡ page_of g.H.Sum.sum_of w.page_size w.durable w.tip =
    c.from.ensures ∙ c.in_ok-from_vec.ensures.ok ∙ c.in_ok-slot.ensures.page
    ∙ ap (λ b. b ++ page_of g.H.Sum.sum_of c.from-page_size.result c.self.inside.durable c.partial.result.now) c.in_ok-page.ensures.items
    ∙ (λ i. page_of g.H.Sum.sum_of (size i) (slot i) (tip i)) in
    rw (c.if-not-rest.false) (c.in_ok-append.ensures.bytes ∙ ap (λ b. concat c.args.bufs.now ++ b) (page ∙ sym (rest_bytes-short g.H.Sum.sum_of w c.requires.short)))
