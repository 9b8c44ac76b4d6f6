use Rattle.std.proofs.Common.{◌<◌, ◌++◌, ap, sym, ◌∙◌, subst, length}
use Rattle.writer_state.specs.WriterState.{WriterState}
use Rattle.paged.specs.Flush.{full_in, rest_bytes}
use Rattle.crash.specs.Built.{durable_after}
use Rattle.paged.proofs.Flushing.{flush_bytes-drained, short_drained}
use Rattle.paged.proofs.Known.{rest_tells}
use Rattle.paged.proofs.writer.Writer.take_pages.Goals as goal

pub push_rest-requires-clause-short : goal.push_rest-requires-clause-short
push_rest-requires-clause-short g c =
    let w = c.args.self.now in
    let some : 0 < w.page_size = subst (λ n. 0 < n) (ap (λ (s : WriterState). s.page_size) (c.self.view_is ∙ c.in_ok-bufs.ensures.state)) c.self.inside.page_size.ok in
    subst (λ (v : WriterState). length v.tip < v.page_size) (sym c.in_ok-bufs.ensures.state) (short_drained w some)

pub push_rest-requires-clause-known : goal.push_rest-requires-clause-known
push_rest-requires-clause-known g c =
    let w = c.args.self.now in
    let some : 0 < w.page_size = subst (λ n. 0 < n) (ap (λ (s : WriterState). s.page_size) (c.self.view_is ∙ c.in_ok-bufs.ensures.state)) c.self.inside.page_size.ok in
    rest_tells g.H.Sum.sum_of w c.take_full.new.self some c.in_ok-bufs.ensures.state c.requires.known

pub returns-clause-bytes : goal.returns-clause-bytes
returns-clause-bytes g c =
    let w = c.args.self.now in
    let sum = g.H.Sum.sum_of in
    let some : 0 < w.page_size = subst (λ n. 0 < n) (ap (λ (s : WriterState). s.page_size) (c.self.view_is ∙ c.in_ok-bufs.ensures.state)) c.self.inside.page_size.ok in
    c.in_ok-self-inside.ensures.bytes ∙ ap (λ b. b ++ rest_bytes sum c.take_full.new.self c.args.rest) c.in_ok-bufs.ensures.bytes
    ∙ flush_bytes-drained sum w c.take_full.new.self (durable_after w.flushed (full_in w)) c.args.rest some c.in_ok-bufs.ensures.state
