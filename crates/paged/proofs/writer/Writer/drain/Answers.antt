use Rattle.std.proofs.Common.{◌<◌, ◌≤◌, length, ap, ◌∙◌, arith}
use Rattle.std.specs.Prelude.{None}
use Rattle.std.specs.Int.NonZero.{non_zero_u16_get}
use Rattle.writer_state.specs.WriterState.{WriterState}
use Rattle.paged.specs.Flush.{full_in, after_flush}
use Rattle.paged.proofs.Footers.{small_pages}
use Rattle.paged.proofs.Drains.{is_writer_drained, full_some, slot_gone, drained_state}
use Rattle.paged.proofs.writer.Writer.drain.Goals as goal

pub invariant_of-self-in_err-pages : goal.invariant_of-self-in_err-pages
invariant_of-self-in_err-pages g c =
    let P = non_zero_u16_get c.self.inside.page_size in
    is_writer_drained P c.self.inside.tip c.drain_full_pages.new.self (omega (arith, c.get.ensures.value, c.get.ensures.nonzero)) c.self.invariant c.in_ok-chunks.ensures.2

pub invariant_of-self-2 : goal.invariant_of-self-2
invariant_of-self-2 g c =
    let P = non_zero_u16_get c.self.inside.page_size in
    is_writer_drained P c.self.inside.tip c.drain_full_pages.new.self (omega (arith, c.get.ensures.value, c.get.ensures.nonzero)) c.self.invariant c.in_ok-chunks.ensures.2

pub returns-clause-state : goal.returns-clause-state
returns-clause-state g c =
    let inside = c.self.inside in
    let w = c.args.self.now in
    let P = non_zero_u16_get inside.page_size in
    let some : 0 < P = omega (arith, c.get.ensures.value, c.get.ensures.nonzero) in
    let enough : P ≤ length inside.tip.bytes = omega (arith, c.requires, ap (λ (s : WriterState). s.page_size) c.self.view_is, ap (λ (s : WriterState). length s.tip) c.self.view_is) in
    let more : 0 < full_in w = omega (arith, full_some P inside.tip.bytes some enough, ap full_in c.self.view_is) in
    drained_state P inside.id inside.tip c.drain_full_pages.new.self None inside.durable None inside.sync_state (record w { flushed = None }) some c.self.invariant c.in_ok-chunks.ensures.2
    (ap (λ (s : WriterState). record s { flushed = None }) c.self.view_is) (slot_gone inside.durable _ (full_some P inside.tip.bytes some enough))
    ∙ ap (λ flushed. after_flush w flushed w.sync) (slot_gone w.flushed (full_in w) more)

pub returns-clause-small : goal.returns-clause-small
returns-clause-small g c = small_pages c.from-page_size.result c.in_ok-pages.pages.items (omega arith) c.in_ok-pages.ensures.pages
