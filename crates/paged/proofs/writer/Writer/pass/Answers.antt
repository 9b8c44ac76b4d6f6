use Rattle.std.proofs.Common.{◌+◌, arith}
use Rattle.std.specs.Int.NonZero.{non_zero_u16_get}
use Rattle.paged.proofs.Bypass.{passed_writer, passed_state}
use Rattle.paged.proofs.writer.Writer.pass.Goals as goal

pub invariant_of-self-2 : goal.invariant_of-self-2
invariant_of-self-2 g c =
    let inside = c.self.inside in
    passed_writer (non_zero_u16_get inside.page_size) inside.id (c.offset.result + c.len.result) inside.tip c.replace.new.self inside.flushed inside.durable inside.sync_state c.args.self.now c.args.whole.now c.args.rest.now
    inside.page_size.ok c.self.invariant c.self.view_is c.requires.direct (omega (arith, c.offset.ensures, c.len.ensures)) c.in_ok-replace.ensures

pub returns-clause-state : goal.returns-clause-state
returns-clause-state g c =
    let inside = c.self.inside in
    passed_state (non_zero_u16_get inside.page_size) inside.id (c.offset.result + c.len.result) inside.tip c.replace.new.self inside.flushed inside.durable inside.sync_state c.args.self.now c.args.whole.now c.args.rest.now
    inside.page_size.ok c.self.invariant c.self.view_is c.requires.direct (omega (arith, c.offset.ensures, c.len.ensures)) c.in_ok-replace.ensures
