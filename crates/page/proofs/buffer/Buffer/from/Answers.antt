use Rattle.page.proofs.Buffers.{partial_buffer}
use Rattle.page.proofs.buffer.Buffer.from.Goals as goal

pub invariant_of-result : goal.invariant_of-result
invariant_of-result c =
    partial_buffer c.args.page_size c.args.capacity c.args.offset c.new.result c.in_ok-partial.field-0.bytes.items c.args.bytes.now c.in_ok-partial.field-0.limit c.new.ensures c.in_ok-partial.ensures.bytes c.in_ok-partial.ensures.limit c.requires.some c.requires.whole c.requires.short (c.has_offsets.ensures.0 c.if-not-has_offsets.false)
