use Rattle.std.proofs.Common.{◌<◌, length, subst, sym}
use Rattle.page.specs.Tip.{Tip}
use Rattle.page.proofs.Buffers.{partial_buffer}
use Rattle.page.proofs.buffer.Buffer.replace.Goals as goal

pub invariant_of-self : goal.invariant_of-self
invariant_of-self c =
    partial_buffer c.self.inside.page_size c.self.inside.capacity c.args.offset c.new.result c.in_ok-self-inside.field-0.bytes.items c.args.bytes.now c.in_ok-self-inside.field-0.limit c.new.ensures c.in_ok-self-inside.ensures.bytes c.in_ok-self-inside.ensures.limit c.self.invariant.some c.self.invariant.whole (subst (λ (t : Tip). length c.args.bytes.now < t.page_size) (sym c.self.view_is) c.requires) (c.has_offsets.ensures.0 c.if-not-has_offsets.false)
