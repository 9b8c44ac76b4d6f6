use Rattle.std.proofs.Common.{◌≡◌, ◌++◌, ◌+◌, ◌*◌, ◌/◌, length, sym, ap, ◌∙◌, subst, Ok}
use Rattle.std.specs.List.{concat}
use Rattle.page.specs.Tip.{Tip, TipDrainGoes}
use Rattle.page.proofs.Buffers.{drained_buffer, drain_goes}
use Rattle.page.proofs.buffer.Buffer.drain_full_pages.Goals as goal

pub invariant_of-self-2 : goal.invariant_of-self-2
invariant_of-self-2 c =
    let b = c.self.inside in
    let len_is : c.len.result ≡ length (concat b.chunks ++ b.tail.bytes.items) = c.len.ensures ∙ ap (λ (t : Tip). length t.bytes) (sym c.self.view_is) in
    rw len_is (drained_buffer b.page_size b.capacity b.offset b.chunks c.replace.new.dest b.tail.bytes.items c.freeze_full_pages.new.self.bytes.items b.tail.limit c.freeze_full_pages.new.self.limit c.self.invariant
    (c.replace.ensures.after ∙ c.new-2.ensures) c.in_ok-freeze_full_pages.ensures.bytes c.in_ok-freeze_full_pages.ensures.limit)

pub returns : goal.returns
returns c =
    let b = c.self.inside in
    let len_is : c.len.result ≡ length (concat b.chunks ++ b.tail.bytes.items) = c.len.ensures ∙ ap (λ (t : Tip). length t.bytes) (sym c.self.view_is) in
    subst (λ (old : Tip). TipDrainGoes old (record { page_size = b.page_size; capacity = b.capacity; offset = b.offset + c.len.result / b.page_size * b.page_size; bytes = concat c.replace.new.dest ++ c.freeze_full_pages.new.self.bytes.items }) (Ok c.replace.result)) c.self.view_is
    (drain_goes b.page_size b.capacity b.offset c.len.result b.chunks c.replace.result c.replace.new.dest b.tail.bytes.items c.freeze_full_pages.new.self.bytes.items c.self.invariant.some c.self.invariant.whole_chunks len_is
    (c.replace.ensures.value ∙ c.in_ok-freeze_full_pages.ensures.chunks) (c.replace.ensures.after ∙ c.new-2.ensures) c.in_ok-freeze_full_pages.ensures.bytes)
