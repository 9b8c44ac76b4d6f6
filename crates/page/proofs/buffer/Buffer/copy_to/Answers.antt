use Rattle.std.proofs.Common.{◌≡◌, ◌≤◌, ◌++◌, ◌+◌, ◌-◌, length, take, drop, sym, ap, ◌∙◌, subst, arith, length-append, take_all, min, slice_range, length-take, length-drop, []}
use Rattle.std.specs.List.{concat}
use Rattle.page.specs.Tip.{Tip}
use Rattle.page.proofs.Chunks.{concat_more}
use Rattle.page.proofs.Buffers.{read_more, read_rest}
use Rattle.page.proofs.buffer.Buffer.copy_to.Goals as goal
use Rattle.disk.proofs.Bufs.{first_bufs}

pub overflow_add-end : goal.overflow_add-end
overflow_add-end c =
    let bytes : concat c.self.inside.chunks ++ c.self.inside.tail.bytes.items ≡ c.args.self.now.bytes = ap (λ (t : Tip). t.bytes) c.self.view_is in
    omega (arith, c.requires, ap length bytes, c.self.invariant.small)

pub overflow_add-at : goal.overflow_add-at
overflow_add-at c =
    let items = c.as_slice-chunks.result.now in
    let i = c.loop-chunk.chunk-index in
    let chunk = c.chunk-item.result in
    let grows : concat (take (i + 1) items) ≡ concat (take i items) ++ chunk = concat_more items i chunk c.loop-chunk-test.true ∙ ap (λ v. concat (take i items) ++ v) (sym c.chunk-item.is) in
    omega (
      arith,
      c.loop-chunk.invariant.at,
      c.len-at.ensures,
      ap length grows,
      length-append (concat (take i items)) chunk,
      first_bufs items (i + 1),
      ap (λ l. length (concat l)) c.as_slice-chunks.ensures,
      c.self.invariant.small,
      length-append (concat c.self.inside.chunks) c.self.inside.tail.bytes.items,
    )

pub loop-chunk-preserved : goal.loop-chunk-preserved
loop-chunk-preserved c =
    let items = c.as_slice-chunks.result.now in
    let i = c.loop-chunk.chunk-index in
    let chunk = c.chunk-item.result in
    let end = c.args.offset + length c.args.buf.now in
    let order : c.args.offset ≤ end = omega arith in
    let part = slice_range c.as_ref.result.now c.min-from.result c.min-to.result in
    let grows : concat (take (i + 1) items) ≡ concat (take i items) ++ chunk = concat_more items i chunk c.loop-chunk-test.true ∙ ap (λ v. concat (take i items) ++ v) (sym c.chunk-item.is) in
    record {
      at = omega (arith, c.loop-chunk.invariant.at, c.len-at.ensures, ap length grows, length-append (concat (take i items)) chunk);
      size = c.copy_after-done.ensures.size ∙ c.loop-chunk.invariant.size;
      within = omega (arith, ap length c.copy_after-done.ensures.bytes, length-take c.copy_after-done.result c.copy_after-done.new.buf, length-append (take c.loop-chunk.done c.loop-chunk.buf) part, length-take c.loop-chunk.done c.loop-chunk.buf, c.loop-chunk.invariant.within, c.copy_after-done.ensures.done);
      bytes = rw grows (read_more (concat (take i items)) chunk c.args.offset end c.loop-chunk.at c.len.result c.min-from.result c.min-to.result [] (take c.loop-chunk.done c.loop-chunk.buf) (take c.copy_after-done.result c.copy_after-done.new.buf)
          order c.loop-chunk.invariant.at c.len.ensures (rw (← c.saturating_sub.ensures) c.min-from.ensures) (rw (← c.saturating_sub-in-loop-chunk.ensures) (c.min-to.ensures ∙ ap (λ n. min c.saturating_sub-in-loop-chunk.result n) (c.len-in-loop-chunk.ensures ∙ sym c.len.ensures))) c.loop-chunk.invariant.bytes (c.copy_after-done.ensures.bytes ∙ ap (λ l. take c.loop-chunk.done c.loop-chunk.buf ++ slice_range l c.min-from.result c.min-to.result) c.as_ref.ensures));
    }

pub returns : goal.returns
returns c =
    let items = c.as_slice-chunks.result.now in
    let b = c.self.inside in
    let len = length c.args.buf.now in
    let end = c.args.offset + len in
    let order : c.args.offset ≤ end = omega arith in
    let all : concat (take c.loop-chunk.chunk-index items) ≡ concat b.chunks = ap concat (take_all c.loop-chunk.chunk-index items c.loop-chunk-test.false ∙ c.as_slice-chunks.ensures) in
    let bytes : concat b.chunks ++ b.tail.bytes.items ≡ c.args.self.now.bytes = ap (λ (t : Tip). t.bytes) c.self.view_is in
    let came = subst (λ l. take c.copy_after.result c.copy_after.new.buf ≡ slice_range l c.args.offset end) bytes
    (read_rest (concat b.chunks) b.tail.bytes.items c.args.offset end c.loop-chunk.at c.saturating_sub-2.result c.saturating_sub-3.result [] (take c.loop-chunk.done c.loop-chunk.buf) (take c.copy_after.result c.copy_after.new.buf)
    order (c.loop-chunk.invariant.at ∙ ap length all) c.saturating_sub-2.ensures c.saturating_sub-3.ensures
    (subst (λ l. take c.loop-chunk.done c.loop-chunk.buf ≡ slice_range l c.args.offset end) all c.loop-chunk.invariant.bytes)
    (c.copy_after.ensures.bytes ∙ ap (λ l. take c.loop-chunk.done c.loop-chunk.buf ++ slice_range l c.saturating_sub-2.result c.saturating_sub-3.result) c.deref.ensures.value)) in
    let many : end - c.args.offset ≡ len = omega arith in
    let full : length c.copy_after.new.buf ≤ c.copy_after.result = omega (arith, ap length came, length-take c.copy_after.result c.copy_after.new.buf, length-take (end - c.args.offset) (drop c.args.offset c.args.self.now.bytes), length-drop c.args.offset c.args.self.now.bytes, c.requires, c.copy_after.ensures.size, c.loop-chunk.invariant.size) in
    sym (take_all c.copy_after.result c.copy_after.new.buf full) ∙ came ∙ ap (λ n. take n (drop c.args.offset c.args.self.now.bytes)) many
