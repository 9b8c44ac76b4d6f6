use Rattle.std.proofs.Common.{◌≡◌, ◌++◌, ◌+◌, ◌-◌, length, take, drop, sym, ap, ◌∙◌, subst, arith, length-append, take_all, min, slice_range}
use Rattle.std.specs.List.{concat}
use Rattle.page.specs.Tip.{Tip}
use Rattle.page.proofs.Chunks.{concat_more}
use Rattle.page.proofs.Buffers.{read_more, read_rest, on_ok_then}
use Rattle.page.proofs.buffer.Buffer.read_into.Goals as goal
use Rattle.disk.proofs.Bufs.{first_bufs}

pub overflow_add-at : goal.overflow_add-at
overflow_add-at c =
    let items = c.as_slice-chunk-items.result.now in
    let i = c.loop-chunk.chunk-index in
    let chunk = c.chunk-item.result in
    let grows : concat (take (i + 1) items) ≡ concat (take i items) ++ chunk = concat_more items i chunk c.loop-chunk-test.true ∙ ap (λ v. concat (take i items) ++ v) (sym c.chunk-item.is) in
    omega (
      arith,
      c.loop-chunk.invariant.at,
      c.len-at.ensures,
      ap length grows,
      length-append (concat (take i items)) chunk,
      first_bufs items (i + 1),
      ap (λ l. length (concat l)) c.as_slice-chunk-items.ensures,
      c.self.invariant.small,
      length-append (concat c.self.inside.chunks) c.self.inside.tail.bytes.items,
    )

pub loop-chunk-preserved : goal.loop-chunk-preserved
loop-chunk-preserved c =
    let items = c.as_slice-chunk-items.result.now in
    let i = c.loop-chunk.chunk-index in
    let chunk = c.chunk-item.result in
    let grows : concat (take (i + 1) items) ≡ concat (take i items) ++ chunk = concat_more items i chunk c.loop-chunk-test.true ∙ ap (λ v. concat (take i items) ++ v) (sym c.chunk-item.is) in
    record {
      at = omega (arith, c.loop-chunk.invariant.at, c.len-at.ensures, ap length grows, length-append (concat (take i items)) chunk);
      bytes = rw grows (read_more (concat (take i items)) chunk c.args.start c.args.end c.loop-chunk.at c.len.result c.min-from.result c.min-to.result (concat c.args.bufs.now) (concat c.loop-chunk.bufs) (concat c.append_part.new.bufs)
          c.requires.order c.loop-chunk.invariant.at c.len.ensures (rw (← c.saturating_sub.ensures) c.min-from.ensures) (rw (← c.saturating_sub-in-loop-chunk.ensures) (c.min-to.ensures ∙ ap (λ n. min c.saturating_sub-in-loop-chunk.result n) (c.len-in-loop-chunk.ensures ∙ sym c.len.ensures))) c.loop-chunk.invariant.bytes c.in_ok-append_part.ensures.ok);
    }

pub returns-clause-ok : goal.returns-clause-ok
returns-clause-ok c =
    let items = c.as_slice-chunk-items.result.now in
    let b = c.self.inside in
    let all : concat (take c.loop-chunk.chunk-index items) ≡ concat b.chunks = ap concat (take_all c.loop-chunk.chunk-index items c.loop-chunk-test.false ∙ c.as_slice-chunk-items.ensures) in
    let bytes : concat b.chunks ++ b.tail.bytes.items ≡ c.args.self.now.bytes = ap (λ (t : Tip). t.bytes) c.self.view_is in
    on_ok_then c.append_copy.result (λ copied. subst (λ l. concat c.append_copy.new.bufs ≡ concat c.args.bufs.now ++ take (c.args.end - c.args.start) (drop c.args.start l)) bytes
    (read_rest (concat b.chunks) b.tail.bytes.items c.args.start c.args.end c.loop-chunk.at c.saturating_sub-2.result c.saturating_sub-3.result (concat c.args.bufs.now) (concat c.loop-chunk.bufs) (concat c.append_copy.new.bufs)
    c.requires.order (c.loop-chunk.invariant.at ∙ ap length all) c.saturating_sub-2.ensures c.saturating_sub-3.ensures
    (subst (λ l. concat c.loop-chunk.bufs ≡ concat c.args.bufs.now ++ slice_range l c.args.start c.args.end) all c.loop-chunk.invariant.bytes)
    (copied ∙ ap (λ l. concat c.loop-chunk.bufs ++ slice_range l c.saturating_sub-2.result c.saturating_sub-3.result) c.deref.ensures.value))) c.append_copy.ensures.ok
