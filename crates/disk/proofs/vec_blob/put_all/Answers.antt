use Rattle.std.proofs.Common.{◌≡◌, ◌≤◌, ◌+◌, ◌++◌, ℕ, List, length, take, drop, refl, sym, ap, ap₂, ◌∙◌, arith, length-append}
use Rattle.std.specs.List.{concat}
use Rattle.std.proofs.lemmas.List.{take_all}
use Rattle.disk.proofs.Bufs.{concat_more, first_bufs}
use Rattle.disk.proofs.Writes.{put_more, put_reaches, put_none}
use Rattle.disk.proofs.vec_blob.put_all.Goals as goal
use Rattle.disk.proofs.vec_blob.put_all.Goals.{After-as_ref}

pub loop-buf-init : goal.loop-buf-init
loop-buf-init c = record { at = omega arith; bytes = sym (put_none c.args.bytes.now.items c.args.offset); room = omega arith }

-- the bytes with one buffer more
more : (c : After-as_ref) → concat (take (c.loop-buf.buf-index + 1) c.as_slice-buf-items.result.now) ≡ concat (take c.loop-buf.buf-index c.as_slice-buf-items.result.now) ++ c.as_ref.result.now
more c =
    let items = c.as_slice-buf-items.result.now in
    let i = c.loop-buf.buf-index in
    concat_more items i c.buf-item.result c.loop-buf-test.true ∙ ap (λ (b : List ℕ). concat (take i items) ++ b) (sym c.buf-item.is ∙ sym c.as_ref.ensures)

-- the end of that buffer is within the end of all of them
reach : (c : After-as_ref) → c.loop-buf.at + length c.as_ref.result.now ≤ c.args.offset + length (concat c.args.bufs.now)
reach c =
    let items = c.as_slice-buf-items.result.now in
    let i = c.loop-buf.buf-index in
    let all : length (concat items) ≡ length (concat c.args.bufs.now) = ap (λ (xs : List (List ℕ)). length (concat xs)) c.as_slice-buf-items.ensures in
    omega (arith, c.loop-buf.invariant.at, first_bufs items (i + 1), ap length (more c), length-append (concat (take i items)) c.as_ref.result.now, all)

pub put_over-requires : goal.put_over-requires
put_over-requires c =
    let so_far = concat (take c.loop-buf.buf-index c.as_slice-buf-items.result.now) in
    omega (arith, ap length c.loop-buf.invariant.bytes, put_reaches c.args.bytes.now.items so_far c.args.offset c.loop-buf.at c.loop-buf.invariant.at c.requires.among)

pub overflow_add-at : goal.overflow_add-at
overflow_add-at c = omega (arith, c.requires.small, reach (goal.at.overflow_add-at c).After-as_ref, ap length c.as_ref.ensures, c.len-at.ensures)

pub loop-buf-preserved : goal.loop-buf-preserved
loop-buf-preserved c =
    let old = c.args.bytes.now.items in
    let new = c.as_ref.result.now in
    let at = c.loop-buf.at in
    let so_far = concat (take c.loop-buf.buf-index c.as_slice-buf-items.result.now) in
    let here = (goal.at.loop-buf-preserved c).After-as_ref in
    let len : c.len-at.result ≡ length new = c.len-at.ensures ∙ sym (ap length c.as_ref.ensures) in
    record {
      at = omega (arith, c.loop-buf.invariant.at, ap length (more here), length-append so_far new, len);
      bytes = c.in_ok-put_over.ensures.ok
          ∙ ap (λ (b : List ℕ). take at b ++ new ++ drop (at + length new) b) c.loop-buf.invariant.bytes
          ∙ put_more old so_far new c.args.offset at c.loop-buf.invariant.at c.requires.among
          ∙ ap₂ (λ (b : List ℕ) (n : ℕ). take c.args.offset old ++ b ++ drop (at + n) old) (sym (more here)) (sym len);
      room = omega (arith, c.loop-buf.invariant.room, c.in_ok-put_over.ensures.capacity);
    }

pub returns : goal.returns
returns c =
    let items = c.as_slice-buf-items.result.now in
    let whole : concat (take c.loop-buf.buf-index items) ≡ concat c.args.bufs.now = ap concat (take_all c.loop-buf.buf-index items (omega (arith, c.loop-buf-test.false)) ∙ c.as_slice-buf-items.ensures) in
    record {
      ok = c.loop-buf.invariant.bytes ∙ ap₂ (λ (b : List ℕ) (n : ℕ). take c.args.offset c.args.bytes.now.items ++ b ++ drop n c.args.bytes.now.items) whole (c.loop-buf.invariant.at ∙ ap (λ (b : List ℕ). c.args.offset + length b) whole);
      room = λ fits. refl;
    }

pub returns-in_err-put_over-clause-room : goal.returns-in_err-put_over-clause-room
returns-in_err-put_over-clause-room c =
    let here = (goal.at.returns-in_err-put_over-clause-room c).After-as_ref in
    λ fits. absurd (let room = c.in_err-put_over.ensures.room (omega (arith, fits, reach here, c.loop-buf.invariant.room)) in cc)
