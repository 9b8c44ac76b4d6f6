use Rattle.std.proofs.Common.{◌≡◌, ◌<◌, ◌≤◌, ◌+◌, ◌-◌, ◌%◌, ◌∙◌, ap, sym, length, min, arith}
use Rattle.std.specs.Prelude.{slice_range}
use Rattle.std.proofs.Math.Nat.{mod-lt}
use Rattle.std.proofs.lemmas.Result.{err_from_is_err_and}
use Rattle.page_digests.specs.PagedBytes.{BytesState}
use Rattle.page_digests.proofs.BytesReads.{copy_done, copy_failed, part_len}
use Rattle.page_digests.proofs.paged_bytes.PagedBytes.copy_piece.Goals as goal

pub returns : goal.returns
returns g c =
    let P = c.self.inside.page_size in
    let n = c.min-n.result in
    let before : P ≡ c.args.self.now.page_size = ap (λ (s : BytesState). s.page_size) c.self.view_is in
    let after : c.self-2.inside.page_size ≡ c.load.new.self.page_size = ap (λ (s : BytesState). s.page_size) c.self-2.view_is in
    let size : c.self-2.inside.page_size ≡ P = after ∙ c.in_ok-load.ensures.loads.same.page_size ∙ sym before in
    let small : c.args.at % P < P = mod-lt c.args.at c.self.invariant.positive in
    let least : n ≡ min (length c.args.bytes.now - c.args.done) (c.self-2.inside.page_size - c.args.at % P) = c.min-n.ensures in
    let some : 0 < n = omega (arith, c.requires.some) in
    let fits : c.args.done + n ≤ length c.args.bytes.now = omega (arith, c.requires.some) in
    let room : c.args.at % P + n ≤ P = omega arith in
    let span : c.args.done + n - c.args.done ≡ n = omega arith in
    let its : c.copy_from_slice.new.self ≡ slice_range c.self-2.inside.page.items (c.args.at % P) (c.args.at % P + n) =
    c.copy_from_slice.ensures.after ∙ ap (λ l. slice_range l (c.args.at % P) (c.args.at % P + n)) c.deref.ensures.value in
    let len : length c.copy_from_slice.new.self ≡ n = c.copy_from_slice.ensures.len ∙ part_len c.args.bytes.now c.args.done n _ fits span in
    copy_done g.D.Digest.digest_of g.met.D.Digest.sized c.args.self.now c.load.new.self _ c.args.at c.args.done n P _ c.args.bytes.now c.copy_from_slice.new.self
    before c.self-2.view_is c.self-2.invariant c.in_ok-load.ensures.loads some fits room len span its

pub returns-in_err-load : goal.returns-in_err-load
returns-in_err-load g c =
    let p = err_from_is_err_and c.from_residual.result c.from_residual.ensures.1 in
    rw (p.1, p.2) (copy_failed g.D.Digest.digest_of c.args.self.now c.load.new.self c.args.at c.args.done c.self.inside.page_size c.args.bytes.now c.in_err-load.field-0.0 (ap (λ (s : BytesState). s.page_size) c.self.view_is) c.in_err-load.ensures.loads)
