use Rattle.std.proofs.Common.{◌≡◌, ◌<◌, ◌+◌, ◌-◌, ◌%◌, ◌++◌, ◌∙◌, ap, sym, min, arith}
use Rattle.std.specs.Prelude.{slice_range}
use Rattle.std.proofs.Math.Nat.{mod-lt}
use Rattle.std.proofs.lemmas.Result.{err_from_is_err_and}
use Rattle.page_digests.specs.Contents.{PagedState}
use Rattle.page_digests.proofs.ContentReads.{piece_appended, piece_lost, piece_refused}
use Rattle.page_digests.proofs.paged_content.PagedContent.append_piece.Goals as goal

pub returns : goal.returns
returns g c =
    let P = c.self.inside.page_size in
    let n = c.min-n.result in
    let before : P ≡ c.args.self.now.page_size = ap (λ (s : PagedState). s.page_size) c.self.view_is in
    let after : c.self-2.inside.page_size ≡ c.load.new.self.page_size = ap (λ (s : PagedState). s.page_size) c.self-2.view_is in
    let size : c.self-2.inside.page_size ≡ P = after ∙ c.in_ok-load.ensures.same.page_size ∙ sym before in
    let small : c.args.at % P < P = mod-lt c.args.at c.self.invariant.positive in
    let least : n ≡ min c.args.most (c.self-2.inside.page_size - c.args.at % P) = c.min-n.ensures in
    let some : 0 < n = omega (arith, c.requires.some) in
    let least_here : n ≡ min c.args.most (P - c.args.at % P) = least ∙ ap (λ k. min c.args.most (k - c.args.at % P)) size in
    let its : c.extend_from_slice.new.self.items ≡ c.args.bytes.now.items ++ slice_range c.self-2.inside.page.items (c.args.at % P) (c.args.at % P + n) =
    c.in_ok-extend_from_slice.ensures.items ∙ ap (λ l. c.args.bytes.now.items ++ slice_range l (c.args.at % P) (c.args.at % P + n)) c.deref.ensures.value in
    piece_appended g.D.Digest.digest_of c.self-2.inside.list c.self-2.inside.seal c.self-2.inside.page_size c.self-2.inside.cached c.self-2.inside.page.items _ c.args.self.now c.load.new.self c.args.at c.args.most n P
    c.args.bytes.now.items c.extend_from_slice.new.self.items c.self-2.view_is c.self-2.invariant before c.in_ok-load.ensures some least_here small its

pub returns-in_err-load : goal.returns-in_err-load
returns-in_err-load g c =
    let p = err_from_is_err_and c.from_residual.result c.from_residual.ensures.1 in
    rw (p.1, p.2) (piece_lost g.D.Digest.digest_of c.args.self.now c.load.new.self c.args.at c.args.most c.self.inside.page_size c.args.bytes.now.items c.in_err-load.field-0.0
    (ap (λ (s : PagedState). s.page_size) c.self.view_is) c.in_err-load.ensures)

pub returns-in_err-extend_from_slice : goal.returns-in_err-extend_from_slice
returns-in_err-extend_from_slice g c =
    let p = err_from_is_err_and c.from_residual-in_err-extend_from_slice.result c.from_residual-in_err-extend_from_slice.ensures.1 in
    rw (p.1, p.2) (piece_refused g.D.Digest.digest_of c.args.self.now c.load.new.self c.args.at c.args.most c.self.inside.page_size c.args.bytes.now.items c.extend_from_slice.new.self.items
    (ap (λ (s : PagedState). s.page_size) c.self.view_is) c.in_ok-load.ensures c.in_err-extend_from_slice.ensures.items)
