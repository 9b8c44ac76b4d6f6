use Rattle.std.proofs.Common.{◌≡◌, ◌+◌, ◌/◌, ◌%◌, ◌≤◌, ◌∷◌, [], ◌∙◌, sym, ap, arith, map}
use Rattle.std.specs.Int.NonZero.{non_zero_u16_get}
use Rattle.std.specs.List.{range_with_len}
use Rattle.cache.specs.declared.piece.Piece.{Piece}
use Rattle.paged_read.specs.Pieces.{piece_of}
use Rattle.paged_read.proofs.Spans.{one_span, page_count_is}
use Rattle.paged_read.proofs.pieces.only_piece.Goals as goal

pub returns : goal.returns
returns c =
    let P = non_zero_u16_get c.args.page_size in
    let offset = c.args.offset in
    let len = c.args.len in
    let f = piece_of P (offset, len) 0 in
    let size : c.from-size.result ≡ P = c.from-size.ensures ∙ c.get.ensures.value in
    let within : offset % P + len ≤ P = omega (arith, c.if-offset-size.false, ap (λ s. offset % s + len) size, size) in
    let here : c.piece_at.result ≡ f (offset / P) = c.piece_at.ensures ∙ ap (λ s. f (offset / s)) size in (
      ap (λ (p : Piece). p.page) here,
      ap (λ n. map f (range_with_len (offset / P) n)) (page_count_is P offset len c.requires.some ∙ one_span (offset % P + len) P (omega (arith, c.requires.some)) within) ∙ ap (λ (p : Piece). p ∷ []) (sym here),
    )
