use Rattle.std.proofs.Common.{◌≡◌, ◌+◌, ◌-◌, ◌/◌, ◌%◌, ◌<◌, ◌++◌, ◌∷◌, [], ◌∙◌, sym, ap, arith, append_assoc, map, List}
use Rattle.std.proofs.lemmas.Grind.{common_steps}
use Rattle.std.specs.Int.{div_ceil}
use Rattle.std.specs.Int.NonZero.{non_zero_u16_get}
use Rattle.std.specs.List.{range_with_len}
use Rattle.std.proofs.lemmas.List.FromFn.{map-range_with_len_more}
use Rattle.cache.specs.declared.piece.Piece.{Piece}
use Rattle.paged_read.specs.Pieces.{piece_of}
use Rattle.paged_read.proofs.Spans.{spans_of, spans_begin}
use Rattle.paged_read.proofs.pieces.push_pieces.Goals as goal

pub piece_at-requires-clause-begins : goal.piece_at-requires-clause-begins
piece_at-requires-clause-begins c =
    let P = non_zero_u16_get c.args.page_size in
    let size : c.from-size.result ≡ P = c.from-size.ensures ∙ c.get.ensures.value in
    let some : 0 < P = omega (arith, size, c.get.ensures.nonzero, c.from-size.ensures) in
    let first : c.args.offset / c.from-size.result ≡ c.args.offset / P = ap (λ s. c.args.offset / s) size in
    let count : c.div_ceil-count.result ≡ div_ceil (c.args.offset % P + c.args.len) P = c.div_ceil-count.ensures ∙ ap (λ s. div_ceil (c.args.offset % s + c.args.len) s) size in
    omega (arith, spans_begin P c.args.offset c.args.len (c.args.offset / P) (div_ceil (c.args.offset % P + c.args.len) P) c.loop-page.page (spans_of P c.args.offset c.args.len some) (omega (arith, c.loop-page-test.true, first, count)))

pub loop-page-preserved : goal.loop-page-preserved
loop-page-preserved c =
    let first = c.args.offset / c.from-size.result in
    let P = non_zero_u16_get c.args.page_size in
    let f = piece_of P (c.args.offset, c.args.len) c.args.buf_offset in
    let n : c.loop-page.page + 1 - first ≡ c.loop-page.page - first + 1 = omega (arith, c.loop-page.auto.page) in
    let old = c.args.pieces.now.items in
    let before : List Piece = map f (range_with_len first (c.loop-page.page - first)) in
    c.in_ok-push.ensures.items ∙ ap (λ (l : List Piece). l ++ c.piece_at.result ∷ []) c.loop-page.invariant
    ∙ append_assoc old before (c.piece_at.result ∷ [])
    ∙ ap (λ (p : Piece). old ++ (before ++ p ∷ [])) c.piece_at.ensures
    ∙ ap (λ (l : List Piece). old ++ l) (sym (map-range_with_len_more f first (c.loop-page.page - first) c.loop-page.page (omega (arith, c.loop-page.auto.page))))
    ∙ ap (λ n. old ++ map f (range_with_len first n)) (sym n)

pub returns-in_err-push-clause-ok : goal.returns-in_err-push-clause-ok
returns-in_err-push-clause-ok c = grind (arith, common_steps)
