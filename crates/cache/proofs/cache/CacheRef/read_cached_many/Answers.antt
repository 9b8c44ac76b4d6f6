use Rattle.std.proofs.Common.{◌∙◌, ap, sym, ℕ, List, length, take, slice_index_or, arith}
use Rattle.std.proofs.lemmas.Grind.{common_steps}
use Rattle.std.proofs.lemmas.List.{take_rest}
use Rattle.cache.specs.CacheState.{put_at}
use Rattle.cache.specs.declared.piece.Piece.{Piece}
use Rattle.std.proofs.Common.{◌++◌, ◌∷◌, [], refl, ◌+◌}
use Rattle.cache.proofs.Reading.{held_step, missing_step, some_left, unread}
use Rattle.cache.proofs.cache.CacheRef.read_cached_many.Goals as goal
use Rattle.cache.proofs.cache.CacheRef.read_cached_many.Goals.{in-Some, in-None+in_ok-push-in-None}

pub loop-piece-preserved : goal.loop-piece-preserved
loop-piece-preserved c =
    let zero : Piece = record { page = 0; skip = 0; place = 0; len = 0 } in
    let i : ℕ = c.loop-piece.piece-index in
    let pieces : List Piece = c.args.pieces.now in
    let piece : Piece = slice_index_or pieces i zero in
    elim c.match-page.branch [
      | in-Some w ↦
          let step = held_step c.args.self.now c.args.id pieces c.loop-piece.left.items i zero
          w.in-Some.page.now c.args.buf.now c.loop-piece.buf w.copy_at.new.buf
          c.loop-piece-test.true (sym w.in-Some.ensures.page) c.loop-piece.invariant.1
          c.loop-piece.invariant.2
          (w.copy_at.ensures.put ∙ ap (λ l. put_at piece.place (take piece.len l) c.loop-piece.buf)
          (take_rest w.in-Some.page.now piece.skip)) in (
            ap length w.buf-is ∙ w.copy_at.ensures.size ∙ c.loop-piece.invariant.0,
            ap (λ v. v.items) w.left-is ∙ step.0,
            w.buf-is ∙ step.1,
          )
      | in-None+in_ok-push-in-None w ↦
          let step = missing_step c.args.self.now c.args.id pieces c.loop-piece.left.items
          w.push.new.self.items i zero c.args.buf.now c.loop-piece.buf c.loop-piece-test.true
          (sym w.in-None.ensures.page) c.loop-piece.invariant.1 c.loop-piece.invariant.2
          w.in_ok-push-in-None.ensures.items in (
            ap length w.buf-is ∙ c.loop-piece.invariant.0,
            ap (λ v. v.items) w.left-is ∙ step.0,
            w.buf-is ∙ step.1,
          )
    ]

pub returns-in_err-push-in-None-clause-copies : goal.returns-in_err-push-in-None-clause-copies
returns-in_err-push-in-None-clause-copies c =
    let zero : Piece = record { page = 0; skip = 0; place = 0; len = 0 } in
    let i : ℕ = c.loop-piece.piece-index in
    let pieces : List Piece = c.args.pieces.now in
    let piece : Piece = slice_index_or pieces i zero in
    let step = missing_step c.args.self.now c.args.id pieces c.loop-piece.left.items
    (c.loop-piece.left.items ++ piece ∷ []) i zero c.args.buf.now c.loop-piece.buf
    c.loop-piece-test.true (sym c.in-None.ensures.page) c.loop-piece.invariant.1
    c.loop-piece.invariant.2 refl in
    unread c.args.self.now c.args.id pieces c.args.buf.now c.loop-piece.buf c.from_residual.result
    c.from_residual.ensures.1 c.loop-piece.invariant.0
    (some_left c.args.self.now c.args.id pieces c.loop-piece.left.items piece (i + 1) step.0)

pub returns-clause-copies : goal.returns-clause-copies
returns-clause-copies c = grind (arith, common_steps)
