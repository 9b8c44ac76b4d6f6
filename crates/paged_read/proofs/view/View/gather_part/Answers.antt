use Rattle.std.proofs.Common.{◌≡◌, ◌∙◌, ap, ℕ, ◌+◌, ◌-◌, ◌/◌, ◌%◌, ◌<◌, length, arith}
use Rattle.std.specs.Int.NonZero.{non_zero_u16_get}
use Rattle.std.proofs.lemmas.Slice.{take-put_mid}
use Rattle.cache.specs.declared.piece.Piece.{Piece}
use Rattle.paged_read.specs.Tail.{tail_at}
use Rattle.paged_read.proofs.BatchSteps.{gathered_served, gathered_lacked, tried_served, tried_unserved, tried_part, length_part}
use Rattle.std.proofs.lemmas.Result.{err_from_is_err_and}
use Rattle.paged_read.proofs.view.View.gather_part.Goals as goal

pub returns-then-try_read_sync_into-clause-gathered : goal.returns-then-try_read_sync_into-clause-gathered
returns-then-try_read_sync_into-clause-gathered g c = λ ranges ends before.
    let t = tail_at c.args.self.page_size c.args.self.id c.args.self.tip.now in
    let buf_offset = c.args.buf_offset in
    let len = c.args.len in
    let buf = c.args.buf.now in
    let part = c.try_read_sync_into.new.buf in
    let tries = tried_part t c.args.offset len buf_offset c.args.cache.now buf part c.try_read_sync_into.result c.requires.room c.try_read_sync_into.ensures.goes in
    let size : length part ≡ len = c.try_read_sync_into.ensures.size ∙ length_part buf_offset len buf c.requires.room in
    let served = tried_served t (c.args.offset, len) c.args.cache.now part c.try_read_sync_into.result tries c.if-try_read_sync_into.true in
    let front = take-put_mid buf_offset (buf_offset + len - buf_offset) buf part (buf_offset + len) (omega (arith, size)) (omega (arith, c.requires.room)) in
    gathered_served c.args.cache.now t ranges c.args.offset len buf_offset c.args.batch.now.pages.items c.args.batch.now.lacks.items buf part _ (omega (arith, c.requires.room)) served front (tries.1 c.if-try_read_sync_into.true) before

pub returns-clause-gathered : goal.returns-clause-gathered
returns-clause-gathered g c = λ ranges ends before.
    let t = tail_at c.args.self.page_size c.args.self.id c.args.self.tip.now in
    let P = non_zero_u16_get c.args.self.page_size in
    let buf_offset = c.args.buf_offset in
    let len = c.args.len in
    let buf = c.args.buf.now in
    let part = c.try_read_sync_into.new.buf in
    let tries = tried_part t c.args.offset len buf_offset c.args.cache.now buf part c.try_read_sync_into.result c.requires.room c.try_read_sync_into.ensures.goes in
    let size : length part ≡ len = c.try_read_sync_into.ensures.size ∙ length_part buf_offset len buf c.requires.room in
    let unserved = tried_unserved t (c.args.offset, len) c.args.cache.now part c.try_read_sync_into.result tries c.requires.ends c.if-try_read_sync_into.false in
    let front = take-put_mid buf_offset (buf_offset + len - buf_offset) buf part (buf_offset + len) (omega (arith, size)) (omega (arith, c.requires.room)) in
    let wide : 0 < P = omega (arith, c.get.ensures.value, c.get.ensures.nonzero) in
    let from : c.from-page_size.result ≡ P = c.from-page_size.ensures ∙ c.get.ensures.value in
    let piece : Piece = record { page = c.args.offset / c.from-page_size.result; skip = c.args.offset % c.from-page_size.result; place = buf_offset; len = len } in
    let piece_is : piece ≡ record { page = c.args.offset / P; skip = c.args.offset % P; place = buf_offset; len = len } =
    ap (λ (n : ℕ). let p : Piece = record { page = c.args.offset / n; skip = c.args.offset % n; place = buf_offset; len = len } in p) from in
    gathered_lacked c.args.cache.now t ranges c.args.offset len buf_offset c.args.batch.now.pages.items c.add.new.self.pages.items c.args.batch.now.lacks.items c.add.new.self.lacks.items piece buf part _
    wide c.requires.some (omega (arith, c.requires.room)) size c.requires.ends ends c.requires.within unserved front piece_is c.in_ok-add.ensures.pages c.in_ok-add.ensures.lacks before

pub returns-in_err-add-clause-refused : goal.returns-in_err-add-clause-refused
returns-in_err-add-clause-refused g c =
    let t = tail_at c.args.self.page_size c.args.self.id c.args.self.tip.now in
    let tries = tried_part t c.args.offset c.args.len c.args.buf_offset c.args.cache.now c.args.buf.now c.try_read_sync_into.new.buf c.try_read_sync_into.result c.requires.room c.try_read_sync_into.ensures.goes in
    let p = err_from_is_err_and c.from_residual.result c.from_residual.ensures.1 in
    rw p.1 (tried_unserved t (c.args.offset, c.args.len) c.args.cache.now c.try_read_sync_into.new.buf c.try_read_sync_into.result tries c.requires.ends c.if-try_read_sync_into.false)
