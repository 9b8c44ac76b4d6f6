use Rattle.std.proofs.Common.{◌≡◌, ◌++◌, ap, arith, length, false}
use Rattle.std.specs.List.{concat}
use Rattle.std.proofs.lemmas.Result.{err_from_is_err_and}
use Rattle.paged.specs.Direct.{buffering}
use Rattle.paged.specs.Flush.{offset_of, flush_bytes}
use Rattle.paged.proofs.Bypass.{direct_can, direct_fits}
use Rattle.paged.proofs.Causes.{no_overflow, write_unasked}
use Rattle.paged.proofs.Flushing.{can_some, flush_fits}
use Rattle.paged.proofs.writer.Writer.write_taken.Goals as goal

pub returns-in_err-bufs-clause-goes : goal.returns-in_err-bufs-clause-goes
returns-in_err-bufs-clause-goes g c =
    let w = c.args.self.now in
    let v = buffering w (c.args.whole ++ c.args.rest.now) in
    let p = err_from_is_err_and c.from_residual.result c.from_residual.ensures.1 in
    let can = direct_can w c.args.whole c.args.rest.now c.requires.direct in
    let fits = flush_fits g.H.Sum.sum_of v false (can_some v false can) can (direct_fits w c.args.whole c.args.rest.now c.requires.direct) in
    rw (p.1, p.2) (write_unasked (offset_of v) (flush_bytes g.H.Sum.sum_of v false) false (g.B.Blob.life c.args.blob.now) c.in_err-bufs.field-0.0 c.in_err-bufs.ensures.err fits)

pub returns-in_err-write_at-clause-fits : goal.returns-in_err-write_at-clause-fits
returns-in_err-write_at-clause-fits g c =
    let w = c.args.self.now in
    let v = buffering w (c.args.whole ++ c.args.rest.now) in
    let bytes : length (concat c.in_ok-bufs.bufs) ≡ length (flush_bytes g.H.Sum.sum_of v false) = ap length c.in_ok-bufs.ensures.bytes in
    let can = direct_can w c.args.whole c.args.rest.now c.requires.direct in
    let fits = flush_fits g.H.Sum.sum_of v false (can_some v false can) can (direct_fits w c.args.whole c.args.rest.now c.requires.direct) in
    let p = err_from_is_err_and c.from_residual-in_err-write_at.result c.from_residual-in_err-write_at.ensures.1 in
    rw (p.1, p.2) (λ is. no_overflow _ _ false _ _ c.in_err-write_at.field-0.0 c.in_err-write_at.ensures.goes (omega (arith, fits, c.physical_offset-offset.ensures.offset, bytes)) cc)
