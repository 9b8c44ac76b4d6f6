use Rattle.std.proofs.Common.{◌<◌, ◌^◌, subst, arith}
use Rattle.std.proofs.lemmas.Result.{err_from_is_err_and}
use Rattle.page_digests.specs.Contents.{PagedState}
use Rattle.page_digests.proofs.ContentReads.{range_begins, range_done, range_failed, range_goes_on}
use Rattle.page_digests.proofs.paged_content.PagedContent.append_range.Goals as goal

pub loop-done-init : goal.loop-done-init
loop-done-init g c = range_begins g.D.Digest.digest_of c.args.offset c.args.len c.args.self.now c.args.bytes.now.items

pub loop-done-preserved : goal.loop-done-preserved
loop-done-preserved g c = range_goes_on g.D.Digest.digest_of c.args.offset c.args.len c.args.self.now c.loop-done.self c.append_piece.new.self c.loop-done.done c.in_ok-done.field-0 c.args.bytes.now.items c.loop-done.bytes.items c.append_piece.new.bytes.items (subst (λ (s : PagedState). 0 < s.page_size) c.self.view_is c.self.invariant.positive) c.loop-done-test.true c.loop-done.invariant c.in_ok-done.ensures

pub returns : goal.returns
returns g c = range_done g.D.Digest.digest_of c.args.offset c.args.len c.args.self.now c.loop-done.self c.loop-done.done c.args.bytes.now.items c.loop-done.bytes.items c.loop-done-test.false c.loop-done.invariant

pub returns-in_err-done : goal.returns-in_err-done
returns-in_err-done g c =
    let p = err_from_is_err_and c.from_residual.result c.from_residual.ensures.1 in
    rw (p.1, p.2) (range_failed g.D.Digest.digest_of c.args.offset c.args.len c.args.self.now c.loop-done.self c.append_piece.new.self c.loop-done.done c.args.bytes.now.items c.loop-done.bytes.items c.append_piece.new.bytes.items c.in_err-done.field-0.0 (subst (λ (s : PagedState). 0 < s.page_size) c.self.view_is c.self.invariant.positive) c.loop-done-test.true c.loop-done.invariant c.in_err-done.ensures)

pub overflow_add-offset : goal.overflow_add-offset
overflow_add-offset g c =
    let fits : c.args.self.now.seal.len < 2 ^ 50 = subst (λ (s : PagedState). s.seal.len < 2 ^ 50) c.self.view_is c.self.invariant.fits in
    let within = c.loop-done.invariant.within in
    omega (arith, c.requires)
