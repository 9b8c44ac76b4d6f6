use Rattle.std.proofs.Common.{◌<◌, length, subst, arith, refl}
use Rattle.std.proofs.lemmas.Result.{err_from_is_err_and}
use Rattle.page_digests.specs.PagedBytes.{BytesState}
use Rattle.page_digests.proofs.BytesReads.{copy_begins, copy_more, range_copied, read_failed}
use Rattle.page_digests.proofs.paged_bytes.PagedBytes.read.Goals as goal

pub copy_piece-requires-clause-within : goal.copy_piece-requires-clause-within
copy_piece-requires-clause-within g c =
    rw c.loop-done.invariant.same.len (omega (arith, c.requires, c.loop-done.invariant.len, c.loop-done.invariant.within))

pub loop-done-init : goal.loop-done-init
loop-done-init g c = copy_begins g.D.Digest.digest_of c.args.at (length c.args.bytes.now) c.args.self.now c.args.bytes.now refl

pub loop-done-preserved : goal.loop-done-preserved
loop-done-preserved g c =
    let positive : 0 < c.args.self.now.page_size = subst (λ (s : BytesState). 0 < s.page_size) c.self.view_is c.self.invariant.positive in
    copy_more g.D.Digest.digest_of c.args.at (length c.args.bytes.now) c.args.self.now c.loop-done.self c.copy_piece.new.self c.loop-done.done c.in_ok-done.field-0 c.loop-done.bytes c.copy_piece.new.bytes positive c.loop-done.invariant c.in_ok-done.ensures

pub returns-in_err-done : goal.returns-in_err-done
returns-in_err-done g c =
    let positive : 0 < c.args.self.now.page_size = subst (λ (s : BytesState). 0 < s.page_size) c.self.view_is c.self.invariant.positive in
    let p = err_from_is_err_and c.from_residual.result c.from_residual.ensures.1 in
    rw (p.1, p.2) (read_failed g.D.Digest.digest_of c.args.at c.args.self.now c.loop-done.self c.copy_piece.new.self c.loop-done.done c.args.bytes.now c.loop-done.bytes c.copy_piece.new.bytes c.in_err-done.field-0.0 positive c.loop-done-test.true c.loop-done.invariant c.in_err-done.ensures)

pub returns : goal.returns
returns g c = range_copied g.D.Digest.digest_of c.args.at c.args.self.now c.loop-done.self c.loop-done.done c.args.bytes.now c.loop-done.bytes c.loop-done-test.false c.loop-done.invariant
