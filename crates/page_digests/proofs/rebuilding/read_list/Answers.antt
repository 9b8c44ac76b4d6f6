use Rattle.std.proofs.Common.{◌++◌, ◌∙◌, arith, ap}
use Rattle.std.proofs.lemmas.Result.{err_from_is_err_and}
use Rattle.page_digests.proofs.Rebuilt.{pages_end, pages_grow}
use Rattle.page_digests.proofs.rebuilding.read_list.Goals as goal

pub loop-i-preserved : goal.loop-i-preserved
loop-i-preserved g c =
    pages_grow g.D.Digest.digest_of c.args.page_size c.args.len (g.F.Source.reads c.args.file.now) (g.F.Source.reads c.loop-i.file) (g.F.Source.reads c.read_bytes.new.file) c.loop-i.i
    c.loop-i.invariant.0 c.read_bytes.new.bytes.items c.loop-i.list.items c.extend_from_slice.new.self.items c.requires.positive
    (omega (arith, c.loop-i-test.true, c.div_ceil-i-end.ensures)) c.loop-i.invariant.1 c.in_ok-read_bytes.ensures.2 c.loop-i.invariant.2 c.in_ok-read_bytes.ensures.0 (c.in_ok-read_bytes.ensures.1 ∙ c.page_len.ensures)
    (c.in_ok-extend_from_slice.ensures.items ∙ ap (λ l. c.loop-i.list.items ++ l) (c.digest.ensures ∙ ap g.D.Digest.digest_of c.deref.ensures.value))

pub returns-in_err-read_bytes : goal.returns-in_err-read_bytes
returns-in_err-read_bytes g c =
    let p = err_from_is_err_and c.from_residual.result c.from_residual.ensures.1 in
    rw (p.1, p.2) (pages_end g.D.Digest.digest_of c.args.page_size c.args.len c.page_len.result (g.F.Source.reads c.args.file.now) (g.F.Source.reads c.loop-i.file) (g.F.Source.reads c.read_bytes.new.file) c.loop-i.i
    c.loop-i.invariant.0 c.read_bytes.new.bytes.items c.in_err-read_bytes.field-0.0 c.requires.positive (omega (arith, c.loop-i-test.true, c.div_ceil-i-end.ensures)) c.loop-i.invariant.1 c.page_len.ensures c.in_err-read_bytes.ensures)
