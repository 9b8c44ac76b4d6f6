use Rattle.std.proofs.Common.{[], arith}
use Rattle.std.proofs.lemmas.Grind.{common_steps}
use Rattle.std.proofs.lemmas.Result.{err_from_is_err_and}
use Rattle.paged_read.specs.Failures.{none_failed_start}
use Rattle.paged.specs.Reads.{size_of}
use Rattle.items.specs.Standing.{items_content, items_of}
use Rattle.items.proofs.Laws.{first_of_itself}
use Rattle.items.proofs.Reading.{not_got, there_is}
use Rattle.items.proofs.Standing.{nothing_leaves, stand}
use Rattle.items.proofs.run.item_of.Goals as goal

pub returns-in_err-find-clause-gives : goal.returns-in_err-find-clause-gives
returns-in_err-find-clause-gives g c =
    let s = c.args.items.now in
    let life = g.B.Blob.life c.args.blob.now in
    let error = err_from_is_err_and c.from_residual.result c.from_residual.ensures.1 in
    rw (error.1, error.2) (not_got s.size (size_of s.writer) (items_content s life) c.args.i [] life c.in_err-find.field-0.0 (stand g.H.Sum.sum_of s c.args.cache.now life c.requires.items).size c.in_err-find.ensures)

pub returns-in_err-find-clause-leaves : goal.returns-in_err-find-clause-leaves
returns-in_err-find-clause-leaves g c =
    let life = g.B.Blob.life c.args.blob.now in
    nothing_leaves g.H.Sum.sum_of c.args.items.now (items_of c.args.items.now life) c.args.cache.now life (first_of_itself (items_of c.args.items.now life)) c.requires.items

pub returns-in_err-resize-clause-gives : goal.returns-in_err-resize-clause-gives
returns-in_err-resize-clause-gives g c =
    let s = c.args.items.now in
    let life = g.B.Blob.life c.args.blob.now in
    let error = err_from_is_err_and c.from_residual-in_err-resize.result c.from_residual-in_err-resize.ensures.1 in
    rw (error.1, error.2)
    (there_is s.size (size_of s.writer) (items_content s life) c.args.i c.in_ok-find.field-0 (stand g.H.Sum.sum_of s c.args.cache.now life c.requires.items).size c.in_ok-find.ensures, none_failed_start life.present)

pub returns-in_err-resize-clause-leaves : goal.returns-in_err-resize-clause-leaves
returns-in_err-resize-clause-leaves g c =
    let life = g.B.Blob.life c.args.blob.now in
    nothing_leaves g.H.Sum.sum_of c.args.items.now (items_of c.args.items.now life) c.args.cache.now life (first_of_itself (items_of c.args.items.now life)) c.requires.items

pub returns-in-Ok-clause-gives : goal.returns-in-Ok-clause-gives
returns-in-Ok-clause-gives g c = grind (arith, common_steps)
