use Rattle.std.proofs.Common.{◌∙◌, arith}
use Rattle.std.proofs.lemmas.Grind.{common_steps}
use Rattle.segments.proofs.Beginning.{most_is, parts_log, parts_open}
use Rattle.segments.proofs.log.SegmentedLog.open.Goals as goal

pub returns-in-Ok-begin-clause-opens : goal.returns-in-Ok-begin-clause-opens
returns-in-Ok-begin-clause-opens g c =
    c.in-Ok-begin.ensures.opens (g.F.Folder.asked c.args.folder) (parts_open g.H.Sum.sum_of g.R.Sum.sum_of _ _ _ (g.F.Folder.asked c.args.folder) _ _ _ _ _ c.in-Ok.ensures.are c.size-known.ensures)

pub returns-in-Err-begin-clause-log : goal.returns-in-Err-begin-clause-log
returns-in-Err-begin-clause-log c = grind (arith, common_steps)

pub returns-in-Err-begin-clause-opens : goal.returns-in-Err-begin-clause-opens
returns-in-Err-begin-clause-opens c = grind (arith, common_steps)

pub returns-in-Err-begin-clause-page_size : goal.returns-in-Err-begin-clause-page_size
returns-in-Err-begin-clause-page_size c = grind (arith, common_steps)

pub begin-requires : goal.begin-requires
begin-requires g c =
    record { log = parts_log g.H.Sum.sum_of g.R.Sum.sum_of _ _ _ (g.F.Folder.asked c.args.folder) _ _ _ _ _ c.in-Ok.ensures.are c.in_ok-recent.ensures }

pub returns-in-Ok-begin-clause-most : goal.returns-in-Ok-begin-clause-most
returns-in-Ok-begin-clause-most g c =
    c.begin.ensures.most ∙ c.max.ensures ∙ most_is c.args.options.segment_size
