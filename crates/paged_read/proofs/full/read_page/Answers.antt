use Rattle.std.proofs.Common.{rules, ◌+◌, ◌*◌, Ok, Err, arith}
use Rattle.std.proofs.lemmas.Grind.{common_steps}
use Rattle.crash.proofs.LookLaws.{looked_read}
use Rattle.paged_read.proofs.Failing.{none_failed_read}
use Rattle.paged_read.proofs.FullPages.{read_longer}
use Rattle.paged_read.proofs.full.read_page.Goals as goal

pub returns-in_err-bytes-clause-looked : goal.returns-in_err-bytes-clause-looked
returns-in_err-bytes-clause-looked g c = looked_read (c.args.page * (c.from.result + 12)) (c.from.result + 12) (g.B.Blob.life c.args.blob.now) (g.B.Blob.life c.read_at.new.self) (Err c.in_err-bytes.field-0.0) c.in_err-bytes.ensures.goes

pub returns-then-is_full-clause-looked : goal.returns-then-is_full-clause-looked
returns-then-is_full-clause-looked g c = looked_read (c.args.page * (c.from.result + 12)) (c.from.result + 12) (g.B.Blob.life c.args.blob.now) (g.B.Blob.life c.read_at.new.self) (Ok c.in_ok-bytes.bytes) c.in_ok-bytes.ensures.goes

pub returns-else-is_full-clause-looked : goal.returns-else-is_full-clause-looked
returns-else-is_full-clause-looked g c = looked_read (c.args.page * (c.from.result + 12)) (c.from.result + 12) (g.B.Blob.life c.args.blob.now) (g.B.Blob.life c.read_at.new.self) (Ok c.in_ok-bytes.bytes) c.in_ok-bytes.ensures.goes

pub returns-then-is_full-clause-reads : goal.returns-then-is_full-clause-reads
returns-then-is_full-clause-reads g c =
    (search rules, search rules, none_failed_read (c.args.page * (c.from.result + 12)) (c.from.result + 12) (g.B.Blob.life c.args.blob.now) (g.B.Blob.life c.read_at.new.self) c.in_ok-bytes.bytes c.in_ok-bytes.ensures.goes)

pub returns-else-is_full-clause-reads : goal.returns-else-is_full-clause-reads
returns-else-is_full-clause-reads g c =
    (search rules, none_failed_read (c.args.page * (c.from.result + 12)) (c.from.result + 12) (g.B.Blob.life c.args.blob.now) (g.B.Blob.life c.read_at.new.self) c.in_ok-bytes.bytes c.in_ok-bytes.ensures.goes)

pub returns-then-is_full-clause-answered : goal.returns-then-is_full-clause-answered
returns-then-is_full-clause-answered g c = read_longer (c.args.page * (c.from.result + 12)) (c.from.result + 12) (g.B.Blob.life c.args.blob.now) (g.B.Blob.life c.read_at.new.self) c.in_ok-bytes.bytes c.in_ok-bytes.ensures.goes

pub returns-else-is_full-clause-asks : goal.returns-else-is_full-clause-asks
returns-else-is_full-clause-asks g c = grind (arith, common_steps)

pub returns-in_err-bytes-clause-asks : goal.returns-in_err-bytes-clause-asks
returns-in_err-bytes-clause-asks g c = grind (arith, common_steps)

pub returns-then-is_full-clause-asks : goal.returns-then-is_full-clause-asks
returns-then-is_full-clause-asks g c = grind (arith, common_steps)
