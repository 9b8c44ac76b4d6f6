use Rattle.std.proofs.Common.{refl, arith}
use Rattle.std.proofs.lemmas.Grind.{common_steps}
use Rattle.page.proofs.Buffers.{no_page}
use Rattle.page.proofs.tail.Tail.freeze_full_pages.Goals as goal

pub returns-then-self-page_size-clause-chunks : goal.returns-then-self-page_size-clause-chunks
returns-then-self-page_size-clause-chunks c = rw (no_page c.args.page_size c.args.self.now.bytes.items (omega (arith, c.len.ensures, c.args.self.now.bytes.ok, c.if-len-page_size.true))) refl

pub returns-then-self-page_size-clause-bytes : goal.returns-then-self-page_size-clause-bytes
returns-then-self-page_size-clause-bytes c = rw (no_page c.args.page_size c.args.self.now.bytes.items (omega (arith, c.len.ensures, c.args.self.now.bytes.ok, c.if-len-page_size.true))) refl

pub returns-clause-bytes : goal.returns-clause-bytes
returns-clause-bytes c = grind (arith, common_steps)

pub returns-clause-limit : goal.returns-clause-limit
returns-clause-limit c = grind (arith, common_steps)
