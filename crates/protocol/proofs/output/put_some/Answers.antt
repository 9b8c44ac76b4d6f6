use Rattle.std.proofs.lemmas.List.{take_rest}
use Rattle.protocol.proofs.Written.{puts_rest}
use Rattle.protocol.proofs.output.put_some.Goals as goal

pub returns-in-Ok-2 : goal.returns-in-Ok-2
returns-in-Ok-2 g c =
    let bytes = c.args.bytes.now in
    let count = c.in-Ok.count in
    puts_rest count bytes (g.W.Write.contents c.args.out.now) (g.W.Write.contents c.write.new.self) (g.W.Write.contents c.put_all.new.out) c.put_all.result c.in-Ok.ensures.bytes (rw (take_rest bytes count) at c.put_all.ensures)
