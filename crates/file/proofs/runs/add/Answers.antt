use Rattle.std.proofs.Common.{[]}
use Rattle.std.proofs.lemmas.Result.{err_from_is_err_and}
use Rattle.file.proofs.Running.{puts_then, fails_then}
use Rattle.file.proofs.runs.add.Goals as goal

pub returns-in_err-next : goal.returns-in_err-next
returns-in_err-next g c =
    let error = err_from_is_err_and c.from_residual.result c.from_residual.ensures.1 in
    rw (error.1, ← c.if-gather.ensures)
    (fails_then g.S.Sink.goes c.args.offset c.gather.new.gathered.items [] c.args.bytes.now c.put_gathered.new.gathered.items c.args.sink.now c.put_gathered.new.sink c.in_err-next.field-0.0 error.0 c.in_err-next.ensures.puts)

pub returns : goal.returns
returns g c =
    rw (← c.if-gather.ensures, c.if-gather-2.ensures, c.in_ok-next.ensures.none)
    (puts_then g.S.Sink.goes c.args.offset c.in_ok-next.next c.gather.new.gathered.items [] c.args.bytes.now [] c.args.sink.now c.put_gathered.new.sink c.put_run.new.sink c.put_run.result c.in_ok-next.ensures.puts c.put_run.ensures)
