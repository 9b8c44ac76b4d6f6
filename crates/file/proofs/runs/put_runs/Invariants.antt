use Rattle.std.proofs.Common.{take}
use Rattle.std.specs.List.{concat}
use Rattle.file.specs.Runs.{HasPut}
use Rattle.file.proofs.runs.put_runs.Given as goal

abbrev pub invariant-loop-buf : goal.invariant-loop-buf
invariant-loop-buf g l =
    HasPut g.S.Sink.goes l.fn.offset (concat (take l.buf-index l.bufs)) l.gathered.items l.next l.fn.sink l.sink
