use Rattle.std.proofs.Common.{refl}
use Rattle.std.proofs.lemmas.Result.{err_from_is_err_and}
use Rattle.file.proofs.Running.{run_put, run_failed}
use Rattle.file.proofs.runs.put_run.Goals as goal

pub returns-in_err-put : goal.returns-in_err-put
returns-in_err-put g c =
    let error = err_from_is_err_and c.from_residual.result c.from_residual.ensures.1 in
    rw error.1 (run_failed g.S.Sink.goes c.args.offset c.args.run.now c.args.sink.now c.put.new.self error.0 c.ranges.offset.fits c.in_err-put.ensures)

pub returns : goal.returns
returns g c = run_put g.S.Sink.goes c.args.offset _ c.args.run.now c.args.sink.now c.put.new.self c.ranges.offset.fits refl c.in_ok-put.ensures
