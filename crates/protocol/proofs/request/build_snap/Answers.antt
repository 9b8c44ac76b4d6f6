use Rattle.protocol.proofs.Requests.{no_long_snap, built_err}
use Rattle.protocol.proofs.request.build_snap.Goals as goal

pub returns-in_err-len : goal.returns-in_err-len
returns-in_err-len c =
    built_err _ _ c.in_err-len.field-0.0 c.from_residual.result c.from_residual.ensures.1
    (no_long_snap c.args.index c.args.offset c.args.len c.in_err-len.field-0.0 c.ranges.len.fits c.in_err-len.ensures.fits c.in_err-len.ensures.flaw)
