use Rattle.std.proofs.Common.{ap}
use Rattle.protocol.specs.Request.{asks_bytes}
use Rattle.protocol.proofs.Requests.{no_long_read, built_err, ends_with_len}
use Rattle.protocol.proofs.request.build_two.Goals as goal

pub returns-in_err-len_of-in-6 : goal.returns-in_err-len_of-in-6
returns-in_err-len_of-in-6 c =
    built_err _ _ c.in_err-len_of-in-6.field-0.0 c.from_residual.result c.from_residual.ensures.1
    (no_long_read c.args.kind c.args.first c.args.second c.in_err-len_of-in-6.field-0.0 c.ranges.second.fits c.in_err-len_of-in-6.ensures.fits (ap ends_with_len c.in-6.is) (ap asks_bytes c.in-6.is) c.in_err-len_of-in-6.ensures.flaw)

pub returns-in_err-len_of-in-7 : goal.returns-in_err-len_of-in-7
returns-in_err-len_of-in-7 c =
    built_err _ _ c.in_err-len_of-in-7.field-0.0 c.from_residual-in_err-len_of-in-7.result c.from_residual-in_err-len_of-in-7.ensures.1
    (no_long_read c.args.kind c.args.first c.args.second c.in_err-len_of-in-7.field-0.0 c.ranges.second.fits c.in_err-len_of-in-7.ensures.fits (ap ends_with_len c.in-7.is) (ap asks_bytes c.in-7.is) c.in_err-len_of-in-7.ensures.flaw)

pub returns-in_err-len_of-in-14 : goal.returns-in_err-len_of-in-14
returns-in_err-len_of-in-14 c =
    built_err _ _ c.in_err-len_of-in-14.field-0.0 c.from_residual-in_err-len_of-in-14.result c.from_residual-in_err-len_of-in-14.ensures.1
    (no_long_read c.args.kind c.args.first c.args.second c.in_err-len_of-in-14.field-0.0 c.ranges.second.fits c.in_err-len_of-in-14.ensures.fits (ap ends_with_len c.in-14.is) (ap asks_bytes c.in-14.is) c.in_err-len_of-in-14.ensures.flaw)
