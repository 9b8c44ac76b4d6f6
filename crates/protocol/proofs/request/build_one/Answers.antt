use Rattle.std.proofs.Common.{arith}
use Rattle.protocol.proofs.Requests.{no_empty_buffer, built_err, of_none}
use Rattle.protocol.proofs.request.build_one.Goals as goal

pub returns-in_err-ok_or-in_default : goal.returns-in_err-ok_or-in_default
returns-in_err-ok_or-in_default c =
    built_err _ _ c.in_err-ok_or-in_default.field-0.0 c.from_residual.result c.from_residual.ensures.1
    (no_empty_buffer c.args.kind c.args.number c.in_err-ok_or-in_default.field-0.0 (omega arith) (omega arith) (omega arith) (omega arith) c.requires (rw c.in_err-ok_or-in_default.ensures.ok_part at c.new.ensures)
    (of_none c.new.result c.in_err-ok_or-in_default.field-0.0 c.in_err-ok_or-in_default.ensures.value))
