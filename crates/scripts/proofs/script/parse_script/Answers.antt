use Rattle.scripts.proofs.ScriptLines.{stopped_session, stopped_items}
use Rattle.scripts.proofs.script.parse_script.Goals as goal

pub returns-in_err-lines-in-Ok-Session : goal.returns-in_err-lines-in-Ok-Session
returns-in_err-lines-in-Ok-Session c =
    let begins = rw c.in-Ok-Session.field-0-is at c.in-Ok-Session.ensures.reads in
    record { reads = stopped_session c.args.first.now _ c.in-Ok-Session.start c.from_residual.result _ begins c.in_err-lines-in-Ok-Session.ensures.reads c.from_residual.ensures.1 }

pub returns-in_err-lines-in-Ok-Items : goal.returns-in_err-lines-in-Ok-Items
returns-in_err-lines-in-Ok-Items c =
    let begins = rw c.in-Ok-Items.field-0-is at c.in-Ok-Items.ensures.reads in
    record { reads = stopped_items c.args.first.now _ c.in-Ok-Items.start c.from_residual-in_err-lines-in-Ok-Items.result _ begins c.in_err-lines-in-Ok-Items.ensures.reads c.from_residual-in_err-lines-in-Ok-Items.ensures.1 }
