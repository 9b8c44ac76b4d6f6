use Rattle.std.proofs.Common.{sym, ◌∙◌}
use Rattle.file.specs.Mirror.{requested}
use Rattle.file.proofs.Telling.{told_done}
use Rattle.file.proofs.mirror.pass_on.Goals as goal

pub returns-in_default-clause-told : goal.returns-in_default-clause-told
returns-in_default-clause-told g c =
    told_done (requested c.args.request) c.args.failure.now (g.S.Host.asked c.args.host.now) (g.S.Host.asked c.ask.new.host)
    (c.requires.failure ∙ sym c.is_stopped.ensures ∙ c.if-is_stopped.false) c.requires.told c.in_default.ensures.answers
