use Rattle.std.proofs.Common.{refl, arith}
use Rattle.std.specs.List.{concat}
use Rattle.std.specs.Prelude.{false}
use Rattle.disk.specs.declared.action.Action.TheVariants as actions
use Rattle.file.proofs.Telling.{told_other, told_sync}
use Rattle.file.proofs.mirror.ask.Goals as goal

pub returns-in_err-other_call-in-Write-clause-told : goal.returns-in_err-other_call-in-Write-clause-told
returns-in_err-other_call-in-Write-clause-told g c =
    told_other (actions.Write c.in-Write.offset (concat c.in-Write.bufs.now) false) (g.S.Host.asked c.args.host.now) (g.S.Host.asked c.put.new.self) c.put.result c.from_residual.result refl c.put.ensures.asked (grind (arith, c.from_residual.ensures, c.in_err-other_call-in-Write.ensures.told))

pub returns-then-sync-clause-told : goal.returns-then-sync-clause-told
returns-then-sync-clause-told g c = told_sync (g.S.Host.asked c.put.new.self) (g.S.Host.asked c.ask_sync.new.host) c.ask_sync.result c.ask_sync.ensures.asked c.ask_sync.ensures.told

pub returns-in-Resize-clause-told : goal.returns-in-Resize-clause-told
returns-in-Resize-clause-told g c =
    told_other (actions.Resize c.in-Resize.len) (g.S.Host.asked c.args.host.now) (g.S.Host.asked c.set_len.new.self) c.set_len.result c.other_call-in-Resize.result refl c.set_len.ensures.asked c.other_call-in-Resize.ensures.told

pub returns-in-Sync-clause-told : goal.returns-in-Sync-clause-told
returns-in-Sync-clause-told g c =
    told_sync (g.S.Host.asked c.args.host.now) (g.S.Host.asked c.ask_sync-in-Sync.new.host) c.ask_sync-in-Sync.result c.ask_sync-in-Sync.ensures.asked c.ask_sync-in-Sync.ensures.told
