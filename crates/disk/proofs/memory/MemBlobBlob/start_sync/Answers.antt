use Rattle.std.proofs.Common.{length, ap, arith}
use Rattle.disk.specs.declared.action.Action.TheVariants as actions
use Rattle.disk.specs.History.{History, life_of}
use Rattle.disk.specs.Memory.{history_of}
use Rattle.disk.proofs.Device.{life_after}
use Rattle.disk.proofs.Starts.{length-started}
use Rattle.disk.proofs.memory.MemBlobBlob.start_sync.Goals as goal

pub returns-clause-goes : goal.returns-clause-goes
returns-clause-goes c =
    let inside = c.self.inside in
    let starts = inside.starts in (
      omega (arith, c.len-name.ensures, starts.ok.0, length-started (history_of inside.first.items inside.earlier inside.calls.items inside.failed.items inside.events.items inside.failing inside.backwards) starts.items c.self.invariant.started, ap (λ (h : History). length (life_of h).present.started) c.self.view_is),
      c.in_ok-ask.field-0,
      life_after actions.StartSync c.in_ok-ask.field-0 c.args.self.now c.ask.new.self c.in_ok-ask.ensures.failed c.in_ok-ask.ensures.told,
    )
