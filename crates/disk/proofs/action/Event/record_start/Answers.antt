use Rattle.disk.proofs.action.Event.record_start.Goals as goal

pub returns-in-StartSync : goal.returns-in-StartSync
returns-in-StartSync c = rw c.in-StartSync.is c.push_reserved.ensures.items
