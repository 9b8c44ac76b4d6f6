use Rattle.std.proofs.Common.{◌≡◌, List, ℕ, refl, subst, sym}
use Rattle.protocol.specs.Answer.{PutsAnswer, refusal_bytes}
use Rattle.protocol.specs.Serve.{IsChangeRefused}
use Rattle.protocol.specs.declared.version.Version.{Version}
use Rattle.protocol.proofs.taking.refuse_change.Goals as goal

pub returns-in-One : goal.returns-in-One
returns-in-One g c = (refusal_bytes, subst (λ (v : Version). IsChangeRefused v refusal_bytes) (sym c.in-One.is) refl, c.write_refusal.ensures)
