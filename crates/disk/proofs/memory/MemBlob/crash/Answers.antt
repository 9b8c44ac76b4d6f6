use Rattle.std.proofs.Common.{ℕ, replicate, ap, sym, ◌∙◌, true, arith}
use Rattle.std.proofs.lemmas.Grind.{common_steps}
use Rattle.disk.specs.Disk.{failures}
use Rattle.disk.specs.History.{names_in, life_of}
use Rattle.disk.proofs.Starts.{begun_kept}
use Rattle.disk.proofs.Torn.{torn_is_image, begun_leaves}
use Rattle.disk.specs.Memory.{history_of}
use Rattle.disk.proofs.memory.MemBlob.crash.Goals as goal

pub returns-in_err-image-clause-image : goal.returns-in_err-image-clause-image
returns-in_err-image-clause-image c = torn_is_image c.args.keep.now (life_of c.args.self.now).present

pub returns-in_err-readable-clause-image : goal.returns-in_err-readable-clause-image
returns-in_err-readable-clause-image c = torn_is_image c.args.keep.now (life_of c.args.self.now).present

pub returns-in_err-starts-clause-image : goal.returns-in_err-starts-clause-image
returns-in_err-starts-clause-image c = torn_is_image c.args.keep.now (life_of c.args.self.now).present

pub invariant_of-self : goal.invariant_of-self
invariant_of-self c =
    let old = c.self.inside in
    let is = c.self.invariant in
    begun_kept c.in_ok-image.image.items c.in_ok-readable.readable.items old.calls.items old.failed.items old.failing old.failures c.len-self-inside.result old.backwards old.starts.items c.in_ok-starts.starts.items c.clear.new.self.items
    c.clear.ensures.items (c.in_ok-readable.ensures.items ∙ c.deref.ensures.value) (omega (arith, c.len-self-inside.ensures, old.calls.ok.0)) is.outcomes
    (is.failures ∙ ap failures (sym is.log)) (is.names ∙ ap names_in (sym is.log))
    (c.in_ok-starts.ensures ∙ ap (λ (n : ℕ). replicate n (record { events = 0; failed = true })) (omega (arith, c.len.ensures, old.starts.ok.0)))

pub returns-clause-image : goal.returns-clause-image
returns-clause-image c = torn_is_image c.args.keep.now (life_of c.args.self.now).present

pub returns-clause-leaves : goal.returns-clause-leaves
returns-clause-leaves c =
    let old = c.self.inside in
    begun_leaves c.args.keep.now (life_of c.args.self.now).present
    (history_of c.in_ok-image.image.items c.len-self-inside.result old.calls.items old.failed.items c.clear.new.self.items old.failing old.backwards)
    c.clear.ensures.items c.in_ok-image.ensures

pub returns-clause-life : goal.returns-clause-life
returns-clause-life c = grind (arith, common_steps)
