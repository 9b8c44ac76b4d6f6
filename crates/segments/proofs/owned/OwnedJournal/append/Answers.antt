use Rattle.std.proofs.Common.{sym, subst, ◌∙◌, arith}
use Rattle.std.specs.Int.NonZero.{non_zero_u16_get}
use Rattle.std.proofs.lemmas.Grind.{common_steps}
use Rattle.segments.specs.Owned.{IsOwned}
use Rattle.segments.proofs.Ahead.{ahead_grown, digests_taken}
use Rattle.segments.proofs.Counts.{one_more_fits}
use Rattle.segments.proofs.OwnedLaws.{owned_of}
use Rattle.segments.proofs.owned.OwnedJournal.append.Goals as goal

pub overflow_add-self : goal.overflow_add-self
overflow_add-self g c =
    let sum = g.H.Sum.sum_of in
    let own = g.R.Sum.sum_of in
    let opened = subst (λ s. IsOwned sum own s) (sym c.self.view_is) c.requires.owned in
    let held = owned_of sum own _ c.in-Some.journal opened (sym c.take.ensures.value ∙ c.in-Some.is) in
    one_more_fits sum own c.in-Some.journal c.in-Ok.journal c.args.bytes.now _ _ _ c.in-Ok.offset c.self.inside.records c.size-size.result held.counts (c.in-Ok.ensures).goes c.size-size.ensures c.size-size.type_inv

pub returns-in-Ok-clause-ready : goal.returns-in-Ok-clause-ready
returns-in-Ok-clause-ready g c = grind (arith, common_steps)

pub invariant_of-self-in-Ok : goal.invariant_of-self-in-Ok
invariant_of-self-in-Ok g c =
    let d = g.D.Digest.digest_of in
    let P = non_zero_u16_get c.self.inside.page_size in
    let was = digests_taken d P (g.B.Blob.life c.self.inside.blob) c.self.inside.digesting c.self.inside.journal c.in-Some.journal c.self.invariant (sym c.take.ensures.value ∙ c.in-Some.is) in
    ahead_grown d P _ _ _ c.self.inside.digesting was (c.in-Ok.ensures).goes.holds
