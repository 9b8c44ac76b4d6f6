use Rattle.std.proofs.Common.{◌≡◌, ℕ, List, [], ◌∷◌, arith, length, refl, subst, sym}
use Rattle.std.specs.Prelude.{Vec}
use Rattle.std.specs.declared.alloc.Global.{Global}
use Rattle.session.specs.declared.steps.Step.TheVariants.{Append}
use Rattle.session.specs.Calls.{DidAppend, RunGoes, Steps, TakenBy}
use Rattle.session.specs.Run.{CacheFits}
use Rattle.session.proofs.PromiseLaws.{promises}
use Rattle.session.proofs.RunLaws.{goes_none, goes_more}
use Rattle.session.proofs.WholeLaws.{taken_call, writer_takes}
use Rattle.session.proofs.sessions.append.Goals as goal

pub returns-clause-ready : goal.returns-clause-ready
returns-clause-ready g c =
    let sum = g.H.Sum.sum_of in
    let old = g.B.Blob.life c.args.blob.now in
    let new = g.B.Blob.life c.append.new.blob in
    let bytes = c.args.bytes.now in
    let owned : Vec ℕ Global = record { ptr = c.new-owned.result.ptr; len = length bytes; cap = length bytes; alloc = c.new-owned.result.alloc; items = bytes; ok = (refl, omega arith); small = omega (arith, c.type_inv.bytes) } in
    let taken : TakenBy sum (Append owned) c.args.session.now.writer c.append.new.self.writer c.args.session.now.names c.append.new.self.names c.args.cache.now c.append.new.cache old new c.append.result = (c.append.ensures.goes, c.append.ensures.names) in
    let takes = writer_takes sum (Append owned) c.args.session.now c.append.new.self c.args.cache.now c.append.new.cache old new c.append.result c.requires.ready.steps c.requires.ready.cached taken c.append.ensures.rest c.append.ensures.cached c.append.ensures.tails in
    record { steps = takes.0.ready; cached = takes.1; fresh = c.append.ensures.fresh_ids c.requires.ready.fresh }

pub returns-clause-runs : goal.returns-clause-runs
returns-clause-runs g c owned same =
    let sum = g.H.Sum.sum_of in
    let old = g.B.Blob.life c.args.blob.now in
    let new = g.B.Blob.life c.append.new.blob in
    let was = c.args.session.now in
    let now = c.append.new.self in
    let did = subst (λ (xs : List ℕ). DidAppend sum was.writer now.writer xs c.args.cache.now c.append.new.cache old new c.append.result) (sym same) c.append.ensures.goes in
    let taken : TakenBy sum (Append owned) was.writer now.writer was.names now.names c.args.cache.now c.append.new.cache old new c.append.result = (did, c.append.ensures.names) in
    let takes = writer_takes sum (Append owned) was now c.args.cache.now c.append.new.cache old new c.append.result c.requires.ready.steps c.requires.ready.cached taken c.append.ensures.rest c.append.ensures.cached c.append.ensures.tails in
    goes_more sum [] (Append owned) c.append.result was was now c.args.cache.now c.args.cache.now c.append.new.cache old old new [] [] (c.append.result ∷ [])
    (goes_none sum was c.args.cache.now old []) c.requires.ready takes.0 (taken_call sum (Append owned) was now c.args.cache.now c.append.new.cache old new c.append.result taken c.append.ensures.rest) refl

pub returns-clause-promises : goal.returns-clause-promises
returns-clause-promises g c owned same =
    let runs : RunGoes g.H.Sum.sum_of (Append owned ∷ []) c.args.session.now c.append.new.self c.args.cache.now c.append.new.cache (g.B.Blob.life c.args.blob.now) (g.B.Blob.life c.append.new.blob) [] (c.append.result ∷ []) = returns-clause-runs g c owned same in
    promises g.H.Sum.sum_of (Append owned ∷ []) c.args.session.now c.append.new.self (g.B.Blob.life c.args.blob.now) (g.B.Blob.life c.append.new.blob) [] (c.append.result ∷ []) runs.always
