use Rattle.std.proofs.Common.{◌≡◌, ◌∙◌, ℕ, Ok, Err, Some, None, Result, length, subst, sym}
use Rattle.std.specs.Prelude.{Option}
use Rattle.std.specs.Int.NonZero.{non_zero_usize_get}
use Rattle.disk.specs.declared.error.Error.{Error}
use Rattle.paged.specs.Calls.{BuffersOver, TryAppendGoes}
use Rattle.items.specs.State.{ItemsState}
use Rattle.disk.specs.Disk.{Life}
use Rattle.cache.specs.CacheState.{CacheState}
use Rattle.items.specs.Standing.{AreItems, count}
use Rattle.items.specs.Calls.{DurabilityLasts, GoReady, TryPushGoes}
use Rattle.items.proofs.Calls.{not_tried, tried_none, tried_some, tries_ready}
use Rattle.items.proofs.items.Items.try_push_value.Goals as goal
use Rattle.items.proofs.items.Items.try_push_value.Goals.{in-Ok-Some, in-Ok-None, in-Err}

pub returns-clause-goes : goal.returns-clause-goes
returns-clause-goes g c =
    let sum = g.H.Sum.sum_of in
    let s : ItemsState = record { writer = c.self.inside.writer; size = non_zero_usize_get c.self.inside.size } in
    let bytes = g.T.EncodeSize.encoded c.args.value.now in
    let v = c.try_append_value.new.self in
    let now : ItemsState = record { writer = v; size = s.size } in
    let i = c.len-at.result in
    let tries = c.try_append_value.ensures in
    let answers : (answer : Result (Option ℕ) Error) → c.match-try_append_value.result ≡ answer → TryPushGoes sum c.args.self.now bytes now answer → TryPushGoes sum c.args.self.now bytes now c.match-try_append_value.result =
    λ answer is goes. subst (λ (a : Result (Option ℕ) Error). TryPushGoes sum c.args.self.now bytes now a) (sym is) goes in
    elim c.match-try_append_value.branch [
      | in-Ok-Some w ↦
          let at = w.in-Ok-Some.field-0-0 in
          let tried : TryAppendGoes s.writer bytes v (Ok (Some at)) = subst (λ (o : Option ℕ). TryAppendGoes s.writer bytes v (Ok o)) w.in-Ok-Some.field-0-is w.in-Ok-Some.ensures.goes in
          let over : BuffersOver sum s.writer bytes v (Ok (Some at)) = subst (λ (o : Option ℕ). BuffersOver sum s.writer bytes v (Ok o)) w.in-Ok-Some.field-0-is w.in-Ok-Some.ensures.appends in
          answers (Ok (Some i)) w.result-is
          (subst (λ (t : ItemsState). length bytes ≡ t.size → i ≡ count t → TryPushGoes sum t bytes now (Ok (Some i))) c.self.view_is
          (λ long number. tried_some sum s bytes v at i tried over tries.keeps_reads long number) (g.met.T.FixedSize.sized c.args.value.now ∙ c.requires.size) c.len-at.ensures.count)
      | in-Ok-None w ↦
          let tried : TryAppendGoes s.writer bytes v (Ok None) = subst (λ (o : Option ℕ). TryAppendGoes s.writer bytes v (Ok o)) w.in-Ok-None.field-0-is w.in-Ok-None.ensures.goes in
          answers (Ok None) w.result-is (subst (λ (t : ItemsState). TryPushGoes sum t bytes now (Ok None)) c.self.view_is (tried_none sum s bytes v tried))
      | in-Err w ↦
          let e = w.in-Err.error in
          answers (Err e) w.result-is (subst (λ (t : ItemsState). TryPushGoes sum t bytes now (Err e)) c.self.view_is (not_tried sum s bytes v e w.in-Err.ensures.goes))
    ]

pub returns-clause-ready : goal.returns-clause-ready
returns-clause-ready g c =
    let sum = g.H.Sum.sum_of in
    let s : ItemsState = record { writer = c.self.inside.writer; size = non_zero_usize_get c.self.inside.size } in
    let bytes = g.T.EncodeSize.encoded c.args.value.now in
    let v = c.try_append_value.new.self in
    let now : ItemsState = record { writer = v; size = s.size } in
    let goes = c.try_append_value.ensures in
    subst (λ (t : ItemsState). length bytes ≡ t.size → c.len-at.result ≡ count t → (cache : CacheState) (life : Life) → AreItems sum t cache life → GoReady sum t now cache life × DurabilityLasts sum t now life life) c.self.view_is
    (tries_ready sum s bytes v c.len-at.result c.try_append_value.result goes.goes goes.appends goes.keeps_reads) (g.met.T.FixedSize.sized c.args.value.now ∙ c.requires.size) c.len-at.ensures.count
