use Rattle.std.proofs.Common.{rules, ◌≡◌, ◌∙◌, sym, ap, subst, ℕ, ◌+◌, ◌<◌, List, length, arith, eqb-true, Ok, Err}
use Rattle.std.proofs.lemmas.Grind.{common_steps}
use Rattle.std.specs.Prelude.{Result, Vec}
use Rattle.std.specs.declared.alloc.Global.{Global}
use Rattle.disk.specs.Disk.{DeviceReadManyGoes, ReadMany}
use Rattle.disk.specs.declared.error.Error.{Error}
use Rattle.disk.specs.declared.error.Error.TheVariants.{OutOfMemory}
use Rattle.paged_read.specs.Batch.{DeliversPages}
use Rattle.paged_read.specs.Failures.{none_failed_start}
use Rattle.paged_read.proofs.Failing.{none_failed_asked}
use Rattle.paged_read.specs.Ranges.{page_ranges}
use Rattle.std.specs.Int.NonZero.{non_zero_u16_get}
use Rattle.std.proofs.lemmas.Result.{err_from_is_err_and}
use Rattle.crash.specs.Looks.{looked_start}
use Rattle.paged_read.proofs.BatchReads.{delivers_none, looked_many, asks_many, many_fault, page_ranges_all, some_from_test, length-page_ranges}
use Rattle.paged_read.proofs.fetch.fetch.Goals as goal

pub returns-then-is_empty-clause-reads : goal.returns-then-is_empty-clause-reads
returns-then-is_empty-clause-reads g c = (
  delivers_none (non_zero_u16_get c.args.page_size) c.args.pages.now (g.B.Blob.life c.args.blob.now).present.readable c.new-out.result.items (eqb-true _ _ (sym c.is_empty.ensures ∙ c.if-is_empty.true)) c.new-out.ensures.items,
  none_failed_start (g.B.Blob.life c.args.blob.now).present,
)

pub returns-in_err-ranges-clause-reads : goal.returns-in_err-ranges-clause-reads
returns-in_err-ranges-clause-reads g c =
    let old = g.B.Blob.life c.args.blob.now in
    let is : c.from_residual.result ≡ Err OutOfMemory = search rules in
    subst (λ (r : Result (Vec (ℕ × List ℕ) Global) Error). DeliversPages (non_zero_u16_get c.args.page_size) c.args.pages.now old old r) (sym is) (none_failed_start old.present)

pub returns-in_err-push-clause-reads : goal.returns-in_err-push-clause-reads
returns-in_err-push-clause-reads g c =
    let old = g.B.Blob.life c.args.blob.now in
    let is : c.from_residual-in_err-push.result ≡ Err OutOfMemory = search rules in
    subst (λ (r : Result (Vec (ℕ × List ℕ) Global) Error). DeliversPages (non_zero_u16_get c.args.page_size) c.args.pages.now old old r) (sym is) (none_failed_start old.present)

pub returns-clause-reads : goal.returns-clause-reads
returns-clause-reads g c =
    let P = non_zero_u16_get c.args.page_size in
    let old = g.B.Blob.life c.args.blob.now in
    let new = g.B.Blob.life c.read_many.new.self in
    let size : c.from-size.result + 12 ≡ P + 12 = ap (λ (n : ℕ). n + 12) (c.from-size.ensures ∙ c.get.ensures.value) in
    let asked : c.deref.result.now ≡ page_ranges P c.args.pages.now = c.deref.ensures.value ∙ page_ranges_all P (c.from-size.result + 12) c.args.pages.now c.loop-page.page-index c.loop-page.ranges.items size c.loop-page-test.false c.loop-page.invariant in
    let goes = subst (λ (rs : List (ℕ × ℕ)). DeviceReadManyGoes rs old new c.read_many.new.out.items (Ok tt)) asked c.in_ok-read_many.ensures.goes in
    (goes.1, none_failed_asked (ReadMany (page_ranges P c.args.pages.now)) old new goes.2)

pub returns-then-is_empty-clause-looked : goal.returns-then-is_empty-clause-looked
returns-then-is_empty-clause-looked g c = looked_start (g.B.Blob.life c.args.blob.now)

pub returns-in_err-ranges-clause-looked : goal.returns-in_err-ranges-clause-looked
returns-in_err-ranges-clause-looked g c = looked_start (g.B.Blob.life c.args.blob.now)

pub returns-in_err-push-clause-looked : goal.returns-in_err-push-clause-looked
returns-in_err-push-clause-looked g c = looked_start (g.B.Blob.life c.args.blob.now)

pub returns-in_err-read_many-clause-reads : goal.returns-in_err-read_many-clause-reads
returns-in_err-read_many-clause-reads g c =
    let P = non_zero_u16_get c.args.page_size in
    let old = g.B.Blob.life c.args.blob.now in
    let new = g.B.Blob.life c.read_many.new.self in
    let size : c.from-size.result + 12 ≡ P + 12 = ap (λ (n : ℕ). n + 12) (c.from-size.ensures ∙ c.get.ensures.value) in
    let asked : c.deref.result.now ≡ page_ranges P c.args.pages.now = c.deref.ensures.value ∙ page_ranges_all P (c.from-size.result + 12) c.args.pages.now c.loop-page.page-index c.loop-page.ranges.items size c.loop-page-test.false c.loop-page.invariant in
    let goes = subst (λ (rs : List (ℕ × ℕ)). DeviceReadManyGoes rs old new c.read_many.new.out.items (Err c.in_err-read_many.field-0.0)) asked c.in_err-read_many.ensures.goes in
    let error = err_from_is_err_and c.from_residual-in_err-read_many.result c.from_residual-in_err-read_many.ensures.1 in
    rw (error.1, error.2) (many_fault P c.args.pages.now old new c.read_many.new.out.items c.in_err-read_many.field-0.0 c.requires.there goes)

pub returns-in_err-read_many-clause-asks : goal.returns-in_err-read_many-clause-asks
returns-in_err-read_many-clause-asks g c =
    let P = non_zero_u16_get c.args.page_size in
    let old = g.B.Blob.life c.args.blob.now in
    let new = g.B.Blob.life c.read_many.new.self in
    let size : c.from-size.result + 12 ≡ P + 12 = ap (λ (n : ℕ). n + 12) (c.from-size.ensures ∙ c.get.ensures.value) in
    let asked : c.deref.result.now ≡ page_ranges P c.args.pages.now = c.deref.ensures.value ∙ page_ranges_all P (c.from-size.result + 12) c.args.pages.now c.loop-page.page-index c.loop-page.ranges.items size c.loop-page-test.false c.loop-page.invariant in
    let goes = subst (λ (rs : List (ℕ × ℕ)). DeviceReadManyGoes rs old new c.read_many.new.out.items (Err c.in_err-read_many.field-0.0)) asked c.in_err-read_many.ensures.goes in
    let some : 0 < length c.args.pages.now = some_from_test c.args.pages.now (sym c.is_empty.ensures ∙ c.if-is_empty.false) in
    asks_many (page_ranges P c.args.pages.now) old new c.read_many.new.out.items (Err c.in_err-read_many.field-0.0) (omega (arith, some, length-page_ranges P c.args.pages.now)) goes

pub returns-in_err-read_many-clause-looked : goal.returns-in_err-read_many-clause-looked
returns-in_err-read_many-clause-looked g c = looked_many c.deref.result.now (g.B.Blob.life c.args.blob.now) (g.B.Blob.life c.read_many.new.self) c.read_many.new.out.items (Err c.in_err-read_many.field-0.0) c.in_err-read_many.ensures.goes

pub returns-clause-looked : goal.returns-clause-looked
returns-clause-looked g c = looked_many c.deref.result.now (g.B.Blob.life c.args.blob.now) (g.B.Blob.life c.read_many.new.self) c.read_many.new.out.items (Ok tt) c.in_ok-read_many.ensures.goes

pub loop-page-preserved : goal.loop-page-preserved
loop-page-preserved g c = grind (arith, common_steps)

pub returns-clause-asks : goal.returns-clause-asks
returns-clause-asks g c = grind (arith, common_steps)
