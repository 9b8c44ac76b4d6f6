use Rattle.std.proofs.Common.{◌≡◌, ◌+◌, ◌*◌, ◌<◌, ◌≤◌, ◌^◌, ℕ, List, take, sym, ◌∙◌, ap, subst, arith, Ok, Err, false}
use Rattle.std.specs.Prelude.{Some, None}
use Rattle.std.proofs.lemmas.Result.{err_from_is_err_and}
use Rattle.std.specs.Int.NonZero.{non_zero_u16_get}
use Rattle.disk.specs.declared.error.Error.{Error}
use Rattle.page.specs.Page.{active, value_len}
use Rattle.crash.specs.Looks.{looked_start}
use Rattle.crash.proofs.LookLaws.{looked_read}
use Rattle.crash.proofs.Texts.{active_is}
use Rattle.paged_read.specs.Failures.{none_failed_start}
use Rattle.paged_read.specs.RawReads.{ReadsTold, value_told}
use Rattle.paged_read.proofs.Failing.{none_failed_read}
use Rattle.paged_read.proofs.RawCosts.{page_asked, page_refused, rising_none}
use Rattle.paged_read.proofs.RawReading.{page_read, read_len, read_missing_value, read_value_is, seen_active, value_fault, value_passes}
use Rattle.paged_read.proofs.raw.read_value.Given.{Over}
use Rattle.paged_read.proofs.raw.read_value.Goals as goal
use Rattle.paged_read.proofs.raw.read_value.Goals.{After-read_at, After-physical_page, In-Some}

-- the page size as a number
same : (g : Over) (c : After-physical_page g) → c.from.result ≡ non_zero_u16_get c.args.page_size
same g c = c.from.ensures ∙ c.get.ensures.value

pub returns-in_err-page_start-clause-told : goal.returns-in_err-page_start-clause-told
returns-in_err-page_start-clause-told g c =
    let P = non_zero_u16_get c.args.page_size in
    let old = g.B.Blob.life c.args.blob.now in
    let is = same g (goal.at.returns-in_err-page_start-clause-told g c).After-physical_page in
    let told = value_told g.H.Sum.sum_of P c.args.page old.present.readable in
    let p = err_from_is_err_and c.from_residual.result c.from_residual.ensures.1 in
    let over : 2 ^ 64 ≤ (c.args.page + 1) * (P + 12) = omega (arith, subst (λ (n : ℕ). (c.args.page + 1) * (n + 12) < 2 ^ 64 → ⊥) is c.in_err-page_start.ensures.offset) in
    rw (p.1, p.2) (subst (λ (x : Error). ReadsTold {A = List ℕ × ℕ} (λ r. take r.1 r.0) told old old (Err x)) (sym c.in_err-page_start.ensures.err)
    (value_passes g.H.Sum.sum_of P c.args.page old.present.readable over, looked_start old, none_failed_start old.present))

-- what was read, and where
size_is : (g : Over) (c : After-read_at g) → c.in_ok-page_start.size ≡ non_zero_u16_get c.args.page_size + 12
size_is g c = ap (λ (p : ℕ × ℕ). p.1) c.in_ok-page_start.ensures.offset.1 ∙ ap (λ (n : ℕ). n + 12) (c.from.ensures ∙ c.get.ensures.value)

page_start_is : (g : Over) (c : After-read_at g) → c.in_ok-page_start.page_start ≡ c.args.page * (non_zero_u16_get c.args.page_size + 12)
page_start_is g c = ap (λ (p : ℕ × ℕ). p.0) c.in_ok-page_start.ensures.offset.1 ∙ ap (λ (n : ℕ). c.args.page * (n + 12)) (c.from.ensures ∙ c.get.ensures.value)

fits : (g : Over) (c : After-read_at g) → (c.args.page + 1) * (non_zero_u16_get c.args.page_size + 12) < 2 ^ 64
fits g c = subst (λ (n : ℕ). (c.args.page + 1) * (n + 12) < 2 ^ 64) (c.from.ensures ∙ c.get.ensures.value) c.in_ok-page_start.ensures.offset.0

pub returns-in_err-bytes-clause-told : goal.returns-in_err-bytes-clause-told
returns-in_err-bytes-clause-told g c =
    let k = (goal.at.returns-in_err-bytes-clause-told g c).After-read_at in
    let p = err_from_is_err_and c.from_residual-in_err-bytes.result c.from_residual-in_err-bytes.ensures.1 in
    rw (p.1, p.2) (value_fault {A = List ℕ × ℕ} g.H.Sum.sum_of (λ r. take r.1 r.0) (non_zero_u16_get c.args.page_size) c.args.page c.in_ok-page_start.size c.in_ok-page_start.page_start (g.B.Blob.life c.args.blob.now) (g.B.Blob.life c.read_at.new.self)
    c.in_err-bytes.field-0.0 (size_is g k) (page_start_is g k) (fits g k) c.in_err-bytes.ensures.goes)

pub returns-in-None-clause-told : goal.returns-in-None-clause-told
returns-in-None-clause-told g c =
    let k = (goal.at.returns-in-None-clause-told g c).After-read_at in
    let old = g.B.Blob.life c.args.blob.now in
    let new = g.B.Blob.life c.read_at.new.self in
    let goes = c.in_ok-bytes.ensures.goes in
    let bytes = c.in_ok-bytes.bytes in
    let many = read_len c.in_ok-page_start.page_start c.in_ok-page_start.size old new bytes goes in
    read_missing_value {A = List ℕ × ℕ} g.H.Sum.sum_of (λ r. take r.1 r.0) (non_zero_u16_get c.args.page_size) c.args.page c.in_ok-page_start.size c.in_ok-page_start.page_start old new bytes (size_is g k) (page_start_is g k) (fits g k) goes
    (seen_active g.H.Sum.sum_of (non_zero_u16_get c.args.page_size) c.in_ok-page_start.size bytes c.as_ref.result.now None (size_is g k) many c.as_ref.ensures (sym c.in-None.is ∙ c.validate_page.ensures))

-- the slot of the value
told_by : (g : Over) (c : In-Some g) → active g.H.Sum.sum_of (non_zero_u16_get c.args.page_size) c.in_ok-bytes.bytes ≡ Some c.in-Some.slot
told_by g c =
    let old = g.B.Blob.life c.args.blob.now in
    let new = g.B.Blob.life c.read_at.new.self in
    let bytes = c.in_ok-bytes.bytes in
    let size = ap (λ (p : ℕ × ℕ). p.1) c.in_ok-page_start.ensures.offset.1 ∙ ap (λ (n : ℕ). n + 12) (c.from.ensures ∙ c.get.ensures.value) in
    let many = read_len c.in_ok-page_start.page_start c.in_ok-page_start.size old new bytes c.in_ok-bytes.ensures.goes in
    seen_active g.H.Sum.sum_of (non_zero_u16_get c.args.page_size) c.in_ok-page_start.size bytes c.as_ref.result.now (Some c.in-Some.slot) size many c.as_ref.ensures (sym c.in-Some.is ∙ c.validate_page.ensures)

pub returns-in-Some-clause-told : goal.returns-in-Some-clause-told
returns-in-Some-clause-told g c =
    let at = goal.at.returns-in-Some-clause-told g c in
    let k = at.After-read_at in
    let old = g.B.Blob.life c.args.blob.now in
    let new = g.B.Blob.life c.read_at.new.self in
    let goes = c.in_ok-bytes.ensures.goes in (
      read_value_is g.H.Sum.sum_of (non_zero_u16_get c.args.page_size) c.args.page c.in_ok-page_start.size c.in_ok-page_start.page_start old new c.in_ok-bytes.bytes c.in-Some.slot (size_is g k) (page_start_is g k) (fits g k) goes (told_by g at.In-Some),
      looked_read c.in_ok-page_start.page_start c.in_ok-page_start.size old new c.read_at.result c.read_at.ensures.goes,
      none_failed_read c.in_ok-page_start.page_start c.in_ok-page_start.size old new c.in_ok-bytes.bytes goes,
    )

pub returns-in-Some-clause-part : goal.returns-in-Some-clause-part
returns-in-Some-clause-part g c =
    (active_is g.H.Sum.sum_of (non_zero_u16_get c.args.page_size) c.in_ok-bytes.bytes c.in-Some.slot (told_by g (goal.at.returns-in-Some-clause-part g c).In-Some)).fits

pub returns-in-Some-clause-within : goal.returns-in-Some-clause-within
returns-in-Some-clause-within g c =
    let at = goal.at.returns-in-Some-clause-within g c in
    let told = active_is g.H.Sum.sum_of (non_zero_u16_get c.args.page_size) c.in_ok-bytes.bytes c.in-Some.slot (told_by g at.In-Some) in
    let many = read_len c.in_ok-page_start.page_start c.in_ok-page_start.size (g.B.Blob.life c.args.blob.now) (g.B.Blob.life c.read_at.new.self) c.in_ok-bytes.bytes c.in_ok-bytes.ensures.goes in
    omega (arith, told.fits, many, size_is g at.After-read_at)

pub returns-in_err-page_start-clause-reads : goal.returns-in_err-page_start-clause-reads
returns-in_err-page_start-clause-reads g c =
    let p = err_from_is_err_and c.from_residual.result c.from_residual.ensures.1 in
    rw p.1 (rising_none (non_zero_u16_get c.args.page_size) c.args.page 1 (g.B.Blob.life c.args.blob.now))

pub returns-in_err-bytes-clause-reads : goal.returns-in_err-bytes-clause-reads
returns-in_err-bytes-clause-reads g c =
    let k = (goal.at.returns-in_err-bytes-clause-reads g c).After-read_at in
    let p = err_from_is_err_and c.from_residual-in_err-bytes.result c.from_residual-in_err-bytes.ensures.1 in
    rw p.1 (page_refused (non_zero_u16_get c.args.page_size) c.args.page c.in_ok-page_start.size c.in_ok-page_start.page_start (g.B.Blob.life c.args.blob.now) (g.B.Blob.life c.read_at.new.self) (Err c.in_err-bytes.field-0.0)
    (size_is g k) (page_start_is g k) c.in_err-bytes.ensures.goes)

pub returns-in-None-clause-reads : goal.returns-in-None-clause-reads
returns-in-None-clause-reads g c =
    let k = (goal.at.returns-in-None-clause-reads g c).After-read_at in
    page_refused (non_zero_u16_get c.args.page_size) c.args.page c.in_ok-page_start.size c.in_ok-page_start.page_start (g.B.Blob.life c.args.blob.now) (g.B.Blob.life c.read_at.new.self) (Ok c.in_ok-bytes.bytes)
    (size_is g k) (page_start_is g k) c.in_ok-bytes.ensures.goes

pub returns-in-Some-clause-reads : goal.returns-in-Some-clause-reads
returns-in-Some-clause-reads g c =
    let k = (goal.at.returns-in-Some-clause-reads g c).After-read_at in
    page_asked (non_zero_u16_get c.args.page_size) c.args.page c.in_ok-page_start.size c.in_ok-page_start.page_start false (g.B.Blob.life c.args.blob.now) (g.B.Blob.life c.read_at.new.self)
    (size_is g k) (page_start_is g k) c.in_ok-bytes.ensures.goes.2

pub returns-in-Some-clause-len : goal.returns-in-Some-clause-len
returns-in-Some-clause-len g c =
    let at = goal.at.returns-in-Some-clause-len g c in
    let k = at.After-read_at in
    let P = non_zero_u16_get c.args.page_size in
    let told = active_is g.H.Sum.sum_of P c.in_ok-bytes.bytes c.in-Some.slot (told_by g at.In-Some) in
    told.len ∙ ap (λ (l : List ℕ). value_len g.H.Sum.sum_of P l) (page_read P c.args.page c.in_ok-page_start.size c.in_ok-page_start.page_start (g.B.Blob.life c.args.blob.now) (g.B.Blob.life c.read_at.new.self) c.in_ok-bytes.bytes (size_is g k) (page_start_is g k) c.in_ok-bytes.ensures.goes)
