use Rattle.std.proofs.Math.Nat.{zero-mod}
use Rattle.std.proofs.Common.{◌≡◌, ◌≢◌, inl, inr, ◌+◌, ◌-◌, ◌*◌, ◌/◌, ◌%◌, ℕ, List, refl, sym, ◌∙◌, ap, subst, arith, Result, Ok}
use Rattle.std.specs.Int.NonZero.{non_zero_u16_get}
use Rattle.std.specs.List.{concat}
use Rattle.disk.specs.declared.error.Error.{Error}
use Rattle.crash.specs.Looks.{Looked, looked_start}
use Rattle.paged_read.specs.Failures.{none_failed_start}
use Rattle.paged_read.specs.RawReads.{after_told, ReadsBefore, ReadsTail, ReadsTold, tail_told, value_told}
use Rattle.disk.specs.Disk.{Life}
use Rattle.page.specs.Page.{value_len}
use Rattle.paged_read.specs.Ranges.{page_at}
use Rattle.paged_read.proofs.RawCosts.{rising_none}
use Rattle.paged_read.proofs.Outliving.{look_leaves_writers}
use Rattle.paged_read.proofs.RawReading.{tail_after, tail_empty, tail_lacks, tail_torn, told_looks}
use Rattle.paged_read.proofs.raw.read_tail.Given.{Over}
use Rattle.paged_read.proofs.raw.read_tail.Goals as goal
use Rattle.paged_read.proofs.raw.read_tail.Goals.{After-read_after, After-physical_page_size-size}

pub returns-then-physical_size-size-ne0-clause-told : goal.returns-then-physical_size-size-ne0-clause-told
returns-then-physical_size-size-ne0-clause-told g c =
    let P = non_zero_u16_get c.args.page_size in
    let old = g.B.Blob.life c.args.blob.now in
    let torn : c.args.physical_size % (P + 12) ≢ 0 = subst (λ (n : ℕ). c.args.physical_size % n ≢ 0) c.physical_page_size-size.ensures c.if-physical_size-size-ne0.true in
    (tail_torn g.H.Sum.sum_of P c.args.physical_size c.args.len old.present.readable torn, looked_start old, none_failed_start old.present)

pub returns-then-len-gt0-clause-told : goal.returns-then-len-gt0-clause-told
returns-then-len-gt0-clause-told g c =
    let P = non_zero_u16_get c.args.page_size in
    let old = g.B.Blob.life c.args.blob.now in
    let whole : c.args.physical_size % (P + 12) ≡ 0 = subst (λ (n : ℕ). c.args.physical_size % n ≡ 0) c.physical_page_size-size.ensures (omega (arith, c.if-physical_size-size-ne0.false)) in
    (tail_lacks g.H.Sum.sum_of P c.args.physical_size c.args.len old.present.readable whole (omega (arith, c.if-physical_size-gt0.false)) (λ none. omega (arith, none, c.if-len-gt0.true)), looked_start old, none_failed_start old.present)

pub returns-clause-told : goal.returns-clause-told
returns-clause-told g c =
    let P = non_zero_u16_get c.args.page_size in
    let old = g.B.Blob.life c.args.blob.now in
    let whole : c.args.physical_size % (P + 12) ≡ 0 = subst (λ (n : ℕ). c.args.physical_size % n ≡ 0) c.physical_page_size-size.ensures (omega (arith, c.if-physical_size-size-ne0.false)) in (
      tail_empty g.H.Sum.sum_of P c.args.physical_size c.args.len old.present.readable whole (omega (arith, c.if-physical_size-gt0.false)) (omega (arith, c.if-len-gt0.false))
          ∙ ap (λ (bufs : List (List ℕ)). Ok (0, concat bufs)) (sym c.new.ensures),
      looked_start old,
      none_failed_start old.present,
    )

-- what the last page decides
told : (g : Over) (c : After-read_after g) → c.args.physical_size % c.physical_page_size-size.result ≡ 0 → c.args.physical_size ≢ 0 → let old = g.B.Blob.life c.args.blob.now in
    ReadsTold {A = ℕ × List (List ℕ)} (λ r. (r.0, concat r.1)) (tail_told g.H.Sum.sum_of (non_zero_u16_get c.args.page_size) c.args.physical_size c.args.len old.present.readable) old (g.B.Blob.life c.read_after.new.blob) c.read_after.result
told g c whole some =
    let sum = g.H.Sum.sum_of in
    let P = non_zero_u16_get c.args.page_size in
    let old = g.B.Blob.life c.args.blob.now in
    let readable = old.present.readable in
    let last = c.args.physical_size / c.physical_page_size-size.result - 1 in
    let is : after_told sum P last c.args.len readable (value_told sum P last readable) ≡ tail_told sum P c.args.physical_size c.args.len readable =
    ap (λ (n : ℕ). after_told sum P (c.args.physical_size / n - 1) c.args.len readable (value_told sum P (c.args.physical_size / n - 1) readable)) c.physical_page_size-size.ensures
    ∙ sym (tail_after sum P c.args.physical_size c.args.len readable (subst (λ (n : ℕ). c.args.physical_size % n ≡ 0) c.physical_page_size-size.ensures whole) some) in
    subst (λ (r : Result (ℕ × List ℕ) Error). ReadsTold {A = ℕ × List (List ℕ)} (λ q. (q.0, concat q.1)) r old (g.B.Blob.life c.read_after.new.blob) c.read_after.result) is c.read_after.ensures.told

-- and the read only looks
looks : (g : Over) (c : After-read_after g) → Looked (g.B.Blob.life c.args.blob.now) (g.B.Blob.life c.read_after.new.blob)
looks g c =
    let sum = g.H.Sum.sum_of in
    let P = non_zero_u16_get c.args.page_size in
    let old = g.B.Blob.life c.args.blob.now in
    let last = c.args.physical_size / c.physical_page_size-size.result - 1 in
    told_looks {A = ℕ × List (List ℕ)} (λ r. (r.0, concat r.1)) (after_told sum P last c.args.len old.present.readable (value_told sum P last old.present.readable)) old (g.B.Blob.life c.read_after.new.blob) c.read_after.result c.read_after.ensures.told

pub returns-then-physical_size-gt0-clause-told : goal.returns-then-physical_size-gt0-clause-told
returns-then-physical_size-gt0-clause-told g c =
    told g (goal.at.returns-then-physical_size-gt0-clause-told g c).After-read_after (omega (arith, c.if-physical_size-size-ne0.false)) (λ none. omega (arith, none, c.if-physical_size-gt0.true))

pub returns-then-physical_size-gt0-clause-looked : goal.returns-then-physical_size-gt0-clause-looked
returns-then-physical_size-gt0-clause-looked g c = looks g (goal.at.returns-then-physical_size-gt0-clause-looked g c).After-read_after

pub returns-then-physical_size-gt0-clause-writers : goal.returns-then-physical_size-gt0-clause-writers
returns-then-physical_size-gt0-clause-writers g c =
    look_leaves_writers g.H.Sum.sum_of (g.B.Blob.life c.args.blob.now) (g.B.Blob.life c.read_after.new.blob) (looks g (goal.at.returns-then-physical_size-gt0-clause-writers g c).After-read_after)

pub returns-then-physical_size-size-ne0-clause-looked : goal.returns-then-physical_size-size-ne0-clause-looked
returns-then-physical_size-size-ne0-clause-looked g c = looked_start (g.B.Blob.life c.args.blob.now)

pub returns-then-physical_size-size-ne0-clause-writers : goal.returns-then-physical_size-size-ne0-clause-writers
returns-then-physical_size-size-ne0-clause-writers g c = look_leaves_writers g.H.Sum.sum_of (g.B.Blob.life c.args.blob.now) (g.B.Blob.life c.args.blob.now) (looked_start (g.B.Blob.life c.args.blob.now))

pub returns-then-len-gt0-clause-looked : goal.returns-then-len-gt0-clause-looked
returns-then-len-gt0-clause-looked g c = looked_start (g.B.Blob.life c.args.blob.now)

pub returns-then-len-gt0-clause-writers : goal.returns-then-len-gt0-clause-writers
returns-then-len-gt0-clause-writers g c = look_leaves_writers g.H.Sum.sum_of (g.B.Blob.life c.args.blob.now) (g.B.Blob.life c.args.blob.now) (looked_start (g.B.Blob.life c.args.blob.now))

pub returns-clause-looked : goal.returns-clause-looked
returns-clause-looked g c = looked_start (g.B.Blob.life c.args.blob.now)

pub returns-clause-writers : goal.returns-clause-writers
returns-clause-writers g c = look_leaves_writers g.H.Sum.sum_of (g.B.Blob.life c.args.blob.now) (g.B.Blob.life c.args.blob.now) (looked_start (g.B.Blob.life c.args.blob.now))

-- with the numbers of the program
costs : (g : Over) (c : After-read_after g) → ReadsTail g.H.Sum.sum_of (non_zero_u16_get c.args.page_size) c.args.physical_size c.args.len (g.B.Blob.life c.args.blob.now) (g.B.Blob.life c.read_after.new.blob)
costs g c =
    let P = non_zero_u16_get c.args.page_size in
    let old = g.B.Blob.life c.args.blob.now in
    let new = g.B.Blob.life c.read_after.new.blob in
    subst (λ (n : ℕ). let last = c.args.physical_size / n - 1 in ReadsBefore P last (last * P + value_len g.H.Sum.sum_of P (page_at P last old.present.readable) - c.args.len) old new) c.physical_page_size-size.ensures c.read_after.ensures.reads

pub returns-then-physical_size-gt0-clause-costs : goal.returns-then-physical_size-gt0-clause-costs
returns-then-physical_size-gt0-clause-costs g c = costs g (goal.at.returns-then-physical_size-gt0-clause-costs g c).After-read_after

-- nothing is read
unread : (sum : List ℕ → ℕ) (P size len : ℕ) (life : Life) → ReadsTail sum P size len life life
unread sum P size len life =
    let last = size / (P + 12) - 1 in
    let from = last * P + value_len sum P (page_at P last life.present.readable) - len in
    (life, rising_none P last 1 life, rising_none P (from / P) (last - from / P) life)

pub returns-then-physical_size-size-ne0-clause-costs : goal.returns-then-physical_size-size-ne0-clause-costs
returns-then-physical_size-size-ne0-clause-costs g c = unread g.H.Sum.sum_of (non_zero_u16_get c.args.page_size) c.args.physical_size c.args.len (g.B.Blob.life c.args.blob.now)

pub returns-then-len-gt0-clause-costs : goal.returns-then-len-gt0-clause-costs
returns-then-len-gt0-clause-costs g c = unread g.H.Sum.sum_of (non_zero_u16_get c.args.page_size) c.args.physical_size c.args.len (g.B.Blob.life c.args.blob.now)

pub returns-clause-costs : goal.returns-clause-costs
returns-clause-costs g c = unread g.H.Sum.sum_of (non_zero_u16_get c.args.page_size) c.args.physical_size c.args.len (g.B.Blob.life c.args.blob.now)

-- whole pages, with the numbers of the program
whole : (g : Over) (c : After-physical_page_size-size g) → c.args.physical_size % c.physical_page_size-size.result ≡ c.args.physical_size % (non_zero_u16_get c.args.page_size + 12)
whole g c = ap (λ (n : ℕ). c.args.physical_size % n) c.physical_page_size-size.ensures

pub returns-then-physical_size-size-ne0-clause-unread : goal.returns-then-physical_size-size-ne0-clause-unread
returns-then-physical_size-size-ne0-clause-unread g c =
    let is = whole g (goal.at.returns-then-physical_size-size-ne0-clause-unread g c).After-physical_page_size-size in
    let n = c.physical_page_size-size.result in
    ((λ ends. (refl, refl)), λ none few. absurd (c.if-physical_size-size-ne0.true (ap (λ (m : ℕ). m % n) none ∙ zero-mod n)))

pub returns-then-physical_size-gt0-clause-unread : goal.returns-then-physical_size-gt0-clause-unread
returns-then-physical_size-gt0-clause-unread g c =
    let is = whole g (goal.at.returns-then-physical_size-gt0-clause-unread g c).After-physical_page_size-size in (
      (λ ends. elim ends [
        | inl torn ↦ absurd (torn (omega (arith, is, c.if-physical_size-size-ne0.false)))
        | inr none ↦ absurd (omega (arith, none.0, c.if-physical_size-gt0.true))
      ]),
      λ none few. absurd (omega (arith, none, c.if-physical_size-gt0.true)),
    )

pub returns-then-len-gt0-clause-unread : goal.returns-then-len-gt0-clause-unread
returns-then-len-gt0-clause-unread g c = ((λ ends. (refl, refl)), λ none few. absurd (omega (arith, few, c.if-len-gt0.true)))

pub returns-clause-unread : goal.returns-clause-unread
returns-clause-unread g c =
    let is = whole g (goal.at.returns-clause-unread g c).After-physical_page_size-size in (
      (λ ends. elim ends [
        | inl torn ↦ absurd (torn (omega (arith, is, c.if-physical_size-size-ne0.false)))
        | inr some ↦ absurd (some.1 (omega (arith, c.if-len-gt0.false)))
      ]),
      λ none few. (ap (λ (bufs : List (List ℕ)). Ok (0, bufs)) c.new.ensures, refl),
    )
