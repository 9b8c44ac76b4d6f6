use Rattle.std.proofs.Common.{◌+◌, ◌-◌, ◌*◌, ℕ, List, length, take, drop, min, ap, ◌∙◌, sym, subst, arith, true≢false}
use Rattle.std.proofs.lemmas.Result.{err_from_is_err_and}
use Rattle.std.specs.Int.NonZero.{non_zero_u16_get}
use Rattle.paged_read.specs.ReadAhead.{AreFullPages}
use Rattle.paged_read.proofs.ReadAheads.{full_in_run, full_of_run, one_run, run_length}
use Rattle.paged_read.proofs.ahead.Batches.read.Goals as goal

pub are_full-requires : goal.are_full-requires
are_full-requires g c =
    let P = non_zero_u16_get c.args.self.page_size in
    let d = (g.B.Blob.life c.args.blob.now).present in
    let size = run_length P c.args.self.batch c.args.self.full_pages c.args.page d.readable
    c.in_ok-bytes.bytes c.requires.below c.requires.there c.in_ok-bytes.ensures.fetches in
    omega (
      arith,
      size,
      ap (λ l. length l) c.as_ref.ensures,
      ap (λ n. n * (P + 12)) c.min-pages.ensures,
    )

pub returns-then-are_full-clause-reads : goal.returns-then-are_full-clause-reads
returns-then-are_full-clause-reads g c =
    let P = non_zero_u16_get c.args.self.page_size in
    let k = min c.args.self.batch (c.args.self.full_pages - c.args.page) in
    let readable = (g.B.Blob.life c.args.blob.now).present.readable in
    let run = c.in_ok-bytes.bytes in
    let fetched = c.in_ok-bytes.ensures.fetches in
    let is = one_run run (take (k * (P + 12)) (drop (c.args.page * (P + 12)) readable)) fetched in
    let full = subst (λ (l : List ℕ). AreFullPages g.H.Sum.sum_of P 0 c.min-pages.result l)
    c.as_ref.ensures (c.are_full.ensures.0 c.if-are_full.true) in (
      fetched,
      full_of_run g.H.Sum.sum_of P k c.args.page readable run is
          (subst (λ n. AreFullPages g.H.Sum.sum_of P 0 n run) c.min-pages.ensures full),
    )

pub returns-else-are_full-clause-reads : goal.returns-else-are_full-clause-reads
returns-else-are_full-clause-reads g c = λ all.
    let P = non_zero_u16_get c.args.self.page_size in
    let k = min c.args.self.batch (c.args.self.full_pages - c.args.page) in
    let readable = (g.B.Blob.life c.args.blob.now).present.readable in
    let run = c.in_ok-bytes.bytes in
    let fetched = c.in_ok-bytes.ensures.fetches in
    let is = one_run run (take (k * (P + 12)) (drop (c.args.page * (P + 12)) readable)) fetched in
    let full = full_in_run g.H.Sum.sum_of P k c.args.page readable run is all in
    let yes = c.are_full.ensures.1
    (subst (λ (l : List ℕ). AreFullPages g.H.Sum.sum_of P 0 c.min-pages.result l)
    (sym c.as_ref.ensures)
    (subst (λ n. AreFullPages g.H.Sum.sum_of P 0 n run) (sym c.min-pages.ensures) full)) in
    true≢false (sym yes ∙ c.if-are_full.false)

pub returns-in_err-bytes-clause-failed : goal.returns-in_err-bytes-clause-failed
returns-in_err-bytes-clause-failed g c =
    let p = err_from_is_err_and c.from_residual.result c.from_residual.ensures.1 in
    rw (p.1, p.2) c.in_err-bytes.ensures.failed

pub returns-then-are_full-clause-failed : goal.returns-then-are_full-clause-failed
returns-then-are_full-clause-failed g c = c.in_ok-bytes.ensures.failed

pub returns-else-are_full-clause-failed : goal.returns-else-are_full-clause-failed
returns-else-are_full-clause-failed g c = λ other. c.in_ok-bytes.ensures.failed
