use Rattle.std.proofs.Common.{rules, ◌≡◌, ◌*◌, ℕ, ◌∙◌, ap, arith}
use Rattle.std.proofs.lemmas.Grind.{common_steps}
use Rattle.std.proofs.lemmas.Result.{err_from_is_err_and}
use Rattle.std.specs.Int.NonZero.{non_zero_u16_get}
use Rattle.paged_read.specs.RawReads.{value_told}
use Rattle.paged_read.proofs.RawCosts.{one_read, pages_rise}
use Rattle.paged_read.proofs.RawReading.{part_sliced}
use Rattle.paged_read.proofs.raw.read_part.Goals as goal

pub returns-clause-told : goal.returns-clause-told
returns-clause-told g c =
    let P = non_zero_u16_get c.args.page_size in
    let old = g.B.Blob.life c.args.blob.now in
    let start : c.args.page * c.from.result ≡ c.args.page * P = ap (λ (n : ℕ). c.args.page * n) (c.from.ensures ∙ c.get.ensures.value) in
    part_sliced P c.args.offset c.args.end c.args.page c.in_ok-bytes.len (c.args.page * c.from.result) c.saturating_sub-skip.result c.min-stop.result c.in_ok-bytes.bytes (value_told g.H.Sum.sum_of P c.args.page old.present.readable) old
    (g.B.Blob.life c.read_value.new.blob) c.slice.result start c.saturating_sub-skip.ensures (search rules) (omega (arith, c.if-stop-skip.false)) (omega (arith, c.min-stop.ensures, c.in_ok-bytes.ensures.within, c.from-2.ensures))
    c.in_ok-bytes.ensures.told.0 c.in_ok-bytes.ensures.told.1 c.in_ok-bytes.ensures.told.2 c.slice.ensures.ok c.slice.ensures.err

pub returns-clause-reads : goal.returns-clause-reads
returns-clause-reads g c =
    one_read (non_zero_u16_get c.args.page_size) c.args.page (g.B.Blob.life c.args.blob.now) (g.B.Blob.life c.read_value.new.blob) c.slice.result c.in_ok-bytes.ensures.reads

pub returns-in_err-bytes-clause-reads : goal.returns-in_err-bytes-clause-reads
returns-in_err-bytes-clause-reads g c =
    let p = err_from_is_err_and c.from_residual.result c.from_residual.ensures.1 in
    rw p.1 c.in_err-bytes.ensures.reads

pub returns-then-stop-skip-clause-reads : goal.returns-then-stop-skip-clause-reads
returns-then-stop-skip-clause-reads g c =
    pages_rise (non_zero_u16_get c.args.page_size) c.args.page 1 1 (g.B.Blob.life c.args.blob.now) (g.B.Blob.life c.read_value.new.blob) (omega arith) c.in_ok-bytes.ensures.reads

pub returns-then-stop-skip-clause-told : goal.returns-then-stop-skip-clause-told
returns-then-stop-skip-clause-told g c = grind (arith, common_steps)
