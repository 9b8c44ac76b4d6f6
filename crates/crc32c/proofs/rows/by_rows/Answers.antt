use Rattle.std.proofs.Common.{◌∙◌, ◌++◌, ◌/◌, ap, length, arith, w8}
use Rattle.std.proofs.lemmas.Simd.{below_from_Fits}
use Rattle.crc32c.specs.Crc.{after_bytes}
use Rattle.crc32c.proofs.RowStates.{row_begins, row_keeps, last_row}
use Rattle.crc32c.proofs.rows.by_rows.Goals as goal

pub loop-rest-init : goal.loop-rest-init
loop-rest-init c =
    let first = c.first_rows.result.0 in
    let second = c.first_rows.result.1 in
    let rest = c.split_at.result.1.now in
    let cut = c.split_at.ensures in
    let lanes = c.first_rows.ensures in
    record {
      whole = omega (arith, cut.back_len, c.in_first-count.ensures.others);
      tables = omega (arith, cut.back_len);
      same =
          row_begins (length rest / 16) c.with_row-a.result c.with_row-b.result c.with_row-c.result c.with_row-d.result first second rest
          lanes.first.0 lanes.first.1 lanes.second (omega (arith, cut.back_len, c.in_first-count.ensures.others)) c.with_row-a.ensures c.with_row-b.ensures c.with_row-c.ensures c.with_row-d.ensures
          ∙ ap (λ l. after_bytes 0 (first ++ (second ++ l))) cut.back ∙ lanes.same;
    }

pub loop-rest-preserved : goal.loop-rest-preserved
loop-rest-preserved c =
    let l = c.loop-rest in
    let cut = c.split_at-in-loop-rest in
    record {
      whole = omega (arith, l.invariant.whole, cut.ensures.back_len);
      tables = omega (arith, l.invariant.tables, cut.ensures.back_len);
      same =
          row_keeps (length cut.result.1.now / 16) l.a l.b l.c l.d c.with_row-a-in-loop-rest.result c.with_row-b-in-loop-rest.result c.with_row-c-in-loop-rest.result c.with_row-d-in-loop-rest.result
          l.row l.rest.now cut.result.0.now cut.result.1.now l.auto.a.0 l.auto.b.0 l.auto.c.0 l.auto.d.0 l.auto.row.0 (below_from_Fits w8 l.row l.auto.row.1)
          (omega (arith, l.invariant.whole, cut.ensures.back_len)) cut.ensures.front cut.ensures.back
          c.with_row-a-in-loop-rest.ensures c.with_row-b-in-loop-rest.ensures c.with_row-c-in-loop-rest.ensures c.with_row-d-in-loop-rest.ensures
          ∙ l.invariant.same;
    }

pub returns : goal.returns
returns c =
    let l = c.loop-rest in
    c.last.ensures ∙ last_row l.a l.b l.c l.d l.row l.rest.now l.auto.d.0 l.auto.row.0 (omega (arith, l.invariant.whole)) ∙ l.invariant.same
