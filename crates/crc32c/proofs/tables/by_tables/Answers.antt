use Rattle.std.proofs.Common.{◌≡◌, ◌∙◌, ap, ap₂}
use Rattle.crc32c.specs.Crc.{after_bytes}
use Rattle.crc32c.proofs.Steps.{part_first, part_of}
use Rattle.crc32c.proofs.tables.by_tables.Goals.{in-Some-split_first_chunk, in_default-split_first_chunk, in-Some-split_first_chunk-2, in_default-split_first_chunk-2}
use Rattle.crc32c.proofs.tables.by_tables.Goals as goal

pub loop-byte-init : goal.loop-byte-init
loop-byte-init c =
    let l = c.loop-chunk in
    let m = c.match-split_first_chunk-2 in
    let two : after_bytes m.state m.rest.now ≡ after_bytes c.args.state c.args.bytes.now = elim m.branch [
      | in-Some-split_first_chunk w ↦
          let cut = w.in-Some-split_first_chunk in
          ap₂ after_bytes w.state-is (ap (λ r. r.now) w.rest-is)
          ∙ part_first l.state w.eight-state.result l.rest.now cut.chunk.now cut.after.now cut.ensures.cases.0 cut.ensures.cases.1 w.eight-state.ensures
          ∙ l.invariant
      | in_default-split_first_chunk w ↦ ap₂ after_bytes w.state-is (ap (λ r. r.now) w.rest-is) ∙ l.invariant
    ] in
    elim c.match-split_first_chunk-3.branch [
      | in-Some-split_first_chunk-2 w ↦
          let cut = w.in-Some-split_first_chunk-2 in
          ap₂ after_bytes w.state-is (ap (λ r. r.now) w.rest-is)
          ∙ part_of 4 m.state w.four-state.result m.rest.now cut.chunk.now cut.after.now cut.ensures.cases.0 cut.ensures.cases.1 w.four-state.ensures
          ∙ two
      | in_default-split_first_chunk-2 w ↦ ap₂ after_bytes w.state-is (ap (λ r. r.now) w.rest-is) ∙ two
    ]
