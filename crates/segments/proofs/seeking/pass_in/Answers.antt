use Rattle.std.proofs.Common.{◌≡◌, ◌≤◌, ◌-◌, ◌∙◌, length, drop, ap, length-drop, arith}
use Rattle.std.proofs.lemmas.List.{take_all}
use Rattle.journal.specs.Frame.{frame_len}
use Rattle.segments.proofs.Behind.{passing_begins, passing_more}
use Rattle.segments.proofs.seeking.pass_in.Goals as goal

pub loop-at-init : goal.loop-at-init
loop-at-init c = passing_begins c.args.bytes.now c.args.first c.args.offset

pub loop-at-preserved : goal.loop-at-preserved
loop-at-preserved c =
    let bytes = c.args.bytes.now in
    let skip = c.min-skip.result in
    let rest : length (drop skip bytes) ≡ length bytes - skip = length-drop skip bytes in
    let fits : length (drop skip bytes) ≤ length bytes - skip = omega arith in
    let len : c.frame_len_of-at.result ≡ frame_len (drop skip bytes) = c.frame_len_of-at.ensures.len ∙ ap frame_len (take_all (length bytes - skip) (drop skip bytes) fits) in
    passing_more bytes c.args.first c.args.offset c.loop-at.frames c.loop-at.at skip c.frame_len_of-at.result c.loop-at-test.true c.min-skip.ensures len c.loop-at.invariant
