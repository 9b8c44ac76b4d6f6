use Rattle.std.proofs.Common.{◌≡◌, ◌≤◌, ◌-◌, ◌∙◌, length, drop, ap, arith}
use Rattle.std.proofs.lemmas.List.{length-drop, take_all}
use Rattle.journal.specs.Frame.{record_len}
use Rattle.segments.proofs.Pushes.{pass_more}
use Rattle.segments.proofs.marking.pass_frames.Goals as goal

pub loop-at-preserved : goal.loop-at-preserved
loop-at-preserved c =
    let page = c.args.page.now in
    let at = c.loop-at.at in
    let rest : length (drop at page) ≡ length page - at = length-drop at page in
    let fits : length (drop at page) ≤ length page - at = omega arith in
    let len : c.record_len_of.result ≡ record_len (drop at page) = c.record_len_of.ensures.len ∙ ap record_len (take_all (length page - at) (drop at page) fits) in
    pass_more page c.args.first c.loop-at.frames at c.record_len_of.result c.loop-at-test.true len c.record_len_of.ensures.small c.loop-at.invariant
