use Rattle.std.proofs.Common.{◌≡◌, ◌+◌, ◌*◌, ◌-◌, get_or, length, refl, arith}
use Rattle.segments.proofs.Pushes.{ends_cut, ends_whole}
use Rattle.segments.proofs.marking.page_end.Goals as goal

pub returns-then-at-page-clause-passes : goal.returns-then-at-page-clause-passes
returns-then-at-page-clause-passes c =
    let at = c.pass_frames-frames.result.1 in
    let last : at + 1 ≡ length c.args.page.now = omega arith in
    let skip : 6 + c.from.result * 256 ≡ 6 + get_or c.args.page.now at 0 * 256 = omega (arith, c.from.ensures) in
    ends_cut c.args.page.now c.args.first c.pass_frames-frames.result.0 at (6 + c.from.result * 256) last skip c.pass_frames-frames.ensures.passes

pub returns-clause-passes : goal.returns-clause-passes
returns-clause-passes c =
    let at = c.pass_frames-frames.result.1 in
    ends_whole c.args.page.now c.args.first c.pass_frames-frames.result.0 at (at - length c.args.page.now) c.if-at-page.false refl c.pass_frames-frames.ensures.passes
