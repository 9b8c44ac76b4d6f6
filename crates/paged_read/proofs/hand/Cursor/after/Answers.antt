use Rattle.std.proofs.Common.{◌≡◌, ◌≤◌, ◌+◌, ◌-◌, length, arith, ap, ◌∙◌, sym}
use Rattle.paged_read.specs.Hand.{payloads_at}
use Rattle.paged_read.proofs.Hands.{cursor_in, after_same, after_next}
use Rattle.paged_read.proofs.hand.Cursor.after.Goals as goal

pub overflow_add-end : goal.overflow_add-end
overflow_add-end c =
    let at = c.args.self in
    let all = c.args.runs.now.items in
    let within = (cursor_in all at.run at.start at.left c.index.result.now c.requires.within
    c.index.ensures c.requires.cursor).1 in
    let size = c.len-len.ensures in
    Prim.grind (arith, within, size, c.len-len.type_inv)

pub returns-then-after-le-FOOTER-clause-bytes : goal.returns-then-after-le-FOOTER-clause-bytes
returns-then-after-le-FOOTER-clause-bytes c =
    let at = c.args.self in
    let all = c.args.runs.now.items in
    let first = c.index.result.now in
    let next = c.first in
    let size = c.len-len.ensures in
    let few = c.if-after-le-FOOTER.true in
    let within = (cursor_in all at.run at.start at.left first c.requires.within c.index.ensures
    c.requires.cursor).1 in
    let ends : length first ≤ at.start + at.left + 12 = omega (arith, size, few) in
    after_next c.args.page_size at.run at.start at.left next.result.start next.result.left all
    first c.requires.within c.index.ensures within ends next.ensures.bytes
    ∙ ap (λ run. payloads_at c.args.page_size all run next.result.start next.result.left)
    (sym next.ensures.run)

pub returns-clause-bytes : goal.returns-clause-bytes
returns-clause-bytes c =
    let at = c.args.self in
    let all = c.args.runs.now.items in
    let first = c.index.result.now in
    let size = c.len-len.ensures in
    let more = c.if-after-le-FOOTER.false in
    let rest = c.len-len.result - (at.start + at.left) - 12 in
    let whole : at.start + at.left + 12 + rest ≡ length first = omega (arith, size, more) in
    after_same c.args.page_size at.run at.start at.left rest all first c.requires.within
    c.index.ensures whole
    ∙ ap (λ left. payloads_at c.args.page_size all at.run (at.start + at.left + 12) left)
    (sym c.min.ensures)
