use Rattle.std.proofs.Common.{◌≡◌, ◌∙◌, ap, min, subst, sym}
use Rattle.std.specs.Prelude.{Err}
use Rattle.std.proofs.lemmas.Result.{err_from_is_err_and}
use Rattle.page_digests.specs.declared.error.Error.{Error}
use Rattle.page_digests.specs.declared.seal.Seal.{Seal}
use Rattle.segments.specs.Passing.{PassedFrames}
use Rattle.segments.specs.Seeks.{BehindGoes}
use Rattle.segments.proofs.PassedPages.{count_known, count_refused, count_unknown, last_passed, next_unmarked, page_passed}
use Rattle.segments.proofs.passing.pass_page.Goals as goal
use Rattle.segments.proofs.passing.pass_page.Goals.{in-Ok, in-Err-Damaged, in-Err-System}

pub returns-in_default : goal.returns-in_default
returns-in_default g c =
    last_passed g.D.Digest.digest_of c.args.offset c.len.result c.args.marks.now c.args.content.now c.requires.within c.requires.len c.len.ensures.len (c.page_behind.ensures.none c.in_default.is)

pub returns-in_err-next : goal.returns-in_err-next
returns-in_err-next g c =
    let p = err_from_is_err_and c.from_residual.result c.from_residual.ensures.1 in
    rw (p.1, p.2) (next_unmarked g.D.Digest.digest_of c.args.offset c.in-Some.page c.args.marks.now c.first_from.new.self c.args.content.now c.in_err-next.field-0.0 c.in-Some.ensures.some c.in_err-next.ensures)

pub returns-in-Err-OutOfMemory : goal.returns-in-Err-OutOfMemory
returns-in-Err-OutOfMemory g c =
    let behind = subst (λ (e : Error). BehindGoes g.D.Digest.digest_of c.args.offset c.first_from.new.self c.first_behind.new.self c.args.content.now c.first_behind.new.content (Err e)) c.in-Err-OutOfMemory.field-0-is
    c.in-Err-OutOfMemory.ensures in
    count_refused g.D.Digest.digest_of c.args.offset c.in-Some.page c.args.marks.now c.first_from.new.self c.first_behind.new.self c.args.content.now c.first_behind.new.content c.in_ok-next.next c.in_ok-next.ensures behind

pub returns : goal.returns
returns g c =
    let s = c.args.marks.now in
    let t = c.first_from.new.self in
    let u = c.first_behind.new.self in
    let x = c.args.content.now in
    let y = c.first_behind.new.content in
    let b = c.in_ok-next.next in
    let frames : PassedFrames g.D.Digest.digest_of c.args.offset s u x y c.match-first_behind.frames = elim c.match-first_behind.branch [
      | in-Ok w ↦
          subst (PassedFrames g.D.Digest.digest_of c.args.offset s u x y) (sym w.frames-is)
          (count_known g.D.Digest.digest_of c.args.offset c.in-Some.page w.saturating_sub.result s t u x y b w.in-Ok.first c.in-Some.ensures.some c.in-Some.ensures.within w.saturating_sub.ensures c.in_ok-next.ensures w.in-Ok.ensures)
      | in-Err-Damaged w ↦
          subst (PassedFrames g.D.Digest.digest_of c.args.offset s u x y) (sym w.frames-is)
          (count_unknown g.D.Digest.digest_of c.args.offset c.in-Some.page s t u x y b w.in-Err-Damaged.field-0 (λ is. absurd (cc (sym w.in-Err-Damaged.field-0-is ∙ is))) c.in_ok-next.ensures w.in-Err-Damaged.ensures)
      | in-Err-System w ↦
          subst (PassedFrames g.D.Digest.digest_of c.args.offset s u x y) (sym w.frames-is)
          (count_unknown g.D.Digest.digest_of c.args.offset c.in-Some.page s t u x y b w.in-Err-System.field-0 (λ is. absurd (cc (sym w.in-Err-System.field-0-is ∙ is))) c.in_ok-next.ensures w.in-Err-System.ensures)
    ] in
    let long : c.len-2.result ≡ s.len = c.len-2.ensures.len ∙ ap (λ (seal : Seal). seal.len) c.first_behind.ensures.content.seal ∙ c.requires.len in
    let to : c.min.result ≡ min b.offset s.len = c.min.ensures ∙ ap (min b.offset) long in
    page_passed g.D.Digest.digest_of c.args.offset c.in-Some.page s t u x y b c.min.result c.match-first_behind.frames c.page_behind.ensures.positive c.in-Some.ensures.some c.in-Some.ensures.within to c.in_ok-next.ensures
    c.first_behind.ensures.same c.first_behind.ensures.content c.first_behind.ensures.calls frames
