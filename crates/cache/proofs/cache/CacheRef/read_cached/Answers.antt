use Rattle.std.proofs.Common.{◌∙◌, ap, sym, arith, ℕ, List, length, take, length-drop}
use Rattle.std.proofs.lemmas.List.{take_rest}
use Rattle.cache.specs.CacheState.{put_at}
use Rattle.cache.proofs.Reading.{come_more}
use Rattle.cache.proofs.cache.CacheRef.read_cached.Goals as goal

pub loop-done-preserved : goal.loop-done-preserved
loop-done-preserved c =
    let page : List ℕ = c.in-Some.bytes.now in
    let skip : ℕ = c.offset_to_page-page.result.1 in
    let done : ℕ = c.loop-done.done in
    let len : ℕ = c.min-len.result in
    let rest = take_rest page skip in
    come_more c.args.self.now c.args.id c.args.offset c.min-most.result done len
    c.offset_to_page-page.result.0 skip page c.args.buf.now c.loop-done.buf c.copy_at.new.buf
    c.loop-done.invariant c.offset_to_page-page.ensures.page c.offset_to_page-page.ensures.skip
    c.offset_to_page-page.ensures.within (sym c.in-Some.ensures.page) c.in-Some.ensures.size
    (omega (arith, c.min-len.ensures, ap length rest, length-drop skip page))
    (omega (arith, c.min-len.ensures)) (omega (arith, c.min-most.ensures))
    (c.copy_at.ensures.put ∙ ap (λ l. put_at done (take len l) c.loop-done.buf) rest)
