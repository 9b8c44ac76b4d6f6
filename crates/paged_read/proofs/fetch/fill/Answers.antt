use Rattle.std.proofs.Common.{◌≡◌, ◌∙◌, ap, ℕ, ◌+◌, ◌-◌, List, length, take, drop, get_or, [], arith}
use Rattle.std.proofs.lemmas.Grind.{common_steps}
use Rattle.std.proofs.lemmas.List.{get_or_default}
use Rattle.paged_read.specs.Batch.{bytes_found}
use Rattle.paged_read.specs.declared.lack.Lack.{Lack}
use Rattle.paged_read.proofs.BatchKeeps.{told_more}
use Rattle.paged_read.proofs.fetch.fill.Goals as goal

pub loop-lack-preserved : goal.loop-lack-preserved
loop-lack-preserved c = λ P content told.
    let none : Lack = record { number = 0; piece = record { page = 0; skip = 0; place = 0; len = 0 } } in
    let lack = get_or c.args.lacks.now c.loop-lack.lack-index none in
    let ready = c.requires c.loop-lack.lack-index none c.loop-lack-test.true in
    let entry : ℕ × List ℕ = c.index-out-at.result in
    let here : entry.1 ≡ bytes_found c.args.at.now c.args.out.now lack.number = ap (λ (r : ℕ × List ℕ). r.1) (c.index-out-at.is ∙ get_or_default c.args.out.now (get_or c.args.at.now lack.number 0) entry (0, []) ready.found) in
    told_more P content c.args.lacks.now c.loop-lack.lack-index none c.args.at.now c.args.out.now c.loop-lack.buf c.copy_from_slice.new.self c.args.buf.now (length c.args.buf.now) c.loop-lack-test.true ready
    (told c.loop-lack.lack-index none c.loop-lack-test.true)
    (c.copy_from_slice.ensures.after ∙ ap (λ (l : List ℕ). take (lack.piece.skip + lack.piece.len - lack.piece.skip) (drop lack.piece.skip l)) (c.as_ref.ensures ∙ here))
    (c.loop-lack.invariant P content told)

pub returns-clause-told : goal.returns-clause-told
returns-clause-told c = grind (arith, common_steps)
