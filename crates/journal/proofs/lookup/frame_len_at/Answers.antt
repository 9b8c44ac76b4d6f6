use Rattle.std.proofs.Common.{◌≡◌, ◌∙◌, [], ◌∷◌, List, ℕ, ap, length, take, drop, length-drop, length-take, arith, min, subst}
use Rattle.paged_read.specs.Tail.{logical_bytes, tail_at}
use Rattle.journal.specs.Costs.{RangeCosts}
use Rattle.journal.proofs.Costs.{range_costs}
use Rattle.journal.proofs.Journals.{frame_measured}
use Rattle.journal.proofs.Readers.{read_views, view_refused}
use Rattle.journal.proofs.lookup.frame_len_at.Given.{Over}
use Rattle.journal.proofs.lookup.frame_len_at.Goals as goal
use Rattle.journal.proofs.lookup.frame_len_at.Goals.{After-read_into}

pub returns-in-Ok-clause-measures : goal.returns-in-Ok-clause-measures
returns-in-Ok-clause-measures g c =
    let t = tail_at c.args.view.page_size c.args.view.id c.args.view.tip.now in
    let held = logical_bytes t (g.B.Blob.life c.args.blob.now).present.readable in
    let long : length (drop c.args.offset held) ≡ c.args.rest =
    omega (arith, c.requires.within, c.requires.opened.size, length-drop c.args.offset held) in
    let zeros : List ℕ = 0 ∷ 0 ∷ [] in
    let front : length (take c.min.result zeros) ≡ min c.args.rest 2 = omega (arith, c.min.ensures, length-take c.min.result zeros) in
    let len = frame_measured held c.args.offset c.args.rest c.min-in-Ok.result c.read_into.new.buf long
    (c.in-Ok.ensures.goes.answers.1 ∙ ap (λ n. take n (drop c.args.offset held)) front)
    (omega (arith, c.min-in-Ok.ensures, c.record_len_of.ensures.len)) in
    (len, c.in-Ok.ensures.goes.answers.3)

pub returns-in-Ok-clause-leaves : goal.returns-in-Ok-clause-leaves
returns-in-Ok-clause-leaves g c =
    read_views g.H.Sum.sum_of (tail_at c.args.view.page_size c.args.view.id c.args.view.tip.now) c.args.cache.now c.read_into.new.cache (g.B.Blob.life c.args.blob.now) (g.B.Blob.life c.read_into.new.blob) c.requires.opened c.read_into.ensures.leaves

pub returns-in-Err-clause-leaves : goal.returns-in-Err-clause-leaves
returns-in-Err-clause-leaves g c =
    read_views g.H.Sum.sum_of (tail_at c.args.view.page_size c.args.view.id c.args.view.tip.now) c.args.cache.now c.read_into.new.cache (g.B.Blob.life c.args.blob.now) (g.B.Blob.life c.read_into.new.blob) c.requires.opened c.read_into.ensures.leaves

pub returns-in-Err-clause-measures : goal.returns-in-Err-clause-measures
returns-in-Err-clause-measures g c =
    let zeros : List ℕ = 0 ∷ 0 ∷ [] in
    let front : length (take c.min.result zeros) ≡ min c.args.rest 2 = omega (arith, c.min.ensures, length-take c.min.result zeros) in
    view_refused g.H.Sum.sum_of (tail_at c.args.view.page_size c.args.view.id c.args.view.tip.now) c.args.cache.now c.args.offset _ (λ (u : Unit {0}). c.read_into.new.buf) (g.B.Blob.life c.args.blob.now) (g.B.Blob.life c.read_into.new.blob) c.in-Err.error
    c.in-Err.ensures.goes.answers c.requires.opened (omega (arith, c.requires.within, front)) (omega (arith, c.requires.fits, front))

-- what the read of the length asked for
costs : (g : Over) (c : After-read_into g) → RangeCosts (tail_at c.args.view.page_size c.args.view.id c.args.view.tip.now) (c.args.offset, min 2 c.args.rest) c.args.cache.now c.read_into.new.cache (g.B.Blob.life c.args.blob.now) (g.B.Blob.life c.read_into.new.blob)
costs g c =
    let t = tail_at c.args.view.page_size c.args.view.id c.args.view.tip.now in
    let old = g.B.Blob.life c.args.blob.now in
    let new = g.B.Blob.life c.read_into.new.blob in
    let zeros : List ℕ = 0 ∷ 0 ∷ [] in
    let front : length (take c.min.result zeros) ≡ min 2 c.args.rest = omega (arith, c.min.ensures, length-take c.min.result zeros) in
    subst (λ (n : ℕ). RangeCosts t (c.args.offset, n) c.args.cache.now c.read_into.new.cache old new) front
    (range_costs g.H.Sum.sum_of t (c.args.offset, length (take c.min.result zeros)) c.args.cache.now c.read_into.new.cache old new c.read_into.result c.read_into.ensures.costs)

pub returns-in-Ok-clause-costs : goal.returns-in-Ok-clause-costs
returns-in-Ok-clause-costs g c = costs g (goal.at.returns-in-Ok-clause-costs g c).After-read_into

pub returns-in-Err-clause-costs : goal.returns-in-Err-clause-costs
returns-in-Err-clause-costs g c = costs g (goal.at.returns-in-Err-clause-costs g c).After-read_into
