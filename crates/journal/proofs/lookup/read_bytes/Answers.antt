use Rattle.std.proofs.Common.{◌≡◌, ◌∙◌, ℕ, length, arith, subst}
use Rattle.std.proofs.lemmas.Grind.{common_steps}
use Rattle.std.proofs.lemmas.Result.{err_from_is_err_and}
use Rattle.paged_read.specs.Failures.{none_failed_start}
use Rattle.paged_read.specs.Tail.{tail_at}
use Rattle.journal.specs.Costs.{RangeCosts}
use Rattle.journal.specs.Reader.{ViewLeaves}
use Rattle.journal.proofs.Costs.{range_costs, range_unread}
use Rattle.journal.proofs.Readers.{read_views, view_refused, views_start}
use Rattle.journal.proofs.lookup.read_bytes.Given.{Over}
use Rattle.journal.proofs.lookup.read_bytes.Goals as goal
use Rattle.journal.proofs.lookup.read_bytes.Goals.{After-read_into}

-- what the read leaves
views : (g : Over) (c : After-read_into g) → ViewLeaves g.H.Sum.sum_of (tail_at c.args.view.page_size c.args.view.id c.args.view.tip.now) c.args.cache.now c.read_into.new.cache (g.B.Blob.life c.args.blob.now) (g.B.Blob.life c.read_into.new.blob)
views g c =
    read_views g.H.Sum.sum_of (tail_at c.args.view.page_size c.args.view.id c.args.view.tip.now) c.args.cache.now c.read_into.new.cache (g.B.Blob.life c.args.blob.now) (g.B.Blob.life c.read_into.new.blob) c.requires.opened c.read_into.ensures.leaves

pub returns-in_err-resize-clause-reads : goal.returns-in_err-resize-clause-reads
returns-in_err-resize-clause-reads g c =
    let error = err_from_is_err_and c.from_residual.result c.from_residual.ensures.1 in
    rw (error.1, error.2) (none_failed_start (g.B.Blob.life c.args.blob.now).present)

pub returns-in_err-resize-clause-leaves : goal.returns-in_err-resize-clause-leaves
returns-in_err-resize-clause-leaves g c = views_start g.H.Sum.sum_of (tail_at c.args.view.page_size c.args.view.id c.args.view.tip.now) c.args.cache.now (g.B.Blob.life c.args.blob.now) c.requires.opened

pub returns-in_err-from_vec-in-Ok-clause-leaves : goal.returns-in_err-from_vec-in-Ok-clause-leaves
returns-in_err-from_vec-in-Ok-clause-leaves g c = views g (goal.at.returns-in_err-from_vec-in-Ok-clause-leaves g c).After-read_into

pub returns-in_ok-from_vec-in-Ok-clause-leaves : goal.returns-in_ok-from_vec-in-Ok-clause-leaves
returns-in_ok-from_vec-in-Ok-clause-leaves g c = views g (goal.at.returns-in_ok-from_vec-in-Ok-clause-leaves g c).After-read_into

pub returns-in-Err-clause-leaves : goal.returns-in-Err-clause-leaves
returns-in-Err-clause-leaves g c = views g (goal.at.returns-in-Err-clause-leaves g c).After-read_into

pub returns-in-Err-clause-reads : goal.returns-in-Err-clause-reads
returns-in-Err-clause-reads g c =
    let many : length c.deref_mut.result.now ≡ c.args.len = c.deref_mut.ensures.len ∙ c.in_ok-resize.ensures.len in
    view_refused g.H.Sum.sum_of (tail_at c.args.view.page_size c.args.view.id c.args.view.tip.now) c.args.cache.now c.args.offset (length c.deref_mut.result.now) (λ (u : Unit {0}). c.read_into.new.buf) (g.B.Blob.life c.args.blob.now) (g.B.Blob.life c.read_into.new.blob) c.in-Err.error
    c.in-Err.ensures.goes.answers c.requires.opened (omega (arith, many, c.requires.within)) (omega (arith, many, c.requires.fits))

-- what the read asked for
costs : (g : Over) (c : After-read_into g) → length c.deref_mut.result.now ≡ c.args.len → RangeCosts (tail_at c.args.view.page_size c.args.view.id c.args.view.tip.now) (c.args.offset, c.args.len) c.args.cache.now c.read_into.new.cache (g.B.Blob.life c.args.blob.now) (g.B.Blob.life c.read_into.new.blob)
costs g c many =
    let t = tail_at c.args.view.page_size c.args.view.id c.args.view.tip.now in
    let old = g.B.Blob.life c.args.blob.now in
    let new = g.B.Blob.life c.read_into.new.blob in
    subst (λ (n : ℕ). RangeCosts t (c.args.offset, n) c.args.cache.now c.read_into.new.cache old new) many
    (range_costs g.H.Sum.sum_of t (c.args.offset, length c.deref_mut.result.now) c.args.cache.now c.read_into.new.cache old new c.read_into.result c.read_into.ensures.costs)

pub returns-in_err-resize-clause-costs : goal.returns-in_err-resize-clause-costs
returns-in_err-resize-clause-costs g c = range_unread (tail_at c.args.view.page_size c.args.view.id c.args.view.tip.now) (c.args.offset, c.args.len) c.args.cache.now (g.B.Blob.life c.args.blob.now)

pub returns-in_err-from_vec-in-Ok-clause-costs : goal.returns-in_err-from_vec-in-Ok-clause-costs
returns-in_err-from_vec-in-Ok-clause-costs g c = costs g (goal.at.returns-in_err-from_vec-in-Ok-clause-costs g c).After-read_into (c.deref_mut.ensures.len ∙ c.in_ok-resize.ensures.len)

pub returns-in_ok-from_vec-in-Ok-clause-costs : goal.returns-in_ok-from_vec-in-Ok-clause-costs
returns-in_ok-from_vec-in-Ok-clause-costs g c = costs g (goal.at.returns-in_ok-from_vec-in-Ok-clause-costs g c).After-read_into (c.deref_mut.ensures.len ∙ c.in_ok-resize.ensures.len)

pub returns-in-Err-clause-costs : goal.returns-in-Err-clause-costs
returns-in-Err-clause-costs g c = costs g (goal.at.returns-in-Err-clause-costs g c).After-read_into (c.deref_mut.ensures.len ∙ c.in_ok-resize.ensures.len)

pub returns-in_ok-from_vec-in-Ok-clause-reads : goal.returns-in_ok-from_vec-in-Ok-clause-reads
returns-in_ok-from_vec-in-Ok-clause-reads g c = grind (arith, common_steps)
