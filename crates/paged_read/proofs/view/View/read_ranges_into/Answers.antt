use Rattle.std.proofs.Common.{rules, refl, Ok, Err, Result, ◌≡◌, ◌∙◌, sym, ap, subst, ℕ, ◌<◌, List, length, take, arith}
use Rattle.std.specs.Prelude.{All}
use Rattle.std.proofs.lemmas.List.{take_all}
use Rattle.page.specs.Geometry.{EndWithin}
use Rattle.disk.specs.declared.error.Error.{Error}
use Rattle.disk.specs.declared.error.Error.TheVariants.{OutOfMemory}
use Rattle.paged_read.specs.Failures.{none_failed_start}
use Rattle.paged_read.specs.Ranges.{ReadsMany}
use Rattle.paged_read.specs.Puts.{PutsSome}
use Rattle.paged_read.specs.Tail.{logical_bytes, tail_at}
use Rattle.paged_read.specs.Parts.{with_told}
use Rattle.paged_read.specs.Batch.{pieces_in}
use Rattle.std.proofs.lemmas.Result.{err_from_is_err_and}
use Rattle.paged_read.proofs.ReadLaws.{read_ranges_goes, many_outside, many_refused, read_many_leaves, leaves_nothing, many_costs, many_costs_refused, many_costs_nothing}
use Rattle.paged_read.proofs.PageReads.{full_missing}
use Rattle.paged_read.proofs.RangedPages.{missing_below}
use Rattle.paged_read.proofs.RangedLists.{refused_not}
use Rattle.paged_read.proofs.view.View.read_ranges_into.Goals as goal

pub returns-in_err-validate_read_ranges-clause-goes : goal.returns-in_err-validate_read_ranges-clause-goes
returns-in_err-validate_read_ranges-clause-goes g c =
    let t = tail_at c.args.self.page_size c.args.self.id c.args.self.tip.now in
    let p = err_from_is_err_and c.from_residual.result c.from_residual.ensures.1 in
    let answers : ReadsMany g.H.Sum.sum_of t c.args.cache.now c.args.ranges.now c.args.buf.now (g.B.Blob.life c.args.blob.now) (g.B.Blob.life c.args.blob.now) c.from_residual.result =
    rw (p.1, p.2) (many_outside g.H.Sum.sum_of t c.args.cache.now c.args.ranges.now c.size.result c.args.buf.now (g.B.Blob.life c.args.blob.now) c.in_err-validate_read_ranges.field-0.0 c.size.ensures c.in_err-validate_read_ranges.ensures) in
    read_ranges_goes g.H.Sum.sum_of t c.args.cache.now (g.B.Blob.life c.args.blob.now) (g.B.Blob.life c.args.blob.now) c.requires.can c.args.ranges.now c.args.buf.now c.args.buf.now c.from_residual.result answers
    (rw p.1 (λ within none. refused_not c.size.result c.args.ranges.now c.in_err-validate_read_ranges.field-0.0 (omega arith) c.in_err-validate_read_ranges.ensures (subst (λ (n : ℕ). EndWithin n c.args.ranges.now) (sym c.size.ensures) within))) refl

pub returns-in_err-validate_read_ranges-clause-leaves : goal.returns-in_err-validate_read_ranges-clause-leaves
returns-in_err-validate_read_ranges-clause-leaves g c =
    leaves_nothing g.H.Sum.sum_of (tail_at c.args.self.page_size c.args.self.id c.args.self.tip.now) c.args.cache.now (g.B.Blob.life c.args.blob.now) c.args.self.page_size.ok c.requires.can

pub returns-in_err-validate_read_ranges-clause-costs : goal.returns-in_err-validate_read_ranges-clause-costs
returns-in_err-validate_read_ranges-clause-costs g c =
    let t = tail_at c.args.self.page_size c.args.self.id c.args.self.tip.now in
    let p = err_from_is_err_and c.from_residual.result c.from_residual.ensures.1 in
    rw p.1 (many_costs_nothing g.H.Sum.sum_of t c.args.ranges.now c.args.cache.now (g.B.Blob.life c.args.blob.now) p.0)

pub returns-in_err-batch-clause-goes : goal.returns-in_err-batch-clause-goes
returns-in_err-batch-clause-goes g c =
    let t = tail_at c.args.self.page_size c.args.self.id c.args.self.tip.now in
    read_ranges_goes g.H.Sum.sum_of t c.args.cache.now (g.B.Blob.life c.args.blob.now) (g.B.Blob.life c.args.blob.now) c.requires.can c.args.ranges.now c.args.buf.now c.gather.new.buf c.from_residual-in_err-batch.result
    (let is : c.from_residual-in_err-batch.result ≡ Err OutOfMemory = search rules in
    subst (λ (r : Result ℕ Error). ReadsMany g.H.Sum.sum_of t c.args.cache.now c.args.ranges.now c.gather.new.buf (g.B.Blob.life c.args.blob.now) (g.B.Blob.life c.args.blob.now) r) (sym is) (subst (λ (n : ℕ). EndWithin n c.args.ranges.now) c.size.ensures c.in_ok-validate_read_ranges.ensures, none_failed_start (g.B.Blob.life c.args.blob.now).present))
    (let p = err_from_is_err_and c.from_residual-in_err-batch.result c.from_residual-in_err-batch.ensures.1 in rw p.1 (λ within. c.in_err-batch.ensures.refused)) c.gather.ensures.size

pub returns-in_err-batch-clause-leaves : goal.returns-in_err-batch-clause-leaves
returns-in_err-batch-clause-leaves g c =
    leaves_nothing g.H.Sum.sum_of (tail_at c.args.self.page_size c.args.self.id c.args.self.tip.now) c.args.cache.now (g.B.Blob.life c.args.blob.now) c.args.self.page_size.ok c.requires.can

pub returns-in_err-batch-clause-costs : goal.returns-in_err-batch-clause-costs
returns-in_err-batch-clause-costs g c =
    let t = tail_at c.args.self.page_size c.args.self.id c.args.self.tip.now in
    let p = err_from_is_err_and c.from_residual-in_err-batch.result c.from_residual-in_err-batch.ensures.1 in
    rw p.1 (many_costs_nothing g.H.Sum.sum_of t c.args.ranges.now c.args.cache.now (g.B.Blob.life c.args.blob.now) p.0)

pub returns-in_err-read_lacks-clause-goes : goal.returns-in_err-read_lacks-clause-goes
returns-in_err-read_lacks-clause-goes g c =
    let t = tail_at c.args.self.page_size c.args.self.id c.args.self.tip.now in
    let old = g.B.Blob.life c.args.blob.now in
    let new = g.B.Blob.life c.read_lacks.new.blob in
    let pages = c.in_ok-batch.batch.pages.items in
    let wanted = c.in_ok-batch.ensures.gathered.wanted in
    let within = subst (λ (n : ℕ). EndWithin n c.args.ranges.now) c.size.ensures c.in_ok-validate_read_ranges.ensures in
    let p = err_from_is_err_and c.from_residual-in_err-read_lacks.result c.from_residual-in_err-read_lacks.ensures.1 in
    let result = c.from_residual-in_err-read_lacks.result in
    let answers : ReadsMany g.H.Sum.sum_of t c.args.cache.now c.args.ranges.now c.read_lacks.new.buf old new result =
    rw (p.1, p.2) (many_refused g.H.Sum.sum_of t c.args.cache.now c.args.ranges.now pages c.read_lacks.new.buf old new c.in_err-read_lacks.field-0.0 (sym wanted) within c.in_err-read_lacks.ensures.reads) in
    read_ranges_goes g.H.Sum.sum_of t c.args.cache.now old new c.requires.can c.args.ranges.now c.args.buf.now c.read_lacks.new.buf result answers
    (rw p.1 (λ within none. c.in_err-read_lacks.ensures.refused (wanted ∙ none))) (c.read_lacks.ensures.size ∙ c.gather.ensures.size)

pub returns-in_err-read_lacks-clause-leaves : goal.returns-in_err-read_lacks-clause-leaves
returns-in_err-read_lacks-clause-leaves g c =
    let t = tail_at c.args.self.page_size c.args.self.id c.args.self.tip.now in
    let old = g.B.Blob.life c.args.blob.now in
    let new = g.B.Blob.life c.read_lacks.new.blob in
    let pages = c.in_ok-batch.batch.pages.items in
    let wanted = c.in_ok-batch.ensures.gathered.wanted in
    read_many_leaves g.H.Sum.sum_of t c.args.cache.now c.read_lacks.new.cache old new c.args.self.page_size.ok c.requires.can c.read_lacks.ensures.looked c.args.ranges.now c.read_lacks.result (subst (λ (l : List ℕ). PutsSome g.H.Sum.sum_of t l old.present.readable c.args.cache.now c.read_lacks.new.cache c.read_lacks.result) wanted c.read_lacks.ensures.puts)

pub returns-in_err-read_lacks-clause-costs : goal.returns-in_err-read_lacks-clause-costs
returns-in_err-read_lacks-clause-costs g c =
    let t = tail_at c.args.self.page_size c.args.self.id c.args.self.tip.now in
    let old = g.B.Blob.life c.args.blob.now in
    let new = g.B.Blob.life c.read_lacks.new.blob in
    let pages = c.in_ok-batch.batch.pages.items in
    let wanted = c.in_ok-batch.ensures.gathered.wanted in
    let p = err_from_is_err_and c.from_residual-in_err-read_lacks.result c.from_residual-in_err-read_lacks.ensures.1 in
    rw p.1 (many_costs_refused {A = Unit {0}} g.H.Sum.sum_of t c.args.ranges.now pages c.args.cache.now c.read_lacks.new.cache old new c.in_err-read_lacks.field-0.0 p.0 wanted c.read_lacks.ensures.asks c.in_err-read_lacks.ensures.puts)

pub read_lacks-requires-clause-below : goal.read_lacks-requires-clause-below
read_lacks-requires-clause-below g c =
    let t = tail_at c.args.self.page_size c.args.self.id c.args.self.tip.now in
    subst (λ (l : List ℕ). All (λ page. page < t.full_pages) l) (sym c.in_ok-batch.ensures.gathered.wanted) (missing_below c.args.cache.now t c.args.ranges.now)

pub returns-clause-goes : goal.returns-clause-goes
returns-clause-goes g c =
    let t = tail_at c.args.self.page_size c.args.self.id c.args.self.tip.now in
    let old = g.B.Blob.life c.args.blob.now in
    let content = logical_bytes t old.present.readable in
    let gathered = c.in_ok-batch.ensures.gathered in
    let reads = c.in_ok-read_lacks.ensures.reads in
    let whole : take (length c.args.buf.now) c.gather.new.buf ≡ c.gather.new.buf = take_all (length c.args.buf.now) c.gather.new.buf (omega (arith, c.gather.ensures.size)) in
    read_ranges_goes g.H.Sum.sum_of t c.args.cache.now old (g.B.Blob.life c.read_lacks.new.blob) c.requires.can c.args.ranges.now c.args.buf.now c.read_lacks.new.buf (Ok c.in_ok-batch.batch.served) (
      subst (λ (n : ℕ). EndWithin n c.args.ranges.now) c.size.ensures c.in_ok-validate_read_ranges.ensures,
      c.in_ok-batch.ensures.served,
      reads.0 ∙ ap (λ (l : List ℕ). with_told t.page_size content (pieces_in c.in_ok-batch.batch.lacks.items) l) (sym whole) ∙ gathered.bytes old.present c.requires.can,
      full_missing g.H.Sum.sum_of c.args.cache.now t c.args.ranges.now c.in_ok-batch.batch.pages.items old.present.readable (sym gathered.wanted) reads.1,
      reads.2,
    )
    tt (c.read_lacks.ensures.size ∙ c.gather.ensures.size)

pub returns-clause-leaves : goal.returns-clause-leaves
returns-clause-leaves g c =
    let t = tail_at c.args.self.page_size c.args.self.id c.args.self.tip.now in
    let old = g.B.Blob.life c.args.blob.now in
    let new = g.B.Blob.life c.read_lacks.new.blob in
    let pages = c.in_ok-batch.batch.pages.items in
    let wanted = c.in_ok-batch.ensures.gathered.wanted in
    read_many_leaves g.H.Sum.sum_of t c.args.cache.now c.read_lacks.new.cache old new c.args.self.page_size.ok c.requires.can c.read_lacks.ensures.looked c.args.ranges.now c.read_lacks.result (subst (λ (l : List ℕ). PutsSome g.H.Sum.sum_of t l old.present.readable c.args.cache.now c.read_lacks.new.cache c.read_lacks.result) wanted c.read_lacks.ensures.puts)

pub returns-clause-costs : goal.returns-clause-costs
returns-clause-costs g c =
    let t = tail_at c.args.self.page_size c.args.self.id c.args.self.tip.now in
    let old = g.B.Blob.life c.args.blob.now in
    let new = g.B.Blob.life c.read_lacks.new.blob in
    let pages = c.in_ok-batch.batch.pages.items in
    let wanted = c.in_ok-batch.ensures.gathered.wanted in
    many_costs {A = Unit {0}} g.H.Sum.sum_of t c.args.ranges.now pages c.args.cache.now c.read_lacks.new.cache old new _ _ wanted c.read_lacks.ensures.asks c.in_ok-read_lacks.ensures.puts
