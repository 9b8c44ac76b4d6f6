use Rattle.std.specs.Prelude.{◌≤◌, max}
use Rattle.std.proofs.Common.{ap, sym, ◌∙◌, arith, subst}
use Rattle.std.proofs.lemmas.Grind.{common_steps}
use Rattle.page_digests.specs.Growing.{DigestingState}
use Rattle.segments.specs.Owned.{OwnedState}
use Rattle.segments.proofs.Ahead.{ahead_refused, memory_refused, none_read, page_room, reads_end, reads_on}
use Rattle.segments.proofs.Joining.{owned_joins, reads_start}
use Rattle.segments.proofs.owned.OwnedJournal.digest_pages.Goals as goal

pub returns-in_err-resize-clause-goes : goal.returns-in_err-resize-clause-goes
returns-in_err-resize-clause-goes g c =
    ahead_refused c.args.self.now c.args.self.now _ c.from_residual.result c.from_residual.ensures.1 (memory_refused c.args.self.now c.args.self.now (none_read c.args.self.now c.requires.there))

pub returns-in_err-resize-clause-leaves : goal.returns-in_err-resize-clause-leaves
returns-in_err-resize-clause-leaves g c = reads_start g.H.Sum.sum_of g.R.Sum.sum_of c.args.self.now c.requires.owned

pub loop-n-init : goal.loop-n-init
loop-n-init g c = record {
  ready = c.requires.owned;
  leaves = reads_start g.H.Sum.sum_of g.R.Sum.sum_of c.args.self.now c.requires.owned;
  none = none_read c.args.self.now c.requires.there;
  digested = c.requires.digested;
  pages = sym c.pages-n.ensures;
  further = omega arith;
  few = omega arith;
  asked = omega (arith, c.pages-n.ensures);
  buffer = grind (arith, common_steps, ap (λ (o : OwnedState). o.page_size) c.self.view_is);
}

pub digest_page-requires-clause-buffer : goal.digest_page-requires-clause-buffer
digest_page-requires-clause-buffer g c = c.loop-n.invariant.buffer ∙ sym c.loop-n.invariant.leaves.page_size

pub digest_page-requires-clause-whole : goal.digest_page-requires-clause-whole
digest_page-requires-clause-whole g c =
    page_room g.H.Sum.sum_of g.R.Sum.sum_of c.args.self.now c.loop-n.self c.loop-n.n c.args.end c.loop-n.invariant.leaves c.loop-n-test.true c.requires.whole

pub loop-n-preserved : goal.loop-n-preserved
loop-n-preserved g c =
    let sum = g.H.Sum.sum_of in
    let own = g.R.Sum.sum_of in
    let s = c.args.self.now in
    let a = c.loop-n.self in
    let b = c.digest_page.new.self in
    let before = c.loop-n.invariant in
    record {
      ready = c.digest_page.ensures.ready;
      leaves = owned_joins sum own s a b before.leaves c.digest_page.ensures.leaves;
      none = reads_on s a b c.in_ok-digest_page.field-0 before.leaves.journal before.none c.in_ok-digest_page.ensures.goes;
      digested = c.digest_page.ensures.digested;
      pages = c.in_ok-digest_page.ensures.more;
      further = omega (arith, before.further, before.pages, c.in_ok-digest_page.ensures.more);
      few = omega (arith, c.in_ok-digest_page.ensures.more, c.loop-n-test.true);
      asked = omega (arith, before.asked, c.digest_page.ensures.costs, c.loop-n-test.true);
      buffer = c.digest_page.ensures.buffer ∙ before.buffer;
    }

pub returns-in_err-digest_page-clause-goes : goal.returns-in_err-digest_page-clause-goes
returns-in_err-digest_page-clause-goes g c =
    let before = c.loop-n.invariant in
    ahead_refused c.args.self.now c.digest_page.new.self _ c.from_residual-in_err-digest_page.result c.from_residual-in_err-digest_page.ensures.1
    (reads_end g.H.Sum.sum_of g.R.Sum.sum_of c.args.self.now c.loop-n.self c.digest_page.new.self _ before.leaves before.none c.in_err-digest_page.ensures.goes)

pub returns-in_err-digest_page-clause-leaves : goal.returns-in_err-digest_page-clause-leaves
returns-in_err-digest_page-clause-leaves g c =
    owned_joins g.H.Sum.sum_of g.R.Sum.sum_of c.args.self.now c.loop-n.self c.digest_page.new.self c.loop-n.invariant.leaves c.digest_page.ensures.leaves

pub returns-in_err-digest_page-clause-costs : goal.returns-in_err-digest_page-clause-costs
returns-in_err-digest_page-clause-costs g c = omega (arith, c.loop-n.invariant.asked, c.digest_page.ensures.costs, c.loop-n-test.true)

pub returns-clause-all : goal.returns-clause-all
returns-clause-all g c = omega (arith, c.loop-n.invariant.pages, c.loop-n-test.false)

pub returns-clause-goes : goal.returns-clause-goes
returns-clause-goes g c = c.loop-n.invariant.none

pub returns-clause-costs : goal.returns-clause-costs
returns-clause-costs g c = omega (arith, c.loop-n.invariant.asked)

pub returns-in_err-digest_page-clause-further : goal.returns-in_err-digest_page-clause-further
returns-in_err-digest_page-clause-further g c = subst (λ (x : DigestingState). c.args.digesting.now.digested.pages ≤ x.pages) (sym c.in_err-digest_page.ensures.kept) c.loop-n.invariant.further

pub returns-in_err-digest_page-clause-few : goal.returns-in_err-digest_page-clause-few
returns-in_err-digest_page-clause-few g c = subst (λ (x : DigestingState). x.pages ≤ max c.args.digesting.now.digested.pages c.args.end) (sym c.in_err-digest_page.ensures.kept) c.loop-n.invariant.few

pub returns-clause-further : goal.returns-clause-further
returns-clause-further g c = c.loop-n.invariant.further

pub returns-clause-few : goal.returns-clause-few
returns-clause-few g c = c.loop-n.invariant.few
