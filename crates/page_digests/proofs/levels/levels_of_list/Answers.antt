use Rattle.std.proofs.Common.{◌≡◌, ◌<◌, ◌∙◌, ℕ, List, ap, arith, refl, subst}
use Rattle.std.specs.Int.NonZero.{non_zero_u16_get}
use Rattle.page_digests.specs.Pages.{top_of}
use Rattle.page_digests.specs.Seals.{EachIsByte}
use Rattle.page_digests.proofs.Twins.{told_apart}
use Rattle.page_digests.proofs.levels.levels_of_list.Goals as goal

pub returns-clause-each : goal.returns-clause-each
returns-clause-each g c = λ content small is.
    let positive : 0 < non_zero_u16_get c.args.page_size = omega (arith, c.get.ensures.nonzero, c.get.ensures.value) in
    let P = non_zero_u16_get c.args.page_size in
    let d : List ℕ → List ℕ = g.D.Digest.digest_of in
    let top : c.in_ok-top.top.items ≡ top_of d P content = c.in_ok-top.ensures ∙ rw (c.from.ensures, c.get.ensures.value, c.deref.ensures.value, is) refl in
    told_apart d g.met.D.Digest.sized P content _ small (subst EachIsByte (c.deref-3.ensures.value ∙ is) c.are_bytes.ensures) (subst EachIsByte (c.deref-4.ensures.value ∙ top) c.are_bytes-2.ensures) positive
    (c.digest-root.ensures ∙ ap d (c.deref-2.ensures.value ∙ top))

pub returns-clause-over : goal.returns-clause-over
returns-clause-over g c = record {
  bytes = (subst EachIsByte c.deref-3.ensures.value c.are_bytes.ensures, subst EachIsByte c.deref-4.ensures.value c.are_bytes-2.ensures);
  list = refl;
  top = c.in_ok-top.ensures ∙ rw (c.from.ensures, c.get.ensures.value, c.deref.ensures.value) refl;
  root = c.digest-root.ensures ∙ ap g.D.Digest.digest_of c.deref-2.ensures.value;
}
