use Rattle.std.proofs.Common.{◌≤◌, ℕ, List, ◌++◌, ap, ◌∙◌, subst, rules, arith, take, length}
use Rattle.std.proofs.lemmas.Grind.{common_steps}
use Rattle.std.proofs.lemmas.List.{length-take-le}
use Rattle.std.specs.Io.BufRead.{FillKeeps}
use Rattle.std.proofs.BufReadLemmas.{Consumes_shown}
use Rattle.protocol.proofs.input.read_more.Goals as goal

pub returns-clause-gains : goal.returns-clause-gains
returns-clause-gains g c =
    let count = c.min-count in
    let come = c.in-Ok.come.now in
    let rested = c.fill_buf.follows.lender-at-none in
    let filled = subst (FillKeeps _ (g.R.Read.remaining rested) (g.R.BufRead.consumable_len rested)) c.in-Ok.is c.fill_buf.follows.holds-at-none in
    let fits : count.result ≤ length come = omega (arith, count.ensures) in
    record {
      added = take count.result come;
      adds = c.in_ok-extend_from_slice.ensures.items ∙ ap (λ (bytes : List ℕ). bytes ++ take count.result come) c.in_ok-make_room.ensures.items;
      within = omega (arith, count.ensures, length-take-le count.result come fits);
      takes = (Consumes_shown _ _ _ _ come count.result fits c.in-Ok.ensures.front c.in-Ok.ensures.end filled.0 filled.1 c.consume.ensures.bytes).0;
      ends = search rules;
    }

pub returns-clause-bytes : goal.returns-clause-bytes
returns-clause-bytes g c = grind (arith, common_steps)

pub returns-in-Err-clause-bytes : goal.returns-in-Err-clause-bytes
returns-in-Err-clause-bytes g c = grind (arith, common_steps)
