use Rattle.std.proofs.Common.{◌≡◌, ◌+◌, ◌-◌, ◌*◌, ◌<◌, List, length, take, drop, ℕ, arith, subst, sym}
use Rattle.page_digests.specs.Contents.{HoldsFrom}
use Rattle.page_digests.proofs.ContentReads.{held_from}
use Rattle.page_digests.proofs.paged_content.PagedContent.held.Goals as goal

pub returns-in-Some-checked_sub : goal.returns-in-Some-checked_sub
returns-in-Some-checked_sub g c =
    let page = c.self.inside.page.items in
    let i = c.in-Some.number in
    let skip = c.in-Some-checked_sub.skip in
    let place : i * c.self.inside.page_size + skip ≡ c.args.offset = omega (arith, c.in-Some-checked_sub.ensures) in
    let within : skip < length page = omega (arith, c.if-skip-len.true, c.deref.ensures.len) in
    subst (λ (l : List ℕ). HoldsFrom g.D.Digest.digest_of c.args.offset c.args.self.now (take (length l - skip) (drop skip l))) (sym c.deref.ensures.value)
    (held_from g.D.Digest.digest_of c.self.inside.list c.self.inside.seal c.self.inside.page_size c.self.inside.cached page _ c.args.self.now c.args.offset i skip c.self.view_is c.self.invariant c.in-Some.is place within)
