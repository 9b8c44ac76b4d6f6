use Rattle.std.proofs.Common.{subst}
use Rattle.page_digests.specs.Contents.{PagedState}
use Rattle.page_digests.specs.Rebuilds.{RebuildGoes}
use Rattle.page_digests.proofs.paged_content.PagedContent.rebuild.Goals as goal

pub returns-clause-goes : goal.returns-clause-goes
returns-clause-goes g c =
    subst (λ (s : PagedState). RebuildGoes g.D.Digest.digest_of s.page_size s.seal s.reads (g.F.Source.reads c.rebuild_by.new.file) c.rebuild_by.result) c.self.view_is c.rebuild_by.ensures.goes
