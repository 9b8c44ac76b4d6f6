use Rattle.std.proofs.Common.{◌<◌, ◌++◌, length, sym, ap, ◌∙◌, subst}
use Rattle.std.specs.List.{concat}
use Rattle.page.specs.Tip.{Tip}
use Rattle.page.proofs.Chunks.{no_chunk}
use Rattle.page.proofs.buffer.Buffer.partial.Goals as goal

pub returns : goal.returns
returns c =
    let tail = c.self.inside.tail.bytes.items in
    let short : length (concat c.self.inside.chunks ++ tail) < c.self.inside.page_size = subst (λ (t : Tip). length t.bytes < t.page_size) (sym c.self.view_is) c.requires in
    let none = no_chunk c.self.inside.page_size c.self.inside.chunks tail c.self.invariant.whole_chunks short in
    c.deref.ensures.value ∙ ap (λ l. l ++ tail) (sym none) ∙ ap (λ (t : Tip). t.bytes) c.self.view_is
