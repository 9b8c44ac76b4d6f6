use Rattle.std.proofs.Common.{◌≡◌, ◌∙◌, ap, refl}
use Rattle.std.specs.Int.NonZero.{non_zero_u16_get}
use Rattle.page_digests.specs.Lists.{ListState}
use Rattle.page_digests.specs.Pages.{list_len, top_len}
use Rattle.page_digests.proofs.ContentReads.{top_read}
use Rattle.page_digests.proofs.paged_content.PagedContent.open.Goals as goal

pub returns-in-Ok-true-clause-content : goal.returns-in-Ok-true-clause-content
returns-in-Ok-true-clause-content g c =
    let P = c.from-page_size.result in
    let size : P ≡ non_zero_u16_get c.args.page_size = c.from-page_size.ensures ∙ c.get.ensures.value in
    let whole : c.list_len-whole.result ≡ list_len (non_zero_u16_get c.args.page_size) c.args.seal.len = c.list_len-whole.ensures.len ∙ ap (λ k. list_len k c.args.seal.len) size in
    let len : c.list_len-len.result ≡ top_len (non_zero_u16_get c.args.page_size) c.args.seal.len =
    c.list_len-len.ensures.len ∙ ap (list_len P) whole ∙ ap (λ k. list_len k (list_len (non_zero_u16_get c.args.page_size) c.args.seal.len)) size in
    record {
      seal = refl;
      page_size = size;
      cached = refl;
      cached_list = ap (λ (s : ListState). s.cached) c.new.ensures;
      reads = refl;
      top = rw c.new.ensures (top_read g.D.Digest.digest_of g.met.D.Digest.sized _ c.args.seal c.list_len-whole.result c.list_len-len.result c.read_compared.new.bytes.items _ _
          whole len c.in-Ok-true.ensures.0 c.in-Ok-true.ensures.1 c.in-Ok-true.ensures.2 (c.in-Ok-true.ensures.3.0 c.in-Ok-true.field-0-test));
    }
