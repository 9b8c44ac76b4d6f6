use Rattle.std.proofs.Common.{◌≡◌, ◌+◌, ◌*◌, ℕ, take, drop, ap, ◌∙◌, arith}
use Rattle.std.specs.Prelude.{slice_range}
use Rattle.paged.proofs.Shortening.{value_short, value_found, value_fits}
use Rattle.paged.proofs.truncate.Recovery+B+H.read_value.Given.{Over}
use Rattle.paged.proofs.truncate.Recovery+B+H.read_value.Goals as goal
use Rattle.paged.proofs.truncate.Recovery+B+H.read_value.Goals.{In_ok-bytes}

-- what was read
page_read : (g : Over) (c : In_ok-bytes g) → c.in_ok-bytes.bytes ≡ take (c.args.self.now.page_size + 12) (drop (c.args.page * (c.args.self.now.page_size + 12)) (g.B.Blob.life c.args.blob.now).present.readable)
page_read g c =
    let readable = (g.B.Blob.life c.args.blob.now).present.readable in
    c.in_ok-bytes.ensures.goes.1 ∙ ap (λ (n : ℕ). take n (drop (c.args.page * n) readable)) c.physical_page_size-size.ensures

pub returns-in_default-clause-reads : goal.returns-in_default-clause-reads
returns-in_default-clause-reads g c =
    let readable = (g.B.Blob.life c.args.blob.now).present.readable in
    value_short g.H.Sum.sum_of c.args.self.now.page_size c.args.page c.args.len readable c.in_ok-bytes.bytes c.as_ref.result.now c.requires.there (page_read g (goal.at.returns-in_default-clause-reads g c).In_ok-bytes) c.as_ref.ensures
    c.in_default.ensures.slot

pub slice-requires-clause-bound : goal.slice-requires-clause-bound
slice-requires-clause-bound g c =
    let readable = (g.B.Blob.life c.args.blob.now).present.readable in
    let found = c.in-Some.ensures.slot in
    omega (
      arith,
      c.from.ensures,
      value_fits g.H.Sum.sum_of c.args.self.now.page_size c.args.page c.args.len readable c.in_ok-bytes.bytes c.as_ref.result.now c.requires.there (page_read g (goal.at.slice-requires-clause-bound g c).In_ok-bytes) c.as_ref.ensures
          c.in-Some.value found.0 found.1,
    )

pub returns-clause-reads : goal.returns-clause-reads
returns-clause-reads g c =
    let readable = (g.B.Blob.life c.args.blob.now).present.readable in
    let found = c.in-Some.ensures.slot in
    value_found g.H.Sum.sum_of c.args.self.now.page_size c.args.page c.args.len readable c.in_ok-bytes.bytes c.as_ref.result.now c.requires.there (page_read g (goal.at.returns-clause-reads g c).In_ok-bytes) c.as_ref.ensures
    c.in-Some.value c.in_ok-kept.kept found.0 found.1 c.value_of.ensures.bytes (c.in_ok-kept.ensures.ok ∙ ap (λ (n : ℕ). slice_range c.in_ok-bytes.bytes 0 n) c.from.ensures)
