use Rattle.std.proofs.Common.{◌≡◌, ◌+◌, ◌*◌, ◌/◌, ◌<◌, ◌≤◌, ◌^◌, length, ap, ◌∙◌, arith}
use Rattle.std.proofs.lemmas.Bool.Decides.{nat_tests}
use Rattle.paged.proofs.Sizes.{fits_by_size, small_fits, size_fits}
use Rattle.paged.proofs.writer.Writer.fits.Goals as goal

pub returns-in_default : goal.returns-in_default
returns-in_default g c =
    let w = c.args.self.now in
    let some : 0 < w.page_size = omega (arith, c.get.ensures.value, c.get.ensures.nonzero, ap (λ s. s.page_size) c.self.view_is) in (
      λ yes. absurd (cc),
      λ fits. absurd (c.in_default.ensures (omega (arith, c.size.ensures, size_fits w.page_size w.full_pages (length w.tip + c.args.more) some fits))),
    )

pub returns-then-size : goal.returns-then-size
returns-then-size g c =
    let w = c.args.self.now in
    let some : 0 < w.page_size = omega (arith, c.get.ensures.value, c.get.ensures.nonzero, ap (λ s. s.page_size) c.self.view_is) in
    let small : w.page_size < 2 ^ 16 = omega (arith, c.get.ensures.value, c.get.type_inv, ap (λ s. s.page_size) c.self.view_is) in
    let less : w.full_pages * w.page_size + (length w.tip + c.args.more) < 2 ^ 60 = omega (arith, c.in-Some.ensures.1, c.size.ensures, c.if-size.true) in (
      λ yes. small_fits w.page_size w.full_pages (length w.tip + c.args.more) some small less,
      λ fits. let test = c.if-size.true in grind (arith, nat_tests, test),
    )

pub returns-else-size : goal.returns-else-size
returns-else-size g c =
    let w = c.args.self.now in
    let page_size : c.from-page_size.result ≡ w.page_size = c.from-page_size.ensures ∙ c.get.ensures.value ∙ ap (λ s. s.page_size) c.self.view_is in
    let some : 0 < w.page_size = omega (arith, page_size, c.get.ensures.nonzero, c.from-page_size.ensures) in
    let size : c.in-Some.size ≡ w.full_pages * w.page_size + (length w.tip + c.args.more) = omega (arith, c.in-Some.ensures.1, c.size.ensures) in
    let greatest : c.greatest_size.result ≡ 18446744073709551615 / (w.page_size + 12) * w.page_size = c.greatest_size.ensures ∙ ap (λ n. 18446744073709551615 / (n + 12) * n) page_size in
    let fits = fits_by_size w.page_size w.full_pages (length w.tip + c.args.more) some in (
      λ yes. fits.1 (let le : c.in-Some.size ≤ c.greatest_size.result = grind (arith, nat_tests, yes) in omega (arith, le, size, greatest)),
      λ yes. let le : c.in-Some.size ≤ c.greatest_size.result = omega (arith, fits.0 yes, size, greatest) in grind (arith, nat_tests, le),
    )
