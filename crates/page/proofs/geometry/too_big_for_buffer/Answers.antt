use Rattle.std.proofs.Common.{◌≡◌, ◌∙◌, sym, nat_le, rules}
use Rattle.page.specs.Geometry.{is_too_big}
use Rattle.page.proofs.WholePages.{not_too_big-room}
use Rattle.page.proofs.geometry.too_big_for_buffer.Goals as goal

pub returns-then-total-capacity-clause-room : goal.returns-then-total-capacity-clause-room
returns-then-total-capacity-clause-room c small whole fits =
    let same : nat_le c.in_ok-too_many.too_many c.args.n ≡ is_too_big c.args.len c.args.capacity c.args.n c.args.page_size = search rules in
    not_too_big-room c.args.len c.args.capacity c.args.n c.args.page_size c.requires (sym same ∙ small) whole fits
