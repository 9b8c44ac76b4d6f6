use Rattle.std.proofs.Common.{◌∙◌, ap, sym}
use Rattle.std.specs.Prelude.{Some}
use Rattle.std.specs.Int.NonZero.{non_zero_u16_get}
use Rattle.cache.proofs.Table.{held_page, held_none, read_page}
use Rattle.cache.proofs.slots.Slots.get.Goals as goal

pub returns-in-Some-clause-page : goal.returns-in-Some-clause-page
returns-in-Some-clause-page c =
    ap Some (read_page (non_zero_u16_get c.args.self.now.page_size) c.from-size.result c.in-Some.slot
    c.args.self.now.bytes.items c.deref.result.now (c.from-size.ensures ∙ c.get.ensures.value)
    c.deref.ensures.value)
    ∙ sym (held_page c.args.self.now c.args.key c.in-Some.slot c.requires c.in-Some.ensures)

pub returns-in-None-clause-page : goal.returns-in-None-clause-page
returns-in-None-clause-page c =
    sym (held_none c.args.self.now c.args.key c.in-None.ensures)
