use Rattle.std.proofs.Common.{Some, Bor, sym, ap, ◌∙◌}
use Rattle.std.specs.Prelude.{Option, option_map}
use Rattle.std.specs.Option.{option_copied}
use Rattle.std.specs.FinMap as map
use Rattle.store.proofs.Maps.{Key, get-pairs, value}
use Rattle.store.proofs.map.Map.get.Goals as goal

pub returns-in-Some : goal.returns-in-Some
returns-in-Some c =
    ap Some c.as_slice.ensures.value
    ∙ ap (λ (o : Option (Bor Key)). option_map value (option_copied o)) (sym c.in-Some.is)
    ∙ ap (option_map value) c.get.ensures.value
    ∙ sym (get-pairs c.self.inside.entries.entries c.args.key.now)
    ∙ ap (λ m. map.get m c.args.key.now) c.self.view_is

pub returns-in-None : goal.returns-in-None
returns-in-None c =
    ap (λ (o : Option (Bor Key)). option_map value (option_copied o)) (sym c.in-None.is)
    ∙ ap (option_map value) c.get.ensures.value
    ∙ sym (get-pairs c.self.inside.entries.entries c.args.key.now)
    ∙ ap (λ m. map.get m c.args.key.now) c.self.view_is
