-- The moments by which a life went on are known from where it began and ended.
use Rattle.std.proofs.Common.{◌≡◌, List, [], ◌∷◌, ◌++◌, refl, sym, ap, ◌∙◌}
use Rattle.std.proofs.lemmas.List.{append_cancel_right, reverse-reverse}
use mathlib.Core.List.{reverse, reverse_aux, reverse_aux-eq}
use Rattle.disk.specs.Disk.{Disk, Life, life_after, next}

abbrev history : Life → List Disk
history life = life.present ∷ life.past

history_after : (life : Life) (ds : List Disk) → history (life_after life ds) ≡ reverse_aux ds (history life)
history_after life [] = refl
history_after life (d ∷ ds) = history_after (next life d) ds

pub same_moments : (life : Life) (ds es : List Disk) → life_after life ds ≡ life_after life es → ds ≡ es
same_moments life ds es same =
    let h = history life in
    let back : (l : List Disk) → history (life_after life l) ≡ reverse l ++ h = λ l. history_after life l ∙ reverse_aux-eq l h in
    let turned : reverse ds ≡ reverse es = append_cancel_right (reverse ds) (reverse es) h (sym (back ds) ∙ ap history same ∙ back es) in
    sym (reverse-reverse ds) ∙ ap reverse turned ∙ reverse-reverse es
