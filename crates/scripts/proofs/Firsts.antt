-- First lines as words.
use Rattle.std.proofs.Common.{◌≡◌, ◌≢◌, ℕ, List, [], ◌∷◌, ◌<◌, length, map, get_or, codes, Err, Bor, sym, ap, ◌∙◌}
use Rattle.std.proofs.lemmas.List.{get_or-map}
use Rattle.std.specs.Fmt.{decimal}
use Rattle.std.specs.Int.NonZero.{non_zero_usize_get}
use Rattle.std.specs.declared.num.NonZeroUsize.{NonZeroUsize}
use Rattle.scripts.specs.declared.word.ReadError.{ReadError}
use Rattle.scripts.specs.declared.word.ReadError.TheVariants.{Unreadable, OutOfMemory}
use Rattle.scripts.specs.declared.start.First.{First}
use Rattle.scripts.specs.declared.start.First.TheVariants.{Session, Items}
use Rattle.scripts.specs.Script.{IsFirst, IsItemSize, IsReadAs, first_words}

-- no first line has this last word
no_size : (words : List (Bor (List ℕ))) (d : Bor (List ℕ)) → 4 < length words → ((v : NonZeroUsize) → IsItemSize (non_zero_usize_get v) → (get_or words 4 d).now ≢ decimal (non_zero_usize_get v))
    → (v : First) → IsFirst v → codes "start-items" ∷ map (λ (w : Bor (List ℕ)). w.now) words ≢ first_words v
no_size words d below unread (Session start) is same = cc
no_size words d below unread (Items start) is same =
    let item : get_or (map (λ (w : Bor (List ℕ)). w.now) words) 4 [] ≡ (get_or words 4 d).now = get_or-map (λ (w : Bor (List ℕ)). w.now) words 4 d [] below in
    unread start.size is.1 (sym item ∙ ap (λ (l : List (List ℕ)). get_or l 5 []) same)

-- a first line whose last word is no item size isn't read
pub size_unread : (words : List (Bor (List ℕ))) (d : Bor (List ℕ)) (e : ReadError) → 4 < length words
    → IsReadAs (λ (size : NonZeroUsize). decimal (non_zero_usize_get size)) (λ size. IsItemSize (non_zero_usize_get size)) (get_or words 4 d).now (Err e)
    → IsReadAs first_words IsFirst (codes "start-items" ∷ map (λ (w : Bor (List ℕ)). w.now) words) (Err e)
size_unread words d Unreadable below unread = λ v is same. no_size words d below unread v is same
size_unread words d OutOfMemory below unread = tt
