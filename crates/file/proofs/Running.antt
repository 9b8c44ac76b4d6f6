-- Runs that go out one after another.
use Rattle.std.proofs.Common.{◌≡◌, ◌+◌, ◌%◌, ◌^◌, ℕ, List, [], ◌∷◌, ◌++◌, Ok, Err, refl, sym, ap, ◌∙◌, subst, inl, inr, append-nil, append_assoc, length, length-append, add_assoc, add-zero, ◌<◌, take, drop, slice_index_or}
use Rattle.std.specs.Prelude.{Result, false, true}
use Rattle.std.specs.List.{concat, FoldsTo}
use Rattle.std.proofs.lemmas.List.Folds.{concat-append}
use Rattle.std.proofs.lemmas.List.{take-append-drop}
use Rattle.std.proofs.Math.Nat.{mod-add-mod, mod-mod, mod-eq_of_lt}
use Rattle.disk.specs.declared.action.Action.{Action}
use Rattle.disk.specs.declared.action.Action.TheVariants as actions
use Rattle.disk.specs.declared.action.Event.{Event}
use Rattle.disk.proofs.Bufs.{concat_more}
use Rattle.file.specs.Asked.{event, all_done, FailsIn}
use Rattle.file.specs.Runs.{writes_of, WritesAll, HasPut, WritesUpTo}

-- runs after others begin where those end
writes-append : (at : ℕ) (runs more : List (List ℕ)) → writes_of at (runs ++ more) ≡ writes_of at runs ++ writes_of (at + length (concat runs)) more
writes-append at [] more = ap (λ n. writes_of n more) (sym (add-zero at))
writes-append at (run ∷ runs) more =
    ap (λ l. actions.Write (at % 2 ^ 64) run false ∷ l) (writes-append (at + length run) runs more
    ∙ ap (λ n. writes_of (at + length run) runs ++ writes_of n more) (add_assoc at (length run) (length (concat runs))
    ∙ ap (λ n. at + n) (sym (length-append run (concat runs)))))

-- offsets count modulo 2 to the power of 64
writes-mod : (at : ℕ) (runs : List (List ℕ)) → writes_of (at % 2 ^ 64) runs ≡ writes_of at runs
writes-mod at [] = refl
writes-mod at (run ∷ runs) =
    ap (λ n. actions.Write n run false ∷ writes_of (at % 2 ^ 64 + length run) runs) (mod-mod at (2 ^ 64))
    ∙ ap (λ l. actions.Write (at % 2 ^ 64) run false ∷ l) (sym (writes-mod (at % 2 ^ 64 + length run) runs)
    ∙ ap (λ n. writes_of n runs) (mod-add-mod at (2 ^ 64) (length run))
    ∙ writes-mod (at + length run) runs)

done-append : (actions more : List Action) → all_done (actions ++ more) ≡ all_done actions ++ all_done more
done-append [] more = refl
done-append (a ∷ actions) more = ap (λ l. event a false ∷ l) (done-append actions more)

fails_after : (actions more : List Action) (events : List Event) → FailsIn more events → FailsIn (actions ++ more) (all_done actions ++ events)
fails_after [] more events f = f
fails_after (a ∷ actions) more events f = inr (refl, fails_after actions more events f)

fails_before : (actions more : List Action) (events : List Event) → FailsIn actions events → FailsIn (actions ++ more) events
fails_before [] more events f = absurd f
fails_before (a ∷ actions) more [] f = absurd f
fails_before (a ∷ actions) more (e ∷ es) f = elim f [ inl x ↦ inl x | inr y ↦ inr (y.0, fails_before actions more es y.1) ]

folds-append : {S : Type 0} (goes : S → Event → S → Type 0) (old mid new : S) (events more : List Event) → FoldsTo goes old events mid → FoldsTo goes mid more new → FoldsTo goes old (events ++ more) new
folds-append goes old mid new [] more f h = subst (λ s. FoldsTo goes s more new) (sym f) h
folds-append goes old mid new (e ∷ events) more f h = (f.0, f.1, folds-append goes f.0 mid new events more f.2 h)

-- runs after others begin at `next`, if that is where the others end
writes_on : (at next : ℕ) (runs more : List (List ℕ)) → next ≡ (at + length (concat runs)) % 2 ^ 64 → writes_of at (runs ++ more) ≡ writes_of at runs ++ writes_of next more
writes_on at next runs more e =
    writes-append at runs more
    ∙ ap (λ l. writes_of at runs ++ l) (sym (writes-mod (at + length (concat runs)) more) ∙ ap (λ n. writes_of n more) (sym e))

next_on : (at next last : ℕ) (runs more : List (List ℕ)) → next ≡ (at + length (concat runs)) % 2 ^ 64 → last ≡ (next + length (concat more)) % 2 ^ 64 → last ≡ (at + length (concat (runs ++ more))) % 2 ^ 64
next_on at next last runs more e f =
    f ∙ ap (λ n. (n + length (concat more)) % 2 ^ 64) e ∙ mod-add-mod (at + length (concat runs)) (2 ^ 64) (length (concat more))
    ∙ ap (λ n. n % 2 ^ 64) (add_assoc at (length (concat runs)) (length (concat more))
    ∙ ap (λ n. at + n) (sym (ap length (concat-append runs more) ∙ length-append (concat runs) (concat more))))

joins_on : (runs more : List (List ℕ)) (bytes kept after left : List ℕ) → concat runs ++ kept ≡ bytes → concat more ++ left ≡ kept ++ after → concat (runs ++ more) ++ left ≡ bytes ++ after
joins_on runs more bytes kept after left e f =
    ap (λ l. l ++ left) (concat-append runs more) ∙ append_assoc (concat runs) (concat more) left ∙ ap (λ l. concat runs ++ l) f
    ∙ sym (append_assoc (concat runs) kept after) ∙ ap (λ l. l ++ after) e

-- bytes went out except for those kept back, and then these went out with more
pub puts_then : {S E : Type 0} (goes : S → Event → S → Type 0) (at next : ℕ) (bytes kept more left : List ℕ) (old mid new : S) (result : Result ℕ E)
    → HasPut goes at bytes kept next old mid → WritesUpTo goes next (kept ++ more) left mid new result → WritesUpTo goes at (bytes ++ more) left old new result
puts_then goes at next bytes kept more left old mid new (Ok last) a b = (
  a.0 ++ b.0,
  joins_on a.0 b.0 bytes kept more left a.1 b.1,
  subst (λ (l : List Action). FoldsTo goes old (all_done l) new) (sym (writes_on at next a.0 b.0 a.3))
      (subst (λ (l : List Event). FoldsTo goes old l new) (sym (done-append (writes_of at a.0) (writes_of next b.0)))
      (folds-append goes old mid new (all_done (writes_of at a.0)) (all_done (writes_of next b.0)) a.2 b.2)),
  next_on at next last a.0 b.0 a.3 b.3,
)
puts_then goes at next bytes kept more left old mid new (Err e) a b = (
  a.0 ++ b.0,
  sym (append-nil (concat (a.0 ++ b.0))) ∙ joins_on a.0 b.0 bytes kept more [] a.1 (append-nil (concat b.0) ∙ b.1),
  all_done (writes_of at a.0) ++ b.2,
  subst (λ (l : List Action). FailsIn l (all_done (writes_of at a.0) ++ b.2)) (sym (writes_on at next a.0 b.0 a.3)) (fails_after (writes_of at a.0) (writes_of next b.0) b.2 b.3),
  folds-append goes old mid new (all_done (writes_of at a.0)) b.2 a.2 b.4,
)

-- after a run that failed no other goes out, whatever was to follow
pub fails_then : {S E : Type 0} (goes : S → Event → S → Type 0) (at : ℕ) (bytes kept more left : List ℕ) (old new : S) (error other : E)
    → WritesUpTo goes at bytes kept old new (Err error) → WritesUpTo goes at (bytes ++ more) left old new (Err other)
fails_then goes at bytes kept more left old new error other a = (
  a.0 ++ more ∷ [],
  concat-append a.0 (more ∷ []) ∙ ap (λ l. concat a.0 ++ l) (append-nil more) ∙ ap (λ l. l ++ more) a.1,
  a.2,
  subst (λ (l : List Action). FailsIn l a.2) (sym (writes-append at a.0 (more ∷ []))) (fails_before (writes_of at a.0) (writes_of (at + length (concat a.0)) (more ∷ [])) a.2 a.3),
  a.4,
)

-- one run that was put
pub run_put : {S : Type 0} (goes : S → Event → S → Type 0) (at next : ℕ) (run : List ℕ) (old new : S) → at < 2 ^ 64 → next ≡ (at + length run) % 2 ^ 64 → goes old (event (actions.Write at run false) false) new → HasPut goes at run [] next old new
run_put goes at next run old new fits e h = (
  run ∷ [],
  append-nil (run ++ []) ∙ append-nil run,
  (new, subst (λ (n : ℕ). goes old (event (actions.Write n run false) false) new) (sym (mod-eq_of_lt fits)) h, refl),
  e ∙ ap (λ l. (at + length l) % 2 ^ 64) (sym (append-nil run)),
)

pub run_failed : {S E : Type 0} (goes : S → Event → S → Type 0) (at : ℕ) (run : List ℕ) (old new : S) (error : E) → at < 2 ^ 64 → goes old (event (actions.Write at run false) true) new → WritesUpTo goes at run [] old new (Err error)
run_failed goes at run old new error fits h = (
  run ∷ [],
  append-nil run,
  event (actions.Write at run false) true ∷ [],
  inl (ap (λ n. event (actions.Write n run false) true) (sym (mod-eq_of_lt fits)), refl),
  (new, h, refl),
)

-- bytes went out except for those kept back, and then these went out
pub puts_last : {S E : Type 0} (goes : S → Event → S → Type 0) (at next : ℕ) (bytes kept left : List ℕ) (old mid new : S) (result : Result ℕ E)
    → HasPut goes at bytes kept next old mid → WritesUpTo goes next kept left mid new result → WritesUpTo goes at bytes left old new result
puts_last goes at next bytes kept left old mid new result a b =
    subst (λ (l : List ℕ). WritesUpTo goes at l left old new result) (append-nil bytes)
    (puts_then goes at next bytes kept [] left old mid new result a (subst (λ (l : List ℕ). WritesUpTo goes next l left mid new result) (sym (append-nil kept)) b))

-- where nothing is kept back, all bytes went out
pub all_put : {S : Type 0} (goes : S → Event → S → Type 0) (at next : ℕ) (bytes : List ℕ) (old new : S) → HasPut goes at bytes [] next old new → WritesAll {T = ℕ} {E = ℕ} goes at bytes old new (Ok next)
all_put goes at next bytes old new a = (a.0, sym (append-nil (concat a.0)) ∙ a.1, all_done (writes_of at a.0), refl, a.2)

pub all_failed : {S E : Type 0} (goes : S → Event → S → Type 0) (at : ℕ) (bytes left : List ℕ) (old new : S) (error other : E) → WritesUpTo goes at bytes left old new (Err error) → WritesAll {T = ℕ} goes at bytes old new (Err other)
all_failed goes at bytes left old new error other a = (a.0, a.1, a.2, (a.2, refl, a.3), a.4)

-- the bytes of the buffers up to one, of that one, and of those after it
pub concat_around : (bufs : List (List ℕ)) (i : ℕ) (d : List ℕ) → i < length bufs → (concat (take i bufs) ++ slice_index_or bufs i d) ++ concat (drop (i + 1) bufs) ≡ concat bufs
concat_around bufs i d below =
    ap (λ l. l ++ concat (drop (i + 1) bufs)) (sym (concat_more bufs i d below))
    ∙ sym (concat-append (take (i + 1) bufs) (drop (i + 1) bufs)) ∙ ap concat (take-append-drop (i + 1) bufs)
