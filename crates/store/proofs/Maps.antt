-- A map in memory as a finite map.
use Rattle.std.proofs.Common.{◌≡◌, ℕ, List, [], ◌∷◌, refl, sym, ap, subst, ◌∙◌, true, false, Bool, true≢false}
use Rattle.std.specs.Prelude.{Option, Some, None, Vec, cond, option_map}
use Rattle.std.specs.declared.alloc.Global.{Global}
use Rattle.std.specs.declared.cmp.Ordering.{Ordering}
use Rattle.std.specs.declared.cmp.Ordering.TheVariants.{Less, Equal, Greater}
use Rattle.std.specs.BTreeMap as tree
use Rattle.std.specs.BTreeMap.{BTreeMap}
use Rattle.std.specs.Cmp.{eq_by_cmp_equiv}
use Rattle.std.specs.Cmp.Lexicographic.{slice_cmp, nat_list_cmp_total}
use Rattle.std.specs.FinMap.{find, from_entries, get, get-from_entries, get-insert, get-remove, insert, remove, same_map}
use Rattle.std.specs.Map.{lookup, IsKeyTest, AreApart, KeepsOthers}
use Rattle.std.specs.Ordering.{is_eq, nat_cmp}
use Rattle.std.proofs.lemmas.Map.Lookups.{exact_bytes}
use Rattle.store.specs.Pairs.{pairs_of}

abbrev pub Key : Type 0
Key = Vec ℕ Global

abbrev pub order : List ℕ → List ℕ → Ordering
order = slice_cmp nat_cmp

abbrev pub at : List ℕ → Key → Bool
at q k = is_eq (order q k.items)

abbrev pub value : Key → List ℕ
value v = v.items

-- what the pairs have at a key is what the entries have there
find-pairs : (q : List ℕ) (es : List (Key × Key)) → find order q (pairs_of es) ≡ option_map value (lookup (at q) es)
find-pairs q [] = refl
find-pairs q (e ∷ es) = one (at q e.0) (find-pairs q es)
  where
    one : (b : Bool) → find order q (pairs_of es) ≡ option_map value (lookup (at q) es) → cond b (Some e.1.items) (find order q (pairs_of es)) ≡ option_map value (cond b (Some e.1) (lookup (at q) es))
    one true rest = refl
    one false rest = rest

pub get-pairs : (es : List (Key × Key)) (q : List ℕ) → get (from_entries {R = order} (pairs_of es)) q ≡ option_map value (lookup (at q) es)
get-pairs es q = get-from_entries nat_list_cmp_total (pairs_of es) q ∙ find-pairs q es

pub is_equal : (r : Ordering) → is_eq r ≡ true → r ≡ Equal
is_equal Less e = absurd (true≢false (sym e))
is_equal Equal e = refl
is_equal Greater e = absurd (true≢false (sym e))

kept : {X : Type 0} (eq : Key → Key → Bool) (test : Key → Bool) (old new : List (Key × X)) → KeepsOthers eq test old new → (other : Key → Bool) → IsKeyTest eq other → AreApart test other → lookup other new ≡ lookup other old
unfolding KeepsOthers
kept eq test old new h = h

-- a key at which two others would stand is no third one
apart : (key q other : List ℕ) → is_eq (order key q) ≡ false → is_eq (order key other) ≡ true → is_eq (order q other) ≡ false
apart key q other n y =
    (eq_by_cmp_equiv nat_list_cmp_total).symm q other ∙ sym ((eq_by_cmp_equiv nat_list_cmp_total).congr key other q y) ∙ n

-- after a change at a key each other one has what it had
changed : (m n : BTreeMap Key Key) (key : List ℕ) (w : Option Key) → tree.UpdatesBy (λ x y. order x.items y.items) (λ k. order key k.items) m n w
    → (q : List ℕ) → lookup (at q) n.entries ≡ cond (is_eq (order key q)) w (lookup (at q) m.entries)
changed m n key w h q = cases (is_eq (order key q)) refl
  where
    cases : (b : Bool) → is_eq (order key q) ≡ b → lookup (at q) n.entries ≡ cond b w (lookup (at q) m.entries)
    cases true e = subst (λ l. lookup (at l) n.entries ≡ w) (exact_bytes key q (is_equal (order key q) e)) h.1
    cases false e =
        kept _ _ m.entries n.entries h.3 (at q) (λ x y. (eq_by_cmp_equiv nat_list_cmp_total).congr q x.items y.items) (λ k. apart key q k.items e)

-- an insert puts the value at the key
pub inserted : (m n : BTreeMap Key Key) (key v : Key) → tree.UpdatesBy (λ x y. order x.items y.items) (λ k. order key.items k.items) m n (Some v)
    → from_entries {R = order} (pairs_of n.entries) ≡ insert (from_entries (pairs_of m.entries)) key.items v.items
inserted m n key v h = same_map nat_list_cmp_total exact_bytes _ _ (λ q.
    get-pairs n.entries q
    ∙ ap (option_map value) (changed m n key.items (Some v) h q)
    ∙ over (is_eq (order key.items q)) (lookup (at q) m.entries)
    ∙ ap (λ b. cond b (Some v.items) (option_map value (lookup (at q) m.entries))) ((eq_by_cmp_equiv nat_list_cmp_total).symm key.items q)
    ∙ sym (get-insert nat_list_cmp_total (from_entries (pairs_of m.entries)) key.items v.items q
    ∙ ap (cond (is_eq (order q key.items)) (Some v.items)) (get-pairs m.entries q)))
  where
    over : (b : Bool) (found : Option Key) → option_map value (cond b (Some v) found) ≡ cond b (Some v.items) (option_map value found)
    over true found = refl
    over false found = refl

-- a remove takes the value at the key away
pub removed : (m n : BTreeMap Key Key) (key : List ℕ) → tree.UpdatesBy (λ x y. order x.items y.items) (λ k. order key k.items) m n None
    → from_entries {R = order} (pairs_of n.entries) ≡ remove (from_entries (pairs_of m.entries)) key
removed m n key h = same_map nat_list_cmp_total exact_bytes _ _ (λ q.
    get-pairs n.entries q
    ∙ ap (option_map value) (changed m n key None h q)
    ∙ over (is_eq (order key q)) (lookup (at q) m.entries)
    ∙ ap (λ (b : Bool). cond b None (option_map value (lookup (at q) m.entries))) ((eq_by_cmp_equiv nat_list_cmp_total).symm key q)
    ∙ sym (get-remove nat_list_cmp_total (from_entries (pairs_of m.entries)) key q
    ∙ ap (cond (is_eq (order q key)) None) (get-pairs m.entries q)))
  where
    over : (b : Bool) (found : Option Key) → option_map value (cond b None found) ≡ cond b None (option_map value found)
    over true found = refl
    over false found = refl
