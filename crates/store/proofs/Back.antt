-- What comes back of a map at each key.
use Rattle.std.proofs.Common.{◌≡◌, ◌⊎◌, inl, inr, suc, List, [], ◌∷◌, ◌++◌, length, take, drop, refl, sym, ap, subst, ◌∙◌, arith, true, false, Bool, append_assoc, length-append}
use Rattle.std.specs.Prelude.{Option, Some, None, cond}
use Rattle.std.specs.Cmp.Lexicographic.{nat_list_cmp_total}
use Rattle.std.specs.FinMap.{empty, get, get-insert, get-remove}
use Rattle.std.specs.Ordering.{is_eq}
use Rattle.std.proofs.lemmas.List.{take_at, drop_at}
use Rattle.std.proofs.lemmas.Map.Lookups.{exact_bytes}
use Rattle.journal.specs.Frame.{IsPrefix}
use Rattle.store.specs.Changes.{Bytes, ByteMap, MapComesBack, SomeGives, after_changes, given, key_of, updated}
use Rattle.store.proofs.Maps.{is_equal, order}

-- what a map has at each key after a change
get-updated : (m : ByteMap) (key : Bytes) (v : Option Bytes) (q : Bytes) → get (updated m key v) q ≡ cond (is_eq (order q key)) v (get m q)
get-updated m key (Some v) q = get-insert nat_list_cmp_total m key v q
get-updated m key None q = get-remove nat_list_cmp_total m key q

-- after some changes a key has what it had before, or what one of them gave it
kept_or_given : (m : ByteMap) (changes more : List Bytes) (q : Bytes)
    → (get (after_changes m changes) q ≡ get m q) ⊎ SomeGives q (changes ++ more) (get (after_changes m changes) q)
kept_or_given m [] more q = inl refl
kept_or_given m (c ∷ cs) more q = either (kept_or_given (updated m (key_of c) (given c)) cs more q)
  where
    end : Option Bytes
    end = get (after_changes (updated m (key_of c) (given c)) cs) q

    by_key : (b : Bool) → is_eq (order q (key_of c)) ≡ b → end ≡ get (updated m (key_of c) (given c)) q
        → (end ≡ get m q) ⊎ SomeGives q (c ∷ (cs ++ more)) end
    by_key true is same = inr (record {
      at = 0;
      within = omega arith;
      of_key = sym (exact_bytes q (key_of c) (is_equal (order q (key_of c)) is));
      gives = same ∙ get-updated m (key_of c) (given c) q ∙ ap (λ (b : Bool). cond b (given c) (get m q)) is;
    })
    by_key false is same = inl (same ∙ get-updated m (key_of c) (given c) q ∙ ap (λ (b : Bool). cond b (given c) (get m q)) is)

    either : (end ≡ get (updated m (key_of c) (given c)) q) ⊎ SomeGives q (cs ++ more) end
        → (end ≡ get m q) ⊎ SomeGives q (c ∷ (cs ++ more)) end
    either (inl same) = by_key (is_eq (order q (key_of c))) refl same
    either (inr later) = inr (record { at = suc later.at; within = omega (arith, later.within); of_key = later.of_key; gives = later.gives })

after_changes-append : (m : ByteMap) (first rest : List Bytes) → after_changes m (first ++ rest) ≡ after_changes (after_changes m first) rest
after_changes-append m [] rest = refl
after_changes-append m (c ∷ cs) rest = after_changes-append (updated m (key_of c) (given c)) cs rest

-- a map comes back of the changes of which so many came back
pub comes_back : (committed back all : List Bytes) (map : ByteMap) → IsPrefix committed back → IsPrefix back all → map ≡ after_changes empty back
    → MapComesBack committed all (get map)
comes_back committed back all map (rest, is) (more, was) held = record {
  begins = (rest ++ more, whole);
  count = length back;
  kept = omega (arith, ap length is, length-append committed rest);
  within = omega (arith, ap length was, length-append back more);
  made = λ q. ap (λ (m : ByteMap). get m q) held
      ∙ ap (λ (l : List Bytes). get (after_changes empty l) q) (sym (ap (take (length back)) was ∙ take_at back more (length back) refl));
  values = λ q. subst (λ (v : Option Bytes). (v ≡ get (after_changes empty committed) q) ⊎ SomeGives q (drop (length committed) all) v)
      (sym (ap (λ (m : ByteMap). get m q) (held ∙ ap (after_changes empty) is ∙ after_changes-append empty committed rest)))
      (subst (λ (l : List Bytes). (get (after_changes (after_changes empty committed) rest) q ≡ get (after_changes empty committed) q)
      ⊎ SomeGives q l (get (after_changes (after_changes empty committed) rest) q))
      (sym (ap (drop (length committed)) whole ∙ drop_at committed (rest ++ more) (length committed) refl))
      (kept_or_given (after_changes empty committed) rest more q));
}
  where
    whole : all ≡ committed ++ (rest ++ more)
    whole = was ∙ ap (λ (l : List Bytes). l ++ more) is ∙ append_assoc committed rest more
