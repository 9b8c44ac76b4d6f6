-- Many records at once: what each of these definitions holds of, and what it refuses, in the log of
-- `LogExamples` whose one segment is open and has "c".
use Rattle.std.specs.Prelude.{◌≡◌, ◌<◌, ℕ, List, [], ◌∷◌, Bool, true, false, if◌then◌else◌, nat_lt, Option, Some, None, Ok, Err, Vec}
use Rattle.std.specs.declared.alloc.Global.{Global}
use Rattle.std.proofs.Common.{ap, sym, ◌∙◌, refl, subst, inl, inr, arith, lit<, lit≤}
use Rattle.disk.specs.declared.error.Error.TheVariants as layer
use Rattle.page.specs.Sums.{add_sum}
use Rattle.journal.specs.Frame.{frames, is_record, record_len, record_of, records}
use Rattle.segments.specs.declared.closed.Closed.{Closed}
use Rattle.segments.specs.declared.error.Error.TheVariants as errors
use Rattle.segments.specs.declared.place.Place.{Place}
use Rattle.segments.specs.Log.{HasTwinIn}
use Rattle.segments.specs.Scan.{AreNextAt, HasMany, IsEnd, IsFrom, IsNextAt, IsTooMuch, MovesPlace, NextManyGoes, found_bytes, place_at}
use Rattle.segments.proofs.BytesExamples.{c}
use Rattle.segments.proofs.LogExamples.{held, small}
use Rattle.segments.proofs.ScanExamples.{it_is_behind}

abbrev it : Place × List ℕ
it = (place_at 0 0, c)

pub it_has_one_byte : found_bytes (it ∷ []) ≡ 1
it_has_one_byte = refl

-- ---- a place, and one from there on

pub it_is_from_there : IsFrom small (place_at 0 0) (place_at 0 8)
it_is_from_there = inr it_is_behind

pub it_is_not_before : IsFrom small (place_at 0 8) (place_at 0 0) → ⊥
it_is_not_before (inl same) = let zero : ◌≡◌ {A = ℕ} 0 8 = ap (λ (p : Place). p.offset) same in omega (arith, zero)
it_is_not_before (inr behind) = let less : 18446744073709551616 < 18446744073709551608 = behind.nearer in omega (arith, less)

pub it_moves_on : MovesPlace small (place_at 0 0) (place_at 0 8) (Some c)
it_moves_on = it_is_behind

-- a record was found, and the place stays
pub it_stays : MovesPlace small (place_at 0 0) (place_at 0 0) (Some c) → ⊥
it_stays is = let less : 18446744073709551616 < 18446744073709551616 = is.nearer in omega (arith, less)

-- ---- one behind another

module _ (digest : List ℕ → List ℕ) where
  pub c_is_next : IsNextAt add_sum add_sum digest small (place_at 0 0) (place_at 0 0) (place_at 0 8) c
  unfolding record_len is_record record_of frames records
  c_is_next = (λ held tells. inl refl, λ held tells. inl refl)

  pub they_are_next : AreNextAt add_sum add_sum digest small (place_at 0 0) (place_at 0 8) (it ∷ [])
  they_are_next = (place_at 0 8, (c_is_next, it_is_behind, refl))

  -- the place may not be behind a record that isn't there
  pub none_is_next : AreNextAt add_sum add_sum digest small (place_at 0 0) (place_at 0 8) [] → ⊥
  none_is_next same = let eight : ◌≡◌ {A = ℕ} 8 0 = ap (λ (p : Place). p.offset) same in omega (arith, eight)

  -- ---- why no more came

  pub it_is_too_much : IsTooMuch add_sum add_sum digest 5 small (place_at 0 0) 5
  it_is_too_much = record { at = place_at 0 0; behind = place_at 0 8; bytes = c; next = c_is_next; more = lit< tt }

  none_listed : (b : Bool) (kept : Closed) → ◌≡◌ {A = Option Closed} (if b then None else None) (Some kept) → ⊥
  none_listed true kept is = cc is
  none_listed false kept is = cc is

  no_twin : HasTwinIn add_sum digest 18 held small.listing → ⊥
  no_twin (segment, (kept, listed, twin)) = none_listed (nat_lt segment 0) kept listed

  more_than_none : (xs : List (List ℕ)) (b : List ℕ) → [] ≡ b ∷ xs → ⊥
  more_than_none xs b is = cc is

  -- there is no next one at the end
  pub none_is_too_much : IsTooMuch add_sum add_sum digest 0 small (place_at 0 8) 0 → ⊥
  unfolding record_len is_record record_of frames records
  none_is_too_much is = elim (is.next.0 held tt) [
    | inl none ↦ elim (is.next.1 held tt) [
      | inl one ↦ more_than_none _ is.bytes (none ∙ one)
      | inr twin ↦ no_twin twin
    ]
    | inr twin ↦ no_twin twin
  ]

  -- ---- what is answered

  the_end : IsEnd add_sum small (place_at 0 8)
  unfolding record_len is_record record_of frames records
  the_end held = refl

  pub all_are_found : HasMany add_sum add_sum digest 100 small small (place_at 0 0) (place_at 0 8) (it ∷ [])
  all_are_found = record {
    behind = place_at 0 8;
    each = they_are_next;
    all = c_is_next.1;
    fits = inl (lit≤ tt);
    ends = inl (λ held tells. inl refl, inl refl, the_end);
  }

  -- a record that is longer than all that may come isn't left out
  pub none_is_found : HasMany add_sum add_sum digest 0 small small (place_at 0 0) (place_at 0 0) [] → ⊥
  unfolding record_len is_record record_of frames records
  none_is_found many = elim (many.ends) [
    | inl end ↦ more_than_none [] c (sym (end.2 held))
    | inr stops ↦ stops.1 refl
  ]

  pub they_are_answered : (found : Vec (Place × List ℕ) Global) → found.items ≡ it ∷ [] → NextManyGoes add_sum add_sum digest 100 small small (place_at 0 0) (place_at 0 8) (Ok found)
  they_are_answered found is = subst (λ (items : List (Place × List ℕ)). HasMany add_sum add_sum digest 100 small small (place_at 0 0) (place_at 0 8) items) (sym is) all_are_found

  -- an error leaves the place
  pub an_error_moves : NextManyGoes add_sum add_sum digest 100 small small (place_at 0 0) (place_at 0 8) (Err (errors.Layer layer.OutOfMemory)) → ⊥
  an_error_moves is = let eight : ◌≡◌ {A = ℕ} 8 0 = ap (λ (p : Place). p.offset) is.0 in omega (arith, eight)
