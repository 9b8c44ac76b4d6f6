-- What a put into the table does to the cache.
use Rattle.std.proofs.Common.{◌≡◌, ◌≢◌, inl, inr, ◌∙◌, ℕ, ◌+◌, ◌<◌, List, length, refl, sym, ap, subst, arith, true}
use Rattle.std.specs.Prelude.{Option, None, Vec, is_some, slice_index_or, slice_set}
use Rattle.std.specs.Vec.{vec_capacity}
use Rattle.std.specs.Int.NonZero.{non_zero_u16_get}
use Rattle.std.specs.declared.alloc.Global.{Global}
use Rattle.std.proofs.lemmas.List.{get_or-set_same, get_or-set_other, length-set}
use Rattle.std.specs.Map.{lookup}
use Rattle.cache.specs.CacheState.{cached_page, same_key, IsHeld, PutGoes, Puts}
use Rattle.cache.specs.Slots.{AreSlots, AreSlotsBut, HoldsKey, IsNowhere, Linked, Overwritten, Taken, Unlinked, cache_of, key_at, page_of_slot, pages_in, cached_pages}
use Rattle.cache.specs.declared.slots.Slots.{Slots}
use Rattle.cache.proofs.Found.{Changes, changes_here, changes_others, changes_gone, pages_many}
use Rattle.cache.proofs.Table.{held_none, held_page, keys_once}
use Rattle.cache.proofs.Written.{page_written, page_stays, pages_long}

-- a table stays well with other bytes, as many, in as much room
pub rewritten : (t : Slots) (but : ℕ) (bytes : Vec ℕ Global) → AreSlotsBut but t → length bytes.items ≡ length t.bytes.items → vec_capacity bytes ≡ vec_capacity t.bytes → AreSlotsBut but (record t { bytes = bytes })
rewritten t but bytes are size room = record {
  some = are.some;
  nexts = are.nexts;
  bytes = size ∙ are.bytes;
  room = omega (arith, are.room, room);
  places = are.places;
  hints = are.hints;
  within = are.within;
  hand = are.hand;
  linked = are.linked;
}

module _ (t : Slots) (slot : ℕ) (page : List ℕ) (new : Slots) (but : ℕ) (are : AreSlotsBut but t) (low : slot < t.used) (size : length page ≡ non_zero_u16_get t.page_size) (over : Overwritten slot page t new) where
  pub overwritten_are : AreSlotsBut but new
  overwritten_are =
      let long = ap length over.written ∙ pages_long (non_zero_u16_get t.page_size) t.used slot page t.bytes.items size low are.bytes in
      subst (λ (u : Slots). AreSlotsBut but u) (sym over.same) (rewritten t but new.bytes are long over.room)

  pub overwritten_page : page_of_slot (non_zero_u16_get t.page_size) new.bytes.items slot ≡ page
  overwritten_page = ap (λ (b : List ℕ). page_of_slot (non_zero_u16_get t.page_size) b slot) over.written ∙ page_written (non_zero_u16_get t.page_size) t.used slot page t.bytes.items size low are.bytes

  pub overwritten_others : (s : ℕ) → s ≢ slot → page_of_slot (non_zero_u16_get t.page_size) new.bytes.items s ≡ page_of_slot (non_zero_u16_get t.page_size) t.bytes.items s
  overwritten_others s other = ap (λ (b : List ℕ). page_of_slot (non_zero_u16_get t.page_size) b s) over.written ∙ page_stays (non_zero_u16_get t.page_size) t.used slot page t.bytes.items size low are.bytes s other

-- a table stays well when the hand moves on
pub handed : (t : Slots) (but hand : ℕ) → AreSlotsBut but t → hand < length t.keys.items → AreSlotsBut but (record t { hand = hand })
handed t but hand are low = record {
  some = are.some;
  nexts = are.nexts;
  bytes = are.bytes;
  room = are.room;
  places = are.places;
  hints = are.hints;
  within = are.within;
  hand = low;
  linked = are.linked;
}

-- a slot was taken out of its chain, the hand moved on, and the page was written over the slot's
pub taken_over : (old mid turned new : Slots) (slot hand : ℕ) (page : List ℕ) → AreSlotsBut slot mid → Unlinked old mid → hand < length mid.keys.items → turned ≡ record mid { hand = hand } → slot < old.used
    → length page ≡ non_zero_u16_get old.page_size → Overwritten slot page turned new → Taken slot page old new
taken_over old mid turned new slot hand page are unlinked low_hand turned_is low size over =
    let are_turned : AreSlotsBut slot turned = subst (λ (t : Slots). AreSlotsBut slot t) (sym turned_is) (handed mid slot hand are low_hand) in
    let size_is : turned.page_size ≡ old.page_size = ap (λ (t : Slots). t.page_size) turned_is ∙ ap (λ (t : Slots). t.page_size) unlinked in
    let P_is : non_zero_u16_get turned.page_size ≡ non_zero_u16_get old.page_size = ap (λ p. non_zero_u16_get p) size_is in
    let bytes_are : turned.bytes.items ≡ old.bytes.items = ap (λ (t : Slots). t.bytes.items) turned_is ∙ ap (λ (t : Slots). t.bytes.items) unlinked in
    let used_is : turned.used ≡ old.used = ap (λ (t : Slots). t.used) turned_is ∙ ap (λ (t : Slots). t.used) unlinked in
    let low_turned : slot < turned.used = omega (arith, low, used_is) in
    let size_turned : length page ≡ non_zero_u16_get turned.page_size = size ∙ sym P_is in
    record {
      are = overwritten_are turned slot page new slot are_turned low_turned size_turned over;
      page_size = ap (λ (t : Slots). t.page_size) over.same ∙ size_is;
      keys = ap (λ (t : Slots). t.keys) over.same ∙ ap (λ (t : Slots). t.keys) turned_is ∙ ap (λ (t : Slots). t.keys) unlinked;
      page = ap (λ (n : ℕ). page_of_slot n new.bytes.items slot) (sym P_is) ∙ overwritten_page turned slot page new slot are_turned low_turned size_turned over;
      others = λ s below other.
          ap (λ (n : ℕ). page_of_slot n new.bytes.items s) (sym P_is)
          ∙ overwritten_others turned slot page new slot are_turned low_turned size_turned over s other
          ∙ ap (λ (n : ℕ). page_of_slot n turned.bytes.items s) P_is
          ∙ ap (λ (b : List ℕ). page_of_slot (non_zero_u16_get old.page_size) b s) bytes_are;
    }

-- ---- the cache after a put

module _ (ids : ℕ) (old new : Slots) (slot : ℕ) (key : ℕ × ℕ) (page : List ℕ) (size : new.page_size ≡ old.page_size) (capacity : length new.keys.items ≡ length old.keys.items)
    (c : Changes old.used new.used (non_zero_u16_get old.page_size) old.keys.items new.keys.items old.bytes.items new.bytes.items slot key page) where
  same_size : non_zero_u16_get new.page_size ≡ non_zero_u16_get old.page_size
  same_size = ap (λ p. non_zero_u16_get p) size

  new_pages : cached_pages new ≡ pages_in new.used (non_zero_u16_get old.page_size) new.keys.items new.bytes.items
  new_pages = ap (λ (n : ℕ). pages_in new.used n new.keys.items new.bytes.items) same_size

  now_held : (gone : ℕ × ℕ) (many : ℕ) → (slot < old.used → slice_index_or old.keys.items slot (0, 0) ≡ gone) → new.used ≡ many → IsHeld key gone page many (cache_of ids old) (cache_of ids new)
  now_held gone many gone_is used_is = record {
    settings = record { page_size = same_size; capacity = capacity; ids_given = refl };
    here = ap (lookup (same_key key)) new_pages ∙ changes_here old.used new.used (non_zero_u16_get old.page_size) old.keys.items new.keys.items old.bytes.items new.bytes.items slot key page c;
    others = λ other apart also.
        ap (lookup (same_key other)) new_pages
        ∙ changes_others old.used new.used (non_zero_u16_get old.page_size) old.keys.items new.keys.items old.bytes.items new.bytes.items slot key page c other apart (λ below is. also (sym is ∙ gone_is below));
    count = ap length new_pages ∙ pages_many new.used (non_zero_u16_get old.page_size) new.keys.items new.bytes.items c.later_within ∙ used_is;
  }

  now_gone : slot < old.used → slice_index_or old.keys.items slot (0, 0) ≢ key → cached_page (cache_of ids new) (slice_index_or old.keys.items slot (0, 0)) ≡ None
  now_gone below apart =
      ap (lookup (same_key (slice_index_or old.keys.items slot (0, 0)))) new_pages
      ∙ changes_gone old.used new.used (non_zero_u16_get old.page_size) old.keys.items new.keys.items old.bytes.items new.bytes.items slot key page c below apart

old_many : (t : Slots) → AreSlots t → length (cached_pages t) ≡ t.used
old_many t are = pages_many t.used (non_zero_u16_get t.page_size) t.keys.items t.bytes.items are.within

-- a put where a page is held under the key: that page was written over
pub puts_over : (ids : ℕ) (old new : Slots) (slot : ℕ) (key : ℕ × ℕ) (page : List ℕ) → AreSlots old → HoldsKey old key slot → length page ≡ non_zero_u16_get old.page_size → Overwritten slot page old new
    → Puts key page (cache_of ids old) (cache_of ids new)
puts_over ids old new slot key page are holds size over =
    subst (λ (o : Option (List ℕ)). PutGoes o key page (cache_of ids old) (cache_of ids new)) (sym (held_page old key slot are holds))
    (now_held ids old new slot key page size_is capacity changes key (length (cached_pages old)) (λ below. holds.1) (used_is ∙ sym (old_many old are)))
  where
    used_is : new.used ≡ old.used
    used_is = ap (λ (t : Slots). t.used) over.same

    size_is : new.page_size ≡ old.page_size
    size_is = ap (λ (t : Slots). t.page_size) over.same

    keys_are : new.keys.items ≡ old.keys.items
    keys_are = ap (λ (t : Slots). t.keys.items) over.same

    capacity : length new.keys.items ≡ length old.keys.items
    capacity = ap length keys_are

    changes : Changes old.used new.used (non_zero_u16_get old.page_size) old.keys.items new.keys.items old.bytes.items new.bytes.items slot key page
    changes = record {
      within = are.within;
      later_within = omega (arith, are.within, used_is, capacity);
      once = keys_once old are;
      later_once = λ s u low low_too same. keys_once old are s u (omega (arith, low, used_is)) (omega (arith, low_too, used_is)) (ap (λ (k : List (ℕ × ℕ)). slice_index_or k s (0, 0)) (sym keys_are) ∙ same ∙ ap (λ (k : List (ℕ × ℕ)). slice_index_or k u (0, 0)) keys_are);
      taken = omega (arith, holds.0, used_is);
      here = ap (λ (k : List (ℕ × ℕ)). slice_index_or k slot (0, 0)) keys_are ∙ holds.1;
      page_is = overwritten_page old slot page new (length old.keys.items) are holds.0 size over;
      stays = λ s low other. omega (arith, low, used_is);
      was = λ s low other. omega (arith, low, used_is);
      keys_stay = λ s other. ap (λ (k : List (ℕ × ℕ)). slice_index_or k s (0, 0)) keys_are;
      pages_stay = λ s low other. overwritten_others old slot page new (length old.keys.items) are holds.0 size over s other;
    }

-- a put where none is held: a slot was taken for the page, and got the key
module _ (ids : ℕ) (old mid new : Slots) (slot : ℕ) (key : ℕ × ℕ) (page : List ℕ) (are : AreSlots old) (nowhere : IsNowhere old key) (taken : Taken slot page old mid) (linked : Linked slot key mid new) (are_new : AreSlots new) (low : slot < new.used) (stay : (s : ℕ) → s < old.used → s < new.used) (was : (s : ℕ) → s < new.used → s ≢ slot → s < old.used) where
  keys_old : mid.keys.items ≡ old.keys.items
  keys_old = ap (λ (v : Vec (ℕ × ℕ) Global). v.items) taken.keys

  keys_new : new.keys.items ≡ slice_set old.keys.items slot key
  keys_new = linked.keys ∙ ap (λ (k : List (ℕ × ℕ)). slice_set k slot key) keys_old

  as_many : length new.keys.items ≡ length old.keys.items
  as_many = ap length keys_new ∙ length-set old.keys.items slot key

  bytes_new : new.bytes.items ≡ mid.bytes.items
  bytes_new = ap (λ (v : Vec ℕ Global). v.items) linked.bytes

  size_new : new.page_size ≡ old.page_size
  size_new = linked.page_size ∙ taken.page_size

  changed : Changes old.used new.used (non_zero_u16_get old.page_size) old.keys.items new.keys.items old.bytes.items new.bytes.items slot key page
  changed = record {
    within = are.within;
    later_within = are_new.within;
    once = keys_once old are;
    later_once = keys_once new are_new;
    taken = low;
    here = ap (λ (k : List (ℕ × ℕ)). slice_index_or k slot (0, 0)) keys_new ∙ get_or-set_same old.keys.items slot key (0, 0) (omega (arith, low, are_new.within, as_many));
    page_is = ap (λ (b : List ℕ). page_of_slot (non_zero_u16_get old.page_size) b slot) bytes_new ∙ taken.page;
    stays = λ s below other. stay s below;
    was = was;
    keys_stay = λ s other. ap (λ (k : List (ℕ × ℕ)). slice_index_or k s (0, 0)) keys_new ∙ get_or-set_other old.keys.items slot s key (0, 0) other;
    pages_stay = λ s below other. ap (λ (b : List ℕ). page_of_slot (non_zero_u16_get old.page_size) b s) bytes_new ∙ taken.others s below other;
  }

  -- the slot was a free one
  pub puts_free : slot ≡ old.used → new.used ≡ old.used + 1 → Puts key page (cache_of ids old) (cache_of ids new)
  puts_free slot_is used_is =
      let room : length (cached_pages old) < length old.keys.items = omega (arith, old_many old are, slot_is, low, are_new.within, as_many) in
      subst (λ (o : Option (List ℕ)). PutGoes o key page (cache_of ids old) (cache_of ids new)) (sym (held_none old key nowhere))
      (inl (room, now_held ids old new slot key page size_new as_many changed key (length (cached_pages old) + 1) (λ below. absurd (omega (arith, below, slot_is))) (omega (arith, used_is, old_many old are))))

  -- the slot was one whose page went for the new one
  pub puts_used : slot < old.used → old.used ≡ length old.keys.items → new.used ≡ old.used → Puts key page (cache_of ids old) (cache_of ids new)
  puts_used below full used_is =
      let gone : ℕ × ℕ = key_at old slot in
      let there : is_some (cached_page (cache_of ids old) gone) ≡ true = ap is_some (held_page old gone slot are (below, refl)) in
      subst (λ (o : Option (List ℕ)). PutGoes o key page (cache_of ids old) (cache_of ids new)) (sym (held_none old key nowhere))
      (inr (
        old_many old are ∙ full,
        (
          gone,
          there,
          now_gone ids old new slot key page size_new as_many changed below (nowhere slot below),
          now_held ids old new slot key page size_new as_many changed gone (length old.keys.items) (λ low_too. refl) (used_is ∙ full),
        ),
      ))
