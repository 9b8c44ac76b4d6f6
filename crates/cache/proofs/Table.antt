-- The table's pages by their keys.
use Rattle.std.proofs.Common.{◌≡◌, ◌∙◌, ℕ, ◌+◌, ◌-◌, ◌*◌, ◌≤◌, List, length, take, drop, sym, ap, subst, arith}
use Rattle.std.specs.Vec.{vec_capacity}
use Rattle.std.specs.Prelude.{Some, None, Vec}
use Rattle.std.specs.Map.{lookup}
use Rattle.std.specs.Int.NonZero.{non_zero_u16_get}
use Rattle.cache.specs.CacheState.{same_key}
use Rattle.cache.specs.Slots.{AreSlots, AreSlotsBut, cached_pages, HoldsKey, IsNowhere, page_of_slot}
use Rattle.cache.specs.Chain.{AreLinked}
use Rattle.std.specs.declared.alloc.Global.{Global}
use Rattle.cache.specs.declared.slots.Slots.{Slots}
use Rattle.cache.proofs.Found.{IsOnce, lookup_none, lookup_some}

pub keys_once : (t : Slots) → AreSlots t → IsOnce t.used t.keys.items
keys_once t are s u low low_too same = are.linked.once s u low low_too (λ is. omega (arith, is, low, are.within)) (λ is. omega (arith, is, low_too, are.within)) same

-- a slot with a key holds the page that is held under it
pub held_page : (t : Slots) (key : ℕ × ℕ) (slot : ℕ) → AreSlots t → HoldsKey t key slot → lookup (same_key key) (cached_pages t) ≡ Some (page_of_slot (non_zero_u16_get t.page_size) t.bytes.items slot)
held_page t key slot are holds = lookup_some t.used (non_zero_u16_get t.page_size) t.keys.items t.bytes.items key slot (keys_once t are) holds.0 are.within holds.1

-- where no slot has a key, no page is held under it
pub held_none : (t : Slots) (key : ℕ × ℕ) → IsNowhere t key → lookup (same_key key) (cached_pages t) ≡ None
held_none t key nowhere = lookup_none t.used (non_zero_u16_get t.page_size) t.keys.items t.bytes.items key nowhere

-- the bytes that are read of a slot are its page
pub read_page : (P size slot : ℕ) (bytes now : List ℕ) → size ≡ P → now ≡ bytes → take (slot * size + size - slot * size) (drop (slot * size) now) ≡ page_of_slot P bytes slot
read_page P size slot bytes now size_is same =
    let less : slot * size + size - slot * size ≡ size = omega arith in
    ap (λ (n : ℕ). take n (drop (slot * size) now)) less
    ∙ ap (λ (n : ℕ). take n (drop (slot * n) now)) size_is
    ∙ ap (λ (l : List ℕ). page_of_slot P l slot) same

-- ---- a table with other chains

pub relinked : (t : Slots) (was but : ℕ) (firsts nexts : Vec ℕ Global) → AreSlotsBut was t → length nexts.items ≡ length t.keys.items → length firsts.items ≡ length t.firsts.items
    → AreLinked t.keys.items nexts.items firsts.items (length t.keys.items) (length firsts.items) t.used but → AreSlotsBut but (record t { firsts = firsts; nexts = nexts })
relinked t was but firsts nexts are nexts_size firsts_size linked = record {
  some = are.some;
  nexts = nexts_size;
  bytes = are.bytes;
  room = are.room;
  places = omega (arith, are.places, firsts_size);
  hints = are.hints ∙ sym firsts_size;
  within = are.within;
  hand = are.hand;
  linked = linked;
}

pub rekeyed : (t : Slots) (was : ℕ) (keys : Vec (ℕ × ℕ) Global) (hints firsts nexts : Vec ℕ Global) → AreSlotsBut was t → length keys.items ≡ length t.keys.items → length hints.items ≡ length t.hints.items
    → length firsts.items ≡ length t.firsts.items → length nexts.items ≡ length t.nexts.items → AreLinked keys.items nexts.items firsts.items (length keys.items) (length firsts.items) t.used (length keys.items)
    → AreSlots (record t { keys = keys; hints = hints; firsts = firsts; nexts = nexts })
rekeyed t was keys hints firsts nexts are keys_size hints_size firsts_size nexts_size linked = record {
  some = omega (arith, are.some, keys_size);
  nexts = nexts_size ∙ are.nexts ∙ sym keys_size;
  bytes = are.bytes;
  room = subst (λ (n : ℕ). n * non_zero_u16_get t.page_size ≤ vec_capacity t.bytes) (sym keys_size) are.room;
  places = omega (arith, are.places, firsts_size);
  hints = hints_size ∙ are.hints ∙ sym firsts_size;
  within = omega (arith, are.within, keys_size);
  hand = omega (arith, are.hand, keys_size);
  linked = linked;
}
