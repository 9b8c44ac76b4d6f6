-- What a read leaves: the disk except for its log, and the cache except for pages of the content.
use Rattle.std.proofs.Common.{◌≡◌, ℕ, ◌+◌, ◌*◌, ◌-◌, ◌<◌, ◌≤◌, List, ◌++◌, length, take, drop, sym, ap, ◌∙◌, subst, arith, length-append, length-drop, append_assoc, [], ◌∷◌}
use Rattle.std.proofs.Math.Nat.{mul-le-mul_right, suc-mul}
use Rattle.std.proofs.lemmas.List.{take-take, length-take-le}
use borrow.Rule.Slice.PartMut.{put_mid, post_of, Post-is}
use Rattle.disk.specs.Disk.{Life}
use Rattle.crash.specs.Looks.{Looked, looked_start}
use Rattle.crash.specs.Contents.{stored}
use Rattle.crash.proofs.LookLaws.{looked_readable}
use Rattle.crash.proofs.Lists.{within_append, drop_past}
use Rattle.crash.proofs.Pages.{stored_within, length-stored}
use Rattle.cache.specs.CacheState.{CacheState, Puts, put_at}
use Rattle.cache.specs.declared.piece.Piece.{Piece}
use Rattle.cache.specs.Pages.{page_of_content, CachesOnly, IsTrueFor}
use Rattle.cache.proofs.CacheLaws.{put_weakly, caches_none, caches_put, read_true, fresh_stays}
use Rattle.paged_read.specs.Tail.{Tail, logical_bytes, tail_size, CanRead}
use Rattle.paged_read.specs.Ranges.{LeavesAll, page_at}
use Rattle.paged_read.specs.Parts.{IsPieceOf, with_told}

-- ---- the bytes of a tail

module _ (t : Tail) (readable : List ℕ) (reach : t.full_pages * (t.page_size + 12) ≤ length readable) where
  -- a tail has as many bytes as its size
  pub length-told : length (logical_bytes t readable) ≡ tail_size t
  length-told = omega (arith, length-append (stored t.page_size t.full_pages readable) t.bytes, length-stored t.page_size t.full_pages readable reach)

  -- bytes within a full page
  pub told_in_page : (p i n : ℕ) → p < t.full_pages → i + n ≤ t.page_size → take n (drop (p * t.page_size + i) (logical_bytes t readable)) ≡ take n (drop (p * (t.page_size + 12) + i) readable)
  told_in_page p i n below fits =
      let P = t.page_size in
      let more : (p + 1) * P ≤ t.full_pages * P = mul-le-mul_right P (omega (arith, below)) in
      within_append n (p * P + i) (stored P t.full_pages readable) t.bytes (omega (arith, length-stored P t.full_pages readable reach, more, suc-mul p P, fits))
      ∙ stored_within P t.full_pages p i n readable reach below fits

  -- the bytes after the full pages
  pub told_in_tip : (i : ℕ) → drop (t.full_pages * t.page_size + i) (logical_bytes t readable) ≡ drop i t.bytes
  told_in_tip i =
      let joined = stored t.page_size t.full_pages readable in
      let size : length joined ≡ t.full_pages * t.page_size = length-stored t.page_size t.full_pages readable reach in
      drop_past (t.full_pages * t.page_size + i) joined t.bytes (omega (arith, size)) ∙ ap (λ n. drop n t.bytes) (let e : t.full_pages * t.page_size + i - length joined ≡ i = omega (arith, size) in e)

  -- the payload of a page is the content's page
  pub payload_told : (page : ℕ) → page < t.full_pages → take t.page_size (page_at t.page_size page readable) ≡ page_of_content t.page_size (logical_bytes t readable) page
  payload_told page below =
      let zero_here : page * t.page_size + 0 ≡ page * t.page_size = omega arith in
      let zero_there : page * (t.page_size + 12) + 0 ≡ page * (t.page_size + 12) = omega arith in
      take-take t.page_size (t.page_size + 12) (drop (page * (t.page_size + 12)) readable) (omega arith)
      ∙ ap (λ n. take t.page_size (drop n readable)) (sym zero_there)
      ∙ sym (told_in_page page 0 t.page_size below (omega arith))
      ∙ ap (λ n. take t.page_size (drop n (logical_bytes t readable))) zero_here

-- ---- reads go on

-- what a read found, a later one finds
pub told_later : (t : Tail) (old new : Life) → Looked old new → logical_bytes t new.present.readable ≡ logical_bytes t old.present.readable
told_later t old new looked = ap (λ (l : List ℕ). logical_bytes t l) (looked_readable old new looked)

-- a call that only looked, and put pages of the content
pub leaves_of : (t : Tail) (cache after : CacheState) (old new : Life) → CanRead t cache old.present → Looked old new → CachesOnly t.id 0 (logical_bytes t old.present.readable) cache after → LeavesAll t cache after old new
leaves_of t cache after old new can looked caches = record {
  looked = looked;
  cached = caches;
  can = record {
    there = omega (arith, can.there, ap length (looked_readable old new looked));
    page_size = caches.settings.page_size ∙ can.page_size;
    given = omega (arith, can.given, caches.settings.ids_given);
    cached = subst (λ (content : List ℕ). IsTrueFor t.id content t.full_pages after) (sym (told_later t old new looked)) (read_true t.id (logical_bytes t old.present.readable) t.full_pages 0 cache after caches can.cached);
  };
  fresh = fresh_stays t.id 0 (logical_bytes t old.present.readable) cache after can.given caches;
}

-- a call that put no page
pub leaves_cache : (t : Tail) (cache : CacheState) (old new : Life) → CanRead t cache old.present → Looked old new → LeavesAll t cache cache old new
leaves_cache t cache old new can looked = leaves_of t cache cache old new can looked (caches_none t.id 0 (logical_bytes t old.present.readable) cache)

-- where no call was made all is left
pub leaves_none : (t : Tail) (cache : CacheState) (life : Life) → CanRead t cache life.present → LeavesAll t cache cache life life
leaves_none t cache life can = leaves_cache t cache life life can (looked_start life)

-- a call that put a page that it had read
pub leaves_put : (t : Tail) (cache after : CacheState) (old new : Life) (page : ℕ) (bytes : List ℕ) → CanRead t cache old.present → Looked old new → page < t.full_pages
    → bytes ≡ take t.page_size (page_at t.page_size page old.present.readable) → Puts (t.id, page) bytes cache after → LeavesAll t cache after old new
leaves_put t cache after old new page bytes can looked below is puts =
    let size = can.page_size in
    let content = logical_bytes t old.present.readable in
    let all : length content ≡ tail_size t = length-told t old.present.readable can.there in
    let more : (page + 1) * cache.page_size ≤ t.full_pages * cache.page_size = mul-le-mul_right cache.page_size (omega (arith, below)) in
    let same : t.full_pages * cache.page_size ≡ t.full_pages * t.page_size = ap (λ P. t.full_pages * P) size in
    let page_is : bytes ≡ page_of_content cache.page_size content page = is ∙ payload_told t old.present.readable can.there page below ∙ ap (λ P. page_of_content P content page) (sym size) in
    leaves_of t cache after old new can looked (caches_put t.id 0 page content bytes cache after (omega arith) (omega (arith, all, more, same)) page_is (put_weakly (t.id, page) bytes cache after puts))

-- ---- a piece of a page that was read

-- the part of a buffer that was written over is bytes put at its offset
pub put_mid_is : (buf_offset len : ℕ) (buf part bytes : List ℕ) → part ≡ bytes → length bytes ≡ len → put_mid buf_offset (buf_offset + len - buf_offset) buf part ≡ put_at buf_offset bytes buf
put_mid_is buf_offset len buf part bytes is many =
    ap (λ (l : List ℕ). take buf_offset buf ++ (l ++ post_of buf_offset (buf_offset + len - buf_offset) buf)) is
    ∙ ap (λ (l : List ℕ). take buf_offset buf ++ (bytes ++ l)) (Post-is buf_offset (buf_offset + len) buf (omega arith))
    ∙ ap (λ n. take buf_offset buf ++ (bytes ++ drop (buf_offset + n) buf)) (sym many)
    ∙ sym (append_assoc (take buf_offset buf) bytes (drop (buf_offset + length bytes) buf))

-- a physical page that is there has all its bytes
pub length-page_at : (t : Tail) (page : ℕ) (readable : List ℕ) → t.full_pages * (t.page_size + 12) ≤ length readable → page < t.full_pages → length (page_at t.page_size page readable) ≡ t.page_size + 12
length-page_at t page readable reach below =
    let P = t.page_size in
    let more : (page + 1) * (P + 12) ≤ t.full_pages * (P + 12) = mul-le-mul_right (P + 12) (omega (arith, below)) in
    length-take-le (P + 12) (drop (page * (P + 12)) readable) (omega (arith, length-drop (page * (P + 12)) readable, more, suc-mul page (P + 12), reach))

-- a piece that was copied out of a payload
pub piece_told : (t : Tail) (readable : List ℕ) (piece : Piece) (buf part : List ℕ) → t.full_pages * (t.page_size + 12) ≤ length readable → IsPieceOf t (length buf) piece
    → part ≡ take (piece.skip + piece.len - piece.skip) (drop piece.skip (take t.page_size (page_at t.page_size piece.page readable)))
    → put_mid piece.place (piece.place + piece.len - piece.place) buf part ≡ with_told t.page_size (logical_bytes t readable) (piece ∷ []) buf
piece_told t readable piece buf part reach of is =
    let P = t.page_size in
    let payload = take P (page_at P piece.page readable) in
    let page_len = length-page_at t piece.page readable reach of.below in
    let whole : length payload ≡ P = length-take-le P (page_at P piece.page readable) (omega (arith, page_len)) in
    let n : piece.skip + piece.len - piece.skip ≡ piece.len = omega arith in
    let bytes = take piece.len (drop piece.skip payload) in
    let many : length bytes ≡ piece.len = length-take-le piece.len (drop piece.skip payload) (omega (arith, length-drop piece.skip payload, whole, of.part.within)) in
    put_mid_is piece.place piece.len buf part bytes (is ∙ ap (λ k. take k (drop piece.skip payload)) n) many
    ∙ ap (λ (l : List ℕ). put_at piece.place (take piece.len (drop piece.skip l)) buf) (payload_told t readable reach piece.page of.below)
