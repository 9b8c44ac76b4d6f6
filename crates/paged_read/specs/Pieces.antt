-- A range of a blob, page by page.
use Rattle.std.specs.Prelude.{◌+◌, ◌-◌, ◌*◌, ◌/◌, ◌%◌, ℕ, List, map, max, min, if◌then◌else◌}
use Rattle.std.specs.Prelude.{nat_eq}
use Rattle.std.specs.Int.{div_ceil}
use Rattle.std.specs.List.{range_with_len}
use Rattle.cache.specs.declared.piece.Piece.{Piece}

-- the bytes that a range, an offset and a length, has of a page, for a buffer in which the range
-- begins at this offset
abbrev pub piece_of : (P : ℕ) → ℕ × ℕ → (buf_offset page : ℕ) → Piece
piece_of P range buf_offset page =
    let from : ℕ = max range.0 (page * P) in
    let end : ℕ = min (range.0 + range.1) ((page + 1) * P) in
    record {
      page = page;
      skip = from - page * P;
      place = buf_offset + (from - range.0);
      len = end - from;
    }

-- how many pages a range has bytes of
abbrev pub page_count : (P : ℕ) → ℕ × ℕ → ℕ
page_count P range = if nat_eq range.1 0 then 0 else div_ceil (range.0 % P + range.1) P

-- the pieces of a range, page by page, for a buffer from this offset on
abbrev pub pieces_of : (P : ℕ) → ℕ × ℕ → (buf_offset : ℕ) → List Piece
pieces_of P range buf_offset =
    map (piece_of P range buf_offset) (range_with_len (range.0 / P) (page_count P range))
