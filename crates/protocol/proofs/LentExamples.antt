-- Requests that stand whole in what has come.
use Rattle.std.proofs.Common.{◌≡◌, ◌∷◌, [], zero, suc, refl, arith}
use Rattle.std.specs.Prelude.{Some, None}
use Rattle.protocol.specs.Input.{AreBytes}
use Rattle.protocol.specs.Request.{length_bytes}
use Rattle.protocol.specs.Serve.{LendsAppend, TakesHeld}
use Rattle.protocol.specs.declared.request.Request.TheVariants.{Flush}
use Rattle.protocol.specs.declared.version.Version.TheVariants.{Two}

-- an append of one byte, and the first byte of the request behind it
pub one_byte_is_lent : LendsAppend (2 ∷ 0 ∷ 0 ∷ 0 ∷ 1 ∷ 7 ∷ 9 ∷ []) (7 ∷ [])
unfolding length_bytes
one_byte_is_lent = (9 ∷ [], refl, (bytes, omega arith))
  where
    bytes : AreBytes (7 ∷ [])
    bytes zero = omega arith
    bytes (suc i) = omega arith

-- what stands behind an append isn't its byte
pub not_the_next_byte : LendsAppend (2 ∷ 0 ∷ 0 ∷ 0 ∷ 1 ∷ 7 ∷ 9 ∷ []) (7 ∷ 9 ∷ []) → ⊥
unfolding length_bytes
not_the_next_byte (rest, is, fields) = cc is

-- nor are the bytes of another kind of request an append's
pub not_another_kind : LendsAppend (2 ∷ 0 ∷ 0 ∷ 0 ∷ 17 ∷ 7 ∷ []) (7 ∷ []) → ⊥
unfolding length_bytes
not_another_kind (rest, is, fields) = cc is

-- a flush in version 2 was taken, and what stands behind it was left
pub a_flush_is_taken : TakesHeld Two (Some (1 ∷ 0 ∷ 0 ∷ 0 ∷ 25 ∷ 9 ∷ [])) (Some (9 ∷ [])) (Some Flush)
unfolding length_bytes
a_flush_is_taken = ((tt, omega arith), refl)

-- not a byte of what stands behind it
pub not_a_byte_more : TakesHeld Two (Some (1 ∷ 0 ∷ 0 ∷ 0 ∷ 25 ∷ 9 ∷ [])) (Some []) (Some Flush) → ⊥
unfolding length_bytes
not_a_byte_more (asked, is) = cc is

-- where none was taken, no byte is lost
pub not_a_byte_less : TakesHeld Two (Some (1 ∷ 0 ∷ 0 ∷ 0 ∷ [])) (Some (0 ∷ 0 ∷ 0 ∷ [])) None → ⊥
not_a_byte_less is = cc is
