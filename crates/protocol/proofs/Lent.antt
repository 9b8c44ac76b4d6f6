-- The frame of an append that stands in front of other bytes.
use Rattle.std.proofs.Common.{◌≡◌, ◌≤◌, ◌<◌, ◌+◌, ◌-◌, ◌∙◌, ℕ, List, ◌∷◌, ◌++◌, length-append, length, take, drop, ap, sym, subst, arith}
use Rattle.std.proofs.lemmas.List.{append_assoc, length-take-le, take-append-drop}
use Rattle.std.specs.Prelude.{Option, Some, Ok, Vec}
use Rattle.std.specs.declared.alloc.Global.{Global}
use Rattle.std.specs.Io.KnownBytes.{Consumes}
use Rattle.session.specs.declared.steps.Step.TheVariants.{Append}
use Rattle.protocol.specs.declared.request.Request.TheVariants.{Step}
use Rattle.protocol.specs.declared.version.Version.{Version}
use Rattle.protocol.specs.declared.version.Version.TheVariants.{One, Two}
use Rattle.protocol.specs.Request.{AreFields, frame_bytes, last_kind, length_bytes}
use Rattle.protocol.specs.Serve.{LendsAppend, ReadsNext}
use Rattle.protocol.proofs.Bytes.{length-length_bytes}

-- bytes whose first four are a length, with a kind and as many more after them
pub lends : (bytes four rest more : List ℕ) (n kind : ℕ) → four ++ rest ≡ bytes → rest ≡ kind ∷ more → kind ≡ 1 → length_bytes n ≡ four → 0 < n → n - 1 ≤ length more
    → bytes ≡ frame_bytes (1 ∷ take (n - 1) more) ++ drop (n - 1) more
lends bytes four rest more n kind whole front one told some within =
    let lent = take (n - 1) more in
    let long : length (1 ∷ lent) ≡ n = omega (arith, length-take-le (n - 1) more within, some) in
    let body : rest ≡ (1 ∷ lent) ++ drop (n - 1) more = front ∙ ap (λ (k : ℕ). k ∷ more) one ∙ ap (λ (xs : List ℕ). 1 ∷ xs) (sym (take-append-drop (n - 1) more)) in
    let head : four ≡ length_bytes (length (1 ∷ lent)) = sym told ∙ ap length_bytes (sym long) in
    sym whole ∙ ap (λ (xs : List ℕ). xs ++ rest) head ∙ ap (λ (xs : List ℕ). length_bytes (length (1 ∷ lent)) ++ xs) body
    ∙ sym (append_assoc (length_bytes (length (1 ∷ lent))) (1 ∷ lent) (drop (n - 1) more))

-- each version has appends
has_appends : (version : Version) → 1 ≤ last_kind version
has_appends One = omega arith
has_appends Two = omega arith

-- where the frame of an append was consumed, the append was read
pub lent_reads : (version : Version) (number : ℕ) (lent : List ℕ) (owned : Vec ℕ Global) (old new : Option (List ℕ)) → owned.items ≡ lent → AreFields lent → Consumes old new (frame_bytes (1 ∷ lent))
    → ReadsNext version number old new (Ok (Some (Step (Append owned))))
lent_reads version number lent owned old new same fields takes =
    ((subst AreFields (sym same) fields, has_appends version), subst (λ (xs : List ℕ). Consumes old new (frame_bytes (1 ∷ xs))) (sym same) takes)

-- how long the frame of an append is
pub lent_length : (lent : List ℕ) → length (frame_bytes (1 ∷ lent)) ≡ 5 + length lent
lent_length lent = omega (arith, length-append (length_bytes (length (1 ∷ lent))) (1 ∷ lent), length-length_bytes (length (1 ∷ lent)))

-- where the buffered input is consumed as far as that frame goes, the frame was consumed
pub lent_takes : (buffer lent : List ℕ) (old new : Option (List ℕ)) → LendsAppend buffer lent → ((front rest : List ℕ) → buffer ≡ front ++ rest → length front ≡ 5 + length lent → Consumes old new front)
    → Consumes old new (frame_bytes (1 ∷ lent)) × AreFields lent
lent_takes buffer lent old new (rest, is, fields) passes = (passes (frame_bytes (1 ∷ lent)) rest is (lent_length lent), fields)
