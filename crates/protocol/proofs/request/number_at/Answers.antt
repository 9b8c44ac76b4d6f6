use Rattle.std.proofs.Common.{◌∙◌, ◌-◌, ◌*◌, ◌+◌, ap, ℕ, ◌<◌, ◌≤◌, List, length, take, drop, get_or, arith}
use Rattle.std.specs.Int.{w64, from_le_bytes}
use Rattle.std.proofs.lemmas.List.{take-take, length-take-le, length-drop, get_or-drop}
use Rattle.protocol.proofs.Bytes.{number_of_bytes, bytes_of_take}
use Rattle.protocol.proofs.request.number_at.Goals as goal

pub returns-clause-number : goal.returns-clause-number
returns-clause-number c =
    let fields = c.args.fields.now in
    let at = 8 * c.args.index in
    let enough : 8 ≤ length fields - at = omega (arith, c.requires) in
    let is = c.in-Some.ensures.cases.same ∙ take-take 8 (length fields - at) (drop at fields) enough in
    let long = length-take-le 8 (drop at fields) (omega (arith, length-drop at fields, c.requires)) in
    let are : (i : ℕ) → get_or (drop at fields) i 0 < 256 = λ i. rw get_or-drop ((c.type_inv.fields (at + i)).fits) in
    number_of_bytes (take 8 (drop at fields)) c.from_le_bytes.result long (bytes_of_take 8 (drop at fields) are) (c.from_le_bytes.ensures ∙ ap (λ (bs : List ℕ). from_le_bytes w64 bs) is)
