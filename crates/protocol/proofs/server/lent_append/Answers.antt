use Rattle.std.proofs.Common.{rules, ◌≡◌, ◌≤◌, ◌<◌, ◌+◌, ◌-◌, ℕ, List, ◌∷◌, ◌++◌, length, take, drop, get_or, subst, sym, arith}
use Rattle.std.proofs.lemmas.List.{get_or-drop, length-take-le, take-append-drop}
use Rattle.protocol.specs.Input.{AreBytes}
use Rattle.protocol.proofs.Bytes.{bytes_of_take}
use Rattle.protocol.proofs.Lent.{lends}
use Rattle.protocol.proofs.server.lent_append.Goals as goal

pub returns : goal.returns
returns c =
    let four = c.in_ok-four.four.now in
    let rest = c.in_ok-four.rest.now in
    let kind = c.in_ok-kind.kind.now in
    let more = c.in_ok-kind.rest.now in
    let n = c.length_of-length.result in
    let whole : four ++ rest ≡ c.args.bytes.now = search (rules, take-append-drop) in
    let front : rest ≡ kind ∷ more = search rules in
    let one : kind ≡ 1 = search rules in
    let within : n - 1 ≤ length more = omega (arith, c.if-len-rest.false) in
    let behind : rest ≡ drop 4 c.args.bytes.now = search rules in
    let far : (i : ℕ) → get_or (drop 1 (drop 4 c.args.bytes.now)) i 0 < 256 = λ i. rw get_or-drop (rw get_or-drop ((c.type_inv.bytes (4 + (1 + i))).fits)) in
    let are : (i : ℕ) → get_or more i 0 < 256 = λ i. subst (λ (xs : List ℕ). get_or (drop 1 xs) i 0 < 256) front (subst (λ (xs : List ℕ). get_or (drop 1 xs) i 0 < 256) (sym behind) (far i)) in
    let bytes : AreBytes (take (n - 1) more) = bytes_of_take (n - 1) more are in (
      drop (n - 1) more,
      lends c.args.bytes.now four rest more n kind whole front one c.length_of-length.ensures.told (omega (arith, c.if-length-eq0.false)) within,
      (bytes, omega (arith, length-take-le (n - 1) more within, c.length_of-length.ensures.small, c.if-length-eq0.false)),
    )
