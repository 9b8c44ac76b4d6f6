use Rattle.std.proofs.Common.{◌≡◌, ◌∙◌, ◌++◌, sym, ap, subst, arith, List, ℕ, length}
use Rattle.std.proofs.lemmas.Bool.{eqb-false}
use Rattle.std.specs.Prelude.{Some}
use Rattle.protocol.specs.Request.{Builds, number_bytes}
use Rattle.protocol.proofs.Bytes.{whole_2, whole_3}
use Rattle.protocol.proofs.Requests.{few_numbers, snap_kind}
use Rattle.protocol.proofs.request.build.Goals as goal

pub returns-then-fields-eq16 : goal.returns-then-fields-eq16
returns-then-fields-eq16 c =
    let first = number_bytes c.number_at-first.result in
    let second = number_bytes c.number_at-second.result in
    let is = whole_2 c.args.fields.now first second c.if-fields-eq16.true c.number_at-first.ensures.number c.number_at-second.ensures.number in
    subst (λ (fields : List ℕ). Builds c.args.kind fields c.build_two.result) (sym is) c.build_two.ensures

pub returns : goal.returns
returns c =
    let first = number_bytes c.number_at-first.result in
    let second = number_bytes c.number_at-second.result in
    let third = number_bytes c.number_at.result in
    let few = few_numbers c.args.kind c.requires.count c.requires.known in
    let some = eqb-false (length c.args.fields.now) 0 (sym c.if-is_empty.ensures) in
    let three : c.requires.count ≡ 3 = omega (arith, few, some, c.requires.fits) in
    let long : length c.args.fields.now ≡ 24 = omega (arith, three, c.requires.fits) in
    let is = whole_3 c.args.fields.now first second third long c.number_at-first.ensures.number c.number_at-second.ensures.number c.number_at.ensures.number in
    let snap = snap_kind c.args.kind (c.requires.known ∙ ap Some three) in
    subst (λ (fields : List ℕ). Builds c.args.kind fields c.build_snap.result) (sym is)
    (subst (λ (kind : ℕ). Builds kind (first ++ second ++ third) c.build_snap.result) (sym snap) c.build_snap.ensures)
