use Rattle.std.proofs.Common.{◌≡◌, ◌+◌, ◌-◌, ◌++◌, ◌<◌, ◌∙◌, List, ℕ, true, length, take, drop, sym, ap, ap₂, refl, arith}
use Rattle.std.specs.Prelude.{Some}
use Rattle.journal.specs.Frame.{record_len, frame_len, is_record}
use Rattle.journal.proofs.Frames.{front_is, record_of-after, record_of-none, record_of-short}
use Rattle.journal.proofs.frame.record_at.Given.{Over}
use Rattle.journal.proofs.frame.record_at.Goals as goal
use Rattle.journal.proofs.frame.record_at.Goals.{After-is_record_of}

pub returns-then-bytes-end-clause-found : goal.returns-then-bytes-end-clause-found
returns-then-bytes-end-clause-found g c =
    let held = c.args.framed.now in
    let same : c.as_ref-bytes.result.now ≡ held = c.as_ref-bytes.ensures in
    let says : c.record_len_of-end.result ≡ record_len held = c.record_len_of-end.ensures.len ∙ ap record_len same in
    let short : length held < frame_len held = omega (arith, says, c.if-bytes-end.true, ap length same) in
    sym (record_of-short g.R.Sum.sum_of held short)

-- whether the frame at the front is a record, by its parts
judged : (g : Over) (c : After-is_record_of g) → c.is_record_of.result ≡ is_record g.R.Sum.sum_of c.args.framed.now
judged g c =
    let sum = g.R.Sum.sum_of in
    let held = c.as_ref-bytes.result.now in
    let n = c.record_len_of-end.result in
    let a : 2 + n - 2 ≡ n = omega arith in
    let b : 2 + n + 5 - (2 + n) ≡ 5 = omega arith in
    let is : c.is_record_of.result ≡ is_record sum held =
    front_is sum held n c.is_record_of.result c.record_len_of-end.ensures.len (omega (arith, c.if-bytes-end.false))
    (λ frame says rest.
    c.is_record_of.ensures frame (says ∙ ap (λ m. length (take m (drop 2 held))) (sym a))
    (rest ∙ ap₂ (λ i j. take i (drop 2 held) ++ take j (drop (2 + n) held)) (sym a) (sym b))) in
    is ∙ ap (λ (l : List ℕ). is_record sum l) c.as_ref-bytes.ensures

pub returns-then-not-is_record_of-clause-found : goal.returns-then-not-is_record_of-clause-found
returns-then-not-is_record_of-clause-found g c =
    record_of-none g.R.Sum.sum_of c.args.framed.now
    (sym (judged g (goal.at.returns-then-not-is_record_of-clause-found g c).After-is_record_of) ∙ c.if-not-is_record_of.true)

pub returns-clause-found : goal.returns-clause-found
returns-clause-found g c =
    let held = c.args.framed.now in
    let same : c.as_ref-bytes.result.now ≡ held = c.as_ref-bytes.ensures in
    let says : c.record_len_of-end.result ≡ record_len held = c.record_len_of-end.ensures.len ∙ ap record_len same in
    let is : is_record g.R.Sum.sum_of held ≡ true = sym (judged g (goal.at.returns-clause-found g c).After-is_record_of) ∙ c.if-not-is_record_of.false in
    ap Some c.in_ok-slice.ensures.ok ∙ record_of-after g.R.Sum.sum_of held held 2 c.record_len_of-end.result is (sym says) refl
