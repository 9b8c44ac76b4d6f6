use Rattle.std.proofs.Common.{rules, ◌≡◌, slice_index_or, ◌∷◌, ◌++◌, ◌+◌, ◌*◌, [], List, ℕ, take, drop, length, ap, ◌∙◌, sym, subst, arith}
use Rattle.std.proofs.lemmas.List.{take_more, take_all}
use Rattle.std.specs.List.{flat_map}
use Rattle.std.specs.Prelude.{Err}
use Rattle.std.specs.Io.KnownBytes.{Appends}
use Rattle.std.proofs.KnownBytes.{Appends-trans}
use Rattle.std.proofs.lemmas.Grind.{common_steps}
use Rattle.protocol.specs.declared.stop.Stop.TheVariants.{LongAnswer}
use Rattle.protocol.specs.Answer.{IsLong, head_bytes}
use Rattle.protocol.specs.Output.{PutsBytes}
use Rattle.protocol.specs.Request.{number_bytes}
use Rattle.protocol.proofs.Serving.{length_of_numbers, numbers_more, numbers_split}
use Rattle.protocol.proofs.Written.{frame_breaks, frame_stops, head_then, long_unwritten}
use Rattle.protocol.proofs.answer.write_numbers.Goals as goal

pub loop-number-preserved : goal.loop-number-preserved
unfolding number_bytes
loop-number-preserved g c =
    let numbers = c.args.numbers.now in
    let i = c.loop-number.number-index in
    let head = head_bytes 0 (8 * length numbers) in
    let old = g.W.Write.contents c.args.out.now in
    let mid = g.W.Write.contents c.loop-number.out in
    let new = g.W.Write.contents c.put.new.out in
    let n = slice_index_or numbers i 0 in
    let more : take (i + 1) numbers ≡ take i numbers ++ n ∷ [] = take_more numbers i 0 c.loop-number-test.true in
    let wrote : Appends mid new (number_bytes n) = subst (λ (bytes : List ℕ). Appends mid new bytes) c.to_le_bytes.ensures c.in_ok-put.ensures in
    subst (λ (bytes : List ℕ). Appends old new bytes) (numbers_more head numbers i n more)
    (Appends-trans old mid new (head ++ flat_map number_bytes (take i numbers)) (number_bytes n) c.loop-number.invariant wrote)

pub returns-in_err-len : goal.returns-in_err-len
returns-in_err-len g c =
    let payload = flat_map number_bytes c.args.numbers.now in
    let size = length_of_numbers c.args.numbers.now in
    let is : c.in_err-len.field-0.0 ≡ LongAnswer = grind (arith, common_steps) in
    let long : IsLong (length payload) = grind (arith, common_steps, size) in
    long_unwritten 0 payload (g.W.Write.contents c.args.out.now) c.in_err-len.field-0.0 c.from_residual.result c.from_residual.ensures.1 is long

pub returns-in_err-write_head : goal.returns-in_err-write_head
returns-in_err-write_head g c =
    let numbers = c.args.numbers.now in
    let len = c.in_ok-len.len in
    let long : len ≡ 8 * length numbers = search rules in
    frame_stops 0 len (flat_map number_bytes numbers) (g.W.Write.contents c.args.out.now) (g.W.Write.contents c.write_head.new.out) c.in_err-write_head.field-0.0 c.from_residual-in_err-write_head.result c.from_residual-in_err-write_head.ensures.1
    (long ∙ sym (length_of_numbers numbers)) c.in_err-write_head.ensures

pub returns-in_err-put : goal.returns-in_err-put
unfolding number_bytes
returns-in_err-put g c =
    let numbers = c.args.numbers.now in
    let i = c.loop-number.number-index in
    let len = 8 * length numbers in
    let mid = g.W.Write.contents c.loop-number.out in
    let new = g.W.Write.contents c.put.new.out in
    let stop = c.in_err-put.field-0.0 in
    let n = slice_index_or numbers i 0 in
    let more : take (i + 1) numbers ≡ take i numbers ++ n ∷ [] = take_more numbers i 0 c.loop-number-test.true in
    let wrote : PutsBytes (number_bytes n) mid new (Err stop) = subst (λ (bytes : List ℕ). PutsBytes bytes mid new (Err stop)) c.to_le_bytes.ensures c.in_err-put.ensures in
    frame_breaks 0 len (flat_map number_bytes numbers) (flat_map number_bytes (take i numbers)) (number_bytes n) (flat_map number_bytes (drop (i + 1) numbers)) (g.W.Write.contents c.args.out.now) mid new stop c.from_residual-in_err-put.result c.from_residual-in_err-put.ensures.1
    (sym (length_of_numbers numbers)) (numbers_split numbers i n more) c.loop-number.invariant wrote

pub returns : goal.returns
returns g c =
    let numbers = c.args.numbers.now in
    let i = c.loop-number.number-index in
    let head = head_bytes 0 (8 * length numbers) in
    let old = g.W.Write.contents c.args.out.now in
    let new = g.W.Write.contents c.loop-number.out in
    let all : take i numbers ≡ numbers = take_all i numbers (omega (arith, c.loop-number-test.false)) in
    subst (λ (bytes : List ℕ). Appends old new bytes) (ap (λ (ns : List ℕ). head ++ flat_map number_bytes ns) all ∙ head_then 0 (8 * length numbers) (flat_map number_bytes numbers) (sym (length_of_numbers numbers))) c.loop-number.invariant
