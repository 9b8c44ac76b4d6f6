use Rattle.std.proofs.Common.{◌≡◌, slice_index_or, ◌∷◌, ◌++◌, ◌+◌, [], List, ℕ, take, drop, sym, ap, ◌∙◌, subst, arith}
use Rattle.std.specs.Prelude.{Err}
use Rattle.std.proofs.lemmas.List.{take_more, take_all}
use Rattle.std.specs.List.{flat_map}
use Rattle.std.specs.Io.KnownBytes.{Appends}
use Rattle.std.proofs.KnownBytes.{Appends-trans}
use Rattle.protocol.specs.Output.{PutsBytes}
use Rattle.protocol.specs.Request.{number_bytes}
use Rattle.protocol.proofs.Serving.{flat_map_snoc, numbers_split}
use Rattle.protocol.proofs.Written.{puts_stop}
use Rattle.protocol.proofs.opening.write_all_numbers.Goals as goal

pub loop-number-preserved : goal.loop-number-preserved
unfolding number_bytes
loop-number-preserved g c =
    let numbers = c.args.numbers.now in
    let i = c.loop-number.number-index in
    let old = g.W.Write.contents c.args.out.now in
    let mid = g.W.Write.contents c.loop-number.out in
    let new = g.W.Write.contents c.put.new.out in
    let n = slice_index_or numbers i 0 in
    let more : take (i + 1) numbers ≡ take i numbers ++ n ∷ [] = take_more numbers i 0 c.loop-number-test.true in
    let wrote : Appends mid new (number_bytes n) = subst (λ (bytes : List ℕ). Appends mid new bytes) c.to_le_bytes.ensures c.in_ok-put.ensures in
    subst (λ (bytes : List ℕ). Appends old new bytes) (sym (flat_map_snoc number_bytes (take i numbers) n) ∙ ap (λ (ns : List ℕ). flat_map number_bytes ns) (sym more))
    (Appends-trans old mid new (flat_map number_bytes (take i numbers)) (number_bytes n) c.loop-number.invariant wrote)

pub returns-in_err-put : goal.returns-in_err-put
unfolding number_bytes
returns-in_err-put g c =
    let numbers = c.args.numbers.now in
    let i = c.loop-number.number-index in
    let mid = g.W.Write.contents c.loop-number.out in
    let new = g.W.Write.contents c.put.new.out in
    let stop = c.in_err-put.field-0.0 in
    let n = slice_index_or numbers i 0 in
    let more : take (i + 1) numbers ≡ take i numbers ++ n ∷ [] = take_more numbers i 0 c.loop-number-test.true in
    let wrote : PutsBytes (number_bytes n) mid new (Err stop) = subst (λ (bytes : List ℕ). PutsBytes bytes mid new (Err stop)) c.to_le_bytes.ensures c.in_err-put.ensures in
    puts_stop (flat_map number_bytes (take i numbers)) (number_bytes n) (flat_map number_bytes (drop (i + 1) numbers)) (flat_map number_bytes numbers) (g.W.Write.contents c.args.out.now) mid new stop c.from_residual.result c.from_residual.ensures.1
    (numbers_split numbers i n more) c.loop-number.invariant wrote

pub returns : goal.returns
returns g c =
    let numbers = c.args.numbers.now in
    let i = c.loop-number.number-index in
    let all : take i numbers ≡ numbers = take_all i numbers (omega (arith, c.loop-number-test.false)) in
    subst (λ (bytes : List ℕ). Appends (g.W.Write.contents c.args.out.now) (g.W.Write.contents c.loop-number.out) bytes) (ap (λ (ns : List ℕ). flat_map number_bytes ns) all) c.loop-number.invariant
