use Rattle.std.proofs.Common.{List, ℕ, [], ◌∷◌, get_or, subst}
use Rattle.protocol.specs.Output.{PutsBytes}
use Rattle.protocol.specs.Request.{frame_bytes, length_bytes, number_bytes}
use Rattle.protocol.proofs.Written.{puts_answer}
use Rattle.protocol.proofs.answer.write_number.Goals as goal

pub returns : goal.returns
unfolding length_bytes number_bytes
returns g c =
    let answer = frame_bytes (0 ∷ number_bytes c.args.number) in
    let old = g.W.Write.contents c.args.out.now in
    let new = g.W.Write.contents c.put.new.out in
    let wrote : PutsBytes answer old new c.put.result =
    subst (λ (n : List ℕ). PutsBytes (9 ∷ 0 ∷ 0 ∷ 0 ∷ 0 ∷ get_or n 0 0 ∷ get_or n 1 0 ∷ get_or n 2 0 ∷ get_or n 3 0 ∷ get_or n 4 0 ∷ get_or n 5 0 ∷ get_or n 6 0 ∷ get_or n 7 0 ∷ []) old new c.put.result) c.to_le_bytes.ensures c.put.ensures in
    puts_answer answer old new c.put.result wrote
