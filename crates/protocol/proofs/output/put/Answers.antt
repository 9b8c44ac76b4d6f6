use Rattle.std.proofs.Common.{◌≡◌, [], List, ℕ, sym, subst, rules, drop_of_length-le}
use Rattle.std.specs.Io.KnownBytes.{Appends}
use Rattle.std.proofs.KnownBytes.{Appends-nil}
use Rattle.protocol.proofs.output.put.Goals as goal

pub returns-then-is_empty : goal.returns-then-is_empty
returns-then-is_empty g c =
    let bytes = c.args.bytes.now in
    let out = g.W.Write.contents c.args.out.now in
    let empty : bytes ≡ [] = drop_of_length-le bytes {i = 0} (search rules) in
    subst (λ (l : List ℕ). Appends out out l) (sym empty) (Appends-nil out)
