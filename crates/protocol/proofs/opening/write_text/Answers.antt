use Rattle.std.proofs.Common.{[], length, refl, rules}
use Rattle.std.specs.Prelude.{Err}
use Rattle.std.specs.Io.KnownBytes.{Appends}
use Rattle.std.proofs.KnownBytes.{Appends-nil}
use Rattle.protocol.specs.Opening.{text_bytes}
use Rattle.protocol.specs.Output.{PutsBytes}
use Rattle.protocol.specs.Request.{number_bytes}
use Rattle.protocol.proofs.Written.{puts_last, puts_stop}
use Rattle.protocol.proofs.opening.write_text.Goals as goal

pub returns-in_err-put : goal.returns-in_err-put
unfolding number_bytes
returns-in_err-put g c =
    let text = c.args.text.now in
    let old = g.W.Write.contents c.args.out.now in
    let new = g.W.Write.contents c.put.new.out in
    let stop = c.in_err-put.field-0.0 in
    let piece : PutsBytes (number_bytes (length text)) old new (Err stop) = search rules in
    puts_stop [] (number_bytes (length text)) text (text_bytes text) old old new stop c.from_residual.result c.from_residual.ensures.1 refl (Appends-nil old) piece

pub returns : goal.returns
unfolding number_bytes
returns g c =
    let text = c.args.text.now in
    let old = g.W.Write.contents c.args.out.now in
    let mid = g.W.Write.contents c.put.new.out in
    let new = g.W.Write.contents c.put-2.new.out in
    let first : Appends old mid (number_bytes (length text)) = search rules in
    let last : PutsBytes text mid new c.put-2.result = search rules in
    puts_last (number_bytes (length text)) text (text_bytes text) old mid new c.put-2.result refl first last
