use Rattle.std.proofs.Common.{◌++◌, ◌∷◌, rules}
use Rattle.protocol.specs.Answer.{PutsAnswer}
use Rattle.protocol.specs.Request.{frame_bytes, number_bytes}
use Rattle.protocol.proofs.Taken.{refusal_short}
use Rattle.protocol.proofs.Written.{writes_short}
use Rattle.protocol.proofs.refusal.write_cause.Goals as goal

pub returns : goal.returns
unfolding number_bytes
returns g c =
    let a = c.args in
    let answer = frame_bytes (a.status ∷ a.advice ∷ number_bytes a.taken ++ number_bytes a.number ++ a.words.now) in
    let old = g.W.Write.contents a.out.now in
    let new = g.W.Write.contents c.write_frame.new.out in
    let wrote : PutsAnswer answer old new c.write_frame.result = search rules in
    writes_short answer old new c.write_frame.result (refusal_short a.status a.advice a.taken a.number a.words.now c.requires) wrote
