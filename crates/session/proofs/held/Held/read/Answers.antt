use Rattle.std.proofs.Common.{◌≡◌, ◌∙◌, length, sym, ap, subst, arith}
use Rattle.std.specs.Prelude.{Option}
use Rattle.std.specs.Vec.{with_items}
use Rattle.std.proofs.lemmas.List.{with_items_is}
use Rattle.writer_state.specs.WriterState.{WriterState}
use Rattle.paged.specs.Caches.{tail_of}
use Rattle.session.specs.declared.steps.Reply.TheVariants.{Bytes, Fault}
use Rattle.session.specs.Calls.{DidRead}
use Rattle.session.specs.Run.{FitsWriter}
use Rattle.session.proofs.Below.{can_in, leaves_same}
use Rattle.session.proofs.SizeLaws.{read_fails, read_says, room_refused}
use Rattle.session.proofs.held.Held.read.Goals as goal

pub returns-in-Err-clause-goes : goal.returns-in-Err-clause-goes
returns-in-Err-clause-goes g c =
    let sum = g.H.Sum.sum_of in
    let life = g.B.Blob.life c.args.blob.now in
    let at = sym c.self.view_is ∙ c.in-Some.is in
    subst (λ (o : Option WriterState). DidRead sum o c.args.cache.now c.args.cache.now c.args.offset c.args.len life life (Fault c.in-Err.error)) (sym at)
    (room_refused sum (tail_of c.in-Some.writer) c.args.cache.now c.args.offset c.args.len c.size.result life c.in-Err.error c.size.ensures c.size.type_inv c.in-Err.ensures.err)

pub returns-in-Ok-read_into-clause-goes : goal.returns-in-Ok-read_into-clause-goes
returns-in-Ok-read_into-clause-goes g c =
    let sum = g.H.Sum.sum_of in
    let old = g.B.Blob.life c.args.blob.now in
    let new = g.B.Blob.life c.read_into.new.blob in
    let t = tail_of c.in-Some.writer in
    let is = c.in-Ok-read_into.ensures in
    let buf = c.read_into.new.buf in
    let bytes = with_items c.in-Ok.bytes buf in
    let room : length c.deref_mut.result.now ≡ c.args.len = omega (arith, ap length c.deref_mut.ensures.value, c.in-Ok.ensures.len) in
    let long : length buf ≡ c.in-Ok.bytes.len = omega (arith, is.goes.size, ap length c.deref_mut.ensures.value, c.in-Ok.bytes.ok.0) in
    let at = sym c.self.view_is ∙ c.in-Some.is in
    subst (λ (o : Option WriterState). DidRead sum o c.args.cache.now c.read_into.new.cache c.args.offset c.args.len old new (Bytes bytes)) (sym at)
    (read_says sum t c.args.cache.now c.read_into.new.cache c.args.offset c.args.len c.size.result old new c.deref_mut.result.now buf bytes c.size.ensures c.size.type_inv (with_items_is c.in-Ok.bytes buf long) room is.goes is.costs is.leaves.looked)

pub returns-in-Err-read_into-clause-goes : goal.returns-in-Err-read_into-clause-goes
returns-in-Err-read_into-clause-goes g c =
    let sum = g.H.Sum.sum_of in
    let old = g.B.Blob.life c.args.blob.now in
    let new = g.B.Blob.life c.read_into.new.blob in
    let is = c.in-Err-read_into.ensures in
    let room : length c.deref_mut.result.now ≡ c.args.len = omega (arith, ap length c.deref_mut.ensures.value, c.in-Ok.ensures.len) in
    let at = sym c.self.view_is ∙ c.in-Some.is in
    subst (λ (o : Option WriterState). DidRead sum o c.args.cache.now c.read_into.new.cache c.args.offset c.args.len old new (Fault c.in-Err-read_into.error)) (sym at)
    (read_fails sum (tail_of c.in-Some.writer) c.args.cache.now c.read_into.new.cache c.args.offset c.args.len old new c.deref_mut.result.now c.read_into.new.buf c.in-Err-read_into.error room is.goes is.costs is.leaves.looked)

pub returns-in-Ok-read_into-clause-tails : goal.returns-in-Ok-read_into-clause-tails
returns-in-Ok-read_into-clause-tails g c =
    let is = c.in-Ok-read_into.ensures in
    leaves_same g.H.Sum.sum_of c.args.self.now c.in-Some.writer c.args.cache.now c.read_into.new.cache (g.B.Blob.life c.args.blob.now) (g.B.Blob.life c.read_into.new.blob) (sym c.self.view_is ∙ c.in-Some.is) (λ t content under stands. is.leaves.tails t content stands) is.leaves.replays is.leaves.others is.leaves.cached.settings

pub returns-in-Err-read_into-clause-tails : goal.returns-in-Err-read_into-clause-tails
returns-in-Err-read_into-clause-tails g c =
    let is = c.in-Err-read_into.ensures in
    leaves_same g.H.Sum.sum_of c.args.self.now c.in-Some.writer c.args.cache.now c.read_into.new.cache (g.B.Blob.life c.args.blob.now) (g.B.Blob.life c.read_into.new.blob) (sym c.self.view_is ∙ c.in-Some.is) (λ t content under stands. is.leaves.tails t content stands) is.leaves.replays is.leaves.others is.leaves.cached.settings

pub returns-in-Ok-read_into-clause-cached : goal.returns-in-Ok-read_into-clause-cached
returns-in-Ok-read_into-clause-cached g c =
    let at = sym c.self.view_is ∙ c.in-Some.is in
    subst (λ (o : Option WriterState). FitsWriter o c.read_into.new.cache (g.B.Blob.life c.read_into.new.blob).present) (sym at)
    (c.in-Ok-read_into.ensures.leaves.can_read (tail_of c.in-Some.writer) (can_in c.args.self.now c.in-Some.writer c.args.cache.now (g.B.Blob.life c.args.blob.now).present at c.requires.cached))

pub returns-in-Err-read_into-clause-cached : goal.returns-in-Err-read_into-clause-cached
returns-in-Err-read_into-clause-cached g c =
    let at = sym c.self.view_is ∙ c.in-Some.is in
    subst (λ (o : Option WriterState). FitsWriter o c.read_into.new.cache (g.B.Blob.life c.read_into.new.blob).present) (sym at)
    (c.in-Err-read_into.ensures.leaves.can_read (tail_of c.in-Some.writer) (can_in c.args.self.now c.in-Some.writer c.args.cache.now (g.B.Blob.life c.args.blob.now).present at c.requires.cached))
