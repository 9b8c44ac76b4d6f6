use Rattle.std.proofs.Common.{◌≡◌, ◌≤◌, ◌∙◌, ◌∷◌, List, sym, subst, true, rules}
use Rattle.std.specs.Prelude.{◌&&◌}
use Rattle.std.specs.Io.Buffered.{writer_contents}
use Rattle.session.specs.declared.steps.Reply.{Reply}
use Rattle.protocol.specs.declared.request.Request.{Request}
use Rattle.protocol.specs.Answer.{PutsAnswer}
use Rattle.protocol.specs.Request.{frame_bytes, kind_of, last_kind}
use Rattle.protocol.specs.Serve.{TakesRequest, asks_change, open_payload}
use Rattle.protocol.specs.Taking.{Finishes}
use Rattle.protocol.proofs.Requested.{both, change_refused, flush_taken, open_taken}
use Rattle.protocol.proofs.taking.take_request.Goals as goal

pub returns-then-is_change-clause-takes : goal.returns-then-is_change-clause-takes
returns-then-is_change-clause-takes g c =
    let may : (c.args.setting.now.read_only && asks_change c.args.request) ≡ true = both c.args.setting.now.read_only (asks_change c.args.request) c.if-setting.true (sym c.is_change.ensures ∙ c.if-is_change.true) in
    change_refused g.H.Sum.sum_of c.args.setting.now c.args.version c.args.request c.args.session.now (g.B.Blob.life c.args.blob.now) (g.B.Cause.sync_failed c.args.blob.now) (writer_contents g.W.Write.contents c.args.out.now) (writer_contents g.W.Write.contents c.refuse_change-written.new.out) c.refuse_change-written.result c.finish.result
    may c.refuse_change-written.ensures (subst (λ (rs : List Reply). Finishes rs c.refuse_change-written.result c.finish.result) c.requires.none c.finish.ensures.told)

pub returns-in-Flush-clause-takes : goal.returns-in-Flush-clause-takes
returns-in-Flush-clause-takes g c =
    let kind : 25 ≤ last_kind c.args.version = subst (λ (r : Request). kind_of r ≤ last_kind c.args.version) c.in-Flush.is c.requires.asked.1 in
    subst (λ (r : Request). TakesRequest g.H.Sum.sum_of c.args.setting.now c.args.version r c.args.session.now c.args.session.now (g.B.Blob.life c.args.blob.now) (g.B.Blob.life c.args.blob.now) (g.B.Cause.sync_failed c.args.blob.now) (writer_contents g.W.Write.contents c.args.out.now) (writer_contents g.W.Write.contents c.write_flushed-written.new.out) c.finish-in-Flush.result) (sym c.in-Flush.is)
    (flush_taken g.H.Sum.sum_of c.args.setting.now c.args.version c.args.session.now (g.B.Blob.life c.args.blob.now) (g.B.Cause.sync_failed c.args.blob.now) (writer_contents g.W.Write.contents c.args.out.now) (writer_contents g.W.Write.contents c.write_flushed-written.new.out) c.write_flushed-written.result c.finish-in-Flush.result
    kind c.write_flushed-written.ensures.answers (subst (λ (rs : List Reply). Finishes rs c.write_flushed-written.result c.finish-in-Flush.result) c.requires.none c.finish-in-Flush.ensures.told))

pub returns-in-CountOpen-clause-takes : goal.returns-in-CountOpen-clause-takes
returns-in-CountOpen-clause-takes g c =
    let kind : 26 ≤ last_kind c.args.version = subst (λ (r : Request). kind_of r ≤ last_kind c.args.version) c.in-CountOpen.is c.requires.asked.1 in
    let old = writer_contents g.W.Write.contents c.args.out.now in
    let new = writer_contents g.W.Write.contents c.write_open-written.new.out in
    let wrote = c.write_open-written.result in
    let life = g.B.Blob.life c.args.blob.now in
    let told : PutsAnswer (frame_bytes (0 ∷ open_payload c.args.session.now)) old new wrote = search rules in
    subst (λ (r : Request). TakesRequest g.H.Sum.sum_of c.args.setting.now c.args.version r c.args.session.now c.args.session.now life life (g.B.Cause.sync_failed c.args.blob.now) old new c.finish-in-CountOpen.result) (sym c.in-CountOpen.is)
    (open_taken g.H.Sum.sum_of c.args.setting.now c.args.version c.args.session.now life (g.B.Cause.sync_failed c.args.blob.now) old new wrote c.finish-in-CountOpen.result kind told
    (subst (λ (rs : List Reply). Finishes rs wrote c.finish-in-CountOpen.result) c.requires.none c.finish-in-CountOpen.ensures.told))
