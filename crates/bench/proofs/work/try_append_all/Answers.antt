use Rattle.std.proofs.Common.{ap, inl}
use Rattle.paged.specs.Ready.{IsReady}
use Rattle.bench.proofs.Readiness.{ready_tried, ready_same}
use Rattle.bench.proofs.work.try_append_all.Goals as goal
use Rattle.bench.proofs.work.try_append_all.Goals.{then-is_none+in_ok-next, else-is_none}

pub loop-preserved : goal.loop-preserved
loop-preserved g c =
    let sum = g.H.Sum.sum_of in
    let life = g.B.Blob.life c.loop.blob in
    let end = g.B.Blob.life c.if-is_none.blob in
    let now = c.try_append.new.self in
    let tried : IsReady sum now c.loop.cache life = ready_tried sum c.loop.writer now c.loop.cache life c.loop.invariant c.try_append.ensures.keeps_sound c.try_append.ensures.keeps_reads in
    elim c.if-is_none.branch [
      | then-is_none+in_ok-next w ↦
          let next = w.in_ok-next.next in
          let new = g.B.Blob.life w.append.new.blob in
          ready_same sum c.if-is_none.writer next c.if-is_none.cache w.append.new.cache end new w.writer-is w.cache-is (ap g.B.Blob.life w.blob-is)
          (w.in_ok-next.ensures.ready.0 tried)
      | else-is_none w ↦ ready_same sum c.if-is_none.writer now c.if-is_none.cache c.loop.cache end life w.writer-is w.cache-is (ap g.B.Blob.life w.blob-is) tried
    ]

pub append-requires : goal.append-requires
append-requires g c =
    record { ready = inl (ready_tried g.H.Sum.sum_of c.loop.writer c.try_append.new.self c.loop.cache (g.B.Blob.life c.loop.blob) c.loop.invariant c.try_append.ensures.keeps_sound c.try_append.ensures.keeps_reads) }
