use Rattle.paged.specs.Caches.{tail_of}
use Rattle.paged_read.proofs.Outliving.{look_leaves_reads, look_leaves_writers}
use Rattle.workloads.proofs.load.replay_all.Goals as goal

pub returns : goal.returns
returns g c =
    let sum = g.H.Sum.sum_of in
    let mid = g.B.Blob.life c.replay.new.blob in
    let new = g.B.Blob.life c.pass_all.new.blob in
    let w = c.in_ok-writer.writer in
    let begun = c.in_ok-writer.ensures.ready.0 c.requires in
    record {
      sound = (look_leaves_writers sum mid new c.pass_all.ensures w begun.sound).sound;
      can = look_leaves_reads c.replay.new.cache mid new c.pass_all.ensures (tail_of w) begun.can;
      fresh = begun.fresh;
    }
