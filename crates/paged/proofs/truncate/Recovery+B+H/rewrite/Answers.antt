use Rattle.paged.proofs.Shortening.{rewrites_last}
use Rattle.paged.proofs.truncate.Recovery+B+H.rewrite.Goals as goal

pub returns : goal.returns
returns g c =
    let life = g.B.Blob.life in
    rewrites_last c.args.self.now.page_size c.args.page c.args.value.slot c.args.new.slot c.args.new.len c.args.new.crc c.args.unsynced (life c.args.blob.now) (life c.stage_durably.new.blob) (life c.publish.new.blob) (life c.clear.new.blob) c.clear.result c.requires.slot
    c.in_ok-stage_durably.ensures c.in_ok-publish.ensures.goes c.clear.ensures.goes
