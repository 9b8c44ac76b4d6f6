use Rattle.paged.proofs.Shortening.{stages_unsynced}
use Rattle.paged.proofs.truncate.Recovery+B+H.stage_durably.Goals as goal

pub returns-in_ok-stage : goal.returns-in_ok-stage
returns-in_ok-stage g c =
    stages_unsynced c.args.self.now.page_size c.args.page c.args.value.slot c.args.crc c.args.unsynced (g.B.Blob.life c.args.blob.now) (g.B.Blob.life c.stage.new.blob) (g.B.Blob.life c.sync.new.self) c.sync.result c.if-unsynced.true c.in_ok-stage.ensures.goes c.sync.ensures.goes
