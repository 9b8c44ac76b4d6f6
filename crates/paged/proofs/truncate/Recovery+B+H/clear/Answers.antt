use Rattle.std.proofs.Common.{true, ap, length, arith}
use Rattle.paged.proofs.Shortening.{slot_spared}
use Rattle.paged.proofs.truncate.Recovery+B+H.clear.Goals as goal

pub returns-clause-holds : goal.returns-clause-holds
returns-clause-holds g c =
    slot_spared g.H.Sum.sum_of c.args.self.now.page_size c.args.page c.args.new c.other.result c.slot_bytes.result true (g.B.Blob.life c.args.blob.now) (g.B.Blob.life c.write_slot.new.blob) c.write_slot.result c.other.ensures (g.met.B.Blob.readable_is_image c.args.blob.now) (λ is. c.requires.settled)
    (omega (arith, ap length c.slot_bytes.ensures)) c.write_slot.ensures
