use Rattle.protocol.proofs.Bytes.{length_of_bytes}
use Rattle.protocol.proofs.request.length_of.Goals as goal

pub returns-clause-told : goal.returns-clause-told
returns-clause-told c = length_of_bytes c.args.bytes.now c.from_le_bytes.result c.told-bytes c.fits-bytes c.from_le_bytes.ensures
