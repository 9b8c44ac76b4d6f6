use Rattle.std.proofs.Common.{◌≡◌, ◌<◌, ◌^◌, length, ap, arith, refl, Err}
use Rattle.std.specs.Vec.{with_items}
use Rattle.std.proofs.lemmas.List.{with_items_is}
use Rattle.paged_read.proofs.Leaving.{leaves_none}
use Rattle.paged.specs.Caches.{tail_of}
use Rattle.paged.specs.Reads.{size_of}
use Rattle.session.proofs.RangeLaws.{refused_says, no_room_says, served_says, fault_says}
use Rattle.session.proofs.held.Held.read_fitting.Goals as goal

pub returns-in-Err-clause-says : goal.returns-in-Err-clause-says
returns-in-Err-clause-says g c =
    refused_says g.H.Sum.sum_of c.args.writer.now c.args.cache.now c.args.ranges.now (g.B.Blob.life c.args.blob.now) c.in-Err.error c.size.result c.size.ensures (omega arith) c.in-Err.ensures

pub returns-in-Err-room_for-clause-says : goal.returns-in-Err-room_for-clause-says
returns-in-Err-room_for-clause-says g c =
    no_room_says g.H.Sum.sum_of c.args.writer.now c.args.cache.now c.args.ranges.now (g.B.Blob.life c.args.blob.now) c.in-Err-room_for.error c.size.result c.validate_read_ranges.result c.size.ensures (omega arith) c.in-Err-room_for.ensures.err
    c.in_default.not-Err c.validate_read_ranges.ensures

pub returns-in-Ok-read_ranges_into-clause-says : goal.returns-in-Ok-read_ranges_into-clause-says
returns-in-Ok-read_ranges_into-clause-says g c =
    let w = c.args.writer.now in
    let small : size_of w < 2 ^ 64 = omega (arith, c.size.ensures) in
    let is = c.in-Ok-read_ranges_into.ensures in
    let buf = c.read_ranges_into.new.buf in
    let long : length buf ≡ c.in-Ok.bytes.len = omega (arith, is.goes.size, ap length c.deref_mut.ensures.value, c.in-Ok.bytes.ok.0) in
    served_says g.H.Sum.sum_of w c.args.cache.now c.read_ranges_into.new.cache c.args.ranges.now buf (g.B.Blob.life c.args.blob.now) (g.B.Blob.life c.read_ranges_into.new.blob) c.in-Ok-read_ranges_into.count (with_items c.in-Ok.bytes buf) small (with_items_is c.in-Ok.bytes buf long) is.goes.answers is.costs is.leaves.looked

pub returns-in-Err-read_ranges_into-clause-says : goal.returns-in-Err-read_ranges_into-clause-says
returns-in-Err-read_ranges_into-clause-says g c =
    let w = c.args.writer.now in
    let small : size_of w < 2 ^ 64 = omega (arith, c.size.ensures) in
    let is = c.in-Err-read_ranges_into.ensures in
    fault_says g.H.Sum.sum_of w c.args.cache.now c.read_ranges_into.new.cache c.args.ranges.now c.read_ranges_into.new.buf (g.B.Blob.life c.args.blob.now) (g.B.Blob.life c.read_ranges_into.new.blob) c.in-Err-read_ranges_into.error small
    (λ same. is.goes.never_if_sound w c.requires.sound refl (omega arith) (ap Err same)) is.goes.answers is.costs is.leaves.looked

pub returns-in-Err-clause-leaves : goal.returns-in-Err-clause-leaves
returns-in-Err-clause-leaves g c = leaves_none (tail_of c.args.writer.now) c.args.cache.now (g.B.Blob.life c.args.blob.now) c.requires.can

pub returns-in-Err-room_for-clause-leaves : goal.returns-in-Err-room_for-clause-leaves
returns-in-Err-room_for-clause-leaves g c = leaves_none (tail_of c.args.writer.now) c.args.cache.now (g.B.Blob.life c.args.blob.now) c.requires.can

pub returns-in-Ok-read_ranges_into-clause-leaves : goal.returns-in-Ok-read_ranges_into-clause-leaves
returns-in-Ok-read_ranges_into-clause-leaves g c =
    let is = c.in-Ok-read_ranges_into.ensures.leaves in
    record { looked = is.looked; cached = is.cached; can = is.can_read (tail_of c.args.writer.now) c.requires.can; fresh = is.fresh }

pub returns-in-Ok-read_ranges_into-clause-others : goal.returns-in-Ok-read_ranges_into-clause-others
returns-in-Ok-read_ranges_into-clause-others g c = c.in-Ok-read_ranges_into.ensures.leaves.others

pub returns-in-Ok-read_ranges_into-clause-tails : goal.returns-in-Ok-read_ranges_into-clause-tails
returns-in-Ok-read_ranges_into-clause-tails g c t content under = c.in-Ok-read_ranges_into.ensures.leaves.tails t content

pub returns-in-Ok-read_ranges_into-clause-replays : goal.returns-in-Ok-read_ranges_into-clause-replays
returns-in-Ok-read_ranges_into-clause-replays g c = c.in-Ok-read_ranges_into.ensures.leaves.replays

pub returns-in-Err-read_ranges_into-clause-leaves : goal.returns-in-Err-read_ranges_into-clause-leaves
returns-in-Err-read_ranges_into-clause-leaves g c =
    let is = c.in-Err-read_ranges_into.ensures.leaves in
    record { looked = is.looked; cached = is.cached; can = is.can_read (tail_of c.args.writer.now) c.requires.can; fresh = is.fresh }

pub returns-in-Err-read_ranges_into-clause-others : goal.returns-in-Err-read_ranges_into-clause-others
returns-in-Err-read_ranges_into-clause-others g c = c.in-Err-read_ranges_into.ensures.leaves.others

pub returns-in-Err-read_ranges_into-clause-tails : goal.returns-in-Err-read_ranges_into-clause-tails
returns-in-Err-read_ranges_into-clause-tails g c t content under = c.in-Err-read_ranges_into.ensures.leaves.tails t content

pub returns-in-Err-read_ranges_into-clause-replays : goal.returns-in-Err-read_ranges_into-clause-replays
returns-in-Err-read_ranges_into-clause-replays g c = c.in-Err-read_ranges_into.ensures.leaves.replays
