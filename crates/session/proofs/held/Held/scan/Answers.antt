use Rattle.std.proofs.Common.{◌∙◌, sym, subst}
use Rattle.std.specs.Prelude.{Option}
use Rattle.std.specs.Int.NonZero.{non_zero_usize_get}
use Rattle.writer_state.specs.WriterState.{WriterState}
use Rattle.session.specs.declared.steps.Reply.TheVariants.{Length, Fault}
use Rattle.session.specs.Calls.{DidScan}
use Rattle.session.proofs.Below.{leaves_cache}
use Rattle.session.proofs.SnapshotLaws.{fits_on}
use Rattle.session.proofs.held.Held.scan.Goals as goal

pub returns-in-Ok-clause-goes : goal.returns-in-Ok-clause-goes
returns-in-Ok-clause-goes g c =
    let at = sym c.self.view_is ∙ c.in-Some.is in
    let is = c.in-Ok.ensures in
    let size = non_zero_usize_get c.args.buffer_size in
    subst (λ (o : Option WriterState). DidScan g.H.Sum.sum_of o c.args.proven c.args.most size (g.B.Blob.life c.args.blob.now) (g.B.Blob.life c.recoverable_prefix_len_at_most.new.blob) (Length c.in-Ok.len)) (sym at)
    (record { counts = record { goes = is.goes; costs = is.costs }; looked = is.leaves.looked })

pub returns-in-Ok-clause-cached : goal.returns-in-Ok-clause-cached
returns-in-Ok-clause-cached g c = λ cache fits.
    fits_on c.args.self.now cache cache (g.B.Blob.life c.args.blob.now) (g.B.Blob.life c.recoverable_prefix_len_at_most.new.blob) (c.in-Ok.ensures.leaves.can_read cache) fits

pub returns-in-Err-clause-cached : goal.returns-in-Err-clause-cached
returns-in-Err-clause-cached g c = λ cache fits.
    fits_on c.args.self.now cache cache (g.B.Blob.life c.args.blob.now) (g.B.Blob.life c.recoverable_prefix_len_at_most.new.blob) (c.in-Err.ensures.leaves.can_read cache) fits

pub returns-in-Err-clause-goes : goal.returns-in-Err-clause-goes
returns-in-Err-clause-goes g c =
    let at = sym c.self.view_is ∙ c.in-Some.is in
    let is = c.in-Err.ensures in
    let size = non_zero_usize_get c.args.buffer_size in
    subst (λ (o : Option WriterState). DidScan g.H.Sum.sum_of o c.args.proven c.args.most size (g.B.Blob.life c.args.blob.now) (g.B.Blob.life c.recoverable_prefix_len_at_most.new.blob) (Fault c.in-Err.error)) (sym at)
    (record { counts = record { goes = is.goes; costs = is.costs }; looked = is.leaves.looked })

pub returns-in-Ok-clause-tails : goal.returns-in-Ok-clause-tails
returns-in-Ok-clause-tails g c = λ cache.
    leaves_cache g.H.Sum.sum_of c.args.self.now cache (g.B.Blob.life c.args.blob.now) (g.B.Blob.life c.recoverable_prefix_len_at_most.new.blob) (c.in-Ok.ensures.leaves.tails cache) c.in-Ok.ensures.leaves.replays

pub returns-in-Err-clause-tails : goal.returns-in-Err-clause-tails
returns-in-Err-clause-tails g c = λ cache.
    leaves_cache g.H.Sum.sum_of c.args.self.now cache (g.B.Blob.life c.args.blob.now) (g.B.Blob.life c.recoverable_prefix_len_at_most.new.blob) (c.in-Err.ensures.leaves.tails cache) c.in-Err.ensures.leaves.replays
