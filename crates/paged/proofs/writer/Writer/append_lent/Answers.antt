use Rattle.std.proofs.lemmas.Result.{err_from_is_err_and}
use Rattle.std.specs.Prelude.{Ok, Err}
use Rattle.std.proofs.Common.{ℕ, sym, refl, ◌++◌, Ok, Err, subst}
use Rattle.writer_state.specs.WriterState.{WriterState}
use Rattle.paged.specs.Goes.{AppendGoes}
use Rattle.paged.proofs.Answering.{append_goes, append_owes, stays_usable, usable_of}
use Rattle.paged.proofs.writer.Writer.append_lent.Goals as goal

pub append_bytes-requires : goal.append_bytes-requires
append_bytes-requires g c =
    let usable = usable_of g.H.Sum.sum_of c.args.self.now c.args.cache.now (g.B.Blob.life c.args.blob.now) c.requires.ready in
    record { cached = usable.can.page_size; holds = usable.consistent }

pub returns-in_err-append_bytes-clause-goes : goal.returns-in_err-append_bytes-clause-goes
returns-in_err-append_bytes-clause-goes g c =
    let is = c.in_err-append_bytes.ensures in
    let p = err_from_is_err_and c.from_residual.result c.from_residual.ensures.1 in
    rw (p.1, p.2) (append_goes g.H.Sum.sum_of c.args.self.now c.append_bytes.new.self c.args.bytes.now c.args.cache.now c.append_bytes.new.cache (g.B.Blob.life c.args.blob.now) (g.B.Blob.life c.append_bytes.new.blob) (Err c.in_err-append_bytes.field-0.0) is.appends is.covers tt is.overflow)

pub returns-clause-goes : goal.returns-clause-goes
returns-clause-goes g c =
    let is = c.in_ok-append_bytes.ensures in
    subst (λ (at : ℕ). AppendGoes g.H.Sum.sum_of c.args.self.now c.args.bytes.now (g.B.Blob.life c.args.blob.now) (g.B.Blob.life c.append_bytes.new.blob) (Ok (c.append_bytes.new.self, at))) (sym c.size-at.ensures)
    (append_goes g.H.Sum.sum_of c.args.self.now c.append_bytes.new.self c.args.bytes.now c.args.cache.now c.append_bytes.new.cache (g.B.Blob.life c.args.blob.now) (g.B.Blob.life c.append_bytes.new.blob) (Ok tt) is.appends is.covers is.within is.overflow)

pub returns-clause-ready : goal.returns-clause-ready
returns-clause-ready g c =
    let is = c.in_ok-append_bytes.ensures in
    stays_usable {A = WriterState × ℕ} g.H.Sum.sum_of (λ r. r.0) c.args.self.now c.args.bytes.now (c.args.self.now.tip ++ c.args.bytes.now) (g.B.Blob.life c.args.blob.now) (g.B.Blob.life c.append_bytes.new.blob) c.args.cache.now c.append_bytes.new.cache
    (c.append_bytes.new.self, c.size-at.result) c.requires.ready refl is.appends.1 is.puts

pub returns-in_err-append_bytes-clause-owes : goal.returns-in_err-append_bytes-clause-owes
returns-in_err-append_bytes-clause-owes g c =
    let is = c.in_err-append_bytes.ensures in
    append_owes g.H.Sum.sum_of c.args.self.now c.append_bytes.new.self c.args.bytes.now c.args.cache.now c.append_bytes.new.cache (g.B.Blob.life c.args.blob.now) (g.B.Blob.life c.append_bytes.new.blob) (Err c.in_err-append_bytes.field-0.0) is.appends is.covers (usable_of g.H.Sum.sum_of c.args.self.now c.args.cache.now (g.B.Blob.life c.args.blob.now) c.requires.ready) is.puts is.pages is.starts

pub returns-clause-owes : goal.returns-clause-owes
returns-clause-owes g c =
    let is = c.in_ok-append_bytes.ensures in
    append_owes g.H.Sum.sum_of c.args.self.now c.append_bytes.new.self c.args.bytes.now c.args.cache.now c.append_bytes.new.cache (g.B.Blob.life c.args.blob.now) (g.B.Blob.life c.append_bytes.new.blob) (Ok tt) is.appends is.covers (usable_of g.H.Sum.sum_of c.args.self.now c.args.cache.now (g.B.Blob.life c.args.blob.now) c.requires.ready) is.puts is.pages is.starts
