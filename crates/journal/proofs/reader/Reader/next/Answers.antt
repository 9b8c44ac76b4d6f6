use Rattle.std.proofs.Common.{ap, subst, sym}
use Rattle.paged_read.specs.Tail.{logical_bytes, Tail}
use Rattle.journal.specs.Costs.{NextCosts}
use Rattle.journal.specs.Reader.{IsOpenSnapshot, OnlyLooks, ReaderState}
use Rattle.journal.proofs.Readers.{is_reader, looks_leave, opened_by}
use Rattle.journal.proofs.reader.Reader.next.Given.{Over}
use Rattle.journal.proofs.reader.Reader.next.Goals as goal
use Rattle.journal.proofs.reader.Reader.next.Goals.{After-find_record}

pub find_record-requires : goal.find_record-requires
find_record-requires g c =
    let life = g.B.Blob.life c.args.blob.now in
    record {
      opened = subst (λ (t : Tail). IsOpenSnapshot g.H.Sum.sum_of t c.args.cache.now life) (sym (ap (λ (r : ReaderState). r.tail) c.self.view_is))
          (opened_by g.H.Sum.sum_of c.args.self.now c.args.cache.now life c.requires.reader);
    }

-- the reads of the reader's snapshot
looks : (g : Over) (c : After-find_record g) → OnlyLooks g.H.Sum.sum_of c.args.self.now.tail c.args.cache.now c.find_record.new.cache (g.B.Blob.life c.args.blob.now) (g.B.Blob.life c.find_record.new.blob)
looks g c =
    subst (λ (t : Tail). OnlyLooks g.H.Sum.sum_of t c.args.cache.now c.find_record.new.cache (g.B.Blob.life c.args.blob.now) (g.B.Blob.life c.find_record.new.blob))
    (ap (λ (r : ReaderState). r.tail) c.self.view_is) c.find_record.ensures.leaves

pub returns-in_err-found-clause-ready : goal.returns-in_err-found-clause-ready
returns-in_err-found-clause-ready g c =
    is_reader g.H.Sum.sum_of c.args.self.now c.find_record.new.cache (g.B.Blob.life c.find_record.new.blob) (looks g (goal.at.returns-in_err-found-clause-ready g c).After-find_record).opened

pub returns-clause-ready : goal.returns-clause-ready
returns-clause-ready g c =
    is_reader g.H.Sum.sum_of (record { tail = c.self.inside.snapshot; offset = c.in_ok-found.found.end }) c.find_record.new.cache (g.B.Blob.life c.find_record.new.blob) c.find_record.ensures.leaves.opened

pub returns-in_err-found-clause-leaves : goal.returns-in_err-found-clause-leaves
returns-in_err-found-clause-leaves g c =
    looks_leave g.H.Sum.sum_of g.R.Sum.sum_of c.args.self.now c.args.cache.now c.find_record.new.cache (g.B.Blob.life c.args.blob.now) (g.B.Blob.life c.find_record.new.blob) (looks g (goal.at.returns-in_err-found-clause-leaves g c).After-find_record)

pub returns-clause-leaves : goal.returns-clause-leaves
returns-clause-leaves g c =
    looks_leave g.H.Sum.sum_of g.R.Sum.sum_of c.args.self.now c.args.cache.now c.find_record.new.cache (g.B.Blob.life c.args.blob.now) (g.B.Blob.life c.find_record.new.blob) (looks g (goal.at.returns-clause-leaves g c).After-find_record)

-- what these reads asked for
costs : (g : Over) (c : After-find_record g)
    → let old = g.B.Blob.life c.args.blob.now in
    let t = c.args.self.now.tail in
    NextCosts g.R.Sum.sum_of t (logical_bytes t old.present.readable) c.args.self.now.offset c.args.cache.now c.find_record.new.cache old (g.B.Blob.life c.find_record.new.blob)
costs g c =
    let old = g.B.Blob.life c.args.blob.now in
    subst (λ (r : ReaderState). NextCosts g.R.Sum.sum_of r.tail (logical_bytes r.tail old.present.readable) r.offset c.args.cache.now c.find_record.new.cache old (g.B.Blob.life c.find_record.new.blob)) c.self.view_is c.find_record.ensures.costs

pub returns-in_err-found-clause-costs : goal.returns-in_err-found-clause-costs
returns-in_err-found-clause-costs g c = costs g (goal.at.returns-in_err-found-clause-costs g c).After-find_record

pub returns-clause-costs : goal.returns-clause-costs
returns-clause-costs g c = costs g (goal.at.returns-clause-costs g c).After-find_record
