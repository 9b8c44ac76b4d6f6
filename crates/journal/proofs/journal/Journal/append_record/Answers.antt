use Rattle.std.proofs.Common.{◌≡◌, ◌++◌, ◌∷◌, [], List, ℕ, subst, sym, ◌∙◌}
use Rattle.writer_state.specs.Sound.{content}
use Rattle.writer_state.specs.WriterState.{WriterState}
use Rattle.paged.specs.Goes.{AppendGoes}
use Rattle.paged.specs.Owes.{Owes}
use Rattle.paged.specs.Costs.{AppendCosts}
use Rattle.paged.specs.Ready.{IsReady}
use Rattle.journal.specs.Frame.{frame}
use Rattle.journal.specs.Calls.{JournalCallLeaves}
use Rattle.journal.specs.Journal.{records_in}
use Rattle.journal.proofs.Journals.{append_goes, append_gives, buffer_refused, buffered, before_append, after_append, not_fitting, ready_of, whole_of}
use Rattle.journal.proofs.Readers.{nothing_leaves, owed_leaves}
use Rattle.journal.proofs.Starts.{append_starts, buffered_starts}
use Rattle.journal.proofs.Costs.{costs_buffered, costs_refused, costs_unframed}
use Rattle.journal.proofs.journal.Journal.append_record.Given.{Over}
use Rattle.journal.proofs.journal.Journal.append_record.Goals as goal
use Rattle.journal.proofs.journal.Journal.append_record.Goals.{After-append, After-try_append}

-- where the buffer has no room the journal is as it was
same : (g : Over) (c : After-append g) → c.try_append.new.self ≡ c.args.self
same g c = not_fitting c.args.self c.try_append.new.self (frame g.R.Sum.sum_of c.args.bytes.now) _ c.in_default.is c.in_ok-offset.ensures.tries

-- nothing was asked of the device
unasked : (g : Over) (c : After-try_append g)
    → JournalCallLeaves g.H.Sum.sum_of g.R.Sum.sum_of c.args.self (records_in g.R.Sum.sum_of c.args.self (g.B.Blob.life c.args.blob.now) ++ c.args.bytes.now ∷ []) c.args.cache.now c.args.cache.now (g.B.Blob.life c.args.blob.now) (g.B.Blob.life c.args.blob.now)
unasked g c =
    let own = g.R.Sum.sum_of in
    let w = c.args.self in
    let life = g.B.Blob.life c.args.blob.now in
    nothing_leaves g.H.Sum.sum_of own w (records_in own w life ++ c.args.bytes.now ∷ []) c.args.cache.now life c.requires.journal (before_append own (content w life.present.readable) c.args.bytes.now)

pub returns-in_err-offset-clause-goes : goal.returns-in_err-offset-clause-goes
returns-in_err-offset-clause-goes g c =
    buffer_refused g.H.Sum.sum_of g.R.Sum.sum_of c.args.self c.try_append.new.self c.args.bytes.now c.args.cache.now (g.B.Blob.life c.args.blob.now) c.in_err-offset.field-0.0 c.from_residual.result
    c.from_residual.ensures.1 c.in_err-offset.ensures.tries

pub returns-in_err-offset-clause-leaves : goal.returns-in_err-offset-clause-leaves
returns-in_err-offset-clause-leaves g c = unasked g (goal.at.returns-in_err-offset-clause-leaves g c).After-try_append

pub returns-in-Some-clause-goes : goal.returns-in-Some-clause-goes
returns-in-Some-clause-goes g c =
    let tried = c.in_ok-offset.ensures in
    buffered g.H.Sum.sum_of g.R.Sum.sum_of c.args.self c.try_append.new.self c.args.bytes.now c.args.cache.now (g.B.Blob.life c.args.blob.now) c.in-Some.offset _
    c.requires.short (g.met.R.Sum.small c.args.bytes.now) c.requires.journal c.in-Some.is tried.appends tried.can_read
    (buffered_starts g.H.Sum.sum_of g.R.Sum.sum_of c.args.self c.try_append.new.self (frame g.R.Sum.sum_of c.args.bytes.now) c.args.cache.now (g.B.Blob.life c.args.blob.now) c.in-Some.offset _ c.requires.journal c.in-Some.is tried.tries tried.appends)

pub returns-in-Some-clause-ready : goal.returns-in-Some-clause-ready
returns-in-Some-clause-ready g c = (returns-in-Some-clause-goes g c).journal

pub returns-in-Some-clause-leaves : goal.returns-in-Some-clause-leaves
returns-in-Some-clause-leaves g c = unasked g (goal.at.returns-in-Some-clause-leaves g c).After-try_append

pub returns-in_err-framed-clause-leaves : goal.returns-in_err-framed-clause-leaves
returns-in_err-framed-clause-leaves g c = unasked g (goal.at.returns-in_err-framed-clause-leaves g c).After-try_append

pub append-requires : goal.append-requires
append-requires g c =
    let life = g.B.Blob.life c.args.blob.now in
    let same : c.try_append.new.self ≡ c.args.self = not_fitting c.args.self c.try_append.new.self (frame g.R.Sum.sum_of c.args.bytes.now) _ c.in_default.is c.in_ok-offset.ensures.tries in
    record {
      ready = subst (λ (w : WriterState). IsReady g.H.Sum.sum_of w c.args.cache.now life) (sym same) (ready_of g.H.Sum.sum_of c.args.self c.args.cache.now life c.requires.journal);
    }

pub returns-clause-goes : goal.returns-clause-goes
returns-clause-goes g c =
    let w = c.args.self in
    let old = g.B.Blob.life c.args.blob.now in
    let new = g.B.Blob.life c.append.new.blob in
    let framed : c.deref.result.now ≡ frame g.R.Sum.sum_of c.args.bytes.now = c.deref.ensures.value ∙ c.in_ok-framed.ensures.framed in
    let stays = same g (goal.at.returns-clause-goes g c).After-append in
    let goes : AppendGoes g.H.Sum.sum_of w c.deref.result.now old new c.append.result = subst (λ (v : WriterState). AppendGoes g.H.Sum.sum_of v c.deref.result.now old new c.append.result) stays c.append.ensures.goes in
    let owes : Owes g.H.Sum.sum_of w (content w old.present.readable ++ c.deref.result.now) c.args.cache.now c.append.new.cache old new =
    subst (λ (v : WriterState). Owes g.H.Sum.sum_of v (content v old.present.readable ++ c.deref.result.now) c.args.cache.now c.append.new.cache old new) stays c.append.ensures.owes in
    append_goes g.H.Sum.sum_of g.R.Sum.sum_of w c.args.bytes.now c.append.new.cache old new c.append.result c.requires.short (g.met.R.Sum.small c.args.bytes.now) (whole_of g.H.Sum.sum_of w c.args.cache.now old c.requires.journal)
    (subst (λ (b : List ℕ). AppendGoes g.H.Sum.sum_of w b old new c.append.result) framed goes) c.append.ensures.ready
    (append_starts g.H.Sum.sum_of g.R.Sum.sum_of w c.deref.result.now (content w old.present.readable ++ c.deref.result.now) c.args.cache.now c.append.new.cache old new c.append.result goes owes)

pub returns-clause-ready : goal.returns-clause-ready
returns-clause-ready g c =
    append_gives g.H.Sum.sum_of g.R.Sum.sum_of c.args.self c.args.bytes.now c.append.new.cache (g.B.Blob.life c.args.blob.now) (g.B.Blob.life c.append.new.blob) c.append.result (returns-clause-goes g c)

pub returns-clause-leaves : goal.returns-clause-leaves
returns-clause-leaves g c =
    let sum = g.H.Sum.sum_of in
    let own = g.R.Sum.sum_of in
    let w = c.args.self in
    let cache = c.args.cache.now in
    let after = c.append.new.cache in
    let old = g.B.Blob.life c.args.blob.now in
    let new = g.B.Blob.life c.append.new.blob in
    let before = content w old.present.readable in
    let framed : c.deref.result.now ≡ frame own c.args.bytes.now = c.deref.ensures.value ∙ c.in_ok-framed.ensures.framed in
    let owes : Owes sum w (before ++ c.deref.result.now) cache after old new =
    subst (λ (v : WriterState). Owes sum v (content v old.present.readable ++ c.deref.result.now) cache after old new) (same g (goal.at.returns-clause-leaves g c).After-append) c.append.ensures.owes in
    owed_leaves sum own w (records_in own w old ++ c.args.bytes.now ∷ []) (before ++ frame own c.args.bytes.now) cache after old new
    (before_append own before c.args.bytes.now) (after_append own before c.args.bytes.now c.requires.short (g.met.R.Sum.small c.args.bytes.now) (whole_of sum w cache old c.requires.journal))
    (subst (λ (b : List ℕ). Owes sum w (before ++ b) cache after old new) framed owes)

pub returns-in_err-offset-clause-costs : goal.returns-in_err-offset-clause-costs
returns-in_err-offset-clause-costs g c =
    costs_refused c.args.self c.try_append.new.self (frame g.R.Sum.sum_of c.args.bytes.now) c.args.cache.now (g.B.Blob.life c.args.blob.now) c.in_err-offset.field-0.0 c.from_residual.result c.from_residual.ensures.1 c.in_err-offset.ensures.tries

pub returns-in-Some-clause-costs : goal.returns-in-Some-clause-costs
returns-in-Some-clause-costs g c =
    costs_buffered c.args.self c.try_append.new.self (frame g.R.Sum.sum_of c.args.bytes.now) c.args.cache.now (g.B.Blob.life c.args.blob.now) c.in-Some.offset _ c.in-Some.is c.in_ok-offset.ensures.tries

pub returns-in_err-framed-clause-costs : goal.returns-in_err-framed-clause-costs
returns-in_err-framed-clause-costs g c =
    costs_unframed c.args.self (frame g.R.Sum.sum_of c.args.bytes.now) c.args.cache.now (g.B.Blob.life c.args.blob.now) c.in_err-framed.field-0.0 c.from_residual-in_err-framed.result c.from_residual-in_err-framed.ensures.1 c.in_err-framed.ensures.err

pub returns-clause-costs : goal.returns-clause-costs
returns-clause-costs g c =
    let old = g.B.Blob.life c.args.blob.now in
    let new = g.B.Blob.life c.append.new.blob in
    let framed : c.deref.result.now ≡ frame g.R.Sum.sum_of c.args.bytes.now = c.deref.ensures.value ∙ c.in_ok-framed.ensures.framed in
    subst (λ (b : List ℕ). AppendCosts c.args.self b c.args.cache.now c.append.new.cache old new c.append.result) framed
    (subst (λ (v : WriterState). AppendCosts v c.deref.result.now c.args.cache.now c.append.new.cache old new c.append.result) (same g (goal.at.returns-clause-costs g c).After-append) c.append.ensures.costs)
