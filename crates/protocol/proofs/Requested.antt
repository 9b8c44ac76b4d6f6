-- Requests that were taken, from the runs of their steps and what was written.
use Rattle.std.proofs.Common.{◌≡◌, ◌≤◌, ◌<◌, Bool, true, false, ℕ, List, [], ◌∷◌, length, refl, sym, ap, ◌∙◌, subst, arith}
use Rattle.std.specs.Prelude.{Option, Result, Ok, Err, Vec, ◌&&◌, is_some, option_map}
use Rattle.std.specs.declared.alloc.Global.{Global}
use Rattle.std.proofs.lemmas.Bool.{false≢true}
use Rattle.disk.specs.Disk.{Life}
use Rattle.disk.specs.declared.error.Error.{Error}
use Rattle.cache.specs.CacheState.{CacheState}
use Rattle.paged.specs.Reads.{size_of}
use Rattle.session.specs.Run.{SessionState}
use Rattle.session.specs.declared.steps.Step.{Step}
use Rattle.session.specs.declared.steps.Step.TheVariants.{Append, ReadRanges}
use Rattle.session.specs.declared.steps.Reply.{Reply}
use Rattle.session.specs.declared.steps.Reply.TheVariants.{At}
use Rattle.protocol.specs.declared.request.Request.{Request}
use Rattle.protocol.specs.declared.request.Request.TheVariants.{Step as StepOf, Records, Ranges, SyncSize, Look, Flush, CountOpen, Close}
use Rattle.protocol.specs.declared.setting.Setting.{Setting}
use Rattle.protocol.specs.declared.stop.Stop.{Stop}
use Rattle.protocol.specs.declared.stop.Stop.TheVariants.{Malformed, Version, WouldCut, Refused, Lost, LongAnswer, Failed, OutOfMemory, NoVersion}
use Rattle.protocol.specs.declared.version.Version.{Version as ProtocolVersion}
use Rattle.protocol.specs.declared.version.Version.TheVariants.{One, Two}
use Rattle.protocol.specs.Answer.{IsAnswerWith, IsRefusalAnswer, PutsAnswer, unreadable_status}
use Rattle.protocol.specs.Request.{frame_bytes, last_kind, number_bytes}
use Rattle.protocol.specs.Serve.{AreSteps, IsAnswer, IsChangeRefused, Served, TakesRequest, asks_change, given_payload, gives_last, open_payload, can_be_read, last_payload, records_payload, steps_then}
use Rattle.protocol.specs.Serve.Served.{taken, refused}
use Rattle.protocol.specs.Taking.{Finishes, IsStepAnswer, RunsSteps, TellsUnreadable, WritesAnswer}
use Rattle.protocol.specs.declared.request.Then.{Then}
use Rattle.protocol.specs.Together.{tells_ranges, tells_records, ranges_in, record_bytes, record_lengths}
use Rattle.protocol.proofs.Serving.{taken_request, took_none, took_of}
use Rattle.protocol.proofs.Taken.{is_some_mapped}

-- the steps of ranges, and an answer, by whether the bytes of the request could be read
abbrev pub StepsBy : List ℕ → List Step → Bool → Type 0
StepsBy fields steps readable = elim readable [
  | true ↦ (ranges : Vec (ℕ × ℕ) Global) × (ranges.items ≡ ranges_in fields) × (steps ≡ ReadRanges ranges ∷ [])
  | false ↦ steps ≡ []
]

abbrev AnswerBy : (payload : List ℕ) → List Reply → (has_writer sync_failed : Bool) → List ℕ → Bool → Type 0
AnswerBy payload replies has_writer sync_failed answer readable = elim readable [
  | true ↦ IsAnswerWith payload replies has_writer sync_failed answer
  | false ↦ IsRefusalAnswer unreadable_status 0 0 answer
]

-- bytes that can't be read as ranges have no steps
pub no_steps : (setting : Setting) (fields : Vec ℕ Global) → tells_ranges fields.items ≡ false → AreSteps setting (Ranges fields) []
no_steps setting fields none = subst (StepsBy fields.items []) (sym none) refl

-- bytes that can be read as ranges have the step that reads them
pub reads_ranges : (setting : Setting) (fields : Vec ℕ Global) (ranges : Vec (ℕ × ℕ) Global) → tells_ranges fields.items ≡ true → ranges.items ≡ ranges_in fields.items → AreSteps setting (Ranges fields) (ReadRanges ranges ∷ [])
reads_ranges setting fields ranges are is = subst (StepsBy fields.items (ReadRanges ranges ∷ [])) (sym are) (ranges, is, refl)

-- ---- requests that were taken

-- the steps of a request were run, and an answer to them was written or not
pub runs_request : (sum : List ℕ → ℕ) (setting : Setting) (version : ProtocolVersion) (request : Request) (steps : List Step) (was now : SessionState) (cache after : CacheState) (old new : Life) (failed : Bool) (replies : List Reply) (out written : Option (List ℕ)) (wrote : Result (Unit {0}) Stop) (result : Result (Option Error) Stop)
    → (setting.read_only && asks_change request) ≡ false → AreSteps setting request steps → RunsSteps sum steps was now cache after old new replies (Ok tt)
    → WritesAnswer (IsAnswer version request replies now failed) out written wrote → Finishes replies wrote result → TakesRequest sum setting version request was now old new failed out written result
runs_request sum setting version request steps was now cache after old new failed replies out written wrote result may are runs writes told =
    taken_request sum setting version request steps replies was now old new failed out written wrote result may are (took_of sum steps was now cache after old new replies runs) writes told

-- the answer to one step is that to its request
pub step_answers : (version : ProtocolVersion) (step : Step) (replies : List Reply) (now : SessionState) (failed : Bool) (answer : List ℕ) → IsStepAnswer version replies (is_some now.writer) failed answer → IsAnswer version (StepOf step) replies now failed answer
step_answers One step replies now failed answer is = is
step_answers Two step replies now failed answer is = is

-- an append was taken, and answered by its offset
pub append_taken : (sum : List ℕ → ℕ) (setting : Setting) (version : ProtocolVersion) (bytes : Vec ℕ Global) (was now : SessionState) (cache after : CacheState) (old new : Life) (failed : Bool) (at : ℕ) (out written : Option (List ℕ)) (wrote : Result (Unit {0}) Stop) (result : Result (Option Error) Stop)
    → setting.read_only ≡ false → RunsSteps sum (Append bytes ∷ []) was now cache after old new (At at ∷ []) (Ok tt) → PutsAnswer (frame_bytes (0 ∷ number_bytes at)) out written wrote → Finishes [] wrote result → TakesRequest sum setting version (StepOf (Append bytes)) was now old new failed out written result
append_taken sum setting version bytes was now cache after old new failed at out written wrote result may runs writes told =
    runs_request sum setting version (StepOf (Append bytes)) (Append bytes ∷ []) was now cache after old new failed (At at ∷ []) out written wrote result (ap (λ (b : Bool). b && true) may) refl runs
    (frame_bytes (0 ∷ number_bytes at), answers version, writes) (ends wrote told)
  where
    answers : (v : ProtocolVersion) → IsAnswer v (StepOf (Append bytes)) (At at ∷ []) now failed (frame_bytes (0 ∷ number_bytes at))
    answers One = (At at, refl, refl)
    answers Two = refl

    ends : (w : Result (Unit {0}) Stop) → Finishes [] w result → Finishes (At at ∷ []) w result
    ends (Ok done) is = is
    ends (Err stop) is = is

-- the answer to a request that is answered by the last reply
pub last_answers : (setting : Setting) (request : Request) (steps : List Step) (replies : List Reply) (now : SessionState) (failed : Bool) (answer : List ℕ) → gives_last request ≡ true → AreSteps setting request steps → 0 < length steps
    → IsAnswerWith (last_payload replies) replies (is_some now.writer) failed answer → IsAnswer Two request replies now failed answer
last_answers setting (Ranges fields) steps replies now failed answer last are some is = by_flag (tells_ranges fields.items) are
  where
    by_flag : (b : Bool) → StepsBy fields.items steps b → AnswerBy (last_payload replies) replies (is_some now.writer) failed answer b
    by_flag true given = is
    by_flag false none = absurd (omega (arith, some, ap length none))
last_answers setting SyncSize steps replies now failed answer last are some is = is
last_answers setting Look steps replies now failed answer last are some is = is
last_answers setting (StepOf step) steps replies now failed answer last are some is = absurd (false≢true last)
last_answers setting (Records fields next) steps replies now failed answer last are some is = absurd (false≢true last)
last_answers setting Flush steps replies now failed answer last are some is = absurd (false≢true last)
last_answers setting CountOpen steps replies now failed answer last are some is = absurd (false≢true last)
last_answers setting Close steps replies now failed answer last are some is = absurd (false≢true last)

-- the writer is there as its size is
pub writer_there : (b : Bool) (size : Option ℕ) (now : SessionState) → b ≡ is_some size → size ≡ option_map size_of now.writer → b ≡ is_some now.writer
writer_there b size now is of = is ∙ ap is_some of ∙ is_some_mapped size_of now.writer

-- a request whose bytes can't be read was answered so
pub unreadable : (sum : List ℕ → ℕ) (setting : Setting) (request : Request) (was : SessionState) (life : Life) (failed : Bool) (out written : Option (List ℕ)) (result : Result (Option Error) Stop)
    → (setting.read_only && asks_change request) ≡ false → AreSteps setting request [] → can_be_read request ≡ false → TellsUnreadable out written result → TakesRequest sum setting Two request was was life life failed out written result
unreadable sum setting request was life failed out written result may are none tells = by_answer result tells
  where
    answered : (answer : List ℕ) → IsRefusalAnswer unreadable_status 0 0 answer → IsAnswer Two request [] was failed answer
    answered answer told = subst (AnswerBy (given_payload request [] was) [] (is_some was.writer) failed answer) (sym none) told

    served : (answer : List ℕ) → IsRefusalAnswer unreadable_status 0 0 answer → Served setting Two request [] [] was failed answer
    served answer told = taken request [] [] was failed answer may are (answered answer told)

    by_answer : (r : Result (Option Error) Stop) → TellsUnreadable out written r → TakesRequest sum setting Two request was was life life failed out written r
    by_answer (Ok fault) ((answer, told, appends), is) = ([], [], answer, served answer told, took_none sum was life, (appends, is))
    by_answer (Err stop) (is, (answer, told, part)) =
        subst (λ (x : Stop). TakesRequest sum setting Two request was was life life failed out written (Err x)) (sym is)
        ([], [], answer, served answer told, took_none sum was life, part)

-- two conditions that hold
pub both : (a b : Bool) → a ≡ true → b ≡ true → (a && b) ≡ true
both true b one other = other
both false b one other = absurd (cc one)

-- what is false with anything
pub and_false : (a : Bool) → (a && false) ≡ false
and_false true = refl
and_false false = refl

-- a change is refused, and so answered
pub change_refused : (sum : List ℕ → ℕ) (setting : Setting) (version : ProtocolVersion) (request : Request) (was : SessionState) (life : Life) (failed : Bool) (out written : Option (List ℕ)) (wrote : Result (Unit {0}) Stop) (result : Result (Option Error) Stop)
    → (setting.read_only && asks_change request) ≡ true → WritesAnswer (IsChangeRefused version) out written wrote → Finishes [] wrote result → TakesRequest sum setting version request was was life life failed out written result
change_refused sum setting version request was life failed out written (Ok done) result may (answer, is, appends) told =
    subst (λ (r : Result (Option Error) Stop). TakesRequest sum setting version request was was life life failed out written r) (sym told)
    ([], [], answer, refused request was failed answer may is, took_none sum was life, (appends, refl))
change_refused sum setting version request was life failed out written (Err stop) result may wrote told =
    subst (λ (r : Result (Option Error) Stop). TakesRequest sum setting version request was was life life failed out written r) (sym told) (by_cause stop wrote)
  where
    by_cause : (x : Stop) → WritesAnswer (IsChangeRefused version) out written (Err x) → TakesRequest sum setting version request was was life life failed out written (Err x)
    by_cause LongAnswer (answer, is, long) = ([], [], answer, refused request was failed answer may is, took_none sum was life, long)
    by_cause Failed (answer, is, part) = ([], [], answer, refused request was failed answer may is, took_none sum was life, part)
    by_cause OutOfMemory (answer, is, none) = absurd none
    by_cause (Malformed number flaw) (answer, is, none) = absurd none
    by_cause (Version byte) (answer, is, none) = absurd none
    by_cause NoVersion (answer, is, none) = absurd none
    by_cause (WouldCut cut) (answer, is, none) = absurd none
    by_cause (Refused error) (answer, is, none) = absurd none
    by_cause (Lost error) (answer, is, none) = absurd none

-- ---- records

-- the steps of records, by whether the records could be read
abbrev RecordsBy : List ℕ → Then → List Step → Bool → Type 0
RecordsBy fields next steps readable = elim readable [
  | true ↦ (bytes : Vec ℕ Global) × (bytes.items ≡ record_bytes fields) × (steps ≡ Append bytes ∷ steps_then next)
  | false ↦ steps ≡ []
]

pub no_record_steps : (setting : Setting) (fields : Vec ℕ Global) (next : Then) → tells_records fields.items ≡ false → AreSteps setting (Records fields next) []
no_record_steps setting fields next none = subst (RecordsBy fields.items next []) (sym none) refl

pub record_steps : (setting : Setting) (fields bytes : Vec ℕ Global) (next : Then) → tells_records fields.items ≡ true → bytes.items ≡ record_bytes fields.items → AreSteps setting (Records fields next) (Append bytes ∷ steps_then next)
record_steps setting fields bytes next are is = subst (RecordsBy fields.items next (Append bytes ∷ steps_then next)) (sym are) (bytes, is, refl)

-- the answer to records that could be read
pub record_answers : (fields : Vec ℕ Global) (next : Then) (replies : List Reply) (now : SessionState) (failed : Bool) (answer : List ℕ) → tells_records fields.items ≡ true
    → IsAnswerWith (records_payload (record_lengths fields.items) replies) replies (is_some now.writer) failed answer → IsAnswer Two (Records fields next) replies now failed answer
record_answers fields next replies now failed answer are is =
    subst (AnswerBy (records_payload (record_lengths fields.items) replies) replies (is_some now.writer) failed answer) (sym are) is

-- ---- a flush

-- a flush was taken, and its answer was written or not
pub flush_taken : (sum : List ℕ → ℕ) (setting : Setting) (version : ProtocolVersion) (was : SessionState) (life : Life) (failed : Bool) (out written : Option (List ℕ)) (wrote : Result (Unit {0}) Stop) (result : Result (Option Error) Stop) → 25 ≤ last_kind version
    → PutsAnswer (frame_bytes (0 ∷ [])) out written wrote → Finishes [] wrote result → TakesRequest sum setting version Flush was was life life failed out written result
flush_taken sum setting One was life failed out written wrote result within writes told = absurd (omega (arith, within))
flush_taken sum setting Two was life failed out written wrote result within writes told =
    taken_request sum setting Two Flush [] [] was was life life failed out written wrote result (and_false setting.read_only) refl (took_none sum was life) (frame_bytes (0 ∷ []), refl, writes) told

-- ---- what is open

-- how many were counted, and the answer was written, or not
pub open_taken : (sum : List ℕ → ℕ) (setting : Setting) (version : ProtocolVersion) (was : SessionState) (life : Life) (failed : Bool) (out written : Option (List ℕ)) (wrote : Result (Unit {0}) Stop) (result : Result (Option Error) Stop) → 26 ≤ last_kind version
    → PutsAnswer (frame_bytes (0 ∷ open_payload was)) out written wrote → Finishes [] wrote result → TakesRequest sum setting version CountOpen was was life life failed out written result
open_taken sum setting One was life failed out written wrote result within writes told = absurd (omega (arith, within))
open_taken sum setting Two was life failed out written wrote result within writes told =
    taken_request sum setting Two CountOpen [] [] was was life life failed out written wrote result (and_false setting.read_only) refl (took_none sum was life) (frame_bytes (0 ∷ open_payload was), refl, writes) told
