-- How a request is taken, and its answer written.
use Rattle.std.specs.Prelude.{◌≡◌, ◌≢◌, ◌⊎◌, ◌<◌, ◌+◌, ◌^◌, ℕ, List, [], ◌∷◌, Option, Some, None}
use Rattle.std.specs.Prelude.{Result, Ok, Err}
use Rattle.std.specs.Prelude.{Bool, true, false}
use Rattle.disk.specs.declared.error.Error.{Error}
use Rattle.disk.specs.Disk.{Life}
use Rattle.cache.specs.CacheState.{CacheState}
use Rattle.session.specs.declared.steps.Step.{Step}
use Rattle.session.specs.declared.steps.Reply.{Reply}
use Rattle.session.specs.declared.steps.Reply.TheVariants.{At}
use Rattle.session.specs.Run.{SessionState}
use Rattle.session.specs.Calls.{RunGoes}
use Rattle.protocol.specs.declared.stop.Stop.{Stop}
use Rattle.protocol.specs.declared.stop.Stop.TheVariants.{Failed, Malformed}
use Rattle.protocol.specs.declared.stop.Stop.TheVariants.{OutOfMemory}
use Rattle.protocol.specs.declared.version.Version.{Version as ProtocolVersion}
use Rattle.protocol.specs.declared.version.Version.TheVariants.{One, Two}
use Rattle.protocol.specs.Answer.{AppendsRefusal, AppendsRefusalPart, IsAnswerWith, PutsAnswer}
use Rattle.protocol.specs.Answer.{advice_byte, fault_in}
use Rattle.protocol.specs.Answer.{answer_bytes, first_refusal, status_byte, told_status}
use Rattle.protocol.specs.Answer.{unreadable_status}
use Rattle.protocol.specs.Request.{frame_bytes}
use Rattle.protocol.specs.Serve.{TellsFlaw, TellsFlawPart, last_payload}

-- an answer for which this holds was written; or it is too long, and nothing was written; or the
-- output failed, and a prefix of it was written
abbrev pub WritesAnswer : (List ℕ → Type 0) → (out written : Option (List ℕ))
    → Result (Unit {0}) Stop → Type 0
WritesAnswer Is out written result =
    (answer : List ℕ) × Is answer × PutsAnswer answer out written result

-- the first reply that refuses was written as a refusal, or a prefix of that was; or no reply
-- refuses, and nothing was written
abbrev pub TellsRefusal : List Reply → (has_writer sync_failed : Bool)
    → (out written : Option (List ℕ)) → Result Bool Stop → Type 0
TellsRefusal replies has_writer sync_failed out written (Ok true) =
    (taken : ℕ) × (reply : Reply) × (first_refusal replies ≡ Some (taken, reply))
    × AppendsRefusal (told_status reply sync_failed) (advice_byte reply has_writer sync_failed)
    taken out written
TellsRefusal replies has_writer sync_failed out written (Ok false) =
    (first_refusal replies ≡ None) × (written ≡ out)
TellsRefusal replies has_writer sync_failed out written (Err stop) =
    (taken : ℕ) × (reply : Reply) × (first_refusal replies ≡ Some (taken, reply))
    × (stop ≡ Failed)
    × AppendsRefusalPart (told_status reply sync_failed)
    (advice_byte reply has_writer sync_failed) taken out written

-- the first error of the replies, or why the answer wasn't written
abbrev pub Finishes : List Reply → Result (Unit {0}) Stop → Result (Option Error) Stop → Type 0
Finishes replies (Ok done) result = result ≡ Ok (fault_in replies)
Finishes replies (Err stop) result = result ≡ Err stop

-- the answer to the only one of these replies
abbrev pub IsOnlyAnswer : List Reply → (sync_failed : Bool) → List ℕ → Type 0
IsOnlyAnswer replies sync_failed answer =
    (reply : Reply) × (replies ≡ reply ∷ []) × (answer ≡ answer_bytes reply sync_failed)

-- the answer to one step, by its reply
abbrev pub IsStepAnswer : ProtocolVersion → List Reply → (has_writer sync_failed : Bool)
    → List ℕ → Type 0
IsStepAnswer One replies has_writer sync_failed answer = IsOnlyAnswer replies sync_failed answer
IsStepAnswer Two replies has_writer sync_failed answer =
    IsAnswerWith (last_payload replies) replies has_writer sync_failed answer

-- an answer with status 0 and this payload
abbrev pub GivesPayload : (payload answer : List ℕ) → Type 0
GivesPayload payload answer = answer ≡ frame_bytes (0 ∷ payload)

-- steps were taken, with these replies and no others before; or there was no memory, and no step
-- was taken
abbrev pub RunsSteps : (List ℕ → ℕ) → List Step → SessionState → SessionState
    → (cache after : CacheState) → Life → Life → List Reply → Result (Unit {0}) Stop → Type 0
RunsSteps sum steps was now cache after old new replies (Ok done) =
    RunGoes sum steps was now cache after old new [] replies
RunsSteps sum steps was now cache after old new replies (Err stop) =
    (stop ≡ OutOfMemory) × (now ≡ was) × (new ≡ old)

-- the first of these replies has the offset where so many bytes were appended, or refuses
abbrev pub IsAppendReply : (size : ℕ) → List Reply → Type 0
IsAppendReply size [] = Unit {0}
IsAppendReply size (At at ∷ replies) = at + size < 2 ^ 64
IsAppendReply size (reply ∷ replies) = status_byte reply ≢ 0

-- a request whose bytes couldn't be read was refused with the status for that, or a prefix of the
-- refusal was written
abbrev pub TellsUnreadable : (out written : Option (List ℕ)) → Result (Option Error) Stop → Type 0
TellsUnreadable out written (Ok fault) =
    AppendsRefusal unreadable_status 0 0 out written × (fault ≡ None)
TellsUnreadable out written (Err stop) =
    (stop ≡ Failed) × AppendsRefusalPart unreadable_status 0 0 out written

-- why a session stops, after bytes that are no request were answered in version 2
abbrev pub TellsStop : ProtocolVersion → Stop → (out written : Option (List ℕ)) → Stop → Type 0
TellsStop version (Malformed number flaw) out written stop =
    ((stop ≡ Malformed number flaw) × TellsFlaw version flaw out written)
    ⊎ ((stop ≡ Failed) × TellsFlawPart version flaw out written)
TellsStop version other out written stop = (stop ≡ other) × (written ≡ out)
