-- Steps are taken and answered, one after another.
use Rattle.std.proofs.Common.{◌≡◌, ◌⊎◌, Bool, true, false, ℕ, ◌+◌, ◌*◌, take, drop, take-append-drop, arith, ◌-◌, ◌<◌, ◌^◌, List, [], ◌∷◌, ◌++◌, length, refl, sym, ap, ◌∙◌, subst, append-nil, append_assoc, length-append, inl, inr}
use Rattle.std.specs.Prelude.{Option, Some, None, Result, Ok, Err, IfSome, IfErr, IsErrAnd, is_err, is_some, option_map, unwrap_or, ◌&&◌, ◌≢◌}
use Rattle.std.specs.List.{Contains, flat_map}
use Rattle.std.proofs.lemmas.List.Elements.{All-nil, All-cons, All-append, Contains-append_left, Contains-append_right, Contains-push}
use Rattle.std.specs.Io.KnownBytes.{Appends, Consumes, IsAtEnd, Keeps}
use Rattle.std.proofs.KnownBytes.{Appends-nil, Appends-trans, Consumes-nil, Consumes-trans}
use Rattle.disk.specs.Disk.{Life}
use Rattle.disk.specs.declared.error.Error.{Error}
use Rattle.cache.specs.CacheState.{CacheState}
use Rattle.paged.specs.Reads.{size_of}
use Rattle.session.specs.declared.steps.Step.{Step}
use Rattle.session.specs.declared.steps.Step.TheVariants.{Size}
use Rattle.session.specs.declared.steps.Reply.{Reply}
use Rattle.session.specs.declared.steps.Reply.TheVariants.{Fault}
use Rattle.session.specs.Run.{SessionState, TookNone}
use Rattle.session.specs.Calls.{RunGoes}
use Rattle.session.proofs.Joined.{runs_join, runs_none, promised}
use Rattle.protocol.specs.declared.request.Request.{Request}
use Rattle.protocol.specs.declared.request.Request.TheVariants.{Step as StepOf, Records, Ranges, SyncSize, Look, Flush, CountOpen, Close}
use Rattle.protocol.specs.declared.setting.Setting.{Setting}
use Rattle.protocol.specs.declared.version.Version.{Version as ProtocolVersion}
use Rattle.protocol.specs.declared.version.Version.TheVariants.{One, Two}
use Rattle.protocol.specs.declared.opening.Opening.{Opening}
use Rattle.protocol.specs.Opening.{ReadsOpening, TellsOpening, hello_bytes, version_byte}
use Rattle.protocol.specs.declared.stop.ReadError.{ReadError}
use Rattle.protocol.specs.declared.stop.ReadError.TheVariants.{Malformed as IsMalformed, Failed as HasFailed, OutOfMemory as NoMemory}
use Rattle.protocol.specs.declared.stop.Stop.{Stop}
use Rattle.protocol.specs.declared.stop.Stop.TheVariants.{Malformed, Version, WouldCut, Refused, Lost, LongAnswer, Failed, OutOfMemory, NoVersion}
use Rattle.protocol.specs.Answer.{AppendsRefusalPart, answer_bytes, fault_in, flaw_status, reply_error, told_status, IsTooLong, PutsAnswer}
use Rattle.protocol.specs.Output.{AppendsPart, PutsBytes}
use Rattle.protocol.specs.declared.stop.Flaw.{Flaw}
use Rattle.protocol.specs.Taking.{Finishes, TellsStop, WritesAnswer}
use Rattle.protocol.specs.Stop.{stop_at}
use Rattle.protocol.specs.Request.{IsRequest, request_bytes, number_bytes, length_bytes, frame_bytes}
use Rattle.protocol.proofs.Bytes.{length-length_bytes, length-number_bytes}
use Rattle.protocol.proofs.Written.{part_all, part_first, part_kept, part_then, writes_short}
use Rattle.protocol.specs.Serve.AreServed.{no_more, one_more}
use Rattle.protocol.specs.Serve.Served.{taken}
use Rattle.protocol.specs.Serve.{requests_bytes, AreSteps, IsAnswer, asks_change, is_close, later_fault, AnsweredAll, EndsSession, IsFaultAmong, TellsFlawPart, TellsNoAnswer, Took, TookFor, TookNext, Answered, TakesRequest, ReadsNext, Serves, HasBegun, IsNotBegun, Greets, Greeted, HasAttempted, Agrees, Named, hello_for, names_of, size_in, ServedAfter, ServesFile}

-- ---- lists of bytes

-- the bytes of two lists, joined
joined : {X : Type 0} (f : X → List ℕ) (xs ys : List X) → flat_map f (xs ++ ys) ≡ flat_map f xs ++ flat_map f ys
joined f [] ys = refl
joined f (x ∷ xs) ys = ap (λ (l : List ℕ). f x ++ l) (joined f xs ys) ∙ sym (append_assoc (f x) (flat_map f xs) (flat_map f ys))

-- the bytes of a list with one more item
pub flat_map_snoc : {X : Type 0} (f : X → List ℕ) (xs : List X) (x : X) → flat_map f (xs ++ x ∷ []) ≡ flat_map f xs ++ f x
flat_map_snoc f xs x = joined f xs (x ∷ []) ∙ ap (λ (l : List ℕ). flat_map f xs ++ l) (append-nil (f x))

-- known bytes that stayed, and then grew
kept_then : (a b c : Option (List ℕ)) (bs : List ℕ) → Keeps a b → Appends b c bs → Appends a c bs
kept_then None b c bs kept grown = tt
kept_then (Some x) None c bs kept grown = absurd kept
kept_then (Some x) (Some y) None bs kept grown = absurd grown
kept_then (Some x) (Some y) (Some z) bs kept grown = grown ∙ ap (λ (l : List ℕ). l ++ bs) kept

-- known bytes that grew, and then stayed
pub then_kept : (a b c : Option (List ℕ)) (bs : List ℕ) → Appends a b bs → Keeps b c → Appends a c bs
then_kept None b c bs grown kept = tt
then_kept (Some x) None c bs grown kept = absurd grown
then_kept (Some x) (Some y) None bs grown kept = absurd kept
then_kept (Some x) (Some y) (Some z) bs grown kept = kept ∙ grown

-- ---- runs

-- no step was taken
pub took_none : (sum : List ℕ → ℕ) (was : SessionState) (life : Life) → Took sum [] [] was was life life
took_none sum was life =
    let runs = runs_none sum was life [] in
    record { runs = runs; promises = promised sum [] was was life life [] [] runs }

-- some steps were taken, and others after them
pub took_both : (sum : List ℕ → ℕ) (steps more : List Step) (replies others : List Reply) (was mid now : SessionState) (old between new : Life) → Took sum steps replies was mid old between
    → Took sum more others mid now between new → Took sum (steps ++ more) (replies ++ others) was now old new
took_both sum steps more replies others was mid now old between new first second =
    let runs = runs_join sum steps more was mid now old between new [] replies others first.runs second.runs in
    record { runs = runs; promises = promised sum (steps ++ more) was now old new [] (replies ++ others) runs }

-- ---- requests and their answers

-- no request was read
pub answered_none : (sum : List ℕ → ℕ) (setting : Setting) (version : ProtocolVersion) (was : SessionState) (life : Life) (failed : Bool) (input out : Option (List ℕ)) → Answered sum setting version was was life life failed input input out out
answered_none sum setting version was life failed input out = record {
  requests = [];
  steps = [];
  replies = [];
  bytes = [];
  served = no_more failed;
  took = took_none sum was life;
  takes = Consumes-nil input;
  answers = Appends-nil out;
}

-- one more request was read, taken and answered
pub answered_more : (sum : List ℕ → ℕ) (setting : Setting) (version : ProtocolVersion) (request : Request) (was mid now : SessionState) (old between new : Life) (had failed : Bool) (input rest last out written kept all : Option (List ℕ))
    → Answered sum setting version was mid old between had input rest out written → Keeps written kept → IsRequest version request → Consumes rest last (request_bytes request) → TookFor sum setting version (Appends kept all) request mid now between new failed
    → Answered sum setting version was now old new failed input last out all
answered_more sum setting version request was mid now old between new had failed input rest last out written kept all before stays is takes (more, others, answer, served, took, answers) = record {
  requests = before.requests ++ request ∷ [];
  steps = before.steps ++ more;
  replies = before.replies ++ others;
  bytes = before.bytes ++ answer;
  served = one_more before.requests before.steps before.replies before.bytes mid between had request more others answer now new failed before.served is served took;
  took = took_both sum before.steps more before.replies others was mid now old between new before.took took;
  takes = subst (Consumes input last) (sym (flat_map_snoc request_bytes before.requests request))
      (Consumes-trans input rest last (requests_bytes before.requests) (request_bytes request) before.takes takes);
  answers = Appends-trans out written all before.bytes answer before.answers (kept_then written kept all answer stays answers);
}

-- ---- how a request ends

-- there was no room for a request's replies, and no step was taken
pub none_was_run : (was now : SessionState) (cache after : CacheState) (old new : Life) (earlier replies : List Reply) (result : Result (Unit {0}) Error) → is_err result ≡ true → IfErr result (λ e. TookNone e was now cache after old new earlier replies)
    → (now ≡ was) × (new ≡ old)
none_was_run was now cache after old new earlier replies (Ok done) is none = absurd (cc is)
none_was_run was now cache after old new earlier replies (Err error) is none = (none.session, none.life)

-- the steps of a request were run, and their replies are the only ones
pub took_of : (sum : List ℕ → ℕ) (steps : List Step) (was now : SessionState) (cache after : CacheState) (old new : Life) (replies : List Reply) → RunGoes sum steps was now cache after old new [] replies → Took sum steps replies was now old new
took_of sum steps was now cache after old new replies runs =
    record { runs = runs.always; promises = promised sum steps was now old new [] replies runs.always }

-- an answer to a request was written, or it wasn't; this is so of those that it may have
pub taken_request : (sum : List ℕ → ℕ) (setting : Setting) (version : ProtocolVersion) (request : Request) (steps : List Step) (replies : List Reply) (was now : SessionState) (old new : Life) (failed : Bool) (out written : Option (List ℕ)) (wrote : Result (Unit {0}) Stop) (result : Result (Option Error) Stop)
    → (setting.read_only && asks_change request) ≡ false → AreSteps setting request steps → Took sum steps replies was now old new → WritesAnswer (IsAnswer version request replies now failed) out written wrote → Finishes replies wrote result
    → TakesRequest sum setting version request was now old new failed out written result
taken_request sum setting version request steps replies was now old new failed out written (Ok done) result may are took (answer, answers, appends) told =
    subst (λ (r : Result (Option Error) Stop). TakesRequest sum setting version request was now old new failed out written r) (sym told)
    (steps, replies, answer, taken request steps replies now failed answer may are answers, took, (appends, refl))
taken_request sum setting version request steps replies was now old new failed out written (Err stop) result may are took wrote told =
    subst (λ (r : Result (Option Error) Stop). TakesRequest sum setting version request was now old new failed out written r) (sym told) (by_cause stop wrote)
  where
    by_cause : (x : Stop) → WritesAnswer (IsAnswer version request replies now failed) out written (Err x) → TakesRequest sum setting version request was now old new failed out written (Err x)
    by_cause LongAnswer (answer, answers, long) = (steps, replies, answer, taken request steps replies now failed answer may are answers, took, long)
    by_cause Failed (answer, answers, part) = (steps, replies, answer, taken request steps replies now failed answer may are answers, took, part)
    by_cause OutOfMemory (answer, answers, none) = absurd none
    by_cause (Malformed number flaw) (answer, answers, none) = absurd none
    by_cause (Version byte) (answer, answers, none) = absurd none
    by_cause NoVersion (answer, answers, none) = absurd none
    by_cause (WouldCut cut) (answer, answers, none) = absurd none
    by_cause (Refused error) (answer, answers, none) = absurd none
    by_cause (Lost error) (answer, answers, none) = absurd none

-- ---- the errors of requests

is_fault : (reply : Reply) (error : Error) → reply_error reply ≡ Some error → reply ≡ Fault error
is_fault (Fault other) error is = cc is
is_fault _ error is = absurd (cc is)

-- an error of later replies is among all
among_later : (reply : Reply) (replies : List Reply) (fault : Option Error) → reply_error reply ≡ None → IsFaultAmong fault replies → IsFaultAmong fault (reply ∷ replies)
among_later reply replies None is all = All-cons (λ r. reply_error r ≡ None) reply replies is all
among_later reply replies (Some error) is there = Contains-append_right (reply ∷ []) replies (Fault error) there

-- the error of the first reply, or that of later ones
among_first : (reply : Reply) (replies : List Reply) (own later : Option Error) → reply_error reply ≡ own → IsFaultAmong later replies → IsFaultAmong (elim own [ Some error ↦ Some error | None ↦ later ]) (reply ∷ replies)
among_first reply replies (Some error) later is among = subst (λ (r : Reply). Contains (r ∷ replies) (Fault error)) (sym (is_fault reply error is)) (Contains-append_left (Fault error ∷ []) replies (Fault error) (Contains-push [] (Fault error)))
among_first reply replies None later is among = among_later reply replies later is among

-- the first error of some replies is among them, or no reply has one
fault_among : (replies : List Reply) → IsFaultAmong (fault_in replies) replies
fault_among [] = All-nil (λ r. reply_error r ≡ None)
fault_among (reply ∷ replies) = among_first reply replies (reply_error reply) (fault_in replies) refl (fault_among replies)

-- the error that stays after more replies is among all replies, or no reply has one
pub fault_more : (fault next : Option Error) (replies others : List Reply) (had_writer : Bool) → IsFaultAmong fault replies → IsFaultAmong next others → IsFaultAmong (later_fault fault next had_writer) (replies ++ others)
fault_more None None replies others had_writer all more = All-append (λ r. reply_error r ≡ None) replies others all more
fault_more None (Some error) replies others true all there = Contains-append_right replies others (Fault error) there
fault_more None (Some error) replies others false all there = Contains-append_right replies others (Fault error) there
fault_more (Some error) None replies others had_writer there more = Contains-append_left replies others (Fault error) there
fault_more (Some error) (Some next) replies others true there more = Contains-append_right replies others (Fault next) more
fault_more (Some error) (Some next) replies others false there more = Contains-append_left replies others (Fault error) there

-- ---- request after request

-- the requests before that of this number were answered, with this error last
pub record Serving (sum : List ℕ → ℕ) (setting : Setting) (version : ProtocolVersion) (was now : SessionState) (old new : Life) (failed : Bool) (input rest out written : Option (List ℕ)) (fault : Option Error) (number : ℕ) : Type 0 where
  pub answered : Answered sum setting version was now old new failed input rest out written
  pub among : IsFaultAmong fault answered.replies
  pub counts : number ≡ length answered.requests + 1

-- no request is before the first
pub serving_begins : (sum : List ℕ → ℕ) (setting : Setting) (version : ProtocolVersion) (was : SessionState) (life : Life) (failed : Bool) (input out : Option (List ℕ)) → Serving sum setting version was was life life failed input input out out None 1
unfolding answered_none
serving_begins sum setting version was life failed input out = record { answered = answered_none sum setting version was life failed input out; among = All-nil (λ r. reply_error r ≡ None); counts = refl }

-- one more
pub serving_more : (sum : List ℕ → ℕ) (setting : Setting) (version : ProtocolVersion) (request : Request) (was mid now : SessionState) (old between new : Life) (had failed : Bool) (input rest last out written kept all : Option (List ℕ)) (fault next after : Option Error) (had_writer : Bool) (number : ℕ)
    → after ≡ later_fault fault next had_writer → Serving sum setting version was mid old between had input rest out written fault number → Keeps written kept → ReadsNext version number rest last (Ok (Some request)) → TakesRequest sum setting version request mid now between new failed kept all (Ok next)
    → Serving sum setting version was now old new failed input last out all after (number + 1)
unfolding answered_more
serving_more sum setting version request was mid now old between new had failed input rest last out written kept all fault next after had_writer number later before keeps (is, takes) (more, others, answer, served, took, (answers, told)) = record {
  answered = answered_more sum setting version request was mid now old between new had failed input rest last out written kept all before.answered keeps is takes (more, others, answer, served, took, answers);
  among = subst (λ (f : Option Error). IsFaultAmong f (before.answered.replies ++ others)) (sym (later ∙ ap (λ (f : Option Error). later_fault fault f had_writer) told)) (fault_more fault (fault_in others) before.answered.replies others had_writer before.among (fault_among others));
  counts = omega (arith, before.counts, length-append before.answered.requests (request ∷ []));
}

-- what was kept since was written
unmoved : (sum : List ℕ → ℕ) (setting : Setting) (version : ProtocolVersion) (was now : SessionState) (old new : Life) (failed : Bool) (input rest out written kept : Option (List ℕ)) → Answered sum setting version was now old new failed input rest out written → Keeps written kept
    → Answered sum setting version was now old new failed input rest out kept
unmoved sum setting version was now old new failed input rest out written kept a keeps = record {
  requests = a.requests;
  steps = a.steps;
  replies = a.replies;
  bytes = a.bytes;
  served = a.served;
  took = a.took;
  takes = a.takes;
  answers = then_kept out written kept a.bytes a.answers keeps;
}

-- the refusal of bytes that are no request wasn't written whole
pub flaw_cut : (version : ProtocolVersion) (stop : Stop) (number status : ℕ) (flaw : Flaw) (out written : Option (List ℕ)) (other : Stop) → version ≡ Two → stop ≡ Malformed number flaw → status ≡ flaw_status flaw → (other ≡ Failed) × AppendsRefusalPart status 2 0 out written
    → TellsStop version stop out written other
flaw_cut version stop number status flaw out written other two is same (failed, part) =
    subst (λ (v : ProtocolVersion). TellsStop v stop out written other) (sym two)
    (subst (λ (x : Stop). TellsStop Two x out written other) (sym is) (inr (failed, subst (λ (n : ℕ). AppendsRefusalPart n 2 0 out written) same part)))

-- no further request was read
pub serving_stops : (sum : List ℕ → ℕ) (setting : Setting) (version : ProtocolVersion) (was now : SessionState) (old new : Life) (failed : Bool) (input rest last out written kept all : Option (List ℕ)) (fault : Option Error) (number : ℕ) (stop why : Stop)
    → Serving sum setting version was now old new failed input rest out written fault number → Keeps written kept → ReadsNext version number rest last (Err stop) → TellsStop version stop kept all why → Serves sum setting version was now old new failed input last out all (Err why)
unfolding unmoved
serving_stops sum setting version was now old new failed input rest last out written kept all fault number stop why before keeps reads tells = by_cause stop reads tells
  where
    stays : Answered sum setting version was now old new failed input rest out kept
    stays = unmoved sum setting version was now old new failed input rest out written kept before.answered keeps

    broken : (x : Stop) → x ≡ Failed → TellsNoAnswer version rest kept all → Serves sum setting version was now old new failed input last out all (Err x)
    broken x is told = subst (λ (y : Stop). Serves sum setting version was now old new failed input last out all (Err y)) (sym is) (now, new, failed, rest, kept, stays, inl (refl, refl, told))

    by_cause : (x : Stop) → ReadsNext version number rest last (Err x) → TellsStop version x kept all why → Serves sum setting version was now old new failed input last out all (Err why)
    by_cause (Malformed which flaw) (this, none) (inl (is, told)) =
        subst (λ (y : Stop). Serves sum setting version was now old new failed input last out all (Err y)) (sym is)
        (rest, kept, unmoved sum setting version was now old new failed input rest out written kept before.answered keeps, this ∙ before.counts, none, told)
    by_cause (Malformed which flaw) (this, none) (inr (is, part)) = broken why is (inr (flaw, none, part))
    by_cause (Version byte) none tells = absurd none
    by_cause NoVersion none tells = absurd none
    by_cause (WouldCut cut) none tells = absurd none
    by_cause (Refused error) none tells = absurd none
    by_cause (Lost error) none tells = absurd none
    by_cause LongAnswer none tells = absurd none
    by_cause Failed none (is, same) = broken why is (inl same)
    by_cause OutOfMemory none (is, same) =
        subst (λ (y : Stop). Serves sum setting version was now old new failed input last out all (Err y)) (sym is) (now, new, failed, rest, kept, stays, (refl, refl, same))

-- no number is left for a request
pub serving_over : (sum : List ℕ → ℕ) (setting : Setting) (version : ProtocolVersion) (was now : SessionState) (old new : Life) (failed : Bool) (input rest out written : Option (List ℕ)) (fault : Option Error) (number : ℕ) → Serving sum setting version was now old new failed input rest out written fault number
    → Serves sum setting version was now old new failed input rest out written (Err Failed)
serving_over sum setting version was now old new failed input rest out written fault number before = (now, new, failed, rest, written, before.answered, inl (refl, refl, inl refl))

-- a request wasn't answered
pub serving_fails : (sum : List ℕ → ℕ) (setting : Setting) (version : ProtocolVersion) (request : Request) (was mid now : SessionState) (old between new : Life) (had failed : Bool) (input rest last out written kept all : Option (List ℕ)) (fault : Option Error) (number : ℕ) (stop : Stop) (result : Result (Unit {0}) Stop)
    → IsErrAnd result (λ x. x ≡ stop) → Serving sum setting version was mid old between had input rest out written fault number → Keeps written kept → ReadsNext version number rest last (Ok (Some request)) → TakesRequest sum setting version request mid now between new failed kept all (Err stop)
    → Serves sum setting version was now old new failed input last out all result
serving_fails sum setting version request was mid now old between new had failed input rest last out written kept all fault number stop (Ok done) is before keeps reads takes = absurd is
serving_fails sum setting version request was mid now old between new had failed input rest last out written kept all fault number stop (Err why) is before keeps reads takes =
    by_cause why (subst (λ (x : Stop). TakesRequest sum setting version request mid now between new failed kept all (Err x)) (sym is) takes)
  where
    stays : Answered sum setting version was mid old between had input rest out kept
    stays = unmoved sum setting version was mid old between had input rest out written kept before.answered keeps

    more : (Is : List ℕ → Type 0) → TookFor sum setting version Is request mid now between new failed → TookNext sum setting version Is mid now between new failed rest
    more Is this = (request, last, reads.0, reads.1, this)

    by_cause : (x : Stop) → TakesRequest sum setting version request mid now between new failed kept all (Err x) → Serves sum setting version was now old new failed input last out all (Err x)
    by_cause (Malformed which flaw) none = absurd none
    by_cause (Version byte) none = absurd none
    by_cause NoVersion none = absurd none
    by_cause (WouldCut cut) none = absurd none
    by_cause (Refused error) none = absurd none
    by_cause (Lost error) none = absurd none
    by_cause LongAnswer this = (mid, between, had, rest, kept, stays, more (λ answer. IsTooLong answer × (all ≡ kept)) this)
    by_cause Failed this = (mid, between, had, rest, kept, stays, inr (more (λ answer. AppendsPart kept all answer) this))
    by_cause OutOfMemory same = (mid, between, had, rest, kept, stays, same)

-- a close, or the end of the input
pub serving_ends : (sum : List ℕ → ℕ) (setting : Setting) (version : ProtocolVersion) (was now : SessionState) (old new : Life) (failed : Bool) (input rest last out written kept : Option (List ℕ)) (fault : Option Error) (number : ℕ) (result : Result (Unit {0}) Stop)
    → Serving sum setting version was now old new failed input rest out written fault number → Keeps written kept → IsAtEnd rest ⊎ Consumes rest last (request_bytes Close) → EndsSession now fault result → Serves sum setting version was now old new failed input last out kept result
unfolding unmoved
serving_ends sum setting version was now old new failed input rest last out written kept fault number result before keeps at_end ends = by_answer result ends
  where
    all : (Are : List Reply → Type 0) → Are before.answered.replies → AnsweredAll sum setting version Are was now old new failed input last out kept
    all Are are = (rest, unmoved sum setting version was now old new failed input rest out written kept before.answered keeps, at_end, are)

    by_answer : (r : Result (Unit {0}) Stop) → EndsSession now fault r → Serves sum setting version was now old new failed input last out kept r
    by_answer (Ok done) (inl has) = all (λ replies. (is_some now.writer ≡ true) ⊎ IsFaultAmong None replies) (inl has)
    by_answer (Ok done) (inr none) = all (λ replies. (is_some now.writer ≡ true) ⊎ IsFaultAmong None replies) (inr (subst (λ (f : Option Error). IsFaultAmong f before.answered.replies) none before.among))
    by_answer (Err (Lost error)) (gone, told) = all (λ replies. (now.writer ≡ None) × IsFaultAmong (Some error) replies) (gone, subst (λ (f : Option Error). IsFaultAmong f before.answered.replies) told before.among)
    by_answer (Err (Malformed number flaw)) none = absurd none
    by_answer (Err (Version byte)) none = absurd none
    by_answer (Err NoVersion) none = absurd none
    by_answer (Err (WouldCut cut)) none = absurd none
    by_answer (Err (Refused error)) none = absurd none
    by_answer (Err LongAnswer) none = absurd none
    by_answer (Err Failed) none = absurd none
    by_answer (Err OutOfMemory) none = absurd none

-- the end of an input
pub at_end : (rest : Option (List ℕ)) → IfSome rest (λ bytes. bytes ≡ []) → IsAtEnd rest
at_end None none = tt
at_end (Some bytes) none = none

-- a close was read
pub close_read : (version : ProtocolVersion) (number : ℕ) (request : Request) (rest last : Option (List ℕ)) → is_close request ≡ true → ReadsNext version number rest last (Ok (Some request)) → Consumes rest last (request_bytes Close)
close_read version number Close rest last is reads = reads.1
close_read version number (StepOf step) rest last is reads = absurd (cc is)
close_read version number (Records fields next) rest last is reads = absurd (cc is)
close_read version number (Ranges fields) rest last is reads = absurd (cc is)
close_read version number SyncSize rest last is reads = absurd (cc is)
close_read version number Look rest last is reads = absurd (cc is)
close_read version number Flush rest last is reads = absurd (cc is)
close_read version number CountOpen rest last is reads = absurd (cc is)

-- ---- how a session begins

-- a recovery would cut more than it may
pub would_cut : (sum : List ℕ → ℕ) (setting : Setting) (old new : Life) (failed : Bool) (out written : Option (List ℕ)) (stop : Stop) → IsNotBegun sum setting old new stop → ((error : Error) → stop ≢ Refused error) → written ≡ out → Greets sum setting old new failed out written (Err stop)
would_cut sum setting old new failed out written (Malformed number flaw) none other same = absurd none
would_cut sum setting old new failed out written (Version byte) none other same = absurd none
would_cut sum setting old new failed out written NoVersion none other same = absurd none
would_cut sum setting old new failed out written (WouldCut cut) more other same = (more, same)
would_cut sum setting old new failed out written (Refused error) had other same = absurd (other error refl)
would_cut sum setting old new failed out written (Lost error) none other same = absurd none
would_cut sum setting old new failed out written LongAnswer none other same = absurd none
would_cut sum setting old new failed out written Failed none other same = absurd none
would_cut sum setting old new failed out written OutOfMemory none other same = absurd none

-- the size isn't answered
pub greeting_fails : (sum : List ℕ → ℕ) (setting : Setting) (was now : SessionState) (old mid new : Life) (failed : Bool) (out after written : Option (List ℕ)) (stop : Stop) (result : Result (SessionState × CacheState) Stop) → IsErrAnd result (λ x. x ≡ stop)
    → HasBegun sum setting old mid was → Appends out after (version_byte ∷ []) → TakesRequest sum setting One (StepOf Size) was now mid new failed after written (Err stop) → Greets sum setting old new failed out written result
greeting_fails sum setting was now old mid new failed out after written stop (Ok begun) is begins version takes = absurd is
greeting_fails sum setting was now old mid new failed out after written stop (Err why) is begins version takes =
    by_cause why (subst (λ (x : Stop). TakesRequest sum setting One (StepOf Size) was now mid new failed after written (Err x)) (sym is) takes)
  where
    by_cause : (x : Stop) → TakesRequest sum setting One (StepOf Size) was now mid new failed after written (Err x) → Greets sum setting old new failed out written (Err x)
    by_cause (Malformed which flaw) none = absurd none
    by_cause (Version byte) none = absurd none
    by_cause NoVersion none = absurd none
    by_cause (WouldCut cut) none = absurd none
    by_cause (Refused error) none = absurd none
    by_cause (Lost error) none = absurd none
    by_cause LongAnswer (steps, replies, answer, served, took, (long, same)) =
        (mid, was, now, begins, (steps, replies, answer, served, took, (long, subst (λ (x : Option (List ℕ)). Appends out x (version_byte ∷ [])) (sym same) version)))
    by_cause Failed (steps, replies, answer, served, took, part) =
        inr (inr (mid, was, now, begins, (steps, replies, answer, served, took, part_then (version_byte ∷ []) answer out after written version part)))
    by_cause OutOfMemory same =
        (was, subst (λ (life : Life). HasBegun sum setting old life was) (sym same.1) begins, subst (λ (x : Option (List ℕ)). Appends out x (version_byte ∷ [])) (sym same.2) version)

-- the greeting ended before the size was asked for
pub greeting_cut : (sum : List ℕ → ℕ) (setting : Setting) (was : SessionState) (old new : Life) (failed : Bool) (out written : Option (List ℕ)) (stop : Stop) (result : Result (SessionState × CacheState) Stop) → IsErrAnd result (λ x. x ≡ stop) → HasBegun sum setting old new was
    → PutsBytes (version_byte ∷ []) out written (Err stop) → Greets sum setting old new failed out written result
greeting_cut sum setting was old new failed out written stop (Ok begun) is begins puts = absurd is
greeting_cut sum setting was old new failed out written stop (Err why) is begins (same, part) = subst (λ (x : Stop). Greets sum setting old new failed out written (Err x)) (sym (is ∙ same)) (inr (inl (was, begins, part)))

-- the greeting couldn't be flushed
pub greeting_unsent : (sum : List ℕ → ℕ) (setting : Setting) (was now : SessionState) (old mid new : Life) (failed : Bool) (out kept written last : Option (List ℕ)) (fault : Option Error) (result : Result (SessionState × CacheState) Stop) → IsErrAnd result (λ x. x ≡ Failed)
    → HasBegun sum setting old mid was → Appends out kept (version_byte ∷ []) → TakesRequest sum setting One (StepOf Size) was now mid new failed kept written (Ok fault) → Keeps written last → Greets sum setting old new failed out last result
greeting_unsent sum setting was now old mid new failed out kept written last fault result is begins version (steps, replies, answer, served, took, (answers, told)) keeps =
    greeting_fails sum setting was now old mid new failed out kept last Failed result is begins version (steps, replies, answer, served, took, part_kept answer kept written last (part_all answer kept written answers) keeps)

-- the answer with an error fits a frame
fault_short : (error : Error) (failed : Bool) → length (answer_bytes (Fault error) failed) < 2 ^ 32
fault_short error failed =
    let body = told_status (Fault error) failed ∷ [] in
    omega (arith, length-append (length_bytes (length body)) body, length-length_bytes (length body))

-- the recovery was refused, and the answer wasn't written whole
pub refusal_cut : (sum : List ℕ → ℕ) (setting : Setting) (old new : Life) (failed : Bool) (out first written : Option (List ℕ)) (error : Error) (stop : Stop) (result : Result (SessionState × CacheState) Stop) → IsErrAnd result (λ x. x ≡ stop) → HasAttempted sum setting old new
    → Appends out first (version_byte ∷ []) → PutsAnswer (answer_bytes (Fault error) failed) first written (Err stop) → Greets sum setting old new failed out written result
refusal_cut sum setting old new failed out first written error stop (Ok begun) is had version wrote = absurd is
refusal_cut sum setting old new failed out first written error stop (Err why) is had version wrote = subst (λ (x : Stop). Greets sum setting old new failed out written (Err x)) (sym is) (by_cause stop (short stop wrote))
  where
    answer : List ℕ
    answer = answer_bytes (Fault error) failed

    short : (x : Stop) → PutsAnswer answer first written (Err x) → PutsBytes answer first written (Err x)
    short x w = writes_short answer first written (Err x) (fault_short error failed) w

    by_cause : (x : Stop) → PutsBytes answer first written (Err x) → Greets sum setting old new failed out written (Err x)
    by_cause x (same, part) = subst (λ (y : Stop). Greets sum setting old new failed out written (Err y)) (sym same) (inl (had, (error, part_then (version_byte ∷ []) answer out first written version part)))

-- the recovery was refused, and the version wasn't written
pub refusal_unheaded : (sum : List ℕ → ℕ) (setting : Setting) (old new : Life) (failed : Bool) (out written : Option (List ℕ)) (error : Error) (stop : Stop) (result : Result (SessionState × CacheState) Stop) → IsErrAnd result (λ x. x ≡ stop) → HasAttempted sum setting old new
    → PutsBytes (version_byte ∷ []) out written (Err stop) → Greets sum setting old new failed out written result
refusal_unheaded sum setting old new failed out written error stop (Ok begun) is had puts = absurd is
refusal_unheaded sum setting old new failed out written error stop (Err why) is had (same, part) =
    subst (λ (x : Stop). Greets sum setting old new failed out written (Err x)) (sym (is ∙ same)) (inl (had, (error, part_first (version_byte ∷ []) (answer_bytes (Fault error) failed) out written part)))

-- the greeting was written and flushed
pub greeted : (sum : List ℕ → ℕ) (setting : Setting) (was now : SessionState) (old mid new : Life) (failed : Bool) (out first second last : Option (List ℕ)) (fault : Option Error) → HasBegun sum setting old mid was → Appends out first (version_byte ∷ [])
    → TakesRequest sum setting One (StepOf Size) was now mid new failed first second (Ok fault) → Keeps second last → Greeted sum setting old new failed now out last
greeted sum setting was now old mid new failed out first second last fault begins version (steps, replies, answer, served, took, (answers, told)) keeps = record {
  mid = mid;
  was = was;
  begun = begins;
  took = (
    steps,
    replies,
    answer,
    served,
    took,
    then_kept out second last (version_byte ∷ answer) (Appends-trans out first second (version_byte ∷ []) answer version answers) keeps,
  );
}

-- ---- a whole session

-- no session was greeted
pub file_not_greeted : (sum : List ℕ → ℕ) (setting : Setting) (named : Named) (old new : Life) (failed : Bool) (input out written : Option (List ℕ)) (stop : Stop) (result : Result (Unit {0}) Stop) → IsErrAnd result (λ x. x ≡ stop) → Greets sum setting old new failed out written (Err stop)
    → ServesFile sum setting named old new failed input input out written result
file_not_greeted sum setting named old new failed input out written stop (Ok done) is greets = absurd is
file_not_greeted sum setting named old new failed input out written stop (Err why) is greets = by_cause why (subst (λ (x : Stop). Greets sum setting old new failed out written (Err x)) (sym is) greets)
  where
    by_cause : (x : Stop) → Greets sum setting old new failed out written (Err x) → ServesFile sum setting named old new failed input input out written (Err x)
    by_cause (Malformed which flaw) none = absurd none
    by_cause (Version byte) none = absurd none
    by_cause NoVersion none = absurd none
    by_cause (WouldCut cut) (more, same) = (more, same, refl)
    by_cause (Refused error) had = had
    by_cause (Lost error) none = absurd none
    by_cause LongAnswer ends = inl ends
    by_cause Failed ends = inl ends
    by_cause OutOfMemory told = inl told

-- the hello has the size of the session and how many bytes were cut
pub hello_is : (setting : Setting) (checksum set_aside : List ℕ) (old between : Life) (was : SessionState) (len left size cut : ℕ) (told : Option ℕ) → len ≡ length old.present.readable → left ≡ length between.present.readable → told ≡ option_map size_of was.writer
    → size ≡ unwrap_or told 0 → cut ≡ len - left → hello_bytes setting checksum set_aside size cut ≡ hello_for setting (names_of checksum set_aside) old between was
hello_is setting checksum set_aside old between was len left size cut told first then_left has is goes =
    ap (λ (n : ℕ). hello_bytes setting checksum set_aside n cut) (is ∙ ap (λ (o : Option ℕ). unwrap_or o 0) has)
    ∙ ap (λ (n : ℕ). hello_bytes setting checksum set_aside (size_in was) n) (goes ∙ ap (λ (n : ℕ). n - left) first ∙ ap (λ (n : ℕ). length old.present.readable - n) then_left)

-- what the client begins with wasn't read
pub file_unread : (sum : List ℕ → ℕ) (setting : Setting) (named : Named) (old new : Life) (failed : Bool) (was : SessionState) (input rest out greeting written : Option (List ℕ)) (error : ReadError) (at stop : Stop) → Greeted sum setting old new failed was out greeting → ReadsOpening input rest (Err error)
    → at ≡ stop_at 0 error → TellsStop Two at greeting written stop → ServesFile sum setting named old new failed input rest out written (Err stop)
file_unread sum setting named old new failed was input rest out greeting written error at stop g reads is told = by_error error reads (subst (λ (x : Stop). TellsStop Two x greeting written stop) is told)
  where
    turned : (x : Stop) → stop ≡ x → ServesFile sum setting named old new failed input rest out written (Err x) → ServesFile sum setting named old new failed input rest out written (Err stop)
    turned x same served = subst (λ (y : Stop). ServesFile sum setting named old new failed input rest out written (Err y)) (sym same) served

    by_error : (e : ReadError) → ReadsOpening input rest (Err e) → TellsStop Two (stop_at 0 e) greeting written stop → ServesFile sum setting named old new failed input rest out written (Err stop)
    by_error (IsMalformed flaw) (cut, ends) (inl (same, tells)) =
        turned (Malformed 0 flaw) same (inl (record { was = was; greeting = greeting; greeted = g; first = refl; cut = cut; ends = ends; tells = tells }))
    by_error (IsMalformed flaw) (cut, ends) (inr (failed, part)) =
        turned Failed failed (inr (inl (was, greeting, g, inr (ends, subst (λ (f : Flaw). TellsFlawPart Two f greeting written) cut part))))
    by_error HasFailed none (same, kept) = turned Failed same (inr (inl (was, greeting, g, inl kept)))
    by_error NoMemory none (same, kept) =
        turned OutOfMemory same (inr (inl (was, subst (λ (x : Option (List ℕ)). Greeted sum setting old new failed was out x) (sym kept) g)))

module _ (sum : List ℕ → ℕ) (setting : Setting) (named : Named) (old between : Life) (had : Bool) (was : SessionState) (input after out greeting told : Option (List ℕ)) (opening : Opening) where
  -- what the client begins with was read, and answered
  agrees : (result : Result (Option ProtocolVersion) Stop) → Greeted sum setting old between had was out greeting → ReadsOpening input after (Ok opening) → TellsOpening opening (hello_for setting named old between was) greeting told result
      → Agrees sum setting named old between had was input after out told result
  agrees result g reads tells = record { greeting = greeting; opening = opening; greeted = g; reads = reads; tells = tells }

  -- there was nothing to go on with
  pub file_over : Greeted sum setting old between had was out greeting → ReadsOpening input after (Ok opening) → (version : Option ProtocolVersion) → version ≡ None → TellsOpening opening (hello_for setting named old between was) greeting told (Ok version)
      → ServesFile sum setting named old between had input after out told (Ok tt)
  file_over g reads version none tells =
      inl (was, agrees (Ok None) g reads (subst (λ (v : Option ProtocolVersion). TellsOpening opening (hello_for setting named old between was) greeting told (Ok v)) none tells))

  -- no version was agreed on, or the answer couldn't be written
  pub file_not_opened : (stop : Stop) (result : Result (Unit {0}) Stop) → IsErrAnd result (λ x. x ≡ stop) → Greeted sum setting old between had was out greeting → ReadsOpening input after (Ok opening)
      → TellsOpening opening (hello_for setting named old between was) greeting told (Err stop) → ServesFile sum setting named old between had input after out told result
  file_not_opened stop (Ok done) is g reads tells = absurd is
  file_not_opened stop (Err why) is g reads tells = by_cause why (subst (λ (x : Stop). TellsOpening opening (hello_for setting named old between was) greeting told (Err x)) (sym is) tells)
    where
      by_cause : (x : Stop) → TellsOpening opening (hello_for setting named old between was) greeting told (Err x) → ServesFile sum setting named old between had input after out told (Err x)
      by_cause (Version byte) other = (was, agrees (Err (Version byte)) g reads other)
      by_cause NoVersion none = (was, agrees (Err NoVersion) g reads none)
      by_cause LongAnswer long = inr (inl (was, agrees (Err LongAnswer) g reads long))
      by_cause Failed part = inr (inr (inl (was, agrees (Err Failed) g reads part)))
      by_cause (Malformed which flaw) none = absurd none
      by_cause (WouldCut cut) none = absurd none
      by_cause (Refused error) none = absurd none
      by_cause (Lost error) none = absurd none
      by_cause OutOfMemory none = absurd none

  -- the requests of a session were served
  pub file_served : (new : Life) (failed : Bool) (now : SessionState) (rest written : Option (List ℕ)) (version : ProtocolVersion) (result : Result (Unit {0}) Stop) → Greeted sum setting old between had was out greeting → ReadsOpening input after (Ok opening)
      → TellsOpening opening (hello_for setting named old between was) greeting told (Ok (Some version)) → Serves sum setting version was now between new failed after rest told written result → ServesFile sum setting named old new failed input rest out written result
  file_served new failed now rest written version result g reads tells serves = by_answer result serves
    where
      served : (r : Result (Unit {0}) Stop) → Serves sum setting version was now between new failed after rest told written r → ServedAfter sum setting named old new failed input rest out written r
      served r s = record { between = between; had_failed = had; was = was; now = now; after = after; told = told; version = version; agrees = agrees (Ok (Some version)) g reads tells; serves = s }

      by_answer : (r : Result (Unit {0}) Stop) → Serves sum setting version was now between new failed after rest told written r → ServesFile sum setting named old new failed input rest out written r
      by_answer (Ok done) s = inr (served (Ok done) s)
      by_answer (Err (Malformed which flaw)) s = inr (served (Err (Malformed which flaw)) s)
      by_answer (Err (Version byte)) s = absurd s
      by_answer (Err NoVersion) s = absurd s
      by_answer (Err (WouldCut cut)) s = absurd s
      by_answer (Err (Refused error)) s = absurd s
      by_answer (Err (Lost error)) s = served (Err (Lost error)) s
      by_answer (Err LongAnswer) s = inr (inr (served (Err LongAnswer) s))
      by_answer (Err Failed) s = inr (inr (inr (served (Err Failed) s)))
      by_answer (Err OutOfMemory) s = inr (inr (served (Err OutOfMemory) s))

-- ---- numbers in an answer

-- one more was written
pub numbers_more : (head : List ℕ) (numbers : List ℕ) (i n : ℕ) → take (i + 1) numbers ≡ take i numbers ++ n ∷ []
    → (head ++ flat_map number_bytes (take i numbers)) ++ number_bytes n ≡ head ++ flat_map number_bytes (take (i + 1) numbers)
numbers_more head numbers i n more =
    append_assoc head (flat_map number_bytes (take i numbers)) (number_bytes n)
    ∙ ap (λ (l : List ℕ). head ++ l) (sym (flat_map_snoc number_bytes (take i numbers) n) ∙ ap (λ (l : List ℕ). flat_map number_bytes l) (sym more))

-- those before one, that one, and those behind it
pub numbers_split : (numbers : List ℕ) (i n : ℕ) → take (i + 1) numbers ≡ take i numbers ++ n ∷ []
    → flat_map number_bytes numbers ≡ flat_map number_bytes (take i numbers) ++ (number_bytes n ++ flat_map number_bytes (drop (i + 1) numbers))
numbers_split numbers i n more =
    let front = flat_map number_bytes (take i numbers) in
    let after = flat_map number_bytes (drop (i + 1) numbers) in
    ap (λ (l : List ℕ). flat_map number_bytes l) (sym (take-append-drop (i + 1) numbers))
    ∙ joined number_bytes (take (i + 1) numbers) (drop (i + 1) numbers)
    ∙ ap (λ (l : List ℕ). flat_map number_bytes l ++ after) more
    ∙ ap (λ (l : List ℕ). l ++ after) (flat_map_snoc number_bytes (take i numbers) n)
    ∙ append_assoc front (number_bytes n) after

-- numbers have eight bytes each
pub length_of_numbers : (numbers : List ℕ) → length (flat_map number_bytes numbers) ≡ 8 * length numbers
length_of_numbers [] = refl
length_of_numbers (n ∷ ns) =
    let rest = length_of_numbers ns in
    length-append (number_bytes n) (flat_map number_bytes ns) ∙ omega (arith, rest, length-number_bytes n)
