-- What is written where a session stops before its end.
use Rattle.std.proofs.Common.{◌≡◌, ◌≢◌, ℕ, List, [], ◌∷◌, ◌++◌, Bool, inl, inr, refl, sym, subst}
use Rattle.std.specs.Prelude.{Option, Some, Err}
use Rattle.session.specs.Promise.{IsPrefixOf}
use Rattle.disk.specs.Disk.{Life}
use Rattle.session.specs.Run.{SessionState}
use Rattle.session.specs.declared.steps.Reply.TheVariants.{Fault}
use Rattle.protocol.specs.declared.request.Request.{Request}
use Rattle.protocol.specs.declared.request.Request.TheVariants.{Flush}
use Rattle.protocol.specs.declared.setting.Setting.{Setting}
use Rattle.protocol.specs.declared.stop.Flaw.{Flaw}
use Rattle.protocol.specs.declared.stop.Flaw.TheVariants.{Cut}
use Rattle.protocol.specs.declared.stop.Stop.TheVariants.{Failed, OutOfMemory}
use Rattle.protocol.specs.declared.version.Version.{Version as ProtocolVersion}
use Rattle.protocol.specs.declared.version.Version.TheVariants.{One, Two}
use Rattle.protocol.specs.Answer.{answer_bytes}
use Rattle.protocol.specs.Opening.{IsCutOffer, version_byte}
use Rattle.protocol.specs.Output.{AppendsPart}
use Rattle.protocol.specs.Request.{IsFlawed, frame_bytes, length_bytes, number_bytes}
use Rattle.protocol.specs.Serve.{BreaksOff, EndsEarly, Greeted, HasBegun, NextIsFlawed, StopsGreeted, StopsUnanswered, TakesRequest, TellsFlawPart, TellsNoAnswer, TellsVersion}
use Rattle.protocol.specs.Serve.Served.{taken}
use Rattle.protocol.proofs.Requested.{and_false}
use Rattle.protocol.proofs.Serving.{answered_none, took_none}
use Rattle.protocol.proofs.Written.{part_none}

-- before the first request
pub at_once : (sum : List ℕ → ℕ) (setting : Setting) (version : ProtocolVersion) (was : SessionState) (life : Life) (failed : Bool) (input out : Option (List ℕ)) → StopsUnanswered sum setting version was was life life input out out
at_once sum setting version was life failed input out = (was, life, failed, input, out, answered_none sum setting version was life failed input out, (refl, refl, refl))

pub broken_off_at_once : (sum : List ℕ → ℕ) (setting : Setting) (version : ProtocolVersion) (was : SessionState) (life : Life) (failed : Bool) (input out : Option (List ℕ)) → BreaksOff sum setting version was was life life failed input out out
broken_off_at_once sum setting version was life failed input out = (was, life, failed, input, out, answered_none sum setting version was life failed input out, inl (refl, refl, inl refl))

pub nothing_was_taken : (sum : List ℕ → ℕ) (setting : Setting) (version : ProtocolVersion) (was : SessionState) (life : Life) (failed : Bool) (request : Request) (out : Option (List ℕ)) → TakesRequest sum setting version request was was life life failed out out (Err OutOfMemory)
nothing_was_taken sum setting version was life failed request out = (refl, refl, refl)

-- a byte of an answer was written, and then there was no memory for the steps
pub not_answered_first : (sum : List ℕ → ℕ) (setting : Setting) (version : ProtocolVersion) (was : SessionState) (life : Life) (failed : Bool) (request : Request) → TakesRequest sum setting version request was was life life failed (Some []) (Some (0 ∷ [])) (Err OutOfMemory) → ⊥
not_answered_first sum setting version was life failed request is = cc is.2

-- two bytes of the answer to a flush were written
pub a_flush_cut : (sum : List ℕ → ℕ) (setting : Setting) (was : SessionState) (life : Life) (failed : Bool) → TakesRequest sum setting Two Flush was was life life failed (Some []) (Some (1 ∷ 0 ∷ [])) (Err Failed)
unfolding length_bytes
a_flush_cut sum setting was life failed = ([], [], frame_bytes (0 ∷ []), taken Flush [] [] was failed (frame_bytes (0 ∷ [])) (and_false setting.read_only) refl refl, took_none sum was life, (1 ∷ 0 ∷ [], refl, refl))

-- ---- bytes that are no request

pub a_flaw : (version : ProtocolVersion) (flaw : Flaw) (byte : ℕ) (bytes : List ℕ) → IsFlawed version flaw (byte ∷ bytes) → NextIsFlawed version flaw (Some (byte ∷ bytes))
a_flaw version flaw byte bytes is = ((λ none. cc none), is)

pub the_end_is_no_flaw : (version : ProtocolVersion) (flaw : Flaw) → NextIsFlawed version flaw (Some []) → ⊥
the_end_is_no_flaw version flaw is = is.0 refl

-- two bytes of the refusal of a cut request were written
pub a_flaw_cut : TellsFlawPart Two Cut (Some []) (Some (18 ∷ 0 ∷ []))
unfolding length_bytes number_bytes
a_flaw_cut = (frame_bytes (32 ∷ 2 ∷ number_bytes 0 ++ number_bytes 0 ++ []), record { number = 0; words = []; is = refl }, (18 ∷ 0 ∷ [], refl, refl))

-- version 1 has no refusal of it
pub not_in_version_one : TellsFlawPart One Cut (Some []) (Some (18 ∷ 0 ∷ [])) → ⊥
not_in_version_one none = none

pub no_answer : (version : ProtocolVersion) (rest told : Option (List ℕ)) → TellsNoAnswer version rest told told
no_answer version rest told = inl refl

pub not_an_answer : (rest : Option (List ℕ)) → TellsNoAnswer One rest (Some []) (Some (1 ∷ [])) → ⊥
not_an_answer rest (inl same) = cc same
not_an_answer rest (inr (flaw, next, none)) = none

-- ---- before the first request

-- what is written begins with the version
begins_with : (byte : ℕ) (answer : List ℕ) → AppendsPart (Some []) (Some (byte ∷ [])) (version_byte ∷ answer) → byte ≡ 1
begins_with byte answer (part, is, wrote) =
    let begins : IsPrefixOf (byte ∷ []) (version_byte ∷ answer) = subst (λ (p : List ℕ). IsPrefixOf p (version_byte ∷ answer)) (sym wrote) is in
    cc begins

pub ends_unwritten : (sum : List ℕ → ℕ) (setting : Setting) (old new : Life) (was : SessionState) (failed : Bool) (out : Option (List ℕ)) → HasBegun sum setting old new was → EndsEarly sum setting old new failed out out
ends_unwritten sum setting old new was failed out begun = inr (inl (was, begun, part_none (version_byte ∷ []) out out refl))

pub not_with_another_byte : (sum : List ℕ → ℕ) (setting : Setting) (old new : Life) (failed : Bool) → EndsEarly sum setting old new failed (Some []) (Some (0 ∷ [])) → ⊥
not_with_another_byte sum setting old new failed (inl (had, (error, part))) = cc (begins_with 0 (answer_bytes (Fault error) failed) part)
not_with_another_byte sum setting old new failed (inr (inl (now, begun, part))) = cc (begins_with 0 [] part)
not_with_another_byte sum setting old new failed (inr (inr (mid, before, now, begun, (steps, replies, answer, served, took, part)))) = cc (begins_with 0 answer part)

pub the_version_alone : (sum : List ℕ → ℕ) (setting : Setting) (old new : Life) (was : SessionState) → HasBegun sum setting old new was → TellsVersion sum setting old new (Some []) (Some (1 ∷ []))
the_version_alone sum setting old new was begun = (was, begun, refl)

pub not_the_version : (sum : List ℕ → ℕ) (setting : Setting) (old new : Life) → TellsVersion sum setting old new (Some []) (Some (2 ∷ [])) → ⊥
not_the_version sum setting old new (now, begun, is) = cc is

pub greeted_alone : (sum : List ℕ → ℕ) (setting : Setting) (old new : Life) (was : SessionState) (failed : Bool) (input out greeting : Option (List ℕ)) → Greeted sum setting old new failed was out greeting → StopsGreeted sum setting old new failed input out greeting
greeted_alone sum setting old new was failed input out greeting g = (was, greeting, g, inl refl)

-- at the end of the input nothing is refused
pub not_greeted_so : (sum : List ℕ → ℕ) (setting : Setting) (old new : Life) (failed : Bool) → StopsGreeted sum setting old new failed (Some []) (Some []) (Some (0 ∷ [])) → ⊥
not_greeted_so sum setting old new failed (now, greeting, g, inl same) =
    let told = subst (λ (o : Option (List ℕ)). Greeted sum setting old new failed now (Some []) o) (sym same) g in
    cc told.took.5
not_greeted_so sum setting old new failed (now, greeting, g, inr (inl one, part)) = cc one
not_greeted_so sum setting old new failed (now, greeting, g, inr (inr (count, versions, is, few), part)) = cc is
