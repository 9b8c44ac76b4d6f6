-- What is written of an answer where the output fails.
use Rattle.std.proofs.Common.{◌≡◌, ◌≤◌, ◌+◌, ◌^◌, ℕ, List, [], ◌∷◌, ◌++◌, ◌∙◌, Bool, refl, sym, ap, subst, arith}
use Rattle.std.specs.Prelude.{Option, Some, Ok, Err, is_some}
use Rattle.session.specs.Promise.{IsPrefixOf}
use Rattle.session.specs.Run.{SessionState}
use Rattle.session.specs.declared.steps.Reply.{Reply}
use Rattle.session.specs.declared.steps.Reply.TheVariants.{Done, Fault}
use Rattle.session.specs.declared.steps.Step.TheVariants.{Sync}
use Rattle.disk.specs.declared.error.Error.TheVariants.{SyncFailed}
use Rattle.protocol.specs.declared.request.Request.TheVariants.{Step}
use Rattle.protocol.specs.declared.stop.Stop.TheVariants.{Failed, LongAnswer}
use Rattle.protocol.specs.declared.version.Version.TheVariants.{One, Two}
use Rattle.protocol.specs.Answer.{AppendsRefusalPart, IsTooLong, PutsAnswer, PutsHead, advice_byte, answer_bytes, head_bytes}
use Rattle.protocol.specs.Output.{AppendsPart, PutsBytes}
use Rattle.protocol.specs.Request.{frame_bytes, length_bytes, number_bytes}
use Rattle.protocol.specs.Serve.{IsAnswer}

-- ---- bytes

pub one_of_two : AppendsPart (Some (7 ∷ [])) (Some (7 ∷ 1 ∷ [])) (1 ∷ 2 ∷ [])
one_of_two = (1 ∷ [], refl, refl)

pub none_of_two : AppendsPart (Some (7 ∷ [])) (Some (7 ∷ [])) (1 ∷ 2 ∷ [])
none_of_two = ([], refl, refl)

-- the second byte without the first
pub not_the_second : AppendsPart (Some []) (Some (2 ∷ [])) (1 ∷ 2 ∷ []) → ⊥
not_the_second (part, is, wrote) = cc (subst (λ (p : List ℕ). IsPrefixOf p (1 ∷ 2 ∷ [])) (sym wrote) is)

pub both_are_put : PutsBytes (1 ∷ 2 ∷ []) (Some []) (Some (1 ∷ 2 ∷ [])) (Ok tt)
both_are_put = refl

pub it_failed_after_one : PutsBytes (1 ∷ 2 ∷ []) (Some []) (Some (1 ∷ [])) (Err Failed)
it_failed_after_one = (refl, (1 ∷ [], refl, refl))

pub not_well_after_one : PutsBytes (1 ∷ 2 ∷ []) (Some []) (Some (1 ∷ [])) (Ok tt) → ⊥
not_well_after_one is = cc is

-- ---- answers

-- nothing is written of an answer that is too long
pub a_long_one : (answer : List ℕ) (out : Option (List ℕ)) → IsTooLong answer → PutsAnswer answer out out (Err LongAnswer)
a_long_one answer out long = (long, refl)

pub not_a_short_one : (out : Option (List ℕ)) → PutsAnswer (1 ∷ []) out out (Err LongAnswer) → ⊥
not_a_short_one out (long, same) = absurd (omega (arith, long))

-- a status of 4 and nothing after it
pub its_head : head_bytes 4 0 ≡ 1 ∷ 0 ∷ 0 ∷ 0 ∷ 4 ∷ []
unfolding length_bytes
its_head = refl

pub half_a_head : PutsHead 4 0 (Some []) (Some (1 ∷ 0 ∷ [])) (Err Failed)
unfolding length_bytes
half_a_head = (1 ∷ 0 ∷ [], refl, refl)

pub not_another_head : PutsHead 4 0 (Some []) (Some (1 ∷ 0 ∷ 0 ∷ 0 ∷ 0 ∷ [])) (Err Failed) → ⊥
unfolding length_bytes
not_another_head (part, is, wrote) = cc (subst (λ (p : List ℕ). IsPrefixOf p (head_bytes 4 0)) (sym wrote) is)

-- the first two bytes of its length came
pub a_refusal_cut : AppendsRefusalPart 4 3 0 (Some []) (Some (18 ∷ 0 ∷ []))
unfolding length_bytes number_bytes
a_refusal_cut = (frame_bytes (4 ∷ 3 ∷ number_bytes 0 ++ number_bytes 0 ++ []), record { number = 0; words = []; is = refl }, (18 ∷ 0 ∷ [], refl, refl))

-- ---- a sync

-- the answer to a sync that was taken
abbrev done : List ℕ
done = frame_bytes (0 ∷ [])

-- an answer begins as that one, if its status is 0
begins_so : (status : ℕ) (rest answer : List ℕ) → answer ≡ frame_bytes (status ∷ rest) → AppendsPart (Some []) (Some done) answer → 0 ≡ status
unfolding length_bytes
begins_so status rest answer is (part, prefix, wrote) =
    let begins : IsPrefixOf done (frame_bytes (status ∷ rest)) = subst (λ (l : List ℕ). IsPrefixOf done l) is (subst (λ (p : List ℕ). IsPrefixOf p answer) (sym wrote) prefix) in
    cc begins

pub not_another_status : AppendsRefusalPart 4 3 0 (Some []) (Some done) → ⊥
not_another_status (answer, told, part) = absurd (cc (begins_so 4 (3 ∷ number_bytes 0 ++ number_bytes told.number ++ told.words) answer told.is part))

-- half of the answer was written
pub half_of_it : (now : SessionState) (failed : Bool) → IsAnswer One (Step Sync) (Done ∷ []) now failed done × AppendsPart (Some []) (Some (1 ∷ 0 ∷ [])) done
unfolding length_bytes
half_of_it now failed = ((Done, refl, refl), (1 ∷ 0 ∷ [], refl, refl))

-- a sync that failed wasn't answered before it was taken
pub not_done_before : (now : SessionState) (failed : Bool) (answer : List ℕ) → IsAnswer One (Step Sync) (Fault SyncFailed ∷ []) now failed answer → AppendsPart (Some []) (Some done) answer → ⊥
not_done_before now failed answer (reply, are, is) part =
    let same : reply ≡ Fault SyncFailed = cc are in
    absurd (cc (begins_so 4 [] answer (is ∙ ap (λ (r : Reply). answer_bytes r failed) same) part))

-- nor in version 2
pub nor_in_version_two : (now : SessionState) (failed : Bool) (answer : List ℕ) → IsAnswer Two (Step Sync) (Fault SyncFailed ∷ []) now failed answer → AppendsPart (Some []) (Some done) answer → ⊥
nor_in_version_two now failed answer told part =
    absurd (cc (begins_so 4 (advice_byte (Fault SyncFailed) (is_some now.writer) failed ∷ number_bytes 0 ++ number_bytes told.number ++ told.words) answer told.is part))
