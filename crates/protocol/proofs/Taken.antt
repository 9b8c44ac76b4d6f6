-- Answers to requests, from the replies to their steps.
use Rattle.std.proofs.Common.{◌≡◌, ◌≢◌, ◌≤◌, ◌<◌, ◌+◌, ◌-◌, ◌*◌, ◌^◌, suc, slice_index_or, Bool, true, false, ℕ, List, [], ◌∷◌, ◌++◌, length, refl, sym, ap, ◌∙◌, subst, append_assoc, arith}
use Rattle.std.proofs.lemmas.List.{length-append}
use Rattle.std.specs.Prelude.{Option, Some, None, Result, Ok, Err, IfErr, IsErrAnd, OnOk, is_some, option_map, ◌==◌, if◌then◌else◌, slice_get}
use Rattle.std.proofs.lemmas.Bool.{eqb-true, ne_eqb}
use Rattle.std.specs.Int.{w32, from_le_bytes}
use Rattle.std.specs.List.{flat_map}
use Rattle.std.proofs.KnownBytes.{Appends-nil}
use Rattle.std.specs.Io.KnownBytes.{Appends}
use Rattle.disk.specs.Error.{number_of}
use Rattle.disk.specs.declared.error.Error.{Error}
use Rattle.disk.specs.declared.error.Error.TheVariants.{WriteFailed, ResizeFailed}
use Rattle.session.specs.declared.steps.Reply.{Reply}
use Rattle.session.specs.declared.steps.Reply.TheVariants.{Fault}
use Rattle.protocol.specs.declared.stop.Stop.{Stop}
use Rattle.protocol.specs.declared.stop.Stop.TheVariants.{Failed}
use Rattle.protocol.specs.declared.version.Version.{Version as ProtocolVersion}
use Rattle.protocol.specs.declared.version.Version.TheVariants.{One, Two}
use Rattle.protocol.specs.Answer.{AppendsRefusal, AppendsRefusalPart, IsAnswerWith, IsRefusalAnswer, answer_bytes, advice_byte, first_refusal, refusal_from, reply_payload, status_byte, told_error, told_status, unreadable_status}
use Rattle.protocol.specs.Output.{PutsBytes}
use Rattle.protocol.specs.Request.{frame_bytes, length_bytes, number_bytes, last_kind}
use Rattle.protocol.specs.Serve.{last_payload}
use Rattle.protocol.specs.Taking.{GivesPayload, TellsRefusal, TellsUnreadable, WritesAnswer}
use Rattle.protocol.specs.Together.{lengths_in, record_starts}
use Rattle.protocol.proofs.Bytes.{length-length_bytes, length-number_bytes}

-- a list of one
pub one_of : {X : Type 0} (xs : List X) (x : X) → 1 ≤ length xs → length xs < 2 → x ≡ slice_index_or xs 0 x → xs ≡ x ∷ []
one_of [] x some few is = absurd (omega (arith, some))
one_of (y ∷ []) x some few is = ap (λ (z : _). z ∷ []) (sym is)
one_of (y ∷ z ∷ zs) x some few is = absurd (omega (arith, few))

-- a kind above those of the first version is one of the second
pub is_two : (version : ProtocolVersion) (kind : ℕ) → 16 < kind → kind ≤ last_kind version → version ≡ Two
is_two One kind above within = absurd (omega (arith, above, within))
is_two Two kind above within = refl

-- a refusal was written
pub writes_told : (Is : List ℕ → Type 0) (status advice taken : ℕ) (out written : Option (List ℕ)) (result : Result (Unit {0}) Stop) → ((answer : List ℕ) → IsRefusalAnswer status advice taken answer → Is answer)
    → OnOk result (AppendsRefusal status advice taken out written) → IfErr result (λ stop. (stop ≡ Failed) × AppendsRefusalPart status advice taken out written) → WritesAnswer Is out written result
writes_told Is status advice taken out written (Ok done) is (answer, told, answers) why = (answer, is answer told, answers)
writes_told Is status advice taken out written (Err stop) is none (same, (answer, told, part)) = subst (λ (x : Stop). WritesAnswer Is out written (Err x)) (sym same) (answer, is answer told, part)

-- ---- the first refusal, or what is given

-- an answer of one kind is one of another
pub writes_as : (Is Are : List ℕ → Type 0) (out written : Option (List ℕ)) (result : Result (Unit {0}) Stop) → ((answer : List ℕ) → Is answer → Are answer) → WritesAnswer Is out written result → WritesAnswer Are out written result
writes_as Is Are out written result turn (answer, is, wrote) = (answer, turn answer is, wrote)

-- by the first refusal of the replies
abbrev AnswerOf : (payload : List ℕ) → (has_writer sync_failed : Bool) → List ℕ → Option (ℕ × Reply) → Type 0
AnswerOf payload has_writer sync_failed answer first = elim first [
  | Some first ↦ IsRefusalAnswer (told_status first.1 sync_failed) (advice_byte first.1 has_writer sync_failed) first.0 answer
  | None ↦ answer ≡ frame_bytes (0 ∷ payload)
]

-- the first refusal was written
pub told_with : (payload : List ℕ) (replies : List Reply) (has_writer sync_failed : Bool) (out written : Option (List ℕ)) → TellsRefusal replies has_writer sync_failed out written (Ok true) → WritesAnswer (IsAnswerWith payload replies has_writer sync_failed) out written (Ok tt)
told_with payload replies has_writer sync_failed out written (taken, reply, is, (answer, told, answers)) =
    (answer, subst (λ (first : Option (ℕ × Reply)). AnswerOf payload has_writer sync_failed answer first) (sym is) told, answers)

-- the first refusal wasn't written whole
pub untold_with : (payload : List ℕ) (replies : List Reply) (has_writer sync_failed : Bool) (out written : Option (List ℕ)) (stop : Stop) (result : Result (Unit {0}) Stop) → IsErrAnd result (λ x. x ≡ stop) → TellsRefusal replies has_writer sync_failed out written (Err stop)
    → WritesAnswer (IsAnswerWith payload replies has_writer sync_failed) out written result
untold_with payload replies has_writer sync_failed out written stop (Ok done) turned tells = absurd turned
untold_with payload replies has_writer sync_failed out written stop (Err other) turned (taken, reply, is, same, (answer, told, part)) =
    subst (λ (x : Stop). WritesAnswer (IsAnswerWith payload replies has_writer sync_failed) out written (Err x)) (sym (turned ∙ same))
    (answer, subst (λ (first : Option (ℕ × Reply)). AnswerOf payload has_writer sync_failed answer first) (sym is) told, part)

-- so the first of these replies that refuses is told in part
pub told_in_part : (replies : List Reply) (has_writer sync_failed : Bool) (out written : Option (List ℕ)) (taken : ℕ) (reply : Reply) (stop : Stop) (result : Result Bool Stop) → IsErrAnd result (λ x. x ≡ stop) → first_refusal replies ≡ Some (taken, reply) → stop ≡ Failed
    → AppendsRefusalPart (told_status reply sync_failed) (advice_byte reply has_writer sync_failed) taken out written → TellsRefusal replies has_writer sync_failed out written result
told_in_part replies has_writer sync_failed out written taken reply stop (Ok told) turned is same part = absurd turned
told_in_part replies has_writer sync_failed out written taken reply stop (Err other) turned is same part = (taken, reply, is, turned ∙ same, part)

-- bytes that couldn't be read are told in part
pub unreadable_in_part : (out written : Option (List ℕ)) (stop : Stop) (result : Result (Option Error) Stop) → IsErrAnd result (λ x. x ≡ stop) → (stop ≡ Failed) × AppendsRefusalPart unreadable_status 0 0 out written → TellsUnreadable out written result
unreadable_in_part out written stop (Ok fault) turned why = absurd turned
unreadable_in_part out written stop (Err other) turned (same, part) = (turned ∙ same, part)

-- no reply refuses, and this payload is given
pub given_with : (payload : List ℕ) (replies : List Reply) (has_writer sync_failed : Bool) (out mid written : Option (List ℕ)) (result : Result (Unit {0}) Stop) → first_refusal replies ≡ None → mid ≡ out → WritesAnswer (GivesPayload payload) mid written result
    → WritesAnswer (IsAnswerWith payload replies has_writer sync_failed) out written result
given_with payload replies has_writer sync_failed out mid written result none same wrote =
    subst (λ (o : Option (List ℕ)). WritesAnswer (IsAnswerWith payload replies has_writer sync_failed) o written result) same
    (writes_as (GivesPayload payload) (IsAnswerWith payload replies has_writer sync_failed) mid written result
    (λ answer is. subst (λ (first : Option (ℕ × Reply)). AnswerOf payload has_writer sync_failed answer first) (sym none) is) wrote)

-- ---- the last reply

-- the last of some is that of the others
last_more : (reply next : Reply) (replies : List Reply) → slice_get (reply ∷ next ∷ replies) (length (reply ∷ next ∷ replies) - 1) ≡ slice_get (next ∷ replies) (length (next ∷ replies) - 1)
last_more reply next replies =
    let same : length (reply ∷ next ∷ replies) - 1 ≡ suc (length (next ∷ replies) - 1) = omega arith in
    ap (λ (i : ℕ). slice_get (reply ∷ next ∷ replies) i) same

either_none : {X : Type 0} (b : Bool) (x : Option X) (y : X) → (if b then x else Some y) ≡ None → (b ≡ true) × (x ≡ None)
either_none true x y none = (refl, none)
either_none false x y none = absurd (cc none)

-- a reply that doesn't refuse, and what is after it
accepted : (taken : ℕ) (reply : Reply) (replies : List Reply) → refusal_from taken (reply ∷ replies) ≡ None → (status_byte reply ≡ 0) × (refusal_from (taken + 1) replies ≡ None)
accepted taken reply replies none =
    let both = either_none (status_byte reply == 0) (refusal_from (taken + 1) replies) (taken, reply) none in
    (eqb-true (status_byte reply) 0 both.0, both.1)

-- where no sync has failed, a client gets the layer's status
pub told_is : (reply : Reply) → told_status reply false ≡ status_byte reply
told_is (Fault error) = ap number_of (as_it_is error)
  where
    as_it_is : (e : Error) → told_error e false ≡ e
    as_it_is WriteFailed = refl
    as_it_is ResizeFailed = refl
    as_it_is e = refl
told_is reply = refl

-- the answer to the last reply has that reply's payload
pub last_answer : (taken : ℕ) (replies : List Reply) (last : Reply) → refusal_from taken replies ≡ None → Some last ≡ slice_get replies (length replies - 1) → answer_bytes last false ≡ frame_bytes (0 ∷ last_payload replies)
last_answer taken [] last none is = absurd (cc is)
last_answer taken (reply ∷ []) last none is =
    let zero : status_byte reply ≡ 0 = (accepted taken reply [] none).0 in
    let same : last ≡ reply = cc is in
    ap (λ (r : Reply). answer_bytes r false) same ∙ ap (λ (n : ℕ). frame_bytes (n ∷ reply_payload reply)) (told_is reply ∙ zero)
last_answer taken (reply ∷ next ∷ replies) last none is = last_answer (taken + 1) (next ∷ replies) last (accepted taken reply (next ∷ replies) none).1 (is ∙ last_more reply next replies)

-- ---- a refusal among replies

-- a reply that refuses is the first, where those before it don't
pub refusal_here : (taken : ℕ) (reply : Reply) (rest more replies : List Reply) → rest ≡ reply ∷ more → status_byte reply ≢ 0 → refusal_from taken rest ≡ first_refusal replies → first_refusal replies ≡ Some (taken, reply)
refusal_here taken reply rest more replies is refuses same =
    let here : refusal_from taken (reply ∷ more) ≡ Some (taken, reply) = ap (λ (b : Bool). if b then refusal_from (taken + 1) more else Some (taken, reply)) (ne_eqb (status_byte reply) 0 refuses) in
    sym same ∙ ap (refusal_from taken) is ∙ here

-- no reply refuses if all were passed
pub no_refusal : (taken : ℕ) (rest replies : List Reply) → length rest ≡ 0 → refusal_from taken rest ≡ first_refusal replies → first_refusal replies ≡ None
no_refusal taken [] replies none same = sym same
no_refusal taken (reply ∷ rest) replies none same = absurd (omega (arith, none))

-- a refusal, as it is written
pub told_of : (status advice taken number : ℕ) (words : List ℕ) (out written : Option (List ℕ)) (result : Result (Unit {0}) Stop) → PutsBytes (frame_bytes (status ∷ advice ∷ number_bytes taken ++ number_bytes number ++ words)) out written result
    → OnOk result (AppendsRefusal status advice taken out written)
told_of status advice taken number words out written (Ok done) answers =
    (frame_bytes (status ∷ advice ∷ number_bytes taken ++ number_bytes number ++ words), record { number = number; words = words; is = refl }, answers)
told_of status advice taken number words out written (Err stop) none = tt

pub untold_of : (status advice taken number : ℕ) (words : List ℕ) (out written : Option (List ℕ)) (result : Result (Unit {0}) Stop) → PutsBytes (frame_bytes (status ∷ advice ∷ number_bytes taken ++ number_bytes number ++ words)) out written result
    → IfErr result (λ stop. (stop ≡ Failed) × AppendsRefusalPart status advice taken out written)
untold_of status advice taken number words out written (Ok done) answers = tt
untold_of status advice taken number words out written (Err stop) (same, part) =
    (same, (frame_bytes (status ∷ advice ∷ number_bytes taken ++ number_bytes number ++ words), record { number = number; words = words; is = refl }, part))

-- a refusal fits a frame
pub refusal_short : (status advice taken number : ℕ) (words : List ℕ) → length words ≤ 255 → length (frame_bytes (status ∷ advice ∷ number_bytes taken ++ number_bytes number ++ words)) < 2 ^ 32
refusal_short status advice taken number words few =
    let told = number_bytes taken ++ number_bytes number ++ words in
    let body = status ∷ advice ∷ told in
    omega (arith, few, length-append (length_bytes (length body)) body, length-length_bytes (length body), length-append (number_bytes taken ++ number_bytes number) words, length-append (number_bytes taken) (number_bytes number), length-number_bytes taken, length-number_bytes number)

-- ---- records

-- each length has eight bytes in place of its four
pub starts_size : (lengths : List ℕ) (at count : ℕ) → length lengths ≡ 4 * count → length (flat_map number_bytes (record_starts at (lengths_in lengths))) ≡ 2 * length lengths
starts_size [] at count whole = refl
starts_size (a ∷ []) at count whole = absurd (omega (arith, whole))
starts_size (a ∷ b ∷ []) at count whole = absurd (omega (arith, whole))
starts_size (a ∷ b ∷ c ∷ []) at count whole = absurd (omega (arith, whole))
starts_size (a ∷ b ∷ c ∷ d ∷ rest) at count whole =
    let first = from_le_bytes w32 (a ∷ b ∷ c ∷ d ∷ []) in
    let more = starts_size rest (at + first) (count - 1) (omega (arith, whole)) in
    length-append (number_bytes at) (flat_map number_bytes (record_starts (at + first) (lengths_in rest))) ∙ omega (arith, more, length-number_bytes at)

-- nothing more was written
pub append_none : (a b : Option (List ℕ)) → a ≡ b → Appends a b []
append_none a b same = subst (λ (x : Option (List ℕ)). Appends a x []) same (Appends-nil a)

-- what is mapped is there as before
pub is_some_mapped : {X Y : Type 0} (f : X → Y) (o : Option X) → is_some (option_map f o) ≡ is_some o
is_some_mapped f None = refl
is_some_mapped f (Some x) = refl
