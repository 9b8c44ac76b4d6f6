-- What is written piece by piece, and its prefixes.
use Rattle.std.proofs.Common.{◌≡◌, ◌≤◌, ◌<◌, ◌+◌, ◌^◌, ℕ, List, [], ◌∷◌, ◌++◌, length, take, drop, refl, sym, ap, ◌∙◌, subst, append_assoc, append-nil, take-append-drop, arith}
use Rattle.std.specs.Prelude.{Option, Some, None, Result, Ok, Err, IsErrAnd}
use Rattle.std.proofs.lemmas.List.{take_all, take_at, length-append}
use Rattle.std.specs.Io.KnownBytes.{Appends, Keeps}
use Rattle.std.proofs.KnownBytes.{Appends-kept, Appends-nil, Appends-trans}
use Rattle.session.specs.Promise.{IsPrefixOf}
use Rattle.protocol.specs.declared.stop.Stop.{Stop}
use Rattle.protocol.specs.declared.stop.Stop.TheVariants.{Malformed, Version, WouldCut, Refused, Lost, LongAnswer, Failed, OutOfMemory, NoVersion}
use Rattle.protocol.specs.Output.{AppendsPart, PutsBytes}
use Rattle.protocol.specs.Answer.{AppendsRefusal, AppendsRefusalPart, IsLong, IsTooLong, PutsAnswer, PutsHead, head_bytes}
use Rattle.protocol.specs.Request.{frame_bytes, length_bytes, number_bytes}
use Rattle.protocol.proofs.Bytes.{length-length_bytes}

-- ---- prefixes

-- what stands in front of other bytes
is_prefix : (part rest : List ℕ) → IsPrefixOf part (part ++ rest)
is_prefix part rest = sym (take_at part rest (length part) refl)

-- a prefix, and what is behind it
whole : (part bytes : List ℕ) → IsPrefixOf part bytes → part ++ drop (length part) bytes ≡ bytes
whole part bytes is = ap (λ (l : List ℕ). l ++ drop (length part) bytes) is ∙ take-append-drop (length part) bytes

prefix_first : (part bytes after : List ℕ) → IsPrefixOf part bytes → IsPrefixOf part (bytes ++ after)
prefix_first part bytes after is =
    let rest = drop (length part) bytes in
    subst (λ (l : List ℕ). IsPrefixOf part l) (sym (append_assoc part rest after) ∙ ap (λ (l : List ℕ). l ++ after) (whole part bytes is)) (is_prefix part (rest ++ after))

prefix_then : (front part bytes : List ℕ) → IsPrefixOf part bytes → IsPrefixOf (front ++ part) (front ++ bytes)
prefix_then front part bytes is =
    let rest = drop (length part) bytes in
    subst (λ (l : List ℕ). IsPrefixOf (front ++ part) l) (append_assoc front part rest ∙ ap (λ (l : List ℕ). front ++ l) (whole part bytes is)) (is_prefix (front ++ part) rest)

prefix_taken : (count : ℕ) (bytes : List ℕ) → IsPrefixOf (take count bytes) bytes
prefix_taken count bytes = subst (λ (l : List ℕ). IsPrefixOf (take count bytes) l) (take-append-drop count bytes) (is_prefix (take count bytes) (drop count bytes))

-- so many of the bytes were written
pub part_taken : (count : ℕ) (bytes : List ℕ) (a b : Option (List ℕ)) → Appends a b (take count bytes) → AppendsPart a b bytes
part_taken count bytes a b wrote = (take count bytes, prefix_taken count bytes, wrote)

-- all of them
pub part_all : (bytes : List ℕ) (a b : Option (List ℕ)) → Appends a b bytes → AppendsPart a b bytes
part_all bytes a b wrote = (bytes, sym (take_all (length bytes) bytes (omega arith)), wrote)

-- none of them
pub part_none : (bytes : List ℕ) (a b : Option (List ℕ)) → b ≡ a → AppendsPart a b bytes
part_none bytes a b same = ([], refl, subst (λ (x : Option (List ℕ)). Appends a x []) (sym same) (Appends-nil a))

-- some of the first ones
pub part_first : (bytes after : List ℕ) (a b : Option (List ℕ)) → AppendsPart a b bytes → AppendsPart a b (bytes ++ after)
part_first bytes after a b (part, is, wrote) = (part, prefix_first part bytes after is, wrote)

-- the first ones, and some of those behind them
pub part_then : (front bytes : List ℕ) (a b c : Option (List ℕ)) → Appends a b front → AppendsPart b c bytes → AppendsPart a c (front ++ bytes)
part_then front bytes a b c first (part, is, wrote) = (front ++ part, prefix_then front part bytes is, Appends-trans a b c front part first wrote)

-- the first ones, some of those behind them, and none of the last
pub part_amid : (before bytes after all : List ℕ) (a b c : Option (List ℕ)) → all ≡ before ++ (bytes ++ after) → Appends a b before → AppendsPart b c bytes → AppendsPart a c all
part_amid before bytes after all a b c is first part =
    subst (λ (l : List ℕ). AppendsPart a c l) (sym is) (part_then before (bytes ++ after) a b c first (part_first bytes after b c part))

-- what was kept before and since
pub kept_part : (bytes : List ℕ) (a b c : Option (List ℕ)) → Keeps a b → AppendsPart b c bytes → AppendsPart a c bytes
kept_part bytes a b c keeps part = part_then [] bytes a b c (Appends-kept a a b [] (Appends-nil a) keeps) part

pub part_kept : (bytes : List ℕ) (a b c : Option (List ℕ)) → AppendsPart a b bytes → Keeps b c → AppendsPart a c bytes
part_kept bytes a b c (part, is, wrote) keeps = (part, is, Appends-kept a b c part wrote keeps)

-- ---- pieces

-- so many were written, and then the rest, or not all of it
pub puts_rest : (count : ℕ) (bytes : List ℕ) (a b c : Option (List ℕ)) (result : Result (Unit {0}) Stop) → Appends a b (take count bytes) → PutsBytes (drop count bytes) b c result → PutsBytes bytes a c result
puts_rest count bytes a b c (Ok done) first rest = subst (λ (l : List ℕ). Appends a c l) (take-append-drop count bytes) (Appends-trans a b c (take count bytes) (drop count bytes) first rest)
puts_rest count bytes a b c (Err stop) first (is, rest) = (is, subst (λ (l : List ℕ). AppendsPart a c l) (take-append-drop count bytes) (part_then (take count bytes) (drop count bytes) a b c first rest))

-- none was written at first
pub puts_kept : (bytes : List ℕ) (a b c : Option (List ℕ)) (result : Result (Unit {0}) Stop) → Keeps a b → PutsBytes bytes b c result → PutsBytes bytes a c result
puts_kept bytes a b c result keeps rest = puts_rest 0 bytes a b c result (Appends-kept a a b [] (Appends-nil a) keeps) rest

-- a piece wasn't written whole
pub puts_stop : (before bytes after all : List ℕ) (a b c : Option (List ℕ)) (stop : Stop) (result : Result (Unit {0}) Stop) → IsErrAnd result (λ x. x ≡ stop) → all ≡ before ++ (bytes ++ after) → Appends a b before → PutsBytes bytes b c (Err stop) → PutsBytes all a c result
puts_stop before bytes after all a b c stop (Ok done) same is first piece = absurd same
puts_stop before bytes after all a b c stop (Err other) same is first (failed, part) = (same ∙ failed, part_amid before bytes after all a b c is first part)

-- the last piece
pub puts_last : (before bytes all : List ℕ) (a b c : Option (List ℕ)) (result : Result (Unit {0}) Stop) → all ≡ before ++ bytes → Appends a b before → PutsBytes bytes b c result → PutsBytes all a c result
puts_last before bytes all a b c (Ok done) is first piece = subst (λ (l : List ℕ). Appends a c l) (sym is) (Appends-trans a b c before bytes first piece)
puts_last before bytes all a b c (Err stop) is first (failed, part) = (failed, subst (λ (l : List ℕ). AppendsPart a c l) (sym is) (part_then before bytes a b c first part))

-- ---- answers

-- an answer with a long payload is too long
pub long_frame : (status : ℕ) (payload : List ℕ) → IsLong (length payload) → IsTooLong (frame_bytes (status ∷ payload))
long_frame status payload long =
    let body = status ∷ payload in
    omega (arith, long, length-append (length_bytes (length body)) body, length-length_bytes (length body))

-- so nothing is written of it
pub long_unwritten : (status : ℕ) (payload : List ℕ) (out : Option (List ℕ)) (stop : Stop) (result : Result (Unit {0}) Stop) → IsErrAnd result (λ x. x ≡ stop) → stop ≡ LongAnswer → IsLong (length payload) → PutsAnswer (frame_bytes (status ∷ payload)) out out result
long_unwritten status payload out stop (Ok done) same is long = absurd same
long_unwritten status payload out stop (Err other) same is long = subst (λ (x : Stop). PutsAnswer (frame_bytes (status ∷ payload)) out out (Err x)) (sym (same ∙ is)) (long_frame status payload long, refl)

-- a head, and what it is of
pub head_then : (status len : ℕ) (payload : List ℕ) → len ≡ length payload → head_bytes status len ++ payload ≡ frame_bytes (status ∷ payload)
head_then status len payload long =
    let size : len + 1 ≡ length (status ∷ payload) = omega (arith, long) in
    append_assoc (length_bytes (len + 1)) (status ∷ []) payload ∙ ap (λ (n : ℕ). length_bytes n ++ status ∷ payload) size

-- a head, as its bytes are written
pub head_puts : (status len : ℕ) (bytes : List ℕ) (a b : Option (List ℕ)) (result : Result (Unit {0}) Stop) → bytes ≡ head_bytes status len → PutsBytes bytes a b result → PutsHead status len a b result
head_puts status len bytes a b (Ok done) is wrote = subst (λ (l : List ℕ). Appends a b l) is wrote
head_puts status len bytes a b (Err stop) is (failed, part) = subst (λ (x : Stop). PutsHead status len a b (Err x)) (sym failed) (subst (λ (l : List ℕ). AppendsPart a b l) is part)

-- one piece more
pub head_more : (head before bytes : List ℕ) (a b c : Option (List ℕ)) → Appends a b (head ++ before) → Appends b c bytes → Appends a c (head ++ (before ++ bytes))
head_more head before bytes a b c first more = subst (λ (l : List ℕ). Appends a c l) (append_assoc head before bytes) (Appends-trans a b c (head ++ before) bytes first more)

pub head_alone : (head : List ℕ) (a b : Option (List ℕ)) → Appends a b head → Appends a b (head ++ [])
head_alone head a b first = subst (λ (l : List ℕ). Appends a b l) (sym (append-nil head)) first

module _ (status len : ℕ) (payload : List ℕ) where
  -- an answer without its head
  pub frame_stops : (a b : Option (List ℕ)) (stop : Stop) (result : Result (Unit {0}) Stop) → IsErrAnd result (λ x. x ≡ stop) → len ≡ length payload → PutsHead status len a b (Err stop) → PutsAnswer (frame_bytes (status ∷ payload)) a b result
  frame_stops a b stop (Ok done) same long head = absurd same
  frame_stops a b stop (Err other) same long head = subst (λ (x : Stop). PutsAnswer (frame_bytes (status ∷ payload)) a b (Err x)) (sym same) (by_cause stop head)
    where
      by_cause : (x : Stop) → PutsHead status len a b (Err x) → PutsAnswer (frame_bytes (status ∷ payload)) a b (Err x)
      by_cause LongAnswer (is, kept) = (long_frame status payload (subst (λ (n : ℕ). IsLong n) long is), kept)
      by_cause Failed part = subst (λ (l : List ℕ). AppendsPart a b l) (head_then status len payload long) (part_first (head_bytes status len) payload a b part)
      by_cause OutOfMemory none = absurd none
      by_cause (Malformed number flaw) none = absurd none
      by_cause (Version byte) none = absurd none
      by_cause NoVersion none = absurd none
      by_cause (WouldCut cut) none = absurd none
      by_cause (Refused error) none = absurd none
      by_cause (Lost error) none = absurd none

  -- an answer of which a piece wasn't written whole
  pub frame_breaks : (before bytes after : List ℕ) (a b c : Option (List ℕ)) (stop : Stop) (result : Result (Unit {0}) Stop) → IsErrAnd result (λ x. x ≡ stop) → len ≡ length payload → payload ≡ before ++ (bytes ++ after)
      → Appends a b (head_bytes status len ++ before) → PutsBytes bytes b c (Err stop) → PutsAnswer (frame_bytes (status ∷ payload)) a c result
  frame_breaks before bytes after a b c stop (Ok done) same long is first piece = absurd same
  frame_breaks before bytes after a b c stop (Err other) same long is first (failed, part) =
      let head = head_bytes status len in
      let all : frame_bytes (status ∷ payload) ≡ (head ++ before) ++ (bytes ++ after) = sym (head_then status len payload long) ∙ ap (λ (l : List ℕ). head ++ l) is ∙ sym (append_assoc head before (bytes ++ after)) in
      subst (λ (x : Stop). PutsAnswer (frame_bytes (status ∷ payload)) a c (Err x)) (sym (same ∙ failed)) (part_amid (head ++ before) bytes after (frame_bytes (status ∷ payload)) a b c all first part)

  -- an answer up to its last piece
  pub frame_ends : (before bytes : List ℕ) (a b c : Option (List ℕ)) (result : Result (Unit {0}) Stop) → len ≡ length payload → payload ≡ before ++ bytes
      → Appends a b (head_bytes status len ++ before) → PutsBytes bytes b c result → PutsAnswer (frame_bytes (status ∷ payload)) a c result
  frame_ends before bytes a b c (Ok done) long is first piece =
      let head = head_bytes status len in
      subst (λ (l : List ℕ). Appends a c l) (append_assoc head before bytes ∙ ap (λ (l : List ℕ). head ++ l) (sym is) ∙ head_then status len payload long) (Appends-trans a b c (head ++ before) bytes first piece)
  frame_ends before bytes a b c (Err stop) long is first piece =
      frame_breaks before bytes [] a b c stop (Err stop) refl long (is ∙ ap (λ (l : List ℕ). before ++ l) (sym (append-nil bytes))) first piece

-- an answer, as its bytes are written
pub puts_answer : (answer : List ℕ) (a b : Option (List ℕ)) (result : Result (Unit {0}) Stop) → PutsBytes answer a b result → PutsAnswer answer a b result
puts_answer answer a b (Ok done) wrote = wrote
puts_answer answer a b (Err stop) (failed, part) = subst (λ (x : Stop). PutsAnswer answer a b (Err x)) (sym failed) part

-- an answer that fits a frame
pub writes_short : (answer : List ℕ) (a b : Option (List ℕ)) (result : Result (Unit {0}) Stop) → length answer < 2 ^ 32 → PutsAnswer answer a b result → PutsBytes answer a b result
writes_short answer a b (Ok done) short wrote = wrote
writes_short answer a b (Err LongAnswer) short (long, same) = absurd (omega (arith, short, long))
writes_short answer a b (Err Failed) short part = (refl, part)
writes_short answer a b (Err OutOfMemory) short none = absurd none
writes_short answer a b (Err (Malformed number flaw)) short none = absurd none
writes_short answer a b (Err (Version byte)) short none = absurd none
writes_short answer a b (Err NoVersion) short none = absurd none
writes_short answer a b (Err (WouldCut cut)) short none = absurd none
writes_short answer a b (Err (Refused error)) short none = absurd none
writes_short answer a b (Err (Lost error)) short none = absurd none

-- another answer with the same bytes
pub writes_same : (answer other : List ℕ) (a b : Option (List ℕ)) (result : Result (Unit {0}) Stop) → answer ≡ other → PutsAnswer answer a b result → PutsAnswer other a b result
writes_same answer other a b result same wrote = subst (λ (l : List ℕ). PutsAnswer l a b result) same wrote

-- an answer that was written was all kept, or some of it
pub writes_part : (answer : List ℕ) (a b : Option (List ℕ)) (stop : Stop) → stop ≡ Failed → PutsAnswer answer a b (Err stop) → AppendsPart a b answer
writes_part answer a b stop is wrote = subst (λ (x : Stop). PutsAnswer answer a b (Err x)) is wrote
