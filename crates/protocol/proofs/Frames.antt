-- What was read, from what was read before it and after it.
use Rattle.std.proofs.Common.{◌≡◌, ◌≢◌, inl, inr, refl, ℕ, ◌+◌, ◌*◌, ◌<◌, ◌≤◌, ◌^◌, List, [], ◌∷◌, ◌++◌, length, take, sym, ap, ◌∙◌, subst, get_or, append_assoc, append-nil, length-append, arith, false}
use Rattle.std.specs.Prelude.{Option, Some, None, Result, Ok, Err, IfSome, IsErrAnd}
use Rattle.std.proofs.lemmas.List.{take_all}
use Rattle.std.specs.Io.KnownBytes.{Consumes, IsAtEnd}
use Rattle.std.proofs.KnownBytes.{Consumes-trans}
use Rattle.protocol.specs.declared.request.Request.{Request}
use Rattle.protocol.specs.declared.stop.Flaw.{Flaw}
use Rattle.protocol.specs.declared.version.Version.{Version}
use Rattle.protocol.specs.declared.stop.Flaw.TheVariants.{Cut, Empty, Kind, Length, LongRead, NoBuffer}
use Rattle.protocol.specs.declared.stop.ReadError.{ReadError}
use Rattle.protocol.specs.declared.stop.ReadError.TheVariants.{Malformed, Failed, OutOfMemory}
use Rattle.protocol.specs.Input.{IsBroken}
use Rattle.protocol.specs.Request.{length_bytes, kind_of, fields_of, request_bytes, frame_bytes, field_count, last_kind, takes_bytes, IsNoKind, TakesLength, HasFields, FieldsHave, HasFlaw, IsFlawed, HasNoRequest, ReadsFields, ReadsAfter, ReadsRequest, Builds}
use Rattle.protocol.proofs.Requests.{no_empty, no_kind, no_cut, no_length, no_such_kind, no_such_length, no_such_fields}

-- ---- bytes of the input

-- a known input that gave so few bytes had no more
pub came_all : (old new : Option (List ℕ)) (bytes : List ℕ) (P : List ℕ → Type 0) → Consumes old new bytes → IsAtEnd new → P bytes → IfSome old P
came_all None new bytes P takes ends holds = tt
came_all (Some xs) None bytes P takes ends holds = absurd takes
came_all (Some xs) (Some ys) bytes P takes ends holds =
    subst P (sym (takes ∙ ap (λ (rest : List ℕ). bytes ++ rest) ends ∙ append-nil bytes)) holds

-- a fact of what a known input had, by what it gave and has left
pub came_first : (old new : Option (List ℕ)) (bytes : List ℕ) (P : List ℕ → Type 0) → Consumes old new bytes → ((rest : List ℕ) → P (bytes ++ rest)) → IfSome old P
came_first None new bytes P takes holds = tt
came_first (Some xs) None bytes P takes holds = absurd takes
came_first (Some xs) (Some ys) bytes P takes holds = subst P (sym takes) (holds ys)

-- the bytes that came to where there was room for one, where they are not none
pub one_byte : (room : List ℕ) (count d : ℕ) → length room ≡ 1 → count ≢ 0 → take count room ≡ get_or room 0 d ∷ []
one_byte [] count d one some = absurd (omega (arith, one))
one_byte (b ∷ []) count d one some = take_all count (b ∷ []) (omega (arith, some))
one_byte (b ∷ c ∷ room) count d one some = absurd (omega (arith, one))

-- ---- a request after a length

-- what reading a request answers, if more of its first bytes were read before
after_more : (version : Version) (front more : List ℕ) (old mid new : Option (List ℕ)) (result : Result Request ReadError) → Consumes old mid more → ReadsAfter version (front ++ more) mid new result → ReadsAfter version front old new result
after_more version front more old mid new (Ok request) takes reads =
    (reads.0, more ++ reads.1, reads.2 ∙ append_assoc front more reads.1, Consumes-trans old mid new more reads.1 takes reads.3)
after_more version front more None mid new (Err (Malformed flaw)) takes reads = tt
after_more version front more (Some xs) None new (Err (Malformed flaw)) takes reads = absurd takes
after_more version front more (Some xs) (Some ys) new (Err (Malformed flaw)) takes reads =
    subst (λ (bytes : List ℕ). IsFlawed version flaw bytes) (append_assoc front more ys ∙ ap (λ (bytes : List ℕ). front ++ bytes) (sym takes)) reads
after_more version front more old mid new (Err Failed) takes reads = tt
after_more version front more old mid new (Err OutOfMemory) takes reads = tt

-- what reading a request answers, if its kind was read before
pub after_kind : (version : Version) (n len kind : ℕ) (bytes : List ℕ) (old mid new : Option (List ℕ)) (result : Result Request ReadError) → len + 1 ≡ n → bytes ≡ kind ∷ [] → Consumes old mid bytes
    → ReadsAfter version (length_bytes (len + 1) ++ kind ∷ []) mid new result → ReadsAfter version (length_bytes n) old new result
after_kind version n len kind bytes old mid new result long is takes reads =
    after_more version (length_bytes n) (kind ∷ []) old mid new result (subst (λ (bs : List ℕ). Consumes old mid bs) is takes)
    (subst (λ (m : ℕ). ReadsAfter version (length_bytes m ++ kind ∷ []) mid new result) long reads)

-- where the input failed, or memory did
pub after_broken : (version : Version) (front : List ℕ) (old new : Option (List ℕ)) (error : ReadError) (result : Result Request ReadError) → IsErrAnd result (λ e. e ≡ error) → IsBroken error → ReadsAfter version front old new result
after_broken version front old new error (Ok request) is broken = absurd is
after_broken version front old new error (Err (Malformed flaw)) is broken = absurd (subst (λ (e : ReadError). IsBroken e) (sym is) broken)
after_broken version front old new error (Err Failed) is broken = tt
after_broken version front old new error (Err OutOfMemory) is broken = tt

-- an empty frame has no request
pub after_empty : (version : Version) (n : ℕ) (old : Option (List ℕ)) → n ≡ 0 → HasNoRequest version Empty (length_bytes n) old
after_empty version n None none = tt
after_empty version n (Some xs) none = subst (λ (m : ℕ). IsFlawed version Empty (length_bytes m ++ xs)) (sym none) (no_empty version xs, (xs, (omega arith, refl)))

-- there is no request if the input ends in front of the kind
pub after_end : (version : Version) (n : ℕ) (bytes : List ℕ) (old new : Option (List ℕ)) → n < 2 ^ 32 → 0 < n → length bytes ≡ 0 → Consumes old new bytes → IsAtEnd new → HasNoRequest version Cut (length_bytes n) old
after_end version n [] old new small some none takes ends =
    came_all old new [] (λ (bytes : List ℕ). IsFlawed version Cut (length_bytes n ++ bytes)) takes ends (no_kind version n small, inr (n, [], (small, refl), some))
after_end version n (b ∷ bytes) old new small some none takes ends = absurd (omega arith)

-- ---- a request after a length and a kind

-- what is wrong with bytes is wrong where their kind was read first
flawed_after : (version : Version) (flaw : Flaw) (n kind : ℕ) (bytes : List ℕ) → IsFlawed version flaw (length_bytes n ++ kind ∷ bytes) → IsFlawed version flaw ((length_bytes n ++ kind ∷ []) ++ bytes)
flawed_after version flaw n kind bytes wrong =
    subst (λ (all : List ℕ). IsFlawed version flaw all) (sym (append_assoc (length_bytes n) (kind ∷ []) bytes)) wrong

-- there is no request if the version has no such kind
pub after_no_kind : (version : Version) (n kind : ℕ) (old : Option (List ℕ)) → n < 2 ^ 32 → 0 < n → IsNoKind version kind → HasNoRequest version (Kind kind) (length_bytes n ++ kind ∷ []) old
after_no_kind version n kind None small some none = tt
after_no_kind version n kind (Some xs) small some none =
    flawed_after version (Kind kind) n kind xs (no_such_kind version n kind xs small none, (n, xs, (small, refl), some, none))

-- there is no request whose length is not that of its kind
pub after_wrong : (version : Version) (n kind count : ℕ) (old : Option (List ℕ)) → n < 2 ^ 32 → 0 < n → kind ≤ last_kind version → takes_bytes kind ≡ false → field_count kind ≡ Some count → n ≢ 8 * count + 1 → HasNoRequest version Length (length_bytes n ++ kind ∷ []) old
after_wrong version n kind count None small some within other known wrong = tt
after_wrong version n kind count (Some xs) small some within other known wrong =
    flawed_after version Length n kind xs (no_such_length version n kind count xs small other known wrong, (n, kind, xs, count, (small, refl), some, within, other, known, wrong))

-- there is no request if fewer bytes are left than its fields have
pub after_few : (version : Version) (len kind : ℕ) (old : Option (List ℕ)) → len + 1 < 2 ^ 32 → TakesLength version kind (len + 1) → IfSome old (λ xs. length xs < len) → HasNoRequest version Cut (length_bytes (len + 1) ++ kind ∷ []) old
after_few version len kind None small right short = tt
after_few version len kind (Some xs) small right short =
    let few : length xs + 1 < len + 1 = omega (arith, short) in
    flawed_after version Cut (len + 1) kind xs (no_cut version (len + 1) kind xs small few, inr (len + 1, kind ∷ xs, (small, refl), (few, right)))

-- what reading a request answers, if its fields were not read
pub after_cut : (version : Version) (len kind : ℕ) (old new : Option (List ℕ)) (error : ReadError) (result : Result Request ReadError) → len + 1 < 2 ^ 32 → TakesLength version kind (len + 1) → IsErrAnd result (λ e. e ≡ error)
    → ReadsFields len old new (Err error) → ReadsAfter version (length_bytes (len + 1) ++ kind ∷ []) old new result
after_cut version len kind old new error (Ok request) small right is reads = absurd is
after_cut version len kind old new error (Err (Malformed flaw)) small right is reads =
    let cut = subst (λ (e : ReadError). ReadsFields len old new (Err e)) (sym is) reads in
    subst (λ (f : Flaw). HasNoRequest version f (length_bytes (len + 1) ++ kind ∷ []) old) (sym cut.0) (after_few version len kind old small right cut.1)
after_cut version len kind old new error (Err Failed) small right is reads = tt
after_cut version len kind old new error (Err OutOfMemory) small right is reads = tt

-- what reading a request answers, if it is built of its fields
pub framed : (version : Version) (len kind : ℕ) (fields : List ℕ) (old new : Option (List ℕ)) (request : Request) → length fields ≡ len → Consumes old new fields → kind ≤ last_kind version → Builds kind fields (Ok request)
    → ReadsAfter version (length_bytes (len + 1) ++ kind ∷ []) old new (Ok request)
framed version len kind fields old new request long takes within builds =
    let body : kind_of request ∷ fields_of request ≡ kind ∷ fields = cc (builds.1, builds.2) in
    let more : length (kind_of request ∷ fields_of request) ≡ len + 1 = omega (arith, long, ap length body) in
    let written : request_bytes request ≡ (length_bytes (len + 1) ++ kind ∷ []) ++ fields =
    ap (λ (n : ℕ). length_bytes n ++ kind_of request ∷ fields_of request) more ∙ ap (λ (bytes : List ℕ). length_bytes (len + 1) ++ bytes) body
    ∙ sym (append_assoc (length_bytes (len + 1)) (kind ∷ []) fields) in
    ((builds.0, omega (arith, within, builds.1)), fields, written, takes)

-- what is wrong with fields is wrong with their frame
frame_has : (version : Version) (flaw : Flaw) (kind : ℕ) (fields rest : List ℕ) → HasFields kind fields → FieldsHave flaw kind fields → HasFlaw version flaw (frame_bytes (kind ∷ fields) ++ rest)
frame_has version LongRead kind fields rest has wrong = (kind, fields, rest, refl, has, wrong)
frame_has version NoBuffer kind fields rest has wrong = (kind, fields, rest, refl, has, wrong)
frame_has version Cut kind fields rest has wrong = absurd wrong
frame_has version Empty kind fields rest has wrong = absurd wrong
frame_has version (Kind k) kind fields rest has wrong = absurd wrong
frame_has version Length kind fields rest has wrong = absurd wrong

frame_flaw : (version : Version) (flaw : Flaw) (kind : ℕ) (fields rest : List ℕ) → HasFields kind fields → FieldsHave flaw kind fields → HasFlaw version flaw (length_bytes (length fields + 1) ++ kind ∷ (fields ++ rest))
frame_flaw version flaw kind fields rest has wrong =
    let more : length (kind ∷ fields) ≡ length fields + 1 = omega arith in
    let all : HasFlaw version flaw (length_bytes (length (kind ∷ fields)) ++ kind ∷ (fields ++ rest)) =
    subst (λ (bytes : List ℕ). HasFlaw version flaw bytes) (append_assoc (length_bytes (length (kind ∷ fields))) (kind ∷ fields) rest) (frame_has version flaw kind fields rest has wrong) in
    subst (λ (n : ℕ). HasFlaw version flaw (length_bytes n ++ kind ∷ (fields ++ rest))) more all

-- there is no request if none is built of the fields
pub no_fields : (version : Version) (len kind : ℕ) (fields : List ℕ) (old new : Option (List ℕ)) (flaw : Flaw) → len + 1 < 2 ^ 32 → length fields ≡ len → HasFields kind fields → Consumes old new fields → Builds kind fields (Err flaw)
    → HasNoRequest version flaw (length_bytes (len + 1) ++ kind ∷ []) old
no_fields version len kind fields old new flaw small long has takes builds =
    came_first old new fields (λ (bytes : List ℕ). IsFlawed version flaw ((length_bytes (len + 1) ++ kind ∷ []) ++ bytes)) takes
    (λ rest. flawed_after version flaw (len + 1) kind (fields ++ rest) (
    subst (λ (n : ℕ). IsFlawed version flaw (length_bytes (n + 1) ++ kind ∷ (fields ++ rest))) long (
      no_such_fields version kind fields rest (omega (arith, small, long)) builds.0,
      frame_flaw version flaw kind fields rest has builds.1,
    )))

-- ---- a request with its length

-- where the input failed, or memory did
pub request_broken : (version : Version) (old new : Option (List ℕ)) (error : ReadError) (result : Result (Option Request) ReadError) → IsErrAnd result (λ e. e ≡ error) → IsBroken error → ReadsRequest version old new result
request_broken version old new error (Ok request) is broken = absurd is
request_broken version old new error (Err (Malformed flaw)) is broken = absurd (subst (λ (e : ReadError). IsBroken e) (sym is) broken)
request_broken version old new error (Err Failed) is broken = tt
request_broken version old new error (Err OutOfMemory) is broken = tt

-- what reading a request answers, if the input ends inside its length
pub request_cut : (version : Version) (old new : Option (List ℕ)) (bytes : List ℕ) → length bytes < 4 → 0 < length bytes → Consumes old new bytes → IsAtEnd new → IfSome old (λ all. (all ≢ []) × IsFlawed version Cut all)
request_cut version old new bytes short some takes ends =
    came_all old new bytes (λ (all : List ℕ). (all ≢ []) × IsFlawed version Cut all) takes ends (λ none. absurd (omega (arith, some, ap length none)), (no_length version bytes short, inl short))

-- what reading a request answers, if its frame was read
pub request_came : (version : Version) (n : ℕ) (bytes : List ℕ) (old mid new : Option (List ℕ)) (request : Request) → length_bytes n ≡ bytes → Consumes old mid bytes → ReadsAfter version (length_bytes n) mid new (Ok request)
    → ReadsRequest version old new (Ok (Some request))
request_came version n bytes old mid new request is takes reads =
    (reads.0, subst (λ (all : List ℕ). Consumes old new all) (ap (λ (front : List ℕ). front ++ reads.1) (sym is) ∙ sym reads.2) (Consumes-trans old mid new bytes reads.1 takes reads.3))

-- what reading a request answers, if its frame was not read
pub request_refused : (version : Version) (n : ℕ) (bytes : List ℕ) (old mid new : Option (List ℕ)) (error : ReadError) (result : Result (Option Request) ReadError) → length bytes ≡ 4 → length_bytes n ≡ bytes
    → Consumes old mid bytes → IsErrAnd result (λ e. e ≡ error) → ReadsAfter version (length_bytes n) mid new (Err error) → ReadsRequest version old new result
request_refused version n bytes old mid new error (Ok request) four is takes same reads = absurd same
request_refused version n bytes None mid new error (Err (Malformed flaw)) four is takes same reads = tt
request_refused version n bytes (Some xs) None new error (Err (Malformed flaw)) four is takes same reads = absurd takes
request_refused version n bytes (Some xs) (Some ys) new error (Err (Malformed flaw)) four is takes same reads =
    let wrong : IsFlawed version flaw (length_bytes n ++ ys) = subst (λ (e : ReadError). ReadsAfter version (length_bytes n) (Some ys) new (Err e)) (sym same) reads in (
      λ empty. absurd (omega (arith, four, length-append bytes ys, ap length (sym takes ∙ empty))),
      subst (λ (all : List ℕ). IsFlawed version flaw all) (ap (λ (front : List ℕ). front ++ ys) is ∙ sym takes) wrong,
    )
request_refused version n bytes old mid new error (Err Failed) four is takes same reads = tt
request_refused version n bytes old mid new error (Err OutOfMemory) four is takes same reads = tt
