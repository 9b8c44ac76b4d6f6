-- What a client begins with, and what it is answered.
use Rattle.std.proofs.Common.{◌≡◌, ℕ, ◌+◌, ◌<◌, ◌^◌, inl, inr, List, [], ◌∷◌, ◌++◌, length, length-append, refl, sym, ap, ◌∙◌, subst, append_assoc, arith}
use Rattle.std.specs.Prelude.{Option, Some, None, Result, Ok, Err, IsErrAnd}
use Rattle.std.specs.List.{flat_map}
use Rattle.std.specs.Io.KnownBytes.{Appends}
use Rattle.std.proofs.KnownBytes.{Appends-trans}
use Rattle.protocol.specs.declared.opening.Opening.{Opening}
use Rattle.protocol.specs.declared.opening.Opening.TheVariants.{Offer}
use Rattle.protocol.specs.declared.setting.Setting.{Setting}
use Rattle.protocol.specs.declared.stop.Stop.{Stop}
use Rattle.protocol.specs.declared.stop.Stop.TheVariants.{LongAnswer, Failed, NoVersion, OutOfMemory, Malformed, Version, WouldCut, Refused, Lost}
use Rattle.protocol.specs.declared.version.Version.{Version as ProtocolVersion}
use Rattle.protocol.specs.declared.version.Version.TheVariants.{One, Two}
use Rattle.protocol.specs.Answer.{IsTooLong, IsLong, PutsAnswer, PutsHead, flag_byte, head_bytes}
use Rattle.protocol.specs.Output.{PutsBytes}
use Rattle.protocol.specs.Opening.{TellsOpening, agreed_bytes, hello_bytes, hello_numbers, known_bytes, text_bytes}
use Rattle.protocol.specs.Request.{frame_bytes, length_bytes, number_bytes}
use Rattle.protocol.proofs.Bytes.{length-length_bytes, length-number_bytes}
use Rattle.protocol.proofs.Serving.{length_of_numbers}
use Rattle.protocol.proofs.Written.{frame_breaks, frame_ends, frame_stops, head_alone, head_more, writes_short}

-- how many bytes a text takes
length_of_text : (text : List ℕ) → length (text_bytes text) ≡ length text + 8
length_of_text text = omega (arith, length-append (number_bytes (length text)) text, length-number_bytes (length text))

module _ (flag : ℕ) (numbers checksum set_aside : List ℕ) where
  -- a hello after its status
  abbrev pub told : List ℕ
  told = 2 ∷ flag ∷ flat_map number_bytes numbers ++ text_bytes checksum ++ text_bytes set_aside

  -- how many bytes the hello has after its status
  pub length_of_told : length numbers ≡ 8 → length told ≡ length checksum + length set_aside + 82
  length_of_told eight =
      let sizes = flat_map number_bytes numbers in
      omega (arith, eight, length-append (sizes ++ text_bytes checksum) (text_bytes set_aside), length-append sizes (text_bytes checksum), length_of_numbers numbers, length_of_text checksum, length_of_text set_aside)

  -- a hello that is too long for a frame
  pub too_long_told : length numbers ≡ 8 → IsLong (length checksum + length set_aside + 82) → IsTooLong (frame_bytes (0 ∷ told))
  too_long_told eight long =
      let body = 0 ∷ told in
      omega (arith, long, length_of_told eight, length-append (length_bytes (length body)) body, length-length_bytes (length body))

module _ (setting : Setting) (checksum set_aside : List ℕ) (size cut : ℕ) where
  abbrev flag : ℕ
  flag = flag_byte setting.read_only

  abbrev numbers : List ℕ
  numbers = hello_numbers setting size cut

  abbrev hello : List ℕ
  hello = hello_bytes setting checksum set_aside size cut

  abbrev payload : List ℕ
  payload = told flag numbers checksum set_aside

  abbrev front : List ℕ
  front = 2 ∷ flag ∷ []

  abbrev sizes : List ℕ
  sizes = flat_map number_bytes numbers

  -- a hello whose texts are too long
  pub hello_long : (out : Option (List ℕ)) → IsLong (length checksum + length set_aside + 82) → PutsAnswer hello out out (Err LongAnswer)
  hello_long out long = (too_long_told flag numbers checksum set_aside refl long, refl)

  module _ (len : ℕ) (a b : Option (List ℕ)) (is : len ≡ length checksum + length set_aside + 82) where
    size_of_payload : len ≡ length payload
    size_of_payload = is ∙ sym (length_of_told flag numbers checksum set_aside refl)

    -- its head wasn't written whole
    pub hello_unheaded : (stop : Stop) (result : Result (Unit {0}) Stop) → IsErrAnd result (λ x. x ≡ stop) → PutsHead 0 len a b (Err stop) → PutsAnswer hello a b result
    hello_unheaded stop result same head = frame_stops 0 len payload a b stop result same size_of_payload head

    module _ (head : Appends a b (head_bytes 0 len)) (c : Option (List ℕ)) where
      -- nor were its first two bytes
      pub hello_begun : (stop : Stop) (result : Result (Unit {0}) Stop) → IsErrAnd result (λ x. x ≡ stop) → PutsBytes front b c (Err stop) → PutsAnswer hello a c result
      hello_begun stop result same piece = frame_breaks 0 len payload [] front (sizes ++ text_bytes checksum ++ text_bytes set_aside) a b c stop result same size_of_payload refl (head_alone (head_bytes 0 len) a b head) piece

      module _ (first : Appends b c front) (d : Option (List ℕ)) where
        one : Appends a c (head_bytes 0 len ++ front)
        one = Appends-trans a b c (head_bytes 0 len) front head first

        -- nor were its numbers
        pub hello_unsized : (stop : Stop) (result : Result (Unit {0}) Stop) → IsErrAnd result (λ x. x ≡ stop) → PutsBytes sizes c d (Err stop) → PutsAnswer hello a d result
        hello_unsized stop result same piece =
            frame_breaks 0 len payload front sizes (text_bytes checksum ++ text_bytes set_aside) a c d stop result same size_of_payload (ap (λ (l : List ℕ). front ++ l) (append_assoc sizes (text_bytes checksum) (text_bytes set_aside))) one piece

        module _ (second : Appends c d sizes) (e : Option (List ℕ)) where
          two : Appends a d (head_bytes 0 len ++ (front ++ sizes))
          two = head_more (head_bytes 0 len) front sizes a c d one second

          -- nor was the name of its checksum
          pub hello_unnamed : (stop : Stop) (result : Result (Unit {0}) Stop) → IsErrAnd result (λ x. x ≡ stop) → PutsBytes (text_bytes checksum) d e (Err stop) → PutsAnswer hello a e result
          hello_unnamed stop result same piece =
              frame_breaks 0 len payload (front ++ sizes) (text_bytes checksum) (text_bytes set_aside) a d e stop result same size_of_payload (append_assoc (front ++ sizes) (text_bytes checksum) (text_bytes set_aside)) two piece

          -- all of it, if its last text was written
          pub hello_told : (third : Appends d e (text_bytes checksum)) (f : Option (List ℕ)) (result : Result (Unit {0}) Stop) → PutsBytes (text_bytes set_aside) e f result → PutsAnswer hello a f result
          hello_told third f result piece =
              frame_ends 0 len payload ((front ++ sizes) ++ text_bytes checksum) (text_bytes set_aside) a e f result size_of_payload refl (head_more (head_bytes 0 len) (front ++ sizes) (text_bytes checksum) a d e two third) piece

-- ---- offers

-- an answer to an offer wasn't written whole
known_short : length known_bytes < 2 ^ 32
known_short = omega (arith, length-append (length_bytes 3) (24 ∷ 1 ∷ 2 ∷ []), length-length_bytes 3)

agreed_short : length agreed_bytes < 2 ^ 32
agreed_short = omega (arith, length-append (length_bytes 2) (0 ∷ 1 ∷ []), length-length_bytes 2)

module _ (opening : Opening) (hello : List ℕ) (out written : Option (List ℕ)) (stop : Stop) where
  turned : (result : Result (Option ProtocolVersion) Stop) → IsErrAnd result (λ x. x ≡ stop) → (x : Stop) → stop ≡ x → TellsOpening opening hello out written (Err x) → TellsOpening opening hello out written result
  turned (Ok version) same x is tells = absurd same
  turned (Err other) same x is tells = subst (λ (y : Stop). TellsOpening opening hello out written (Err y)) (sym (same ∙ is)) tells

  pub known_untold : (result : Result (Option ProtocolVersion) Stop) → opening ≡ Offer None → IsErrAnd result (λ x. x ≡ stop) → PutsAnswer known_bytes out written (Err stop) → TellsOpening opening hello out written result
  known_untold result is same wrote =
      let short : PutsBytes known_bytes out written (Err stop) = writes_short known_bytes out written (Err stop) known_short wrote in
      turned result same Failed short.0 (inl (is, short.1))

  pub agreed_untold : (result : Result (Option ProtocolVersion) Stop) → opening ≡ Offer (Some One) → IsErrAnd result (λ x. x ≡ stop) → PutsAnswer agreed_bytes out written (Err stop) → TellsOpening opening hello out written result
  agreed_untold result is same wrote =
      let short : PutsBytes agreed_bytes out written (Err stop) = writes_short agreed_bytes out written (Err stop) agreed_short wrote in
      turned result same Failed short.0 (inr (inl (is, short.1)))

  pub hello_untold : (result : Result (Option ProtocolVersion) Stop) → opening ≡ Offer (Some Two) → IsErrAnd result (λ x. x ≡ stop) → PutsAnswer hello out written (Err stop) → TellsOpening opening hello out written result
  hello_untold result two same wrote = turned result same stop refl (by_cause stop wrote)
    where
      by_cause : (x : Stop) → PutsAnswer hello out written (Err x) → TellsOpening opening hello out written (Err x)
      by_cause LongAnswer (long, kept) = (two, long, kept)
      by_cause Failed part = inr (inr (two, part))
      by_cause NoVersion none = absurd none
      by_cause OutOfMemory none = absurd none
      by_cause (Malformed number flaw) none = absurd none
      by_cause (Version byte) none = absurd none
      by_cause (WouldCut cut) none = absurd none
      by_cause (Refused error) none = absurd none
      by_cause (Lost error) none = absurd none
