-- Lines of a script, one after another.
use Rattle.std.proofs.Common.{◌≡◌, ◌≢◌, ◌<◌, ◌≤◌, ◌+◌, ◌-◌, ℕ, zero, suc, List, [], ◌∷◌, ◌++◌, length, map, take, get_or, Option, Some, None, Result, Ok, Err, Bor, refl, sym, ap, ◌∙◌, subst, arith}
use Rattle.std.proofs.lemmas.List.{take_more, length-map, length-take-le, map-append, get_or-map, get_or-take}
use Rattle.std.specs.Prelude.{IfSome, IsErrAnd}
use Rattle.scripts.specs.declared.word.ReadError.{ReadError}
use Rattle.scripts.specs.declared.word.ReadError.TheVariants.{Unreadable, OutOfMemory}
use Rattle.scripts.specs.declared.script.Script.{Script}
use Rattle.scripts.specs.declared.start.Start.{Start}
use Rattle.scripts.specs.declared.start.ItemStart.{ItemStart}
use Rattle.scripts.specs.declared.stop.Stop.{Stop}
use Rattle.scripts.specs.declared.stop.Stop.TheVariants as stop
use Rattle.scripts.specs.Stop.{error_at}
use Rattle.scripts.specs.Script.{IsReadAs, ReadsLines, ReadsScript, IsLine, IsItemLine, IsStart, IsItemStart, Form, of_session, of_items, IsReadable, IsUnreadable, words_of, line_words, item_line_words, start_words, item_start_words, lines_of}
use Rattle.scripts.specs.Play.{IsScript}

-- ---- the lines after the first

-- one line more was read
pub one_more : {V : Type 0} (words : V → List (List ℕ)) (read : List V) (lines : List (Bor (List ℕ))) (i : ℕ) (line : V) (d : Bor (List ℕ)) → i < length lines
    → map words read ≡ map words_of (take i (map (λ (l : Bor (List ℕ)). l.now) lines)) → words_of (get_or lines i d).now ≡ words line
    → map words (read ++ line ∷ []) ≡ map words_of (take (i + 1) (map (λ (l : Bor (List ℕ)). l.now) lines))
one_more words read lines i line d below so_far this =
    let nows = map (λ (l : Bor (List ℕ)). l.now) lines in
    let there : i < length nows = omega (arith, length-map lines (λ (l : Bor (List ℕ)). l.now)) in
    let item : get_or nows i [] ≡ (get_or lines i d).now = get_or-map (λ (l : Bor (List ℕ)). l.now) lines i d [] below in
    let back : map words_of (take (i + 1) nows) ≡ map words_of (take i nows) ++ words_of (get_or nows i []) ∷ [] =
    ap (λ (l : List (List ℕ)). map words_of l) (take_more nows i [] there) ∙ map-append words_of (take i nows) (get_or nows i [] ∷ []) in
    map-append words read (line ∷ []) ∙ rw (back, item, this, so_far) refl

-- as many lines were read as there are
read-length : {V : Type 0} (words : V → List (List ℕ)) (read : List V) (others : List (List ℕ)) (i : ℕ) → i ≤ length others → map words read ≡ map words_of (take i others) → length read ≡ i
read-length words read others i within so_far =
    let counts = ap (λ (l : List (List (List ℕ))). length l) so_far in
    omega (arith, counts, length-map read words, length-map (take i others) words_of, length-take-le i others within)

-- each line so far was read
line_read : {V : Type 0} (words : V → List (List ℕ)) (read : List V) (others : List (List ℕ)) (i offset : ℕ) → i ≤ length others → map words read ≡ map words_of (take i others) → offset < i
    → (v : V) × (words_of (get_or others offset []) ≡ words v)
line_read words [] others i offset within so_far before = absurd (omega (arith, read-length words [] others i within so_far))
line_read words (v ∷ rest) others i offset within so_far before =
    let count = read-length words (v ∷ rest) others i within so_far in
    let front : get_or (map words (v ∷ rest)) offset [] ≡ words (get_or (v ∷ rest) offset v) = get_or-map words (v ∷ rest) offset v [] (omega (arith, count)) in
    let length_there : length (take i others) ≡ i = length-take-le i others within in
    let back : get_or (map words_of (take i others)) offset [] ≡ words_of (get_or (take i others) offset []) = get_or-map words_of (take i others) offset [] [] (omega arith) in
    let same : get_or (take i others) offset [] ≡ get_or others offset [] = get_or-take i others offset [] before in
    (get_or (v ∷ rest) offset v, sym (ap words_of same) ∙ sym back ∙ ap (λ (l : List (List (List ℕ))). get_or l offset []) (sym so_far) ∙ front)

-- a line that isn't read, after those that were
stops : {V : Type 0} (words : V → List (List ℕ)) (IsOne : V → Type 0) (others : List (List ℕ)) (read : List V) (i : ℕ) (e : ReadError) → i < length others → map words read ≡ map words_of (take i others)
    → IsReadAs words IsOne (words_of (get_or others i [])) (Err e) → ReadsLines words IsOne others (Err (error_at (i + 2) e))
stops words IsOne others read i Unreadable below so_far this =
    let offset : i + 2 - 2 ≡ i = omega arith in (
      omega arith,
      omega arith,
      rw offset this,
      λ p before. line_read words read others i p (omega arith) so_far (omega arith),
    )
stops words IsOne others read i OutOfMemory below so_far this = tt

-- a borrowed line that isn't read, after those that were
pub stops_at : {V : Type 0} (words : V → List (List ℕ)) (IsOne : V → Type 0) (lines : List (Bor (List ℕ))) (read : List V) (i : ℕ) (e : ReadError) (d : Bor (List ℕ)) → i < length lines
    → map words read ≡ map words_of (take i (map (λ (l : Bor (List ℕ)). l.now) lines)) → IsReadAs words IsOne (words_of (get_or lines i d).now) (Err e)
    → ReadsLines words IsOne (map (λ (l : Bor (List ℕ)). l.now) lines) (Err (error_at (i + 2) e))
stops_at words IsOne lines read i e d below so_far this =
    let nows = map (λ (l : Bor (List ℕ)). l.now) lines in
    let item : get_or nows i [] ≡ (get_or lines i d).now = get_or-map (λ (l : Bor (List ℕ)). l.now) lines i d [] below in
    stops words IsOne nows read i e (omega (arith, length-map lines (λ (l : Bor (List ℕ)). l.now))) so_far
    (subst (λ (line : List ℕ). IsReadAs words IsOne (words_of line) (Err e)) (sym item) this)

-- ---- the whole script

-- each line before one that isn't read is
before_it : (form : Form) {V : Type 0} (words : V → List (List ℕ)) (first : List ℕ) (others : List (List ℕ)) (n : ℕ) → IsReadable form 0 first
    → ((p : ℕ) (line : List ℕ) → (v : V) × (words_of line ≡ words v) → IsReadable form (suc p) line)
    → ((p : ℕ) → p + 2 < suc (suc n) → (v : V) × (words_of (get_or others p []) ≡ words v))
    → (p : ℕ) → p + 1 < suc (suc n) → IsReadable form p (get_or (first ∷ others) p [])
before_it form words first others n begins reads were zero before = begins
before_it form words first others n begins reads were (suc p) before = reads p (get_or others p []) (were p (omega arith))

-- in a script of this form its first line was read, and one after it isn't
stopped : (form : Form) {V : Type 0} (words : V → List (List ℕ)) (IsOne : V → Type 0) (first : List ℕ) (others : List (List ℕ)) (e : Stop) → IsReadable form 0 first
    → ((p : ℕ) (line : List ℕ) → (v : V) × (words_of line ≡ words v) → IsReadable form (suc p) line)
    → ((p : ℕ) (line : List ℕ) → ((v : V) → IsOne v → words_of line ≢ words v) → IsUnreadable form (suc p) line)
    → ReadsLines words IsOne others (Err e) → ReadsScript (first ∷ others) (Err e)
stopped form words IsOne first others (stop.Unreadable zero) begins reads bars fails = absurd (omega (arith, fails.0))
stopped form words IsOne first others (stop.Unreadable (suc zero)) begins reads bars fails = absurd (omega (arith, fails.0))
stopped form words IsOne first others (stop.Unreadable (suc (suc n))) begins reads bars fails =
    let one : suc (suc n) - 1 ≡ suc n = omega arith in
    let two : suc (suc n) - 2 ≡ n = omega arith in
    let unread = rw two at fails.2 in
    (omega arith, omega (arith, fails.1), form, rw one (bars n (get_or others n []) unread), λ p before. before_it form words first others n begins reads fails.3 p before)
stopped form words IsOne first others stop.Failed begins reads bars fails = tt

-- what reading answers where a line after the line `start` isn't read
pub stopped_session : (first : List ℕ) (others : List (List ℕ)) (start : Start) (r : Result Script Stop) (e : Stop) → (words_of first ≡ start_words start) × IsStart start → ReadsLines line_words IsLine others (Err e)
    → IsErrAnd r (λ x. x ≡ e) → ReadsScript (first ∷ others) r
stopped_session first others start (Ok read) e begins fails gives = absurd gives
stopped_session first others start (Err x) e begins fails gives =
    rw gives (stopped of_session line_words IsLine first others e (start, begins.0, begins.1) (λ p line read. read) (λ p line unread. unread) fails)

-- what reading answers where a line after the line `start-items` isn't read
pub stopped_items : (first : List ℕ) (others : List (List ℕ)) (start : ItemStart) (r : Result Script Stop) (e : Stop) → (words_of first ≡ item_start_words start) × IsItemStart start → ReadsLines item_line_words IsItemLine others (Err e)
    → IsErrAnd r (λ x. x ≡ e) → ReadsScript (first ∷ others) r
stopped_items first others start (Ok read) e begins fails gives = absurd gives
stopped_items first others start (Err x) e begins fails gives =
    rw gives (stopped of_items item_line_words IsItemLine first others e (start, begins.0, begins.1) (λ p line read. read) (λ p line unread. unread) fails)

-- what was read to the end is a script
pub read_script : (input : Option (List ℕ)) (text : List ℕ) (read : Script) → IfSome input (λ bytes. text ≡ bytes) → ReadsScript (lines_of text) (Ok read) → IfSome input IsScript
read_script None text read whole reads = tt
read_script (Some bytes) text read whole reads = (read, subst (λ (l : List ℕ). ReadsScript (lines_of l) (Ok read)) whole reads)
