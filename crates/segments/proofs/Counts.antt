-- A journal has no more records than bytes.
use Rattle.std.specs.Prelude.{◌≡◌, ◌≤◌, ◌<◌, ◌^◌, ◌+◌, ℕ, zero, suc, List, [], ◌∷◌, length, drop, Option, Some, None}
use Rattle.std.specs.List.{flat_map}
use Rattle.std.proofs.Common.{ap, arith, length-append, Fits, w64}
use Rattle.disk.specs.Disk.{Life}
use Rattle.cache.specs.CacheState.{CacheState}
use Rattle.writer_state.specs.WriterState.{WriterState}
use Rattle.writer_state.specs.Sound.{content}
use Rattle.paged.specs.Reads.{size_of}
use Rattle.journal.specs.Frame.{frame_len, frames, frames_in, listed, record_of, records}
use Rattle.journal.specs.Journal.{IsAppended, IsJournal, records_in}
use Rattle.journal.proofs.Journals.{between_of}

few_frames : (n : ℕ) (bytes : List ℕ) → length (frames_in n bytes) ≤ n
few_frames zero bytes = omega arith
few_frames (suc n) [] = omega arith
few_frames (suc n) (b ∷ bytes) = let rest = few_frames n (drop (frame_len (b ∷ bytes)) (b ∷ bytes)) in omega (arith, rest)

one_at_most : (o : Option (List ℕ)) → length (listed o) ≤ 1
one_at_most None = omega arith
one_at_most (Some bytes) = omega arith

few_listed : (own : List ℕ → ℕ) (fs : List (List ℕ)) → length (flat_map (λ f. listed (record_of own f)) fs) ≤ length fs
few_listed own [] = omega arith
few_listed own (f ∷ fs) =
    let one = one_at_most (record_of own f) in
    let rest = few_listed own fs in
    let joined = length-append (listed (record_of own f)) (flat_map (λ f. listed (record_of own f)) fs) in
    omega (arith, one, rest, joined)

few_records : (own : List ℕ → ℕ) (bytes : List ℕ) → length (records own bytes) ≤ length bytes
unfolding records frames
few_records own bytes =
    let listed = few_listed own (frames_in (length bytes) bytes) in
    let framed = few_frames (length bytes) bytes in
    omega (arith, listed, framed)

-- so the number of records fits 64 bits
pub records_fit : (sum own : List ℕ → ℕ) (w : WriterState) (cache : CacheState) (life : Life) (size : ℕ)
    → IsJournal sum w cache life → size ≡ size_of w → size < 2 ^ 64
    → length (records_in own w life) < 2 ^ 64
records_fit sum own w cache life size journal is fits =
    let few = few_records own (content w life.present.readable) in
    let whole = (between_of sum w cache life journal).size in
    omega (arith, few, whole, is, fits)

-- the number still fits once one more record was appended
pub one_more_fits : (sum own : List ℕ → ℕ) (w now : WriterState) (bytes : List ℕ) (after : CacheState)
    (old new : Life) (offset have size : ℕ) → have ≡ length (records_in own w old)
    → IsAppended sum own w bytes after old new now offset → size ≡ size_of now → size < 2 ^ 64
    → Fits w64 (have + 1)
one_more_fits sum own w now bytes after old new offset have size counts is sized fits =
    let all = records_fit sum own now after new size is.journal sized fits in
    let more = ap (λ (l : List (List ℕ)). length l) is.added in
    let joined = length-append (records_in own w old) (bytes ∷ []) in
    omega (arith, all, more, joined, counts)
