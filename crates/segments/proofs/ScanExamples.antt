-- Each definition of going over a log's records, computed on the log of `LogExamples`: segment 0
-- held "c", segment 1 held "d", and segment 2 is open and has "c". What was kept of the closed
-- segments is any.
use Rattle.std.specs.Prelude.{◌≡◌, ◌<◌, ℕ, List, [], ◌∷◌, length, Ok}
use Rattle.std.proofs.Common.{refl, ap, arith, lit<, lit≤}
use Rattle.page.specs.Sums.{add_sum}
use Rattle.journal.specs.Frame.{frames, is_record, record_len, record_of, records}
use Rattle.segments.specs.declared.closed.Closed.{Closed}
use Rattle.segments.specs.declared.scanning.Step.TheVariants.{End}
use Rattle.segments.specs.Manifest.{ListingState}
use Rattle.segments.specs.Scan.{ComesFirst, IsBehind, IsEnd, StepGoes, far_from, held_content, place_at, records_after, records_at, records_from}
use Rattle.segments.proofs.BytesExamples.{c, c_frame, d, d_frame}
use Rattle.segments.proofs.LogExamples.{both, held, small}
use Rattle.segments.proofs.Stepping.{comes_first}

module _ (one two : Closed) where
  abbrev listing : ListingState
  listing = record { first = 0; closed = one ∷ two ∷ [] }

  pub what_the_second_held : held_content held listing c_frame 1 ≡ d_frame
  what_the_second_held = refl

  pub what_the_open_one_has : held_content held listing c_frame 2 ≡ c_frame
  what_the_open_one_has = refl

  pub after_the_first : records_after add_sum held listing c_frame 0 ≡ d ∷ c ∷ []
  unfolding record_len is_record record_of frames records
  after_the_first = refl

  pub after_the_open_one : records_after add_sum held listing c_frame 2 ≡ []
  after_the_open_one = refl

  pub at_the_second : records_at add_sum held listing c_frame (place_at 1 0) ≡ d ∷ c ∷ []
  unfolding record_len is_record record_of frames records
  at_the_second = refl

  -- behind the one frame of segment 1
  pub behind_the_second : records_at add_sum held listing c_frame (place_at 1 8) ≡ c ∷ []
  unfolding record_len is_record record_of frames records
  behind_the_second = refl

  pub from_the_second : records_from add_sum held (both one two) (place_at 1 0) ≡ d ∷ c ∷ []
  unfolding record_len is_record record_of frames records
  from_the_second = refl

  pub the_first_place : ComesFirst add_sum (both one two) (place_at 0 0)
  the_first_place = comes_first add_sum (both one two)

  -- a record stands before this place
  pub a_later_place : ComesFirst add_sum (both one two) (place_at 1 0) → ⊥
  unfolding record_len is_record record_of frames records
  a_later_place first = let same : ◌≡◌ {A = ℕ} 2 3 = ap length (first held) in omega (arith, same)

  pub the_end : IsEnd add_sum (both one two) (place_at 2 8)
  unfolding record_len is_record record_of frames records
  the_end held = refl

  -- a closed segment is done there, and the open one follows
  pub not_the_end : IsEnd add_sum (both one two) (place_at 1 8) → ⊥
  unfolding record_len is_record record_of frames records
  not_the_end is = let same : ◌≡◌ {A = ℕ} 1 0 = ap length (is held) in omega (arith, same)

  -- ---- one frame further

  pub it_ends_here : (digest : List ℕ → List ℕ) → StepGoes add_sum add_sum digest (both one two) (both one two) (place_at 2 8) (Ok End)
  it_ends_here digest = the_end

  -- the open segment follows
  pub it_goes_on : (digest : List ℕ → List ℕ) → StepGoes add_sum add_sum digest (both one two) (both one two) (place_at 1 8) (Ok End) → ⊥
  it_goes_on digest is = not_the_end is

pub how_far : far_from small (place_at 0 8) ≡ 18446744073709551608
how_far = refl

pub it_is_behind : IsBehind small (place_at 0 0) (place_at 0 8)
it_is_behind = record { segment = lit≤ tt; inside = lit≤ tt; nearer = lit< tt }

-- the same place isn't behind itself
pub it_is_the_same : IsBehind small (place_at 0 8) (place_at 0 8) → ⊥
it_is_the_same is = let less : 18446744073709551608 < 18446744073709551608 = is.nearer in omega (arith, less)
