-- Examples of what version 2 reads and answers.
use Rattle.std.proofs.Common.{◌≡◌, ℕ, List, [], ◌∷◌, length, refl, ap, inl, inr, arith, true, false}
use Rattle.std.specs.Prelude.{Some, None}
use Rattle.disk.specs.declared.error.Error.TheVariants.{SyncFailed, ReadFailed, WriteFailed}
use Rattle.session.specs.declared.steps.Reply.TheVariants.{Done, Closed}
use Rattle.protocol.specs.declared.version.Version.TheVariants.{One, Two}
use Rattle.protocol.specs.Answer.{advice_for, first_refusal}
use Rattle.protocol.specs.Opening.{IsCutOffer, highest_known, most_bytes, most_ranges, most_records, offer_bytes}
use Rattle.protocol.specs.Together.{ranges_in, record_bytes, record_lengths, record_starts, tells_ranges, tells_records}

-- ---- offers

pub an_offer : offer_bytes (1 ∷ 2 ∷ []) ≡ 2 ∷ 2 ∷ 1 ∷ 2 ∷ []
an_offer = refl

pub the_highest_known : highest_known (9 ∷ 1 ∷ 2 ∷ []) ≡ Some Two
the_highest_known = refl

pub the_first_alone : highest_known (1 ∷ []) ≡ Some One
the_first_alone = refl

pub none_is_known : highest_known (3 ∷ []) ≡ None
none_is_known = refl

-- an offer of two versions, of which one came
pub a_cut_offer : IsCutOffer (2 ∷ 2 ∷ 1 ∷ [])
a_cut_offer = inr (2, 1 ∷ [], refl, omega arith)

-- an offer of one version is whole
pub not_a_whole_one : IsCutOffer (2 ∷ 1 ∷ 2 ∷ []) → ⊥
not_a_whole_one (inl short) = cc short
not_a_whole_one (inr (count, versions, is, few)) =
    let one : 1 ≡ count = cc in
    let rest : 2 ∷ [] ≡ versions = cc in
    absurd (omega (arith, few, one, ap length rest))

pub the_limits : (most_bytes ≡ 4294967294) × (most_ranges ≡ 268435455) × (most_records ≡ 536870910)
the_limits = (refl, refl, refl)

-- ---- records "ab", "" and "cde"

abbrev records : List ℕ
records = 3 ∷ 0 ∷ 0 ∷ 0 ∷ 2 ∷ 0 ∷ 0 ∷ 0 ∷ 0 ∷ 0 ∷ 0 ∷ 0 ∷ 3 ∷ 0 ∷ 0 ∷ 0 ∷ 97 ∷ 98 ∷ 99 ∷ 100 ∷ 101 ∷ []

pub three_lengths : record_lengths records ≡ 2 ∷ 0 ∷ 3 ∷ []
three_lengths = refl

pub their_bytes : record_bytes records ≡ 97 ∷ 98 ∷ 99 ∷ 100 ∷ 101 ∷ []
their_bytes = refl

pub three_are_told : tells_records records ≡ true
three_are_told = refl

-- two lengths are announced, and one is there
pub one_is_missing : tells_records (2 ∷ 0 ∷ 0 ∷ 0 ∷ 1 ∷ 0 ∷ 0 ∷ 0 ∷ []) ≡ false
one_is_missing = refl

-- one record of one byte, and two bytes follow
pub they_add_up_to_less : tells_records (1 ∷ 0 ∷ 0 ∷ 0 ∷ 1 ∷ 0 ∷ 0 ∷ 0 ∷ 97 ∷ 98 ∷ []) ≡ false
they_add_up_to_less = refl

pub three_starts : record_starts 6 (2 ∷ 0 ∷ 3 ∷ []) ≡ 6 ∷ 8 ∷ 8 ∷ []
three_starts = refl

-- ---- ranges

-- two bytes from 0, and three from 5
abbrev ranges : List ℕ
ranges = 0 ∷ 0 ∷ 0 ∷ 0 ∷ 0 ∷ 0 ∷ 0 ∷ 0 ∷ 2 ∷ 0 ∷ 0 ∷ 0 ∷ 0 ∷ 0 ∷ 0 ∷ 0 ∷ 5 ∷ 0 ∷ 0 ∷ 0 ∷ 0 ∷ 0 ∷ 0 ∷ 0 ∷ 3 ∷ 0 ∷ 0 ∷ 0 ∷ 0 ∷ 0 ∷ 0 ∷ 0 ∷ []

pub two_ranges : ranges_in ranges ≡ (0, 2) ∷ (5, 3) ∷ []
two_ranges = refl

pub two_are_told : tells_ranges ranges ≡ true
two_are_told = refl

pub half_a_range : tells_ranges (0 ∷ 0 ∷ 0 ∷ 0 ∷ 0 ∷ 0 ∷ 0 ∷ 0 ∷ []) ≡ false
half_a_range = refl

-- ---- refusals

-- a step was taken before it
pub the_second_refuses : first_refusal (Done ∷ Closed ∷ []) ≡ Some (1, Closed)
the_second_refuses = refl

pub none_refuses : first_refusal (Done ∷ Done ∷ []) ≡ None
none_refuses = refl

pub a_failed_sync : advice_for SyncFailed true ≡ 3
a_failed_sync = refl

pub again_with_a_writer : advice_for ReadFailed true ≡ 1
again_with_a_writer = refl

pub anew_without_one : advice_for WriteFailed false ≡ 2
anew_without_one = refl
