-- What a survey answers, how much is set aside, and the verdict, at a few bytes. Pages have 4
-- bytes, and the checksum is their sum.
use Rattle.std.proofs.Common.{◌≡◌, Bool, true, false, ℕ, List, [], ◌∷◌, ◌++◌, refl, lit≤}
use Rattle.page.specs.Sums.{add_sum}
use Rattle.page.proofs.Examples.{abcd_page, ef_page, efg_page}
use Rattle.paged.specs.declared.verdict.Survey.{Survey}
use Rattle.paged.specs.declared.verdict.Verdict.TheVariants.{Whole, Cut, Keep, Refuse}
use Rattle.paged.specs.Outlook.{IsSurvey, are_zeros, set_aside_of, verdict_of}
use Rattle.paged.specs.Within.{MayGo, at_stake}
use Rattle.paged.proofs.RecoveryExamples.{no_page}

abbrev told : (pages len cut beyond : ℕ) (blank torn : Bool) → Survey
told pages len cut beyond blank torn = record { outlook = record { pages = pages; len = len; cut = cut }; beyond = beyond; blank = blank; torn = torn }

-- "efg" as a crash may leave it: the second slot has a length of 3 bytes, and another checksum than
-- theirs
abbrev torn_page : List ℕ
torn_page = 101 ∷ 102 ∷ 103 ∷ 0 ∷ 0 ∷ 2 ∷ 0 ∷ 0 ∷ 0 ∷ 203 ∷ 0 ∷ 3 ∷ 0 ∷ 0 ∷ 1 ∷ 51 ∷ []

-- "abcd" with such a slot beside its own
abbrev full_page : List ℕ
full_page = 97 ∷ 98 ∷ 99 ∷ 100 ∷ 0 ∷ 4 ∷ 0 ∷ 0 ∷ 1 ∷ 138 ∷ 0 ∷ 2 ∷ 0 ∷ 0 ∷ 0 ∷ 9 ∷ []

-- "ef" of which a byte was damaged, so that no slot verifies
abbrev rotten_page : List ℕ
rotten_page = 101 ∷ 103 ∷ 0 ∷ 0 ∷ 0 ∷ 2 ∷ 0 ∷ 0 ∷ 0 ∷ 203 ∷ 0 ∷ 0 ∷ 0 ∷ 0 ∷ 0 ∷ 0 ∷ []

-- "ef" with empty slots
abbrev unsaid_page : List ℕ
unsaid_page = 101 ∷ 102 ∷ 0 ∷ 0 ∷ 0 ∷ 0 ∷ 0 ∷ 0 ∷ 0 ∷ 0 ∷ 0 ∷ 0 ∷ 0 ∷ 0 ∷ 0 ∷ 0 ∷ []

-- ---- nothing goes

-- of two pages, of which the second is partial, with one slot or two
pub a_whole_blob : IsSurvey add_sum 4 (abcd_page ++ ef_page) (told 2 6 0 0 true false)
a_whole_blob = record { outlook = record { len = refl; pages = refl; cut = refl }; beyond = refl; blank = refl; torn = refl }

pub two_slots : IsSurvey add_sum 4 (abcd_page ++ efg_page) (told 2 7 0 0 true false)
two_slots = record { outlook = record { len = refl; pages = refl; cut = refl }; beyond = refl; blank = refl; torn = refl }

pub whole_is_recovered : verdict_of 4 31 (told 2 6 0 0 true false) ≡ Whole
whole_is_recovered = refl

-- nothing of a page that is full goes, whatever its other slot has
pub a_full_page : IsSurvey add_sum 4 full_page (told 1 4 0 0 true false)
a_full_page = record { outlook = record { len = refl; pages = refl; cut = refl }; beyond = refl; blank = refl; torn = refl }

-- nothing goes of an empty blob
pub an_empty_blob : IsSurvey add_sum 4 [] (told 0 0 0 0 true false)
an_empty_blob = record { outlook = record { len = refl; pages = refl; cut = refl }; beyond = refl; blank = refl; torn = refl }

-- ---- zeros go

pub zeros_after : IsSurvey add_sum 4 (abcd_page ++ no_page ++ no_page) (told 1 4 32 0 true false)
zeros_after = record { outlook = record { len = refl; pages = refl; cut = refl }; beyond = refl; blank = refl; torn = refl }

pub zeros_are_cut : verdict_of 4 31 (told 1 4 32 0 true false) ≡ Cut
zeros_are_cut = refl

-- ---- what goes is set aside

-- a page whose longer slot fails: it may have been synced with 3 bytes, and keeps 2
pub a_torn_page : IsSurvey add_sum 4 (abcd_page ++ torn_page) (told 2 6 0 0 true true)
a_torn_page = record { outlook = record { len = refl; pages = refl; cut = refl }; beyond = refl; blank = refl; torn = refl }

pub torn_page_is_kept : verdict_of 4 31 (told 2 6 0 0 true true) ≡ Keep
torn_page_is_kept = refl

pub all_of_it : set_aside_of 4 (told 2 6 0 0 true true) ≡ 16
all_of_it = refl

-- a page of which no slot verifies, or whose slots are both empty, though it has bytes
pub a_rotten_page : IsSurvey add_sum 4 (abcd_page ++ rotten_page) (told 1 4 16 0 false false)
a_rotten_page = record { outlook = record { len = refl; pages = refl; cut = refl }; beyond = refl; blank = refl; torn = refl }

pub an_unsaid_page : IsSurvey add_sum 4 (abcd_page ++ unsaid_page) (told 1 4 16 0 false false)
an_unsaid_page = record { outlook = record { len = refl; pages = refl; cut = refl }; beyond = refl; blank = refl; torn = refl }

pub rotten_is_kept : verdict_of 4 31 (told 1 4 16 0 false false) ≡ Keep
rotten_is_kept = refl

-- a rest of less than a page, even of zeros: the page may have been cut off
pub a_rest : IsSurvey add_sum 4 (abcd_page ++ ef_page ++ 0 ∷ []) (told 2 6 1 0 true false)
a_rest = record { outlook = record { len = refl; pages = refl; cut = refl }; beyond = refl; blank = refl; torn = refl }

pub rest_is_kept : verdict_of 4 31 (told 2 6 1 0 true false) ≡ Keep
rest_is_kept = refl

-- with a torn page and a rest both are set aside
pub a_torn_page_and_a_rest : set_aside_of 4 (told 2 6 1 0 true true) ≡ 17
a_torn_page_and_a_rest = refl

-- where a page after zeros has a value, it depends on how much may go
pub a_value_after : IsSurvey add_sum 4 (abcd_page ++ no_page ++ ef_page) (told 1 4 32 1 false false)
a_value_after = record { outlook = record { len = refl; pages = refl; cut = refl }; beyond = refl; blank = refl; torn = refl }

pub value_is_kept : verdict_of 4 32 (told 1 4 32 1 false false) ≡ Keep
value_is_kept = refl

pub value_is_refused : verdict_of 4 31 (told 1 4 32 1 false false) ≡ Refuse
value_is_refused = refl

-- ---- nothing would be kept

-- nothing would be kept of a blob whose first page has no value, whatever follows
pub nothing_first : IsSurvey add_sum 4 (no_page ++ abcd_page ++ abcd_page) (told 0 0 48 2 false false)
nothing_first = record { outlook = record { len = refl; pages = refl; cut = refl }; beyond = refl; blank = refl; torn = refl }

pub nothing_is_refused : verdict_of 4 100 (told 0 0 48 2 false false) ≡ Refuse
nothing_is_refused = refl

-- nothing would be kept of one page that has no value
pub one_rotten_page : IsSurvey add_sum 4 rotten_page (told 0 0 16 0 false false)
one_rotten_page = record { outlook = record { len = refl; pages = refl; cut = refl }; beyond = refl; blank = refl; torn = refl }

pub one_page_is_refused : verdict_of 4 100 (told 0 0 16 0 false false) ≡ Refuse
one_page_is_refused = refl

-- nothing would be kept of zeros alone
pub zeros_alone : IsSurvey add_sum 4 no_page (told 0 0 16 0 true false)
zeros_alone = record { outlook = record { len = refl; pages = refl; cut = refl }; beyond = refl; blank = refl; torn = refl }

pub zeros_are_refused : verdict_of 4 100 (told 0 0 16 0 true false) ≡ Refuse
zeros_are_refused = refl

-- ---- a recovery that may give up so much

-- of two whole pages no byte goes
pub whole_at_stake : at_stake add_sum 4 (abcd_page ++ ef_page) (record { pages = 2; len = 6; cut = 0 }) ≡ 0
whole_at_stake = refl

-- of a blob that ends with zeros all zeros go, though none is set aside
pub zeros_at_stake : at_stake add_sum 4 (abcd_page ++ no_page ++ no_page) (record { pages = 1; len = 4; cut = 32 }) ≡ 32
zeros_at_stake = refl

pub zeros_aside : set_aside_of 4 (told 1 4 32 0 true false) ≡ 0
zeros_aside = refl

-- of a torn page all bytes go, though nothing is cut
pub page_at_stake : at_stake add_sum 4 (abcd_page ++ torn_page) (record { pages = 2; len = 6; cut = 0 }) ≡ 16
page_at_stake = refl

-- a torn page and a byte after it both go, though only the byte is cut
pub torn_at_stake : at_stake add_sum 4 (abcd_page ++ torn_page ++ 255 ∷ []) (record { pages = 2; len = 6; cut = 1 }) ≡ 17
torn_at_stake = refl

-- so they may go where 17 bytes are allowed
pub seventeen_may_go : MayGo add_sum 4 17 (abcd_page ++ torn_page ++ 255 ∷ [])
seventeen_may_go = (17, (record { pages = 2; len = 6; cut = 1 }, record { len = refl; pages = refl; cut = refl }, refl), lit≤ tt)

-- ---- zeros

pub some_zeros : are_zeros (0 ∷ 0 ∷ []) ≡ true
some_zeros = refl

pub no_zeros : are_zeros (0 ∷ 1 ∷ []) ≡ false
no_zeros = refl
