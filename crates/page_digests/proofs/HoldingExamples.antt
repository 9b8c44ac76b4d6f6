-- Pages that are held: what each of these definitions holds of, and what it refuses.
use Rattle.std.proofs.Common.{◌≡◌, ◌∷◌, [], ℕ, List, length, get_or, refl, ap, arith, lit<}
use Rattle.std.specs.Prelude.{Option, Some, None, IfSome, Ok, true, false}
use Rattle.std.proofs.lemmas.List.Elements.{All-cons, All-head, All-nil}
use Rattle.page_digests.specs.HeldPages.{FindsPage, HoldNone, HoldsAt, IsHeldPage, IsPageWith, IsTakenPage, PageState, TakesHeldPage, kept_page, staying}
use Rattle.page_digests.specs.PagedBytes.{BytesState, FetchGoes, HoldsGoes, IsPageLoaded, IsTurned, PutsAway, TurnGoes, put_away, turned_to}
use Rattle.page_digests.specs.Sources.{gave}
use Rattle.page_digests.proofs.PageExamples.{first}
use Rattle.page_digests.proofs.PagedBytesExamples.{three_bytes, three_read}
use Rattle.page_digests.proofs.SealExamples.{abc, abc_is_bytes, its_digest, xyz}

abbrev pub its_page : PageState
its_page = record { digest = its_digest; bytes = abc }

abbrev pub other_page : PageState
other_page = record { digest = first xyz; bytes = xyz }

pub they_have_it : IsHeldPage first its_page
they_have_it = record { bytes = abc_is_bytes; digest = refl }

pub of_other_bytes : IsHeldPage first (record { digest = its_digest; bytes = xyz }) → ⊥
of_other_bytes is = omega (arith, ap (λ (l : List ℕ). get_or l 0 0) is.digest)

pub it_is_the_page : IsPageWith its_digest 3 its_page
it_is_the_page = record { digest = refl; len = refl }

pub of_another_length : IsPageWith its_digest 4 its_page → ⊥
of_another_length is = omega (arith, is.len)

pub the_other_has_not : IsPageWith its_digest 3 other_page → ⊥
the_other_has_not is = omega (arith, ap (λ (l : List ℕ). get_or l 0 0) is.digest)

pub none_has_it : HoldNone its_digest 3 (other_page ∷ [])
none_has_it = All-cons (λ (p : PageState). IsPageWith its_digest 3 p → ⊥) other_page [] the_other_has_not (All-nil (λ (p : PageState). IsPageWith its_digest 3 p → ⊥))

pub though_it_is_held : HoldNone its_digest 3 (its_page ∷ []) → ⊥
though_it_is_held none = All-head (λ (p : PageState). IsPageWith its_digest 3 p → ⊥) its_page [] none it_is_the_page

pub it_is_second : HoldsAt its_digest 3 (other_page ∷ its_page ∷ []) 1
it_is_second = record { within = lit< tt; it = λ p. it_is_the_page }

pub it_is_first : HoldsAt its_digest 3 (other_page ∷ its_page ∷ []) 0 → ⊥
it_is_first is = the_other_has_not (is.it its_page)

pub it_is_found : FindsPage its_digest 3 (other_page ∷ its_page ∷ []) (Some 1)
it_is_found = it_is_second

pub it_is_not_found : FindsPage its_digest 3 (its_page ∷ []) None → ⊥
it_is_not_found = though_it_is_held

pub it_is_taken : IsTakenPage its_digest 3 (other_page ∷ its_page ∷ []) (other_page ∷ []) its_page
it_is_taken = record { before = other_page ∷ []; after = []; there = refl; left = refl; it = it_is_the_page }

pub the_other_is_taken : IsTakenPage its_digest 3 (other_page ∷ its_page ∷ []) (its_page ∷ []) other_page → ⊥
the_other_is_taken is = the_other_has_not is.it

pub none_is_taken : TakesHeldPage its_digest 3 (other_page ∷ []) (other_page ∷ []) None
none_is_taken = (refl, none_has_it)

-- a page that is held isn't taken
pub it_stays : TakesHeldPage its_digest 3 (its_page ∷ []) (its_page ∷ []) None → ⊥
it_stays (same, none) = though_it_is_held none

pub the_later_stays : staying 2 (other_page ∷ its_page ∷ []) ≡ its_page ∷ []
the_later_stays = refl

pub it_is_kept : kept_page 2 its_page (other_page ∷ []) ≡ other_page ∷ its_page ∷ []
it_is_kept = refl

-- ---- of bytes in a file

-- the page was used last, and is held beside another one
abbrev pub three_away : BytesState
three_away = record three_read { cached = None; page = []; held = its_page ∷ [] }

pub it_is_put_away : put_away 2 (Some 0) three_read ≡ three_away
it_is_put_away = refl

pub by_the_answer : PutsAway {E = ℕ} 2 three_read three_away (Ok tt)
by_the_answer = refl

-- it is thrown away
pub it_is_lost : PutsAway {E = ℕ} 2 three_read (record three_read { cached = None; page = [] }) (Ok tt) → ⊥
it_is_lost same = let none : ◌≡◌ {A = ℕ} 0 1 = ap (λ (s : BytesState). length s.held) same in omega (arith, none)

pub it_is_last_again : turned_to 0 (Some its_page) (record three_away { held = [] }) ≡ three_read
it_is_last_again = refl

pub it_is_turned_to : IsTurned 2 its_digest 3 three_away (Some its_page) (record three_away { held = [] })
it_is_turned_to = record { others = []; takes = record { before = []; after = []; there = refl; left = refl; it = it_is_the_page }; away = refl }

-- though it is held
pub none_is_turned_to : IsTurned 2 its_digest 3 three_away None three_away → ⊥
none_is_turned_to is = though_it_is_held is.takes.1

pub it_was_held : TurnGoes {E = ℕ} 2 0 its_digest 3 three_away three_read (Ok true)
it_was_held = (its_page, record three_away { held = [] }, it_is_turned_to, refl)

pub it_was_not_held : TurnGoes {E = ℕ} 2 0 its_digest 3 three_away three_away (Ok false) → ⊥
it_was_not_held = none_is_turned_to

pub nothing_is_read : IsPageLoaded 2 0 three_away three_read
nothing_is_read = record { taken = Some its_page; rest = record three_away { held = [] }; turned = it_is_turned_to; held = refl; reads = refl }

-- a page that is held is read again
abbrev pub read_again : BytesState
read_again = record three_read { reads = gave 5 abc ∷ gave 5 abc ∷ [] }

pub though_it_was_held : IsPageLoaded 2 0 three_away read_again → ⊥
though_it_was_held is = by_case is.taken is.turned is.reads
  where
    by_case : (taken : Option PageState) → IsTurned 2 its_digest 3 three_away taken is.rest → IfSome taken (λ p. read_again.reads ≡ three_away.reads) → ⊥
    by_case None turned reads = though_it_is_held turned.takes.1
    by_case (Some p) turned reads = let two : ◌≡◌ {A = ℕ} 2 1 = ap length reads in omega (arith, two)

pub it_holds : HoldsGoes 2 0 three_away three_read (Ok tt)
it_holds = (λ same. by_none same, λ fresh. nothing_is_read)
  where
    by_none : ◌≡◌ {A = Option ℕ} None (Some 0) → three_read ≡ three_away
    by_none same = cc same

pub it_holds_another : HoldsGoes 2 0 three_away read_again (Ok tt) → ⊥
it_holds_another holds = though_it_was_held (holds.1 (λ same. cc same))

pub it_is_fetched : FetchGoes first 0 three_bytes three_read (Ok tt)
it_is_fetched = record { same = record { start = refl; len = refl; page_size = refl; top = refl; reads = (gave 5 abc ∷ [], refl) }; calls = omega arith; held = refl; answers = refl }

pub it_is_not_kept : FetchGoes first 0 three_bytes (record three_read { cached = None }) (Ok tt) → ⊥
it_is_not_kept goes = cc goes.answers
