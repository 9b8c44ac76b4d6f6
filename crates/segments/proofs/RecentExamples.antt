-- The closed segments that a log keeps open: what each of these definitions holds of, and what it
-- refuses, of the segment that `ReadingExamples` has.
use Rattle.std.specs.Prelude.{◌≡◌, ℕ, List, [], ◌∷◌, length, None}
use Rattle.std.proofs.Common.{refl, ap, arith}
use Rattle.std.proofs.lemmas.List.Elements.{All-cons, All-head, All-nil}
use Rattle.page_digests.proofs.SealExamples.{its_seal}
use Rattle.segments.specs.FolderEvents.{FolderEvent}
use Rattle.segments.specs.Log.{HasClosedOlder, LogState}
use Rattle.segments.specs.PagedReads.{PagedSegmentState}
use Rattle.segments.specs.Recent.{HavePages, IsTaken, TakesRecent, kept_from, kept_after}
use Rattle.segments.proofs.LogExamples.{small}
use Rattle.segments.proofs.ReadingExamples.{in_pages}
use Rattle.segments.proofs.Recents.{HasPages}

-- that of another number
abbrev other : PagedSegmentState
other = record in_pages { number = 3 }

pub both_have_pages : HavePages 32 (other ∷ in_pages ∷ [])
both_have_pages = All-cons (HasPages 32) other (in_pages ∷ []) refl (All-cons (HasPages 32) in_pages [] refl (All-nil (HasPages 32)))

pub not_of_that_size : HavePages 16 (other ∷ in_pages ∷ []) → ⊥
not_of_that_size have = let same : ◌≡◌ {A = ℕ} 32 16 = All-head (HasPages 16) other (in_pages ∷ []) have in omega (arith, same)

-- ---- one is taken out

pub it_is_taken_out : IsTaken 7 its_seal None (other ∷ in_pages ∷ []) (other ∷ []) in_pages
it_is_taken_out = record { before = other ∷ []; after = []; there = refl; left = refl; number = refl; of = refl; marks = refl }

pub the_other_is_taken_for_it : IsTaken 7 its_seal None (other ∷ in_pages ∷ []) (in_pages ∷ []) other → ⊥
the_other_is_taken_for_it is = let same : ◌≡◌ {A = ℕ} 3 7 = is.number in omega (arith, same)

pub none_is_kept : TakesRecent 5 its_seal None (other ∷ []) (other ∷ []) None
none_is_kept = refl

pub they_are_thrown_away : TakesRecent 5 its_seal None (other ∷ []) [] None → ⊥
they_are_thrown_away same = let one : ◌≡◌ {A = ℕ} 0 1 = ap length same in omega (arith, one)

-- ---- which are kept

pub it_is_kept_behind : kept_after 2 in_pages (other ∷ []) ≡ other ∷ in_pages ∷ []
it_is_kept_behind = refl

-- the first one goes
pub it_takes_its_place : kept_after 1 in_pages (other ∷ []) ≡ in_pages ∷ []
it_takes_its_place = refl

pub the_later_one_is_kept : kept_from 4 (other ∷ in_pages ∷ []) ≡ in_pages ∷ []
the_later_one_is_kept = refl

-- ---- a drop

abbrev reading_both : LogState
reading_both = record small { reading = record { whole = None; paged = other ∷ in_pages ∷ [] }; listing = record { first = 4; closed = [] } }

pub the_older_is_closed : (events : List FolderEvent) → HasClosedOlder reading_both (record reading_both { asked = events; reading = record { whole = None; paged = in_pages ∷ [] } })
the_older_is_closed events = refl

-- its file would stay open
pub the_older_stays_open : (events : List FolderEvent) → HasClosedOlder reading_both (record reading_both { asked = events }) → ⊥
the_older_stays_open events same = let two : ◌≡◌ {A = ℕ} 2 1 = ap (λ (l : LogState). length l.reading.paged) same in omega (arith, two)
