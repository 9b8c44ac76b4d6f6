-- Examples of how a session begins, and of what it gives back; and of a run that is refused. Pages have 4 bytes, and the checksum
-- is their sum.
use Rattle.std.proofs.Common.{◌≡◌, ℕ, List, [], ◌∷◌, length, refl, sym, ap, subst, inl, inr, arith, true, false}
use Rattle.std.specs.Prelude.{Ok, Err, get_or}
use Rattle.std.proofs.lemmas.Option.{same_Some}
use Rattle.disk.specs.Disk.{next}
use Rattle.disk.specs.declared.error.Error.TheVariants.{OffsetOverflow}
use Rattle.page.specs.Sums.{add_sum}
use Rattle.cache.specs.CacheState.{CacheState}
use Rattle.crash.specs.Moments.{through_end, through_start}
use Rattle.crash.proofs.Disks.{base_is_image}
use Rattle.crash.proofs.DistinctLaws.{distinct_at_rest}
use Rattle.writer_state.specs.WriterState.{WriterState}
use Rattle.writer_state.specs.Sound.{content as content_of}
use Rattle.paged.specs.Recovers.{Recovers}
use Rattle.session.specs.Run.{SessionState}
use Rattle.session.specs.Promise.{Attempts, closed, session_of, fresh, opened, IsBegun, BeginsBy, AttemptsThrough, RecoversFrom, BeginsWithFloor, IsPrefixOfEither, GivesBack, GivesBackLeft, LeadsOn, RepresentsWhereSound, GivesSessionId}
use Rattle.session.specs.Promise.ComesBack.{crashed}
use Rattle.session.proofs.PromiseLaws.{stands_where_sound, recovered_keeps, recovered_leaves, left_back, unfair}
use Rattle.session.proofs.ComesBackExamples.{ab, ab_page, empty, unsynced, saved, life_of, a_cache, ab_writer, ab_recovered, empty_writer, a_crash_before_the_sync, a_recovery, an_empty_recovery, an_attempt_that_did_nothing, no_attempt_that_lost, ab_comes_back, none_survives}
use Rattle.session.proofs.PromiseExamples.{ab_stands}

-- ---- a recovery, by its answer

pub it_recovers_so : Recovers add_sum a_cache 8 (life_of saved) (life_of saved) (Ok ab_writer)
it_recovers_so = ab_recovered

-- the recovery doesn't answer with the writer of an empty blob
pub not_as_an_empty_one : Recovers add_sum a_cache 8 (life_of saved) (life_of saved) (Ok empty_writer) → ⊥
not_as_an_empty_one is = omega (arith, ap length is.content)

-- ---- how a session begins

pub a_session_begins : IsBegun add_sum a_cache 8 (life_of saved) (life_of saved) (session_of ab_writer)
a_session_begins = record { writer = ab_writer; begins = refl; recovers = ab_recovered; stands = ab_stands }

pub by_its_answer : BeginsBy add_sum a_cache 8 (life_of saved) (life_of saved) (Ok (session_of ab_writer))
by_its_answer = a_session_begins

-- no session begins without a writer
pub no_closed_session : IsBegun add_sum a_cache 8 (life_of saved) (life_of saved) closed → ⊥
no_closed_session is = absurd (cc (ap (λ (s : SessionState). s.writer) is.begins))

-- nor does one begin with the writer of an empty blob
pub no_empty_session : IsBegun add_sum a_cache 8 (life_of saved) (life_of saved) (session_of empty_writer) → ⊥
no_empty_session is =
    let same : empty_writer ≡ is.writer = same_Some empty_writer is.writer (ap (λ (s : SessionState). s.writer) is.begins) in
    let holds : content_of empty_writer ab_page ≡ ab = subst (λ (w : WriterState). content_of w ab_page ≡ ab) (sym same) is.recovers.content in
    omega (arith, ap length holds)

-- an error has a cause
pub no_error_of_none : BeginsBy add_sum a_cache 8 (life_of saved) (life_of saved) (Err OffsetOverflow) → ⊥
no_error_of_none (same, far) = omega (arith, far)

-- a session that begins gives an id
pub an_id_is_given : GivesSessionId (Ok (session_of ab_writer)) a_cache (record a_cache { ids_given = 1 })
an_id_is_given = refl

pub no_id_is_kept : GivesSessionId (Ok (session_of ab_writer)) a_cache a_cache → ⊥
no_id_is_kept same = omega (arith, ap (λ (c : CacheState). c.ids_given) same)

-- a session of a sound writer stands for its content: here as a recovery gives it
pub opened_as_fresh : opened ab_writer 2 ab_page ≡ fresh 4 8 ab
opened_as_fresh = refl

pub it_stands_where_sound : RepresentsWhereSound add_sum ab_writer
it_stands_where_sound = stands_where_sound add_sum ab_writer

-- ---- what it gives back

pub it_recovers : RecoversFrom add_sum 4 saved
it_recovers = λ fair durable. a_recovery fair

-- there is no recovery over bytes that the disk can't have
pub no_recovery_of_other_bytes : RecoversFrom add_sum 4 (record empty { readable = ab_page }) → ⊥
no_recovery_of_other_bytes from = let long = (from false unfair).image.no_longer in omega (arith, ap length long.1, long.2)

pub it_keeps_the_floor : BeginsWithFloor add_sum 4 saved ab
it_keeps_the_floor = recovered_keeps add_sum 4 saved ab (a_recovery false)

pub a_floor_is_not_kept : BeginsWithFloor add_sum 4 saved (97 ∷ []) → ⊥
a_floor_is_not_kept keeps = omega (arith, ap length (keeps (session_of ab_writer) (fresh 4 8 ab) ab_stands))

pub it_leaves_content : IsPrefixOfEither add_sum 4 saved ab
it_leaves_content = recovered_leaves add_sum 4 saved ab (a_recovery true)

pub another_byte_is_no_content : IsPrefixOfEither add_sum 4 saved (97 ∷ 99 ∷ []) → ⊥
another_byte_is_no_content leaves = elim (leaves (session_of ab_writer) (fresh 4 8 ab) ab_stands) [ inl is ↦ omega (arith, ap (λ (l : List ℕ). get_or l 1 0) is) | inr is ↦ omega (arith, ap (λ (l : List ℕ). get_or l 1 0) is) ]

pub it_gives_back : GivesBack add_sum 4 saved
it_gives_back = record { recovered = it_recovers; floor = it_keeps_the_floor; content = λ durable. it_leaves_content }

pub it_does_not_give_back : GivesBack add_sum 4 (record empty { readable = ab_page }) → ⊥
it_does_not_give_back gives = no_recovery_of_other_bytes gives.recovered

-- what comes back of what a crash left
pub nothing_was_left : GivesBackLeft add_sum 4 unsynced []
nothing_was_left = left_back add_sum 4 unsynced empty [] a_crash_before_the_sync refl (λ fair durable. an_empty_recovery fair)

pub all_was_left : GivesBackLeft add_sum 4 saved [] → ⊥
all_was_left gives = omega (arith, ap length (gives.floor (session_of ab_writer) (fresh 4 8 ab) ab_stands))

-- each moment of a recovery that does nothing
pub attempts_of_nothing : AttemptsThrough add_sum 4 (life_of saved) (life_of saved)
attempts_of_nothing = λ fair durable. through_start (Attempts add_sum 4 fair saved) (life_of saved) (an_attempt_that_did_nothing fair)

-- no attempt comes to an empty disk
pub no_attempts_to_an_empty_disk : AttemptsThrough add_sum 4 (life_of saved) (next (life_of saved) empty) → ⊥
no_attempts_to_an_empty_disk attempts = no_attempt_that_lost false (through_end (Attempts add_sum 4 false saved) (life_of saved) (next (life_of saved) empty) (attempts false unfair))

-- what comes back of an empty disk may come back of one that isn't synced
pub it_leads_on : LeadsOn add_sum 4 unsynced [] empty
it_leads_on = λ fair free given comes. crashed unsynced given empty (record { crashed = a_crash_before_the_sync; free = free }) comes

-- "ab" doesn't come back of an empty one
pub it_does_not_lead_on : LeadsOn add_sum 4 empty [] saved → ⊥
it_does_not_lead_on leads =
    elim (none_survives.only ab (leads true (λ fair. distinct_at_rest add_sum 4 empty [] refl (base_is_image empty)) ab ab_comes_back)) [ inl is ↦ omega (arith, ap length is) | inr is ↦ omega (arith, ap length is) ]
