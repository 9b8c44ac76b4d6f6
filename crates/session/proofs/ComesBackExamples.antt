-- Examples of what comes back after crashes and recoveries, and of what can't. Pages have 4 bytes, and the checksum is their sum,
-- where it isn't said otherwise.
use Rattle.std.proofs.Common.{Bool, lit<, ◌≡◌, ℕ, List, [], ◌∷◌, ◌++◌, length, length-take, refl, sym, ap, subst, ◌∙◌, inl, inr, arith, true, false}
use Rattle.std.specs.Prelude.{Some, None, Ok, get_or}
use Rattle.disk.specs.Disk.{Disk, Entry, Life, life_after, logged, next, settled_disk}
use Rattle.disk.specs.Disk.Operation.{Write}
use Rattle.disk.specs.Disk.Request.{WriteAt, SyncAll}
use Rattle.page.specs.Page.{text}
use Rattle.page.specs.Sums.{add_sum, const_sum, small_add_sum}
use Rattle.page.specs.declared.slot.Slot.{Slot}
use Rattle.page.specs.declared.slot.Slot.TheVariants.{First, Second}
use Rattle.page.specs.declared.slot.ActiveChecksum.{ActiveChecksum}
use Rattle.cache.specs.CacheState.{CacheState, empty_cache}
use Rattle.crash.specs.Distinct.{IsDistinct, IsGood, PageIsGood}
use Rattle.crash.specs.Kept.{AllKeep, AllOnly}
use Rattle.crash.specs.Moments.{life_after-append, through_end}
use Rattle.page.proofs.Examples.{abcd_page, ef_page}
use Rattle.crash.proofs.CutLaws.{rest_only, rest_through_start}
use Rattle.crash.proofs.Disks.{base_is_image, whole_is_image, base_is_whole}
use Rattle.crash.proofs.DistinctLaws.{vouched_at_rest, whole_is_distinct}
use Rattle.crash.proofs.FloorLaws.{floors_none, floors_sync}
use Rattle.crash.proofs.Promise.{keeps_at_rest, keeps_nothing, whole_is_chance_free}
use Rattle.std.proofs.lemmas.Option.{same_Some}
use Rattle.writer_state.specs.WriterState.{WriterState}
use Rattle.writer_state.specs.Sound.{content as content_of, HasTipPage, IsSound, Soundness}
use Rattle.writer_state.specs.declared.sync_state.SyncState.TheVariants.{Clean}
use Rattle.writer_state.proofs.Soundness.{empty_sound, page_sound, sound_leaves}
use Rattle.writer_state.proofs.Examples.{durable, six, seven, rewritten, before, after, ef_slot, ef_is_good, six_are_kept, all_only, at_rest, and_then, weak_page, weak_torn, weak_torn_is_image, two_strings_of_one_sum}
use Rattle.paged.specs.Recovery.{IsDurable}
use Rattle.paged.specs.Recovers.{IsRecovered, recovered_bytes, recovered_writer}
use Rattle.paged.proofs.Trims.{leaves_text}
use Rattle.session.specs.Promise.{IsMoment, HasCrashed, Crashes, Attempts, HasRecovered, ComesBack, LeadsTo, IsPrefixOf, Survives}
use Rattle.session.specs.Promise.ComesBack.{recovered, crashed, attempted}
use Rattle.session.proofs.PromiseLaws.{survives, through_moment}
use Rattle.session.proofs.StepLaws.{no_moments}

-- ---- three disks

-- "ab", and its page
abbrev pub ab : List ℕ
ab = 97 ∷ 98 ∷ []

abbrev pub ab_page : List ℕ
ab_page = 97 ∷ 98 ∷ 0 ∷ 0 ∷ 0 ∷ 2 ∷ 0 ∷ 0 ∷ 0 ∷ 195 ∷ 0 ∷ 0 ∷ 0 ∷ 0 ∷ 0 ∷ 0 ∷ []

-- an empty blob
abbrev pub empty : Disk
empty = at_rest []

-- "ab" was written there, and not synced
abbrev pub unsynced : Disk
unsynced = and_then (Write 0 ab_page) (WriteAt 0 16 false) empty

-- and then it was synced
abbrev pub saved : Disk
saved = settled_disk (logged SyncAll false unsynced)

-- a life that begins with a disk
abbrev pub life_of : Disk → Life
life_of d = record { present = d; past = [] }

pub saved_durable : IsDurable saved
saved_durable = record { since = refl; base = refl }

pub empty_durable : IsDurable empty
empty_durable = record { since = refl; base = refl }

-- ---- moments

pub a_moment : IsMoment (life_of empty) (next (next (life_of empty) unsynced) saved) unsynced
a_moment = (unsynced ∷ [], saved ∷ [], refl, refl)

-- a life that didn't go on has no other moment than its disk
pub no_other_moment : IsMoment (life_of empty) (life_of empty) saved → ⊥
no_other_moment (before, after, goes, is) = by_moments before goes is
  where
    by_moments : (before : List Disk) → life_of empty ≡ life_after (life_after (life_of empty) before) after → saved ≡ (life_after (life_of empty) before).present → ⊥
    by_moments [] goes is = omega (arith, ap (λ (d : Disk). length d.base) is)
    by_moments (d ∷ ds) goes is =
        let none : (d ∷ ds) ++ after ≡ [] = no_moments (life_of empty) (life_of empty) ((d ∷ ds) ++ after) (goes ∙ sym (life_after-append (life_of empty) (d ∷ ds) after)) refl in
        absurd (cc none)

-- ---- crashes

-- a crash before the sync may leave nothing of the write, or all of it
pub a_crash_before_the_sync : HasCrashed unsynced empty
a_crash_before_the_sync = record { image = base_is_image unsynced; durable = empty_durable }

pub a_crash_that_left_all : HasCrashed unsynced (at_rest ab_page)
a_crash_that_left_all = record { image = whole_is_image unsynced ab_page (inr refl); durable = record { since = refl; base = refl } }

-- a crash after the sync can't leave nothing
pub no_crash_after_the_sync : HasCrashed saved empty → ⊥
no_crash_after_the_sync c = let none = c.image.no_shorter in omega (arith, ap length none.1, none.2)

-- what a crash leaves is durable
pub no_crash_leaves_it_unsynced : HasCrashed unsynced unsynced → ⊥
no_crash_leaves_it_unsynced c = omega (arith, ap length c.durable.since)

-- the crash that left nothing is fair
pub a_fair_crash : Crashes add_sum 4 true unsynced empty
a_fair_crash = record {
  crashed = a_crash_before_the_sync;
  free = λ fair. whole_is_distinct add_sum 4 unsynced [] (λ other whole. omega arith) (base_is_whole unsynced.base unsynced.since);
}

-- a crash isn't fair if it made another text of the same checksum
pub an_unfair_crash : Crashes const_sum 4 false weak_page (at_rest weak_torn)
an_unfair_crash = record { crashed = record { image = weak_torn_is_image; durable = record { since = refl; base = refl } }; free = λ fair. absurd (cc fair) }

pub it_is_not_fair : Crashes const_sum 4 true weak_page (at_rest weak_torn) → ⊥
it_is_not_fair c = two_strings_of_one_sum (c.free refl)

-- ---- recoveries

abbrev pub a_cache : CacheState
a_cache = empty_cache 4 10

abbrev pub ab_slot : ActiveChecksum
ab_slot = record { slot = First; len = 2; crc = 195 }

-- the writer that a recovery of "ab" gives
abbrev pub ab_writer : WriterState
ab_writer = record { page_size = 4; id = 0; capacity = 8; full_pages = 0; tip = ab; flushed = Some ab_slot; durable = Some ab_slot; sync = Clean }

has_ab : HasTipPage add_sum 4 0 ab ab_page ab_slot
has_ab = record { size = refl; some = omega arith; there = omega arith; part = omega arith; crc = refl; value = refl; begins = refl; slot = refl }

ab_good : (s : Slot) → IsGood add_sum 4 s ab_page
ab_good First = λ some fits. refl
ab_good Second = λ some fits. absurd (omega (arith, some))

ab_is_good : PageIsGood add_sum 4 0 ab_page
ab_is_good page is s = subst (λ (l : List ℕ). IsGood add_sum 4 s l) (same_Some ab_page page is) (ab_good s)

pub ab_sound : Soundness add_sum ab_writer saved
ab_sound = page_sound add_sum ab_writer saved refl refl (omega arith) (lit< tt) tt refl (λ name c is. absurd (cc is)) small_add_sum ab_slot refl has_ab ab_is_good

pub ab_recovered : IsRecovered add_sum a_cache 8 (life_of saved) (life_of saved) ab_writer
unfolding IsSound
ab_recovered = record {
  state = refl;
  sound = ab_sound;
  page_size = refl;
  size = refl;
  only = sound_leaves add_sum ab_writer saved ab_sound;
  content = refl;
  readable = refl;
  durable = saved_durable;
  settled = record { clean = refl; short = omega arith; flushed = refl };
  log = ([], refl);
}

-- the writer that a recovery of an empty blob gives
abbrev pub empty_writer : WriterState
empty_writer = record { page_size = 4; id = 0; capacity = 8; full_pages = 0; tip = []; flushed = None; durable = None; sync = Clean }

pub empty_writer_sound : Soundness add_sum empty_writer empty
empty_writer_sound = empty_sound add_sum empty_writer empty refl refl refl (omega arith) (lit< tt) refl refl refl (λ name c is. absurd (cc is))

empty_recovered : IsRecovered add_sum a_cache 8 (life_of empty) (life_of empty) empty_writer
unfolding IsSound
empty_recovered = record {
  state = refl;
  sound = empty_writer_sound;
  page_size = refl;
  size = refl;
  only = sound_leaves add_sum empty_writer empty empty_writer_sound;
  content = refl;
  readable = refl;
  durable = empty_durable;
  settled = record { clean = refl; short = omega arith; flushed = refl };
  log = ([], refl);
}

-- a recovery of "ab" gives "ab"
pub a_recovery : (fair : Bool) → HasRecovered add_sum 4 fair saved ab
a_recovery fair = record {
  old = life_of saved;
  new = life_of saved;
  cache = a_cache;
  capacity = 8;
  writer = ab_writer;
  began = refl;
  page_size = refl;
  recovers = ab_recovered;
  content = refl;
  image = base_is_image saved;
  durable = λ asked. saved_durable;
}

-- a recovery of "ab" gives no other content
pub no_other_recovery : (fair : Bool) (given : List ℕ) → HasRecovered add_sum 4 fair saved given → given ≡ ab
no_other_recovery fair given r =
    r.content ∙ r.recovers.content ∙ ap (λ (n : ℕ). text add_sum n r.old.present.readable) r.page_size ∙ ap (λ (d : Disk). text add_sum 4 d.readable) r.began

pub a_byte_is_lost : HasRecovered add_sum 4 false saved (97 ∷ []) → ⊥
a_byte_is_lost r = omega (arith, ap length (no_other_recovery false (97 ∷ []) r))

pub an_empty_recovery : (fair : Bool) → HasRecovered add_sum 4 fair empty []
an_empty_recovery fair = record {
  old = life_of empty;
  new = life_of empty;
  cache = a_cache;
  capacity = 8;
  writer = empty_writer;
  began = refl;
  page_size = refl;
  recovers = empty_recovered;
  content = refl;
  image = base_is_image empty;
  durable = λ asked. empty_durable;
}

-- if a recovery is fair, all was durable as it began
pub no_fair_recovery : (given : List ℕ) → HasRecovered add_sum 4 true unsynced given → ⊥
no_fair_recovery given r = omega (arith, ap length (r.durable refl).since)

-- ---- recoveries that are cut short

-- an attempt that had done nothing
pub an_attempt_that_did_nothing : (fair : Bool) → Attempts add_sum 4 fair saved saved
an_attempt_that_did_nothing fair = record {
  old = life_of saved;
  new = life_of saved;
  began = refl;
  moment = ([], [], refl, refl);
  image = base_is_image saved;
  kept = floors_none add_sum 4 ab (life_of saved) (life_of saved) refl;
  only = leaves_text add_sum 4 (life_of saved) (life_of saved) (λ rests. rest_through_start add_sum 4 ab (life_of saved) rests.since rests.base refl);
  durable = λ asked. saved_durable;
}

-- an attempt that had synced what wasn't
pub an_attempt_that_synced : Attempts add_sum 4 false unsynced saved
an_attempt_that_synced = record {
  old = life_of unsynced;
  new = next (life_of unsynced) saved;
  began = refl;
  moment = (saved ∷ [], [], refl, refl);
  image = whole_is_image unsynced ab_page (inr refl);
  kept = floors_sync add_sum 4 ab (life_of unsynced) (next (life_of unsynced) saved) (Ok tt) (whole_is_image unsynced ab_page (inr refl)) refl;
  only = λ rests. absurd (omega (arith, ap length rests.since));
  durable = λ fair. absurd (cc fair);
}

-- every image of that disk holds "ab"
pub saved_keeps : AllKeep add_sum 4 ab 2 saved
saved_keeps = keeps_at_rest add_sum 4 saved refl

-- so no attempt comes to an empty disk
pub no_attempt_that_lost : (fair : Bool) → Attempts add_sum 4 fair saved empty → ⊥
no_attempt_that_lost fair a =
    let begun : AllKeep add_sum 4 ab 2 a.old.present = subst (λ (d : Disk). AllKeep add_sum 4 ab 2 d) (sym a.began) saved_keeps in
    let later : AllKeep add_sum 4 ab 2 empty = through_moment (AllKeep add_sum 4 ab 2) a.old a.new empty (a.kept 2 (omega arith) begun) a.moment in
    omega (arith, ap length (later.kept [] (base_is_image empty)))

-- nor does an attempt come to a disk with a byte more
abbrev abc_page : List ℕ
abc_page = 97 ∷ 98 ∷ 99 ∷ 0 ∷ 0 ∷ 3 ∷ 0 ∷ 0 ∷ 1 ∷ 38 ∷ 0 ∷ 0 ∷ 0 ∷ 0 ∷ 0 ∷ 0 ∷ []

pub no_attempt_that_added : Attempts add_sum 4 true saved (at_rest abc_page) → ⊥
no_attempt_that_added a =
    let m : Disk = at_rest abc_page in
    let T : List ℕ = text add_sum 4 a.old.present.readable in
    let says : T ≡ ab = ap (λ (d : Disk). text add_sum 4 d.readable) a.began in
    let later : AllOnly add_sum 4 T T m = through_moment (AllOnly add_sum 4 T T) a.old a.new m (a.only (subst IsDurable (sym a.began) (a.durable refl))) a.moment in
    let only : AllOnly add_sum 4 ab ab m = subst (λ (l : List ℕ). AllOnly add_sum 4 l l m) says later in
    elim (only.only abc_page (base_is_image m) (whole_is_chance_free add_sum 4 m abc_page (base_is_whole m.base m.since))) [ inl is ↦ omega (arith, ap length is) | inr is ↦ omega (arith, ap length is) ]

-- ---- what comes back

pub ab_comes_back : ComesBack add_sum 4 true saved ab
ab_comes_back = recovered saved ab (a_recovery true)

-- where it wasn't synced, nothing may come back
pub nothing_comes_back : ComesBack add_sum 4 true unsynced []
nothing_comes_back = crashed unsynced [] empty a_fair_crash (recovered empty [] (an_empty_recovery true))

-- or all of it comes back, by a recovery that was cut short after its sync, a crash, and another
-- recovery
pub all_comes_back : ComesBack add_sum 4 false unsynced ab
all_comes_back =
    attempted unsynced ab saved an_attempt_that_synced
    (crashed saved ab saved (record { crashed = record { image = base_is_image saved; durable = saved_durable }; free = λ fair. absurd (cc fair) }) (recovered saved ab (a_recovery false)))

-- ---- what a disk survives

pub begins : IsPrefixOf (97 ∷ []) ab
begins = refl

pub begins_with_all : IsPrefixOf ab ab
begins_with_all = refl

pub begins_not : IsPrefixOf (98 ∷ []) ab → ⊥
begins_not is = omega (arith, ap (λ (l : List ℕ). get_or l 0 0) is)

pub no_longer_begins : IsPrefixOf ab (97 ∷ []) → ⊥
no_longer_begins is = omega (arith, ap length is)

-- a disk at rest holds one text
pub rests : (content other text_of : List ℕ) (d : Disk) → d.since ≡ [] → text add_sum 4 d.base ≡ text_of → IsPrefixOf text_of content → AllOnly add_sum 4 content other d
rests content other text_of d since says begins = record {
  only = λ image is_image free.
      let is : text add_sum 4 image ≡ text_of = rest_only add_sum 4 text_of d image since says is_image in
      inl (subst (λ (l : List ℕ). IsPrefixOf l content) (sym is) begins);
  vouched = vouched_at_rest add_sum 4 d since;
}

-- once "ab" is synced, whatever comes back is "ab"
pub saved_survives : Survives add_sum 4 ab ab 2 saved
saved_survives = survives add_sum 4 ab ab 2 saved (omega arith) saved_keeps (rests ab ab ab saved refl refl refl)

-- of an empty blob nothing comes back, whatever was to be appended
pub empty_survives : Survives add_sum 4 [] ab 0 empty
empty_survives = survives add_sum 4 [] ab 0 empty (omega arith) (keeps_nothing add_sum 4 [] empty) (rests [] ab [] empty refl refl refl)

-- before the sync no floor of two bytes is survived
pub a_lost_floor : (content other : List ℕ) → length content ≡ 2 → Survives add_sum 4 content other 2 unsynced → ⊥
a_lost_floor content other long s = omega (arith, long, ap length (s.kept true [] nothing_comes_back), length-take 2 content)

pub nothing_is_kept : Survives add_sum 4 ab ab 2 empty → ⊥
nothing_is_kept s = omega (arith, ap length (s.kept true [] (recovered empty [] (an_empty_recovery true))))

-- before the sync no floor of one byte is survived
pub a_byte_not_kept : Survives add_sum 4 ab ab 1 unsynced → ⊥
a_byte_not_kept s = omega (arith, ap length (s.kept true [] nothing_comes_back))

-- a disk doesn't survive with a content that lacks one of its durable bytes
pub a_byte_too_many : Survives add_sum 4 (97 ∷ []) (97 ∷ []) 0 saved → ⊥
a_byte_too_many s = elim (s.only ab ab_comes_back) [ inl is ↦ omega (arith, ap length is) | inr is ↦ omega (arith, ap length is) ]

-- nor with a content that has another byte
pub another_byte : Survives add_sum 4 (97 ∷ 99 ∷ []) (97 ∷ 99 ∷ []) 0 saved → ⊥
another_byte s = elim (s.only ab ab_comes_back) [ inl is ↦ omega (arith, ap (λ (l : List ℕ). get_or l 1 0) is) | inr is ↦ omega (arith, ap (λ (l : List ℕ). get_or l 1 0) is) ]

-- but it may be of the other content
pub of_the_other : Survives add_sum 4 [] ab 0 saved
of_the_other = survives add_sum 4 [] ab 0 saved (omega arith) (keeps_nothing add_sum 4 [] saved)
    (record {
      only = λ image is_image free.
          let is : text add_sum 4 image ≡ ab = rest_only add_sum 4 ab saved image refl refl is_image in
          inr (subst (λ (l : List ℕ). IsPrefixOf l ab) (sym is) refl);
      vouched = vouched_at_rest add_sum 4 saved refl;
    })

-- ---- a page that is rewritten

-- "abcdef" is durable, and its last page was rewritten as "efg", without a sync
abbrev pub six_writer : WriterState
six_writer = record { page_size = 4; id = 0; capacity = 8; full_pages = 1; tip = 101 ∷ 102 ∷ []; flushed = Some ef_slot; durable = Some ef_slot; sync = Clean }

has_ef : HasTipPage add_sum 4 1 (101 ∷ 102 ∷ []) (abcd_page ++ ef_page) ef_slot
has_ef = record { size = refl; some = omega arith; there = omega arith; part = omega arith; crc = refl; value = refl; begins = refl; slot = refl }

six_sound : Soundness add_sum six_writer durable
six_sound = page_sound add_sum six_writer durable refl refl (omega arith) (lit< tt) (refl, tt) refl (λ name c is. absurd (cc is)) small_add_sum ef_slot refl has_ef ef_is_good

six_recovered : IsRecovered add_sum a_cache 8 (life_of durable) (life_of durable) six_writer
unfolding IsSound
six_recovered = record {
  state = refl;
  sound = six_sound;
  page_size = refl;
  size = refl;
  only = sound_leaves add_sum six_writer durable six_sound;
  content = refl;
  readable = refl;
  durable = record { since = refl; base = refl };
  settled = record { clean = refl; short = omega arith; flushed = refl };
  log = ([], refl);
}

pub six_come_back : (fair : Bool) → ComesBack add_sum 4 fair durable six
six_come_back fair = recovered durable six (record {
  old = life_of durable;
  new = life_of durable;
  cache = a_cache;
  capacity = 8;
  writer = six_writer;
  began = refl;
  page_size = refl;
  recovers = six_recovered;
  content = refl;
  image = base_is_image durable;
  durable = λ asked. record { since = refl; base = refl };
})

-- whatever a crash tears off the rewrite, and however often, "abcdef" comes back at least, and
-- chance aside nothing but "abcdefg" or a prefix of it
pub rewritten_survives : Survives add_sum 4 seven seven 6 rewritten
rewritten_survives = survives add_sum 4 seven seven 6 rewritten (omega arith) (through_end (AllKeep add_sum 4 seven 6) before after six_are_kept) all_only

-- "g" may be lost
pub g_may_be_lost : (other : List ℕ) → Survives add_sum 4 seven other 7 rewritten → ⊥
g_may_be_lost other s =
    omega (arith, ap length (s.kept false six (crashed rewritten six durable (record { crashed = record { image = base_is_image rewritten; durable = record { since = refl; base = refl } }; free = λ fair. absurd (cc fair) }) (six_come_back false))))

-- ---- what leads to what

pub unsynced_leads_to_saved : LeadsTo add_sum 4 false unsynced saved
unsynced_leads_to_saved given comes = attempted unsynced given saved an_attempt_that_synced comes

pub none_survives : Survives add_sum 4 [] [] 0 empty
none_survives = survives add_sum 4 [] [] 0 empty (omega arith) (keeps_nothing add_sum 4 [] empty) (rests [] [] [] empty refl refl refl)

pub empty_does_not : LeadsTo add_sum 4 true empty saved → ⊥
empty_does_not leads = elim (none_survives.only ab (leads ab ab_comes_back)) [ inl is ↦ omega (arith, ap length is) | inr is ↦ omega (arith, ap length is) ]

-- of what is synced nothing less comes back, whether crashes and recoveries are fair or not
pub no_less_comes_back : (fair : Bool) → ComesBack add_sum 4 fair saved (97 ∷ []) → ⊥
no_less_comes_back fair comes = omega (arith, ap length (saved_survives.kept fair (97 ∷ []) comes))

-- nothing more comes back of an empty blob
pub no_more_comes_back : ComesBack add_sum 4 true empty ab → ⊥
no_more_comes_back comes = elim (none_survives.only ab comes) [ inl is ↦ omega (arith, ap length is) | inr is ↦ omega (arith, ap length is) ]

-- ---- a recovery with no crash before it

-- a recovery over what isn't durable isn't fair, whether it answers or is cut short
pub no_fair_attempt : (m : Disk) → Attempts add_sum 4 true unsynced m → ⊥
no_fair_attempt m a = omega (arith, ap length (a.durable refl).since)

-- but what such a recovery gives comes back through a crash that leaves all that is readable; that
-- crash is fair if no checksum collides in it
pub it_comes_back_as_left : (sum : List ℕ → ℕ) (P : ℕ) (d : Disk) (given : List ℕ) → HasRecovered sum P false d given → IsDistinct sum P d d.readable → ComesBack sum P true d given
it_comes_back_as_left sum P d given r free =
    let e : Disk = record d { base = d.readable; since = [] } in
    let was : IsRecovered sum r.cache r.capacity r.old r.new r.writer = r.recovers in
    let now : IsRecovered sum r.cache r.capacity (life_of e) r.new r.writer = record {
      state = subst (λ (x : Disk). r.writer ≡ recovered_writer sum r.cache r.capacity x.readable) r.began was.state;
      sound = was.sound;
      page_size = was.page_size;
      size = was.size;
      only = was.only;
      content = subst (λ (x : Disk). content_of r.writer r.new.present.readable ≡ text sum r.cache.page_size x.readable) r.began was.content;
      readable = subst (λ (x : Disk). r.new.present.readable ≡ recovered_bytes sum r.cache r.capacity x.readable) r.began was.readable;
      durable = was.durable;
      settled = was.settled;
      log = subst (λ (x : Disk). (more : List Entry) × (r.new.present.log ≡ x.log ++ more)) r.began was.log;
    } in
    let durable : IsDurable e = record { since = refl; base = refl } in
    crashed d given e (record { crashed = record { image = r.image; durable = durable }; free = λ fair. free })
    (recovered e given (record { old = life_of e; new = r.new; cache = r.cache; capacity = r.capacity; writer = r.writer; began = refl; page_size = r.page_size; recovers = now; content = r.content; image = base_is_image e; durable = λ fair. durable }))
