-- What the opening of files comes to, and what a folder's calls answer: what each of these
-- definitions holds of, and what it refuses. The files have nothing in them, or "c". That a blob
-- has a journal between two calls is a premise, and so is that "c" is committed.
use Rattle.std.specs.Prelude.{◌≡◌, ◌++◌, ℕ, List, [], ◌∷◌, length, Bool, false, true, Some, None, Ok, Err}
use Rattle.std.proofs.Common.{refl, sym, ap, inl, inr, arith, ◌∙◌, length-append}
use Rattle.disk.specs.Disk.{Life}
use Rattle.page.specs.Page.{text}
use Rattle.page.specs.Sums.{add_sum}
use Rattle.journal.specs.Frame.{frames, is_record, record_len, record_of, records}
use Rattle.journal.specs.Journal.{CommitsAll}
use Rattle.segments.specs.declared.call.FolderCall.{FolderCall}
use Rattle.segments.specs.declared.call.FolderCall.TheVariants as calls
use Rattle.segments.specs.declared.closed.Closed.{Closed}
use Rattle.segments.specs.declared.error.Error.{Error}
use Rattle.segments.specs.declared.error.Error.TheVariants as errors
use Rattle.segments.specs.Folders.{opening_error}
use Rattle.file.specs.declared.opening.OpenError.TheVariants as refusals
use Rattle.std.specs.declared.io.Error as io_error
use Rattle.segments.specs.declared.past.Last.TheVariants.{Nothing}
use Rattle.segments.specs.FolderPast.{events_of}
use Rattle.segments.specs.FolderEvents.{FolderEvent, folder_outcome, keeping_event, keeping_outcome, opening_outcome, opening_with, plain_event, writing_event, writing_outcome}
use Rattle.segments.specs.Manifest.{none_closed}
use Rattle.segments.specs.Owned.{IsOwned}
use Rattle.segments.specs.Log.{AreParts, AsksForSegment, AsksUnsynced, HasCurrent, HasManifest, HasNext, LogState, OpenNextGoes, events_for}
use Rattle.segments.specs.Crash.{AsksForLog, HasOpenedFiles, IsOpenedLog}
use Rattle.segments.proofs.BytesExamples.{c, c_frame, c_is_not_d, c_is_told, c_life, c_page, d, d_is_told, d_page, none_committed, only_of, resting, with_c, with_none}
use Rattle.segments.proofs.LogExamples.{it_does_not_list_one, it_lists_none, small}

pub it_was_asked_for : AsksForSegment (λ (l : Life). l) 1 [] (events_for 1 c_page) (Ok c_life)
it_was_asked_for = refl

-- its name wasn't made durable
pub not_made_durable : AsksForSegment (λ (l : Life). l) 1 [] (opening_with (calls.Opens 1) c_page ∷ []) (Ok c_life) → ⊥
not_made_durable is = let same : ◌≡◌ {A = ℕ} 1 2 = ap length is in omega (arith, same)

-- segment 1 was opened after segment 0, for a log that was asked for nothing else
abbrev asked_for_1 : LogState
asked_for_1 = record small { asked = events_for 1 [] }

pub the_next_is_open : IsOwned add_sum add_sum with_none → HasNext add_sum add_sum small asked_for_1 with_none
unfolding record_len is_record record_of frames records
the_next_is_open owned = record {
  numbered = λ same. let last : ◌≡◌ {A = ℕ} 0 18446744073709551615 = same in omega (arith, last);
  owned = owned;
  page_size = refl;
  there = tt;
  none = refl;
  leaves = only_of [] [] ([], refl);
  asked = refl;
}

-- the next one has no record
pub the_next_has_c : HasNext add_sum add_sum small asked_for_1 with_c → ⊥
unfolding record_len is_record record_of frames records
the_next_has_c is = let same : ◌≡◌ {A = ℕ} 1 0 = ap length is.none in omega (arith, same)

pub the_next_was_opened : IsOwned add_sum add_sum with_none → OpenNextGoes add_sum add_sum small asked_for_1 (Ok with_none)
the_next_was_opened owned = the_next_is_open owned

pub one_with_c_was_opened : OpenNextGoes add_sum add_sum small asked_for_1 (Ok with_c) → ⊥
one_with_c_was_opened is = the_next_has_c is

pub the_manifest_was_opened : IsOwned add_sum add_sum with_none → HasManifest add_sum add_sum 18 with_none none_closed [] (opening_with calls.OpensManifest [] ∷ [])
unfolding record_len is_record record_of frames records
the_manifest_was_opened owned = record { bytes = []; asked = refl; owned = owned; page_size = refl; lists = it_lists_none; told = refl }

-- it has no closed segment
pub it_lists_another : (kept : Closed) (old new : List FolderEvent) → HasManifest add_sum add_sum 18 with_none (record { first = 0; closed = kept ∷ [] }) old new → ⊥
it_lists_another kept old new is = it_does_not_list_one kept is.lists

pub the_segment_was_opened : (old : List FolderEvent) → IsOwned add_sum add_sum with_none → HasCurrent add_sum add_sum 18 with_none 0 old (old ++ events_for 0 [])
unfolding record_len is_record record_of frames records
the_segment_was_opened old owned =
    record { bytes = []; owned = owned; page_size = refl; there = tt; told = refl; committed = none_committed; only = only_of [] [] ([], refl); asked = refl }

abbrev given_first : List FolderEvent → List ℕ
given_first [] = []
given_first (e ∷ es) = e.given

-- the file had "c", and the journal hasn't
pub it_lost_c : HasCurrent add_sum add_sum 18 with_none 0 [] (events_for 0 c_page) → ⊥
unfolding record_len is_record record_of frames records
it_lost_c is =
    let same : c_page ≡ is.bytes = ap given_first is.asked in
    let told : [] ≡ c ∷ [] = is.told ∙ ap (λ (bytes : List ℕ). records add_sum (text add_sum 18 bytes)) (sym same) ∙ c_is_told in
    omega (arith, ap length told)

pub both_were_opened : IsOwned add_sum add_sum with_none → AreParts add_sum add_sum 18 with_none with_none none_closed [] (opening_with calls.OpensManifest [] ∷ events_for 0 [])
both_were_opened owned = record {
  mid = opening_with calls.OpensManifest [] ∷ [];
  lists = the_manifest_was_opened owned;
  stands = the_segment_was_opened (opening_with calls.OpensManifest [] ∷ []) owned;
}

-- the segment that a call opens
abbrev opened : FolderCall → ℕ
opened (calls.Keeps segment len) = 9
opened (calls.Removes segment) = 9
opened calls.Syncs = 9
opened calls.OpensManifest = 9
opened (calls.Opens segment) = segment
opened (calls.Closes segment) = 9
opened (calls.WritesList segment) = 9

abbrev second_opened : List FolderEvent → ℕ
second_opened [] = 9
second_opened (e ∷ []) = 9
second_opened (e ∷ f ∷ es) = opened f.call

-- the manifest lists segment 0 as the open one, and segment 1 was opened
pub another_was_opened : (sum own : List ℕ → ℕ) → AreParts sum own 18 with_none with_none none_closed [] (opening_with calls.OpensManifest [] ∷ events_for 1 []) → ⊥
another_was_opened sum own are =
    let all = are.stands.asked ∙ ap (λ (before : List FolderEvent). before ++ events_for 0 are.stands.bytes) are.lists.asked in
    let same : ◌≡◌ {A = ℕ} 1 0 = ap second_opened all in
    omega (arith, same)

-- ---- all files

-- what the folder was asked for: the manifest had nothing in it, and segment 0 had these bytes
abbrev opening_all : List ℕ → List FolderEvent
opening_all bytes = opening_with calls.OpensManifest [] ∷ events_for 0 bytes

pub the_log_was_asked_for : AsksForLog [] 0 c_page [] (opening_all c_page)
the_log_was_asked_for = refl

abbrev first_opened : List FolderEvent → ℕ
first_opened [] = 9
first_opened (e ∷ es) = opened e.call

-- the segment was opened before the manifest
pub in_another_order : AsksForLog [] 0 c_page [] (events_for 0 c_page ++ opening_with calls.OpensManifest [] ∷ []) → ⊥
in_another_order is = let same : ◌≡◌ {A = ℕ} 0 9 = ap first_opened is in omega (arith, same)

-- the log that is opened then: all eight bytes of its open segment are known
abbrev opened_log : List FolderEvent → LogState
opened_log asked = record small { asked = asked; known = 8 }

pub its_files_were_opened : (asked : List FolderEvent) → CommitsAll add_sum add_sum 18 c_frame (resting c_page)
    → HasOpenedFiles add_sum add_sum [] (opening_all c_page) (opened_log asked)
unfolding record_len is_record record_of frames records
its_files_were_opened asked all = record {
  manifest = [];
  bytes = c_page;
  asked = refl;
  listed = refl;
  left = λ held file is. ap (λ (bytes : List ℕ). Some (records add_sum (text add_sum 18 bytes))) is;
  there = tt;
  records = refl;
  committed = all;
  only = only_of c_page (c ∷ []) ([], refl);
  known = refl;
}

abbrev given_second : List FolderEvent → List ℕ
given_second [] = []
given_second (e ∷ []) = []
given_second (e ∷ f ∷ es) = f.given

-- the file had "d", and the log has "c"
pub the_file_had_d : (asked : List FolderEvent) → HasOpenedFiles add_sum add_sum [] (opening_all d_page) (opened_log asked) → ⊥
unfolding record_len is_record record_of frames records
the_file_had_d asked is =
    let same : d_page ≡ is.bytes = ap given_second is.asked in
    let told : c ∷ [] ≡ d ∷ [] = is.records ∙ ap (λ (bytes : List ℕ). records add_sum (text add_sum 18 bytes)) (sym same) ∙ d_is_told in
    c_is_not_d [] [] told

-- its bytes aren't known
pub nothing_of_it_is_known : (sum own : List ℕ → ℕ) (before calls : List FolderEvent) → HasOpenedFiles sum own before calls small → ⊥
nothing_of_it_is_known sum own before calls is = let same : ◌≡◌ {A = ℕ} 0 8 = is.known in omega (arith, same)

pub the_log_was_opened : CommitsAll add_sum add_sum 18 c_frame (resting c_page)
    → IsOpenedLog add_sum add_sum [] (opened_log (opening_all c_page ++ keeping_event 0 8 [] false ∷ []))
the_log_was_opened all = record {
  calls = opening_all c_page;
  files = its_files_were_opened (opening_all c_page ++ keeping_event 0 8 [] false ∷ []) all;
  kept = record { failed = false; asked = refl };
}

-- no copy of its manifest was to be kept
pub no_copy_was_kept : (sum own : List ℕ → ℕ) → IsOpenedLog sum own [] (opened_log (opening_all c_page)) → ⊥
no_copy_was_kept sum own is =
    let copy = keeping_event 0 8 [] is.kept.failed in
    let three : length is.calls ≡ 3 = ap length is.files.asked in
    let more : 3 ≡ length (is.calls ++ copy ∷ []) = ap length is.kept.asked in
    omega (arith, three, more, length-append is.calls (copy ∷ []))

-- ---- what a call answered

-- the file was opened, and its name couldn't be made durable
pub its_name_is_unsynced : AsksUnsynced 1 [] (opening_with (calls.Opens 1) [] ∷ plain_event calls.Syncs true ∷ [])
its_name_is_unsynced = inr ([], refl)

-- the system refused the file: no sync was asked for
pub it_was_refused : {B : Type 0} (life : B → Life) (e : io_error.Error) → AsksForSegment life 1 [] (plain_event (calls.Opens 1) true ∷ []) (Err (errors.System e))
it_was_refused life e = refl

-- after a failed sync of the names the error isn't that of a file that was refused
pub not_told_as_refused : {B : Type 0} (life : B → Life) (e : io_error.Error) → AsksForSegment life 1 [] (opening_with (calls.Opens 1) [] ∷ plain_event calls.Syncs true ∷ []) (Err (errors.System e)) → ⊥
not_told_as_refused life e is = let same : ◌≡◌ {A = ℕ} 2 1 = ap length is in omega (arith, same)

pub a_failed_sync_of_a_file : (e : io_error.Error) → opening_error (refusals.Unsynced e) ≡ errors.Unsynced e
a_failed_sync_of_a_file e = refl

abbrev second_failed : List FolderEvent → Bool
second_failed [] = false
second_failed (e ∷ []) = false
second_failed (e ∷ f ∷ es) = f.failed

-- the file was opened, and its name is durable
pub it_was_not_unsynced : AsksUnsynced 1 [] (events_for 1 []) → ⊥
it_was_not_unsynced (inl is) = let same : ◌≡◌ {A = ℕ} 2 1 = ap length is in omega (arith, same)
it_was_not_unsynced (inr is) = let same : false ≡ true = ap second_failed is.1 in absurd (cc same)

pub a_sync_failed : (e : Error) → folder_outcome {T = Unit {0}} calls.Syncs (Err e) ≡ plain_event calls.Syncs true
a_sync_failed e = refl

pub a_copy_was_kept : keeping_outcome {T = Unit {0}} {E = Error} 1 3 (7 ∷ []) (Ok tt) ≡ keeping_event 1 3 (7 ∷ []) false
a_copy_was_kept = refl

pub its_list_is_given : writing_event 3 (7 ∷ []) true ≡ record { call = calls.WritesList 3; failed = true; given = 7 ∷ []; closed = None }
its_list_is_given = refl

-- a call that gives no bytes is another one
pub without_its_list : writing_event 3 (7 ∷ []) true ≡ plain_event (calls.WritesList 3) true → ⊥
without_its_list is = let same : ◌≡◌ {A = ℕ} 1 0 = ap (λ (e : FolderEvent). length e.given) is in omega (arith, same)

pub a_list_was_written : writing_outcome {T = Unit {0}} {E = Error} 3 (7 ∷ []) (Ok tt) ≡ writing_event 3 (7 ∷ []) false
a_list_was_written = refl

pub a_list_was_refused : (e : Error) → writing_outcome {T = Unit {0}} 3 (7 ∷ []) (Err e) ≡ writing_event 3 (7 ∷ []) true
a_list_was_refused e = refl

pub a_file_was_opened : opening_outcome {E = Error} (λ (l : Life). l) (calls.Opens 0) (Ok c_life) ≡ opening_with (calls.Opens 0) c_page
a_file_was_opened = refl

pub a_file_was_not : (e : Error) → opening_outcome (λ (l : Life). l) (calls.Opens 0) (Err e) ≡ plain_event (calls.Opens 0) true
a_file_was_not e = refl

-- a folder that was just begun was asked for nothing
pub nothing_was_asked : {B : Type 0} (life : B → Life) → events_of life Nothing ≡ []
nothing_was_asked life = refl
