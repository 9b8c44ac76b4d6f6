-- What a read of a closed segment finds, and why it is refused: what each of these definitions holds
-- of, and what it refuses. A segment that is known by its whole file held "c", as `LogExamples` has
-- it, and one that is known by its pages held "abc", as `PagedFrameExamples` has it.
use Rattle.std.specs.Prelude.{◌≡◌, ◌⊎◌, ◌≤◌, ◌^◌, ℕ, List, [], ◌∷◌, length, false, true, Option, Some, None, Ok, Err}
use Rattle.std.proofs.Common.{refl, sym, subst, ap, inl, inr, arith, ◌∙◌, lit≤}
use Rattle.std.proofs.lemmas.List.Elements.{All-cons, All-head, All-nil}
use Rattle.std.specs.IoError.{error_kind}
use Rattle.std.specs.declared.io.Error.{Error as IoError}
use Rattle.std.specs.declared.io.ErrorKind.TheVariants.{NotFound, UnexpectedEof}
use Rattle.page.specs.Sums.{add_sum}
use Rattle.page_digests.specs.Pages.{root_of}
use Rattle.page_digests.specs.Rebuilds.{RebuildGoes}
use Rattle.page_digests.specs.Seals.{HasSecondPreimage}
use Rattle.page_digests.specs.Sources.{SourceRead, gave}
use Rattle.page_digests.specs.declared.error.Error as pages
use Rattle.page_digests.specs.declared.error.Error.TheVariants as causes
use Rattle.page_digests.specs.declared.seal.Seal.{Seal}
use Rattle.page_digests.proofs.ContentExamples.{opened}
use Rattle.page_digests.proofs.PageExamples.{first}
use Rattle.page_digests.proofs.RebuildExamples.{xyz_has_another_root}
use Rattle.page_digests.proofs.SealExamples.{abc, it_has_no_twin, it_is_its_seal, its_seal, xyz}
use Rattle.segments.specs.declared.closed.Closed.{Closed}
use Rattle.segments.specs.declared.closed.FileDigest.{FileDigest}
use Rattle.segments.specs.declared.closed.Fingerprint.TheVariants.{Whole, Paged}
use Rattle.segments.specs.declared.closed.PagedSeal.{PagedSeal}
use Rattle.segments.specs.declared.error.Error.TheVariants as errors
use Rattle.segments.specs.declared.place.Place.{Place}
use Rattle.segments.specs.declared.segment_file.Kind.TheVariants.{Folder, Memory}
use Rattle.segments.specs.Kept.{IsOf}
use Rattle.segments.specs.Log.{HasDamagedLast, HasLoaded, HeldReadGoes, IsDamagedBy, IsKeptAs, IsLoaded, IsReadOfClosed, IsReading, IsSameButReading, IsBeyondPages, LoadedState, LogReadGoes, LogReadRefused, LogState, TakeLoadedGoes}
use Rattle.segments.specs.Owned.{IsOwned, OwnedState, without_journal}
use Rattle.segments.specs.PagedReads.{FileEndsEarly, HasDamagedFile, HasFailedRebuild, HasFailedSince, HasSeal, IsBeyondLimit, IsDamage, IsPagedOf, IsToldAs, OpensPaged, PagedSegmentState, RebuildsPaged}
use Rattle.segments.specs.SegmentFiles.{reads_from}
use Rattle.segments.proofs.BytesExamples.{c_frame, c_page, with_c}
use Rattle.segments.proofs.Loading.{file_read}
use Rattle.segments.proofs.LogExamples.{a_record_is_read, both, by_file, by_pages, c_found, it_ends_where_it_begins, it_holds_c, none_is_read, small}
use Rattle.segments.specs.PagedFrames.{FrameFails}
use Rattle.segments.proofs.PagedFrameExamples.{it_is_its_frame, its_frame}
use Rattle.segments.proofs.PagedReading.{reads_paged}
use Rattle.segments.proofs.Recents.{HasPages}

-- ---- a file of which ranges are read

pub of_the_folder : (reads : List SourceRead) → reads_from {S = List SourceRead} (λ r. r) (Folder reads) ≡ reads
of_the_folder reads = refl

pub of_a_list_in_memory : (reads : List SourceRead) → reads_from {S = ℕ} (λ n. []) (Memory reads) ≡ reads
of_a_list_in_memory reads = refl

-- what was read of the one wasn't read of the other
pub of_another_file : reads_from {S = ℕ} (λ n. gave 0 abc ∷ []) (Memory []) ≡ gave 0 abc ∷ [] → ⊥
of_another_file same = omega (arith, ap length same)

-- ---- damage

pub it_is_a_pebibyte : IsBeyondLimit (record its_seal { len = 2 ^ 50 })
it_is_a_pebibyte = lit≤ tt

pub it_has_three_bytes : IsBeyondLimit its_seal → ⊥
it_has_three_bytes long = omega (arith, long)

pub its_file_was_cut : (e : IoError) → error_kind e ≡ UnexpectedEof → FileEndsEarly e
its_file_was_cut e is = is

pub its_file_is_gone : (e : IoError) → error_kind e ≡ NotFound → FileEndsEarly e → ⊥
its_file_is_gone e gone is = cc (sym gone ∙ is)

pub other_bytes_are_damage : IsDamage causes.Damaged
other_bytes_are_damage = tt

pub a_cut_file_is : (e : IoError) → FileEndsEarly e → IsDamage (causes.System e)
a_cut_file_is e is = is

pub memory_was_refused : IsDamage causes.OutOfMemory → ⊥
memory_was_refused is = is

pub its_file_is_damaged : HasDamagedFile first 32 its_seal
its_file_is_damaged = record { old = []; new = gave 0 xyz ∷ []; error = causes.Damaged; fails = xyz_has_another_root; damage = tt }

-- a content of no byte whose root the digest of no byte is: no file of it can be damaged
abbrev pub none_seal : (d : List ℕ → List ℕ) → Seal
none_seal d = record { len = 0; root = d [] }

no_page_is_there : (d : List ℕ → List ℕ) (old new : List SourceRead) (e : pages.Error) → RebuildGoes d 32 (none_seal d) old new (Err e) → IsDamage e → ⊥
no_page_is_there d old new causes.Damaged (bytes, gives, differ) damage = by_case bytes gives.len differ
  where
    by_case : (bytes : List ℕ) → length bytes ≡ 0 → (root_of d 32 bytes ≡ d [] → ⊥) → ⊥
    by_case [] none differ = differ refl
    by_case (b ∷ bytes) none differ = omega (arith, none)
no_page_is_there d old new (causes.System e) (i, within, refused) damage = omega (arith, within)
no_page_is_there d old new causes.OutOfMemory goes damage = damage

pub no_file_is_damaged : (d : List ℕ → List ℕ) → HasDamagedFile d 32 (none_seal d) → ⊥
no_file_is_damaged d is = no_page_is_there d is.old is.new is.error is.fails is.damage

-- ---- as the log answers it

pub told_as_damage : IsToldAs 7 causes.Damaged (errors.Damaged 7)
told_as_damage = refl

pub a_cut_file_is_told_so : (e : IoError) → FileEndsEarly e → IsToldAs 7 (causes.System e) (errors.Damaged 7)
a_cut_file_is_told_so e is = inl (is, refl)

pub a_refusal_is_told : (e : IoError) → error_kind e ≡ NotFound → IsToldAs 7 (causes.System e) (errors.System e)
a_refusal_is_told e gone = inr (its_file_is_gone e gone, refl)

-- of another segment
pub told_of_another : IsToldAs 7 causes.Damaged (errors.Damaged 8) → ⊥
told_of_another is = cc is

-- a refused read isn't told as damage
pub a_refusal_is_damage : (e : IoError) → error_kind e ≡ NotFound → IsToldAs 7 (causes.System e) (errors.Damaged 7) → ⊥
a_refusal_is_damage e gone (inl is) = its_file_is_gone e gone is.0
a_refusal_is_damage e gone (inr is) = cc is.1

-- ---- a fingerprint

abbrev pub sealed : PagedSeal
sealed = record { number = 1; seal = its_seal; marks = None }

pub it_has_its_seal : HasSeal its_seal (Paged sealed)
it_has_its_seal = refl

pub a_file_has_no_seal : (kept : FileDigest) → HasSeal its_seal (Whole kept) → ⊥
a_file_has_no_seal kept is = is

pub it_has_another_length : HasSeal (record its_seal { len = 4 }) (Paged sealed) → ⊥
it_has_another_length same = let four : ◌≡◌ {A = ℕ} 3 4 = ap (λ (s : Seal). s.len) same in omega (arith, four)

pub it_is_long : IsBeyondPages (Paged (record sealed { seal = record its_seal { len = 2 ^ 50 } }))
it_is_long = it_is_a_pebibyte

pub it_is_short : IsBeyondPages (Paged sealed) → ⊥
it_is_short long = it_has_three_bytes long

-- one that is known by its file is read whole, however long it is
pub a_file_is_never_too_long : (kept : FileDigest) → IsBeyondPages (Whole kept) → ⊥
a_file_is_never_too_long kept is = is

pub damaged_by_its_own_file : (t : LogState) → IsDamagedBy first 32 0 7 t (Paged sealed)
damaged_by_its_own_file t = inl its_file_is_damaged

pub damaged_by_its_file : (kept : FileDigest) (t : LogState) → IsDamagedBy first 32 0 7 t (Whole kept)
damaged_by_its_file kept t = tt

damage_told : (n k : ℕ) (cause : pages.Error) → IsToldAs n cause (errors.Damaged k) → IsDamage cause
damage_told n k causes.Damaged told = tt
damage_told n k (causes.System e) (inl told) = told.0
damage_told n k (causes.System e) (inr told) = absurd (cc told.1)
damage_told n k causes.OutOfMemory told = absurd (cc told)

-- a content of no byte has no frame, and no page of its file can be wrong
nothing_is_damaged : (d : List ℕ → List ℕ) (t : LogState) → HasDamagedLast d (FrameFails d 0) 32 (none_seal d) 7 t → ⊥
nothing_is_damaged d t is = by_case is.fails.fails
  where
    by_case : HasFailedSince d (FrameFails d 0) is.old.content is.new.content is.fails.cause ⊎ HasFailedRebuild d is.old.content is.new.content is.fails.cause ⊎ (is.fails.cause ≡ causes.OutOfMemory) → ⊥
    by_case (inl since) = omega (arith, since.fails.begins, ap (λ (s : Seal). s.len) since.of, ap (λ (s : Seal). s.len) is.of.of)
    by_case (inr (inl file)) = no_page_is_there d file.before file.after is.fails.cause
        (subst (λ n. RebuildGoes d n (none_seal d) file.before file.after (Err is.fails.cause)) is.of.page_size
        (subst (λ l. RebuildGoes d is.old.content.page_size l file.before file.after (Err is.fails.cause)) is.of.of file.fails)) (damage_told is.old.number 7 is.fails.cause is.fails.told)
    by_case (inr (inr memory)) = subst (λ (e : pages.Error). IsDamage e) memory (damage_told is.old.number 7 is.fails.cause is.fails.told)

pub damaged_by_nothing : (d : List ℕ → List ℕ) (t : LogState) → IsDamagedBy d 32 0 7 t (Paged (record sealed { seal = none_seal d })) → ⊥
damaged_by_nothing d t (inl is) = no_file_is_damaged d is
damaged_by_nothing d t (inr is) = nothing_is_damaged d t is

-- ---- in reading

-- its top was read, and nothing else
abbrev pub in_pages : PagedSegmentState
in_pages = record { number = 7; content = opened; is_settled = false; marks_root = None; marks = None; ended = 0 }

pub it_is_of_its_seal : IsPagedOf 32 7 its_seal in_pages
it_is_of_its_seal = record { number = refl; of = refl; page_size = refl }

pub of_another_page_size : IsPagedOf 16 7 its_seal in_pages → ⊥
of_another_page_size is = let same : ◌≡◌ {A = ℕ} 32 16 = is.page_size in omega (arith, same)

pub it_is_rebuilt : RebuildsPaged first 32 its_seal 7 (Ok (record in_pages { is_settled = true }))
it_is_rebuilt = record { number = refl; of = refl; page_size = refl }

pub it_can_not_be : RebuildsPaged first 32 its_seal 7 (Err causes.Damaged)
it_can_not_be = ([], gave 0 xyz ∷ [], xyz_has_another_root)

-- with the seal of another
pub another_is_rebuilt : RebuildsPaged first 32 (record its_seal { len = 4 }) 7 (Ok in_pages) → ⊥
another_is_rebuilt is = let four : ◌≡◌ {A = ℕ} 3 4 = ap (λ (s : Seal). s.len) is.of in omega (arith, four)

pub it_opens : OpensPaged first 32 its_seal 7 (Ok in_pages)
it_opens = it_is_of_its_seal

pub it_opens_not : OpensPaged first 32 its_seal 7 (Err (errors.Damaged 7))
it_opens_not = (refl, its_file_is_damaged)

pub another_opens_not : OpensPaged first 32 its_seal 7 (Err (errors.Damaged 8)) → ⊥
another_opens_not is = let same : ◌≡◌ {A = ℕ} 8 7 = is.0 in omega (arith, same)

-- nothing is damaged of a content of no byte
pub none_opens_not : (d : List ℕ → List ℕ) → OpensPaged d 32 (none_seal d) 7 (Err (errors.Damaged 7)) → ⊥
none_opens_not d is = no_file_is_damaged d is.1

-- ---- in memory

abbrev pub in_memory : FileDigest → LoadedState
in_memory kept = record { kept = kept; owned = with_c }

pub it_is_in_memory : (kept : FileDigest) → IsOf c_page kept → IsOwned add_sum add_sum with_c → IsLoaded add_sum add_sum 18 (in_memory kept)
it_is_in_memory kept is owned = record { page_size = refl; owned = owned; there = tt; holds = it_holds_c first kept is }

-- in memory it has pages of the log's size
pub of_another_size : (sum own : List ℕ → ℕ) (kept : FileDigest) → IsLoaded sum own 16 (in_memory kept) → ⊥
of_another_size sum own kept is = let same : ◌≡◌ {A = ℕ} 18 16 = is.page_size in omega (arith, same)

-- and a journal
pub it_was_given_up : (sum own : List ℕ → ℕ) (kept : FileDigest) → IsLoaded sum own 18 (record { kept = kept; owned = without_journal with_c }) → ⊥
it_was_given_up sum own kept is = is.there

pub one_of_each_is_read : (kept : FileDigest) → IsLoaded add_sum add_sum 32 (in_memory kept) → IsReading add_sum add_sum 32 (record { whole = Some (in_memory kept); paged = in_pages ∷ [] })
one_of_each_is_read kept loaded = record { whole = loaded; paged = All-cons (HasPages 32) in_pages [] refl (All-nil (HasPages 32)) }

pub with_other_pages : (sum own : List ℕ → ℕ) → IsReading sum own 18 (record { whole = None; paged = in_pages ∷ [] }) → ⊥
with_other_pages sum own is = let same : ◌≡◌ {A = ℕ} 32 18 = All-head (HasPages 18) in_pages [] is.paged in omega (arith, same)

pub it_was_loaded : (kept : FileDigest) → IsLoaded add_sum add_sum 18 (in_memory kept) → HasLoaded add_sum add_sum small kept (in_memory kept)
it_was_loaded kept loaded = record { same = refl; loaded = loaded }

-- of one byte more
pub another_was_loaded : (sum own : List ℕ → ℕ) (digest : List ℕ) → HasLoaded sum own small (record { len = 31; digest = digest }) (in_memory (record { len = 30; digest = digest })) → ⊥
another_was_loaded sum own digest is = let same : ◌≡◌ {A = ℕ} 30 31 = ap (λ (k : FileDigest). k.len) is.same in omega (arith, same)

pub it_is_taken : (kept : FileDigest) → IsLoaded add_sum add_sum 18 (in_memory kept) → TakeLoadedGoes add_sum add_sum small 0 kept (Ok (in_memory kept))
it_is_taken kept loaded = it_was_loaded kept loaded

pub it_is_not_taken : (sum own : List ℕ → ℕ) (kept : FileDigest) → TakeLoadedGoes sum own small 7 kept (Err (errors.Damaged 7))
it_is_not_taken sum own kept = refl

pub another_is_not_taken : (sum own : List ℕ → ℕ) (kept : FileDigest) → TakeLoadedGoes sum own small 7 kept (Err (errors.Damaged 8)) → ⊥
another_is_not_taken sum own kept is = let same : ◌≡◌ {A = ℕ} 8 7 = is in omega (arith, same)

pub another_is_in_memory : (kept : FileDigest) → IsSameButReading small (record small { reading = record { whole = Some (in_memory kept); paged = in_pages ∷ [] } })
another_is_in_memory kept = record { manifest = refl; current = refl; listing = refl; asked = refl; page_size = refl; most = refl; known = refl }

pub and_the_open_one_is_closed : IsSameButReading small (record small { current = without_journal with_c }) → ⊥
and_the_open_one_is_closed same = absurd (cc (ap (λ (o : OwnedState). o.journal) same.current))

-- ---- a frame is found

pub c_is_read_of_closed : (digest : List ℕ → List ℕ) (kept : FileDigest) → IsOf c_page kept → IsReadOfClosed add_sum add_sum digest 18 (by_file kept) 0 (Some c_found)
c_is_read_of_closed digest kept is = file_read add_sum add_sum digest 18 kept c_frame 0 (Some c_found) (it_holds_c digest kept is) a_record_is_read 1

pub none_is_read_of_closed : (own : List ℕ → ℕ) (digest : List ℕ → List ℕ) (kept : FileDigest) → IsOf c_page kept → IsReadOfClosed add_sum own digest 18 (by_file kept) 8 None
none_is_read_of_closed own digest kept is = file_read add_sum own digest 18 kept c_frame 8 None (it_holds_c digest kept is) (none_is_read own) 1

-- so a read goes forward
pub it_stays_where_it_was : (sum own : List ℕ → ℕ) (digest : List ℕ → List ℕ) (kept : Closed) → IsReadOfClosed sum own digest 18 kept 8 (Some c_found) → ⊥
it_stays_where_it_was sum own digest kept is = it_ends_where_it_begins is.forward

-- "abc" has a frame there, and no other content has its seal
pub abc_is_passed_over : (sum own : List ℕ → ℕ) → IsReadOfClosed sum own first 32 (by_pages sealed) 0 None → ⊥
abc_is_passed_over sum own is = by_case (is.reads abc it_is_its_seal)
  where
    by_case : length abc ≤ 0 ⊎ HasSecondPreimage first 32 abc → ⊥
    by_case (inl few) = omega (arith, few)
    by_case (inr twin) = it_has_no_twin twin

pub none_at_its_end : (own : List ℕ → ℕ) (digest : List ℕ → List ℕ) (kept : FileDigest) → IsOf c_page kept → HeldReadGoes add_sum own digest 18 kept 8 (Ok None)
none_at_its_end own digest kept is records = file_read add_sum own digest 18 kept c_frame 8 None (it_holds_c digest kept is) (none_is_read own) records

-- a closed segment can be read, whether or not the log is closed
pub it_is_called_closed : (sum own : List ℕ → ℕ) (digest : List ℕ → List ℕ) (kept : FileDigest) → HeldReadGoes sum own digest 18 kept 0 (Err errors.Closed) → ⊥
it_is_called_closed sum own digest kept is = is

-- ---- a read of a log: segment 0 held "abc", and segment 1 held "c"

abbrev begin : (segment : ℕ) → Place
begin segment = record { segment = segment; offset = 0 }

module _ (kept : FileDigest) where
  abbrev log : LogState
  log = record small { listing = record { first = 0; closed = by_pages sealed ∷ by_file kept ∷ [] }; page_size = 32 }

  pub it_is_kept : IsKeptAs log.listing 0 (HasSeal its_seal)
  it_is_kept = (by_pages sealed, refl, refl)

  -- the other one isn't known by its pages
  pub by_a_file : IsKeptAs log.listing 1 (HasSeal its_seal) → ⊥
  by_a_file (closed, listed, is) = a_file_has_no_seal kept (subst (λ (c : Closed). HasSeal its_seal c.fingerprint) (sym (it_is closed listed)) is)
    where
      or_it : Option Closed → Closed
      or_it None = by_file kept
      or_it (Some c) = c

      it_is : (c : Closed) → Some (by_file kept) ≡ Some c → by_file kept ≡ c
      it_is c same = ap or_it same

  -- and the open one isn't closed
  pub the_open_one : IsKeptAs log.listing 2 (λ f. Unit {0}) → ⊥
  the_open_one (closed, listed, is) = absurd (cc listed)

  pub abc_is_read : (t : LogState) → LogReadGoes add_sum add_sum first log t (begin 0) (Ok (Some its_frame))
  abc_is_read t = reads_paged add_sum add_sum first log t (begin 0) its_seal (Some its_frame) it_is_kept (it_is_its_frame add_sum)

  pub abc_is_damaged : (t : LogState) → LogReadGoes add_sum add_sum first log t (begin 0) (Err (errors.Damaged 0))
  abc_is_damaged t = (refl, (by_pages sealed, refl, inl its_file_is_damaged))

  pub the_file_is_damaged : (own : List ℕ → ℕ) (t : LogState) → LogReadRefused own first log t (begin 1) (errors.Damaged 1)
  the_file_is_damaged own t = (refl, (by_file kept, refl, tt))

  -- a damaged segment is told by its own number
  pub the_other_is : (own : List ℕ → ℕ) (t : LogState) → LogReadRefused own first log t (begin 0) (errors.Damaged 1) → ⊥
  the_other_is own t is = let same : ◌≡◌ {A = ℕ} 1 0 = is.0 in omega (arith, same)

  -- the manifest lists it with three bytes
  pub it_is_not_too_long : (own : List ℕ → ℕ) (t : LogState) → LogReadRefused own first log t (begin 0) errors.Manifest → ⊥
  it_is_not_too_long own t (closed, listed, is) = it_is_short (subst (λ (c : Closed). IsBeyondPages c.fingerprint) (sym (it_is closed listed)) is)
    where
      or_it : Option Closed → Closed
      or_it None = by_pages sealed
      or_it (Some c) = c

      it_is : (c : Closed) → Some (by_pages sealed) ≡ Some c → by_pages sealed ≡ c
      it_is c same = ap or_it same

  pub its_file_is_refused : (own : List ℕ → ℕ) (e : IoError) (t : LogState) → LogReadRefused own first log t (begin 0) (errors.System e)
  its_file_is_refused own e t = (by_pages sealed, refl)

  -- no file of the open one is asked for
  pub the_open_one_is_refused : (own : List ℕ → ℕ) (e : IoError) (t : LogState) → LogReadRefused own first log t (begin 2) (errors.System e) → ⊥
  the_open_one_is_refused own e t (closed, listed) = absurd (cc listed)

module _ (one two : Closed) where
  pub a_closed_one_is_read : (digest : List ℕ → List ℕ) (kept : FileDigest) (t : LogState) → IsOf c_page kept
      → LogReadGoes add_sum add_sum digest (both (by_file kept) two) t (begin 0) (Ok (Some c_found))
  a_closed_one_is_read digest kept t is = inr (by_file kept, refl, c_is_read_of_closed digest kept is)

  pub the_open_one_is_read : (digest : List ℕ → List ℕ) (t : LogState) → LogReadGoes add_sum add_sum digest (both one two) t (begin 2) (Ok (Some c_found))
  the_open_one_is_read digest t = inl (refl, (c_frame, refl, a_record_is_read))

  -- a frame stands there
  pub the_open_one_is_passed_over : (sum own : List ℕ → ℕ) (digest : List ℕ → List ℕ) (t : LogState) → LogReadGoes sum own digest (both one two) t (begin 2) (Ok None) → ⊥
  the_open_one_is_passed_over sum own digest t (inl is) = omega (arith, ap length is.1.1, is.1.2)
  the_open_one_is_passed_over sum own digest t (inr is) = let none : None ≡ Some is.0 = is.1 in absurd (cc none)
