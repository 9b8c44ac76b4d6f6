-- The definitions that only the clauses of inner calls name: what each holds of, and what it
-- refuses. The logs are those of `LogExamples`: `small` has an empty manifest, and `both` has two
-- closed segments.
use Rattle.std.specs.Prelude.{◌≡◌, ◌++◌, ℕ, List, [], ◌∷◌, length, replicate, Some, None, Ok, Err}
use Rattle.std.proofs.Common.{refl, ap, inl, inr, arith}
use Rattle.disk.specs.Disk.{next}
use Rattle.disk.specs.declared.error.Error.TheVariants.{OutOfMemory}
use Rattle.page.specs.Sums.{add_sum}
use Rattle.crash.specs.Moments.{through_end, through_start}
use Rattle.journal.specs.Frame.{IsPrefix, frames, is_record, record_len, record_of, records, whole_frames}
use Rattle.journal.specs.Journal.{Commits, OnlyRecords}
use Rattle.segments.specs.declared.closed.Closed.{Closed}
use Rattle.segments.specs.declared.entry.Entry.TheVariants.{Starts}
use Rattle.segments.specs.declared.error.Error.TheVariants as errors
use Rattle.segments.specs.FolderEvents.{FolderEvent}
use Rattle.segments.specs.Manifest.{ListingState, entry_bytes, entry_in, none_closed}
use Rattle.segments.specs.Owned.{IsOwned, OwnedState}
use Rattle.segments.specs.Log.{EnterGoes, EnterRefused, HasOpened, IsEntered, IsKept, IsTried, LeavesOpened, LogState, ManifestKeeps, StartFromGoes, Tries}
use Rattle.segments.proofs.BytesExamples.{c, c_life, c_page, changed_life, first_byte, life_of, none_committed, not_only, only_of, resting, rests, with_c, with_none, writer}
use Rattle.segments.proofs.Closing.{chance_free}
use Rattle.segments.proofs.LogExamples.{both, small}
use Rattle.segments.proofs.Surviving.{image_of}

-- ---- an entry. The log begins with segment 0, and its pages have 18 bytes

-- the frame of that entry
abbrev starts_frame : List ℕ
starts_frame = 0 ∷ 11 ∷ replicate 10 0 ++ 18 ∷ 0 ∷ 0 ∷ 0 ∷ 18 ∷ 1 ∷ []

abbrev entered : List FolderEvent → LogState
entered asked = record small { manifest = record with_none { journal = Some (writer starts_frame) }; asked = asked }

pub it_was_entered : (asked : List FolderEvent) → IsKept [] (entered asked) → IsEntered add_sum (Starts 0 18) small (entered asked)
unfolding record_len is_record record_of frames records
it_was_entered asked kept = record { listing = refl; there = tt; records = refl; size = refl; known = refl; kept = kept }

-- the manifest has no record more
pub it_was_not_written : (asked : List FolderEvent) → IsEntered add_sum (Starts 0 18) small (record small { asked = asked }) → ⊥
unfolding frames records
it_was_not_written asked is = let same : ◌≡◌ {A = ℕ} 0 1 = ap length is.records in omega (arith, same)

pub it_can_not_follow : EnterRefused (Starts 1 18) small errors.Manifest
it_can_not_follow = refl

-- an entry that can follow isn't refused as one that can't
pub it_can_follow : EnterRefused (Starts 0 18) small errors.Manifest → ⊥
it_can_follow refused = let none : Some none_closed ≡ None = refused in absurd (cc none)

pub it_is_not_entered : (own : List ℕ → ℕ) → EnterGoes own (Starts 1 18) small small (Err errors.Manifest)
it_is_not_entered own = record { listing = refl; asked = refl; known = refl; left = inl refl; refused = refl }

-- nothing was done for it
pub it_is_said_to_be : EnterGoes add_sum (Starts 0 18) small small (Ok tt) → ⊥
it_is_said_to_be is = it_was_not_written [] is

pub nothing_was_written : ManifestKeeps add_sum add_sum (Starts 0 18) small small
unfolding record_len is_record record_of frames records
nothing_was_written = record {
  kept = λ content n commits. through_start (Commits add_sum add_sum 18 content n) (life_of []) commits;
  only = through_start (OnlyRecords add_sum add_sum 18 (entry_bytes (Starts 0 18) ∷ [])) (life_of []) (only_of [] (entry_bytes (Starts 0 18) ∷ []) (entry_bytes (Starts 0 18) ∷ [], refl));
}

-- a manifest whose record is "c"
abbrev foreign : LogState
foreign = record small { manifest = record with_none { life = next (life_of []) (resting c_page) } }

pub something_else_was_written : ManifestKeeps add_sum add_sum (Starts 0 18) small foreign → ⊥
unfolding record_len is_record record_of frames records
something_else_was_written keeps =
    let only = through_end (OnlyRecords add_sum add_sum 18 (entry_bytes (Starts 0 18) ∷ [])) (life_of []) (next (life_of []) (resting c_page)) keeps.only in
    let first : IsPrefix (c ∷ []) (entry_bytes (Starts 0 18) ∷ []) = only.only c_page (image_of (resting c_page) (rests c_page)) (chance_free add_sum 18 (resting c_page) (rests c_page)) in
    let same : ◌≡◌ {A = ℕ} 0 99 = ap first_byte first.1 in
    omega (arith, same)

pub it_was_tried : IsTried add_sum add_sum (Starts 0 18) small small
unfolding entry_in
it_was_tried = record { listing = none_closed; told = refl; follows = refl; keeps = nothing_was_written }

-- an entry that can't follow isn't asked for
pub it_was_tried_in_vain : (sum own : List ℕ → ℕ) (t : LogState) → IsTried sum own (Starts 1 18) small t → ⊥
it_was_tried_in_vain sum own t is = let none : None ≡ Some is.listing = is.follows in absurd (cc none)

pub it_may_be_tried : Tries add_sum add_sum (Starts 0 18) small small
it_may_be_tried = inr it_was_tried

-- the manifest changed for an entry that can't follow
pub it_changed_for_nothing : (sum own : List ℕ → ℕ) → Tries sum own (Starts 1 18) small foreign → ⊥
it_changed_for_nothing sum own (inl same) = let some : ◌≡◌ {A = ℕ} 30 0 = ap (λ (o : OwnedState). length o.life.present.readable) same in omega (arith, some)
it_changed_for_nothing sum own (inr tried) = it_was_tried_in_vain sum own foreign tried

-- ---- a blob is opened

pub it_was_opened : IsOwned add_sum add_sum with_none → HasOpened add_sum add_sum 18 (life_of []) with_none []
unfolding record_len is_record record_of frames records whole_frames
it_was_opened owned = record { owned = owned; page_size = refl; holds = refl; told = refl; given = refl; committed = none_committed }

-- a record was answered that its bytes don't have
pub one_too_many : HasOpened add_sum add_sum 18 (life_of []) with_none (c ∷ []) → ⊥
unfolding record_len is_record record_of frames records
one_too_many is = let same : ◌≡◌ {A = ℕ} 1 0 = ap length is.given in omega (arith, same)

pub it_leaves_c : LeavesOpened add_sum add_sum 18 c_life with_c
unfolding record_len is_record record_of frames records
it_leaves_c durable = only_of c_page (c ∷ []) ([], refl)

pub it_leaves_d : LeavesOpened add_sum add_sum 18 c_life (record with_c { life = changed_life }) → ⊥
unfolding record_len is_record record_of frames records
it_leaves_d leaves = not_only (leaves (rests c_page))

-- ---- a drop

module _ (one two : Closed) where
  pub no_such_segment : StartFromGoes 3 (both one two) (both one two) (Err errors.Manifest)
  no_such_segment = (
    record { current = refl; reading = refl; page_size = refl; most = refl },
    record { listing = refl; asked = refl; known = refl; left = inl refl; refused = refl },
  )

  -- after an error the drop isn't in the listing
  pub it_is_in_the_listing : StartFromGoes 1 (both one two) (record (both one two) { listing = record { first = 1; closed = two ∷ [] } }) (Err (errors.Layer OutOfMemory)) → ⊥
  it_is_in_the_listing is = let same : ◌≡◌ {A = ℕ} 1 0 = ap (λ (l : ListingState). l.first) is.1.listing in omega (arith, same)
