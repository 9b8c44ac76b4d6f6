-- Bytes and blobs of a small log, which the other examples use. Pages have 18 bytes, each checksum
-- is the sum of its bytes, and each record has one byte, "c" or "d".
use Rattle.std.specs.Prelude.{◌≡◌, ◌++◌, ℕ, List, [], ◌∷◌, replicate, slice_get, Some, None}
use Rattle.std.proofs.Common.{refl, sym, ap, subst, inr, arith, lit≤}
use Rattle.disk.specs.Disk.{Disk, Life, next}
use Rattle.disk.specs.History.{at_rest, begun}
use Rattle.page.specs.Page.{pages, slot_bytes, text}
use Rattle.page.specs.Sums.{add_sum}
use Rattle.cache.specs.CacheState.{CacheState, empty_cache}
use Rattle.cache.specs.Pages.{IsFresh}
use Rattle.crash.specs.Moments.{through_end, through_start}
use Rattle.writer_state.specs.WriterState.{WriterState}
use Rattle.writer_state.specs.declared.sync_state.SyncState.TheVariants.{Clean}
use Rattle.paged.specs.Recovery.{IsDurable}
use Rattle.journal.specs.Frame.{IsPrefix, frames, is_record, record_len, record_of, records}
use Rattle.journal.specs.Journal.{CommitsAll, LeavesRecords, OnlyRecords}
use Rattle.segments.specs.Owned.{OwnedState}
use Rattle.segments.proofs.Closing.{chance_free}
use Rattle.segments.proofs.Surviving.{durable_image, image_of}

-- the frame of "c": its length, its byte, the sum of its bytes, and the mark. All bytes of the
-- frame add up to 200
abbrev pub c_frame : List ℕ
c_frame = 0 ∷ 1 ∷ 99 ∷ 0 ∷ 0 ∷ 0 ∷ 99 ∷ 1 ∷ []

-- the frame of "d", whose bytes add up to 202
abbrev pub d_frame : List ℕ
d_frame = 0 ∷ 1 ∷ 100 ∷ 0 ∷ 0 ∷ 0 ∷ 100 ∷ 1 ∷ []

abbrev pub c : List ℕ
c = 99 ∷ []

abbrev pub d : List ℕ
d = 100 ∷ []

-- a page whose value is the frame of "c": ten zeros after it, its slot, and an empty one
abbrev pub c_page : List ℕ
c_page = c_frame ++ replicate 10 0 ++ slot_bytes 8 200 ++ slot_bytes 0 0

abbrev pub d_page : List ℕ
d_page = d_frame ++ replicate 10 0 ++ slot_bytes 8 202 ++ slot_bytes 0 0

pub text_of_c : text add_sum 18 c_page ≡ c_frame
text_of_c = refl

pub c_is_told : records add_sum (text add_sum 18 c_page) ≡ c ∷ []
unfolding record_len is_record record_of frames records
c_is_told = refl

pub d_is_told : records add_sum (text add_sum 18 d_page) ≡ d ∷ []
unfolding record_len is_record record_of frames records
d_is_told = refl

-- one record isn't the other
abbrev pub first_byte : List (List ℕ) → ℕ
first_byte [] = 0
first_byte ([] ∷ rs) = 0
first_byte ((b ∷ bytes) ∷ rs) = b

pub c_is_not_d : (more rest : List (List ℕ)) → c ∷ more ≡ d ∷ rest → ⊥
c_is_not_d more rest is = let same : ◌≡◌ {A = ℕ} 99 100 = ap first_byte is in omega (arith, same)

-- ---- blobs

-- a blob with these bytes, all durable
abbrev pub resting : List ℕ → Disk
resting bytes = at_rest bytes []

abbrev pub life_of : List ℕ → Life
life_of bytes = begun bytes []

pub rests : (bytes : List ℕ) → IsDurable (resting bytes)
rests bytes = record { since = refl; base = refl }

-- whatever a crash leaves of a blob that rests has the records that it has
pub only_of : (bytes : List ℕ) (all : List (List ℕ)) → IsPrefix (records add_sum (text add_sum 18 bytes)) all → OnlyRecords add_sum add_sum 18 all (resting bytes)
only_of bytes all first = record {
  only = λ image there free. subst (λ (b : List ℕ). IsPrefix (records add_sum (text add_sum 18 b)) all) (sym (durable_image (resting bytes) image (rests bytes) there)) first;
  vouched = λ whole is p page there s. inr (record {
    old = page;
    there = subst (λ (b : List ℕ). slice_get (pages 18 b) p ≡ Some page) is there;
    same = refl;
    unwritten = λ i byte below writes. writes;
  });
}

-- a blob with "d" has not only "c"
pub not_only : OnlyRecords add_sum add_sum 18 (c ∷ []) (resting d_page) → ⊥
not_only are =
    let first = are.only d_page (image_of (resting d_page) (rests d_page)) (chance_free add_sum 18 (resting d_page) (rests d_page)) in
    let had : IsPrefix (d ∷ []) (c ∷ []) = subst (λ (rs : List (List ℕ)). IsPrefix rs (c ∷ [])) d_is_told first in
    c_is_not_d [] had.0 had.1

abbrev pub c_life : Life
c_life = life_of c_page

-- the blob has "d" in the place of "c" now
abbrev pub changed_life : Life
changed_life = next c_life (resting d_page)

pub c_stays : LeavesRecords add_sum add_sum 18 (c ∷ []) c_life c_life
unfolding record_len is_record record_of frames records
c_stays = through_start (OnlyRecords add_sum add_sum 18 (c ∷ [])) c_life (only_of c_page (c ∷ []) ([], refl))

pub c_is_lost : LeavesRecords add_sum add_sum 18 (c ∷ []) c_life changed_life → ⊥
c_is_lost stays = not_only (through_end (OnlyRecords add_sum add_sum 18 (c ∷ [])) c_life changed_life stays)

-- of a blob with nothing in it all is committed
pub none_committed : CommitsAll add_sum add_sum 18 [] (resting [])
unfolding frames records
none_committed = record {
  floor = 0;
  within = lit≤ tt;
  kept = record {
    kept = λ image is. refl;
    held = record { told = []; within = lit≤ tt; same = refl; guards = λ p below. absurd (omega (arith, below)) };
  };
  there = lit≤ tt;
}

-- ---- journals

-- a writer with nothing in its pages, all synced
abbrev pub writer : (tip : List ℕ) → WriterState
writer tip = record { page_size = 18; id = 0; capacity = 16; full_pages = 0; tip = tip; flushed = None; durable = None; sync = Clean }

abbrev pub bare_cache : CacheState
bare_cache = empty_cache 18 1

pub bare_is_fresh : IsFresh bare_cache
bare_is_fresh key above = refl

-- a blob with "c", and its journal
abbrev pub with_c : OwnedState
with_c = record { cache = bare_cache; life = c_life; journal = Some (writer c_frame); page_size = 18; records = 1; digested = 0 }

-- a blob with nothing in it, and its journal
abbrev pub with_none : OwnedState
with_none = record { cache = bare_cache; life = life_of []; journal = Some (writer []); page_size = 18; records = 0; digested = 0 }
