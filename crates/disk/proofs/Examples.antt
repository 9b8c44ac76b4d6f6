-- The words of the blobs in memory, at a few bytes.
use Rattle.std.proofs.Common.{◌≡◌, ℕ, List, [], ◌∷◌, length, map, nat_eq, true, false, refl, true≢false, arith, Ok}
use Rattle.std.proofs.lemmas.List.Sorted.{IsPermutation-reverse}
use Rattle.std.proofs.lemmas.Map.Keys.{IsDistinct-head}
use Rattle.disk.specs.Disk.{Life, Write, Resize, settled_disk, logged, ReadMany, StartReadMany, StartReadGoes, SyncAll, next, coverings, Delivers}
use Rattle.disk.specs.declared.action.Action.TheVariants as actions
use Rattle.disk.specs.History.{History, begun, life_of, with_action}
use Rattle.disk.specs.Memory.{delivery}
use Rattle.disk.specs.Past.{history_with}
use Rattle.disk.specs.Torn.{torn}
use Rattle.disk.proofs.Deliveries.{rising, delivers_rising, delivers_moved}

-- a crash over 1, 2 and 3 keeps those bytes of a write of 7, 8 and 9 whose flag is true
pub flagged_bytes : torn (true ∷ false ∷ true ∷ []) (Write 0 (7 ∷ 8 ∷ 9 ∷ []) ∷ []) (1 ∷ 2 ∷ 3 ∷ []) ≡ 7 ∷ 2 ∷ 9 ∷ []
flagged_bytes = refl

-- a missing flag is false
pub missing_flags : torn (true ∷ []) (Write 0 (7 ∷ 8 ∷ 9 ∷ []) ∷ []) (1 ∷ 2 ∷ 3 ∷ []) ≡ 7 ∷ 2 ∷ 3 ∷ []
missing_flags = refl

-- a write takes a flag for each byte, and a resize after it takes one flag
pub flags_in_turn : torn (false ∷ true ∷ []) (Write 0 (7 ∷ []) ∷ Resize 1 ∷ []) (1 ∷ 2 ∷ []) ≡ 1 ∷ []
flags_in_turn = refl

-- a blob that began with one byte, and was asked for nothing
abbrev pub at_first : History
at_first = record { first = 1 ∷ []; earlier = []; events = []; failing = 0; backwards = false }

-- the life of that blob has just begun
pub a_begun_life : life_of at_first ≡ begun (1 ∷ []) []
a_begun_life = refl

-- a write of one byte after its byte, which was done
abbrev pub written : History
written = history_with (actions.Write 1 (7 ∷ []) false) false at_first

pub a_write_went : (life_of written).present.readable ≡ 1 ∷ 7 ∷ []
a_write_went = refl

-- that write isn't durable before a sync
pub not_durable : (life_of written).present.base ≡ 1 ∷ []
not_durable = refl

pub a_sync_went : life_of (history_with actions.Sync false written) ≡ next (life_of written) (settled_disk (logged SyncAll false (life_of written).present))
a_sync_went = refl

-- a write that failed left all as it was, though a crash may do some of it
pub a_failed_write : (life_of (history_with (actions.Write 1 (7 ∷ []) false) true at_first)).present.readable ≡ 1 ∷ []
a_failed_write = refl

pub it_is_unsynced : length (life_of (history_with (actions.Write 1 (7 ∷ []) false) true at_first)).present.since ≡ 1
it_is_unsynced = refl

-- the call that is to fail fails, and no other
pub a_planned_failure : (with_action actions.Sync (record at_first { failing = 1 })).events ≡ record { action = actions.Sync; failed = true } ∷ []
a_planned_failure = refl

pub not_yet : with_action actions.Sync (record at_first { failing = 2 }) ≡ record at_first { events = record { action = actions.Sync; failed = false } ∷ []; failing = 1 }
not_yet = refl

-- a sync that is started after the write covers it, and has the bytes that are readable
abbrev pub started : History
started = history_with actions.StartSync false written

pub a_sync_is_started : coverings (life_of started).present ≡ (1, 1 ∷ 7 ∷ []) ∷ []
a_sync_is_started = refl

-- nothing more is durable by the start of that sync
pub only_started : (life_of started).present.base ≡ 1 ∷ []
only_started = refl

-- a wait for it makes durable what it covers; a write after the start isn't durable
abbrev pub waited_for_it : History
waited_for_it = history_with (actions.WaitSync 0) false (history_with (actions.Write 0 (9 ∷ []) false) false started)

pub a_wait_settles : (life_of waited_for_it).present.base ≡ 1 ∷ 7 ∷ []
a_wait_settles = refl

pub not_what_came_later : (life_of waited_for_it).present.since ≡ Write 0 (9 ∷ []) ∷ []
not_what_came_later = refl

-- a wait for a sync that failed to start makes nothing durable
pub a_failed_start : (life_of (history_with (actions.WaitSync 0) false (history_with actions.StartSync true written))).present.base ≡ 1 ∷ []
a_failed_start = refl

-- names go on in the next life, and an earlier sync covers nothing there
pub names_go_on : map (λ s. s.covers) (life_of (history_with actions.StartSync false (record { first = 1 ∷ []; earlier = (life_of started).present.log; events = []; failing = 0; backwards = false }))).present.started ≡ 0 ∷ 0 ∷ []
names_go_on = refl

-- two ranges of four bytes, and an empty one after the last byte
abbrev pub three : List (ℕ × ℕ)
three = (0, 2) ∷ (3, 1) ∷ (4, 0) ∷ []

abbrev pub four_bytes : List ℕ
four_bytes = 5 ∷ 6 ∷ 7 ∷ 8 ∷ []

-- these ranges are delivered in order, or the last one first
pub three_in_order : Delivers three four_bytes ((0, 5 ∷ 6 ∷ []) ∷ (1, 8 ∷ []) ∷ (2, []) ∷ [])
three_in_order = delivers_rising three four_bytes

pub last_one_first : Delivers three four_bytes ((2, []) ∷ (1, 8 ∷ []) ∷ (0, 5 ∷ 6 ∷ []) ∷ [])
last_one_first = delivers_moved three four_bytes (rising three four_bytes) ((2, []) ∷ (1, 8 ∷ []) ∷ (0, 5 ∷ 6 ∷ []) ∷ []) (IsPermutation-reverse (rising three four_bytes)) three_in_order

-- those are the two orders that can be set
pub it_rises : delivery false three four_bytes ≡ (0, 5 ∷ 6 ∷ []) ∷ (1, 8 ∷ []) ∷ (2, []) ∷ []
it_rises = refl

pub it_falls : delivery true three four_bytes ≡ (2, []) ∷ (1, 8 ∷ []) ∷ (0, 5 ∷ 6 ∷ []) ∷ []
it_falls = refl

-- no range is delivered under the number of another
pub no_other_number : Delivers ((0, 1) ∷ (1, 1) ∷ []) (5 ∷ 6 ∷ []) ((1, 5 ∷ []) ∷ (0, 6 ∷ []) ∷ []) → ⊥
no_other_number given = let wrong = given.each 0 (0, []) (omega arith) in cc

-- no range is delivered twice, though two have the same bytes
pub not_twice : Delivers ((0, 1) ∷ (1, 1) ∷ []) (5 ∷ 5 ∷ []) ((0, 5 ∷ []) ∷ (0, 5 ∷ []) ∷ []) → ⊥
not_twice given = true≢false (IsDistinct-head nat_eq 0 (0 ∷ []) given.once).0

-- a read of ranges stands in the log, and changes nothing else
pub a_read_of_ranges : life_of (history_with (actions.ReadMany three) false at_first) ≡ next (life_of at_first) (logged (ReadMany three) false (life_of at_first).present)
a_read_of_ranges = refl

-- a start of reads stands in the log as a call of its own, and changes nothing else
pub a_start_of_reads : life_of (history_with (actions.StartReadMany three) false at_first) ≡ next (life_of at_first) (logged (StartReadMany three) false (life_of at_first).present)
a_start_of_reads = refl

-- what a started read keeps stands in the order of the ranges
abbrev pub of_four : Life
of_four = begun four_bytes []

pub kept_in_order : StartReadGoes three of_four (next of_four (logged (StartReadMany three) false of_four.present)) (Ok ((5 ∷ 6 ∷ []) ∷ (8 ∷ []) ∷ [] ∷ []))
kept_in_order = ((λ k d below. grind (arith)), refl, refl)

pub no_other_order : (new : Life) → StartReadGoes three of_four new (Ok ((8 ∷ []) ∷ (5 ∷ 6 ∷ []) ∷ [] ∷ [])) → ⊥
no_other_order new goes = let wrong = goes.1 in cc
