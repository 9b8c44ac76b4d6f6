-- What emptying a bad slot does, and cutting a blob before it, by cases on the answer.
use Rattle.std.specs.Prelude.{◌≡◌, ◌⊎◌, ℕ, Option, Some, None, Result, Ok, Err, Bool, true, false}
use Rattle.disk.specs.Disk.{Life, SyncGoes}
use Rattle.disk.specs.declared.error.Error.{Error}
use Rattle.page.specs.Page.{slot_bytes}
use Rattle.page.specs.declared.slot.Slot.{Slot}
use Rattle.writer_state.specs.declared.sync_state.SyncState.{SyncState}
use Rattle.writer_state.specs.declared.sync_state.SyncState.TheVariants.{Clean, Dirty, Pending}
use Rattle.paged.specs.Recovery.{CutsBack}
use Rattle.paged.specs.Truncate.{Then, WritesSlot}

-- a slot of a page is emptied: durably at once, or where something else may be unsynced by a sync
-- after it
abbrev pub Empties : (P page : ℕ) → Slot → (unsynced : Bool) → Life → Life
    → Result (Unit {0}) Error → Type 0
Empties P page s false old new answer = WritesSlot P page s (slot_bytes 0 0) true old new answer
Empties P page s true old new answer =
    Then (WritesSlot P page s (slot_bytes 0 0) false) SyncGoes old new answer

-- a slot of a page is emptied, if there is one
abbrev pub Mends : (P page : ℕ) → Option Slot → (unsynced : Bool) → Life → Life
    → Result (Unit {0}) Error → Type 0
Mends P page None unsynced old new answer = (answer ≡ Ok tt) × (new ≡ old)
Mends P page (Some s) unsynced old new answer = Empties P page s unsynced old new answer

-- whether a writer's blob may have something unsynced
abbrev pub is_unsynced : SyncState → Bool
is_unsynced Clean = false
is_unsynced Dirty = true
is_unsynced (Pending name) = true

-- the writer's sync state once the slot was emptied, if there is one
abbrev pub mended_state : Option Slot → SyncState → SyncState
mended_state None s = s
mended_state (Some slot) s = Clean

-- a blob is cut if it has more than `kept` bytes, and then the slot `bad` of a page is emptied, if
-- there is one
abbrev pub CutsAndMends : (P kept page : ℕ) → Option Slot → Life → Life → Result SyncState Error
    → Type 0
CutsAndMends P kept page bad old new (Ok s) =
    (cut : SyncState) × (mid : Life) × CutsBack kept old mid (Ok cut)
    × Mends P page bad (is_unsynced cut) mid new (Ok tt) × (s ≡ mended_state bad cut)
CutsAndMends P kept page bad old new (Err e) =
    CutsBack kept old new (Err e)
    ⊎ ((cut : SyncState) × (mid : Life) × CutsBack kept old mid (Ok cut)
    × Mends P page bad (is_unsynced cut) mid new (Err e))
