-- What a host's record shows of a failed sync, at a few calls.
use Rattle.std.proofs.Common.{◌≡◌, [], ◌∷◌, true, false, refl}
use Rattle.disk.specs.declared.action.Action.{Action}
use Rattle.disk.specs.declared.action.Action.TheVariants as actions
use Rattle.std.specs.Prelude.{Some, None}
use Rattle.file.specs.Asked.{ends_in_failed_sync, event, is_sync}
use Rattle.file.specs.declared.mirror.Failure.{Failure}
use Rattle.file.specs.Mirror.{tells_failed_sync}

-- a write of one byte
abbrev write : Action
write = actions.Write 0 (97 ∷ []) false

pub a_sync : is_sync actions.Sync ≡ true
a_sync = refl

-- the start of a sync asks a host for nothing, and is none of its calls
pub a_start_is_none : is_sync actions.StartSync ≡ false
a_start_is_none = refl

-- a write that was to be durable: it was written, and the sync failed
pub the_sync_failed : ends_in_failed_sync (event write false ∷ event actions.Sync true ∷ []) ≡ true
the_sync_failed = refl

-- the same write: it failed, and no sync was asked for
pub the_write_failed : ends_in_failed_sync (event actions.Sync false ∷ event write true ∷ []) ≡ false
the_write_failed = refl

pub all_were_done : ends_in_failed_sync (event write false ∷ event actions.Sync false ∷ []) ≡ false
all_were_done = refl

pub nothing_was_asked : ends_in_failed_sync [] ≡ false
nothing_was_asked = refl

pub none_is_told : tells_failed_sync None ≡ false
none_is_told = refl

pub one_is_told : (failure : Failure) → failure.is_sync ≡ true → tells_failed_sync (Some failure) ≡ true
one_is_told failure is = is

-- a failure of another call isn't reported as that of a sync
pub another_is_not : (failure : Failure) → failure.is_sync ≡ false → tells_failed_sync (Some failure) ≡ true → ⊥
another_is_not failure is told = cc
