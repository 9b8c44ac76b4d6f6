-- How the bytes of a write go out: in runs, each by one call.
use Rattle.std.specs.Prelude.{◌≡◌, ◌+◌, ◌%◌, ◌^◌, ℕ, List, [], ◌∷◌, ◌++◌, false}
use Rattle.std.specs.Prelude.{Result, Ok, Err, length}
use Rattle.std.specs.List.{concat, FoldsTo}
use Rattle.disk.specs.declared.action.Action.{Action}
use Rattle.disk.specs.declared.action.Action.TheVariants as actions
use Rattle.disk.specs.declared.action.Event.{Event}
use Rattle.file.specs.Asked.{all_done, Answers, FailsIn}

-- writes of these runs, the first at an offset, and each where the one before it ends
abbrev pub writes_of : (offset : ℕ) (runs : List (List ℕ)) → List Action
writes_of offset [] = []
writes_of offset (run ∷ runs) =
    actions.Write (offset % 2 ^ 64) run false ∷ writes_of (offset + length run) runs

-- bytes went out in runs, which joined are the bytes: each run was put, in that order; or one
-- failed, each run before it was put, and none after it was tried
abbrev pub WritesAll : {S T E : Type 0} → (S → Event → S → Type 0) → (offset : ℕ)
    → (bytes : List ℕ) → (old new : S) → Result T E → Type 0
WritesAll goes offset bytes old new result =
    (runs : List (List ℕ)) × (concat runs ≡ bytes)
    × (events : List Event) × Answers (writes_of offset runs) [] events result
    × FoldsTo goes old events new

-- bytes went out in runs, except for the last of them, which are kept back; `next` is the offset
-- where the kept bytes are to go
abbrev pub HasPut : {S : Type 0} → (S → Event → S → Type 0) → (offset : ℕ) → (bytes kept : List ℕ)
    → (next : ℕ) → (old new : S) → Type 0
HasPut goes offset bytes kept next old new =
    (runs : List (List ℕ)) × (concat runs ++ kept ≡ bytes)
    × FoldsTo goes old (all_done (writes_of offset runs)) new
    × (next ≡ (offset + length (concat runs)) % 2 ^ 64)

-- puts of runs, by their answer: the offset where the bytes that are kept back are to go, or the
-- error of a run that failed
abbrev pub WritesUpTo : {S E : Type 0} → (S → Event → S → Type 0) → (offset : ℕ)
    → (bytes kept : List ℕ) → (old new : S) → Result ℕ E → Type 0
WritesUpTo goes offset bytes kept old new (Ok next) = HasPut goes offset bytes kept next old new
WritesUpTo goes offset bytes kept old new (Err error) =
    (runs : List (List ℕ)) × (concat runs ≡ bytes)
    × (events : List Event) × FailsIn (writes_of offset runs) events × FoldsTo goes old events new
