-- An append to the log, by its steps.
use Rattle.std.specs.Prelude.{◌≡◌, ◌<◌, ◌≤◌, ℕ, List, [], ◌∷◌, Some, None, Option, Result, Ok, Err}
use Rattle.std.proofs.Common.{ap, ◌∙◌, refl, subst, inl, inr}
use Rattle.writer_state.specs.WriterState.{WriterState}
use Rattle.segments.specs.declared.error.Error.{Error}
use Rattle.segments.specs.declared.error.Error.TheVariants as errors
use Rattle.segments.specs.declared.place.Place.{Place}
use Rattle.segments.specs.Owned.{HasJournal, OwnedAppendGoes, OwnedState, owned_size}
use Rattle.segments.specs.Log.{AppendHereGoes, IsRotated, IsSameButCurrent, LogAppendGoes, LogState, RotateGoes}
use Rattle.segments.specs.Crash.{AppendSurvives, CurrentSurvives, RotationSurvives}

-- an append that failed leaves no journal
none_left : (sum own : List ℕ → ℕ) (bytes : List ℕ) (s t : OwnedState) (e : Error) → OwnedAppendGoes sum own bytes s t (Err e) → t.journal ≡ None
none_left sum own bytes s t (errors.Layer e) is = none_of _ s.journal t.journal is where
  none_of : (P : WriterState → Type 0) (j k : Option WriterState) → HasJournal j (λ w. (k ≡ None) × P w) → k ≡ None
  none_of P None k is = absurd is
  none_of P (Some w) k is = is.0
none_left sum own bytes s t errors.Closed is = ap (λ (o : OwnedState). o.journal) is.1 ∙ is.0
none_left sum own bytes s t (errors.System e) is = absurd is
none_left sum own bytes s t (errors.Unsynced e) is = absurd is
none_left sum own bytes s t (errors.Damaged n) is = absurd is
none_left sum own bytes s t (errors.Unlisted n) is = absurd is
none_left sum own bytes s t (errors.Missing n) is = absurd is
none_left sum own bytes s t (errors.Short n) is = absurd is
none_left sum own bytes s t (errors.AnotherDigest n) is = absurd is
none_left sum own bytes s t (errors.Outdated n) is = absurd is
none_left sum own bytes s t errors.Manifest is = absurd is
none_left sum own bytes s t (errors.NoSegment n) is = absurd is
none_left sum own bytes s t errors.NumbersExhausted is = absurd is
none_left sum own bytes s t (errors.NoFrame its byte) is = absurd is
none_left sum own bytes s t (errors.Unmarked n) is = absurd is

-- the open segment is so long that it is closed, as a log is put together
pub is_long : (view s : LogState) → view ≡ s → view.most ≤ owned_size view.current.journal → s.most ≤ owned_size s.current.journal
is_long view s is long = subst (λ (s : LogState). s.most ≤ owned_size s.current.journal) is long

-- to the open segment
pub here_goes : (sum own : List ℕ → ℕ) (d : List ℕ → List ℕ) (bytes : List ℕ) (s t : LogState) (result : Result Place Error) → owned_size s.current.journal < s.most
    → AppendHereGoes sum own bytes s t result → IsSameButCurrent s t → LogAppendGoes sum own d bytes s t result
here_goes sum own d bytes s t (Ok p) short is rest = record { mid = s; before = inl (refl, short); here = is; rest = rest }
here_goes sum own d bytes s t (Err e) short is rest = (none_left sum own bytes s.current t.current e is, inl (short, rest, is))

-- to the next one, after a rotation
pub after_goes : (sum own : List ℕ → ℕ) (d : List ℕ → List ℕ) (bytes : List ℕ) (s m t : LogState) (result : Result Place Error) → s.most ≤ owned_size s.current.journal
    → IsRotated sum own d s m → AppendHereGoes sum own bytes m t result → IsSameButCurrent m t → LogAppendGoes sum own d bytes s t result
after_goes sum own d bytes s m t (Ok p) long turned is rest = record { mid = m; before = inr (turned, long); here = is; rest = rest }
after_goes sum own d bytes s m t (Err e) long turned is rest =
    (none_left sum own bytes m.current t.current e is, inr (long, inr (record { mid = m; turned = turned; rest = rest; refused = is })))

-- the rotation failed
pub turn_goes : (sum own : List ℕ → ℕ) (d : List ℕ → List ℕ) (bytes : List ℕ) (s t : LogState) (e : Error) → s.most ≤ owned_size s.current.journal → RotateGoes sum own d s t (Err e)
    → LogAppendGoes sum own d bytes s t (Err e)
turn_goes sum own d bytes s t e long is = (is.0, inr (long, inl is))

pub after_survives : (sum own : List ℕ → ℕ) (d : List ℕ → List ℕ) (bytes : List ℕ) (s m t : LogState) (result : Result Place Error) → IsRotated sum own d s m → AppendHereGoes sum own bytes m t result → IsSameButCurrent m t
    → RotationSurvives sum own d s m → CurrentSurvives sum own (bytes ∷ []) m t → AppendSurvives sum own d bytes s t result
after_survives sum own d bytes s m t result turned here rest turns appends = inr (inr (record { mid = m; turned = turned; here = here; rest = rest; turns = turns; appends = appends }))
