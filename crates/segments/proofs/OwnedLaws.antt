-- What is known of a journal that is there.
use Rattle.std.specs.Prelude.{◌≡◌, ℕ, List, Some, Option, IfSome}
use Rattle.std.proofs.Common.{subst}
use Rattle.writer_state.specs.WriterState.{WriterState}
use Rattle.segments.specs.Owned.{IsOwned, IsOwnedJournal, OwnedState}

pub owned_of : (sum own : List ℕ → ℕ) (s : OwnedState) (w : WriterState) → IsOwned sum own s
    → s.journal ≡ Some w → IsOwnedJournal sum own s w
owned_of sum own s w opened is =
    subst (λ (j : Option WriterState). IfSome j (λ w. IsOwnedJournal sum own s w)) is opened.1
