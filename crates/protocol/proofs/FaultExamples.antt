-- Which error a session ends with whose writer is gone.
use Rattle.std.proofs.Common.{◌≡◌, true, false, [], ◌∷◌, refl}
use Rattle.std.specs.Prelude.{Some, None}
use Rattle.disk.specs.declared.error.Error.TheVariants.{ReadFailed, SyncFailed, OutOfMemory}
use Rattle.session.specs.declared.steps.Reply.TheVariants.{Done, Fault}
use Rattle.protocol.specs.Answer.{reply_error, fault_in}
use Rattle.protocol.specs.Serve.{later_fault}

pub a_reply_with_an_error : reply_error (Fault SyncFailed) ≡ Some SyncFailed
a_reply_with_an_error = refl

pub a_reply_without_one : reply_error Done ≡ None
a_reply_without_one = refl

pub the_only_reply : fault_in (Fault SyncFailed ∷ []) ≡ Some SyncFailed
the_only_reply = refl

pub the_first_of_two : fault_in (Fault ReadFailed ∷ Fault SyncFailed ∷ []) ≡ Some ReadFailed
the_first_of_two = refl

-- a read failed, and then a sync, which ended the writer: that is why it is gone
pub the_last_one : later_fault (Some ReadFailed) (Some SyncFailed) true ≡ Some SyncFailed
the_last_one = refl

-- what fails after that isn't why
pub not_one_after_it : later_fault (Some SyncFailed) (Some OutOfMemory) false ≡ Some SyncFailed
not_one_after_it = refl

pub a_step_that_is_done : later_fault (Some ReadFailed) None true ≡ Some ReadFailed
a_step_that_is_done = refl
