-- What a client is answered once a sync of the file has failed.
use Rattle.std.proofs.Common.{◌≡◌, true, false, [], ◌∷◌, refl}
use Rattle.disk.specs.declared.error.Error.TheVariants.{ReadFailed, WriteFailed, ResizeFailed, SyncFailed}
use Rattle.session.specs.declared.steps.Reply.TheVariants.{Closed, Done, Fault, NoSuch}
use Rattle.protocol.specs.Request.{length_bytes}
use Rattle.protocol.specs.Answer.{advice_byte, answer_bytes, told_error, told_status}

pub a_sync_beneath_a_write : told_error WriteFailed true ≡ SyncFailed
a_sync_beneath_a_write = refl

pub a_write_alone : told_error WriteFailed false ≡ WriteFailed
a_write_alone = refl

pub a_read_stays_one : told_error ReadFailed true ≡ ReadFailed
a_read_stays_one = refl

pub status_four : told_status (Fault WriteFailed) true ≡ 4
status_four = refl

pub status_four_after_it : told_status (Fault ResizeFailed) true ≡ 4
status_four_after_it = refl

-- a full disk isn't a failed sync
pub a_full_disk : told_status (Fault WriteFailed) false ≡ 2
a_full_disk = refl

pub nothing_failed : told_status Done true ≡ 0
nothing_failed = refl

pub replace_it : advice_byte (Fault WriteFailed) false true ≡ 3
replace_it = refl

-- the writer is gone since
pub replace_it_still : advice_byte Closed false true ≡ 3
replace_it_still = refl

pub whatever_is_asked : advice_byte NoSuch true true ≡ 3
whatever_is_asked = refl

-- to open the file anew is the advice of a write that failed, and of no sync
pub not_open_anew : advice_byte (Fault WriteFailed) false true ≡ 2 → ⊥
not_open_anew is = cc

pub open_anew : advice_byte (Fault WriteFailed) false false ≡ 2
open_anew = refl

-- version 1 has the status alone
pub the_first_version : answer_bytes (Fault WriteFailed) true ≡ 1 ∷ 0 ∷ 0 ∷ 0 ∷ 4 ∷ []
unfolding length_bytes
the_first_version = refl
