-- What is written for a script: its replies, and why it stops.
use Rattle.std.proofs.Common.{◌≡◌, ℕ, [], ◌∷◌, refl}
use Rattle.std.specs.Fmt.{digits}
use Rattle.std.specs.Prelude.{Vec, codes, true}
use Rattle.std.specs.declared.alloc.Global.{Global}
use Rattle.disk.specs.declared.error.Error.TheVariants.{SyncFailed}
use Rattle.disk.specs.declared.started_sync.StartedSync.TheVariants.{Named}
use Rattle.hex.specs.declared.error.FromHexError.TheVariants as hex
use Rattle.items.specs.declared.run.ItemReply.TheVariants as item
use Rattle.session.specs.declared.steps.Reply.TheVariants.{Answer, At, Bytes, Fault, Missed, Sealed}
use Rattle.scripts.specs.declared.stop.Stop.TheVariants as stop
use Rattle.scripts.specs.declared.word.ReadError.TheVariants.{OutOfMemory, Unreadable}
use Rattle.scripts.specs.Script.{hex_refused}
use Rattle.scripts.specs.Stop.{error_at, script_status_of, script_stop_text}
use Rattle.scripts.specs.Text.{item_reply_text, numbers_text, reply_text, spaced}

-- ---- replies

pub an_offset : reply_text (At 40) ≡ codes "at 40"
unfolding digits
an_offset = refl

pub an_answer : reply_text (Answer true) ≡ codes "yes"
an_answer = refl

pub its_bytes : (bytes : Vec ℕ Global) → bytes.items ≡ 97 ∷ 98 ∷ []
    → reply_text (Bytes bytes) ≡ codes "bytes 6162"
its_bytes bytes are = rw are refl

pub no_bytes : (bytes : Vec ℕ Global) → bytes.items ≡ [] → reply_text (Bytes bytes) ≡ codes "bytes -"
no_bytes bytes are = rw are refl

pub a_number : spaced 10 ≡ codes " 10"
unfolding digits
a_number = refl

pub two_numbers : numbers_text (0 ∷ 10 ∷ []) ≡ codes " 0 10"
unfolding digits
two_numbers = refl

pub no_numbers : numbers_text [] ≡ codes " -"
no_numbers = refl

pub one_is_missed : (numbers : Vec ℕ Global) → numbers.items ≡ 1 ∷ []
    → reply_text (Missed numbers) ≡ codes "missed 1"
unfolding digits
one_is_missed numbers are = rw are refl

pub a_fault : reply_text (Fault SyncFailed) ≡ codes "fault E4 SyncFailed"
unfolding digits
a_fault = refl

pub it_is_sealed : reply_text (Sealed 0 (Named 3)) ≡ codes "sealed 0 named 3"
unfolding digits
it_is_sealed = refl

pub an_item : item_reply_text (item.Item 40) ≡ codes "item 40"
unfolding digits
an_item = refl

pub a_fault_of_items : item_reply_text (item.Fault SyncFailed) ≡ codes "fault E4 SyncFailed"
unfolding digits
a_fault_of_items = refl

-- ---- stops

pub a_bad_line : error_at 3 Unreadable ≡ stop.Unreadable 3
a_bad_line = refl

-- the line may be right then
pub no_memory : error_at 3 OutOfMemory ≡ stop.Failed
no_memory = refl

pub its_status : script_status_of (stop.Unreadable 3) ≡ 2
its_status = refl

pub its_text : script_stop_text (stop.Unreadable 3) ≡ codes "unreadable line 3"
unfolding digits
its_text = refl

pub status_of_a_failure : script_status_of stop.Failed ≡ 1
status_of_a_failure = refl

-- an odd number of digits
pub an_odd_word : hex_refused hex.OddLength ≡ Unreadable
an_odd_word = refl

pub no_memory_for_the_bytes : hex_refused hex.OutOfMemory ≡ OutOfMemory
no_memory_for_the_bytes = refl
