-- Appends of records: where each begins.
use Rattle.std.proofs.Common.{◌≡◌, ◌≢◌, ◌≤◌, ◌<◌, ◌+◌, ◌-◌, ◌*◌, ◌^◌, ℕ, List, [], ◌∷◌, length, refl, sym, ap, ◌∙◌, subst, arith}
use Rattle.std.specs.Prelude.{Option, Some, None, Ok, Err, Bool, true, false, nat_lt, nat_le, ◌&&◌, ◌==◌, take, drop}
use Rattle.std.specs.List.{sum}
use Rattle.std.proofs.lemmas.Bool.{eqb-true, leb-true, ltb-true, ltb-false}
use Rattle.std.proofs.lemmas.List.{drop-drop, length-drop, length-take-le}
use Rattle.std.specs.Int.{div_ceil}
use Rattle.std.specs.declared.vec.Vec.{Vec}
use Rattle.std.specs.declared.alloc.Global.{Global}
use Rattle.std.proofs.lemmas.Grind.{div_ceil_times}
use Rattle.disk.specs.Disk.{Disk, Life}
use Rattle.writer_state.specs.Sound.{IsSound}
use Rattle.disk.specs.Error.{number_of}
use Rattle.disk.specs.declared.error.Error.{Error}
use Rattle.disk.specs.declared.error.Error.TheVariants as error
use Rattle.cache.specs.CacheState.{CacheState}
use Rattle.writer_state.specs.WriterState.{WriterState}
use Rattle.paged.specs.Writer.{physical_blob_size}
use Rattle.paged.proofs.Flushes.{size_is_length}
use Rattle.session.specs.Run.{SessionState, HasSoundWriter}
use Rattle.session.specs.Calls.{DidAppend, RanCalls, RunGoes}
use Rattle.session.specs.declared.steps.Step.{Step}
use Rattle.session.specs.declared.steps.Step.TheVariants.{Append}
use Rattle.session.specs.declared.steps.Reply.{Reply}
use Rattle.session.specs.declared.steps.Reply.TheVariants.{At, Fault}
use Rattle.protocol.specs.Taking.{IsAppendReply}
use Rattle.protocol.specs.Together.{tells_records, lengths_in, lengths_size, record_bytes, record_lengths}

-- the end of an append that fits the blob is a number of 64 bits
append_end : (P full tip len at : ℕ) → 0 < P → at ≡ full * P + tip → physical_blob_size P full (tip + len) < 2 ^ 64 → at + len < 2 ^ 64
append_end P full tip len at some is fits =
    let d = div_ceil (tip + len) P in
    let holds : tip + len ≤ d * P = (div_ceil_times (tip + len) P some).0 in
    let grows : full * P + d * P ≤ (full + d) * (P + 12) = grind arith in
    omega (arith, is, fits, holds, grows)

-- a page has bytes
page_some : (sum : List ℕ → ℕ) (w : WriterState) (d : Disk) → IsSound sum w d → 0 < w.page_size
unfolding IsSound
page_some sum w d sound = sound.stands.some

-- what overflows isn't done
fits_or : (size : ℕ) (r : WriterState × ℕ) → (2 ^ 64 ≤ size → Ok r ≡ Err error.OffsetOverflow) → size < 2 ^ 64
fits_or size r overflow = by_order (nat_lt size (2 ^ 64)) refl
  where
    by_order : (b : Bool) → nat_lt size (2 ^ 64) ≡ b → size < 2 ^ 64
    by_order true is = omega (arith, ltb-true size (2 ^ 64) is)
    by_order false is = absurd (cc (overflow (ltb-false size (2 ^ 64) is)))

-- an error refuses
fault_refuses : (e : Error) → number_of e ≢ 0
fault_refuses error.ReadFailed is = absurd (omega (arith, is))
fault_refuses error.WriteFailed is = absurd (omega (arith, is))
fault_refuses error.ResizeFailed is = absurd (omega (arith, is))
fault_refuses error.SyncFailed is = absurd (omega (arith, is))
fault_refuses error.InvalidChecksum is = absurd (omega (arith, is))
fault_refuses error.BlobInsufficientLength is = absurd (omega (arith, is))
fault_refuses error.OffsetOverflow is = absurd (omega (arith, is))
fault_refuses error.OutOfMemory is = absurd (omega (arith, is))
fault_refuses error.IdsExhausted is = absurd (omega (arith, is))

-- the reply to an append
append_reply_of : (sum : List ℕ → ℕ) (w now : Option WriterState) (bytes : List ℕ) (cache after : CacheState) (old new : Life) (reply : Reply) (replies : List Reply) → HasSoundWriter sum w old.present → DidAppend sum w now bytes cache after old new reply
    → IsAppendReply (length bytes) (reply ∷ replies)
append_reply_of sum None now bytes cache after old new reply replies sound did =
    subst (λ (r : Reply). IsAppendReply (length bytes) (r ∷ replies)) (sym did.0.replied) (λ is. absurd (omega (arith, is)))
append_reply_of sum (Some w) now bytes cache after old new (At n) replies sound (v, is, ready, says) =
    let size = size_is_length sum w old sound in
    let some = page_some sum w old.present sound in
    append_end w.page_size w.full_pages (length w.tip) (length bytes) n some (says.goes.answers.at_end ∙ sym size) (fits_or (physical_blob_size w.page_size w.full_pages (length w.tip + length bytes)) (v, n) says.goes.overflow)
append_reply_of sum (Some w) now bytes cache after old new (Fault e) replies sound did = fault_refuses e
append_reply_of sum (Some w) now bytes cache after old new reply replies sound did = absurd did

pub append_reply : (sum : List ℕ → ℕ) (bytes : Vec ℕ Global) (more : List Step) (replies : List Reply) (was now : SessionState) (cache after : CacheState) (old new : Life) → RanCalls sum (Append bytes ∷ more) replies was now cache after old new
    → IsAppendReply (length bytes.items) replies
append_reply sum bytes more [] was now cache after old new ran = absurd ran
append_reply sum bytes more (reply ∷ replies) was now cache after old new (ready, mid, held, life, did, rest) =
    append_reply_of sum was.writer mid.writer bytes.items cache held old life reply replies ready.steps.writer did.0.0

-- ---- the bytes of records

-- the last of four conditions that all hold
and_last : (a b c d : Bool) → (a && b && c && d) ≡ true → d ≡ true
and_last true true true d is = is
and_last true true false d is = absurd (cc is)
and_last true false c d is = absurd (cc is)
and_last false b c d is = absurd (cc is)

and_first : (a b c d : Bool) → (a && b && c && d) ≡ true → (a ≡ true) × (b ≡ true)
and_first true true c d is = (refl, refl)
and_first true false c d is = absurd (cc is)
and_first false b c d is = absurd (cc is)

-- the bytes of records are as long as their lengths together
records_long : (fields : List ℕ) → tells_records fields ≡ true → sum (record_lengths fields) ≡ length (record_bytes fields)
records_long fields are = eqb-true (sum (record_lengths fields)) (length (record_bytes fields))
    (and_last (nat_le 4 (length fields)) (nat_le (lengths_size fields) (length fields - 4)) (nat_lt (2 * lengths_size fields + 10) (2 ^ 32)) (sum (record_lengths fields) == length (record_bytes fields)) are)

-- the lengths of records are all there
lengths_there : (fields : List ℕ) → tells_records fields ≡ true → length (take (lengths_size fields) (drop 4 fields)) ≡ lengths_size fields
lengths_there fields are =
    let both = and_first (nat_le 4 (length fields)) (nat_le (lengths_size fields) (length fields - 4)) (nat_lt (2 * lengths_size fields + 10) (2 ^ 32)) (sum (record_lengths fields) == length (record_bytes fields)) are in
    length-take-le (lengths_size fields) (drop 4 fields) (omega (arith, length-drop 4 fields, leb-true (lengths_size fields) (length fields - 4) both.1))

-- what is after the lengths are the bytes
pub bytes_after : (fields lengths tail : List ℕ) → tells_records fields ≡ true → lengths ≡ take (lengths_size fields) (drop 4 fields) → tail ≡ drop (4 + length lengths) fields → tail ≡ record_bytes fields
bytes_after fields lengths tail are is after =
    let size : length lengths ≡ lengths_size fields = ap length is ∙ lengths_there fields are in
    after ∙ ap (λ (n : ℕ). drop (4 + n) fields) size ∙ sym (drop-drop (lengths_size fields) 4 fields)

-- the first reply has the offset where the records begin
pub records_reply : (sum_of : List ℕ → ℕ) (fields lengths : List ℕ) (bytes : Vec ℕ Global) (more : List Step) (replies : List Reply) (was now : SessionState) (cache after : CacheState) (old new : Life) → tells_records fields ≡ true
    → lengths ≡ take (lengths_size fields) (drop 4 fields) → bytes.items ≡ record_bytes fields → RunGoes sum_of (Append bytes ∷ more) was now cache after old new [] replies → IsAppendReply (sum (lengths_in lengths)) replies
records_reply sum_of fields lengths bytes more replies was now cache after old new are is content runs =
    let size : length bytes.items ≡ sum (lengths_in lengths) = ap length content ∙ sym (records_long fields are) ∙ ap (λ (xs : List ℕ). sum (lengths_in xs)) (sym is) in
    subst (λ (rs : List Reply). IsAppendReply (sum (lengths_in lengths)) rs) (sym runs.always.adds)
    (subst (λ (n : ℕ). IsAppendReply n runs.always.added) size (append_reply sum_of bytes more runs.always.added was now cache after old new runs.calls))
