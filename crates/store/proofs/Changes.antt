-- Laws of changes, and of what a recovery brings back of them.
use Rattle.std.proofs.Common.{◌≡◌, ℕ, ◌<◌, List, [], ◌∷◌, ◌++◌, length, take, drop, refl, sym, ap, ap₂, subst, ◌∙◌, arith, true, false, Bool}
use Rattle.std.specs.Prelude.{Some, None, Result, Ok, Err, ◌==◌, if◌then◌else◌}
use Rattle.std.specs.Result.{IsErrAnd}
use Rattle.disk.specs.declared.error.Error.{Error}
use Rattle.disk.specs.declared.error.Error.TheVariants.{OutOfMemory}
use Rattle.store.specs.declared.store.OpenError.{OpenError}
use Rattle.store.specs.declared.store.OpenError.TheVariants.{Refused}
use Rattle.std.specs.Int.{w16, to_be_bytes, from_be_bytes}
use Rattle.std.proofs.lemmas.Bool.{ne_eqb}
use Rattle.std.proofs.lemmas.List.{take_at, drop_at, take_all, take-append-drop}
use Rattle.std.proofs.lemmas.Nat.{from_be_bytes-to_be_bytes_2}
use Rattle.disk.specs.Disk.{Life}
use Rattle.crash.specs.Kept.{Through}
use Rattle.crash.specs.Moments.{through_then}
use Rattle.journal.specs.Frame.{IsPrefix, records}
use Rattle.journal.specs.Journal.{CommitsAll, KeepsCommitted}
use Rattle.store.specs.Changes.{Bytes, ByteMap, after_changes, delete_record, given, has_delete_mark, key_of, mark_of, put_record, updated}
use Rattle.store.specs.Store.{AreCommitted, MapGoes}

-- one change more
pub after_changes-one : (map : ByteMap) (changes : List Bytes) (change : Bytes)
    → after_changes map (changes ++ change ∷ []) ≡ updated (after_changes map changes) (key_of change) (given change)
after_changes-one map [] change = refl
after_changes-one map (c ∷ changes) change = after_changes-one (updated map (key_of c) (given c)) changes change

-- ---- the record of a put

mark-put : (key value : Bytes) → length key < 65535 → mark_of (put_record key value) ≡ length key
mark-put key value short =
    ap (λ (l : List ℕ). from_be_bytes w16 l) (take_at (to_be_bytes w16 (length key)) (key ++ value) 2 refl)
    ∙ from_be_bytes-to_be_bytes_2 (length key) (omega (arith, short))

no_delete : (key value : Bytes) → length key < 65535 → has_delete_mark (put_record key value) ≡ false
no_delete key value short =
    ap (λ (n : ℕ). n == 65535) (mark-put key value short) ∙ ne_eqb (length key) 65535 (λ (is : length key ≡ 65535). omega (arith, is, short))

rest-put : (key value : Bytes) → drop 2 (put_record key value) ≡ key ++ value
rest-put key value = drop_at (to_be_bytes w16 (length key)) (key ++ value) 2 refl

-- a put has the key and the value that its record was made of
pub key_of-put : (key value : Bytes) → length key < 65535 → key_of (put_record key value) ≡ key
key_of-put key value short =
    ap (λ (b : Bool). if b then drop 2 (put_record key value) else take (mark_of (put_record key value)) (drop 2 (put_record key value))) (no_delete key value short)
    ∙ ap₂ (λ n (l : Bytes). take n l) (mark-put key value short) (rest-put key value) ∙ take_at key value (length key) refl

pub given-put : (key value : Bytes) → length key < 65535 → given (put_record key value) ≡ Some value
given-put key value short =
    ap (λ (b : Bool). if b then None else Some (drop (mark_of (put_record key value)) (drop 2 (put_record key value)))) (no_delete key value short)
    ∙ ap Some (ap₂ (λ n (l : Bytes). drop n l) (mark-put key value short) (rest-put key value) ∙ drop_at key value (length key) refl)

-- ---- the record of a delete

a_delete : (key : Bytes) → has_delete_mark (delete_record key) ≡ true
a_delete key =
    ap (λ (l : List ℕ). from_be_bytes w16 l == 65535) (take_at (to_be_bytes w16 65535) key 2 refl)
    ∙ ap (λ (n : ℕ). n == 65535) (from_be_bytes-to_be_bytes_2 65535 (omega arith))

-- a delete has the key that its record was made of, and gives it no value
pub key_of-delete : (key : Bytes) → key_of (delete_record key) ≡ key
key_of-delete key =
    ap (λ (b : Bool). if b then drop 2 (delete_record key) else take (mark_of (delete_record key)) (drop 2 (delete_record key))) (a_delete key)
    ∙ drop_at (to_be_bytes w16 65535) key 2 refl

pub given-delete : (key : Bytes) → given (delete_record key) ≡ None
given-delete key =
    ap (λ (b : Bool). if b then None else Some (drop (mark_of (delete_record key)) (drop 2 (delete_record key)))) (a_delete key)

-- ---- what a recovery brings back

-- what begins alike has it as its beginning
pub begins : (all back : List (List ℕ)) (n : ℕ) → n ≡ length all → take n back ≡ take n all → IsPrefix all back
begins all back n is same =
    (drop n back, sym (take-append-drop n back) ∙ ap (λ (l : List (List ℕ)). l ++ drop n back) (same ∙ take_all n all (omega (arith, is))))

-- what was committed of a journal is so at each moment, and so are the changes that it was
pub changes_kept : (sum own : List ℕ → ℕ) (P : ℕ) (old new : Life) → KeepsCommitted sum own P old new
    → (changes : List Bytes) → AreCommitted sum own P changes old.present → Through (AreCommitted sum own P changes) old new
changes_kept sum own P old new keeps changes committed =
    through_then (CommitsAll sum own P committed.content) (AreCommitted sum own P changes) old new
    (λ d all. record { content = committed.content; are = committed.are; all = all })
    (keeps committed.content (length (records own committed.content)) committed.all)

-- an error of the layer that ends the making of a map
pub map_refused : (found : List Bytes) (result : Result ByteMap OpenError) (e : Error) → IsErrAnd result (λ y. y ≡ Refused e) → e ≡ OutOfMemory → MapGoes found result
map_refused found (Ok map) e none memory = absurd none
map_refused found (Err y) e is memory = subst (λ x. MapGoes found (Err x)) (sym is) memory
