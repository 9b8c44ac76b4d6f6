-- Logs that go on, and what failed in them.
use Rattle.std.proofs.Common.{◌≡◌, ◌+◌, ◌≤◌, List, [], ◌∷◌, ◌++◌, length, append_assoc, append-nil, length-append, refl, sym, ap, ◌∙◌, inl, inr, Bool, true, arith}
use Rattle.disk.specs.Disk.{Disk, Entry, Request, fault_of, SomeFailed, LogGrows, HasFailed}
use Rattle.disk.specs.declared.error.Error.{Error}

-- a log with the same entries keeps the entries
pub grows_same : (a b : Disk) → b.log ≡ a.log → LogGrows a b
grows_same a b same = ([], same ∙ sym (append-nil a.log))

-- a log with one entry more keeps the entries
pub grows_once : (request : Request) (failed : Bool) (a b : Disk)
    → b.log ≡ a.log ++ record { request = request; failed = failed } ∷ [] → LogGrows a b
grows_once request failed a b is = (record { request = request; failed = failed } ∷ [], is)

-- a log that grows in each of two calls grows in both together
pub grows_joins : (a b c : Disk) → LogGrows a b → LogGrows b c → LogGrows a c
grows_joins a b c (first, one) (second, two) =
    (first ++ second, two ∙ ap (λ l. l ++ second) one ∙ append_assoc a.log first second)

-- what failed in the later of two logs, or in the earlier one, failed in both joined
some_after : (e : Error) (xs ys : List Entry) → SomeFailed e ys → SomeFailed e (xs ++ ys)
some_after e [] ys some = some
some_after e (x ∷ xs) ys some = inr (some_after e xs ys some)

-- one call that failed
pub failed_once : (request : Request) (a b : Disk)
    → b.log ≡ a.log ++ record { request = request; failed = true } ∷ [] → HasFailed (fault_of request) a b
failed_once request a b is = (record { request = request; failed = true } ∷ [], is, inl (refl, refl))

-- what failed in a later part of a call failed in the call
pub failed_later : (e : Error) (a b c : Disk) → LogGrows a b → HasFailed e b c → HasFailed e a c
failed_later e a b c (first, one) (second, two, some) =
    (first ++ second, two ∙ ap (λ l. l ++ second) one ∙ append_assoc a.log first second, some_after e first second some)

-- what failed in an earlier part of a call failed in the call
some_before : (e : Error) (xs ys : List Entry) → SomeFailed e xs → SomeFailed e (xs ++ ys)
some_before e [] ys some = absurd some
some_before e (x ∷ xs) ys (inl failed) = inl failed
some_before e (x ∷ xs) ys (inr some) = inr (some_before e xs ys some)

pub failed_sooner : (e : Error) (a b c : Disk) → HasFailed e a b → LogGrows b c → HasFailed e a c
failed_sooner e a b c (first, one, some) (second, two) =
    (first ++ second, two ∙ ap (λ l. l ++ second) one ∙ append_assoc a.log first second, some_before e first second some)

-- one entry more is at most one call more
pub one_more : (log new : List Entry) (entry : Entry) → new ≡ log ++ entry ∷ [] → length new ≤ length log + 1
one_more log new entry is = omega (arith, length-append log (entry ∷ []), ap length is)
