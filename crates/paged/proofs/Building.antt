-- Pages that are built one by one.
use Rattle.std.proofs.Common.{◌≡◌, ℕ, suc, zero, ◌+◌, ◌*◌, List, ◌++◌, take, drop, refl, sym, ap, ◌∙◌, arith, append_assoc, append-nil}
use Rattle.std.specs.Prelude.{Option, None}
use Rattle.std.proofs.Math.Nat.{suc-mul, zero-mul}
use Rattle.std.proofs.lemmas.List.{take-take, drop-take, drop-drop}
use Rattle.page.specs.declared.slot.ActiveChecksum.{ActiveChecksum}
use Rattle.crash.specs.Built.{built, page_of, durable_after}

-- only the bytes of the pages count
pub built-take : (sum : List ℕ → ℕ) (P : ℕ) (durable : Option ActiveChecksum) (k : ℕ) (bytes : List ℕ) → built sum P durable k (take (k * P) bytes) ≡ built sum P durable k bytes
built-take sum P durable zero bytes = refl
built-take sum P durable (suc k) bytes =
    let size : suc k * P ≡ P + k * P = omega (arith, suc-mul k P) in
    let first : take P (take (suc k * P) bytes) ≡ take P bytes = ap (λ n. take P (take n bytes)) size ∙ take-take P (P + k * P) bytes (omega arith) in
    let others : drop P (take (suc k * P) bytes) ≡ take (k * P) (drop P bytes) = ap (λ n. drop P (take n bytes)) size ∙ drop-take P (k * P) bytes in
    ap (λ front. page_of sum P durable front ++ built sum P None k (drop P (take (suc k * P) bytes))) first
    ∙ ap (λ back. page_of sum P durable (take P bytes) ++ built sum P None k back) others
    ∙ ap (λ back. page_of sum P durable (take P bytes) ++ back) (built-take sum P None k (drop P bytes))

-- with no durable slot no later page has one
durable_after-none : (k : ℕ) → durable_after None k ≡ None
durable_after-none zero = refl
durable_after-none (suc k) = refl

-- one page more, at the end
pub built-suc : (sum : List ℕ → ℕ) (P : ℕ) (durable : Option ActiveChecksum) (k : ℕ) (bytes : List ℕ)
    → built sum P durable (suc k) bytes ≡ built sum P durable k bytes ++ page_of sum P (durable_after durable k) (take P (drop (k * P) bytes))
built-suc sum P durable zero bytes = append-nil _ ∙ ap (λ n. page_of sum P durable (take P (drop n bytes))) (sym (zero-mul P))
built-suc sum P durable (suc k) bytes =
    let size : P + k * P ≡ suc k * P = omega (arith, suc-mul k P) in
    ap (λ back. page_of sum P durable (take P bytes) ++ back)
    (built-suc sum P None k (drop P bytes)
    ∙ ap (λ slot. built sum P None k (drop P bytes) ++ page_of sum P slot (take P (drop (k * P) (drop P bytes)))) (durable_after-none k)
    ∙ ap (λ rest. built sum P None k (drop P bytes) ++ page_of sum P None (take P rest)) (drop-drop (k * P) P bytes ∙ ap (λ n. drop n bytes) size))
    ∙ sym (append_assoc (page_of sum P durable (take P bytes)) (built sum P None k (drop P bytes)) (page_of sum P None (take P (drop (suc k * P) bytes))))
