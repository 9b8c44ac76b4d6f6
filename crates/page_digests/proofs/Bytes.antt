-- Parts of bytes are bytes.
use Rattle.std.proofs.Common.{◌*◌, ◌++◌, ◌∷◌, [], ℕ, zero, suc, List, take, drop, lit<}
use Rattle.page_digests.specs.Pages.{content_page}
use Rattle.page_digests.specs.Seals.{EachIsByte}

pub bytes_taken : (n : ℕ) (l : List ℕ) → EachIsByte l → EachIsByte (take n l)
bytes_taken zero l small i = lit< tt
bytes_taken (suc n) [] small i = small i
bytes_taken (suc n) (x ∷ xs) small zero = small zero
bytes_taken (suc n) (x ∷ xs) small (suc i) = bytes_taken n xs (λ k. small (suc k)) i

pub bytes_dropped : (n : ℕ) (l : List ℕ) → EachIsByte l → EachIsByte (drop n l)
bytes_dropped zero l small i = small i
bytes_dropped (suc n) [] small i = small i
bytes_dropped (suc n) (x ∷ xs) small i = bytes_dropped n xs (λ k. small (suc k)) i

pub bytes_joined : (l more : List ℕ) → EachIsByte l → EachIsByte more → EachIsByte (l ++ more)
bytes_joined [] more small also i = also i
bytes_joined (x ∷ xs) more small also zero = small zero
bytes_joined (x ∷ xs) more small also (suc i) = bytes_joined xs more (λ k. small (suc k)) also i

-- a page of bytes
pub page_bytes : (P i : ℕ) (bytes : List ℕ) → EachIsByte bytes → EachIsByte (content_page P i bytes)
page_bytes P i bytes small = bytes_taken P (drop (i * P) bytes) (bytes_dropped (i * P) bytes small)
