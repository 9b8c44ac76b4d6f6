-- A walk through a journal's content.
use Rattle.std.proofs.Common.{◌≡◌, ℕ, ◌+◌, ◌++◌, List, take, drop, sym, ap, ap₂, ◌∙◌, arith}
use Rattle.std.proofs.lemmas.List.{drop-take, drop-drop}
use Rattle.std.proofs.Math.Seq.{take-add}
use Rattle.journal.specs.Frame.{record_len, frame_len, record_of}
use Rattle.journal.proofs.Frames.{record_len-take, record_of-take}

-- the frame at an offset, by its length and what stands after that
pub record After (own : List ℕ → ℕ) (content : List ℕ) (offset len : ℕ) (rest : List ℕ) (frame : List ℕ) : Type 0 where
  pub says : record_len frame ≡ len
  pub is : drop 2 frame ≡ rest
  pub held : record_of own frame ≡ record_of own (drop offset content)
  pub long : frame_len (drop offset content) ≡ len + 7

pub said : (content head : List ℕ) (offset len : ℕ) → head ≡ take 2 (drop offset content) → len ≡ record_len head → len ≡ record_len (drop offset content)
said content head offset len is says = says ∙ ap (λ (l : List ℕ). record_len l) is ∙ record_len-take 2 (drop offset content) (omega arith)

pub after : (own : List ℕ → ℕ) (content : List ℕ) (offset len : ℕ) (rest : List ℕ) → len ≡ record_len (drop offset content) → rest ≡ take (len + 5) (drop (offset + 2) content)
    → After own content offset len rest (take (len + 7) (drop offset content))
after own content offset len rest says is =
    let from = drop offset content in
    let long : frame_len from ≡ len + 7 = ap (λ n. n + 7) (sym says) in
    let e : len + 7 ≡ 2 + (len + 5) = omega arith in
    record {
      says = record_len-take (len + 7) from (omega arith) ∙ sym says;
      is = ap (λ n. drop 2 (take n from)) e ∙ drop-take 2 (len + 5) from ∙ ap (λ (l : List ℕ). take (len + 5) l) (drop-drop 2 offset content) ∙ sym is;
      held = record_of-take own (len + 7) from (omega (arith, long));
      long = long;
    }

-- a record's bytes, and those after them
pub parted : (content : List ℕ) (offset n : ℕ) (bytes more : List ℕ) → bytes ≡ take n (drop offset content) → more ≡ take 5 (drop (offset + n) content) → bytes ++ more ≡ take (n + 5) (drop offset content)
parted content offset n bytes more first second =
    ap₂ (λ (a b : List ℕ). a ++ b) first second ∙ ap (λ (l : List ℕ). take n (drop offset content) ++ take 5 l) (sym (drop-drop n offset content)) ∙ sym (take-add n 5 (drop offset content))

-- what is left at hand once so many bytes were taken, and those bytes
pub left : (content hand now : List ℕ) (offset count : ℕ) → hand ≡ drop offset content → now ≡ drop count hand → now ≡ drop (offset + count) content
left content hand now offset count is taken = taken ∙ ap (λ (l : List ℕ). drop count l) is ∙ drop-drop count offset content

pub took : (content hand bytes : List ℕ) (offset count : ℕ) → hand ≡ drop offset content → bytes ≡ take count hand → bytes ≡ take count (drop offset content)
took content hand bytes offset count is taken = taken ∙ ap (λ (l : List ℕ). take count l) is
