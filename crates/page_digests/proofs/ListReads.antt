-- Reads of a list in its file.
use Rattle.std.proofs.Common.{◌≡◌, ◌<◌, ◌≤◌, ◌*◌, ◌+◌, ◌-◌, ◌∙◌, ℕ, List, length, take, drop, ap, refl, sym, subst, inl, inr, arith}
use Rattle.std.specs.Prelude.{Ok, Err}
use Rattle.page_digests.specs.declared.error.Error.{Error}
use Rattle.page_digests.specs.declared.error.Error.TheVariants.{Damaged, OutOfMemory, System}
use Rattle.page_digests.specs.declared.seal.Seal.{Seal}
use Rattle.page_digests.specs.Lists.{DigestGoes, IsListOf, IsSameList, list_over}
use Rattle.page_digests.specs.PagedBytes.{BytesGoes, BytesState, IsKnown, IsPageRefused, IsPageWrong, IsSameBytes}
use Rattle.page_digests.specs.Pages.{digest_at, list_len, list_of, content_page, page_len, range_at, top_of}
use Rattle.page_digests.specs.Reads.{DigestFails, IsReadOn, IsTouched, ListPageIsRefused, ListPageIsWrong, pages_touched}
use Rattle.page_digests.specs.Seals.{IsVerified}
use Rattle.page_digests.specs.Sources.{EndsWithRead, SourceRead, gave, refused}
use Rattle.page_digests.proofs.Paging.{page_below}
use Rattle.page_digests.proofs.Twins.{length-list_of}
use Rattle.page_digests.proofs.Verified.{digest_in_top, digest_listed, part_wrong, top_verified}

-- the list has the digest of each page of the content
pub digest_within : (P len i : ℕ) → 0 < P → i * P < len → i * 32 + 32 ≤ list_len P len
digest_within P len i positive within =
    let below = page_below P len i positive within in omega (arith, below)

-- what was read of a list
module _ (d : List ℕ → List ℕ) (sized : (b : List ℕ) → length (d b) ≡ 32) (seal : Seal) (s : BytesState) (of_list : IsListOf d seal s) where
  its_top : IsVerified d s.page_size seal (top_of d s.page_size) s.top
  its_top = top_verified d sized s.page_size seal s.top of_list.bytes of_list.root (of_list.top ∙ ap (list_len s.page_size) of_list.len)

  -- what is known of bytes with this top is verified of the content's list
  known_verified : (of : List ℕ → List ℕ) (bytes : List ℕ) → IsKnown d s.page_size s.len s.top of bytes → IsVerified d s.page_size seal (λ content. of (list_of d s.page_size content)) bytes
  known_verified of bytes known content its = elim (its_top content its) [
    | inr twin ↦ inr twin
    | inl same ↦
        let long : length (list_of d s.page_size content) ≡ s.len = length-list_of d sized s.page_size content ∙ ap (list_len s.page_size) (sym its.len) ∙ sym of_list.len in
        elim (known (list_of d s.page_size content) long (sym same)) [
          | inl e ↦ inl e
          | inr twin ↦ inr (inr (inl twin))
        ]
  ]

  -- a page of the list that is wrong
  list_page_wrong : (j : ℕ) (old new : List SourceRead) → j * s.page_size < list_len s.page_size seal.len → IsPageWrong d s j old new → ListPageIsWrong d s.page_size seal j old new
  list_page_wrong j old new within (bytes, last, long, differ) =
      let place : s.start + j * s.page_size ≡ j * s.page_size = let e = of_list.start in omega arith in (
        bytes,
        subst (λ (offset : ℕ). EndsWithRead old new (gave offset bytes)) place last,
        long ∙ ap (λ (n : ℕ). page_len s.page_size n j) of_list.len,
        part_wrong d s.page_size seal (λ content. content_page s.page_size j (list_of d s.page_size content)) (digest_at j s.top) bytes (digest_in_top d sized s.page_size seal s.top j of_list.positive within its_top) differ,
      )

  list_page_refused : (j : ℕ) (old new : List SourceRead) → IsPageRefused s j old new → ListPageIsRefused s.page_size seal j old new
  list_page_refused j old new last =
      let place : s.start + j * s.page_size ≡ j * s.page_size = let e = of_list.start in omega arith in
      subst (λ (n : ℕ). EndsWithRead old new (refused (j * s.page_size) (page_len s.page_size n j))) of_list.len
      (subst (λ (offset : ℕ). EndsWithRead old new (refused offset (page_len s.page_size s.len j))) place last)

  same_list : (t : BytesState) → IsSameBytes s t → IsSameList (list_over seal s) (list_over seal t)
  same_list t same = record { seal = refl; page_size = same.page_size; top = same.top; reads = same.reads }

  -- a digest is had
  pub digest_read : (i : ℕ) (t : BytesState) (before digest : List ℕ) → length before ≡ 32 → i * s.page_size < seal.len → BytesGoes d (i * 32) s t before digest (Ok tt)
      → DigestGoes d i (list_over seal s) (list_over seal t) (Ok digest)
  digest_read i t before digest long within goes = record {
    same = same_list t goes.same;
    reads_on = λ from count base begin first.
        subst (λ (n : ℕ). (length t.reads ≤ base + pages_touched s.page_size from (count + n)) × IsReadOn s.page_size from (count + n) base (length t.reads) t.cached) long (goes.reads_on from count base begin first);
    answers = λ content its. elim (known_verified (range_at (i * 32) (length digest)) digest goes.answers content its) [
      | inr twin ↦ inr twin
      | inl same ↦
          let span : i * 32 + length digest - i * 32 ≡ 32 = let e = goes.len in omega arith in
          let here : i * s.page_size < length content = subst (λ (n : ℕ). i * s.page_size < n) its.len within in
          inl (same ∙ ap (λ (n : ℕ). take n (drop (i * 32) (list_of d s.page_size content))) span ∙ digest_listed d sized s.page_size i content of_list.positive here)
    ];
  }

  -- a page of the list with a byte of it can't be had
  pub digest_lost : (i : ℕ) (t : BytesState) (before digest : List ℕ) (e : Error) → length before ≡ 32 → i * s.page_size < seal.len → BytesGoes d (i * 32) s t before digest (Err e)
      → DigestGoes d i (list_over seal s) (list_over seal t) (Err e)
  digest_lost i t before digest e long within goes = record {
    same = same_list t goes.same;
    reads_on = λ from count base begin first.
        subst (λ (n : ℕ). (length t.reads ≤ base + pages_touched s.page_size from (count + n)) × Unit {0}) long (goes.reads_on from count base begin first);
    answers = by_error e goes;
  }
    where
      there : i * 32 + 32 ≤ list_len s.page_size seal.len
      there = digest_within s.page_size seal.len i of_list.positive within

      size : length digest ≡ 32
      size = goes.len ∙ long

      by_error : (e : Error) → BytesGoes d (i * 32) s t before digest (Err e) → DigestFails d s.page_size seal i s.reads t.reads e
      by_error Damaged goes =
          let touched : IsTouched s.page_size (i * 32) 32 goes.answers.0 = subst (λ (n : ℕ). IsTouched s.page_size (i * 32) n goes.answers.0) size goes.answers.1 in
          (goes.answers.0, touched, list_page_wrong goes.answers.0 s.reads t.reads (omega (arith, there, touched.0)) goes.answers.2)
      by_error (System x) goes =
          (goes.answers.0, subst (λ (n : ℕ). IsTouched s.page_size (i * 32) n goes.answers.0) size goes.answers.1, list_page_refused goes.answers.0 s.reads t.reads goes.answers.2)
      by_error OutOfMemory goes = tt
