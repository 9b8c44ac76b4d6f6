-- Reads of a tail whose pages are full find each of them full.
use Rattle.std.proofs.Common.{◌≡◌, inl, inr, ℕ, zero, suc, ◌+◌, ◌<◌, ◌≤◌, List, [], ◌∷◌, refl, ap, subst, arith, Bool, true, false, cond}
use Rattle.std.specs.Prelude.{Result, Vec, IsErrOf}
use Rattle.std.specs.List.{Contains, filter, range_with_len}
use Rattle.std.specs.declared.alloc.Global.{Global}
use Rattle.disk.specs.Disk.{Disk, Life}
use Rattle.disk.specs.declared.error.Error.{Error}
use Rattle.disk.specs.declared.error.Error.TheVariants.{InvalidChecksum}
use Rattle.cache.specs.CacheState.{CacheState}
use Rattle.crash.proofs.Texts.{AreFull_page}
use Rattle.page.specs.Page.{value_len}
use Rattle.writer_state.specs.WriterState.{WriterState}
use Rattle.writer_state.specs.Sound.{IsSound}
use Rattle.writer_state.proofs.FlushLaws.{tip_reach}
use Rattle.paged_read.specs.Ranges.{page_at, ReadFault, Reads, ReadsUpTo, ReadsMany, range_up_to}
use Rattle.paged_read.specs.Tail.{Tail, HasPages, HasFullPages}
use Rattle.paged_read.proofs.PageReads.{first_or_later, has_first, has_later}

-- what passes a test is among what was tested
filtered : (p : ℕ → Bool) (xs : List ℕ) (x : ℕ) → Contains (filter p xs) x → Contains xs x
filtered p [] x has = has
filtered p (y ∷ ys) x has = by_test (p y) refl (filtered p ys x)
  where
    by_test : (t : Bool) → p y ≡ t → (Contains (filter p ys) x → Contains ys x)
        → Contains (y ∷ ys) x
    by_test true is rest =
        let here : Contains (y ∷ filter p ys) x =
        subst (λ (l : List ℕ). Contains l x) (ap (λ b. cond b (y ∷ filter p ys) (filter p ys)) is) has in
        elim (first_or_later y x (filter p ys) here) [
          | inl same ↦ subst (λ (z : ℕ). Contains (z ∷ ys) x) same (has_first x ys)
          | inr later ↦ has_later y x ys (rest later)
        ]
    by_test false is rest =
        has_later y x ys (rest (subst (λ (l : List ℕ). Contains l x)
        (ap (λ b. cond b (y ∷ filter p ys) (filter p ys)) is) has))

-- the numbers from one on are below the last
counted : (a n x : ℕ) → Contains (range_with_len a n) x → x < a + n
counted a zero x has = absurd (omega (arith, has.1))
counted a (suc n) x has = elim (first_or_later a x (range_with_len (a + 1) n) has) [
  | inl same ↦ omega (arith, same)
  | inr later ↦ omega (arith, counted (a + 1) n x later)
]

-- each page below a tail is full
abbrev pub EachFull : (List ℕ → ℕ) → Tail → Disk → Type 0
EachFull sum t d =
    (page : ℕ) → page < t.full_pages
    → value_len sum t.page_size (page_at t.page_size page d.readable) ≡ t.page_size

-- each page below a tail is full where the tail's pages are, and where the blob has a sound writer
-- with as many
pub full_of_tail : (sum : List ℕ → ℕ) (t : Tail) (d : Disk) → HasPages t d → HasFullPages sum t d
    → EachFull sum t d
full_of_tail sum t d there full page below =
    AreFull_page sum t.page_size t.full_pages page d.readable full there below

pub full_of_sound : (sum : List ℕ → ℕ) (t : Tail) (w : WriterState) (d : Disk) → IsSound sum w d
    → w.page_size ≡ t.page_size → t.full_pages ≤ w.full_pages → EachFull sum t d
unfolding IsSound
full_of_sound sum t w d sound size fewer page below =
    let reach = tip_reach sum w.page_size w.full_pages w.tip d.readable w.flushed sound.stands.tip_page in
    subst (λ (P : ℕ). value_len sum P (page_at P page d.readable) ≡ P) size
    (AreFull_page sum w.page_size w.full_pages page d.readable sound.full reach.0
    (omega (arith, below, fewer)))

module _ (sum : List ℕ → ℕ) (t : Tail) (cache : CacheState) (old new : Life)
    (full : EachFull sum t old.present) where
  -- so the read doesn't answer `InvalidChecksum` for a missing page
  pub no_fault : (ranges : List (ℕ × ℕ)) → ReadFault sum cache t ranges old new InvalidChecksum → ⊥
  no_fault ranges (page, among, part, none) =
      let below : page < t.full_pages =
      omega (arith, counted 0 t.full_pages page (filtered _ (range_with_len 0 t.full_pages) page among)) in
      part (full page below)

  pub full_reads : {A : Type 0} (range : ℕ × ℕ) (bytes : A → List ℕ) (result : Result A Error)
      → Reads sum t cache range bytes old new result → IsErrOf result InvalidChecksum → ⊥
  full_reads range bytes result reads is =
      no_fault (range ∷ []) (subst (λ r. Reads sum t cache range bytes old new r) is reads)

  pub full_reads_up_to : (offset len : ℕ) (result : Result (Vec ℕ Global × ℕ) Error)
      → ReadsUpTo sum t cache offset len old new result → IsErrOf result InvalidChecksum → ⊥
  full_reads_up_to offset len result reads is =
      no_fault (range_up_to t offset len ∷ [])
      (subst (λ r. ReadsUpTo sum t cache offset len old new r) is reads)

  pub full_reads_many : (ranges : List (ℕ × ℕ)) (bytes : List ℕ) (result : Result ℕ Error)
      → ReadsMany sum t cache ranges bytes old new result → IsErrOf result InvalidChecksum → ⊥
  full_reads_many ranges bytes result reads is =
      no_fault ranges (subst (λ r. ReadsMany sum t cache ranges bytes old new r) is reads).1
