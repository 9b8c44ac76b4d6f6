-- The closed segments that a log keeps open have pages of its size.
use Rattle.std.specs.Prelude.{◌≡◌, ◌<◌, ◌≤◌, ◌+◌, ◌-◌, ◌++◌, ◌∷◌, [], ℕ, zero, suc, List, length, drop, take, nat_le, slice_index_or, Option, true, false}
use Rattle.std.proofs.Common.{refl, sym, ◌∙◌, ap, subst, arith, cond}
use Rattle.std.proofs.lemmas.List.{append-nil, append_assoc, drop_all, drop_more, length-append, length-drop, take-append-drop, take_all}
use Rattle.std.proofs.lemmas.List.Elements.{All-append, All-cons, All-drop, All-filter, All-head, All-nil, All-tail, filter_more}
use Rattle.page_digests.specs.declared.seal.Seal.{Seal}
use Rattle.segments.specs.PagedReads.{IsPagedOf, PagedSegmentState}
use Rattle.segments.specs.Recent.{HavePages, IsTaken, kept_from, kept_after}

abbrev pub HasPages : (P : ℕ) → PagedSegmentState → Type 0
HasPages P p = p.content.page_size ≡ P

pub pages_kept : (P most : ℕ) (p : PagedSegmentState) (recent : List PagedSegmentState) → HavePages P recent → p.content.page_size ≡ P → HavePages P (kept_after most p recent)
pages_kept P most p recent have of =
    let n = length recent + 1 - most in
    All-append (HasPages P) (drop n recent) (p ∷ []) (All-drop (HasPages P) n recent have) (All-cons (HasPages P) p [] of (All-nil (HasPages P)))

pub pages_none : (P : ℕ) (recent : List PagedSegmentState) → recent ≡ [] → HavePages P recent
pages_none P recent none = subst (λ l. HavePages P l) (sym none) (All-nil (HasPages P))

pub pages_from : (P first : ℕ) (recent : List PagedSegmentState) → HavePages P recent → HavePages P (kept_from first recent)
pages_from P first recent have = All-filter (λ (p : PagedSegmentState). nat_le first p.number) (HasPages P) recent have

without : (P : ℕ) (before after : List PagedSegmentState) (p : PagedSegmentState) → HavePages P (before ++ p ∷ after) → (p.content.page_size ≡ P) × HavePages P (before ++ after)
without P [] after p have = (All-head (HasPages P) p after have, All-tail (HasPages P) p after have)
without P (b ∷ before) after p have =
    let rest = without P before after p (All-tail (HasPages P) b (before ++ p ∷ after) have) in
    (rest.0, All-cons (HasPages P) b (before ++ after) (All-head (HasPages P) b (before ++ p ∷ after) have) rest.1)

pub taken_of : (P number : ℕ) (seal : Seal) (root : Option (List ℕ)) (old new : List PagedSegmentState) (p : PagedSegmentState) → IsTaken number seal root old new p → HavePages P old → IsPagedOf P number seal p
taken_of P number seal root old new p is have =
    record { number = is.number; of = is.of; page_size = (without P is.before is.after p (subst (λ l. HavePages P l) is.there have)).0 }

pub pages_left : (P number : ℕ) (seal : Seal) (root : Option (List ℕ)) (old new : List PagedSegmentState) (p : PagedSegmentState) → IsTaken number seal root old new p → HavePages P old → HavePages P new
pages_left P number seal root old new p is have =
    subst (λ l. HavePages P l) (sym is.left) ((without P is.before is.after p (subst (λ l. HavePages P l) is.there have)).1)

-- the one at a place is taken out
pub taken_at : (number : ℕ) (seal : Seal) (root : Option (List ℕ)) (old new : List PagedSegmentState) (k : ℕ) (p : PagedSegmentState) → k < length old → p ≡ slice_index_or old k p → new ≡ take k old ++ drop (k + 1) old
    → (slice_index_or old k p).number ≡ number → (slice_index_or old k p).content.seal ≡ seal → (slice_index_or old k p).marks_root ≡ root
    → IsTaken number seal root old new p
taken_at number seal root old new k p within is left of_number of_seal of_root = record {
  before = take k old;
  after = drop (k + 1) old;
  there = sym (take-append-drop k old) ∙ ap (λ l. take k old ++ l) (drop_more old k p within ∙ ap (λ (x : PagedSegmentState). x ∷ drop (k + 1) old) (sym is));
  left = left;
  number = ap (λ (x : PagedSegmentState). x.number) is ∙ of_number;
  of = ap (λ (x : PagedSegmentState). x.content.seal) is ∙ of_seal;
  marks = ap (λ (x : PagedSegmentState). x.marks_root) is ∙ of_root;
}

-- ---- one more is kept

-- there was room
pub kept_room : (p : PagedSegmentState) (own old new : List PagedSegmentState) → own ≡ old → length own < 8 → new ≡ own ++ p ∷ [] → new ≡ kept_after 8 p old
kept_room p own old new view few is =
    let none : length own + 1 - 8 ≡ 0 = omega (arith, few) in
    is ∙ ap (λ n. drop n own ++ p ∷ []) (sym none) ∙ ap (λ l. kept_after 8 p l) view

-- the first one was let go
pub kept_full : (p : PagedSegmentState) (own old mid new : List PagedSegmentState) → own ≡ old → length own ≡ 8 → mid ≡ take 0 own ++ drop (0 + 1) own → new ≡ mid ++ p ∷ []
    → new ≡ kept_after 8 p old
kept_full p own old mid new view full left is =
    let one : length own + 1 - 8 ≡ 1 = omega (arith, full) in
    is ∙ ap (λ (l : List PagedSegmentState). l ++ p ∷ []) left ∙ ap (λ n. drop n own ++ p ∷ []) (sym one) ∙ ap (λ l. kept_after 8 p l) view

-- ---- the older ones are let go

-- so many were taken from the front, and those of them that stay were put at the end
pub record IsTurned (first : ℕ) (old : List PagedSegmentState) (turn : ℕ) (now : List PagedSegmentState) : Type 0 where
  pub few : length now ≤ length old
  pub is : now ≡ drop turn old ++ kept_from first (take turn old)

pub none_turned : (first : ℕ) (old now : List PagedSegmentState) → now ≡ old → IsTurned first old 0 now
none_turned first old now same = record {
  few = omega (arith, ap (λ (l : List PagedSegmentState). length l) same);
  is = same ∙ sym (append-nil old);
}

-- one stands in front, and these behind it
pub front_there : (first : ℕ) (old : List PagedSegmentState) (turn : ℕ) (now : List PagedSegmentState) → turn < length old → IsTurned first old turn now → 0 < length now
front_there first old turn now more is =
    let own : length now ≡ length (drop turn old) + length (kept_from first (take turn old)) =
    ap (λ (l : List PagedSegmentState). length l) is.is ∙ length-append (drop turn old) (kept_from first (take turn old)) in
    let left : length (drop turn old) ≡ length old - turn = length-drop turn old in
    omega (arith, own, left, more)

-- it is taken from the front
turned_rest : (first : ℕ) (old : List PagedSegmentState) (turn : ℕ) (now rest : List PagedSegmentState) (p : PagedSegmentState) → turn < length old → IsTurned first old turn now
    → p ≡ slice_index_or now 0 p → rest ≡ take 0 now ++ drop 1 now
    → (p ≡ slice_index_or old turn p) × (rest ≡ drop (turn + 1) old ++ kept_from first (take turn old))
turned_rest first old turn now rest p more is front left =
    let kept = kept_from first (take turn old) in
    let there : now ≡ slice_index_or old turn p ∷ drop (turn + 1) old ++ kept = is.is ∙ ap (λ (l : List PagedSegmentState). l ++ kept) (drop_more old turn p more) in (
      front ∙ ap (λ (l : List PagedSegmentState). slice_index_or l 0 p) there,
      left ∙ ap (λ (l : List PagedSegmentState). drop 1 l) there,
    )

more_kept : (first : ℕ) (old : List PagedSegmentState) (turn : ℕ) (p : PagedSegmentState) → turn < length old → p ≡ slice_index_or old turn p
    → kept_from first (take (turn + 1) old) ≡ kept_from first (take turn old) ++ cond (nat_le first p.number) (p ∷ []) []
more_kept first old turn p more is =
    filter_more (λ (x : PagedSegmentState). nat_le first x.number) old turn p more
    ∙ ap (λ (x : PagedSegmentState). kept_from first (take turn old) ++ cond (nat_le first x.number) (x ∷ []) []) (sym is)

-- it goes to the end
pub turned_on : (first : ℕ) (old : List PagedSegmentState) (turn : ℕ) (now rest new : List PagedSegmentState) (p : PagedSegmentState) → turn < length old → IsTurned first old turn now
    → p ≡ slice_index_or now 0 p → rest ≡ take 0 now ++ drop 1 now → nat_le first p.number ≡ true → new ≡ rest ++ p ∷ [] → IsTurned first old (turn + 1) new
turned_on first old turn now rest new p more is front left stays put =
    let two = turned_rest first old turn now rest p more is front left in
    let kept = kept_from first (take turn old) in
    let some : 0 < length now = front_there first old turn now more is in
    let one : length rest ≡ length now - 1 = ap (λ (l : List PagedSegmentState). length l) left ∙ length-drop 1 now in
    let long : length new ≡ length rest + 1 = ap (λ (l : List PagedSegmentState). length l) put ∙ length-append rest (p ∷ []) in
    record {
      few = omega (arith, is.few, some, one, long);
      is = put ∙ ap (λ (l : List PagedSegmentState). l ++ p ∷ []) two.1 ∙ append_assoc (drop (turn + 1) old) kept (p ∷ [])
          ∙ ap (λ (l : List PagedSegmentState). drop (turn + 1) old ++ l) (sym (more_kept first old turn p more two.0 ∙ ap (λ b. kept ++ cond b (p ∷ []) []) stays));
    }

-- it is let go
pub turned_off : (first : ℕ) (old : List PagedSegmentState) (turn : ℕ) (now rest : List PagedSegmentState) (p : PagedSegmentState) → turn < length old → IsTurned first old turn now
    → p ≡ slice_index_or now 0 p → rest ≡ take 0 now ++ drop 1 now → nat_le first p.number ≡ false → IsTurned first old (turn + 1) rest
turned_off first old turn now rest p more is front left goes =
    let two = turned_rest first old turn now rest p more is front left in
    let kept = kept_from first (take turn old) in
    let one : length rest ≡ length now - 1 = ap (λ (l : List PagedSegmentState). length l) left ∙ length-drop 1 now in
    record {
      few = omega (arith, is.few, one);
      is = two.1
          ∙ ap (λ (l : List PagedSegmentState). drop (turn + 1) old ++ l) (sym (more_kept first old turn p more two.0 ∙ ap (λ b. kept ++ cond b (p ∷ []) []) goes ∙ append-nil kept));
    }

-- all were turned
pub all_turned : (first : ℕ) (old : List PagedSegmentState) (turn : ℕ) (now : List PagedSegmentState) → length old ≤ turn → IsTurned first old turn now → now ≡ kept_from first old
all_turned first old turn now all is =
    is.is ∙ ap (λ (l : List PagedSegmentState). l ++ kept_from first (take turn old)) (drop_all turn old all)
    ∙ ap (λ (l : List PagedSegmentState). kept_from first l) (take_all turn old all)

-- ---- where one is kept

same_at : (l : List PagedSegmentState) (k : ℕ) (p q : PagedSegmentState) → k < length l → slice_index_or l k p ≡ slice_index_or l k q
same_at [] k p q within = absurd (omega (arith, within))
same_at (x ∷ l) zero p q within = refl
same_at (x ∷ l) (suc k) p q within = same_at l k p q (omega (arith, within))

-- the one at a place has this number
pub numbered_at : (l own : List PagedSegmentState) (k n : ℕ) (x : PagedSegmentState) → l ≡ own → k < length l → x ≡ slice_index_or l k x → x.number ≡ n → (p : PagedSegmentState) → (slice_index_or own k p).number ≡ n
numbered_at l own k n x view within is number p =
    ap (λ (m : List PagedSegmentState). (slice_index_or m k p).number) (sym view) ∙ ap (λ (y : PagedSegmentState). y.number) (same_at l k p x within ∙ sym is) ∙ number

-- the one at a place has this seal
pub sealed_at : (l own : List PagedSegmentState) (k : ℕ) (seal : Seal) (x : PagedSegmentState) → l ≡ own → k < length l → x ≡ slice_index_or l k x → x.content.seal ≡ seal
    → (p : PagedSegmentState) → (slice_index_or own k p).content.seal ≡ seal
sealed_at l own k seal x view within is of p =
    ap (λ (m : List PagedSegmentState). (slice_index_or m k p).content.seal) (sym view) ∙ ap (λ (y : PagedSegmentState). y.content.seal) (same_at l k p x within ∙ sym is) ∙ of

-- the one at a place has marks of this root
pub marked_at : (l own : List PagedSegmentState) (k : ℕ) (root : Option (List ℕ)) (x : PagedSegmentState) → l ≡ own → k < length l → x ≡ slice_index_or l k x → x.marks_root ≡ root
    → (p : PagedSegmentState) → (slice_index_or own k p).marks_root ≡ root
marked_at l own k root x view within is of p =
    ap (λ (m : List PagedSegmentState). (slice_index_or m k p).marks_root) (sym view) ∙ ap (λ (y : PagedSegmentState). y.marks_root) (same_at l k p x within ∙ sym is) ∙ of
