-- A page is loaded: it is held, or is read.
use Rattle.std.proofs.Common.{◌≡◌, ◌∙◌, ℕ, List, [], ◌++◌, length, ap, refl, sym, subst, arith, append-nil, true, false}
use Rattle.std.specs.Prelude.{Option, Some, None, Result, Ok, Err}
use Rattle.page_digests.specs.declared.error.Error.{Error}
use Rattle.page_digests.specs.declared.error.Error.TheVariants.{Damaged, OutOfMemory, System}
use Rattle.page_digests.specs.HeldPages.{PageState, TakesHeldPage}
use Rattle.page_digests.specs.PagedBytes.{BytesLoadAnswers, BytesLoadGoes, BytesState, FetchGoes, HoldsGoes, IsSameBytes, IsTurned, TurnGoes, put_away, turned_to}
use Rattle.page_digests.specs.Pages.{digest_at, page_len}
use Rattle.page_digests.specs.Sources.{SourceRead}

-- a page that was held is the one that was used last
pub turned : (most j : ℕ) (digest : List ℕ) (count : ℕ) (u s r v : BytesState) (others : List PageState) (p : PageState) (bytes : List ℕ) → u ≡ s
    → TakesHeldPage digest count u.held others (Some p) → r ≡ put_away most u.cached (record u { held = others }) → v ≡ r → bytes ≡ p.bytes
    → (x : PageState) × (rest : BytesState) × IsTurned most digest count s (Some x) rest × (record v { cached = Some j; page = bytes } ≡ turned_to j (Some x) rest)
turned most j digest count u s r v others p bytes same takes away after its = (
  p,
  r,
  subst (λ (w : BytesState). IsTurned most digest count w (Some p) r) same (record { others = others; takes = takes; away = away }),
  ap (λ (w : BytesState). record w { cached = Some j; page = bytes }) after ∙ ap (λ (b : List ℕ). record r { cached = Some j; page = b }) its,
)

-- of the same bytes, though others are held
away_same : (most : ℕ) (cached : Option ℕ) (s : BytesState) (held : List PageState) → IsSameBytes s (put_away most cached (record s { held = held }))
away_same most None s held = record { start = refl; len = refl; page_size = refl; top = refl; reads = ([], sym (append-nil s.reads)) }
away_same most (Some j) s held = record { start = refl; len = refl; page_size = refl; top = refl; reads = ([], sym (append-nil s.reads)) }

away_reads : (most : ℕ) (cached : Option ℕ) (s : BytesState) (held : List PageState) → (put_away most cached (record s { held = held })).reads ≡ s.reads
away_reads most None s held = refl
away_reads most (Some j) s held = refl

turned_reads : (most : ℕ) (digest : List ℕ) (count : ℕ) (s r : BytesState) (taken : Option PageState) → IsTurned most digest count s taken r → r.reads ≡ s.reads
turned_reads most digest count s r taken is = ap (λ (v : BytesState). v.reads) is.away ∙ away_reads most s.cached s is.others

turned_same : (most : ℕ) (digest : List ℕ) (count : ℕ) (s r : BytesState) (taken : Option PageState) → IsTurned most digest count s taken r → IsSameBytes s r
turned_same most digest count s r taken is = subst (λ (v : BytesState). IsSameBytes s v) (sym is.away) (away_same most s.cached s is.others)

-- with the digest and the length that the page has
its_turned : (most j : ℕ) (digest : List ℕ) (count : ℕ) (s r : BytesState) (taken : Option PageState) → digest ≡ digest_at j s.top → count ≡ page_len s.page_size s.len j
    → IsTurned most digest count s taken r → IsTurned most (digest_at j s.top) (page_len s.page_size s.len j) s taken r
its_turned most j digest count s r taken its len is =
    subst (λ (n : ℕ). IsTurned most (digest_at j s.top) n s taken r) len (subst (λ (b : List ℕ). IsTurned most b count s taken r) its is)

-- ---- it was held

module _ (d : List ℕ → List ℕ) (most j : ℕ) (digest : List ℕ) (count : ℕ) (s t : BytesState) (fresh : s.cached ≡ Some j → ⊥) (goes : TurnGoes {E = Unit {0}} most j digest count s t (Ok true)) where
  same_as_held : t.reads ≡ s.reads
  same_as_held = ap (λ (v : BytesState). v.reads) goes.3 ∙ turned_reads most digest count s goes.1 (Some goes.0) goes.2

  pub held_loaded : BytesLoadGoes d j s t (Ok tt)
  held_loaded =
      let same = turned_same most digest count s goes.1 (Some goes.0) goes.2 in
      let len : length t.reads ≡ length s.reads = ap length same_as_held in
      record {
        same = record {
          start = ap (λ (v : BytesState). v.start) goes.3 ∙ same.start;
          len = ap (λ (v : BytesState). v.len) goes.3 ∙ same.len;
          page_size = ap (λ (v : BytesState). v.page_size) goes.3 ∙ same.page_size;
          top = ap (λ (v : BytesState). v.top) goes.3 ∙ same.top;
          reads = ([], same_as_held ∙ sym (append-nil s.reads));
        };
        calls = omega arith;
        held = λ is. same_as_held;
        answers = ap (λ (v : BytesState). v.cached) goes.3;
      }

  pub held_holds : digest ≡ digest_at j s.top → count ≡ page_len s.page_size s.len j → HoldsGoes most j s t (Ok tt)
  held_holds its len = (
    λ is. absurd (fresh is),
    λ none. record {
      taken = Some goes.0;
      rest = goes.1;
      turned = its_turned most j digest count s goes.1 (Some goes.0) its len goes.2;
      held = ap (λ (v : BytesState). v.held) goes.3;
      reads = same_as_held;
    },
  )

-- ---- it was read

answers_before : (d : List ℕ → List ℕ) (most : ℕ) (cached : Option ℕ) (held : List PageState) (j : ℕ) (s t : BytesState) (r : Result (Unit {0}) Error)
    → BytesLoadAnswers d j (put_away most cached (record s { held = held })) t r → BytesLoadAnswers d j s t r
answers_before d most None held j s t (Ok u) is = is
answers_before d most None held j s t (Err Damaged) is = is
answers_before d most None held j s t (Err (System e)) is = is
answers_before d most None held j s t (Err OutOfMemory) is = is
answers_before d most (Some k) held j s t (Ok u) is = is
answers_before d most (Some k) held j s t (Err Damaged) is = is
answers_before d most (Some k) held j s t (Err (System e)) is = is
answers_before d most (Some k) held j s t (Err OutOfMemory) is = is

module _ (d : List ℕ → List ℕ) (most j : ℕ) (digest : List ℕ) (count : ℕ) (s m t : BytesState) (r : Result (Unit {0}) Error) (fresh : s.cached ≡ Some j → ⊥)
    (turns : TurnGoes {E = Unit {0}} most j digest count s m (Ok false)) (goes : FetchGoes d j m t r) where
  pub fetched_loaded : BytesLoadGoes d j s t r
  fetched_loaded =
      let before = turned_same most digest count s m None turns in
      let reads : m.reads ≡ s.reads = turned_reads most digest count s m None turns in
      let len : length m.reads ≡ length s.reads = ap length reads in
      record {
        same = record {
          start = goes.same.start ∙ before.start;
          len = goes.same.len ∙ before.len;
          page_size = goes.same.page_size ∙ before.page_size;
          top = goes.same.top ∙ before.top;
          reads = (goes.same.reads.0, goes.same.reads.1 ∙ ap (λ (l : List SourceRead). l ++ goes.same.reads.0) reads);
        };
        calls = let calls = goes.calls in omega arith;
        held = λ is. absurd (fresh is);
        answers = answers_before d most s.cached turns.others j s t r (subst (λ (v : BytesState). BytesLoadAnswers d j v t r) turns.away goes.answers);
      }

  pub fetched_holds : digest ≡ digest_at j s.top → count ≡ page_len s.page_size s.len j → HoldsGoes most j s t r
  fetched_holds its len = by_answer r
    where
      by_answer : (r : Result (Unit {0}) Error) → HoldsGoes most j s t r
      by_answer (Err e) = tt
      by_answer (Ok u) = (
        λ is. absurd (fresh is),
        λ none. record {
          taken = None;
          rest = m;
          turned = its_turned most j digest count s m None its len turns;
          held = goes.held;
          reads = tt;
        },
      )
