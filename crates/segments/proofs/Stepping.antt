-- Going over the records of a log.
use Rattle.std.specs.Prelude.{◌≡◌, ◌≢◌, ◌⊎◌, ◌≤◌, ◌<◌, ◌+◌, ◌-◌, ◌*◌, ◌++◌, ℕ, zero, suc, List, [], ◌∷◌, length, drop, nat_lt, slice_get, Some, None, Option, IfSome, Result, Ok, Err, Bool, true, false, if◌then◌else◌}
use Rattle.std.specs.Result.{IsErrAnd}
use Rattle.std.proofs.Common.{ap, sym, ◌∙◌, refl, subst, inl, inr, append_assoc, append-nil, arith}
use Rattle.std.proofs.lemmas.List.{drop_all}
use Rattle.std.proofs.lemmas.Bool.{cases_lt, lt-ltb, le-ltb, ltb-false}
use Rattle.disk.specs.Disk.{Life}
use Rattle.writer_state.specs.WriterState.{WriterState}
use Rattle.writer_state.specs.Sound.{content}
use Rattle.journal.specs.declared.frame.Found.{Found}
use Rattle.journal.specs.Frame.{listed, records}
use Rattle.journal.proofs.Frames.{records-none}
use Rattle.segments.specs.declared.closed.Closed.{Closed}
use Rattle.segments.specs.declared.error.Error.{Error}
use Rattle.segments.specs.declared.place.Place.{Place}
use Rattle.segments.specs.Manifest.{ListingState, closed_at, open_in}
use Rattle.segments.specs.Owned.{HasJournal, content_now, content_of, records_of}
use Rattle.segments.specs.Log.{HasTwinIn, IsCurrentContent, IsReadOfOpen, LeavesReading, LogReadGoes, LogReadRefused, LogState, TellHeld, closed_records}
use Rattle.segments.specs.FrameReads.{EndsBehind, IsReadOf}
use Rattle.segments.specs.Kept.{HoldsClosed}
use Rattle.segments.proofs.Readings.{read_forward}
use Rattle.segments.specs.Scan.{ComesFirst, IsBehind, IsEnd, IsFrom, NextGoes, StandBetween, StandBy, held_content, records_after, records_at}

-- ---- what is listed

not_none : (b : Bool) (o : Option Closed) (kept : Closed) → (if b then None else o) ≡ Some kept → (b ≡ false) × (o ≡ Some kept)
not_none true o kept is = absurd (subst (λ (o : Option Closed). IfSome o (λ c. ⊥)) is tt)
not_none false o kept is = (refl, is)

get_within : (cs : List Closed) (k : ℕ) (kept : Closed) → slice_get cs k ≡ Some kept → k < length cs
get_within [] k kept is = absurd (subst (λ (o : Option Closed). IfSome o (λ c. ⊥)) is tt)
get_within (c ∷ cs) zero kept is = omega arith
get_within (c ∷ cs) (suc k) kept is = let rest = get_within cs k kept is in omega (arith, rest)

record Within (l : ListingState) (segment : ℕ) (kept : Closed) : Type 0 where
  after : l.first ≤ segment
  there : slice_get l.closed (segment - l.first) ≡ Some kept
  before : segment < open_in l

within : (l : ListingState) (segment : ℕ) (kept : Closed) → closed_at l segment ≡ Some kept → Within l segment kept
within l segment kept is =
    let parts = not_none (nat_lt segment l.first) (slice_get l.closed (segment - l.first)) kept is in
    let after = ltb-false segment l.first parts.0 in
    let few = get_within l.closed (segment - l.first) kept parts.1 in
    record { after = after; there = parts.1; before = omega (arith, after, few) }

tells_at : (sum : List ℕ → ℕ) (d : List ℕ → List ℕ) (P : ℕ) (held : ℕ → List ℕ) (first : ℕ) (cs : List Closed) (k : ℕ) (kept : Closed) → TellHeld sum d P held first cs → slice_get cs k ≡ Some kept
    → HoldsClosed sum d P kept (held (first + k))
tells_at sum d P held first [] k kept tells is = absurd (subst (λ (o : Option Closed). IfSome o (λ c. ⊥)) is tt)
tells_at sum d P held first (c ∷ cs) zero kept tells is =
    let same : c ≡ kept = some_is c kept is in
    subst (λ n. HoldsClosed sum d P kept (held n)) (omega arith) (subst (λ c. HoldsClosed sum d P c (held first)) same tells.0) where
      some_or : Option Closed → Closed → Closed
      some_or None d = d
      some_or (Some c) d = c

      some_is : (c kept : Closed) → Some c ≡ Some kept → c ≡ kept
      some_is c kept is = ap (λ o. some_or o c) is
tells_at sum d P held first (c ∷ cs) (suc k) kept tells is =
    subst (λ n. HoldsClosed sum d P kept (held n)) (omega arith) (tells_at sum d P held (suc first) cs k kept tells.1 is)

-- ---- a read

-- a segment that was read is no later than the open one
is_inside : (sum own : List ℕ → ℕ) (d : List ℕ → List ℕ) (s t : LogState) (at : Place) (found : Option Found) → LogReadGoes sum own d s t at (Ok found) → at.segment ≤ open_in s.listing
is_inside sum own d s t at found (inl is) = omega (arith, is.0)
is_inside sum own d s t at found (inr is) = let here = within s.listing at.segment is.0 is.1 in omega (arith, here.before)

is_forward : (sum own : List ℕ → ℕ) (d : List ℕ → List ℕ) (s t : LogState) (at : Place) (found : Option Found) → LogReadGoes sum own d s t at (Ok found) → EndsBehind at.offset found
is_forward sum own d s t at found (inl is) = read_forward own is.1.0 at.offset found is.1.2
is_forward sum own d s t at found (inr is) = is.2.forward

current_is : (j : Option WriterState) (life : Life) (C : List ℕ) → HasJournal j (λ w. C ≡ content w life.present.readable) → content_of j life ≡ C
current_is None life C is = absurd is
current_is (Some w) life C is = sym is

pick_true : {X : Type 0} (b : Bool) (x y : X) → b ≡ true → (if b then x else y) ≡ x
pick_true b x y is = ap (λ b. if b then x else y) is

pick_false : {X : Type 0} (b : Bool) (x y : X) → b ≡ false → (if b then x else y) ≡ y
pick_false b x y is = ap (λ b. if b then x else y) is

open_content : (held : ℕ → List ℕ) (s : LogState) (segment : ℕ) (C : List ℕ) → segment ≡ open_in s.listing → IsCurrentContent s C → held_content held s.listing (content_now s.current) segment ≡ C
open_content held s segment C last is =
    pick_false (nat_lt segment (open_in s.listing)) (held segment) (content_now s.current) (le-ltb segment (open_in s.listing) (omega (arith, last)))
    ∙ current_is s.current.journal s.current.life C is

-- a read is of what the segment has, by what the closed ones held
read_is : (sum own : List ℕ → ℕ) (d : List ℕ → List ℕ) (held : ℕ → List ℕ) (s t : LogState) (at : Place) (found : Option Found) → TellHeld sum d s.page_size held s.listing.first s.listing.closed
    → LogReadGoes sum own d s t at (Ok found)
    → IsReadOf own (held_content held s.listing (content_now s.current) at.segment) at.offset found ⊎ HasTwinIn sum d s.page_size held s.listing
read_is sum own d held s t at found tells (inl is) =
    inl (subst (λ content. IsReadOf own content at.offset found) (sym (open_content held s at.segment is.1.0 is.0 is.1.1)) is.1.2)
read_is sum own d held s t at found tells (inr is) =
    let l = s.listing in
    let here = within l at.segment is.0 is.1 in
    let told : HoldsClosed sum d s.page_size is.0 (held at.segment) =
    subst (λ n. HoldsClosed sum d s.page_size is.0 (held n)) (omega (arith, here.after)) (tells_at sum d s.page_size held l.first l.closed (at.segment - l.first) is.0 tells here.there) in
    elim (is.2.reads (held at.segment) told) [
      | inl read ↦ inl (subst (λ content. IsReadOf own content at.offset found)
          (sym (pick_true (nat_lt at.segment (open_in l)) (held at.segment) (content_now s.current) (lt-ltb at.segment (open_in l) here.before))) read)
      | inr twin ↦ inr (at.segment, (is.0, is.1, twin))
    ]

-- ---- one frame further

-- a frame that was found
found_between : (sum own : List ℕ → ℕ) (d : List ℕ → List ℕ) (s t : LogState) (at : Place) (f : Found) → LogReadGoes sum own d s t at (Ok (Some f))
    → StandBetween sum own d s (listed f.bytes) at (record { segment = at.segment; offset = f.end })
found_between sum own d s t at f is held tells =
    let now = content_now s.current in
    let after = records_after own held s.listing now at.segment in
    elim (read_is sum own d held s t at (Some f) tells is) [
      | inl found ↦ inl (
          ap (λ rs. rs ++ after) found.rest
          ∙ append_assoc (listed f.bytes) (records own (drop f.end (held_content held s.listing now at.segment))) after)
      | inr twin ↦ inr twin
    ]

-- ---- the end of a segment

split_at : (cs : List Closed) (k : ℕ) → k < length cs → (c : Closed) × (drop k cs ≡ c ∷ drop (suc k) cs)
split_at [] k short = absurd (omega (arith, short))
split_at (c ∷ cs) zero short = (c, refl)
split_at (c ∷ cs) (suc k) short = split_at cs k (omega (arith, short))

-- the records of the segments from one on are those from its first place on
next_first : (own : List ℕ → ℕ) (held : ℕ → List ℕ) (l : ListingState) (content : List ℕ) (n : ℕ) → l.first ≤ n → n ≤ open_in l
    → closed_records own held n (drop (n - l.first) l.closed) ++ records own content ≡ records_at own held l content (record { segment = n; offset = 0 })
next_first own held l content n after before = elim (cases_lt n (open_in l)) [
  | inl short ↦
      let k = n - l.first in
      let parts = split_at l.closed k (omega (arith, after, short)) in
      let rest = closed_records own held (suc n) (drop (suc k) l.closed) in
      let more : suc n - l.first ≡ suc k = omega (arith, after) in
      let is = lt-ltb n (open_in l) short in
      ap (λ cs. closed_records own held n cs ++ records own content) parts.1
      ∙ append_assoc (records own (held n)) rest (records own content)
      ∙ ap (λ j. records own (held n) ++ (closed_records own held (suc n) (drop j l.closed) ++ records own content)) (sym more)
      ∙ ap (λ bytes. records own bytes ++ (closed_records own held (suc n) (drop (suc n - l.first) l.closed) ++ records own content))
      (sym (pick_true (nat_lt n (open_in l)) (held n) content is))
      ∙ ap (λ rs. records own (held_content held l content n) ++ rs)
      (sym (pick_true (nat_lt n (open_in l)) (closed_records own held (suc n) (drop (suc n - l.first) l.closed) ++ records own content) [] is))
  | inr long ↦
      let is = le-ltb n (open_in l) long in
      ap (λ cs. closed_records own held n cs ++ records own content) (drop_all (n - l.first) l.closed (omega (arith, after, long)))
      ∙ sym (append-nil (records own content))
      ∙ ap (λ bytes. records own bytes ++ []) (sym (pick_false (nat_lt n (open_in l)) (held n) content is))
      ∙ ap (λ rs. records own (held_content held l content n) ++ rs)
      (sym (pick_false (nat_lt n (open_in l)) (closed_records own held (suc n) (drop (suc n - l.first) l.closed) ++ records own content) [] is))
]

none_there : (own : List ℕ → ℕ) (content : List ℕ) (offset : ℕ) → length content ≤ offset → records own (drop offset content) ≡ []
none_there own content offset le = ap (λ l. records own l) (drop_all offset content le) ∙ records-none own

-- the next segment follows a closed one
closed_between : (sum own : List ℕ → ℕ) (d : List ℕ → List ℕ) (s t : LogState) (at : Place) (kept : Closed) → closed_at s.listing at.segment ≡ Some kept → LogReadGoes sum own d s t at (Ok None)
    → StandBetween sum own d s [] at (record { segment = at.segment + 1; offset = 0 })
closed_between sum own d s t at kept listed is held tells =
    let l = s.listing in
    let now = content_now s.current in
    let here = within l at.segment kept listed in
    let n = at.segment + 1 in
    let more : suc at.segment ≡ n = omega arith in
    elim (read_is sum own d held s t at None tells is) [
      | inl few ↦ inl (
          ap (λ rs. rs ++ records_after own held l now at.segment) (none_there own (held_content held l now at.segment) at.offset few)
          ∙ pick_true (nat_lt at.segment (open_in l)) (closed_records own held (suc at.segment) (drop (suc at.segment - l.first) l.closed) ++ records own now) [] (lt-ltb at.segment (open_in l) here.before)
          ∙ ap (λ m. closed_records own held m (drop (m - l.first) l.closed) ++ records own now) more
          ∙ next_first own held l now n (omega (arith, here.after)) (omega (arith, here.before)))
      | inr twin ↦ inr twin
    ]

-- nothing follows the open one
open_end : (own : List ℕ → ℕ) (s : LogState) (at : Place) → at.segment ≡ open_in s.listing → IsReadOfOpen own s at.offset None → IsEnd own s at
open_end own s at last is held =
    let l = s.listing in
    let now = content_now s.current in
    let few : length (held_content held l now at.segment) ≤ at.offset =
    subst (λ (content : List ℕ). length content ≤ at.offset) (sym (open_content held s at.segment is.0 last is.1)) is.2 in
    ap (λ rs. rs ++ records_after own held l now at.segment) (none_there own (held_content held l now at.segment) at.offset few)
    ∙ pick_false (nat_lt at.segment (open_in l)) (closed_records own held (suc at.segment) (drop (suc at.segment - l.first) l.closed) ++ records own now) [] (le-ltb at.segment (open_in l) (omega (arith, last)))

-- ---- the first place

now_is : (own : List ℕ → ℕ) (j : Option WriterState) (life : Life) → records own (content_of j life) ≡ records_of own j life
now_is own None life = records-none own
now_is own (Some w) life = refl

pub comes_first : (own : List ℕ → ℕ) (s : LogState) → ComesFirst own s (record { segment = s.listing.first; offset = 0 })
comes_first own s held =
    let l = s.listing in
    let none : l.first - l.first ≡ 0 = omega arith in
    sym (next_first own held l (content_now s.current) l.first (omega arith) (omega arith))
    ∙ ap (λ k. closed_records own held l.first (drop k l.closed) ++ records own (content_now s.current)) none
    ∙ ap (λ rs. closed_records own held l.first l.closed ++ rs) (now_is own s.current.journal s.current.life)

-- ---- one step

-- a frame was found: its record stands here, and the place behind it
pub step_found : (sum own : List ℕ → ℕ) (d : List ℕ → List ℕ) (s t : LogState) (at : Place) (f : Found) → at.offset < 18446744073709551616 → LogReadGoes sum own d s t at (Ok (Some f))
    → StandBetween sum own d s (listed f.bytes) at (record { segment = at.segment; offset = f.end })
    × IsBehind s at (record { segment = at.segment; offset = f.end })
step_found sum own d s t at f fits is =
    let inside = is_inside sum own d s t at (Some f) is in
    let forward : at.offset < f.end = is_forward sum own d s t at (Some f) is in (
      found_between sum own d s t at f is,
      record {
        segment = omega arith;
        inside = inside;
        nearer = omega (arith, inside, fits, forward);
      },
    )

-- no frame was found in a closed segment: the next one follows
passed_by : (sum own : List ℕ → ℕ) (d : List ℕ → List ℕ) (s : LogState) (at : Place) (kept : Closed) → at.offset < 18446744073709551616 → closed_at s.listing at.segment ≡ Some kept → LogReadGoes sum own d s s at (Ok None)
    → StandBetween sum own d s [] at (record { segment = at.segment + 1; offset = 0 })
    × IsBehind s at (record { segment = at.segment + 1; offset = 0 }) × (at.segment < open_in s.listing)
passed_by sum own d s at kept fits listed is =
    let here = within s.listing at.segment kept listed in (
      closed_between sum own d s s at kept listed is,
      record { segment = omega arith; inside = omega (arith, here.before); nearer = omega (arith, fits, here.before) },
      here.before,
    )

pub step_passed : (sum own : List ℕ → ℕ) (d : List ℕ → List ℕ) (s : LogState) (at : Place) → at.offset < 18446744073709551616 → at.segment ≢ open_in s.listing → LogReadGoes sum own d s s at (Ok None)
    → StandBetween sum own d s [] at (record { segment = at.segment + 1; offset = 0 })
    × IsBehind s at (record { segment = at.segment + 1; offset = 0 }) × (at.segment < open_in s.listing)
step_passed sum own d s at fits other (inl last) = absurd (other last.0)
step_passed sum own d s at fits other (inr closed) = passed_by sum own d s at closed.0 fits closed.1 (inr closed)

-- no frame was found in the open one: it is the end
pub step_stops : (sum own : List ℕ → ℕ) (d : List ℕ → List ℕ) (s : LogState) (at : Place) → at.segment ≡ open_in s.listing → LogReadGoes sum own d s s at (Ok None) → IsEnd own s at
step_stops sum own d s at last (inl here) = open_end own s at last here.1
step_stops sum own d s at last (inr closed) =
    let here = within s.listing at.segment closed.0 closed.1 in
    absurd (omega (arith, here.before, last))

-- ---- one step after another

pub between_joins : (sum own : List ℕ → ℕ) (d : List ℕ → List ℕ) (s : LogState) (these : List (List ℕ)) (p q r : Place) → StandBetween sum own d s [] p q → StandBetween sum own d s these q r → StandBetween sum own d s these p r
between_joins sum own d s these p q r first second held tells =
    elim (first held tells) [
      | inl same ↦ elim (second held tells) [
        | inl more ↦ inl (same ∙ more)
        | inr twin ↦ inr twin
      ]
      | inr twin ↦ inr twin
    ]

-- what holds of the log after reads held before them
pub between_back : (sum own : List ℕ → ℕ) (d : List ℕ → List ℕ) (s m : LogState) (these : List (List ℕ)) (p q : Place) → LeavesReading sum own s m → StandBetween sum own d m these p q → StandBetween sum own d s these p q
between_back sum own d s m these p q leaves is =
    subst (λ P. StandBy sum own d P s.listing (content_now s.current) these p q) leaves.page_size
    (subst (λ l. StandBy sum own d m.page_size l (content_now s.current) these p q) leaves.listing
    (subst (λ held. StandBy sum own d m.page_size m.listing held these p q) leaves.holds is))

pub end_back : (sum own : List ℕ → ℕ) (s m : LogState) (p : Place) → LeavesReading sum own s m → IsEnd own m p → IsEnd own s p
end_back sum own s m p leaves is held =
    subst (λ l. records_at own held l (content_now s.current) p ≡ []) leaves.listing
    (subst (λ bytes. records_at own held m.listing bytes p ≡ []) leaves.holds (is held))

pub behind_back : (sum own : List ℕ → ℕ) (s m : LogState) (p q : Place) → LeavesReading sum own s m → IsBehind m p q → IsBehind s p q
behind_back sum own s m p q leaves is = record {
  segment = is.segment;
  inside = subst (λ (l : ListingState). q.segment ≤ open_in l) leaves.listing is.inside;
  nearer = subst (λ (l : ListingState). (open_in l + 1 - q.segment) * 18446744073709551616 - q.offset < (open_in l + 1 - p.segment) * 18446744073709551616 - p.offset) leaves.listing is.nearer;
}

-- a place behind one that is behind another
pub behind_joins : (s : LogState) (p q r : Place) → IsFrom s p q → IsBehind s q r → IsBehind s p r
behind_joins s p q r (inl same) second = subst (λ (k : Place). IsBehind s k r) same second
behind_joins s p q r (inr first) second = record {
  segment = omega (arith, first.segment, second.segment);
  inside = second.inside;
  nearer = omega (arith, first.nearer, second.nearer);
}

-- a step was refused: the records up to there were read
pub next_refused : (sum own : List ℕ → ℕ) (d : List ℕ → List ℕ) (s m t : LogState) (from at place : Place) (e : Error) (result : Result (Option (Place × List ℕ)) Error) → LeavesReading sum own s m
    → IsFrom s from at → StandBetween sum own d s [] from at → place ≡ from → IsErrAnd result (λ x. x ≡ e) → LogReadRefused own d m t at e
    → NextGoes sum own d s t from place result
next_refused sum own d s m t from at place e (Ok r) leaves further so_far same is refused = absurd is
next_refused sum own d s m t from at place e (Err x) leaves further so_far same is refused =
    (same, record { at = at; mid = m; further = further; none = so_far; reads = leaves; refused = subst (λ y. LogReadRefused own d m t at y) (sym is) refused })
