-- The frame at an offset of a content, by two reads of it, or in the page that is held.
use Rattle.std.proofs.Common.{◌≡◌, ◌⊎◌, ◌<◌, ◌≤◌, ◌+◌, ◌-◌, ◌*◌, ◌/◌, ◌∙◌, ℕ, suc, List, length, take, drop, min, ap, sym, subst, inl, inr, arith, length-drop, length-take, [], refl, append-nil}
use Rattle.std.specs.Prelude.{Option, Some, Ok, Err, Vec}
use Rattle.std.specs.declared.alloc.Global.{Global}
use Rattle.std.proofs.Math.Nat.{div-eq_of_lt-le, suc-mul}
use Rattle.std.proofs.lemmas.List.{take-take}
use Rattle.journal.specs.declared.frame.Found.{Found}
use Rattle.journal.specs.Frame.{frame_len, record_len, record_of}
use Rattle.journal.specs.Journal.{IsFound}
use Rattle.journal.proofs.Frames.{record_len-front}
use Rattle.journal.proofs.Journals.{found, frame_measured}
use Rattle.page_digests.specs.Contents.{HoldsFrom, HoldsLast, IsInCached, IsSameContent, PagedReadGoes, PagedState, RangeAsks, RangeFails}
use Rattle.page_digests.specs.Pages.{range_at}
use Rattle.page_digests.specs.Reads.{IsTouched, pages_touched}
use Rattle.page_digests.specs.Seals.{HasSecondPreimage, IsSealOf, IsVerified}
use Rattle.page_digests.specs.declared.error.Error.{Error}
use Rattle.page_digests.specs.declared.error.Error.TheVariants.{Damaged, OutOfMemory, System}
use Rattle.page_digests.specs.declared.seal.Seal.{Seal}
use Rattle.page_digests.proofs.ContentReads.{content_after, fails_before}
use Rattle.page_digests.proofs.Costs.{touched_more}
use Rattle.segments.specs.PagedFrames.{AsksForFrame, PagedFrameGoes, list_pages_touched}

as_front : (content : List ℕ) (offset n : ℕ) → range_at offset n content ≡ take n (drop offset content)
as_front content offset n =
    let e : offset + n - offset ≡ n = omega arith in ap (λ (k : ℕ). take k (drop offset content)) e

-- ---- what is found

-- what two reads find, the first of a frame's length, the second of the frame
frame_found : (d : List ℕ → List ℕ) (own : List ℕ → ℕ) (P : ℕ) (seal : Seal) (offset rest len : ℕ) (front framed : List ℕ) (bytes : Option (List ℕ)) → offset + rest ≡ seal.len → 0 < rest
    → IsVerified d P seal (range_at offset (min rest 2)) front → len ≡ min rest (record_len front + 7) → IsVerified d P seal (range_at offset len) framed → bytes ≡ record_of own framed
    → (content : List ℕ) → IsSealOf d P content seal → IsFound own content offset bytes (offset + len) ⊎ HasSecondPreimage d P content
frame_found d own P seal offset rest len front framed bytes within some first measured second held content is =
    let whole : offset + rest ≡ length content = within ∙ is.len in
    let long : length (drop offset content) ≡ rest = omega (arith, whole, length-drop offset content) in
    elim (first content is) [
      | inr twin ↦ inr twin
      | inl fronts ↦
          elim (second content is) [
            | inr twin ↦ inr twin
            | inl frames ↦
                let size : len ≡ min (frame_len (drop offset content)) rest = frame_measured content offset rest len front long (fronts ∙ as_front content offset (min rest 2)) measured in
                let all : framed ≡ take (min (frame_len (drop offset content)) rest) (drop offset content) =
                frames ∙ as_front content offset len ∙ ap (λ (k : ℕ). take k (drop offset content)) size in
                let count : length framed ≡ len = ap length all ∙ (let n = length-take (min (frame_len (drop offset content)) rest) (drop offset content) in omega (arith, n, long, size)) in
                inl (found own content offset rest framed bytes (offset + len) whole some all held (ap (λ (k : ℕ). offset + k) (sym count)))
          ]
    ]

-- ---- how much is read

-- of a frame in one page, the first bytes are in that page
front_held : (P offset n len page : ℕ) → 0 < n → n ≤ len → page * P ≤ offset → offset + len ≤ page * P + P → (offset + n - 1) / P ≡ page
front_held P offset n len page some most begins ends =
    let step : suc page * P ≡ page * P + P = suc-mul page P in
    let low : page * P ≤ offset + n - 1 = omega (arith, some, begins) in
    let high : offset + n - 1 < suc page * P = omega (arith, some, most, ends, step) in
    div-eq_of_lt-le P low (subst (λ (k : ℕ). offset + n - 1 < k * P) (omega arith) high)

list_touched_more : (P offset m n : ℕ) → 0 < P → m ≤ n → list_pages_touched P offset m ≤ list_pages_touched P offset n
list_touched_more P offset m n positive less =
    let more : pages_touched P offset m ≤ pages_touched P offset n = touched_more P offset m n positive less in
    touched_more P (offset / P * 32) (pages_touched P offset m * 32) (pages_touched P offset n * 32) positive (omega (arith, more))

-- what two reads ask for
frame_asks : (offset n len : ℕ) (s t u : PagedState) → 0 < n → n ≡ min 2 len → IsSameContent s t → RangeAsks offset n s t → HoldsLast offset n t → RangeAsks offset len t u → AsksForFrame offset len s u
frame_asks offset n len s t u some is same first holds second = record {
  calls = subst (λ (k : ℕ). length u.reads ≤ length s.reads + (pages_touched s.page_size offset k + pages_touched s.page_size offset len)) is
      (omega (arith, first.calls, subst (λ (P : ℕ). length u.reads ≤ length t.reads + pages_touched P offset len) same.page_size second.calls));
  list_calls = subst (λ (k : ℕ). length u.list_reads ≤ length s.list_reads + (list_pages_touched s.page_size offset k + list_pages_touched s.page_size offset len)) is
      (omega (arith, first.list_calls, subst (λ (P : ℕ). length u.list_reads ≤ length t.list_reads + list_pages_touched P offset len) same.page_size second.list_calls));
  one_page = λ page begins ends.
      let most : n ≤ len = omega (arith, is) in
      let positive : 0 < s.page_size = omega (arith, begins, ends, some, most) in
      let held : t.cached ≡ Some page = holds some ∙ ap (λ (P : ℕ). Some ((offset + n - 1) / P)) same.page_size ∙ ap Some (front_held s.page_size offset n len page some most begins ends) in
      let still : u ≡ t = second.cached (record {
        page = page;
        cached = held;
        begins = subst (λ (P : ℕ). page * P ≤ offset) (sym same.page_size) begins;
        ends = subst (λ (P : ℕ). offset + len ≤ page * P + P) (sym same.page_size) ends;
      }) in
      let fewer : pages_touched s.page_size offset n ≤ pages_touched s.page_size offset len = touched_more s.page_size offset n len positive most in
      let fewer_list : list_pages_touched s.page_size offset n ≤ list_pages_touched s.page_size offset len = list_touched_more s.page_size offset n len positive most in
      record {
        calls = subst (λ (v : PagedState). length v.reads ≤ length s.reads + pages_touched s.page_size offset len) (sym still) (omega (arith, first.calls, fewer));
        list_calls = subst (λ (v : PagedState). length v.list_reads ≤ length s.list_reads + list_pages_touched s.page_size offset len) (sym still) (omega (arith, first.list_calls, fewer_list));
        cached = λ (had : IsInCached offset len s). still ∙ first.cached (record { page = had.page; cached = had.cached; begins = had.begins; ends = omega (arith, had.ends, most) });
      };
}

-- ---- the answers

-- what a range failed for since a call began it failed for in it
pub range_fails_before : (d : List ℕ → List ℕ) (offset len : ℕ) (s t u : PagedState) (e : Error) → IsSameContent s t → RangeFails d offset len t u e → RangeFails d offset len s u e
range_fails_before d offset len s t u Damaged same (i, touched, fails) =
    (i, subst (λ (P : ℕ). IsTouched P offset len i) same.page_size touched, fails_before d i s t u Damaged same fails)
range_fails_before d offset len s t u (System e) same (i, touched, fails) =
    (i, subst (λ (P : ℕ). IsTouched P offset len i) same.page_size touched, fails_before d i s t u (System e) same fails)
range_fails_before d offset len s t u OutOfMemory same fails = tt

-- a frame of which the length was read, and how long it is
module _ (d : List ℕ → List ℕ) (own : List ℕ → ℕ) (offset rest n len : ℕ) (s t u : PagedState) (front : Vec ℕ Global) (within : offset + rest ≡ s.seal.len) (some : 0 < rest) (two : n ≡ min rest 2)
    (first : PagedReadGoes d offset n s t (Ok front)) (measured : len ≡ min rest (record_len front.items + 7)) where
  begins : offset < s.seal.len
  begins = omega (arith, within, some)

  left : s.seal.len - offset ≡ rest
  left = omega (arith, within)

  asks : RangeAsks offset len t u → AsksForFrame offset len s u
  asks second = frame_asks offset n len s t u (omega (arith, two, some)) (omega (arith, two, measured)) first.same first.asks first.answers.0 second

  -- the frame can't be read, or memory for its record was refused
  lost : (e : Error) → IsSameContent t u → RangeAsks offset len t u → RangeFails d offset len t u e → PagedFrameGoes d own offset s u (Err e)
  lost e same second fails =
      let front_len : n ≡ min 2 (s.seal.len - offset) = omega (arith, two, left) in
      let size : len ≡ min (frame_len front.items) (s.seal.len - offset) = omega (arith, measured, left) in
      record {
        same = content_after s t u first.same same;
        answers = record {
          begins = begins;
          cause = inr (record {
            front = front.items;
            verified = subst (λ (k : ℕ). IsVerified d s.page_size s.seal (range_at offset k) front.items) front_len first.answers.1;
            asks = subst (λ (k : ℕ). AsksForFrame offset k s u) size (asks second);
            fails = subst (λ (k : ℕ). RangeFails d offset k s u e) size (range_fails_before d offset len s t u e first.same fails);
          });
        };
      }

  pub frame_fails : (e : Error) → PagedReadGoes d offset len t u (Err e) → PagedFrameGoes d own offset s u (Err e)
  frame_fails e second = lost e second.same second.asks second.answers

  pub frame_refused : (framed : Vec ℕ Global) → PagedReadGoes d offset len t u (Ok framed) → PagedFrameGoes d own offset s u (Err OutOfMemory)
  frame_refused framed second = lost OutOfMemory second.same second.asks tt

  pub frame_read : (framed : Vec ℕ Global) (f : Found) → PagedReadGoes d offset len t u (Ok framed) → f.bytes ≡ record_of own framed.items → f.end ≡ offset + len → PagedFrameGoes d own offset s u (Ok (Some f))
  frame_read framed f second held end =
      let verified : IsVerified d s.page_size s.seal (range_at offset len) framed.items =
      subst (λ (x : Seal). IsVerified d s.page_size x (range_at offset len) framed.items) first.same.seal (subst (λ (P : ℕ). IsVerified d P t.seal (range_at offset len) framed.items) first.same.page_size second.answers.1) in
      let front_read : IsVerified d s.page_size s.seal (range_at offset (min rest 2)) front.items = subst (λ (k : ℕ). IsVerified d s.page_size s.seal (range_at offset k) front.items) two first.answers.1 in
      let count : len ≡ f.end - offset = omega (arith, end) in
      record {
        same = content_after s t u first.same second.same;
        answers = (
          subst (λ (k : ℕ). AsksForFrame offset k s u) count (asks second.asks),
          record {
            forward = omega (arith, end, measured, some);
            within = omega (arith, end, measured, within);
            none = λ is. absurd (cc is);
            reads = λ content is.
                subst (λ (k : ℕ). IsFound own content offset f.bytes k ⊎ HasSecondPreimage d s.page_size content) (sym end)
                (frame_found d own s.page_size s.seal offset rest len front.items framed.items f.bytes within some front_read measured verified held content is);
          },
        );
      }

-- ---- in the page that is held

-- a frame of which the page that is held has all bytes
module _ (d : List ℕ → List ℕ) (own : List ℕ → ℕ) (offset len : ℕ) (s : PagedState) (held : List ℕ) (begins : offset < s.seal.len) (holds : HoldsFrom d offset s held)
    (measured : len ≡ record_len held + 7) (whole : len ≤ length held) where
  here : IsInCached offset (length held) s
  here = holds.cached (omega (arith, measured, whole))

  within : offset + length held ≤ s.seal.len
  within =
      let positive : 0 < length held = omega (arith, measured, whole) in
      let end : offset + length held ≡ min (here.page * s.page_size + s.page_size) s.seal.len = holds.all here.page here.cached here.begins (omega (arith, here.ends, positive, begins)) in
      omega (arith, end)

  part : (m : ℕ) → m ≤ length held → IsVerified d s.page_size s.seal (range_at offset m) (take m held)
  part m less content is = elim (holds.verified content is) [
    | inr twin ↦ inr twin
    | inl its ↦ inl (ap (take m) (its ∙ as_front content offset (length held)) ∙ take-take m (length held) (drop offset content) less ∙ sym (as_front content offset m))
  ]

  nothing_asked : (n : ℕ) → AsksForFrame offset n s s
  nothing_asked n = record {
    calls = omega arith;
    list_calls = omega arith;
    one_page = λ page from to. record { calls = omega arith; list_calls = omega arith; cached = λ is. refl };
  }

  still : IsSameContent s s
  still = record { seal = refl; page_size = refl; reads = ([], sym (append-nil s.reads)); list_reads = ([], sym (append-nil s.list_reads)) }

  pub held_refused : PagedFrameGoes d own offset s s (Err OutOfMemory)
  held_refused = record {
    same = still;
    answers = record {
      begins = begins;
      cause = inr (record {
        front = take (min 2 (s.seal.len - offset)) held;
        verified = part (min 2 (s.seal.len - offset)) (omega (arith, measured, whole));
        asks = nothing_asked _;
        fails = tt;
      });
    };
  }

  pub held_found : (f : Found) → f.bytes ≡ record_of own (take len held) → f.end ≡ offset + len → PagedFrameGoes d own offset s s (Ok (Some f))
  held_found f is end =
      let rest : ℕ = s.seal.len - offset in
      let all : offset + rest ≡ s.seal.len = omega (arith, begins) in
      let room : len ≤ rest = omega (arith, whole, within) in
      let front : List ℕ = take (min rest 2) held in
      let says : record_len front ≡ record_len held = record_len-front (min rest 2) held (omega (arith, measured, whole, within)) in
      let count : len ≡ min rest (record_len front + 7) = omega (arith, says, measured, room) in
      record {
        same = still;
        answers = (
          nothing_asked _,
          record {
            forward = omega (arith, end, measured);
            within = omega (arith, end, whole, within);
            none = λ none. absurd (cc none);
            reads = λ content sealed.
                subst (λ (k : ℕ). IsFound own content offset f.bytes k ⊎ HasSecondPreimage d s.page_size content) (sym end)
                (frame_found d own s.page_size s.seal offset rest len front (take len held) f.bytes all (omega (arith, begins)) (part (min rest 2) (omega (arith, measured, whole))) count
                (part len whole) is content sealed);
          },
        );
      }
