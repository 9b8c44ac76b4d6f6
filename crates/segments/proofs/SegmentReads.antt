-- Reads of the frames of a closed segment, by its pages.
use Rattle.std.specs.Prelude.{◌≡◌, ◌↔◌, ◌++◌, ℕ, List, [], None, true, false, Bool, Option, Result, Ok, Err}
use Rattle.std.proofs.Common.{refl, sym, ◌∙◌, ap, subst, inl, inr, append_assoc, append-nil}
use Rattle.journal.specs.declared.frame.Found.{Found}
use Rattle.page_digests.specs.Contents.{IsSameContent, PagedState}
use Rattle.page_digests.specs.Rebuilds.{RebuildGoes}
use Rattle.page_digests.specs.Sources.{SourceRead}
use Rattle.page_digests.specs.declared.error.Error as pages
use Rattle.page_digests.specs.declared.levels.Levels.{Levels}
use Rattle.page_digests.specs.declared.seal.Seal.{Seal}
use Rattle.segments.specs.declared.error.Error.{Error}
use Rattle.segments.specs.PagedFrames.{FrameFails, PagedFrameGoes, ReadsPagedFrame}
use Rattle.segments.specs.PagedReads.{HasFailedRebuild, HasFailedSince, IsDamage, ReadsGoOn, IsRebuilt, IsToldAs, PagedSegmentState, SegmentFailsSo, SegmentReadAnswers, SegmentReadGoes, SettlesGoes}

pub content_same : (s : PagedState) → IsSameContent s s
content_same s = record { seal = refl; page_size = refl; reads = ([], sym (append-nil s.reads)); list_reads = ([], sym (append-nil s.list_reads)) }

-- ---- a read without a rebuild

pub frame_was_read : (d : List ℕ → List ℕ) (own : List ℕ → ℕ) (offset : ℕ) (s : PagedSegmentState) (after : PagedState) (found : Option Found)
    → PagedFrameGoes d own offset s.content after (Ok found) → SegmentReadGoes d own offset s (record s { content = after }) (Ok found)
frame_was_read d own offset s after found goes = record {
  same = record { number = refl; of = goes.same.seal; page_size = goes.same.page_size };
  stays = λ is. is;
  rebuilt = λ is. inl is;
  marks = record { root = refl; marks = refl; ended = refl };
  answers = goes.answers.1;
}

frame_failed : (d : List ℕ → List ℕ) (own : List ℕ → ℕ) (offset : ℕ) (s : PagedSegmentState) (after : PagedState) (cause : pages.Error) (e : Error)
    → PagedFrameGoes d own offset s.content after (Err cause) → IsToldAs s.number cause e → (IsDamage cause → s.is_settled ≡ true)
    → SegmentReadGoes d own offset s (record s { content = after }) (Err e)
frame_failed d own offset s after cause e goes told settled = record {
  same = record { number = refl; of = goes.same.seal; page_size = goes.same.page_size };
  stays = λ is. is;
  rebuilt = λ is. inl is;
  marks = record { root = refl; marks = refl; ended = refl };
  answers = record {
    cause = cause;
    fails = inl (record { old = s.content; since = inl (content_same s.content); of = refl; page_size = refl; fails = goes.answers });
    told = told;
    settled = settled;
  };
}

-- ---- a read after another one, and a rebuild

pub read_on : (old mid new : List SourceRead) → ReadsGoOn old mid → ReadsGoOn mid new → ReadsGoOn old new
read_on old mid new (more, first) (rest, second) = (more ++ rest, second ∙ ap (λ reads. reads ++ rest) first ∙ append_assoc old more rest)

pub not_settled : (b : Bool) → b ≡ false → b ≡ true → ⊥
not_settled b off on = cc (off, on)

pub of_frame : (d : List ℕ → List ℕ) (own : List ℕ → ℕ) (P k : ℕ) (seal other : Seal) (offset : ℕ) (found : Option Found) → k ≡ P → other ≡ seal
    → ReadsPagedFrame d own k other offset found → ReadsPagedFrame d own P seal offset found
of_frame d own P k seal other offset found size same reads =
    subst (λ n. ReadsPagedFrame d own n seal offset found) size (subst (λ s. ReadsPagedFrame d own k s offset found) same reads)

pub rebuilt_on : (d : List ℕ → List ℕ) (s t u : PagedState) → IsRebuilt d s t → ReadsGoOn t.reads u.reads → IsRebuilt d s u
rebuilt_on d s t u is more = record {
  before = is.before;
  after = is.after;
  answered = is.answered;
  since = is.since;
  goes = is.goes;
  settles = is.settles;
  until = read_on is.after t.reads u.reads is.until more;
}

pub rebuilt_since : (d : List ℕ → List ℕ) (s t u : PagedState) → IsSameContent s t → IsRebuilt d t u → IsRebuilt d s u
rebuilt_since d s t u same is = record {
  before = is.before;
  after = is.after;
  answered = is.answered;
  since = read_on s.reads t.reads is.before same.reads is.since;
  goes = subst (λ P. RebuildGoes d P s.seal is.before is.after is.answered) same.page_size (subst (λ l. RebuildGoes d t.page_size l is.before is.after is.answered) same.seal is.goes);
  settles = is.settles;
  until = is.until;
}

read_after_settling : (d : List ℕ → List ℕ) (own : List ℕ → ℕ) (offset : ℕ) (s m : PagedSegmentState) (u : Unit {0}) (after : PagedState) (found : Option Found) → s.is_settled ≡ false
    → SettlesGoes d s m (Ok u) → PagedFrameGoes d own offset m.content after (Ok found) → SegmentReadGoes d own offset s (record m { content = after }) (Ok found)
read_after_settling d own offset s m u after found not_yet settles goes = record {
  same = record { number = settles.same.number; of = goes.same.seal ∙ settles.same.of; page_size = goes.same.page_size ∙ settles.same.page_size };
  stays = λ is. absurd (not_settled s.is_settled not_yet is);
  rebuilt = λ is. inr (rebuilt_on d s.content m.content after (settles.rebuilt tt) goes.same.reads);
  marks = record { root = settles.marks.root; marks = settles.marks.marks; ended = settles.marks.ended };
  answers = of_frame d own s.content.page_size m.content.page_size s.content.seal m.content.seal offset found settles.same.page_size settles.same.of goes.answers.1;
}

failed_after_settling : (d : List ℕ → List ℕ) (own : List ℕ → ℕ) (offset : ℕ) (s m : PagedSegmentState) (u : Unit {0}) (after : PagedState) (cause : pages.Error) (e : Error) → s.is_settled ≡ false
    → SettlesGoes d s m (Ok u) → PagedFrameGoes d own offset m.content after (Err cause) → IsToldAs s.number cause e → SegmentReadGoes d own offset s (record m { content = after }) (Err e)
failed_after_settling d own offset s m u after cause e not_yet settles goes told = record {
  same = record { number = settles.same.number; of = goes.same.seal ∙ settles.same.of; page_size = goes.same.page_size ∙ settles.same.page_size };
  stays = λ is. absurd (not_settled s.is_settled not_yet is);
  rebuilt = λ is. inr (rebuilt_on d s.content m.content after (settles.rebuilt tt) goes.same.reads);
  marks = record { root = settles.marks.root; marks = settles.marks.marks; ended = settles.marks.ended };
  answers = record {
    cause = cause;
    fails = inl (record { old = m.content; since = inr (settles.rebuilt tt); of = settles.same.of; page_size = settles.same.page_size; fails = goes.answers });
    told = told;
    settled = λ damage. settles.settled.1 tt;
  };
}

pub not_rebuilt : (d : List ℕ → List ℕ) (own : List ℕ → ℕ) (offset : ℕ) (s m : PagedSegmentState) (cause : pages.Error) (e : Error) → s.is_settled ≡ false
    → SettlesGoes d s m (Err cause) → IsToldAs s.number cause e → SegmentReadGoes d own offset s m (Err e)
not_rebuilt d own offset s m cause e not_yet settles told = record {
  same = settles.same;
  stays = λ is. absurd (not_settled s.is_settled not_yet is);
  rebuilt = λ is. inr (settles.rebuilt (settles.settled.0 is));
  marks = settles.marks;
  answers = record { cause = cause; fails = inr (inl settles.fails); told = told; settled = λ damage. settles.settled.1 damage };
}

pub content_joins : (s t u : PagedState) → IsSameContent s t → IsSameContent t u → IsSameContent s u
content_joins s t u first second = record {
  seal = second.seal ∙ first.seal;
  page_size = second.page_size ∙ first.page_size;
  reads = read_on s.reads t.reads u.reads first.reads second.reads;
  list_reads = read_on s.list_reads t.list_reads u.list_reads first.list_reads second.list_reads;
}

failed_since : (d : List ℕ → List ℕ) (Fails : PagedState → PagedState → pages.Error → Type 0) (s mid t : PagedState) (e : pages.Error) → IsSameContent s mid → HasFailedSince d Fails mid t e → HasFailedSince d Fails s t e
failed_since d Fails s mid t e same is = record {
  old = is.old;
  since = elim (is.since) [
    | inl more ↦ inl (content_joins s mid is.old same more)
    | inr anew ↦ inr (rebuilt_since d s mid is.old same anew)
  ];
  of = is.of ∙ same.seal;
  page_size = is.page_size ∙ same.page_size;
  fails = is.fails;
}

file_since : (d : List ℕ → List ℕ) (s mid t : PagedState) (e : pages.Error) → IsSameContent s mid → HasFailedRebuild d mid t e → HasFailedRebuild d s t e
file_since d s mid t e same is = record {
  before = is.before;
  after = is.after;
  since = read_on s.reads mid.reads is.before same.reads is.since;
  fails = subst (λ P. RebuildGoes d P s.seal is.before is.after (Err e)) same.page_size (subst (λ l. RebuildGoes d mid.page_size l is.before is.after (Err e)) same.seal is.fails);
  until = is.until;
}

-- what failed after a read failed since it
pub fails_since : (d : List ℕ → List ℕ) (Fails : PagedState → PagedState → pages.Error → Type 0) (s m t : PagedSegmentState) (e : Error) → m.number ≡ s.number → IsSameContent s.content m.content → SegmentFailsSo d Fails m t e
    → SegmentFailsSo d Fails s t e
fails_since d Fails s m t e number same is = record {
  cause = is.cause;
  fails = elim (is.fails) [
    | inl frame ↦ inl (failed_since d Fails s.content m.content t.content is.cause same frame)
    | inr (inl file) ↦ inr (inl (file_since d s.content m.content t.content is.cause same file))
    | inr (inr memory) ↦ inr (inr memory)
  ];
  told = subst (λ n. IsToldAs n is.cause e) number is.told;
  settled = is.settled;
}

answers_since : (d : List ℕ → List ℕ) (own : List ℕ → ℕ) (offset : ℕ) (s : PagedSegmentState) (mid : PagedState) (t : PagedSegmentState) (result : Result (Option Found) Error) → IsSameContent s.content mid
    → SegmentReadAnswers d own offset (record s { content = mid }) t result → SegmentReadAnswers d own offset s t result
answers_since d own offset s mid t (Ok found) same is = of_frame d own s.content.page_size mid.page_size s.content.seal mid.seal offset found same.page_size same.seal is
answers_since d own offset s mid t (Err e) same is = fails_since d (FrameFails d offset) s (record s { content = mid }) t e refl same is

-- a read after one that failed
read_since : (d : List ℕ → List ℕ) (own : List ℕ → ℕ) (offset : ℕ) (s : PagedSegmentState) (mid : PagedState) (t : PagedSegmentState) (result : Result (Option Found) Error) → IsSameContent s.content mid
    → SegmentReadGoes d own offset (record s { content = mid }) t result → SegmentReadGoes d own offset s t result
read_since d own offset s mid t result same is = record {
  same = record { number = is.same.number; of = is.same.of ∙ same.seal; page_size = is.same.page_size ∙ same.page_size };
  stays = is.stays;
  rebuilt = λ settled. elim (is.rebuilt settled) [
    | inl before ↦ inl before
    | inr anew ↦ inr (rebuilt_since d s.content mid t.content same anew)
  ];
  marks = record { root = is.marks.root; marks = is.marks.marks; ended = is.marks.ended };
  answers = answers_since d own offset s mid t result same is.answers;
}

-- ---- a rebuild

pub was_settled : (d : List ℕ → List ℕ) (s : PagedSegmentState) (reads list_reads : List SourceRead) (levels : Levels)
    → RebuildGoes d s.content.page_size s.content.seal s.content.reads reads (Ok levels)
    → SettlesGoes d s (record s { content = record s.content { cached_list = None; reads = reads; list_reads = list_reads }; is_settled = true }) (Ok tt)
was_settled d s reads list_reads levels goes = record {
  same = record { number = refl; of = refl; page_size = refl };
  settled = (λ is. tt, λ is. refl);
  rebuilt = λ is. record {
    before = s.content.reads;
    after = reads;
    answered = Ok levels;
    since = ([], sym (append-nil s.content.reads));
    goes = goes;
    settles = tt;
    until = ([], sym (append-nil reads));
  };
  marks = record { root = refl; marks = refl; ended = refl };
  fails = tt;
}

pub not_built : (d : List ℕ → List ℕ) (s : PagedSegmentState) (reads : List SourceRead) (is_damaged : Bool) (e : pages.Error)
    → RebuildGoes d s.content.page_size s.content.seal s.content.reads reads (Err e) → ((is_damaged ≡ true) ↔ IsDamage e)
    → SettlesGoes d s (record s { content = record s.content { reads = reads }; is_settled = is_damaged }) (Err e)
not_built d s reads is_damaged e goes damaged = record {
  same = record { number = refl; of = refl; page_size = refl };
  settled = damaged;
  rebuilt = λ is. record {
    before = s.content.reads;
    after = reads;
    answered = Err e;
    since = ([], sym (append-nil s.content.reads));
    goes = goes;
    settles = is;
    until = ([], sym (append-nil reads));
  };
  marks = record { root = refl; marks = refl; ended = refl };
  fails = record { before = s.content.reads; after = reads; since = ([], sym (append-nil s.content.reads)); fails = goes; until = ([], sym (append-nil reads)) };
}

pub was_not_settled : (d : List ℕ → List ℕ) (i s : PagedSegmentState) (after : PagedState) (is_damaged : Bool) (e : pages.Error) → i ≡ s → after ≡ record i.content { reads = after.reads }
    → RebuildGoes d i.content.page_size i.content.seal i.content.reads after.reads (Err e) → ((is_damaged ≡ true) ↔ IsDamage e)
    → SettlesGoes d s (record i { content = after; is_settled = is_damaged }) (Err e)
was_not_settled d i s after is_damaged e view rest goes damaged =
    subst (λ (t : PagedSegmentState). SettlesGoes d t (record i { content = after; is_settled = is_damaged }) (Err e)) view
    (subst (λ (t : PagedState). SettlesGoes d i (record i { content = t; is_settled = is_damaged }) (Err e)) (sym rest) (not_built d i after.reads is_damaged e goes damaged))

-- ---- the same, by the fields of a segment

pub part_settled : (d : List ℕ → List ℕ) (i s : PagedSegmentState) (mid after : PagedState) (list_reads : List SourceRead) (levels : Levels) → i ≡ s → mid ≡ record i.content { reads = mid.reads }
    → after ≡ record mid { cached_list = None; list_reads = list_reads } → RebuildGoes d i.content.page_size i.content.seal i.content.reads mid.reads (Ok levels) → SettlesGoes d s (record i { content = after; is_settled = true }) (Ok tt)
part_settled d i s mid after list_reads levels view read used goes =
    let all : after ≡ record i.content { cached_list = None; reads = mid.reads; list_reads = list_reads } = used ∙ ap (λ (p : PagedState). record p { cached_list = None; list_reads = list_reads }) read in
    subst (λ (t : PagedSegmentState). SettlesGoes d t (record i { content = after; is_settled = true }) (Ok tt)) view
    (subst (λ (p : PagedState). SettlesGoes d i (record i { content = p; is_settled = true }) (Ok tt)) (sym all) (was_settled d i mid.reads list_reads levels goes))

pub part_read : (d : List ℕ → List ℕ) (own : List ℕ → ℕ) (offset : ℕ) (i s : PagedSegmentState) (after : PagedState) (cause : pages.Error) (e : Error) → i ≡ s → PagedFrameGoes d own offset i.content after (Err cause)
    → IsToldAs i.number cause e → (IsDamage cause → i.is_settled ≡ true) → SegmentReadGoes d own offset s (record i { content = after }) (Err e)
part_read d own offset i s after cause e view goes told damaged =
    subst (λ (t : PagedSegmentState). SegmentReadGoes d own offset t (record i { content = after }) (Err e)) view (frame_failed d own offset i after cause e goes told damaged)

pub part_since : (d : List ℕ → List ℕ) (own : List ℕ → ℕ) (offset : ℕ) (i s t : PagedSegmentState) (mid : PagedState) (result : Result (Option Found) Error) → i ≡ s → IsSameContent i.content mid
    → SegmentReadGoes d own offset (record i { content = mid }) t result → SegmentReadGoes d own offset s t result
part_since d own offset i s t mid result view same goes = subst (λ (k : PagedSegmentState). SegmentReadGoes d own offset k t result) view (read_since d own offset i mid t result same goes)

pub part_after : (d : List ℕ → List ℕ) (own : List ℕ → ℕ) (offset : ℕ) (i s m : PagedSegmentState) (after : PagedState) (u : Unit {0}) (found : Option Found) → i ≡ m → s.is_settled ≡ false → SettlesGoes d s m (Ok u)
    → PagedFrameGoes d own offset i.content after (Ok found) → SegmentReadGoes d own offset s (record i { content = after }) (Ok found)
part_after d own offset i s m after u found view not_yet settles goes =
    read_after_settling d own offset s i u after found not_yet (subst (λ (k : PagedSegmentState). SettlesGoes d s k (Ok u)) (sym view) settles) goes

pub part_failed : (d : List ℕ → List ℕ) (own : List ℕ → ℕ) (offset : ℕ) (i s m : PagedSegmentState) (after : PagedState) (u : Unit {0}) (cause : pages.Error) (e : Error) → i ≡ m → s.is_settled ≡ false
    → SettlesGoes d s m (Ok u) → PagedFrameGoes d own offset i.content after (Err cause) → IsToldAs i.number cause e → SegmentReadGoes d own offset s (record i { content = after }) (Err e)
part_failed d own offset i s m after u cause e view not_yet settles goes told =
    let was : SettlesGoes d s i (Ok u) = subst (λ (k : PagedSegmentState). SettlesGoes d s k (Ok u)) (sym view) settles in
    failed_after_settling d own offset s i u after cause e not_yet was goes (subst (λ (n : ℕ). IsToldAs n cause e) was.same.number told)
