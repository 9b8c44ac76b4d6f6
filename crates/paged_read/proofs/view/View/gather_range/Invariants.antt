use Rattle.std.proofs.Common.{◌≡◌, ◌+◌, ◌-◌, ◌≤◌, ◌++◌, ◌∷◌, [], ℕ, List}
use Rattle.page.specs.Geometry.{EndWithin}
use Rattle.paged_read.specs.Tail.{tail_at}
use Rattle.paged_read.specs.Ranges.{is_served}
use Rattle.paged_read.specs.Batch.{Gathered}
use Rattle.paged_read.proofs.view.View.gather_range.Given as goal

abbrev pub invariant-loop-at : goal.invariant-loop-at
invariant-loop-at g l =
    let t = tail_at l.self.page_size l.self.id l.self.tip.now in
    record {
      after : l.offset ≤ l.at;
      within : l.at ≤ l.end;
      served : l.served ≡ is_served l.cache t (l.offset, l.at - l.offset);
      gathered : (ranges : List (ℕ × ℕ)) → EndWithin l.offset ranges
          → Gathered l.cache t ranges l.buf_offset l.initial.batch.pages.items l.initial.batch.lacks.items l.initial.buf
          → Gathered l.cache t (ranges ++ (l.offset, l.at - l.offset) ∷ []) (l.buf_offset + (l.at - l.offset)) l.batch.pages.items l.batch.lacks.items l.buf;
      count : l.batch.served ≡ l.initial.batch.served;
    }

abbrev pub decreases-loop-at : goal.decreases-loop-at
decreases-loop-at g l = l.end - l.at
