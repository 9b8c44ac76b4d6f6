-- A replay outlives the calls of its blob.
use Rattle.std.proofs.Common.{◌≡◌, inl, inr, ℕ, ◌+◌, ◌*◌, ◌-◌, ◌≤◌, min, List, [], ◌∷◌, length, take, drop, sym, ap, ◌∙◌, subst, arith, All, slice_index_or}
use Rattle.std.proofs.lemmas.Bool.{cases_lt}
use Rattle.std.proofs.Math.Nat.{mul-le-mul_right}
use Rattle.disk.specs.Disk.{Disk, Life}
use Rattle.page.specs.Page.{pages}
use Rattle.crash.specs.Below.{PagesStay, SamePages}
use Rattle.crash.specs.Full.{AreFull}
use Rattle.crash.specs.Looks.{Looked}
use Rattle.crash.specs.Moments.{through_end}
use Rattle.crash.proofs.BelowLaws.{fewer_stay}
use Rattle.crash.proofs.Lists.{within_same}
use Rattle.crash.proofs.LookLaws.{looked_readable}
use Rattle.paged_read.specs.ReadAhead.{batch_bytes, IsBatch}
use Rattle.paged_read.specs.Replay.{LeavesAllReplays, LeavesReplays}
use Rattle.paged_read.specs.Tail.{logical_bytes}
use Rattle.paged_read.specs.declared.ahead.Ahead.{Ahead}
use Rattle.paged_read.proofs.Outliving.{still_told, tail_stays}

-- the bytes of a batch stay
batch_still : (P batch full page : ℕ) (d e : Disk) → SamePages P full d e
    → batch_bytes P batch full page e.readable ≡ batch_bytes P batch full page d.readable
batch_still P batch full page d e same = ap (λ (l : List ℕ). l ∷ []) (elim (cases_lt page full) [
  | inl less ↦
      let whole : (page + min batch (full - page)) * (P + 12) ≤ full * (P + 12) =
      mul-le-mul_right (P + 12) (omega (arith, less)) in
      within_same (min batch (full - page) * (P + 12)) (page * (P + 12)) (full * (P + 12))
      e.readable d.readable (omega (arith, whole)) same
  | inr over ↦
      let none : min batch (full - page) ≡ 0 = omega (arith, over) in
      let size : min batch (full - page) * (P + 12) ≡ 0 =
      ap (λ k. k * (P + 12)) none ∙ (let e : 0 * (P + 12) ≡ 0 = omega arith in e) in
      ap (λ k. take k (drop (page * (P + 12)) e.readable)) size
      ∙ sym (ap (λ k. take k (drop (page * (P + 12)) d.readable)) size)
])

-- what is queued stays
pub queue_stays : (P batch full : ℕ) (d e : Disk) (queue : List Ahead) → SamePages P full d e
    → All (IsBatch P batch full d) queue → All (IsBatch P batch full e) queue
queue_stays P batch full d e queue same are k a below bytes given =
    are k a below bytes given ∙ sym (batch_still P batch full (slice_index_or queue k a).page d e same)

-- a call that leaves the first pages
pub replays_stay : (P k : ℕ) (old new : Life) → PagesStay P k old new → LeavesReplays P k old new
replays_stay P k old new stay sum content r size below is =
    let t = r.tail in
    let d = old.present in
    let e = new.present in
    let same : SamePages t.page_size k d e =
    subst (λ (n : ℕ). SamePages n k d e) (sym size) (through_end (SamePages P k d) old new stay) in
    let tail = tail_stays t k d e below same sum content is.tail in
    let bytes = still_told t k d e below same is.tail.there in
    record {
      tail = tail;
      can = record {
        there = tail.there;
        hand = is.can.hand
            ∙ ap (λ (l : List ℕ). take (length r.hand) (drop r.position l)) (sym bytes);
        queue = queue_stays t.page_size r.batch t.full_pages d e r.queue
            (fewer_stay t.page_size t.full_pages k d e below same) is.can.queue;
      };
      hand = is.hand;
    }

-- a call that changes no byte
pub alike_replays : (old new : Life) → new.present.readable ≡ old.present.readable
    → LeavesAllReplays old new
alike_replays old new same sum content r is =
    let t = r.tail in
    record {
      tail = record {
        there = omega (arith, is.tail.there, ap (λ (l : List ℕ). length l) same);
        full = subst (λ (l : List ℕ). AreFull sum t.page_size
            (take t.full_pages (pages t.page_size l))) (sym same) is.tail.full;
        is = ap (λ (l : List ℕ). logical_bytes t l) same ∙ is.tail.is;
      };
      can = record {
        there = omega (arith, is.can.there, ap (λ (l : List ℕ). length l) same);
        hand = is.can.hand ∙ ap (λ (l : List ℕ). take (length r.hand) (drop r.position (logical_bytes t l))) (sym same);
        queue = λ k a below bytes given. is.can.queue k a below bytes given
            ∙ ap (λ (l : List ℕ). batch_bytes t.page_size r.batch t.full_pages (slice_index_or r.queue k a).page l) (sym same);
      };
      hand = is.hand;
    }

pub look_leaves_replays : (old new : Life) → Looked old new → LeavesAllReplays old new
look_leaves_replays old new looked = alike_replays old new (looked_readable old new looked)
