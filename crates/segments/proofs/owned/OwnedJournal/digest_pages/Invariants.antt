use Rattle.std.specs.Prelude.{◌≡◌, ◌≤◌, ◌+◌, ◌-◌, length, max}
use Rattle.paged_read.specs.Failures.{NoneFailed}
use Rattle.segments.specs.Ahead.{HasDigests}
use Rattle.segments.specs.Owned.{HasJournal, IsOwned, OwnedReadLeaves}
use Rattle.segments.proofs.owned.OwnedJournal.digest_pages.Given as goal

abbrev pub invariant-loop-n : goal.invariant-loop-n
invariant-loop-n g l = record {
  ready : IsOwned g.H.Sum.sum_of g.R.Sum.sum_of l.self;
  leaves : OwnedReadLeaves g.H.Sum.sum_of g.R.Sum.sum_of l.fn.self l.self;
  none : HasJournal l.fn.self.journal (λ w. NoneFailed l.fn.self.life.present l.self.life.present);
  digested : HasDigests g.D.Digest.digest_of l.self l.digesting;
  pages : l.digesting.digested.pages ≡ l.n;
  further : l.fn.digesting.digested.pages ≤ l.digesting.digested.pages;
  few : l.digesting.digested.pages ≤ max l.fn.digesting.digested.pages l.fn.end;
  asked : length l.self.life.present.log + (l.fn.end - l.n) ≤ length l.fn.self.life.present.log + (l.fn.end - l.fn.digesting.digested.pages);
  buffer : length l.page.items ≡ l.fn.self.page_size;
}
