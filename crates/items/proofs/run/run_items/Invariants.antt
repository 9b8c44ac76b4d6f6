use Rattle.std.proofs.Common.{◌+◌, ◌-◌, ◌≤◌, length, take, vec_len, vec_capacity}
use Rattle.items.specs.Run.{IsOpenSession, RanItems}
use Rattle.items.proofs.run.run_items.Given as goal

abbrev pub invariant-loop-step : goal.invariant-loop-step
invariant-loop-step g l = record {
  room : vec_len l.replies + (length l.steps - l.step-index) ≤ vec_capacity l.replies;
  stands : IsOpenSession g.H.Sum.sum_of l.session l.cache (g.B.Blob.life l.blob);
  ran : RanItems g.H.Sum.sum_of (take l.step-index l.steps) l.initial.session l.session l.initial.cache l.cache (g.B.Blob.life l.initial.blob) (g.B.Blob.life l.blob) l.initial.replies.items l.replies.items;
}
