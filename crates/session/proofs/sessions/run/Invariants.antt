use Rattle.std.proofs.Common.{◌+◌, ◌-◌, ◌≤◌, length, take, vec_len, vec_capacity}
use Rattle.session.specs.Others.{LeavesOtherBlobs}
use Rattle.session.specs.Run.{IsSessionReady}
use Rattle.session.specs.Calls.{RunGoes}
use Rattle.session.proofs.sessions.run.Given as goal

abbrev pub invariant-loop-step : goal.invariant-loop-step
invariant-loop-step g l = record {
  room : vec_len l.replies + (length l.steps - l.step-index) ≤ vec_capacity l.replies;
  ready : IsSessionReady g.H.Sum.sum_of l.session l.cache (g.B.Blob.life l.blob).present;
  runs : RunGoes g.H.Sum.sum_of (take l.step-index l.steps) l.initial.session l.session l.initial.cache l.cache (g.B.Blob.life l.initial.blob) (g.B.Blob.life l.blob) l.initial.replies.items l.replies.items;
  others : LeavesOtherBlobs l.initial.session l.session l.initial.cache l.cache;
}
