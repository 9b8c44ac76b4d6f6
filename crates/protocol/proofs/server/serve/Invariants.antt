use Rattle.std.proofs.Common.{◌≡◌, []}
use Rattle.session.specs.Run.{IsSessionReady}
use Rattle.std.specs.Io.Buffered.{reader_remaining, writer_contents}
use Rattle.protocol.proofs.Serving.{Serving}
use Rattle.protocol.proofs.server.serve.Given as goal

abbrev pub invariant-loop-number : goal.invariant-loop-number
invariant-loop-number g l = record {
  none : l.replies.items ≡ [];
  ready : IsSessionReady g.H.Sum.sum_of l.session l.cache (g.B.Blob.life l.blob).present;
  serving : Serving g.H.Sum.sum_of l.setting l.version l.fn.session l.session (g.B.Blob.life l.fn.blob) (g.B.Blob.life l.blob) (g.B.Cause.sync_failed l.blob) (reader_remaining g.R.Read.remaining l.fn.input) (reader_remaining g.R.Read.remaining l.input)
      (writer_contents g.W.Write.contents l.fn.out) (writer_contents g.W.Write.contents l.out) l.fault l.number;
}
