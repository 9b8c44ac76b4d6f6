use Rattle.std.specs.Io.Buffered.{reader_remaining, writer_contents}
use Rattle.protocol.specs.Serve.{names_of}
use Rattle.protocol.proofs.Serving.{file_not_greeted}
use Rattle.protocol.proofs.server.serve_file.Goals as goal

pub returns-in_err-session : goal.returns-in_err-session
returns-in_err-session g c =
    file_not_greeted g.H.Sum.sum_of c.args.setting.now (names_of c.args.checksum.now c.args.set_aside.now) (g.B.Blob.life c.args.blob.now) (g.B.Blob.life c.greet.new.blob) (g.B.Cause.sync_failed c.greet.new.blob) (reader_remaining g.R.Read.remaining c.args.input.now)
    (writer_contents g.W.Write.contents c.args.out.now) (writer_contents g.W.Write.contents c.greet.new.out) c.in_err-session.field-0.0 c.from_residual.result c.from_residual.ensures.1 c.in_err-session.ensures.greets

pub returns : goal.returns
returns g c =
    c.serve_greeted.ensures (g.B.Blob.life c.args.blob.now) (writer_contents g.W.Write.contents c.args.out.now) c.len-len.ensures c.in_ok-session.ensures.greets
