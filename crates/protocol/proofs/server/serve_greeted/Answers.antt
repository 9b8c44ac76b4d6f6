use Rattle.std.proofs.Common.{List, ℕ, subst}
use Rattle.std.specs.Prelude.{Option, Some, Ok, Err}
use Rattle.std.specs.Io.Buffered.{reader_remaining, writer_contents}
use Rattle.protocol.specs.declared.version.Version.{Version}
use Rattle.protocol.specs.Opening.{TellsOpening}
use Rattle.protocol.specs.Serve.{hello_for, names_of}
use Rattle.protocol.proofs.Serving.{file_not_opened, file_over, file_served, file_unread, hello_is}
use Rattle.protocol.proofs.server.serve_greeted.Goals as goal

pub returns-in-Err : goal.returns-in-Err
returns-in-Err g c = λ old out len greeted.
    file_unread g.H.Sum.sum_of c.args.setting.now (names_of c.args.checksum.now c.args.set_aside.now) old (g.B.Blob.life c.args.blob.now) (g.B.Cause.sync_failed c.args.blob.now) c.args.session.now (reader_remaining g.R.Read.remaining c.args.input.now)
    (reader_remaining g.R.Read.remaining c.read_begun.new.input) out (writer_contents g.W.Write.contents c.args.out.now) (writer_contents g.W.Write.contents c.tell_flaw.new.out) c.in-Err.error c.at.result c.tell_flaw.result greeted c.in-Err.ensures c.at.ensures
    c.tell_flaw.ensures

pub returns-in_err-version : goal.returns-in_err-version
returns-in_err-version g c = λ old out len greeted.
    let setting = c.args.setting.now in
    let between = g.B.Blob.life c.args.blob.now in
    let was = c.args.session.now in
    let greeting = writer_contents g.W.Write.contents c.args.out.now in
    let told = writer_contents g.W.Write.contents c.tell_opening.new.out in
    let stop = c.in_err-version.field-0.0 in
    let same = hello_is setting c.args.checksum.now c.args.set_aside.now old between was c.args.len c.len.result c.unwrap_or-size.result c.saturating_sub-cut.result c.size.result len c.len.ensures c.size.ensures c.unwrap_or-size.ensures c.saturating_sub-cut.ensures in
    file_not_opened g.H.Sum.sum_of setting (names_of c.args.checksum.now c.args.set_aside.now) old between (g.B.Cause.sync_failed c.args.blob.now) was (reader_remaining g.R.Read.remaining c.args.input.now) (reader_remaining g.R.Read.remaining c.read_begun.new.input) out greeting told c.in-Ok.opening
    stop c.from_residual.result c.from_residual.ensures.1 greeted c.in-Ok.ensures (subst (λ (hello : List ℕ). TellsOpening c.in-Ok.opening hello greeting told (Err stop)) same c.in_err-version.ensures)

pub returns-in-Some : goal.returns-in-Some
returns-in-Some g c = λ old out len greeted.
    let setting = c.args.setting.now in
    let between = g.B.Blob.life c.args.blob.now in
    let was = c.args.session.now in
    let greeting = writer_contents g.W.Write.contents c.args.out.now in
    let told = writer_contents g.W.Write.contents c.tell_opening.new.out in
    let version = c.in-Some.version in
    let same = hello_is setting c.args.checksum.now c.args.set_aside.now old between was c.args.len c.len.result c.unwrap_or-size.result c.saturating_sub-cut.result c.size.result len c.len.ensures c.size.ensures c.unwrap_or-size.ensures c.saturating_sub-cut.ensures in
    let hello = hello_for setting (names_of c.args.checksum.now c.args.set_aside.now) old between was in
    let tells : TellsOpening c.in-Ok.opening hello greeting told (Ok (Some version)) = subst (λ (o : Option Version). TellsOpening c.in-Ok.opening hello greeting told (Ok o)) c.in-Some.is (subst (λ (bytes : List ℕ). TellsOpening c.in-Ok.opening bytes greeting told (Ok c.in_ok-version.field-0)) same c.in_ok-version.ensures) in
    file_served g.H.Sum.sum_of setting (names_of c.args.checksum.now c.args.set_aside.now) old between (g.B.Cause.sync_failed c.args.blob.now) was (reader_remaining g.R.Read.remaining c.args.input.now) (reader_remaining g.R.Read.remaining c.read_begun.new.input) out greeting told c.in-Ok.opening
    (g.B.Blob.life c.serve.new.blob) (g.B.Cause.sync_failed c.serve.new.blob) c.serve.new.session (reader_remaining g.R.Read.remaining c.serve.new.input) (writer_contents g.W.Write.contents c.serve.new.out) version c.serve.result greeted c.in-Ok.ensures tells c.serve.ensures.serves

pub returns-in-None : goal.returns-in-None
returns-in-None g c = λ old out len greeted.
    let setting = c.args.setting.now in
    let between = g.B.Blob.life c.args.blob.now in
    let was = c.args.session.now in
    let greeting = writer_contents g.W.Write.contents c.args.out.now in
    let told = writer_contents g.W.Write.contents c.tell_opening.new.out in
    let same = hello_is setting c.args.checksum.now c.args.set_aside.now old between was c.args.len c.len.result c.unwrap_or-size.result c.saturating_sub-cut.result c.size.result len c.len.ensures c.size.ensures c.unwrap_or-size.ensures c.saturating_sub-cut.ensures in
    file_over g.H.Sum.sum_of setting (names_of c.args.checksum.now c.args.set_aside.now) old between (g.B.Cause.sync_failed c.args.blob.now) was (reader_remaining g.R.Read.remaining c.args.input.now) (reader_remaining g.R.Read.remaining c.read_begun.new.input) out greeting told c.in-Ok.opening
    greeted c.in-Ok.ensures c.in_ok-version.field-0 c.in-None.is (subst (λ (bytes : List ℕ). TellsOpening c.in-Ok.opening bytes greeting told (Ok c.in_ok-version.field-0)) same c.in_ok-version.ensures)
