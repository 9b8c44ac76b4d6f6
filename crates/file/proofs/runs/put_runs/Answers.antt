use Rattle.std.proofs.Common.{◌≡◌, ◌+◌, List, ℕ, [], ◌++◌, Ok, Err, take, drop, sym, ◌∙◌, subst, slice_index_or}
use Rattle.std.specs.List.{concat}
use Rattle.std.proofs.lemmas.List.{take_all}
use Rattle.std.proofs.lemmas.Result.{err_from_is_err_and}
use Rattle.disk.proofs.Bufs.{concat_more}
use Rattle.file.specs.Runs.{WritesUpTo}
use Rattle.file.proofs.Running.{puts_then, fails_then, puts_last, all_put, all_failed, concat_around}
use Rattle.file.proofs.runs.put_runs.Goals as goal

pub returns-in_err-next : goal.returns-in_err-next
returns-in_err-next g c =
    let error = err_from_is_err_and c.from_residual.result c.from_residual.ensures.1 in
    let bufs = c.args.bufs.now in
    let i = c.loop-buf.buf-index in
    let buf = c.as_ref.result.now in
    let goes = g.S.Sink.goes in
    let at = c.args.offset in
    let old = c.args.sink.now in
    let new = c.add.new.sink in
    let left = c.add.new.gathered.items in
    let e = c.in_err-next.field-0.0 in
    let is : slice_index_or bufs i c.buf-item.result ≡ buf = sym c.buf-item.is ∙ sym c.as_ref.ensures in
    let around : (concat (take i bufs) ++ buf) ++ concat (drop (i + 1) bufs) ≡ concat bufs =
    subst (λ (l : List ℕ). (concat (take i bufs) ++ l) ++ concat (drop (i + 1) bufs) ≡ concat bufs) is (concat_around bufs i c.buf-item.result c.loop-buf-test.true) in
    let failed = puts_then goes at c.loop-buf.next (concat (take i bufs)) c.loop-buf.gathered.items buf left old c.loop-buf.sink new (Err e) c.loop-buf.invariant c.in_err-next.ensures in
    rw (error.1, ← around)
    (all_failed goes at ((concat (take i bufs) ++ buf) ++ concat (drop (i + 1) bufs)) left old new e error.0
    (fails_then goes at (concat (take i bufs) ++ buf) left (concat (drop (i + 1) bufs)) left old new e e failed))

pub loop-buf-preserved : goal.loop-buf-preserved
loop-buf-preserved g c =
    let bufs = c.args.bufs.now in
    let i = c.loop-buf.buf-index in
    let buf = c.as_ref.result.now in
    let is : slice_index_or bufs i c.buf-item.result ≡ buf = sym c.buf-item.is ∙ sym c.as_ref.ensures in
    rw (concat_more bufs i c.buf-item.result c.loop-buf-test.true, is)
    (puts_then {E = ℕ} g.S.Sink.goes c.args.offset c.loop-buf.next (concat (take i bufs)) c.loop-buf.gathered.items buf c.add.new.gathered.items c.args.sink.now c.loop-buf.sink c.add.new.sink (Ok c.in_ok-next.next) c.loop-buf.invariant c.in_ok-next.ensures)

pub returns-in_err-put_gathered : goal.returns-in_err-put_gathered
returns-in_err-put_gathered g c =
    let error = err_from_is_err_and c.from_residual-in_err-put_gathered.result c.from_residual-in_err-put_gathered.ensures.1 in
    let bufs = c.args.bufs.now in
    let e = c.in_err-put_gathered.field-0.0 in
    let all = take_all c.loop-buf.buf-index bufs c.loop-buf-test.false in
    rw error.1
    (all_failed g.S.Sink.goes c.args.offset (concat bufs) [] c.args.sink.now c.put_gathered.new.sink e error.0
    (subst (λ (l : List (List ℕ)). WritesUpTo g.S.Sink.goes c.args.offset (concat l) [] c.args.sink.now c.put_gathered.new.sink (Err e)) all
    (puts_last g.S.Sink.goes c.args.offset c.loop-buf.next (concat (take c.loop-buf.buf-index bufs)) c.loop-buf.gathered.items [] c.args.sink.now c.loop-buf.sink c.put_gathered.new.sink (Err e) c.loop-buf.invariant c.in_err-put_gathered.ensures.puts)))

pub returns : goal.returns
returns g c =
    let bufs = c.args.bufs.now in
    let last = c.in_ok-put_gathered.field-0 in
    let all = take_all c.loop-buf.buf-index bufs c.loop-buf-test.false in
    all_put g.S.Sink.goes c.args.offset last (concat bufs) c.args.sink.now c.put_gathered.new.sink
    (subst (λ (l : List (List ℕ)). WritesUpTo {E = ℕ} g.S.Sink.goes c.args.offset (concat l) [] c.args.sink.now c.put_gathered.new.sink (Ok last)) all
    (puts_last {E = ℕ} g.S.Sink.goes c.args.offset c.loop-buf.next (concat (take c.loop-buf.buf-index bufs)) c.loop-buf.gathered.items [] c.args.sink.now c.loop-buf.sink c.put_gathered.new.sink (Ok last) c.loop-buf.invariant c.in_ok-put_gathered.ensures.puts))
