use Rattle.paged.proofs.Refused.{puts_none, puts_late, waited_clean}
use Rattle.std.specs.Prelude.{Err}
use Rattle.std.proofs.Common.{ap, ◌∙◌, ◌≡◌, sym, subst, true}
use Rattle.paged.proofs.Caching.{puts_nothing, puts_waited, puts_alike}
use Rattle.std.proofs.lemmas.Result.{err_from_is_err_and}
use Rattle.writer_state.specs.WriterState.{WriterState}
use Rattle.paged.specs.Flush.{has_work, with_value}
use Rattle.paged.specs.Calls.{WaitsForNone}
use Rattle.paged.proofs.Waits.{syncs_after, pages_after, covers_after, waits_for_none, sync_asks_after, sync_asks_wait}
use Rattle.paged.proofs.writer.Writer.sync_pages.Goals as goal

pub returns-in_err-wait : goal.returns-in_err-wait
returns-in_err-wait g c =
    let p = err_from_is_err_and c.from_residual.result c.from_residual.ensures.1 in
    rw (p.1, p.2) (record {
      puts = (c.args.self.now.full_pages, puts_nothing c.args.self.now.id c.args.self.now.full_pages c.args.self.now.page_size c.args.self.now.tip c.args.cache.now);
      refused = λ _. puts_none {A = Unit {0}} c.args.cache.now (Err c.in_err-wait.field-0.0);
      syncs = c.in_err-wait.ensures.waits;
      pages = c.in_err-wait.ensures.pages;
      covers = c.in_err-wait.ensures.covers;
      starts = c.in_err-wait.ensures.starts;
      calls = sync_asks_wait c.args.self.now (g.B.Blob.life c.args.blob.now) (g.B.Blob.life c.wait.new.blob) c.in_err-wait.ensures.calls;
    })

pub write_durably-requires : goal.write_durably-requires
write_durably-requires g c =
    let is = c.in_ok-wait.ensures.waits.1 in
    record {
      cached = c.requires.cached ∙ sym (ap (λ (v : WriterState). v.page_size) is);
      holds = c.in_ok-wait.ensures.waits.0.holds;
      waited = subst (λ (v : WriterState). WaitsForNone v.sync) (sym is) (waits_for_none c.args.self.now);
      work = subst (λ (v : WriterState). has_work v true ≡ true) (sym is) c.requires.work;
    }

pub returns : goal.returns
returns g c =
    let sum = g.H.Sum.sum_of in
    let w = c.args.self.now in
    let m = c.wait.new.self in
    let now = c.write_durably.new.self in
    let old = g.B.Blob.life c.args.blob.now in
    let mid = g.B.Blob.life c.wait.new.blob in
    let new = g.B.Blob.life c.write_durably.new.blob in
    let result = c.write_durably.result in
    let first = c.in_ok-wait.ensures.waits.0 in
    let is = c.in_ok-wait.ensures.waits.1 in
    record {
      puts = puts_waited w m now w.tip c.args.cache.now c.write_durably.new.cache result is
          (puts_alike m now m.tip w.tip c.args.cache.now c.write_durably.new.cache result (ap (λ (v : WriterState). v.tip) is) c.write_durably.ensures.puts);
      refused = λ one. puts_late c.args.cache.now c.write_durably.new.cache result (c.write_durably.ensures.late (waited_clean w m is one));
      syncs = syncs_after sum w m old mid new first (with_value now result) c.write_durably.ensures.syncs;
      pages = pages_after sum w m old mid new first c.in_ok-wait.ensures.pages c.write_durably.ensures.pages;
      covers = covers_after sum w m old mid new first c.in_ok-wait.ensures.covers c.write_durably.ensures.covers;
      starts = c.write_durably.ensures.starts;
      calls = sync_asks_after w m old mid new is c.in_ok-wait.ensures.calls c.write_durably.ensures.calls;
    }
