use Rattle.paged.proofs.Refused.{write_late}
use Rattle.paged.proofs.Caching.{puts_carried, puts_alike, puts_before, synced_pages}
use Rattle.std.proofs.Common.{◌≡◌, ◌∙◌, refl, sym, subst, ap, arith, true, false}
use Rattle.crash.proofs.BelowLaws.{pages_join, sync_pages_stay}
use Rattle.writer_state.proofs.StandLaws.{write_stands, sync_stands}
use Rattle.paged.proofs.Below.{flush_pages}
use Rattle.paged.proofs.Covers.{flush_covers, carried_covers, second_covers}
use Rattle.std.proofs.lemmas.Result.{err_from_is_err_and}
use Rattle.writer_state.specs.WriterState.{WriterState}
use Rattle.writer_state.specs.declared.sync_state.SyncState.{SyncState}
use Rattle.writer_state.specs.declared.sync_state.SyncState.TheVariants.{Clean}
use Rattle.writer_state.specs.Sound.{IsConsistent, CanWrite, StateFits}
use Rattle.std.specs.Prelude.{Ok, Err}
use Rattle.paged.specs.Flush.{full_in, offset_of, flush_bytes}
use Rattle.paged.proofs.Flushing.{can_sync}
use Rattle.paged.proofs.Known.{consistent_tells, carried_tells}
use Rattle.paged.proofs.Flushes.{flush_goes, dirty_carried, sync_write, sync_second, sync_asks_once, sync_asks_twice, dirty_state, ready_settled, dirty_settled}
use Rattle.paged.proofs.Causes.{write_asks, sync_asks}
use Rattle.paged.proofs.writer.Writer.write_durably.Goals as goal

pub write_pages-requires-clause-can : goal.write_pages-requires-clause-can
unfolding IsConsistent
write_pages-requires-clause-can g c =
    subst (λ (v : WriterState). CanWrite v.page_size v.tip (full_in v) c.has_rest-rest.result) (sym c.carry.ensures.is)
    (can_sync c.args.self.now c.has_rest-rest.result c.requires.holds.stands.some c.requires.work c.has_rest-rest.ensures)

pub write_pages-requires-clause-settled : goal.write_pages-requires-clause-settled
unfolding IsConsistent
write_pages-requires-clause-settled g c =
    let clean : c.args.self.now.sync ≡ Clean = sym (ap (λ s. s.sync) c.self.view_is) ∙ c.in-Clean.is in
    λ durable. (subst (λ (s : SyncState). StateFits (g.B.Blob.life c.args.blob.now).present s) clean c.requires.holds.stands.state).0

pub write_pages-requires-clause-known : goal.write_pages-requires-clause-known
write_pages-requires-clause-known g c =
    carried_tells g.H.Sum.sum_of c.args.self.now c.carry.new.self (g.B.Blob.life c.args.blob.now).present c.requires.holds c.carry.ensures.is

pub write_pages-requires-in-Dirty : goal.write_pages-requires-in-Dirty
unfolding IsConsistent
write_pages-requires-in-Dirty g c =
    let w = c.args.self.now in
    record {
      cached = c.requires.cached;
      can = can_sync w c.has_rest-rest.result c.requires.holds.stands.some c.requires.work c.has_rest-rest.ensures;
      known = consistent_tells g.H.Sum.sum_of w (g.B.Blob.life c.args.blob.now).present c.requires.holds;
      settled = λ durable. absurd (cc durable);
    }

pub returns-in_err-write_pages-in-Dirty : goal.returns-in_err-write_pages-in-Dirty
unfolding IsConsistent
returns-in_err-write_pages-in-Dirty g c =
    let sum = g.H.Sum.sum_of in
    let w = c.args.self.now in
    let rest = c.has_rest-rest.result in
    let old = g.B.Blob.life c.args.blob.now in
    let mid = g.B.Blob.life c.write_pages-in-Dirty.new.blob in
    let e = c.in_err-write_pages-in-Dirty.field-0.0 in
    let dirty = dirty_state w c.self.inside.sync_state (ap (λ s. s.sync) c.self.view_is) c.requires.waited c.in-Dirty.is in
    let can = can_sync w rest c.requires.holds.stands.some c.requires.work c.has_rest-rest.ensures in
    let p = err_from_is_err_and c.from_residual.result c.from_residual.ensures.1 in
    rw (p.1, p.2) (record {
      puts = c.in_err-write_pages-in-Dirty.ensures.puts;
      syncs = flush_goes sum w c.write_pages-in-Dirty.new.self rest old mid (Err e) g.met.H.Sum.small c.requires.holds (dirty_carried w dirty) can
          c.in_err-write_pages-in-Dirty.ensures.goes c.in_err-write_pages-in-Dirty.ensures.state c.in_err-write_pages-in-Dirty.ensures.fits;
      pages = flush_pages sum w (offset_of w) (flush_bytes sum w rest) false old mid (Err e) c.requires.holds refl c.in_err-write_pages-in-Dirty.ensures.goes;
      covers = flush_covers sum w rest false old mid (Err e) g.met.H.Sum.small c.requires.holds (dirty_carried w dirty) can c.in_err-write_pages-in-Dirty.ensures.goes;
      late = λ clean. absurd (cc (dirty, clean));
      calls = sync_asks_once w old mid c.requires.work (write_asks (offset_of w) (flush_bytes sum w rest) false old mid (Err e) c.in_err-write_pages-in-Dirty.ensures.goes);
      starts = write_stands (offset_of w) (flush_bytes sum w rest) false old mid (Err e) (dirty_settled sum w old.present c.requires.holds dirty) c.in_err-write_pages-in-Dirty.ensures.goes;
    })

pub returns-in-Clean : goal.returns-in-Clean
unfolding IsConsistent
returns-in-Clean g c =
    let sum = g.H.Sum.sum_of in
    let w = c.args.self.now in
    let v = c.carry.new.self in
    let rest = c.has_rest-rest.result in
    let old = g.B.Blob.life c.args.blob.now in
    let new = g.B.Blob.life c.write_pages.new.blob in
    let can = can_sync w rest c.requires.holds.stands.some c.requires.work c.has_rest-rest.ensures in
    record {
      puts = puts_carried w v c.write_pages.new.self w.tip c.args.cache.now c.write_pages.new.cache c.write_pages.result c.carry.ensures.is
          (puts_alike v c.write_pages.new.self v.tip w.tip c.args.cache.now c.write_pages.new.cache c.write_pages.result (ap (λ (u : WriterState). u.tip) c.carry.ensures.is) c.write_pages.ensures.puts);
      syncs = sync_write sum w v c.write_pages.new.self rest old new c.write_pages.result
          g.met.H.Sum.small c.requires.holds c.carry.ensures.ready c.carry.ensures.is c.has_rest-rest.ensures (subst (λ (v : WriterState). CanWrite v.page_size v.tip (full_in v) rest) (sym c.carry.ensures.is) can)
          c.write_pages.ensures.goes c.write_pages.ensures.state c.write_pages.ensures.fits;
      pages = flush_pages sum w (offset_of v) (flush_bytes sum v rest) true old new c.write_pages.result c.requires.holds (ap offset_of c.carry.ensures.is) c.write_pages.ensures.goes;
      covers = carried_covers sum w v rest true old new c.write_pages.result g.met.H.Sum.small c.requires.holds c.carry.ensures.ready c.carry.ensures.is
          (subst (λ (v : WriterState). CanWrite v.page_size v.tip (full_in v) rest) (sym c.carry.ensures.is) can) c.write_pages.ensures.goes;
      late = λ _. write_late (offset_of v) (flush_bytes sum v rest) true old new c.write_pages.result c.write_pages.ensures.fits c.write_pages.ensures.goes;
      calls = sync_asks_once w old new c.requires.work (write_asks (offset_of v) (flush_bytes sum v rest) true old new c.write_pages.result c.write_pages.ensures.goes);
      starts = write_stands (offset_of v) (flush_bytes sum v rest) true old new c.write_pages.result (ready_settled sum w old.present c.requires.holds c.carry.ensures.ready) c.write_pages.ensures.goes;
    }

pub returns-in_ok-write_pages-in-Dirty : goal.returns-in_ok-write_pages-in-Dirty
unfolding IsConsistent
returns-in_ok-write_pages-in-Dirty g c =
    let sum = g.H.Sum.sum_of in
    let w = c.args.self.now in
    let m = c.write_pages-in-Dirty.new.self in
    let rest = c.has_rest-rest.result in
    let old = g.B.Blob.life c.args.blob.now in
    let mid = g.B.Blob.life c.write_pages-in-Dirty.new.blob in
    let new = g.B.Blob.life c.sync_blob.new.blob in
    let dirty = dirty_state w c.self.inside.sync_state (ap (λ s. s.sync) c.self.view_is) c.requires.waited c.in-Dirty.is in
    let can = can_sync w rest c.requires.holds.stands.some c.requires.work c.has_rest-rest.ensures in
    record {
      puts = puts_before w m c.sync_blob.new.self w.tip c.args.cache.now c.write_pages-in-Dirty.new.cache c.sync_blob.result
          (synced_pages m c.sync_blob.new.self c.sync_blob.result c.sync_blob.ensures.state) c.in_ok-write_pages-in-Dirty.ensures.puts;
      syncs = sync_second sum w m c.sync_blob.new.self rest old mid new c.sync_blob.result g.met.H.Sum.small c.requires.holds dirty c.has_rest-rest.ensures can
          c.in_ok-write_pages-in-Dirty.ensures.goes c.in_ok-write_pages-in-Dirty.ensures.state c.sync_blob.ensures.goes c.sync_blob.ensures.state;
      pages = pages_join w.page_size w.full_pages w.full_pages old mid new (omega arith)
          (flush_pages sum w (offset_of w) (flush_bytes sum w rest) false old mid (Ok tt) c.requires.holds refl c.in_ok-write_pages-in-Dirty.ensures.goes)
          (sync_pages_stay w.page_size w.full_pages mid new c.sync_blob.result c.sync_blob.ensures.goes);
      covers = second_covers sum w m old mid new c.sync_blob.result
          (flush_covers sum w rest false old mid (Ok tt) g.met.H.Sum.small c.requires.holds (dirty_carried w dirty) can c.in_ok-write_pages-in-Dirty.ensures.goes)
          (flush_goes sum w m rest old mid (Ok tt) g.met.H.Sum.small c.requires.holds (dirty_carried w dirty) can c.in_ok-write_pages-in-Dirty.ensures.goes c.in_ok-write_pages-in-Dirty.ensures.state (λ is. cc))
          c.sync_blob.ensures.goes;
      starts = sync_stands sum m mid new c.sync_blob.result
          ((flush_goes sum w m rest old mid (Ok tt) g.met.H.Sum.small c.requires.holds (dirty_carried w dirty) can c.in_ok-write_pages-in-Dirty.ensures.goes c.in_ok-write_pages-in-Dirty.ensures.state (λ is. cc)).holds)
          c.sync_blob.ensures.goes;
      late = λ clean. absurd (cc (dirty, clean));
      calls = sync_asks_twice w old mid new c.requires.work dirty
          (write_asks (offset_of w) (flush_bytes sum w rest) false old mid (Ok tt) c.in_ok-write_pages-in-Dirty.ensures.goes)
          (sync_asks mid new c.sync_blob.result c.sync_blob.ensures.goes);
    }
