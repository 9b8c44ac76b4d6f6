use Rattle.std.proofs.Common.{Ok, Err}
use Rattle.std.proofs.lemmas.Result.{err_from_is_err_and}
use Rattle.std.specs.Int.NonZero.{non_zero_u16_get}
use Rattle.paged.proofs.Mends.{pages_mended, pages_unmended}
use Rattle.paged.proofs.recovery.keep_pages.Goals as goal

pub returns-in_default : goal.returns-in_default
returns-in_default g c =
    let life = g.B.Blob.life in
    record { keeps = pages_unmended (non_zero_u16_get c.args.page_size) c.args.kept c.args.page c.args.bad (life c.args.blob.now) (life c.cut_back.new.blob) c.in_ok-sync_state.sync_state c.in_default.not-Some c.in_ok-sync_state.ensures.cuts }

pub returns-in_err-empty_slot : goal.returns-in_err-empty_slot
returns-in_err-empty_slot g c =
    let life = g.B.Blob.life in
    let e = c.in_err-empty_slot.field-0.0 in
    let q = err_from_is_err_and c.from_residual-in_err-empty_slot.result c.from_residual-in_err-empty_slot.ensures.1 in
    rw (q.1, q.2) (record {
      keeps = pages_mended (non_zero_u16_get c.args.page_size) c.args.kept c.args.page c.args.size c.args.bad c.in-Some.slot (life c.args.blob.now) (life c.cut_back.new.blob) (life c.empty_slot.new.blob) c.in_ok-sync_state.sync_state (Err e)
          c.requires.length c.in-Some.is c.in_ok-sync_state.ensures.cuts c.in_err-empty_slot.ensures;
    })

pub returns : goal.returns
returns g c =
    let life = g.B.Blob.life in
    record {
      keeps = pages_mended (non_zero_u16_get c.args.page_size) c.args.kept c.args.page c.args.size c.args.bad c.in-Some.slot (life c.args.blob.now) (life c.cut_back.new.blob) (life c.empty_slot.new.blob) c.in_ok-sync_state.sync_state (Ok tt)
          c.requires.length c.in-Some.is c.in_ok-sync_state.ensures.cuts c.in_ok-empty_slot.ensures;
    }
