use Rattle.std.proofs.Common.{◌≡◌, ◌∷◌, [], ℕ, arith, length, refl, subst, sym, true, false}
use Rattle.std.specs.Prelude.{Bool, Vec, is_some, ◌&&◌}
use Rattle.std.specs.declared.alloc.Global.{Global}
use Rattle.session.specs.declared.steps.Step.TheVariants.{Append}
use Rattle.protocol.specs.Serve.{IsAnswer}
use Rattle.protocol.specs.Taking.{IsStepAnswer, WritesAnswer}
use Rattle.protocol.specs.declared.request.Request.TheVariants.{Step}
use Rattle.protocol.proofs.Requested.{append_taken, runs_request, step_answers, writer_there}
use Rattle.protocol.proofs.Taken.{writes_as}
use Rattle.protocol.proofs.taking.take_append.Goals as goal

pub returns-clause-takes : goal.returns-clause-takes
returns-clause-takes g c =
    let bytes = c.args.bytes.now in
    let owned : Vec ℕ Global = record { ptr = c.new-owned.result.ptr; len = length bytes; cap = length bytes; alloc = c.new-owned.result.alloc; items = bytes; ok = (refl, omega arith); small = omega arith } in
    let same : owned.items ≡ bytes = refl in
    let replies = c.append-reply.result ∷ [] in
    let now = c.append-reply.new.session in
    let out = g.W.Write.contents c.args.out.now in
    let written = g.W.Write.contents c.answer-written.new.out in
    let failed = g.B.Cause.sync_failed c.append-reply.new.blob in
    let there = writer_there c.is_some-has_writer.result c.size.result now c.is_some-has_writer.ensures c.size.ensures in
    let told : WritesAnswer (IsStepAnswer c.args.version replies c.is_some-has_writer.result failed) out written c.answer-written.result =
    subst (λ (b : Bool). WritesAnswer (IsStepAnswer c.args.version replies c.is_some-has_writer.result b) out written c.answer-written.result) c.failed_sync-failed.ensures c.answer-written.ensures in
    let wrote : WritesAnswer (IsStepAnswer c.args.version replies (is_some now.writer) failed) out written c.answer-written.result =
    subst (λ (b : Bool). WritesAnswer (IsStepAnswer c.args.version replies b failed) out written c.answer-written.result) there told in
    let may : (c.args._setting.now.read_only && true) ≡ false = subst (λ (b : Bool). (b && true) ≡ false) (sym c.requires.may) refl in (
      owned,
      same,
      runs_request g.H.Sum.sum_of c.args._setting.now c.args.version (Step (Append owned)) (Append owned ∷ []) c.args.session.now now c.args.cache.now c.append-reply.new.cache (g.B.Blob.life c.args.blob.now) (g.B.Blob.life c.append-reply.new.blob) failed replies out written c.answer-written.result c.told_of-2.result
          may refl (c.append-reply.ensures.runs owned same)
          (writes_as (IsStepAnswer c.args.version replies (is_some now.writer) failed) (IsAnswer c.args.version (Step (Append owned)) replies now failed) out written c.answer-written.result (λ answer is. step_answers c.args.version (Append owned) replies now failed answer is) wrote) c.told_of-2.ensures,
    )

pub returns-in-At-clause-takes : goal.returns-in-At-clause-takes
returns-in-At-clause-takes g c =
    let bytes = c.args.bytes.now in
    let owned : Vec ℕ Global = record { ptr = c.new-owned.result.ptr; len = length bytes; cap = length bytes; alloc = c.new-owned.result.alloc; items = bytes; ok = (refl, omega arith); small = omega arith } in
    let same : owned.items ≡ bytes = refl in
    let new = g.B.Blob.life c.append-reply.new.blob in (
      owned,
      same,
      append_taken g.H.Sum.sum_of c.args._setting.now c.args.version owned c.args.session.now c.append-reply.new.session c.args.cache.now c.append-reply.new.cache (g.B.Blob.life c.args.blob.now) new (g.B.Cause.sync_failed c.append-reply.new.blob) c.in-At.at
          (g.W.Write.contents c.args.out.now) (g.W.Write.contents c.write_number-written.new.out) c.write_number-written.result c.told_of.result c.requires.may (c.in-At.ensures.runs owned same) c.write_number-written.ensures c.told_of.ensures,
    )
