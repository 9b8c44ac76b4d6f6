use Rattle.std.proofs.Common.{◌≡◌, ◌<◌, ◌+◌, ◌-◌, ◌∙◌, ℕ, ap, min, refl, arith}
use Rattle.std.proofs.lemmas.Result.{err_from_is_err_and}
use Rattle.journal.specs.Frame.{record_len}
use Rattle.segments.proofs.PagedFrames.{frame_fails, frame_read, frame_refused, held_found, held_refused}
use Rattle.segments.proofs.paged_frames.frame_at.Goals as goal

pub returns-in_err-framed : goal.returns-in_err-framed
returns-in_err-framed g c =
    let rest : ℕ = c.len-size.result - c.args.offset in
    let within : c.args.offset + rest ≡ c.args.content.now.seal.len = omega (arith, c.len-size.ensures, c.if-size-offset.false) in
    let some : 0 < rest = omega (arith, c.if-size-offset.false) in
    let says : c.record_len_of.result ≡ record_len c.in_ok-front.front.items = c.record_len_of.ensures.len ∙ ap record_len c.deref.ensures.value in
    let measured : c.min-len.result ≡ min rest (record_len c.in_ok-front.front.items + 7) = omega (arith, c.min-len.ensures, says) in
    let p = err_from_is_err_and c.from_residual-in_err-framed.result c.from_residual-in_err-framed.ensures.1 in
    rw (p.1, p.2) (frame_fails g.D.Digest.digest_of g.R.Sum.sum_of c.args.offset rest c.min.result c.min-len.result c.args.content.now c.read.new.self c.read-2.new.self c.in_ok-front.front within some c.min.ensures
    c.in_ok-front.ensures measured c.in_err-framed.field-0.0 c.in_err-framed.ensures)

pub returns-in_err-bytes : goal.returns-in_err-bytes
returns-in_err-bytes g c =
    let rest : ℕ = c.len-size.result - c.args.offset in
    let within : c.args.offset + rest ≡ c.args.content.now.seal.len = omega (arith, c.len-size.ensures, c.if-size-offset.false) in
    let some : 0 < rest = omega (arith, c.if-size-offset.false) in
    let says : c.record_len_of.result ≡ record_len c.in_ok-front.front.items = c.record_len_of.ensures.len ∙ ap record_len c.deref.ensures.value in
    let measured : c.min-len.result ≡ min rest (record_len c.in_ok-front.front.items + 7) = omega (arith, c.min-len.ensures, says) in
    let p = err_from_is_err_and c.from_residual-in_err-bytes.result c.from_residual-in_err-bytes.ensures.1 in
    rw (p.1, p.2, c.in_err-bytes.ensures.err) (frame_refused g.D.Digest.digest_of g.R.Sum.sum_of c.args.offset rest c.min.result c.min-len.result c.args.content.now c.read.new.self c.read-2.new.self c.in_ok-front.front within some c.min.ensures
    c.in_ok-front.ensures measured c.in_ok-framed.framed c.in_ok-framed.ensures)

pub returns : goal.returns
returns g c =
    let rest : ℕ = c.len-size.result - c.args.offset in
    let within : c.args.offset + rest ≡ c.args.content.now.seal.len = omega (arith, c.len-size.ensures, c.if-size-offset.false) in
    let some : 0 < rest = omega (arith, c.if-size-offset.false) in
    let says : c.record_len_of.result ≡ record_len c.in_ok-front.front.items = c.record_len_of.ensures.len ∙ ap record_len c.deref.ensures.value in
    let measured : c.min-len.result ≡ min rest (record_len c.in_ok-front.front.items + 7) = omega (arith, c.min-len.ensures, says) in
    frame_read g.D.Digest.digest_of g.R.Sum.sum_of c.args.offset rest c.min.result c.min-len.result c.args.content.now c.read.new.self c.read-2.new.self c.in_ok-front.front within some c.min.ensures
    c.in_ok-front.ensures measured c.in_ok-framed.framed _ c.in_ok-framed.ensures c.in_ok-bytes.ensures.found refl

pub returns-in_err-record : goal.returns-in_err-record
returns-in_err-record g c =
    let begins : c.args.offset < c.args.content.now.seal.len = omega (arith, c.len-size.ensures, c.if-size-offset.false) in
    let p = err_from_is_err_and c.from_residual.result c.from_residual.ensures.1 in
    rw (p.1, p.2, c.in_err-record.ensures.err) (held_refused g.D.Digest.digest_of g.R.Sum.sum_of c.args.offset c.in-Some.len c.args.content.now c.held-held.result.now begins c.held-held.ensures c.in-Some.ensures.0 c.in-Some.ensures.1)

pub returns-in-Some : goal.returns-in-Some
returns-in-Some g c =
    let begins : c.args.offset < c.args.content.now.seal.len = omega (arith, c.len-size.ensures, c.if-size-offset.false) in
    held_found g.D.Digest.digest_of g.R.Sum.sum_of c.args.offset c.in-Some.len c.args.content.now c.held-held.result.now begins c.held-held.ensures c.in-Some.ensures.0 c.in-Some.ensures.1 _ c.in_ok-record.ensures.found refl
