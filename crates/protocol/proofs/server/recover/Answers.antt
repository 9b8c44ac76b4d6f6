use Rattle.std.proofs.Common.{ap, rules}
use Rattle.std.proofs.lemmas.Result.{err_from_is_err_and}
use Rattle.cache.specs.CacheState.{CacheState}
use Rattle.protocol.proofs.Beginning.{begins, begins_not, looked_none}
use Rattle.protocol.proofs.server.recover.Goals as goal

pub returns-in_err-cache-clause-recovers : goal.returns-in_err-cache-clause-recovers
returns-in_err-cache-clause-recovers g c =
    let p = err_from_is_err_and c.from_residual.result c.from_residual.ensures.1 in
    rw (p.1, p.2) (looked_none g.H.Sum.sum_of c.args.setting.now (g.B.Blob.life c.args.blob.now))

pub returns-in_err-session-clause-recovers : goal.returns-in_err-session-clause-recovers
returns-in_err-session-clause-recovers g c =
    let p = err_from_is_err_and c.from_residual-in_err-session.result c.from_residual-in_err-session.ensures.1 in
    rw (p.1, p.2)
    (begins_not g.H.Sum.sum_of c.args.setting.now c.in_ok-cache.cache (g.B.Blob.life c.args.blob.now) (g.B.Blob.life c.recover_within.new.blob) c.in_err-session.field-0.0 (ap (λ (x : CacheState). x.page_size) c.in_ok-cache.ensures.made) c.in_err-session.ensures.goes.begins c.recover_within.ensures.owes.attempts)

pub returns-clause-recovers : goal.returns-clause-recovers
returns-clause-recovers g c =
    begins g.H.Sum.sum_of c.args.setting.now c.in_ok-cache.cache (g.B.Blob.life c.args.blob.now) (g.B.Blob.life c.recover_within.new.blob) c.in_ok-session.session (ap (λ (x : CacheState). x.page_size) c.in_ok-cache.ensures.made) c.in_ok-session.ensures.goes.begins

pub returns-clause-ready : goal.returns-clause-ready
returns-clause-ready g c = c.in_ok-session.ensures.ready (search rules)
