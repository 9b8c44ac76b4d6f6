use Rattle.std.proofs.Common.{rules}
use Rattle.session.specs.Promise.{session_of}
use Rattle.session.proofs.Below.{begun_ready, begun_fits}
use Rattle.session.proofs.PromiseLaws.{stands_where_sound}
use Rattle.session.proofs.sessions.Session.new.Goals as goal

pub returns-clause-represents : goal.returns-clause-represents
returns-clause-represents g c = stands_where_sound g.H.Sum.sum_of c.args.writer

pub returns-clause-ready : goal.returns-clause-ready
returns-clause-ready g c = λ d sound. begun_ready g.H.Sum.sum_of c.args.writer (record (session_of c.args.writer) { names = c.new.result.items; snapshots = c.new-2.result.items; replays = c.new-3.result.items }) d (search rules) sound

pub returns-clause-cached : goal.returns-clause-cached
returns-clause-cached g c = λ cache d can. begun_fits c.args.writer (record (session_of c.args.writer) { names = c.new.result.items; snapshots = c.new-2.result.items; replays = c.new-3.result.items }) cache d (search rules) can
