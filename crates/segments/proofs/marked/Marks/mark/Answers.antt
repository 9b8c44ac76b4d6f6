use Rattle.std.proofs.Common.{◌<◌, ◌≤◌, ◌+◌, ◌*◌, ℕ, subst, sym, refl}
use Rattle.std.specs.Prelude.{Ok, Err}
use Rattle.std.proofs.lemmas.Result.{err_from_is_err_and}
use Rattle.segments.specs.MarkReads.{MarkGoes, MarksState}
use Rattle.segments.proofs.MarksRead.{mark_lost, mark_read, mark_within}
use Rattle.segments.proofs.marked.Marks.mark.Goals as goal

pub read-requires : goal.read-requires
read-requires g c =
    let m : MarksState = record { len = c.self.inside.len; root = c.self.inside.root; bytes = c.self.inside.bytes } in
    let here : c.args.i * m.bytes.page_size < m.len = subst (λ (n : MarksState). c.args.i * n.bytes.page_size < n.len) (sym c.self.view_is) c.requires in
    let within : c.args.i * c.self.inside.page_size < m.len = subst (λ (P : ℕ). c.args.i * P < m.len) c.self.invariant.page_size here in
    subst (λ (n : ℕ). c.args.i * 8 + 8 ≤ n) (sym c.self.invariant.len) (mark_within c.self.inside.page_size c.self.inside.len c.args.i c.self.invariant.positive within)

pub returns-in_err-read : goal.returns-in_err-read
returns-in_err-read g c =
    let p = err_from_is_err_and c.from_residual.result c.from_residual.ensures.1 in
    let m : MarksState = record { len = c.self.inside.len; root = c.self.inside.root; bytes = c.self.inside.bytes } in
    rw (p.1, p.2) (subst (λ (n : MarksState). MarkGoes g.D.Digest.digest_of c.args.i n (record m { bytes = c.read.new.self }) (Err c.in_err-read.field-0.0)) c.self.view_is
    (mark_lost g.D.Digest.digest_of g.met.D.Digest.sized c.self.inside.page_size m c.self.invariant c.args.i c.read.new.self _ c.read.new.bytes c.in_err-read.field-0.0 refl c.in_err-read.ensures))

pub returns : goal.returns
returns g c =
    let m : MarksState = record { len = c.self.inside.len; root = c.self.inside.root; bytes = c.self.inside.bytes } in
    let here : c.args.i * m.bytes.page_size < m.len = subst (λ (n : MarksState). c.args.i * n.bytes.page_size < n.len) (sym c.self.view_is) c.requires in
    subst (λ (n : MarksState). MarkGoes g.D.Digest.digest_of c.args.i n (record m { bytes = c.read.new.self }) (Ok c.mark_of.result)) c.self.view_is
    (mark_read g.D.Digest.digest_of g.met.D.Digest.sized c.self.inside.page_size m c.self.invariant c.args.i c.read.new.self _ c.read.new.bytes c.mark_of.result refl here c.mark_of.ensures.bytes c.mark_of.ensures.few
    c.mark_of.ensures.near c.in_ok-read.ensures)
