use Rattle.std.proofs.Common.{◌≡◌, ◌∙◌, ◌<◌, ℕ, min, ap, subst, arith}
use Rattle.std.specs.Int.{div_ceil}
use Rattle.writer_state.specs.WriterState.{WriterState}
use Rattle.std.specs.Int.NonZero.{non_zero_usize_get}
use Rattle.paged_read.specs.Scans.{ReadsUpToEnd, scan_end, scan_start, scan_to}
use Rattle.paged_read.specs.Searches.{scan_bytes}
use Rattle.paged_read.proofs.Scanning.{bounded_scan}
use Rattle.paged.specs.Scans.{flushed_pages}
use Rattle.paged.proofs.Scanned.{sound_scan_most}
use Rattle.paged.proofs.writer.Writer.scan_first.Given.{Over}
use Rattle.paged.proofs.writer.Writer.scan_first.Goals as goal
use Rattle.paged.proofs.writer.Writer.scan_first.Goals.{After-scan_to}

-- where the scan ends
ends : (g : Over) (c : After-scan_to g) → c.min-end.result ≡ scan_end c.args.self.now.page_size (flushed_pages c.args.self.now) c.args.max_size
ends g c =
    let met : c.div_ceil-met.result ≡ div_ceil c.args.max_size c.args.self.now.page_size = c.div_ceil-met.ensures ∙ ap (λ (n : ℕ). div_ceil c.args.max_size n) (c.from.ensures ∙ c.get.ensures.value ∙ ap (λ (x : WriterState). x.page_size) c.self.view_is) in
    omega (arith, c.min-end.ensures, c.flushed_pages.ensures, met)

pub returns-clause-told : goal.returns-clause-told
returns-clause-told g c = λ proven.
    let w = c.args.self.now in
    let readable = (g.B.Blob.life c.args.blob.now).present.readable in
    let some = subst (λ (x : WriterState). 0 < x.page_size) c.self.view_is c.self.inside.page_size.ok in
    c.min.ensures ∙ ap (λ (n : ℕ). min c.args.max_size n) (c.in_ok-len.ensures.scans.0
    ∙ ap (λ (n : ℕ). scan_to g.H.Sum.sum_of w.page_size w.full_pages n c.args.proven readable) (ends g (goal.at.returns-clause-told g c).After-scan_to))
    ∙ bounded_scan g.H.Sum.sum_of w.page_size w.full_pages (flushed_pages w) c.args.proven c.args.max_size readable some proven

pub returns-clause-text : goal.returns-clause-text
returns-clause-text g c = λ sound.
    let w = c.args.self.now in
    let old = g.B.Blob.life c.args.blob.now in
    let some = subst (λ (x : WriterState). 0 < x.page_size) c.self.view_is c.self.inside.page_size.ok in
    c.min.ensures ∙ ap (λ (n : ℕ). min c.args.max_size n) (c.in_ok-len.ensures.scans.0
    ∙ ap (λ (n : ℕ). scan_to g.H.Sum.sum_of w.page_size w.full_pages n c.args.proven old.present.readable) (ends g (goal.at.returns-clause-text g c).After-scan_to))
    ∙ sound_scan_most g.H.Sum.sum_of w old.present c.args.proven c.args.max_size some sound

-- what the scan reads, whatever the answer
reads : (g : Over) (c : After-scan_to g) → let w = c.args.self.now in let P = w.page_size in
    let end = scan_end P (flushed_pages w) c.args.max_size in
    ReadsUpToEnd g.H.Sum.sum_of P (scan_bytes P (non_zero_usize_get c.args.buffer_size)) (scan_start P w.full_pages end c.args.proven) end (g.B.Blob.life c.args.blob.now) (g.B.Blob.life c.scan_to.new.blob)
reads g c =
    let w = c.args.self.now in
    let P = w.page_size in
    let old = g.B.Blob.life c.args.blob.now in
    let new = g.B.Blob.life c.scan_to.new.blob in
    subst (λ (n : ℕ). ReadsUpToEnd g.H.Sum.sum_of P (scan_bytes P (non_zero_usize_get c.args.buffer_size)) (scan_start P w.full_pages n c.args.proven) n old new) (ends g c) c.scan_to.ensures.reads

pub returns-in_err-len-clause-reads : goal.returns-in_err-len-clause-reads
returns-in_err-len-clause-reads g c = reads g (goal.at.returns-in_err-len-clause-reads g c).After-scan_to

pub returns-clause-reads : goal.returns-clause-reads
returns-clause-reads g c = reads g (goal.at.returns-clause-reads g c).After-scan_to
