use Rattle.std.proofs.Common.{Ok, arith, ◌≡◌, ◌∙◌, refl, sym, ap, subst, ℕ, List, length, IsPermutation}
use Rattle.std.specs.Prelude.{All}
use Rattle.std.proofs.lemmas.Result.{err_from_is_err_and}
use Rattle.crash.specs.Looks.{looked_start}
use Rattle.page.specs.Page.{value_len}
use Rattle.paged_read.specs.Failures.{none_failed_start}
use Rattle.paged_read.specs.Tail.{logical_bytes, tail_at}
use Rattle.paged_read.specs.Batch.{KeepsFault, pieces_in}
use Rattle.paged_read.specs.Parts.{with_told, ArePagesFull}
use Rattle.paged_read.specs.declared.lack.Lack.{Lack}
use Rattle.paged_read.proofs.BatchKeeps.{no_lacks, delivers_same, whole_same, ready_same, told_same, marked_same, delivered_whole, lacks_ready, lacks_told, pages_full, keeps_fault}
use Rattle.paged_read.proofs.PutLaws.{puts_empty, puts_none, numbered_each}
use Rattle.std.proofs.lemmas.List.Sorted.{IsPermutation-refl}
use Rattle.paged_read.specs.Puts.{delivered_pages}
use Rattle.paged_read.proofs.BatchReads.{not_asked, no_pages, some_pages}
use Rattle.paged_read.specs.Ranges.{page_ranges}
use Rattle.paged_read.proofs.view.View.read_lacks.Goals as goal

pub keep_all-requires-clause-delivered : goal.keep_all-requires-clause-delivered
keep_all-requires-clause-delivered g c =
    let t = tail_at c.args.self.page_size c.args.self.id c.args.self.tip.now in
    let old = g.B.Blob.life c.args.blob.now in
    let new = g.B.Blob.life c.fetch.new.blob in
    let pages = c.args.batch.now.pages.items in
    let out = c.in_ok-out.out.items in
    let delivers = delivers_same t.page_size c.deref.result.now pages old.present.readable old.present.readable out out (sym c.deref.ensures.value) refl refl c.in_ok-out.ensures.reads.0 in
    whole_same t.page_size pages c.deref-2.result.now out c.deref-3.result.now c.deref-2.ensures.value c.deref-3.ensures.value (delivered_whole t pages old.present.readable out c.requires.can.there c.requires.below delivers)

pub returns-in_err-at-clause-reads : goal.returns-in_err-at-clause-reads
returns-in_err-at-clause-reads g c =
    let t = tail_at c.args.self.page_size c.args.self.id c.args.self.tip.now in
    let old = g.B.Blob.life c.args.blob.now in
    let new = g.B.Blob.life c.fetch.new.blob in
    let pages = c.args.batch.now.pages.items in
    let out = c.in_ok-out.out.items in
    let delivers = delivers_same t.page_size c.deref.result.now pages old.present.readable old.present.readable out out (sym c.deref.ensures.value) refl refl c.in_ok-out.ensures.reads.0 in
    let fault = subst (λ (o : List (ℕ × List ℕ)). KeepsFault g.H.Sum.sum_of t.page_size o c.in_err-at.field-0.0) c.deref-3.ensures.value c.in_err-at.ensures.err in
    let error = err_from_is_err_and c.from_residual-in_err-at.result c.from_residual-in_err-at.ensures.1 in
    rw (error.1, error.2) (keeps_fault g.H.Sum.sum_of t.page_size pages out old new c.in_err-at.field-0.0 delivers c.in_ok-out.ensures.reads.1 fault)

pub fill-requires : goal.fill-requires
fill-requires g c =
    let t = tail_at c.args.self.page_size c.args.self.id c.args.self.tip.now in
    let old = g.B.Blob.life c.args.blob.now in
    let new = g.B.Blob.life c.fetch.new.blob in
    let pages = c.args.batch.now.pages.items in
    let out = c.in_ok-out.out.items in
    let delivers = delivers_same t.page_size c.deref.result.now pages old.present.readable old.present.readable out out (sym c.deref.ensures.value) refl refl c.in_ok-out.ensures.reads.0 in
    let marked = marked_same c.in_ok-at.at.items out c.deref-3.result.now c.deref-3.ensures.value c.in_ok-at.ensures.found in
    let long : length c.in_ok-at.at.items ≡ length pages = c.in_ok-at.ensures.long ∙ ap (λ (l : List ℕ). length l) c.deref-2.ensures.value in
    ready_same c.in_ok-at.at.items c.deref-5.result.now out c.deref-6.result.now (length c.args.buf.now) c.args.batch.now.lacks.items c.deref-4.result.now c.deref-5.ensures.value c.deref-6.ensures.value c.deref-4.ensures.value
    (lacks_ready t pages old.present.readable c.in_ok-at.at.items out (length c.args.buf.now) c.args.batch.now.lacks.items c.requires.can.there c.requires.below delivers marked long c.requires.lacks)

pub returns-clause-reads : goal.returns-clause-reads
returns-clause-reads g c =
    let t = tail_at c.args.self.page_size c.args.self.id c.args.self.tip.now in
    let old = g.B.Blob.life c.args.blob.now in
    let new = g.B.Blob.life c.fetch.new.blob in
    let pages = c.args.batch.now.pages.items in
    let out = c.in_ok-out.out.items in
    let delivers = delivers_same t.page_size c.deref.result.now pages old.present.readable old.present.readable out out (sym c.deref.ensures.value) refl refl c.in_ok-out.ensures.reads.0 in
    let marked = marked_same c.in_ok-at.at.items out c.deref-3.result.now c.deref-3.ensures.value c.in_ok-at.ensures.found in
    let content = logical_bytes t old.present.readable in
    let each = told_same t.page_size content c.in_ok-at.at.items c.deref-5.result.now out c.deref-6.result.now c.args.batch.now.lacks.items c.deref-4.result.now c.deref-5.ensures.value c.deref-6.ensures.value c.deref-4.ensures.value
    (lacks_told t pages old.present.readable c.in_ok-at.at.items out (length c.args.buf.now) c.args.batch.now.lacks.items c.requires.can.there c.requires.below delivers marked c.requires.lacks) in
    let full = subst (λ (o : List (ℕ × List ℕ)). All (λ page. value_len g.H.Sum.sum_of t.page_size page.1 ≡ t.page_size) o) c.deref-3.ensures.value c.in_ok-at.ensures.full in (
      c.fill.ensures.told t.page_size content each ∙ ap (λ (l : List Lack). with_told t.page_size content (pieces_in l) c.args.buf.now) c.deref-4.ensures.value,
      pages_full g.H.Sum.sum_of t.page_size pages old.present.readable c.in_ok-at.at.items out delivers marked full,
      c.in_ok-out.ensures.reads.1,
    )

pub returns-in_err-out-clause-puts : goal.returns-in_err-out-clause-puts
returns-in_err-out-clause-puts g c =
    let t = tail_at c.args.self.page_size c.args.self.id c.args.self.tip.now in
    let pages = c.args.batch.now.pages.items in
    let p = err_from_is_err_and c.from_residual.result c.from_residual.ensures.1 in
    rw p.1 (record { order = pages; each = IsPermutation-refl pages; puts = puts_none g.H.Sum.sum_of t pages (g.B.Blob.life c.args.blob.now).present.readable c.args.cache.now })

pub returns-in_err-at-clause-puts : goal.returns-in_err-at-clause-puts
returns-in_err-at-clause-puts g c =
    let t = tail_at c.args.self.page_size c.args.self.id c.args.self.tip.now in
    let old = g.B.Blob.life c.args.blob.now in
    let pages = c.args.batch.now.pages.items in
    let out = c.in_ok-out.out.items in
    let delivers = delivers_same t.page_size c.deref.result.now pages old.present.readable old.present.readable out out (sym c.deref.ensures.value) refl refl c.in_ok-out.ensures.reads.0 in
    let there = delivers_same t.page_size pages c.deref-2.result.now old.present.readable old.present.readable out c.deref-3.result.now c.deref-2.ensures.value refl c.deref-3.ensures.value delivers in
    let each = subst (λ (l : List ℕ). IsPermutation l (delivered_pages c.deref-2.result.now c.deref-3.result.now)) c.deref-2.ensures.value (numbered_each t.page_size c.deref-2.result.now old.present.readable c.deref-3.result.now there) in
    let p = err_from_is_err_and c.from_residual-in_err-at.result c.from_residual-in_err-at.ensures.1 in
    rw p.1 (record { order = delivered_pages c.deref-2.result.now c.deref-3.result.now; each = each; puts = c.in_err-at.ensures.puts old c.requires.can there })

pub returns-clause-puts : goal.returns-clause-puts
returns-clause-puts g c =
    let t = tail_at c.args.self.page_size c.args.self.id c.args.self.tip.now in
    let old = g.B.Blob.life c.args.blob.now in
    let pages = c.args.batch.now.pages.items in
    let out = c.in_ok-out.out.items in
    let delivers = delivers_same t.page_size c.deref.result.now pages old.present.readable old.present.readable out out (sym c.deref.ensures.value) refl refl c.in_ok-out.ensures.reads.0 in
    let there = delivers_same t.page_size pages c.deref-2.result.now old.present.readable old.present.readable out c.deref-3.result.now c.deref-2.ensures.value refl c.deref-3.ensures.value delivers in
    let each = subst (λ (l : List ℕ). IsPermutation l (delivered_pages c.deref-2.result.now c.deref-3.result.now)) c.deref-2.ensures.value (numbered_each t.page_size c.deref-2.result.now old.present.readable c.deref-3.result.now there) in
    record { order = delivered_pages c.deref-2.result.now c.deref-3.result.now; each = each; puts = c.in_ok-at.ensures.puts old c.requires.can there }

pub returns-then-is_empty-clause-reads : goal.returns-then-is_empty-clause-reads
returns-then-is_empty-clause-reads g c =
    let t = tail_at c.args.self.page_size c.args.self.id c.args.self.tip.now in
    let old = g.B.Blob.life c.args.blob.now in
    let none = no_pages c.as_slice.result.now c.args.batch.now.pages.items (sym c.is_empty.ensures ∙ c.if-is_empty.true) c.as_slice.ensures.value in (
      ap (λ (l : List Lack). with_told t.page_size (logical_bytes t old.present.readable) (pieces_in l) c.args.buf.now) (sym (no_lacks t.page_size (length c.args.buf.now) c.args.batch.now.pages.items c.args.batch.now.lacks.items none c.requires.lacks)),
      subst (λ (l : List ℕ). ArePagesFull g.H.Sum.sum_of t.page_size l old.present.readable) (sym none) (λ page has. absurd (omega (arith, has.1))),
      none_failed_start old.present,
    )

pub returns-then-is_empty-clause-asks : goal.returns-then-is_empty-clause-asks
returns-then-is_empty-clause-asks g c =
    let t = tail_at c.args.self.page_size c.args.self.id c.args.self.tip.now in
    not_asked (page_ranges t.page_size c.args.batch.now.pages.items) (g.B.Blob.life c.args.blob.now) (g.B.Blob.life c.args.blob.now) refl

pub returns-then-is_empty-clause-puts : goal.returns-then-is_empty-clause-puts
returns-then-is_empty-clause-puts g c =
    let t = tail_at c.args.self.page_size c.args.self.id c.args.self.tip.now in
    let pages = c.args.batch.now.pages.items in
    let readable = (g.B.Blob.life c.args.blob.now).present.readable in
    let none = no_pages c.as_slice.result.now pages (sym c.is_empty.ensures ∙ c.if-is_empty.true) c.as_slice.ensures.value in
    record { order = pages; each = IsPermutation-refl pages; puts = puts_empty {A = Unit {0}} g.H.Sum.sum_of t pages readable c.args.cache.now (Ok tt) none }

pub returns-in_err-out-clause-refused : goal.returns-in_err-out-clause-refused
returns-in_err-out-clause-refused g c =
    let p = err_from_is_err_and c.from_residual.result c.from_residual.ensures.1 in
    rw p.1 (some_pages c.as_slice.result.now c.args.batch.now.pages.items (sym c.is_empty.ensures ∙ c.if-is_empty.false) c.as_slice.ensures.value)

pub returns-in_err-at-clause-refused : goal.returns-in_err-at-clause-refused
returns-in_err-at-clause-refused g c =
    let p = err_from_is_err_and c.from_residual-in_err-at.result c.from_residual-in_err-at.ensures.1 in
    rw p.1 (some_pages c.as_slice.result.now c.args.batch.now.pages.items (sym c.is_empty.ensures ∙ c.if-is_empty.false) c.as_slice.ensures.value)

pub returns-then-is_empty-clause-looked : goal.returns-then-is_empty-clause-looked
returns-then-is_empty-clause-looked g c = looked_start (g.B.Blob.life c.args.blob.now)
