use Rattle.std.proofs.Common.{◌∙◌, ℕ, subst}
use Rattle.paged_read.specs.Tail.{logical_bytes, tail_at}
use Rattle.journal.specs.Costs.{RangeCosts}
use Rattle.journal.proofs.Costs.{frame_costs, frame_unread}
use Rattle.journal.proofs.Journals.{frame_read}
use Rattle.journal.proofs.Readers.{views_join}
use Rattle.journal.proofs.lookup.read_frame.Goals as goal

pub returns-clause-reads : goal.returns-clause-reads
returns-clause-reads g c =
    let t = tail_at c.args.view.page_size c.args.view.id c.args.view.tip.now in
    let old = g.B.Blob.life c.args.blob.now in
    let mid = g.B.Blob.life c.frame_len_at.new.blob in
    let left = c.frame_len_at.ensures.leaves in
    frame_read (logical_bytes t old.present.readable) (logical_bytes t mid.present.readable) c.args.offset c.args.rest c.in_ok-len.len old mid (g.B.Blob.life c.read_bytes.new.blob) c.read_bytes.result
    left.looked left.holds c.in_ok-len.ensures.measures c.read_bytes.ensures.reads

pub returns-clause-leaves : goal.returns-clause-leaves
returns-clause-leaves g c =
    views_join g.H.Sum.sum_of (tail_at c.args.view.page_size c.args.view.id c.args.view.tip.now) c.args.cache.now c.frame_len_at.new.cache c.read_bytes.new.cache (g.B.Blob.life c.args.blob.now) (g.B.Blob.life c.frame_len_at.new.blob) (g.B.Blob.life c.read_bytes.new.blob)
    c.frame_len_at.ensures.leaves c.read_bytes.ensures.leaves

pub returns-in_err-len-clause-costs : goal.returns-in_err-len-clause-costs
returns-in_err-len-clause-costs g c =
    let t = tail_at c.args.view.page_size c.args.view.id c.args.view.tip.now in
    let old = g.B.Blob.life c.args.blob.now in
    frame_unread t (logical_bytes t old.present.readable) c.args.offset c.args.rest c.args.cache.now c.frame_len_at.new.cache old (g.B.Blob.life c.frame_len_at.new.blob) (c.requires.within ∙ c.requires.opened.size) c.requires.some c.frame_len_at.ensures.costs

pub returns-clause-costs : goal.returns-clause-costs
returns-clause-costs g c =
    let t = tail_at c.args.view.page_size c.args.view.id c.args.view.tip.now in
    let old = g.B.Blob.life c.args.blob.now in
    let mid = g.B.Blob.life c.frame_len_at.new.blob in
    let new = g.B.Blob.life c.read_bytes.new.blob in
    let held = logical_bytes t old.present.readable in
    frame_costs t held c.args.offset c.args.rest c.args.cache.now c.frame_len_at.new.cache c.read_bytes.new.cache old mid new (c.requires.within ∙ c.requires.opened.size) c.requires.some c.frame_len_at.ensures.costs
    (subst (λ (n : ℕ). RangeCosts t (c.args.offset, n) c.frame_len_at.new.cache c.read_bytes.new.cache mid new) c.in_ok-len.ensures.measures.0 c.read_bytes.ensures.costs)
