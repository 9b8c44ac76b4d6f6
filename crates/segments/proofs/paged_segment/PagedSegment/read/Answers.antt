use Rattle.std.specs.Prelude.{◌≡◌, ◌⊎◌, ◌≤◌, Bool, true, Ok}
use Rattle.std.proofs.Common.{rules, subst}
use Rattle.segments.specs.PagedReads.{IsBeginBy, CheckGoes, PagedSegmentState}
use Rattle.segments.proofs.SegmentMarks.{begins_at_end, checked_begin, marked_since, no_memory_there}
use Rattle.segments.proofs.paged_segment.PagedSegment.read.Goals as goal

pub read_begin-requires : goal.read_begin-requires
read_begin-requires g c =
    let i : PagedSegmentState = record { number = c.self.inside.number; content = c.self.inside.content; is_settled = c.self.inside.is_settled; marks_root = c.self.inside.marks_root; marks = c.self.inside.marks; ended = c.self.inside.ended } in
    subst (λ (p : PagedSegmentState). (p.content.seal.len ≤ c.args.offset) ⊎ IsBeginBy g.D.Digest.digest_of c.args.offset p) c.self.view_is (begins_at_end g.D.Digest.digest_of i c.args.offset c.if-offset-self.true c.self.invariant)

pub read_begin-requires-in-Ok-true : goal.read_begin-requires-in-Ok-true
read_begin-requires-in-Ok-true g c =
    let told : c.in-Ok-true.field-0 ≡ true = search rules in
    checked_begin g.D.Digest.digest_of c.args.offset c.args.self.now c.may_begin.new.self
    (subst (λ (b : Bool). CheckGoes g.D.Digest.digest_of c.args.offset c.args.self.now c.may_begin.new.self (Ok b)) told c.in-Ok-true.ensures)

pub returns-in-Ok-true : goal.returns-in-Ok-true
returns-in-Ok-true g c =
    marked_since g.D.Digest.digest_of g.R.Sum.sum_of c.args.offset c.args.self.now c.may_begin.new.self c.read_begin-in-Ok-true.new.self _ c.read_begin-in-Ok-true.result c.in-Ok-true.ensures c.read_begin-in-Ok-true.ensures

pub returns-in-Err-OutOfMemory : goal.returns-in-Err-OutOfMemory
returns-in-Err-OutOfMemory g c = no_memory_there g.D.Digest.digest_of g.R.Sum.sum_of c.args.offset c.args.self.now c.may_begin.new.self _ c.in-Err-OutOfMemory.ensures

pub returns-in-Err-Damaged : goal.returns-in-Err-Damaged
returns-in-Err-Damaged g c =
    marked_since g.D.Digest.digest_of g.R.Sum.sum_of c.args.offset c.args.self.now c.may_begin.new.self c.read_and_check.new.self _ c.read_and_check.result c.in-Err-Damaged.ensures c.read_and_check.ensures

pub returns-in-Err-System : goal.returns-in-Err-System
returns-in-Err-System g c =
    marked_since g.D.Digest.digest_of g.R.Sum.sum_of c.args.offset c.args.self.now c.may_begin.new.self c.read_and_check-in-Err-System.new.self _ c.read_and_check-in-Err-System.result c.in-Err-System.ensures c.read_and_check-in-Err-System.ensures
