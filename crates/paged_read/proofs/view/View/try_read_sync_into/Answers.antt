use Rattle.std.proofs.Common.{◌≡◌, ◌+◌, ◌-◌, ◌*◌, ◌≤◌, ◌∙◌, ◌++◌, length, take, drop, sym, ap, arith, true, false}
use Rattle.std.proofs.lemmas.List.{length-take-le}
use Rattle.paged_read.specs.Tail.{logical_bytes, tail_at}
use Rattle.paged_read.specs.Ranges.{slice, is_served}
use Rattle.paged_read.proofs.WholeReads.{part_served, parts_join, two_parts, second_len, tries_no, tries_yes}
use Rattle.paged_read.proofs.view.View.try_read_sync_into.Goals as goal

pub returns-then-not-copy_held-clause-goes : goal.returns-then-not-copy_held-clause-goes
returns-then-not-copy_held-clause-goes g c =
    let t = tail_at c.args.self.page_size c.args.self.id c.args.self.tip.now in
    let below = c.len_below-below.result in
    let len = length c.args.buf.now in
    let many : length (take below c.args.buf.now) ≡ below = length-take-le below c.args.buf.now (omega (arith, c.len_below-below.ensures)) in
    let missed : is_served c.args.cache.now t (c.args.offset, len) ≡ false =
    part_served t c.args.cache.now c.args.offset len below c.len_below-below.ensures ∙ ap (λ n. is_served c.args.cache.now t (c.args.offset, n)) (sym many) ∙ sym c.copy_held.ensures.tries.0 ∙ c.if-not-copy_held.true in
    tries_no t (c.args.offset, len) c.args.cache.now (c.copy_held.new.buf ++ drop below c.args.buf.now) missed

pub returns-clause-goes : goal.returns-clause-goes
returns-clause-goes g c =
    let t = tail_at c.args.self.page_size c.args.self.id c.args.self.tip.now in
    let below = c.len_below-below.result in
    let len = length c.args.buf.now in
    let within : below ≤ len = omega (arith, c.len_below-below.ensures) in
    let many : length (take below c.args.buf.now) ≡ below = length-take-le below c.args.buf.now within in
    let held : c.copy_held.result ≡ true = c.if-not-copy_held.false in
    let served : is_served c.args.cache.now t (c.args.offset, len) ≡ true =
    part_served t c.args.cache.now c.args.offset len below c.len_below-below.ensures ∙ ap (λ n. is_served c.args.cache.now t (c.args.offset, n)) (sym many) ∙ sym c.copy_held.ensures.tries.0 ∙ held in
    let ends : c.in-Some.end ≡ c.args.offset + len = grind arith in
    tries_yes t (c.args.offset, len) c.args.cache.now _ (omega (arith, ends, c.size-size.ensures, c.if-end-size.false)) served (λ d can.
    let front : c.copy_held.new.buf ≡ slice (logical_bytes t d.readable) (c.args.offset, below) = c.copy_held.ensures.tries.1 held d can ∙ ap (λ n. slice (logical_bytes t d.readable) (c.args.offset, n)) many in
    let back : c.copy_tip.new.buf ≡ take (len - below) (drop (c.args.offset + below - t.full_pages * t.page_size) t.bytes) =
    c.copy_tip.ensures ∙ ap (λ n. take n (drop (c.args.offset + below - t.full_pages * t.page_size) t.bytes)) (second_len below c.args.buf.now c.copy_held.new.buf within c.copy_held.ensures.size) in
    two_parts below c.args.buf.now c.copy_held.new.buf c.copy_tip.new.buf within c.copy_held.ensures.size ∙ parts_join t c.args.cache.now c.args.offset len below c.len_below-below.ensures d c.copy_held.new.buf c.copy_tip.new.buf can front back)
