use Rattle.std.proofs.Common.{◌≡◌, ◌++◌, ◌+◌, ◌-◌, ◌<◌, ◌^◌, length, nat_lt, sym, ap, ◌∙◌, subst, Ok, arith}
use Rattle.std.proofs.lemmas.Grind.{common_steps}
use Rattle.std.specs.List.{concat}
use Rattle.page.specs.Tip.{Tip, TipAppendGoes, tip_size}
use Rattle.page.proofs.Buffers.{grown_buffer, append_goes}
use Rattle.page.proofs.buffer.Buffer.append.Goals as goal

pub invariant_of-self-2 : goal.invariant_of-self-2
invariant_of-self-2 c =
    let b = c.self.inside in
    let len_is : c.len-len.result ≡ length (concat b.chunks ++ b.tail.bytes.items) = c.len-len.ensures ∙ ap (λ (t : Tip). length t.bytes) (sym c.self.view_is) in
    let small : tip_size c.args.self.now + length c.args.bytes.now < 2 ^ 64 = subst (λ n. n + length c.args.bytes.now < 2 ^ 64) c.size.ensures (c.has_offsets.ensures.0 c.if-not-has_offsets.false) in
    let spare_is : c.spare-spare.result ≡ b.tail.limit - length b.tail.bytes.items = c.spare-spare.ensures in
    grown_buffer b.page_size b.capacity b.offset b.chunks c.extend.new.chunks b.tail.bytes.items c.args.bytes.now c.extend.new.self.bytes.items b.tail.limit c.extend.new.self.limit c.self.invariant
    (omega (arith, spare_is, c.if-bytes-spare.false))
    (subst (λ (t : Tip). tip_size t + length c.args.bytes.now < 2 ^ 64) (sym c.self.view_is) small)
    c.in_ok-extend.ensures.chunks c.in_ok-extend.ensures.tail.0
    (c.in_ok-extend.ensures.tail.1 ∙ rw (← len_is, ← spare_is) c.in_ok-limit.ensures.limit)

pub returns : goal.returns
returns c =
    let b = c.self.inside in
    let len_is : c.len-len.result ≡ length (concat b.chunks ++ b.tail.bytes.items) = c.len-len.ensures ∙ ap (λ (t : Tip). length t.bytes) (sym c.self.view_is) in
    let small : tip_size c.args.self.now + length c.args.bytes.now < 2 ^ 64 = subst (λ n. n + length c.args.bytes.now < 2 ^ 64) c.size.ensures (c.has_offsets.ensures.0 c.if-not-has_offsets.false) in
    subst (λ (old : Tip). TipAppendGoes old c.args.bytes.now (record { page_size = b.page_size; capacity = b.capacity; offset = b.offset; bytes = concat c.extend.new.chunks ++ c.extend.new.self.bytes.items }) (Ok (nat_lt b.capacity (c.len-len.result + length c.args.bytes.now)))) c.self.view_is
    (append_goes b.page_size b.capacity b.offset c.len-len.result (b.tail.limit - length b.tail.bytes.items) b.chunks c.extend.new.chunks b.tail.bytes.items c.args.bytes.now c.extend.new.self.bytes.items len_is
    (subst (λ (t : Tip). tip_size t + length c.args.bytes.now < 2 ^ 64) (sym c.self.view_is) small) c.in_ok-extend.ensures.chunks c.in_ok-extend.ensures.tail.0)

pub returns-then-bytes-spare : goal.returns-then-bytes-spare
returns-then-bytes-spare c = grind (arith, common_steps)
