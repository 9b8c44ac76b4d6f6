use Rattle.std.proofs.Common.{◌≡◌, ◌+◌, length, rules, arith}
use Rattle.protocol.proofs.Opened.{hello_begun, hello_long, hello_told, hello_unheaded, hello_unnamed, hello_unsized}
use Rattle.protocol.proofs.opening.write_hello.Goals as goal

pub returns-in_err-write_head : goal.returns-in_err-write_head
returns-in_err-write_head g c =
    let long : c.in_ok-len.len ≡ length c.args.checksum.now + length c.args.set_aside.now + 82 = search rules in
    hello_unheaded c.args.setting.now c.args.checksum.now c.args.set_aside.now c.args.size c.args.cut c.in_ok-len.len (g.W.Write.contents c.args.out.now) (g.W.Write.contents c.write_head.new.out) long
    c.in_err-write_head.field-0.0 c.from_residual-in_err-write_head.result c.from_residual-in_err-write_head.ensures.1 c.in_err-write_head.ensures

pub returns-in_err-put : goal.returns-in_err-put
returns-in_err-put g c =
    let long : c.in_ok-len.len ≡ length c.args.checksum.now + length c.args.set_aside.now + 82 = search rules in
    hello_begun c.args.setting.now c.args.checksum.now c.args.set_aside.now c.args.size c.args.cut c.in_ok-len.len (g.W.Write.contents c.args.out.now) (g.W.Write.contents c.write_head.new.out) long
    c.in_ok-write_head.ensures (g.W.Write.contents c.put.new.out) c.in_err-put.field-0.0 c.from_residual-in_err-put.result c.from_residual-in_err-put.ensures.1 (search rules)

pub returns-in_err-write_all_numbers : goal.returns-in_err-write_all_numbers
returns-in_err-write_all_numbers g c =
    let long : c.in_ok-len.len ≡ length c.args.checksum.now + length c.args.set_aside.now + 82 = search rules in
    hello_unsized c.args.setting.now c.args.checksum.now c.args.set_aside.now c.args.size c.args.cut c.in_ok-len.len (g.W.Write.contents c.args.out.now) (g.W.Write.contents c.write_head.new.out) long
    c.in_ok-write_head.ensures (g.W.Write.contents c.put.new.out) (search rules) (g.W.Write.contents c.write_all_numbers.new.out) c.in_err-write_all_numbers.field-0.0 c.from_residual-in_err-write_all_numbers.result c.from_residual-in_err-write_all_numbers.ensures.1 (search rules)

pub returns-in_err-write_text : goal.returns-in_err-write_text
returns-in_err-write_text g c =
    let long : c.in_ok-len.len ≡ length c.args.checksum.now + length c.args.set_aside.now + 82 = search rules in
    hello_unnamed c.args.setting.now c.args.checksum.now c.args.set_aside.now c.args.size c.args.cut c.in_ok-len.len (g.W.Write.contents c.args.out.now) (g.W.Write.contents c.write_head.new.out) long
    c.in_ok-write_head.ensures (g.W.Write.contents c.put.new.out) (search rules) (g.W.Write.contents c.write_all_numbers.new.out) (search rules) (g.W.Write.contents c.write_text.new.out) c.in_err-write_text.field-0.0 c.from_residual-in_err-write_text.result c.from_residual-in_err-write_text.ensures.1
    c.in_err-write_text.ensures

pub returns : goal.returns
returns g c =
    let long : c.in_ok-len.len ≡ length c.args.checksum.now + length c.args.set_aside.now + 82 = search rules in
    hello_told c.args.setting.now c.args.checksum.now c.args.set_aside.now c.args.size c.args.cut c.in_ok-len.len (g.W.Write.contents c.args.out.now) (g.W.Write.contents c.write_head.new.out) long
    c.in_ok-write_head.ensures (g.W.Write.contents c.put.new.out) (search rules) (g.W.Write.contents c.write_all_numbers.new.out) (search rules) (g.W.Write.contents c.write_text.new.out) c.in_ok-write_text.ensures (g.W.Write.contents c.write_text-2.new.out) c.write_text-2.result
    c.write_text-2.ensures
