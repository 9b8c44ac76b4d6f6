use Rattle.std.proofs.Common.{rules}
use Rattle.protocol.specs.Opening.{hello_bytes}
use Rattle.protocol.proofs.Opened.{agreed_untold, hello_untold, known_untold}
use Rattle.protocol.proofs.opening.tell_opening.Goals as goal

pub returns-in_err-write_frame-in-Offer-None : goal.returns-in_err-write_frame-in-Offer-None
returns-in_err-write_frame-in-Offer-None g c =
    known_untold c.args.opening (hello_bytes c.args.setting.now c.args.checksum.now c.args.set_aside.now c.args.size c.args.cut) (g.W.Write.contents c.args.out.now) (g.W.Write.contents c.write_frame.new.out) c.in_err-write_frame-in-Offer-None.field-0.0
    c.from_residual.result (search rules) c.from_residual.ensures.1 c.in_err-write_frame-in-Offer-None.ensures

pub returns-in_err-write_frame-in-Offer-Some-One : goal.returns-in_err-write_frame-in-Offer-Some-One
returns-in_err-write_frame-in-Offer-Some-One g c =
    agreed_untold c.args.opening (hello_bytes c.args.setting.now c.args.checksum.now c.args.set_aside.now c.args.size c.args.cut) (g.W.Write.contents c.args.out.now) (g.W.Write.contents c.write_frame-in-Offer-Some-One.new.out) c.in_err-write_frame-in-Offer-Some-One.field-0.0
    c.from_residual-in_err-write_frame-in-Offer-Some-One.result (search rules) c.from_residual-in_err-write_frame-in-Offer-Some-One.ensures.1 c.in_err-write_frame-in-Offer-Some-One.ensures

pub returns-in_err-write_hello-in-Offer-Some-Two : goal.returns-in_err-write_hello-in-Offer-Some-Two
returns-in_err-write_hello-in-Offer-Some-Two g c =
    hello_untold c.args.opening (hello_bytes c.args.setting.now c.args.checksum.now c.args.set_aside.now c.args.size c.args.cut) (g.W.Write.contents c.args.out.now) (g.W.Write.contents c.write_hello.new.out) c.in_err-write_hello-in-Offer-Some-Two.field-0.0
    c.from_residual-in_err-write_hello-in-Offer-Some-Two.result (search rules) c.from_residual-in_err-write_hello-in-Offer-Some-Two.ensures.1 c.in_err-write_hello-in-Offer-Some-Two.ensures
