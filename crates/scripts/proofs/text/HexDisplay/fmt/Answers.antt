use Rattle.std.proofs.Common.{rules, refl, Ok}
use Rattle.std.proofs.Output.{has_written_append, has_written_of_eq, displays_on_ok_of_eq}
use Rattle.scripts.proofs.HexText.{styled-hex_digits, hex-take_more}
use Rattle.scripts.proofs.text.HexDisplay.fmt.Goals as goal

pub loop-byte-preserved : goal.loop-byte-preserved
loop-byte-preserved g c = λ plain.
    let so_far = c.loop-byte.invariant plain in
    let digits = styled-hex_digits c.in_radix.result c.laid_out.result _ (search rules) c.laid_out.ensures c.in_radix.ensures in
    let wrote = displays_on_ok_of_eq _ _ _ (Ok c.in_ok-write.field-0) _ _ digits c.in_ok-write.ensures.writes in
    has_written_of_eq _ _ _ _ _ (hex-take_more _ _ c.loop-byte-test.true) (has_written_append _ _ _ _ _ _ so_far (wrote so_far.plain refl))
