use Rattle.std.proofs.Common.{◌∙◌, ◌++◌, ℕ, List, length, ap, arith}
use Rattle.std.proofs.lemmas.Grind.{common_steps}
use Rattle.page.specs.Page.{slot_bytes}
use Rattle.page.specs.declared.slot.ActiveChecksum.{ActiveChecksum}
use Rattle.crash.specs.Built.{kept_slot, kept_bytes, footer}
use Rattle.paged.proofs.Footers.{copied_next}
use Rattle.paged.proofs.Known.{tells_none}
use Rattle.paged.proofs.build.copied_pages.Goals as goal

pub loop-page-preserved : goal.loop-page-preserved
loop-page-preserved g c =
    let sum = g.H.Sum.sum_of in
    let durable = c.loop-page.durable in
    let page : List ℕ = c.page-item.result in
    let f : List ℕ → List ℕ = λ chunk. footer (kept_slot durable) (kept_bytes durable) (slot_bytes (length chunk) (sum chunk)) in
    record {
      bytes = copied_next sum durable c.args.pages.now c.loop-page.page-index page c.to_bytes.result c.loop-page.out.items c.extend_from_slice.new.self.items c.extend_from_slice-in-loop-page.new.self.items _
          (omega (arith, c.loop-page-test.true)) c.page-item.is
          (c.to_bytes.ensures.value ∙ c.footer_with.ensures ∙ ap (λ (s : ActiveChecksum). footer (kept_slot durable) (kept_bytes durable) (slot_bytes s.len s.crc)) c.new_slot-new.ensures ∙ ap f c.as_ref.ensures)
          (c.in_ok-extend_from_slice.ensures.items ∙ ap (λ (l : List ℕ). c.loop-page.out.items ++ l) c.as_ref-in-loop-page.ensures)
          c.in_ok-extend_from_slice-2.ensures.items c.loop-page.invariant.bytes;
      known = tells_none sum _;
    }

pub returns-clause-bytes : goal.returns-clause-bytes
returns-clause-bytes g c = grind (arith, common_steps)
