use Rattle.std.proofs.Common.{◌*◌, ℕ, length, ◌∙◌, ap, arith, refl, sym, subst}
use Rattle.std.specs.Int.NonZero.{non_zero_u16_get}
use Rattle.page.specs.Tip.{Tip}
use Rattle.paged.specs.Writer.{FitsBlob}
use Rattle.paged_read.specs.Prefix.{tip_of}
use Rattle.paged.specs.Recovery.{at_prefix}
use Rattle.paged.proofs.Offsets.{IsPlaced, is_writer_placed, state_at}
use Rattle.paged.proofs.recovery.Recovery+B+H.at_prefix.Given.{Over}
use Rattle.paged.proofs.recovery.Recovery+B+H.at_prefix.Goals as goal
use Rattle.paged.proofs.recovery.Recovery+B+H.at_prefix.Goals.{In_ok-id}

placed : (g : Over) (c : In_ok-id g) → IsPlaced (non_zero_u16_get c.page_size-page_size.result) c.args.capacity c.args.prefix c.in_ok-tip.tip
placed g c =
    let is = c.in_ok-tip.ensures.1 in
    record {
      some = c.page_size-page_size.result.ok;
      page_size = ap (λ (t : Tip). t.page_size) is ∙ c.from-2.ensures ∙ c.get-2.ensures.value;
      capacity = ap (λ (t : Tip). t.capacity) is;
      offset = ap (λ (t : Tip). t.offset) is ∙ ap (λ n. c.args.prefix.full_pages * n) (c.from.ensures ∙ c.get.ensures.value);
      bytes = ap (λ (t : Tip). t.bytes) is ∙ c.tip_and_slot-slot.ensures.tip;
    }

pub invariant_of-result : goal.invariant_of-result
invariant_of-result g c =
    let size = c.page_size-page_size.ensures in
    is_writer_placed (non_zero_u16_get c.page_size-page_size.result) c.args.capacity c.args.prefix c.in_ok-tip.tip (placed g c) (omega (arith, size, c.requires.room))
    (subst (λ (n : ℕ). FitsBlob n c.args.prefix.full_pages (length (tip_of c.args.prefix.partial))) (sym size) c.requires.fits)

pub returns-clause-stands : goal.returns-clause-stands
returns-clause-stands g c =
    let sync = c.args.sync_state in
    let cache = c.args.cache.now in
    state_at (non_zero_u16_get c.page_size-page_size.result) c.in_ok-id.id cache.ids_given c.args.capacity c.args.capacity c.args.prefix c.in_ok-tip.tip c.tip_and_slot-slot.result.1 sync (placed g (goal.at.returns-clause-stands g c).In_ok-id)
    c.in_ok-id.ensures.id.1 refl c.tip_and_slot-slot.ensures.slot
    ∙ ap (λ (n : ℕ). at_prefix n cache.ids_given c.args.capacity c.args.prefix sync) c.page_size-page_size.ensures
