-- A slot that covers the first bytes of the tip's page.
use Rattle.std.proofs.Common.{◌≡◌, ℕ, zero, suc, ◌*◌, ◌<◌, ◌≤◌, List, [], ◌∷◌, length, take, drop, refl, sym, ap, ◌∙◌, subst, arith, length-take, length-append}
use Rattle.std.specs.Prelude.{Option, None, Some}
use Rattle.std.specs.List.{concat}
use Rattle.std.proofs.Math.Nat.{zero-mul}
use Rattle.std.proofs.lemmas.List.{take-take, take_at, take_all}
use Rattle.std.proofs.lemmas.List.Elements.{All-head}
use Rattle.disk.specs.Disk.{Disk}
use Rattle.page.specs.Tip.{ArePages}
use Rattle.page.specs.declared.slot.ActiveChecksum.{ActiveChecksum}
use Rattle.crash.specs.Built.{durable_after}
use Rattle.writer_state.specs.WriterState.{WriterState}
use Rattle.writer_state.specs.Sound.{IsConsistent, TipPage}
use Rattle.paged.specs.Flush.{TellsFirst, TellsFirstPage, full_in, rest_of, after_flush, carried}
use Rattle.paged.proofs.Flushing.{short_drained}

-- with no slot there is nothing to cover
pub tells_none : (sum : List ℕ → ℕ) (pages : List (List ℕ)) → TellsFirstPage sum None pages
tells_none sum [] = tt
tells_none sum (page ∷ pages) = tt

-- the slot that was written last in the page of a sound writer's tip covers the tip's first bytes
tip_tells : (sum : List ℕ → ℕ) (P full : ℕ) (tip readable : List ℕ) (flushed : Option ActiveChecksum) → TipPage sum P full tip readable flushed
    → TellsFirst sum flushed (take P tip)
tip_tells sum P full tip readable None is = tt
tip_tells sum P full tip readable (Some f) is = (
  omega (arith, length-take P tip, is.there, is.part),
  is.crc ∙ ap sum (sym (take-take f.len P tip (omega (arith, is.part)))),
)

pub consistent_tells : (sum : List ℕ → ℕ) (w : WriterState) (d : Disk) → IsConsistent sum w d → TellsFirst sum w.flushed (take w.page_size w.tip)
unfolding IsConsistent
consistent_tells sum w d sound = tip_tells sum w.page_size w.full_pages w.tip d.readable w.flushed sound.stands.tip_page

pub carried_tells : (sum : List ℕ → ℕ) (w v : WriterState) (d : Disk) → IsConsistent sum w d → v ≡ carried w → TellsFirst sum v.flushed (take v.page_size v.tip)
carried_tells sum w v d sound is = subst (λ (u : WriterState). TellsFirst sum u.flushed (take u.page_size u.tip)) (sym is) (consistent_tells sum w d sound)

-- a slot covers the first bytes of the first page of some bytes
pub pages_tell : (sum : List ℕ → ℕ) (P n : ℕ) (slot : Option ActiveChecksum) (pages : List (List ℕ)) (bytes : List ℕ) → ArePages P pages → concat pages ≡ take n bytes
    → TellsFirst sum slot (take P bytes) → TellsFirstPage sum slot pages
pages_tell sum P n slot [] bytes are is tells = tt
pages_tell sum P n slot (page ∷ pages) bytes are is tells =
    let full : length page ≡ P = All-head (λ page. length page ≡ P) page pages are in
    let enough : P ≤ n = omega (arith, full, length-append page (concat pages), ap length is, length-take n bytes) in
    let first : page ≡ take P bytes = sym (take_at page (concat pages) P full) ∙ ap (take P) is ∙ take-take P n bytes enough in
    subst (λ (p : List ℕ). TellsFirst sum slot p) (sym first) tells

-- the slot that stays where no page before the rest is full covers the first bytes of the rest
pub rest_tells : (sum : List ℕ → ℕ) (w v : WriterState) → 0 < w.page_size → v ≡ after_flush w (durable_after w.flushed (full_in w)) w.sync
    → TellsFirst sum w.flushed (take w.page_size w.tip) → TellsFirst sum v.flushed v.tip
rest_tells sum w v some is tells =
    subst (λ (u : WriterState). TellsFirst sum u.flushed u.tip) (sym is) (by_pages (full_in w) refl)
  where
    by_pages : (k : ℕ) → k ≡ full_in w → TellsFirst sum (durable_after w.flushed (full_in w)) (rest_of w)
    by_pages zero none =
        let rest : rest_of w ≡ w.tip = ap (λ k. drop (k * w.page_size) w.tip) (sym none) ∙ ap (λ n. drop n w.tip) (zero-mul w.page_size) in
        let short : length w.tip ≤ w.page_size = omega (arith, ap length rest, short_drained w some) in
        subst (λ (k : ℕ). TellsFirst sum (durable_after w.flushed k) (rest_of w)) none
        (subst (λ (bytes : List ℕ). TellsFirst sum w.flushed bytes) (take_all w.page_size w.tip short ∙ sym rest) tells)
    by_pages (suc k) more = subst (λ (k : ℕ). TellsFirst sum (durable_after w.flushed k) (rest_of w)) more tt
