use Rattle.std.proofs.Common.{◌≡◌, ◌-◌, ◌++◌, [], ◌∷◌, ℕ, List, length, drop, arith, ap, ◌∙◌, refl, sym, append-nil}
use Rattle.std.specs.Int.NonZero.{non_zero_u16_get}
use Rattle.paged_read.specs.Hand.{HandState, payloads, payloads_from}
use Rattle.paged_read.proofs.Hands.{nothing_more, payloads_fewer, payloads_more, pushed, pushed_is, Pushed}
use Rattle.paged_read.proofs.hand.Hand.push.Goals as goal

pub returns-then-len-skip-clause-bytes : goal.returns-then-len-skip-clause-bytes
returns-then-len-skip-clause-bytes c =
    let was = c.args.self.now in
    let few = c.if-len-skip.true in
    let size = c.len.ensures in
    let none = nothing_more was.page_size c.args.skip c.args.run c.requires.skip.0
    (omega (arith, few, size)) in
    sym (append-nil was.bytes) ∙ ap (λ l. was.bytes ++ l) (sym none)

pub overflow_sub-more : goal.overflow_sub-more
overflow_sub-more c =
    let more = c.if-len-skip.false in
    let size = c.len.ensures in
    let P = c.from-page_size.result in
    let is = c.payload_bytes.ensures c.args.run (sym c.len-3.ensures) in
    let page = c.from-page_size.ensures ∙ c.get.ensures.value in
    let less = c.requires.skip.0 in
    let view = ap (λ (h : HandState). h.page_size) c.self.view_is in
    omega (arith, more, view, size, is, less, page, payloads_more P c.args.run)

pub overflow_add-self : goal.overflow_add-self
overflow_add-self c =
    let P = c.from-page_size.result in
    let is = c.payload_bytes.ensures c.args.run (sym c.len-3.ensures) in
    let fits = c.requires.fits in
    let count = c.self.invariant.1.count in
    Prim.grind (arith, is, fits, count, payloads_fewer P c.args.run)

-- what the run makes of the bytes at hand
made : (c : goal.After-self-1)
    → Pushed (non_zero_u16_get c.self.inside.page_size) c.self.inside.runs.items
    c.self.inside.at.start c.self.inside.at.left c.args.run c.args.skip c.beside-at.result.start
    c.beside-at.result.left
made c =
    let was = c.self.inside in
    let P = non_zero_u16_get was.page_size in
    let more = c.if-len-skip.false in
    let size = c.len.ensures in
    let other = c.len-2.ensures in
    let page = c.from-page_size.ensures ∙ c.get.ensures.value in
    let less = c.requires.skip.0 in
    let view = ap (λ (h : HandState). h.page_size) c.self.view_is in
    let bytes = ap (λ (h : HandState). h.bytes) c.self.view_is in
    pushed P was.runs.items was.at.start was.at.left was.remaining c.args.run c.args.skip
    c.beside-at.result.start c.beside-at.result.left c.self.invariant.1
    (omega (arith, less, view)) (omega (arith, more, size)) (omega (arith, size, c.len.type_inv))
    (λ some. c.requires.skip.1 (rw (← bytes) some))
    (λ none. let is = c.beside-at.ensures.none none in (
      ap (λ p. p.start) is,
      ap (λ p. p.left) is ∙ omega (arith, other, page),
    ))
    (λ some. let is = c.beside-at.ensures.some some in (ap (λ p. p.start) is, ap (λ p. p.left) is))

at_first : (run was : ℕ) (runs : List (List ℕ)) → (runs ≡ [] → run ≡ 0) → ((runs ≡ [] → ⊥) → run ≡ was)
    → was ≡ 0 → run ≡ 0
at_first run was [] none some zero = none refl
at_first run was (first ∷ rest) none some zero = some (λ e. let size = ap (λ (l : List (List ℕ)). length l) e in omega (arith, size)) ∙ zero

pub invariant_of-self-2 : goal.invariant_of-self-2
invariant_of-self-2 c =
    let was = c.self.inside in
    let P = non_zero_u16_get was.page_size in
    let is = c.payload_bytes.ensures c.args.run (sym c.len-3.ensures) in
    let page = c.from-page_size.ensures ∙ c.get.ensures.value in
    let more = c.if-len-skip.false in
    let size = c.len.ensures in (
      at_first c.beside-at.result.run was.at.run was.runs.items (λ none. ap (λ p. p.run) (c.beside-at.ensures.none none)) (λ some. ap (λ p. p.run) (c.beside-at.ensures.some some)) c.self.invariant.0,
      pushed_is P was.runs.items c.push_back_reserved.new.self.items was.at.start was.at.left
          was.remaining c.args.run c.args.skip c.beside-at.result.start c.beside-at.result.left
          (c.payload_bytes.result - c.args.skip) c.self.invariant.1 (made c)
          (c.push_back_reserved.ensures.items ∙ ap (λ l. l ++ c.args.run ∷ []) c.in_ok-try_reserve.ensures.items)
          (omega (arith, more, size)) (ap (λ n. n - c.args.skip) (rw (← page) is)),
    )

pub returns-clause-bytes : goal.returns-clause-bytes
returns-clause-bytes c =
    let was = c.self.inside in
    let P = non_zero_u16_get was.page_size in
    let now = c.beside-at.result in
    let view = ap (λ (h : HandState). h.page_size) c.self.view_is in
    let bytes = ap (λ (h : HandState). h.bytes) c.self.view_is in
    ap (λ l. payloads_from P l now.start now.left) (c.push_back_reserved.ensures.items ∙ ap (λ l. l ++ c.args.run ∷ []) c.in_ok-try_reserve.ensures.items)
    ∙ (made c).bytes
    ∙ ap (λ l. l ++ drop c.args.skip (payloads P c.args.run)) bytes
    ∙ ap (λ n. c.args.self.now.bytes ++ drop c.args.skip (payloads n c.args.run)) view
