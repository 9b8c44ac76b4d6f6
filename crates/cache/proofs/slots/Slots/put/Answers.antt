use Rattle.std.proofs.Common.{◌≡◌, ◌≢◌, ◌∙◌, ℕ, ◌+◌, ◌<◌, inl, inr, ap, sym, subst, arith}
use Rattle.std.proofs.lemmas.Grind.{common_steps}
use Rattle.std.proofs.lemmas.Bool.{cases_eq}
use Rattle.cache.specs.Slots.{Taken}
use Rattle.cache.specs.declared.slots.Slots.{Slots}
use Rattle.cache.proofs.Putting.{puts_over, puts_free, puts_used}
use Rattle.cache.proofs.slots.Slots.put.Goals as goal
use Rattle.cache.proofs.slots.Slots.put.Goals.{then-self-len, else-self-len}

pub returns-in-Some-clause-puts : goal.returns-in-Some-clause-puts
returns-in-Some-clause-puts c =
    λ ids. puts_over ids c.args.self.now c.overwrite.new.self c.in-Some.slot c.args.key
    c.args.bytes.now c.requires.are c.in-Some.ensures c.requires.size c.overwrite.ensures

-- where the used slots are one more than they were, each but the new one was used before
was_before : (n m slot : ℕ) → slot ≡ n → m ≡ n + 1 → (s : ℕ) → s < m → s ≢ slot → s < n
was_before n m slot slot_is many s below other = elim (cases_eq s slot) [
  | inl same ↦ absurd (other same)
  | inr apart ↦ omega (arith, slot_is, many, below, apart)
]

pub returns-clause-puts : goal.returns-clause-puts
returns-clause-puts c = λ ids.
    let old = c.args.self.now in
    let mid = c.if-self-len.self in
    let new = c.link.new.self in
    let slot : ℕ = c.if-self-len.slot in
    elim c.if-self-len.branch [
      | then-self-len w ↦
          let t = w.take_free-slot in
          let taken = subst (λ (s : ℕ). Taken s c.args.bytes.now old mid) (sym w.slot-is)
          (subst (λ (m : Slots). Taken t.result c.args.bytes.now old m) (sym w.self-is)
          t.ensures.taken) in
          let many : new.used ≡ old.used + 1 =
          c.link.ensures.linked.used ∙ ap (λ (m : Slots). m.used) w.self-is ∙ t.ensures.used in
          let slot_is : slot ≡ old.used = w.slot-is ∙ t.ensures.slot in
          puts_free ids old mid new slot c.args.key c.args.bytes.now c.requires.are
          c.in_default.ensures taken c.link.ensures.linked c.link.ensures.are
          (omega (arith, many, slot_is)) (λ s below. omega (arith, below, many))
          (was_before old.used new.used slot slot_is many) slot_is many
      | else-self-len w ↦
          let t = w.take_used-slot in
          let taken = subst (λ (s : ℕ). Taken s c.args.bytes.now old mid) (sym w.slot-is)
          (subst (λ (m : Slots). Taken t.result c.args.bytes.now old m) (sym w.self-is)
          t.ensures.taken) in
          let many : new.used ≡ old.used =
          c.link.ensures.linked.used ∙ ap (λ (m : Slots). m.used) w.self-is ∙ t.ensures.used in
          let low : slot < old.used = omega (arith, w.slot-is, t.ensures.slot) in
          puts_used ids old mid new slot c.args.key c.args.bytes.now c.requires.are
          c.in_default.ensures taken c.link.ensures.linked c.link.ensures.are
          (omega (arith, many, low)) (λ s below. omega (arith, below, many))
          (λ s below other. omega (arith, below, many)) low
          (omega (arith, w.if-self-len.false, c.requires.are.within, c.len-2.ensures, old.keys.ok.0))
          many
    ]

pub returns-in-Some-clause-are : goal.returns-in-Some-clause-are
returns-in-Some-clause-are c = grind (arith, common_steps)
