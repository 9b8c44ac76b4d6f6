use Rattle.std.specs.Prelude.{◌≡◌, ◌≤◌, ◌<◌, ◌-◌, ℕ, List, length, Option, Some, None, Ok}
use Rattle.std.proofs.Common.{inr, refl, rules, subst, sym}
use Rattle.segments.specs.declared.place.Place.{Place}
use Rattle.segments.specs.Scan.{HasMany, IsBehind, IsNextAt, MovesPlace, NextGoes}
use Rattle.segments.proofs.Joining.{leaves_joins, leaves_start}
use Rattle.segments.proofs.Following.{SoFar, first_refused, no_more, none_found, none_so_far, one_alone, one_more, some_found, stopped, too_much}
use Rattle.segments.proofs.log.SegmentedLog.next_many.Goals as goal

pub records-init : goal.records-init
records-init g c = record {
  ready = c.requires.log;
  leaves = leaves_start g.H.Sum.sum_of g.R.Sum.sum_of c.args.self.now;
  so_far = none_so_far g.H.Sum.sum_of g.R.Sum.sum_of g.D.Digest.digest_of c.args.most c.args.self.now c.args.place.now c.new-found.result.items c.new-found.ensures.items;
  same = refl;
}

pub returns-then-not-is_empty-clause-goes : goal.returns-then-not-is_empty-clause-goes
returns-then-not-is_empty-clause-goes g c =
    let sum = g.H.Sum.sum_of in
    let own = g.R.Sum.sum_of in
    let d : List ℕ → List ℕ = g.D.Digest.digest_of in
    let r = c.records in
    let before = r.invariant in
    let some : ◌≡◌ {A = Option (Place × List ℕ)} c.in-Ok-Some.field-0 (Some c.in-Ok-Some.next) = cc in
    let is : IsNextAt sum own d r.self r.behind c.in-Ok-Some.next.0 c.next.new.place c.in-Ok-Some.next.1 = subst (λ (o : Option (Place × List ℕ)). NextGoes sum own d r.self c.next.new.self r.behind c.next.new.place (Ok o)) some c.in-Ok-Some.ensures.goes in
    let long : r.room < length c.in-Ok-Some.next.1 = subst (λ (n : ℕ). r.room < n) c.len-len.ensures c.if-room-len.true in
    too_much sum own d c.args.most r.room c.args.self.now r.self c.next.new.self c.args.place.now r.behind c.next.new.place c.in-Ok-Some.next r.found.items
    before.leaves before.so_far is long (some_found r.found.items r.found.len c.is_empty.result r.found.ok.0 c.is_empty.ensures (search rules))

pub returns-then-not-is_empty-clause-leaves : goal.returns-then-not-is_empty-clause-leaves
returns-then-not-is_empty-clause-leaves g c =
    leaves_joins g.H.Sum.sum_of g.R.Sum.sum_of c.args.self.now c.records.self c.next.new.self c.records.invariant.leaves c.next.ensures.leaves

pub returns-in_err-push-in-Ok-Some-clause-leaves : goal.returns-in_err-push-in-Ok-Some-clause-leaves
returns-in_err-push-in-Ok-Some-clause-leaves g c =
    leaves_joins g.H.Sum.sum_of g.R.Sum.sum_of c.args.self.now c.records.self c.next.new.self c.records.invariant.leaves c.next.ensures.leaves

pub returns-then-room-len-clause-goes : goal.returns-then-room-len-clause-goes
returns-then-room-len-clause-goes g c =
    let sum = g.H.Sum.sum_of in
    let own = g.R.Sum.sum_of in
    let d : List ℕ → List ℕ = g.D.Digest.digest_of in
    let r = c.records in
    let before = r.invariant in
    let some : ◌≡◌ {A = Option (Place × List ℕ)} c.in-Ok-Some.field-0 (Some c.in-Ok-Some.next) = cc in
    let is : IsNextAt sum own d r.self r.behind c.in-Ok-Some.next.0 c.next.new.place c.in-Ok-Some.next.1 = subst (λ (o : Option (Place × List ℕ)). NextGoes sum own d r.self c.next.new.self r.behind c.next.new.place (Ok o)) some c.in-Ok-Some.ensures.goes in
    let further : IsBehind r.self r.behind c.next.new.place = subst (λ (o : Option (Place × List ℕ)). MovesPlace r.self r.behind c.next.new.place o) some c.in-Ok-Some.ensures.moves in
    let long : r.room < length c.in-Ok-Some.next.1 = subst (λ (n : ℕ). r.room < n) c.len-len.ensures c.if-room-len.true in
    subst (λ (l : List (Place × List ℕ)). HasMany sum own d c.args.most c.args.self.now c.next.new.self c.args.place.now c.next.new.place l) (sym c.in_ok-push-in-Ok-Some.ensures.items)
    (one_alone sum own d c.args.most r.room c.args.self.now r.self c.next.new.self c.args.place.now r.behind c.next.new.place c.in-Ok-Some.next r.found.items
    before.leaves before.so_far is further long (none_found r.found.items r.found.len c.is_empty.result r.found.ok.0 c.is_empty.ensures c.if-not-is_empty.false))

pub returns-then-room-len-clause-leaves : goal.returns-then-room-len-clause-leaves
returns-then-room-len-clause-leaves g c =
    leaves_joins g.H.Sum.sum_of g.R.Sum.sum_of c.args.self.now c.records.self c.next.new.self c.records.invariant.leaves c.next.ensures.leaves

pub returns-in_err-push-in-Ok-Some-2-clause-leaves : goal.returns-in_err-push-in-Ok-Some-2-clause-leaves
returns-in_err-push-in-Ok-Some-2-clause-leaves g c =
    leaves_joins g.H.Sum.sum_of g.R.Sum.sum_of c.args.self.now c.records.self c.next.new.self c.records.invariant.leaves c.next.ensures.leaves

pub records-preserved : goal.records-preserved
records-preserved g c =
    let sum = g.H.Sum.sum_of in
    let own = g.R.Sum.sum_of in
    let d : List ℕ → List ℕ = g.D.Digest.digest_of in
    let r = c.records in
    let before = r.invariant in
    let some : ◌≡◌ {A = Option (Place × List ℕ)} c.in-Ok-Some.field-0 (Some c.in-Ok-Some.next) = cc in
    let is : IsNextAt sum own d r.self r.behind c.in-Ok-Some.next.0 c.next.new.place c.in-Ok-Some.next.1 = subst (λ (o : Option (Place × List ℕ)). NextGoes sum own d r.self c.next.new.self r.behind c.next.new.place (Ok o)) some c.in-Ok-Some.ensures.goes in
    let further : IsBehind r.self r.behind c.next.new.place = subst (λ (o : Option (Place × List ℕ)). MovesPlace r.self r.behind c.next.new.place o) some c.in-Ok-Some.ensures.moves in
    let fits : length c.in-Ok-Some.next.1 ≤ r.room = subst (λ (n : ℕ). n ≤ r.room) c.len-len.ensures c.if-room-len.false in
    let more = one_more sum own d c.args.most r.room c.args.self.now r.self c.args.place.now r.behind c.next.new.place c.in-Ok-Some.next r.found.items before.leaves before.so_far is further fits in
    record {
      ready = c.next.ensures.ready;
      leaves = leaves_joins sum own c.args.self.now r.self c.next.new.self before.leaves c.next.ensures.leaves;
      so_far = subst (λ (n : ℕ). SoFar sum own d c.args.most (r.room - n) c.args.self.now c.args.place.now c.next.new.place c.push-in-Ok-Some.new.self.items) (sym c.len-len.ensures)
          (subst (λ (l : List (Place × List ℕ)). SoFar sum own d c.args.most (r.room - length c.in-Ok-Some.next.1) c.args.self.now c.args.place.now c.next.new.place l) (sym c.in_ok-push-in-Ok-Some-2.ensures.items) more);
      same = before.same;
    }

pub returns-in-Ok-None-clause-goes : goal.returns-in-Ok-None-clause-goes
returns-in-Ok-None-clause-goes g c =
    let sum = g.H.Sum.sum_of in
    let own = g.R.Sum.sum_of in
    let d : List ℕ → List ℕ = g.D.Digest.digest_of in
    let r = c.records in
    let before = r.invariant in
    let none : ◌≡◌ {A = Option (Place × List ℕ)} c.in-Ok-None.field-0 None = c.in-Ok-None.field-0-is in
    let end = subst (λ (o : Option (Place × List ℕ)). NextGoes sum own d r.self c.next.new.self r.behind c.next.new.place (Ok o)) none c.in-Ok-None.ensures.goes in
    let further = subst (λ (o : Option (Place × List ℕ)). MovesPlace r.self r.behind c.next.new.place o) none c.in-Ok-None.ensures.moves in
    no_more sum own d c.args.most r.room c.args.self.now r.self c.next.new.self c.args.place.now r.behind c.next.new.place r.found.items before.leaves before.so_far end.0 further end.1

pub returns-in-Ok-None-clause-leaves : goal.returns-in-Ok-None-clause-leaves
returns-in-Ok-None-clause-leaves g c =
    leaves_joins g.H.Sum.sum_of g.R.Sum.sum_of c.args.self.now c.records.self c.next.new.self c.records.invariant.leaves c.next.ensures.leaves

pub returns-then-is_empty-clause-goes : goal.returns-then-is_empty-clause-goes
returns-then-is_empty-clause-goes g c =
    let sum = g.H.Sum.sum_of in
    let own = g.R.Sum.sum_of in
    let d : List ℕ → List ℕ = g.D.Digest.digest_of in
    let r = c.records in
    let before = r.invariant in (
      before.same,
      inr (first_refused sum own d c.args.most r.room c.args.self.now r.self c.next.new.self c.args.place.now r.behind c.in-Err.error r.found.items
          before.leaves before.so_far c.in-Err.ensures.goes.1 (none_found r.found.items r.found.len c.is_empty-in-Err.result r.found.ok.0 c.is_empty-in-Err.ensures c.if-is_empty.true)),
    )

pub returns-then-is_empty-clause-leaves : goal.returns-then-is_empty-clause-leaves
returns-then-is_empty-clause-leaves g c =
    leaves_joins g.H.Sum.sum_of g.R.Sum.sum_of c.args.self.now c.records.self c.next.new.self c.records.invariant.leaves c.next.ensures.leaves

pub returns-in-Err-clause-goes : goal.returns-in-Err-clause-goes
returns-in-Err-clause-goes g c =
    let sum = g.H.Sum.sum_of in
    let own = g.R.Sum.sum_of in
    let d : List ℕ → List ℕ = g.D.Digest.digest_of in
    let r = c.records in
    let before = r.invariant in
    stopped sum own d c.args.most r.room c.args.self.now r.self c.next.new.self c.args.place.now r.behind c.in-Err.error r.found.items
    before.leaves before.so_far c.in-Err.ensures.goes.1 (some_found r.found.items r.found.len c.is_empty-in-Err.result r.found.ok.0 c.is_empty-in-Err.ensures c.if-is_empty.false)

pub returns-in-Err-clause-leaves : goal.returns-in-Err-clause-leaves
returns-in-Err-clause-leaves g c =
    leaves_joins g.H.Sum.sum_of g.R.Sum.sum_of c.args.self.now c.records.self c.next.new.self c.records.invariant.leaves c.next.ensures.leaves
