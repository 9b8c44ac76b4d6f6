-- What is readable at the end of a life that events make is an image: a crash may leave it.
use Rattle.std.specs.Prelude.{◌≡◌, ◌⊎◌, ℕ, zero, suc, ◌+◌}
use Rattle.std.specs.Prelude.{◌-◌, ◌<◌, ◌≤◌, map, slice_get, Some, None}
use Rattle.std.specs.Prelude.{List, [], ◌∷◌, ◌++◌, length, drop, replicate, Bool, nat_lt, Option}
use Rattle.std.specs.Prelude.{true, false, if◌then◌else◌, refl}
use Rattle.std.proofs.Common.{ap, subst, ◌∙◌, inl, inr, arith, length-append, length-drop}
use Rattle.std.proofs.lemmas.Bool.Decides.{nat_tests}
use Rattle.std.proofs.lemmas.List.{drop-append-le, drop-drop}
use Rattle.disk.specs.Disk.{Started, AreCovered, coverings, Operation, Write, Resize, applied}
use Rattle.disk.specs.Disk.{Disk, IsImage, Life, Request, ReadAt, ReadMany, StartReadMany}
use Rattle.disk.specs.Disk.{WaitSync, starts}
use Rattle.disk.specs.Disk.{WriteAt, ResizeTo, SyncAll, logged}
use Rattle.disk.specs.Disk.{settled_disk, disk_settled_to, waited, waited_for}
use Rattle.disk.specs.Disk.{failed_at}
use Rattle.disk.specs.Images.{same_image, base_is_image, partial_image, done_is_partial}
use Rattle.disk.specs.Images.{same_is_partial}
use Rattle.disk.specs.declared.action.Action.{Action}
use Rattle.disk.specs.declared.action.Action.TheVariants as actions
use Rattle.disk.specs.declared.action.Event.{Event}
use Rattle.disk.specs.History.{History, operated, life_after_action, life_after_events, begun}
use Rattle.disk.specs.History.{life_of, spent, names_in}

-- what a started sync covers
abbrev covering : Started → ℕ × List ℕ
covering s = (s.covers, s.bytes)

-- the disk once a started sync is done that covers more than is durable
abbrev pub from_start : ℕ × List ℕ → Disk → Disk
from_start c d = record d { base = c.1; since = drop (c.0 - d.settled) d.since }

-- what is readable is an image, and would be one whichever started sync were done
pub record ReadableIsImage (d : Disk) : Type 0 where
  pub image : IsImage d d.readable
  pub covered : AreCovered d
  pub later : (name : ℕ) (c : ℕ × List ℕ) → slice_get (coverings d) name ≡ Some c
      → d.settled < c.0 → IsImage (from_start c d) d.readable

-- an entry more in the log keeps the readable bytes an image
logged_reads : (request : Request) (failed : Bool) (d : Disk) → ReadableIsImage d
    → ReadableIsImage (logged request failed d)
logged_reads request failed d r = record {
  image = same_image d (logged request failed d) d.readable refl refl r.image;
  covered = r.covered;
  later = λ name c is above.
      same_image (from_start c d) (from_start c (logged request failed d)) d.readable refl refl
      (r.later name c is above);
}

-- a change in which started syncs have failed keeps the readable bytes an image
started_reads : (d : Disk) (ss : List Started) → map covering ss ≡ coverings d
    → ReadableIsImage d → ReadableIsImage (record d { started = ss })
started_reads d ss same r =
    let was : (name : ℕ) (c : ℕ × List ℕ)
    → slice_get (map covering ss) name ≡ Some c
    → slice_get (coverings d) name ≡ Some c =
    λ name c is. subst (λ (l : List (ℕ × List ℕ)). slice_get l name ≡ Some c) same is in
    record {
      image = same_image d (record d { started = ss }) d.readable refl refl r.image;
      covered = λ name c is. r.covered name c (was name c is);
      later = λ name c is above.
          same_image (from_start c d) (from_start c (record d { started = ss })) d.readable refl
          refl (r.later name c (was name c is) above);
    }

-- a write or a resize, done or failed, keeps the readable bytes an image
operated_reads : (o : Operation) (request : Request) (failed : Bool) (d : Disk) → ReadableIsImage d
    → ReadableIsImage (operated o request failed d)
operated_reads o request true d r = record {
  image =
      partial_image d (operated o request true d) o d.readable d.readable refl refl
      (same_is_partial o d.readable) r.image;
  covered = λ name c is. omega (arith, r.covered name c is, length-append d.since (o ∷ []));
  later = λ name c is above.
      let few : c.0 - d.settled ≤ length d.since = omega (arith, r.covered name c is) in
      partial_image (from_start c d) (from_start c (operated o request true d)) o d.readable
      d.readable refl (drop-append-le (c.0 - d.settled) d.since (o ∷ []) few)
      (same_is_partial o d.readable) (r.later name c is above);
}
operated_reads o request false d r = record {
  image =
      partial_image d (operated o request false d) o d.readable (applied o d.readable) refl refl
      (done_is_partial o d.readable) r.image;
  covered = λ name c is. omega (arith, r.covered name c is, length-append d.since (o ∷ []));
  later = λ name c is above.
      let few : c.0 - d.settled ≤ length d.since = omega (arith, r.covered name c is) in
      partial_image (from_start c d) (from_start c (operated o request false d)) o d.readable
      (applied o d.readable) refl (drop-append-le (c.0 - d.settled) d.since (o ∷ []) few)
      (done_is_partial o d.readable) (r.later name c is above);
}

-- once all is durable the readable bytes are an image, as no started sync covers more
settled_reads : (d : Disk) → ReadableIsImage d → ReadableIsImage (settled_disk d)
settled_reads d r = record {
  image = base_is_image (settled_disk d);
  covered = λ name c is. omega (arith, r.covered name c is);
  later = λ name c is above. absurd (omega (arith, above, r.covered name c is));
}

-- each element of a list with one more at its end is of the list, or is that one
last_or : (xs : List (ℕ × List ℕ)) (x c : ℕ × List ℕ) (n : ℕ) → slice_get (xs ++ x ∷ []) n ≡ Some c
    → (slice_get xs n ≡ Some c) ⊎ (c ≡ x)
last_or [] x c zero is = inr cc
last_or [] x c (suc n) is = absurd (cc)
last_or (y ∷ xs) x c zero is = inl is
last_or (y ∷ xs) x c (suc n) is = last_or xs x c n is

coverings_more : (ss : List Started) (s : Started)
    → map covering (ss ++ s ∷ []) ≡ map covering ss ++ covering s ∷ []
coverings_more [] s = refl
coverings_more (t ∷ ss) s = ap (λ (l : List (ℕ × List ℕ)). covering t ∷ l) (coverings_more ss s)

-- a sync that starts covers all that there is
starts_reads : (failed : Bool) (d : Disk) → ReadableIsImage d → ReadableIsImage (starts failed d)
starts_reads failed d r =
    let all = d.settled + length d.since in
    let e = starts failed d in
    let split : (name : ℕ) (c : ℕ × List ℕ) → slice_get (coverings e) name ≡ Some c
    → (slice_get (coverings d) name ≡ Some c) ⊎ (c ≡ (all, d.readable)) =
    λ name c is. last_or (coverings d) (all, d.readable) c name
    (subst (λ (l : List (ℕ × List ℕ)). slice_get l name ≡ Some c)
    (coverings_more d.started (record { covers = all; bytes = d.readable; failed = failed })) is) in
    record {
      image = same_image d e d.readable refl refl r.image;
      covered = λ name c is. elim (split name c is) [
        | inl was ↦ r.covered name c was
        | inr new ↦ omega (arith, ap (λ (p : ℕ × List ℕ). p.0) new)
      ];
      later = λ name c is above. elim (split name c is) [
        | inl was ↦
            same_image (from_start c d) (from_start c e) d.readable refl refl
            (r.later name c was above)
        | inr new ↦
            subst (λ (l : List ℕ). IsImage (from_start c e) l)
            (ap (λ (p : ℕ × List ℕ). p.1) new) (base_is_image (from_start c e))
      ];
    }

-- a started sync that is done keeps the readable bytes an image
done_reads : (d : Disk) (name : ℕ) (c : ℕ × List ℕ) → slice_get (coverings d) name ≡ Some c
    → d.settled < c.0 → ReadableIsImage d
    → ReadableIsImage (record d {
      base = c.1;
      since = drop (c.0 - d.settled) d.since;
      settled = c.0;
    })
done_reads d name c is more r =
    let e = record d { base = c.1; since = drop (c.0 - d.settled) d.since; settled = c.0 } in
    record {
      image = same_image (from_start c d) e d.readable refl refl (r.later name c is more);
      covered = λ other o at.
          omega (
            arith,
            r.covered other o at,
            r.covered name c is,
            more,
            length-drop (c.0 - d.settled) d.since,
          );
      later = λ other o at above.
          let n : c.0 - d.settled + (o.0 - c.0) ≡ o.0 - d.settled = omega (arith, more, above) in
          same_image (from_start o d) (from_start o e) d.readable refl
          (drop-drop (o.0 - c.0) (c.0 - d.settled) d.since ∙ ap (λ k. drop k d.since) n)
          (r.later other o at (omega (arith, more, above)));
    }

settle_reads_if : (d : Disk) (name : ℕ) (c : ℕ × List ℕ) (b : Bool) → b ≡ nat_lt d.settled c.0
    → slice_get (coverings d) name ≡ Some c → ReadableIsImage d
    → ReadableIsImage (if b
    then record d { base = c.1; since = drop (c.0 - d.settled) d.since; settled = c.0 } else d)
settle_reads_if d name c true b is r =
    done_reads d name c is (let test = b in grind (arith, nat_tests, test)) r
settle_reads_if d name c false b is r = r

wait_reads_if : (d : Disk) (name : ℕ) (c : ℕ × List ℕ) (failed : Bool)
    → slice_get (coverings d) name ≡ Some c → ReadableIsImage d
    → ReadableIsImage (if failed then d else disk_settled_to c d)
wait_reads_if d name c true is r = r
wait_reads_if d name c false is r = settle_reads_if d name c (nat_lt d.settled c.0) refl is r

covering_at : (ss : List Started) (name : ℕ) (s : Started) → slice_get ss name ≡ Some s
    → slice_get (map covering ss) name ≡ Some (covering s)
covering_at [] name s is = absurd (cc)
covering_at (t ∷ ss) zero s is = cc
covering_at (t ∷ ss) (suc name) s is = covering_at ss name s is

wait_reads_of : (d : Disk) (name : ℕ) (o : Option Started) → slice_get d.started name ≡ o
    → ReadableIsImage d
    → ReadableIsImage (waited_for o d)
wait_reads_of d name None is r = r
wait_reads_of d name (Some s) is r =
    wait_reads_if d name (s.covers, s.bytes) s.failed (covering_at d.started name s is) r

failed_covers : (name : ℕ) (ss : List Started)
    → map covering (failed_at name ss) ≡ map covering ss
failed_covers name [] = refl
failed_covers zero (s ∷ ss) = refl
failed_covers (suc name) (s ∷ ss) =
    ap (λ (l : List (ℕ × List ℕ)). covering s ∷ l) (failed_covers name ss)

waited_reads : (name : ℕ) (failed : Bool) (d : Disk) → ReadableIsImage d
    → ReadableIsImage (waited name failed d)
waited_reads name true d r =
    started_reads d (failed_at name d.started) (failed_covers name d.started) r
waited_reads name false d r = wait_reads_of d name (slice_get d.started name) refl r

lives_reads : (action : Action) (failed : Bool) (life : Life) → ReadableIsImage life.present →
    ReadableIsImage (life_after_action action failed life).present
lives_reads (actions.Read offset len) failed life r =
    logged_reads (ReadAt offset len) failed life.present r
lives_reads (actions.ReadMany ranges) failed life r =
    logged_reads (ReadMany ranges) failed life.present r
lives_reads (actions.StartReadMany ranges) failed life r =
    logged_reads (StartReadMany ranges) failed life.present r
lives_reads (actions.Write offset bytes false) failed life r =
    operated_reads (Write offset bytes) (WriteAt offset (length bytes) false) failed life.present r
lives_reads (actions.Write offset bytes true) true life r =
    operated_reads (Write offset bytes) (WriteAt offset (length bytes) true) true life.present r
lives_reads (actions.Write offset bytes true) false life r =
    let request = WriteAt offset (length bytes) true in
    settled_reads (operated (Write offset bytes) request false life.present)
    (operated_reads (Write offset bytes) request false life.present r)
lives_reads (actions.Resize len) failed life r =
    operated_reads (Resize len) (ResizeTo len) failed life.present r
lives_reads actions.Sync true life r = logged_reads SyncAll true life.present r
lives_reads actions.Sync false life r =
    settled_reads (logged SyncAll false life.present) (logged_reads SyncAll false life.present r)
lives_reads actions.StartSync failed life r = starts_reads failed life.present r
lives_reads (actions.WaitSync name) failed life r =
    logged_reads (WaitSync name) failed (waited name failed life.present)
    (waited_reads name failed life.present r)

goes_on_reads : (es : List Event) (life : Life) → ReadableIsImage life.present →
    ReadableIsImage (life_after_events life es).present
goes_on_reads [] life r = r
goes_on_reads (e ∷ es) life r =
    goes_on_reads es (life_after_action e.action e.failed life)
    (lives_reads e.action e.failed life r)

-- a sync of an earlier life covers nothing
spent_at : (bytes : List ℕ) (n name : ℕ) (c : ℕ × List ℕ)
    → slice_get (map covering (replicate n (spent bytes))) name ≡ Some c
    → c.0 ≡ 0
spent_at bytes zero name c is = absurd (cc)
spent_at bytes (suc n) zero c is = cc
spent_at bytes (suc n) (suc name) c is = spent_at bytes n name c is

begun_reads : (h : History) → ReadableIsImage (begun h.first h.earlier).present
begun_reads h =
    let d = (begun h.first h.earlier).present in
    record {
      image = base_is_image d;
      covered = λ name c is. omega (arith, spent_at h.first (names_in h.earlier) name c is);
      later = λ name c is above.
          absurd (omega (arith, above, spent_at h.first (names_in h.earlier) name c is));
    }

-- what is readable in such a life is an image
pub life_reads : (h : History) → IsImage (life_of h).present (life_of h).present.readable
life_reads h = (goes_on_reads h.events (begun h.first h.earlier) (begun_reads h)).image

-- in such a life no started sync covers an operation that is still to come
pub life_covers : (h : History) → AreCovered (life_of h).present
life_covers h = (goes_on_reads h.events (begun h.first h.earlier) (begun_reads h)).covered
