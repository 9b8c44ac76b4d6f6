use Rattle.std.proofs.Common.{ℕ, List, ap, subst, sym}
use Rattle.std.specs.Int.NonZero.{non_zero_usize_get}
use Rattle.disk.specs.Disk.{IsImage, Life}
use Rattle.disk.specs.History.{life_of}
use Rattle.disk.specs.Torn.{torn}
use Rattle.crash.specs.Moments.{through_end}
use Rattle.items.specs.Calls.{RecoversItems}
use Rattle.items.specs.Items.{AreDurable}
use Rattle.items.specs.Standing.{ItemsCrashLeaves, ItemsRecoveryLeaves}
use Rattle.items.proofs.Laws.{durable_left}
use Rattle.items.proofs.Recovery.{brought_back, brought_only, crash_recovers, crash_refused, nothing_crashed}
use Rattle.items.proofs.crashes.crash_and_recover.Goals as goal

pub returns-in_err-crash-clause-goes : goal.returns-in_err-crash-clause-goes
returns-in_err-crash-clause-goes g c =
    crash_refused g.H.Sum.sum_of (non_zero_usize_get c.args.size) c.args.cache.now c.args.capacity c.args.keep.now (life_of c.args.blob.now) (life_of c.crash.new.self) c.in_err-crash.field-0.0 c.from_residual.result c.from_residual.ensures.1
    c.in_err-crash.ensures.err (ap life_of c.in_err-crash.ensures.same)

pub returns-in_err-crash-clause-leaves : goal.returns-in_err-crash-clause-leaves
returns-in_err-crash-clause-leaves g c =
    let d = (life_of c.args.blob.now).present in
    subst (λ (l : Life). ItemsCrashLeaves g.H.Sum.sum_of (non_zero_usize_get c.args.size) c.args.cache.now c.args.cache.now d l.present) (sym (ap life_of c.in_err-crash.ensures.same))
    (nothing_crashed g.H.Sum.sum_of (non_zero_usize_get c.args.size) c.args.cache.now d c.requires.fresh)

pub returns-clause-goes : goal.returns-clause-goes
returns-clause-goes g c =
    let sum = g.H.Sum.sum_of in
    let s = non_zero_usize_get c.args.size in
    let cache = c.args.cache.now in
    let after = c.recover.new.cache in
    let old = life_of c.args.blob.now in
    let mid = life_of c.crash.new.self in
    let new = life_of c.recover.new.blob in
    let d = old.present in
    let image = torn c.args.keep.now d.since d.base in
    let life = c.in_ok-crash.ensures.life in
    let left = ap (λ (l : Life). l.present.readable) life in
    let recovers = c.recover.ensures.goes.answers in
    record {
      answers = crash_recovers sum s cache after c.args.capacity c.args.keep.now old new c.recover.result
          (subst (λ (l : Life). RecoversItems sum s cache after c.args.capacity l new c.recover.result) life recovers) (subst (λ (l : Life). ItemsRecoveryLeaves sum s cache after l new) life c.recover.ensures.leaves);
      back = brought_back sum s cache after c.args.capacity d image mid new c.recover.result c.args.size.ok c.crash.ensures.image left recovers;
      only = brought_only sum s cache after c.args.capacity d image mid new c.recover.result c.crash.ensures.image left recovers;
    }

pub returns-clause-leaves : goal.returns-clause-leaves
returns-clause-leaves g c =
    let sum = g.H.Sum.sum_of in
    let P = c.args.cache.now.page_size in
    let s = non_zero_usize_get c.args.size in
    let mid = life_of c.crash.new.self in
    let d = (life_of c.args.blob.now).present in
    let life = c.in_ok-crash.ensures.life in
    let left = c.recover.ensures.leaves in
    let is_image : IsImage d mid.present.base = subst (λ (l : List ℕ). IsImage d l) (sym (ap (λ (l : Life). l.present.base) life)) c.crash.ensures.image in
    record {
      fresh = left.fresh;
      others = left.others;
      snapshots = left.snapshots;
      stays = λ content n durable.
          let first : AreDurable sum P s content n mid.present = durable_left sum P s content n d mid.present c.args.size.ok is_image (ap (λ (l : Life). l.present.since) life) durable in
          through_end (AreDurable sum P s content n) mid (life_of c.recover.new.blob) (left.kept content n first);
    }
