-- How a session begins on a blob of which at most so many bytes may go.
use Rattle.std.proofs.Common.{◌≡◌, ℕ, List, subst, inl, inr, Ok, Err}
use Rattle.disk.specs.Disk.{Life}
use Rattle.cache.specs.CacheState.{CacheState}
use Rattle.crash.specs.Looks.{Looked, looked_start}
use Rattle.paged.specs.declared.within.Refusal.{Refusal}
use Rattle.paged.specs.declared.within.Refusal.TheVariants as refusal
use Rattle.paged.specs.Within.{PutsAtStake, MayGo}
use Rattle.session.specs.Run.{SessionState}
use Rattle.session.specs.Promise.{AttemptsThrough}
use Rattle.session.specs.Within.{BeginsWithin}
use Rattle.protocol.specs.declared.setting.Setting.{Setting}
use Rattle.protocol.specs.Serve.{HasAttempted, HasBegun, IsNotBegun, LookedAt, MayRecover, page_bytes}
use Rattle.protocol.specs.Stop.{stop_for}

module _ (sum : List ℕ → ℕ) (setting : Setting) where
  -- the blob was only looked at, and a recovery would give up so many bytes
  told_at : (old new : Life) (cut : ℕ) → PutsAtStake sum (page_bytes setting) old.present.readable cut → Looked old new → LookedAt sum setting old new cut
  told_at old new cut cuts looked = record { outlook = cuts.0; is = cuts.1; stake = cuts.2; looked = looked }

  -- the blob may be recovered, by its bytes
  may_recover : (life : Life) → MayGo sum (page_bytes setting) setting.allowed life.present.readable → MayRecover sum setting life life
  may_recover life may = (may.0, told_at life life may.0 may.1 (looked_start life), may.2)

  -- a session that begins
  pub begins : (cache : CacheState) (old new : Life) (now : SessionState) → cache.page_size ≡ page_bytes setting → BeginsWithin sum cache setting.capacity setting.allowed old new (Ok now) → HasBegun sum setting old new now
  begins cache old new now same is = record {
    between = old;
    may = may_recover old (subst (λ (n : ℕ). MayGo sum n setting.allowed old.present.readable) same is.0);
    cache = cache;
    pages = same;
    begins = is.1;
  }

  -- a session that doesn't begin
  pub begins_not : (cache : CacheState) (old new : Life) (why : Refusal) → cache.page_size ≡ page_bytes setting → BeginsWithin sum cache setting.capacity setting.allowed old new (Err why) → AttemptsThrough sum cache.page_size old new → IsNotBegun sum setting old new (stop_for why)
  begins_not cache old new (refusal.WouldCut cut) same is attempts =
      (told_at old new cut (subst (λ (n : ℕ). PutsAtStake sum n old.present.readable cut) same is.0) is.2, is.1)
  begins_not cache old new (refusal.Failed e) same is attempts = elim is.0 [
    | inl looked ↦ inl looked
    | inr may ↦ inr (old, may_recover old (subst (λ (n : ℕ). MayGo sum n setting.allowed old.present.readable) same may), subst (λ (n : ℕ). AttemptsThrough sum n old new) same attempts)
  ]

-- no device was asked
pub looked_none : (sum : List ℕ → ℕ) (setting : Setting) (life : Life) → HasAttempted sum setting life life
looked_none sum setting life = inl (looked_start life)
