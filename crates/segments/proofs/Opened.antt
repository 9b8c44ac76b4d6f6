-- A journal that was recovered, and what a crash leaves of it.
use Rattle.std.specs.Prelude.{◌≡◌, ℕ, List, Option, Some, None, Ok, Vec}
use Rattle.std.specs.declared.alloc.Global.{Global}
use Rattle.std.proofs.Common.{ap, sym, ◌∙◌, subst}
use Rattle.disk.specs.Disk.{Life}
use Rattle.cache.specs.CacheState.{CacheState}
use Rattle.crash.specs.Moments.{through_end}
use Rattle.page.specs.Page.{text}
use Rattle.paged.specs.Recovery.{IsDurable}
use Rattle.writer_state.specs.WriterState.{WriterState}
use Rattle.writer_state.specs.Sound.{content}
use Rattle.journal.specs.Frame.{records, whole_frames}
use Rattle.journal.specs.Journal.{CommitsAll, LeavesAllRecords, OnlyRecords}
use Rattle.journal.specs.Calls.{JournalRecoverGoes, JournalRecoveryLeaves}
use Rattle.segments.specs.Log.{HasOpened}
use Rattle.segments.specs.Owned.{HasJournal, IsOwned, OwnedState, content_of, records_of}

pub opened_leaves : (sum own : List ℕ → ℕ) (P : ℕ) (cache after : CacheState) (old new : Life) → cache.page_size ≡ P → JournalRecoveryLeaves sum own cache after old new → IsDurable old.present
    → OnlyRecords sum own P (records own (text sum P old.present.readable)) new.present
opened_leaves sum own P cache after old new pages leaves durable =
    through_end (OnlyRecords sum own P (records own (text sum P old.present.readable))) old new (subst (λ P. LeavesAllRecords sum own P old new) pages leaves.only durable)

opened_parts : (sum own : List ℕ → ℕ) (P : ℕ) (cache after : CacheState) (capacity : ℕ) (old new : Life) (found : Vec (List ℕ) Global) (j : Option WriterState) → cache.page_size ≡ P
    → HasJournal j (λ w. JournalRecoverGoes sum own cache after capacity old new (Ok (w, found)))
    → HasJournal j (λ w. content w new.present.readable ≡ whole_frames (text sum P old.present.readable)) × (records_of own j new ≡ records own (text sum P old.present.readable))
    × (found.items ≡ records own (text sum P old.present.readable)) × CommitsAll sum own P (content_of j new) new.present
opened_parts sum own P cache after capacity old new found None pages goes = absurd goes
opened_parts sum own P cache after capacity old new found (Some w) pages goes =
    let is = goes.answers in
    let given = is.given ∙ ap (λ (p : ℕ). records own (text sum p old.present.readable)) pages in (
      is.holds ∙ ap (λ (p : ℕ). whole_frames (text sum p old.present.readable)) pages,
      sym is.same ∙ given,
      given,
      subst (λ (p : ℕ). CommitsAll sum own p (content w new.present.readable) new.present) pages is.all,
    )

-- a journal that was recovered is one of the whole frames of the text that was readable
pub opened_has : (sum own : List ℕ → ℕ) (P : ℕ) (cache : CacheState) (capacity : ℕ) (old : Life) (o : OwnedState) (found : Vec (List ℕ) Global) → cache.page_size ≡ P → IsOwned sum own o → o.page_size ≡ P
    → HasJournal o.journal (λ w. JournalRecoverGoes sum own cache o.cache capacity old o.life (Ok (w, found))) → HasOpened sum own P old o found.items
opened_has sum own P cache capacity old o found pages owned sized goes =
    let parts = opened_parts sum own P cache o.cache capacity old o.life found o.journal pages goes in
    record { owned = owned; page_size = sized; holds = parts.0; told = parts.1; given = parts.2; committed = parts.3 }
