-- A copy of a manifest that was to be kept.
use Rattle.std.specs.Prelude.{List, ℕ}
use Rattle.std.proofs.Common.{subst, sym}
use Rattle.segments.specs.FolderEvents.{FolderEvent}
use Rattle.segments.specs.Log.{HasKept, IsLog, LogState}

still : (sum own : List ℕ → ℕ) (s : LogState) (asked : List FolderEvent) → IsLog sum own s → IsLog sum own (record s { asked = asked })
still sum own s asked log = record {
  manifest = log.manifest;
  current = log.current;
  manifest_pages = log.manifest_pages;
  current_pages = log.current_pages;
  lists = log.lists;
  reading = log.reading;
}

-- the log stands as it did
pub kept_ready : (sum own : List ℕ → ℕ) (s t : LogState) → HasKept s t → IsLog sum own s → IsLog sum own t
kept_ready sum own s t has log = subst (λ t. IsLog sum own t) (sym has.rest) (still sum own s t.asked log)
