-- The pages of a sound writer are in its blob, and each is full.
use Rattle.std.proofs.Common.{ℕ, List}
use Rattle.disk.specs.Disk.{Disk}
use Rattle.writer_state.specs.WriterState.{WriterState}
use Rattle.writer_state.specs.Sound.{IsSound}
use Rattle.writer_state.proofs.FlushLaws.{tip_reach}
use Rattle.paged_read.specs.Tail.{HasPages, HasFullPages}
use Rattle.paged.specs.Caches.{tail_of}

-- a sound writer's pages are in its blob, and (`sound_full`) each is full
pub sound_there : (sum : List ℕ → ℕ) (w : WriterState) (d : Disk) → IsSound sum w d
    → HasPages (tail_of w) d
unfolding IsSound
sound_there sum w d sound =
    (tip_reach sum w.page_size w.full_pages w.tip d.readable w.flushed sound.stands.tip_page).0

pub sound_full : (sum : List ℕ → ℕ) (w : WriterState) (d : Disk) → IsSound sum w d
    → HasFullPages sum (tail_of w) d
unfolding IsSound
sound_full sum w d sound = sound.full
