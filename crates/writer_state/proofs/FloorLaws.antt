-- Floors that every image keeps, of a sound writer's content and of any other content.
use Rattle.std.proofs.Common.{◌≡◌, inl, inr, ℕ, ◌+◌, ◌≤◌, List, [], length, take, sym, ap, ◌∙◌, arith, length-take}
use Rattle.disk.specs.Disk.{Disk, IsImage, Life}
use Rattle.page.specs.Page.{text}
use Rattle.crash.specs.Built.{kept_len}
use Rattle.crash.specs.Kept.{AllKeep, ImageKeeps}
use Rattle.crash.specs.Stays.{KeepsFloors, KeepsAllFloors}
use Rattle.crash.specs.Moments.{through_then}
use Rattle.crash.proofs.Disks.{base_is_image, base_is_whole}
use Rattle.crash.proofs.Moments.{same_floor}
use Rattle.crash.proofs.Promise.{guards_less, held_is_kept, keeps_at_rest, keeps_less, keeps_same, whole_is_chance_free}
use Rattle.writer_state.specs.WriterState.{WriterState}
use Rattle.writer_state.specs.Sound.{IsConsistent, IsSound, content}
use Rattle.writer_state.proofs.Soundness.{safe_guards, consistent_leaves, sound_holds_together}

-- with nothing unsynced slots guard each floor that every image keeps
pub rest_holds : (sum : List ℕ → ℕ) (P : ℕ) (d : Disk) (other : List ℕ) (floor : ℕ) → d.since ≡ [] → floor ≤ length other → ((image : List ℕ) → IsImage d image → ImageKeeps sum P other floor image) → AllKeep sum P other floor d
rest_holds sum P d other floor at_rest enough keeps =
    let told = text sum P d.base in
    let same : take floor told ≡ take floor other = keeps d.base (base_is_image d) in
    let there : floor ≤ length told = omega (arith, enough, ap length same, length-take floor told, length-take floor other) in
    keeps_same sum P told other floor d same (keeps_less sum P told (length told) floor d there (keeps_at_rest sum P d at_rest))

-- slots of a consistent writer's blob guard each floor that every image keeps
pub consistent_holds : (sum : List ℕ → ℕ) (w : WriterState) (d : Disk) (other : List ℕ) (floor : ℕ) → IsConsistent sum w d → floor ≤ length other → ((image : List ℕ) → IsImage d image → ImageKeeps sum w.page_size other floor image)
    → AllKeep sum w.page_size other floor d
unfolding IsConsistent
consistent_holds sum w d other floor sound enough keeps =
    let P = w.page_size in
    let held = content w d.readable in
    let safe = sound.safe in
    let says : text sum P d.base ≡ take (length (text sum P d.base)) held =
    (elim ((consistent_leaves sum w d sound).only d.base (base_is_image d) (whole_is_chance_free sum P d d.base (base_is_whole d.base d.since))) [ inl is ↦ is | inr is ↦ is ]) in
    let kept : take floor (text sum P d.base) ≡ take floor other = keeps d.base (base_is_image d) in
    let there : floor ≤ length (text sum P d.base) = omega (arith, enough, ap length kept, length-take floor (text sum P d.base), length-take floor other) in
    held_is_kept sum P other floor d (record {
      told = held;
      within = omega (arith, there, ap length says, length-take (length (text sum P d.base)) held);
      same = sym (same_floor (text sum P d.base) held floor says there) ∙ kept;
      guards = guards_less sum P held (safe.floor + kept_len safe.tip) floor d (omega (arith, there, safe.base)) (safe_guards sum w held d safe).1;
    })

-- where each floor of a sound writer's content is kept, each floor of any content is
pub floors_of_consistent : (sum : List ℕ → ℕ) (w : WriterState) (old new : Life) → IsConsistent sum w old.present → KeepsFloors sum w.page_size (content w old.present.readable) old new → KeepsAllFloors sum w.page_size old new
floors_of_consistent sum w old new sound floors = λ other floor enough keeps.
    let P = w.page_size in
    let held = content w old.present.readable in
    let base = old.present.base in
    let says : text sum P base ≡ take (length (text sum P base)) held =
    (elim ((consistent_leaves sum w old.present sound).only base (base_is_image old.present) (whole_is_chance_free sum P old.present base (base_is_whole base old.present.since))) [ inl is ↦ is | inr is ↦ is ]) in
    let kept : take floor (text sum P base) ≡ take floor other = keeps.kept base (base_is_image old.present) in
    let there : floor ≤ length (text sum P base) = omega (arith, ap length kept, length-take floor (text sum P base), length-take floor other) in
    let within : floor ≤ length held = omega (arith, ap length says, length-take (length (text sum P base)) held) in
    let same : take floor held ≡ take floor other = sym (same_floor (text sum P base) held floor says there) ∙ kept in
    through_then (AllKeep sum P held floor) (AllKeep sum P other floor) old new (λ d still. keeps_same sum P held other floor d same still)
    (floors floor within (keeps_same sum P other held floor old.present (sym same) keeps))

-- slots of a sound writer's blob guard each floor that every image keeps
pub sound_holds : (sum : List ℕ → ℕ) (w : WriterState) (d : Disk) (other : List ℕ) (floor : ℕ) → IsSound sum w d → floor ≤ length other → ((image : List ℕ) → IsImage d image → ImageKeeps sum w.page_size other floor image)
    → AllKeep sum w.page_size other floor d
sound_holds sum w d other floor sound = consistent_holds sum w d other floor (sound_holds_together sum w d sound)

pub floors_of_sound : (sum : List ℕ → ℕ) (w : WriterState) (old new : Life) → IsSound sum w old.present → KeepsFloors sum w.page_size (content w old.present.readable) old new → KeepsAllFloors sum w.page_size old new
floors_of_sound sum w old new sound = floors_of_consistent sum w old new (sound_holds_together sum w old.present sound)
