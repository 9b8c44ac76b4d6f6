use Rattle.std.proofs.Common.{◌≡◌, ◌∷◌, ◌++◌, ℕ, List, ap, ◌∙◌}
use Rattle.protocol.specs.Request.{frame_bytes, number_bytes}
use Rattle.protocol.proofs.Written.{writes_same}
use Rattle.protocol.proofs.taking.write_open.Goals as goal

pub returns : goal.returns
unfolding number_bytes
returns g c =
    let first = c.to_le_bytes-snapshots.result in
    let second = c.to_le_bytes-replays.result in
    let same : first ++ second ≡ number_bytes c.args.snapshots ++ number_bytes c.args.replays = ap (λ (bytes : List ℕ). bytes ++ second) c.to_le_bytes-snapshots.ensures
    ∙ ap (λ (bytes : List ℕ). number_bytes c.args.snapshots ++ bytes) c.to_le_bytes-replays.ensures in
    writes_same (frame_bytes (0 ∷ first ++ second)) (frame_bytes (0 ∷ number_bytes c.args.snapshots ++ number_bytes c.args.replays)) (g.W.Write.contents c.args.out.now) (g.W.Write.contents c.write_frame.new.out) c.write_frame.result
    (ap (λ (bytes : List ℕ). frame_bytes (0 ∷ bytes)) same) c.write_frame.ensures
