use Rattle.std.specs.Int.{w64, to_le_bytes}
use Rattle.std.proofs.Common.{◌+◌, ◌*◌, ◌∙◌, ℕ, ap}
use Rattle.segments.proofs.MarkBytes.{lowest}
use Rattle.segments.proofs.mark.bytes_of_mark.Goals as goal

pub returns : goal.returns
returns c =
    c.to_le_bytes.ensures ∙ lowest (c.args.mark.before + c.from-skips.result * 281474976710656)
    ∙ ap (λ (n : ℕ). to_le_bytes w64 (c.args.mark.before + n * 281474976710656)) c.from-skips.ensures
