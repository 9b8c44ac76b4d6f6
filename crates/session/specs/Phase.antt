-- The phase of a session's writer.
use Rattle.std.specs.Prelude.{Bool, true, false, Option}
use Rattle.writer_state.specs.WriterState.{WriterState}
use Rattle.session.specs.declared.phase.WriterPhase.{WriterPhase}
use Rattle.session.specs.declared.phase.WriterPhase.TheVariants.{Recovery, Appending}

-- the writer, in either phase
abbrev pub writer_in : {B H : Type 0} → WriterPhase B H → Option WriterState
writer_in (Recovery writer) = writer
writer_in (Appending writer) = writer

-- the writer's recovery hasn't ended
abbrev pub is_in_recovery : {B H : Type 0} → WriterPhase B H → Bool
is_in_recovery (Recovery writer) = true
is_in_recovery (Appending writer) = false
