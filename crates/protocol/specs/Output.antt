-- What is written of some bytes, where the output may fail.
use Rattle.std.specs.Prelude.{◌≡◌, ℕ, List, Option, Result, Ok, Err}
use Rattle.std.specs.Io.KnownBytes.{Appends}
use Rattle.session.specs.Promise.{IsPrefixOf}
use Rattle.protocol.specs.declared.stop.Stop.{Stop}
use Rattle.protocol.specs.declared.stop.Stop.TheVariants.{Failed}

-- a prefix of these bytes was written, and nothing else
abbrev pub AppendsPart : (out written : Option (List ℕ)) → List ℕ → Type 0
AppendsPart out written bytes =
    (part : List ℕ) × IsPrefixOf part bytes × Appends out written part

-- these bytes were written; or the output failed, and a prefix of them was written
abbrev pub PutsBytes : (bytes : List ℕ) → (out written : Option (List ℕ)) → Result (Unit {0}) Stop
    → Type 0
PutsBytes bytes out written (Ok done) = Appends out written bytes
PutsBytes bytes out written (Err stop) = (stop ≡ Failed) × AppendsPart out written bytes
