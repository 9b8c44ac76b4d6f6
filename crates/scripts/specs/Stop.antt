-- Why a script isn't played to its end.
use Rattle.std.specs.Prelude.{ℕ, List, ◌++◌, codes}
use Rattle.std.specs.Fmt.{decimal}
use Rattle.scripts.specs.declared.stop.Stop.{Stop}
use Rattle.scripts.specs.declared.stop.Stop.TheVariants as stop
use Rattle.scripts.specs.declared.word.ReadError.{ReadError}
use Rattle.scripts.specs.declared.word.ReadError.TheVariants.{Unreadable, OutOfMemory}

-- why a script stops whose line of this number isn't read
abbrev pub error_at : ℕ → ReadError → Stop
error_at number Unreadable = stop.Unreadable number
error_at number OutOfMemory = stop.Failed

-- the exit status
abbrev pub script_status_of : Stop → ℕ
script_status_of (stop.Unreadable number) = 2
script_status_of stop.Failed = 1

-- what is written on standard error
abbrev pub script_stop_text : Stop → List ℕ
script_stop_text (stop.Unreadable number) = codes "unreadable line " ++ decimal number
script_stop_text stop.Failed = codes "pagedctl: stopped"
