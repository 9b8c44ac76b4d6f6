use Rattle.std.proofs.Common.{rules}
use Rattle.scripts.proofs.ScriptLines.{read_script}
use Rattle.scripts.proofs.player.play_input.Goals as goal

pub returns : goal.returns
returns g c = read_script (g.R.Read.remaining c.args.input.now) c.deref.result.now c.in_ok-script.script (search rules) c.in_ok-script.ensures.script
