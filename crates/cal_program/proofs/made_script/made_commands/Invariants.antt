use Rattle.std.proofs.Common.{◌≡◌}
use Rattle.cal_program.specs.MadeScript.{state_after, made_commands}
use Rattle.cal_program.proofs.made_script.made_commands.Given as goal

abbrev pub invariant-loop-index : goal.invariant-loop-index
invariant-loop-index l = record {
  state : l.state ≡ state_after l.number l.index;
  list : l.commands.items ≡ made_commands l.number l.index;
}
