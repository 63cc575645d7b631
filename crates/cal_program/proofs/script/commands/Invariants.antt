use Rattle.std.proofs.Common.{◌≡◌, length}
use Rattle.cal_program.specs.Script.{commands_of}
use Rattle.cal_program.proofs.ScriptLemmas.{completes}
use Rattle.cal_program.proofs.script.commands.Given as goal

abbrev pub invariant-loop-line : goal.invariant-loop-line
invariant-loop-line l = completes l.commands.items l.lines ≡ commands_of 2 l.initial.lines

abbrev pub decreases-loop-line : goal.decreases-loop-line
decreases-loop-line l = length l.lines
