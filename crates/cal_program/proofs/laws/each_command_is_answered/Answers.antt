use Rattle.cal_program.proofs.ShownLemmas.{run-answers}
use Rattle.cal_program.proofs.laws.each_command_is_answered.Goals as goal

pub returns : goal.returns
returns c = record { law = run-answers }
