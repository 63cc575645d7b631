use Rattle.cal_program.proofs.MadeLemmas.{made-answers}
use Rattle.cal_program.proofs.laws.a_made_run_has_eight_answers_a_round.Goals as goal

pub returns : goal.returns
returns c = record { law = made-answers }
