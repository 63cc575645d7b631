use Rattle.cal_program.proofs.MadeLemmas.{made_settings-fine}
use Rattle.cal_program.proofs.examples.a_round_is_made.Goals as goal

pub returns-clause-fine : goal.returns-clause-fine
returns-clause-fine c = made_settings-fine
