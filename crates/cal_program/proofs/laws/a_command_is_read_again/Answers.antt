use Rattle.cal_program.proofs.SpellingLemmas.{command-again}
use Rattle.cal_program.proofs.laws.a_command_is_read_again.Goals as goal

pub returns : goal.returns
returns c = record { law = command-again }
