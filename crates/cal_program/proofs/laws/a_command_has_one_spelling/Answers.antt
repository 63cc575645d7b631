use Rattle.cal_program.proofs.SpellingLemmas.{command-spelled}
use Rattle.cal_program.proofs.laws.a_command_has_one_spelling.Goals as goal

pub returns : goal.returns
returns c = record { law = command-spelled }
