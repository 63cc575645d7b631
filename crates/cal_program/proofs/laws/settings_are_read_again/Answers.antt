use Rattle.cal_program.proofs.SettingsLemmas.{settings-again}
use Rattle.cal_program.proofs.laws.settings_are_read_again.Goals as goal

pub returns : goal.returns
returns c = record { law = settings-again }
