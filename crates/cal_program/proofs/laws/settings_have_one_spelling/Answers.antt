use Rattle.cal_program.proofs.SettingsLemmas.{settings-spelled}
use Rattle.cal_program.proofs.laws.settings_have_one_spelling.Goals as goal

pub returns : goal.returns
returns c = record { law = settings-spelled }
