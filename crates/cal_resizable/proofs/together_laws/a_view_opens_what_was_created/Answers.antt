use Rattle.cal_resizable.proofs.AloneLemmas.{alone-opens, alone-together}
use Rattle.cal_resizable.proofs.together_laws.a_view_opens_what_was_created.Goals as goal

pub returns : goal.returns
returns g c = record {
  opens = λ checks_version contents memory plan alone name settings.
      alone-opens contents memory plan alone name settings checks_version;
  together = λ contents memory plan id alone rule name settings found.
      alone-together contents memory plan alone name settings id rule found;
}
