use Rattle.std.proofs.Common.{ap, sym, ◌∙◌}
use Rattle.std.proofs.lemmas.Bool.{eqb-true}
use Rattle.cal_connection.specs.declared.settings.ConnectionSettings.{ConnectionSettings}
use Rattle.cal_shared.proofs.OneSample.{all_acquirable}
use Rattle.cal_shared.proofs.tests.acquisitions.has_one_sample.Goals as goal

pub returns : goal.returns
returns c = record {
  acquirable = λ is. all_acquirable c.args.sender.now c.settings.ensures.sound
      (ap (λ (s : ConnectionSettings). s.number_of_samples) (sym c.settings.ensures.value) ∙ eqb-true _ _ is);
}
