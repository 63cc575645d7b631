use Rattle.std.proofs.Common.{refl}
use Rattle.cal_resizable.proofs.name_laws.worked_names.Goals as goal

pub returns : goal.returns
returns c = record {
  too_great = refl;
  no_digit = refl;
  no_name = refl;
  zeros_lead = refl;
  two_digits = refl;
  four_digits = refl;
  last_counts = refl;
  three_bars = refl;
  managed = refl;
  no_managed_name = refl;
}
