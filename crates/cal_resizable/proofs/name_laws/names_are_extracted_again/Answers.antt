use Rattle.std.proofs.Common.{◌++◌, refl}
use Rattle.std.specs.Prelude.{codes}
use Rattle.cal_resizable.specs.SegmentNameLemmas.{managed_name-exact, segment_of_name-again}
use Rattle.cal_resizable.proofs.name_laws.names_are_extracted_again.Goals as goal

pub returns : goal.returns
returns c = record {
  segment = segment_of_name-again;
  management = λ base rule. (managed_name-exact (base ++ codes "__mgmt") base).1 (rule, refl);
}
