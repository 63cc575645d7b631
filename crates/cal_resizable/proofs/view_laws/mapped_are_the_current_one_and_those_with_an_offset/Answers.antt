use Rattle.cal_resizable.proofs.ViewLawLemmas.{mapped-law}
use Rattle.cal_resizable.proofs.view_laws.mapped_are_the_current_one_and_those_with_an_offset.Goals as goal

pub returns : goal.returns
returns c = record { mapped = mapped-law }
