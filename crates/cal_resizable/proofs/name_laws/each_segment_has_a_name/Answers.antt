use Rattle.cal_resizable.specs.SegmentNameLemmas.{segment_name_fits}
use Rattle.cal_resizable.proofs.name_laws.each_segment_has_a_name.Goals as goal

pub returns : goal.returns
returns c = record { fits = segment_name_fits }
