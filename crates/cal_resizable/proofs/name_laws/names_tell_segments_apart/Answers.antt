use Rattle.cal_resizable.specs.SegmentNameLemmas.{names-apart, segment-no_management, number_end-injective}
use Rattle.cal_resizable.proofs.name_laws.names_tell_segments_apart.Goals as goal

pub returns : goal.returns
returns c = record {
  management = names-apart;
  segment = segment-no_management;
  numbers = number_end-injective;
}
