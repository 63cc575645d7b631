use Rattle.cal_connection.specs.UnmarkedLemmas.{NamesAreUnmarked-new, NamesAreUnmarked-after_connecting, NamesAreUnmarked-after_end, NamesAreUnmarked-after_forced_removal, NamesAreUnmarked-after_name_removal, NamesAreUnmarked-with_port}
use Rattle.cal_connection.proofs.laws.names_stay_unmarked.Goals as goal

pub returns : goal.returns
returns c = record {
  new = NamesAreUnmarked-new;
  created = λ contents plan bit is names none. NamesAreUnmarked-after_connecting contents plan bit is names none;
  ended = λ contents sound handle has bit names. NamesAreUnmarked-after_end contents sound handle has bit names;
  removed = λ contents sound names. NamesAreUnmarked-after_forced_removal contents sound names;
  name_removed = λ contents sound names. NamesAreUnmarked-after_name_removal contents sound names;
  written = λ contents handle port same names. NamesAreUnmarked-with_port contents handle port same names;
}
