use Rattle.cal_connection.specs.UnmarkedLemmas.{found_refusal-unmarked}
use Rattle.cal_connection.proofs.laws.an_unmarked_connection_is_joined.Goals as goal

pub returns : goal.returns
returns c = record { joined = λ contents plan bit names. found_refusal-unmarked contents plan bit names }
