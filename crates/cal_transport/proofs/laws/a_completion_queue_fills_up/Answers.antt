-- The lemma on the fill list.
use Rattle.cal_transport.proofs.FillRounds.{fill_served}
use Rattle.cal_transport.proofs.laws.a_completion_queue_fills_up.Goals as goal

pub returns : goal.returns
returns c = record {
  served = λ settings buffer borrow replies filled run. (fill_served settings buffer borrow replies filled run).0;
  completed = λ settings buffer borrow replies filled run. (fill_served settings buffer borrow replies filled run).1;
}
