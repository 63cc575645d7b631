use Rattle.std.proofs.Common.{arith}
use Rattle.cal_queue.proofs.StateSteps.{exchanges}
use Rattle.cal_queue.proofs.state_table.steps.exchange.Goals as goal

pub compare_exchange-requires : goal.compare_exchange-requires
compare_exchange-requires c = (
  c.requires.seated,
  c.requires.within,
  exchanges c.args.table.now.shared.key _ _ _ _ (omega arith) _ _ c.requires.change,
)
