use Rattle.std.proofs.Common.{arith}
use Rattle.cal_queue.proofs.StateSteps.{loads}
use Rattle.cal_queue.proofs.state_table.steps.load.Goals as goal

pub load-requires : goal.load-requires
load-requires c = (c.requires.seated, c.requires.within, loads c.args.table.now.shared.key _ _ _ _ (omega arith))
