use Rattle.std.proofs.Common.{arith}
use Rattle.cal_queue.proofs.CompletionAllowed.{reader_loads_write-allowed}
use Rattle.cal_queue.proofs.completion_ring.get_steps.load_write.Goals as goal

pub load-requires : goal.load-requires
load-requires c = (
  c.requires.seated,
  omega arith,
  reader_loads_write-allowed c.args.table.now.shared.key _ _ _ c.requires.gets,
)
