use Rattle.std.proofs.Common.{arith}
use Rattle.cal_queue.proofs.CompletionAllowed.{writer_loads_read-allowed}
use Rattle.cal_queue.proofs.completion_ring.put_steps.load_read.Goals as goal

pub load-requires : goal.load-requires
load-requires c = (
  c.requires.seated,
  omega arith,
  writer_loads_read-allowed c.args.table.now.shared.key _ _ _ c.requires.puts c.requires.idle,
)
