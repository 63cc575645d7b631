use Rattle.std.proofs.Common.{arith}
use Rattle.cal_queue.proofs.SubmissionAllowed.{writer_exchanges_read-allowed}
use Rattle.cal_queue.proofs.submission_ring.send_steps.exchange_read.Goals as goal

pub compare_exchange-found-requires : goal.compare_exchange-found-requires
compare_exchange-found-requires c = (
  c.requires.seated,
  omega arith,
  writer_exchanges_read-allowed _ _ _ _ c.requires.sends _ c.requires.loaded
      c.requires.due,
)
