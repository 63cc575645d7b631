use Rattle.std.proofs.Common.{arith}
use Rattle.cal_queue.proofs.SubmissionAllowed.{writer_loads_read-allowed}
use Rattle.cal_queue.proofs.submission_ring.send_steps.load_read.Goals as goal

pub load-requires : goal.load-requires
load-requires c = (c.requires.seated, omega arith, writer_loads_read-allowed _ _ _ _ c.requires.sends c.requires.idle)
