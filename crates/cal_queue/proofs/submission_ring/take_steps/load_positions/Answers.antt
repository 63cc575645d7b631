use Rattle.std.proofs.Common.{arith, ◌∙◌, ap}
use Rattle.cal_queue.specs.SubmissionSteps.{End}
use Rattle.cal_queue.proofs.SubmissionAllowed.{reader_loads_read-allowed, reader_loads_write-allowed}
use Rattle.cal_queue.proofs.submission_ring.take_steps.load_positions.Goals as goal

pub load-read-requires : goal.load-read-requires
load-read-requires c = (c.requires.seated, omega arith, reader_loads_read-allowed _ _ _ _ c.requires.takes)

pub load-written-requires : goal.load-written-requires
load-written-requires c =
    let looked = c.load-read.ensures.2 in (
      c.load-read.ensures.0 ∙ c.requires.seated,
      omega arith,
      reader_loads_write-allowed _ _ _ _ (ap (λ (m : End). m.0.reads) looked ∙ c.requires.takes),
    )
