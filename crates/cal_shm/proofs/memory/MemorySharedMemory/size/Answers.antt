use Rattle.std.proofs.Common.{arith}
use Rattle.cal_shm.specs.Calls.{IsInPayload}
use Rattle.cal_shm.proofs.SegmentLemmas.{of_segment}
use Rattle.cal_shm.proofs.memory.MemorySharedMemory.size.Goals as goal

pub returns-clause-within : goal.returns-clause-within
returns-clause-within g c offset count fits =
    of_segment c.args.reg.now _ _ c.get.ensures.value (λ segment. IsInPayload segment.payload offset count)
    (omega (arith, c.size.ensures))
