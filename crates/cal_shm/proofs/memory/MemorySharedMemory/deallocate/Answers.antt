use Rattle.std.proofs.Common.{refl}
use Rattle.cal_shm.proofs.SegmentLemmas.{changed}
use Rattle.cal_shm.proofs.memory.MemorySharedMemory.deallocate.Goals as goal

pub returns-clause-freed : goal.returns-clause-freed
returns-clause-freed g c =
    changed _ _ _ c.get_mut-details.ensures.value _ _ refl _ c.deallocate.ensures.freed c.deallocate.ensures.after
