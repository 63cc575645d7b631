use Rattle.std.proofs.Common.{refl}
use Rattle.cal_shm.proofs.SegmentLemmas.{changed, of_left}
use Rattle.cal_shm.proofs.memory.MemorySharedMemory.allocate.Goals as goal

pub returns-in-Ok-clause-given : goal.returns-in-Ok-clause-given
returns-in-Ok-clause-given g c =
    changed _ _ _ c.get_mut-details.ensures.value _ _ refl _ c.in-Ok.ensures.given c.in-Ok.ensures.after

pub returns-in-Ok-clause-allocated : goal.returns-in-Ok-clause-allocated
returns-in-Ok-clause-allocated g c =
    let law = g.met.A.ShmAllocator.allocation _ _ _ _ c.in-Ok.ensures.given in
    let handle = g.S.DynamicStorage.handle c.args.self.now.storage in
    of_left c.args.reg.now handle.id c.get_mut-details.result.now c.get_mut-details.ensures.value c.allocate.new.self _
    refl handle refl c.requires (λ segment. g.A.ShmAllocator.IsAllocated segment.allocator c.in-Ok.offset) law.out
