use Rattle.std.proofs.Common.{subst}
use Rattle.cal_alloc.specs.Bump.{IsSoundBump}
use Rattle.cal_alloc.proofs.bump_allocator.BumpAllocatorShmAllocator.max_alignment.Goals as goal

pub returns-clause-sound : goal.returns-clause-sound
returns-clause-sound c = subst IsSoundBump c.self.view_is c.self.invariant
