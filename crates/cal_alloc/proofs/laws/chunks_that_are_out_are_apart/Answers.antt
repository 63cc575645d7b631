use Rattle.std.proofs.Common.{[], refl}
use Rattle.cal_alloc.proofs.RunLaws.{AreOut-run}
use Rattle.cal_alloc.proofs.laws.chunks_that_are_out_are_apart.Goals as goal

pub returns-clause-apart : goal.returns-clause-apart
returns-clause-apart g c first last steps out free run =
    let a = g.A.ShmAllocator in
    let laws = g.met.A.ShmAllocator in
    (AreOut-run a.Allocates a.Deallocates a.properties a.IsByteUsed a.IsAllocated a.IsPadding (a.properties first)
    laws.allocation
    laws.deallocation first [] steps last out run (record { same = refl; apart = tt; within = tt; used = tt })).apart

pub returns-clause-within : goal.returns-clause-within
returns-clause-within g c first last steps out free run =
    let a = g.A.ShmAllocator in
    let laws = g.met.A.ShmAllocator in
    (AreOut-run a.Allocates a.Deallocates a.properties a.IsByteUsed a.IsAllocated a.IsPadding (a.properties first)
    laws.allocation
    laws.deallocation first [] steps last out run (record { same = refl; apart = tt; within = tt; used = tt })).within
