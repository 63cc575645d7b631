use Rattle.std.proofs.Common.{IsTrue}
use Rattle.cal_bench.proofs.plain_calls.get_and_free.Given as goal

abbrev pub invariant-calls : goal.invariant-calls
invariant-calls g l = IsTrue (g.A.ShmAllocator.properties l.allocator).is_ready
