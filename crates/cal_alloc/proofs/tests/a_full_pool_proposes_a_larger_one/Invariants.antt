use Rattle.std.proofs.Common.{IsTrue}
use Rattle.cal_alloc.proofs.tests.a_full_pool_proposes_a_larger_one.Given as goal

abbrev pub invariant-buckets : goal.invariant-buckets
invariant-buckets g l = IsTrue l.pool.is_ready
