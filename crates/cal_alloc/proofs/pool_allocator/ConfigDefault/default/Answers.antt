use Rattle.std.proofs.Common.{rules}
use lib.Count.{ones}
use Rattle.cal_alloc.proofs.pool_allocator.ConfigDefault.default.Goals as goal

pub unwrap-requires : goal.unwrap-requires
unfolding ones
unwrap-requires c = search rules
