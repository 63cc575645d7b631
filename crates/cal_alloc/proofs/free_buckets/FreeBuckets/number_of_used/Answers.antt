use Rattle.std.proofs.Common.{sym}
use Rattle.cal_alloc.proofs.FreeChains.{seen}
use Rattle.cal_alloc.proofs.free_buckets.FreeBuckets.number_of_used.Goals as goal

pub returns : goal.returns
returns c = record { count = sym (seen c.self.inside c.args.self.now c.self.invariant c.self.view_is).count }
