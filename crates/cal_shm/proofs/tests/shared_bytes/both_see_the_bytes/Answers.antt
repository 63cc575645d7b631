use Rattle.std.proofs.Common.{rules}
use Rattle.cal_shm.specs.WrittenLemmas.{KeepsHandles-with_written}
use Rattle.cal_shm.proofs.tests.shared_bytes.both_see_the_bytes.Goals as goal

pub size-requires-2 : goal.size-requires-2
size-requires-2 g c = search (rules, KeepsHandles-with_written)

pub bytes-requires-2-clause-there : goal.bytes-requires-2-clause-there
bytes-requires-2-clause-there g c = search (rules, KeepsHandles-with_written)
