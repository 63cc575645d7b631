use Rattle.cal_queue.proofs.BitSets.{IsPassed}
use Rattle.cal_queue.proofs.bit_set.first_from.Given as goal

abbrev pub invariant-loop-index : goal.invariant-loop-index
invariant-loop-index l = IsPassed l.words l.from l.index l.bit
