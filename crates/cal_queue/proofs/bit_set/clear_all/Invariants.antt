use Rattle.std.proofs.Common.{◌≡◌, ◌<◌, ℕ, get_or}
use Rattle.cal_queue.proofs.bit_set.clear_all.Given as goal

-- The words before the index are zero.
abbrev pub invariant-loop-index : goal.invariant-loop-index
invariant-loop-index l = (k : ℕ) → k < l.index → get_or l.words k 0 ≡ 0
