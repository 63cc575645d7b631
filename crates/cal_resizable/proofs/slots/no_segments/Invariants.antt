use Rattle.std.proofs.Common.{◌≡◌, None, replicate}
use Rattle.cal_resizable.proofs.slots.no_segments.Given as goal

abbrev pub invariant-loop-number : goal.invariant-loop-number
invariant-loop-number g l = l.slots.items ≡ replicate l.number None
