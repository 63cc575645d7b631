-- The search goes on from the end: nothing from the byte before it on is a `__`.
use Rattle.std.proofs.Common.{◌≡◌, ◌≤◌, ◌-◌, None, length, drop}
use Rattle.cal_resizable.specs.SegmentNames.{cut_at_last}
use Rattle.cal_resizable.proofs.names.last_separator.Given as goal

abbrev pub invariant-loop-end : goal.invariant-loop-end
invariant-loop-end l = record {
  within : l.end ≤ length l.bytes;
  none : cut_at_last (drop (l.end - 1) l.bytes) ≡ None;
}

abbrev pub decreases-loop-end : goal.decreases-loop-end
decreases-loop-end l = l.end
