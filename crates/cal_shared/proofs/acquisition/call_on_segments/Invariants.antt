use Rattle.std.proofs.Common.{◌≡◌, ◌≤◌, length, drop}
use Rattle.cal_connection.specs.Acquisition.{used_in_segments}
use Rattle.cal_shared.proofs.Owed.{IsOwed}
use Rattle.cal_shared.proofs.acquisition.call_on_segments.Given as goal

-- the calls on the samples of the segments from this one on are owed
abbrev pub invariant-loop-segment : goal.invariant-loop-segment
invariant-loop-segment g l = record {
  count : l.segment-end ≡ length l.segments;
  within : l.segment ≤ l.segment-end;
  owed : IsOwed g.F.FnMut l.fn.callback (used_in_segments 0 l.segments) l.callback
      (used_in_segments l.segment (drop l.segment l.segments));
}
