use Rattle.std.proofs.Common.{◌≡◌, ◌-◌, ◌≤◌}
use Rattle.cal_queue.specs.UsedChunks.{capacity_of}
use Rattle.cal_connection.specs.Acquisition.{used_in_segment, used_from}
use Rattle.cal_shared.proofs.Owed.{IsOwed}
use Rattle.cal_shared.proofs.acquisition.call_on_segment.Given as goal

-- the calls on the samples from the index on are owed
abbrev pub invariant-used : goal.invariant-used
invariant-used g l = record {
  size : l.capacity ≡ capacity_of l.details.used;
  within : l.from ≤ l.capacity;
  owed : IsOwed g.F.FnMut l.fn.callback (used_in_segment l.segment_id l.details) l.callback
      (used_from l.segment_id l.details l.from);
}

abbrev pub decreases-used : goal.decreases-used
decreases-used g l = l.capacity - l.from
