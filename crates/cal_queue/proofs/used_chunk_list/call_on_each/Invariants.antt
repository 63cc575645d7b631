use Rattle.std.proofs.Common.{◌-◌, ◌≤◌}
use Rattle.cal_queue.specs.BitSet.{marks_of}
use Rattle.cal_queue.proofs.Members.{IsOwed}
use Rattle.cal_queue.proofs.used_chunk_list.call_on_each.Given as goal

-- The calls at the members from the number on are owed.
abbrev pub invariant-members : goal.invariant-members
invariant-members g l = record {
  within : l.from ≤ l.capacity;
  owed : IsOwed g.F.FnMut l.fn.callback (marks_of l.words l.capacity) l.callback l.from;
}

abbrev pub decreases-members : goal.decreases-members
decreases-members g l = l.capacity - l.from
