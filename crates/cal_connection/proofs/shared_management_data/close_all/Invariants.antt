use Rattle.std.proofs.Common.{◌≡◌, ◌≤◌, length, map}
use Rattle.cal_connection.specs.Closing.{closed_channel}
use Rattle.cal_connection.proofs.Closed.{AreClosedBelow}
use Rattle.cal_connection.proofs.shared_management_data.close_all.Given as goal

abbrev pub invariant-loop-index : goal.invariant-loop-index
invariant-loop-index l = record {
  same : map closed_channel l.channels.items ≡ map closed_channel l.fn.channels.items;
  below : AreClosedBelow l.channels.items l.index;
  count : l.index-end ≡ length l.channels.items;
  within : l.index ≤ l.index-end;
}
