use Rattle.std.proofs.Common.{◌≡◌, ◌≤◌, length}
use Rattle.cal_connection.specs.Channel.{emptied}
use Rattle.cal_shared.proofs.Changed.{IsChangedBelow}
use Rattle.cal_shared.proofs.acquisition.empty_segments.Given as goal

abbrev pub invariant-loop-index : goal.invariant-loop-index
invariant-loop-index l = record {
  so_far : IsChangedBelow emptied l.fn.segments.items l.segments.items l.index;
  count : l.index-end ≡ length l.fn.segments.items;
  within : l.index ≤ l.index-end;
}
