use Rattle.std.proofs.Common.{◌≡◌, ◌≤◌, length}
use Rattle.cal_connection.specs.Channel.{after_acquire}
use Rattle.cal_connection.specs.Port.{no_channel}
use Rattle.cal_connection.proofs.Changed.{IsChangedBelow}
use Rattle.cal_connection.proofs.acquisition.empty_channels.Given as goal

abbrev pub invariant-loop-index : goal.invariant-loop-index
invariant-loop-index l = record {
  so_far : IsChangedBelow after_acquire no_channel l.fn.channels.items l.channels.items l.index;
  count : l.index-end ≡ length l.fn.channels.items;
  within : l.index ≤ l.index-end;
}
