use Rattle.std.proofs.Common.{◌≡◌, ◌≤◌, length}
use Rattle.cal_shared.specs.Acquiring.{after_acquire}
use Rattle.cal_shared.proofs.Changed.{IsChangedBelow}
use Rattle.cal_shared.proofs.acquisition.empty_channels.Given as goal

abbrev pub invariant-loop-index : goal.invariant-loop-index
invariant-loop-index l = record {
  so_far : IsChangedBelow after_acquire l.fn.channels.items l.channels.items l.index;
  count : l.index-end ≡ length l.fn.channels.items;
  within : l.index ≤ l.index-end;
}
