use Rattle.std.proofs.Common.{◌≡◌, ◌≤◌, length, drop}
use Rattle.cal_shared.specs.Acquiring.{used_on_channels}
use Rattle.cal_shared.proofs.Owed.{IsOwed}
use Rattle.cal_shared.proofs.acquisition.call_on_channels.Given as goal

-- the calls on the samples on the channels from this one on are owed
abbrev pub invariant-loop-channel : goal.invariant-loop-channel
invariant-loop-channel g l = record {
  count : l.channel-end ≡ length l.channels;
  within : l.channel ≤ l.channel-end;
  owed : IsOwed g.F.FnMut l.fn.callback (used_on_channels l.channels) l.callback
      (used_on_channels (drop l.channel l.channels));
}
