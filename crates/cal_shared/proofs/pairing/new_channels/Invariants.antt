use Rattle.std.proofs.Common.{◌≤◌}
use Rattle.cal_shared.specs.New.{AreNewChannels}
use Rattle.cal_shared.proofs.pairing.new_channels.Given as goal

-- both ends of each channel so far
abbrev pub invariant-loop : goal.invariant-loop
invariant-loop l = record {
  made : AreNewChannels l.settings l.counter l.sending.items l.receiving.items;
  within : l.counter ≤ l.channels;
}
