use Rattle.std.proofs.Common.{◌≡◌, ◌<◌}
use Rattle.cal_shared.specs.Port.{pair_of_sender}
use Rattle.cal_bench.proofs.port_pairs.send_all.Given as goal

abbrev pub invariant-loop : goal.invariant-loop
invariant-loop g l = record {
  there : 0 < l.sender.settings.number_of_channels;
  segment : 0 < l.sender.settings.number_of_segments;
  samples : l.sender.settings.number_of_samples ≡ 4096;
  pair : pair_of_sender l.sender ≡ pair_of_sender l.initial.sender;
  below : l.index < 4096;
}
