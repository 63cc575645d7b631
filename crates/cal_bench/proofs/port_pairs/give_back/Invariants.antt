use Rattle.std.proofs.Common.{◌≡◌, ◌<◌}
use Rattle.cal_shared.specs.Port.{pair_of_receiver}
use Rattle.cal_bench.proofs.port_pairs.give_back.Given as goal

abbrev pub invariant-loop : goal.invariant-loop
invariant-loop g l = record {
  there : 0 < l.receiver.settings.number_of_channels;
  pair : pair_of_receiver l.receiver ≡ pair_of_receiver l.initial.receiver;
}
