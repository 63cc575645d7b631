use Rattle.std.proofs.Common.{◌≡◌, ◌<◌}
use Rattle.cal_shared.specs.Port.{pair_of_receiver}
use Rattle.cal_program.specs.Workers.{HasGivenBackAll}
use Rattle.cal_program.proofs.workers.receive_all.Given as goal

abbrev pub invariant-loop : goal.invariant-loop
invariant-loop g l = record {
  there : 0 < l.receiver.settings.number_of_channels;
  borrow : l.receiver.settings.max_borrowed_samples ≡ 1;
  given_back : HasGivenBackAll l.receiver;
  pair : pair_of_receiver l.receiver ≡ pair_of_receiver l.initial.receiver;
}
