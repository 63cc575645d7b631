use Rattle.std.proofs.Common.{◌≡◌, ◌<◌}
use Rattle.cal_shared.specs.Port.{pair_of_receiver}
use Rattle.cal_shared.specs.Receiving.{borrow_count_at}
use Rattle.cal_shared.specs.Rest.{received_at, released_at}
use Rattle.cal_program.proofs.workers.give_back.Given as goal

abbrev pub invariant-loop : goal.invariant-loop
invariant-loop g l = record {
  there : 0 < l.receiver.settings.number_of_channels;
  borrowed : 0 < borrow_count_at l.receiver 0;
  released : released_at l.receiver 0 ≡ released_at l.initial.receiver 0;
  received : received_at l.receiver 0 ≡ received_at l.initial.receiver 0;
  pair : pair_of_receiver l.receiver ≡ pair_of_receiver l.initial.receiver;
}
