use Rattle.std.proofs.Common.{◌≡◌}
use Rattle.cal_shared.specs.Port.{pair_of_sender}
use Rattle.cal_program.specs.Relay.{relay_settings}
use Rattle.cal_program.specs.Workers.{HasSent}
use Rattle.cal_program.proofs.workers.send_all.Given as goal

abbrev pub invariant-loop-index : goal.invariant-loop-index
invariant-loop-index g l = record {
  settings : l.sender.settings ≡ relay_settings l.form;
  sent : HasSent l.index l.sender;
  states : l.sender.states ≡ l.initial.sender.states;
  pair : pair_of_sender l.sender ≡ pair_of_sender l.initial.sender;
}
