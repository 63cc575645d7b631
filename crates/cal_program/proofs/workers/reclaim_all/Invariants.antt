use Rattle.std.proofs.Common.{ℕ, ◌≡◌, ◌<◌}
use Rattle.cal_shared.specs.Port.{pair_of_sender}
use Rattle.cal_program.specs.Workers.{HasSent}
use Rattle.cal_program.proofs.workers.reclaim_all.Given as goal

abbrev pub invariant-loop : goal.invariant-loop
invariant-loop g l = record {
  there : 0 < l.sender.settings.number_of_channels;
  sent : (count : ℕ) → HasSent count l.initial.sender → HasSent count l.sender;
  states : l.sender.states ≡ l.initial.sender.states;
  pair : pair_of_sender l.sender ≡ pair_of_sender l.initial.sender;
}
