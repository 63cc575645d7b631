use Rattle.std.proofs.Common.{◌≡◌, ◌<◌, ◌≤◌, All}
use Rattle.cal_queue.specs.StateSeats.{pass}
use Rattle.cal_tests.specs.Writes.{AddsOne, writes}
use Rattle.cal_tests.proofs.state_table.add_ones.Given as goal

abbrev pub invariant-loop : goal.invariant-loop
invariant-loop g l = record {
  writes : writes (pass l.seat).steps ≡ l.done;
  adds : All (AddsOne 0) (pass l.seat).steps;
  channel : 0 < (pass l.seat).opening.channels;
  within : l.done ≤ l.times;
}
