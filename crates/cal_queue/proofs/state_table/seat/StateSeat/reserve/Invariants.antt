use Rattle.cal_queue.specs.StateAnswers.{OnlyLooked}
use Rattle.cal_queue.specs.StateSeats.{ShareTable, pass}
use Rattle.cal_queue.proofs.state_table.seat.StateSeat.reserve.Given as goal

abbrev pub invariant-loop : goal.invariant-loop
invariant-loop g l = record {
  same_table : ShareTable l.self l.initial.self;
  looked : OnlyLooked (pass l.initial.self) (pass l.self);
}
