use Rattle.std.proofs.Common.{◌≡◌}
use Rattle.cal_queue.specs.SubmissionCalls.{LosesTurns, SameTakeEnd, take_pass}
use Rattle.cal_queue.proofs.submission_ring.take_seat.TakeSeat.pop.Given as goal

-- the turns so far were lost, and nothing was received
abbrev pub invariant-loop : goal.invariant-loop
invariant-loop g l = record {
  same_end : SameTakeEnd l.initial.self l.self;
  lost : LosesTurns (take_pass l.initial.self) (take_pass l.self);
  none_received : (take_pass l.self).received ≡ (take_pass l.initial.self).received;
}
