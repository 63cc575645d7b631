use Rattle.cal_queue.specs.SubmissionCalls.{SameSendEnd, SameTakeEnd}
use Rattle.cal_queue.proofs.submission_ring.tests.a_ring_of_one_is_used_many_times_round.Given as goal

abbrev pub invariant-loop-value : goal.invariant-loop-value
invariant-loop-value g l = SameSendEnd l.initial.send l.send × SameTakeEnd l.initial.take l.take
