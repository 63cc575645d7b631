use Rattle.cal_queue.specs.SubmissionCalls.{SameTakeEnd}
use Rattle.cal_bench.proofs.two_threads.take_to_last.Given as goal

abbrev pub invariant-loop : goal.invariant-loop
invariant-loop g l = SameTakeEnd l.initial.take l.take
