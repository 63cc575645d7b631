use Rattle.cal_queue.specs.SubmissionCalls.{SameSendEnd, SameTakeEnd}
use Rattle.cal_bench.proofs.one_thread.push_and_pop.Given as goal

abbrev pub invariant-loop-value : goal.invariant-loop-value
invariant-loop-value g l = SameSendEnd l.initial.send l.send × SameTakeEnd l.initial.take l.take
