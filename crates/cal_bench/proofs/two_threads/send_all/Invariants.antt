use Rattle.cal_queue.specs.SubmissionCalls.{SameSendEnd}
use Rattle.cal_bench.proofs.two_threads.send_all.Given as goal

abbrev pub invariant-loop-value : goal.invariant-loop-value
invariant-loop-value l = SameSendEnd l.initial.send l.send
