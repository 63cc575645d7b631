use Rattle.cal_queue.specs.CompletionCalls.{SameGetEnd, SamePutEnd}
use Rattle.cal_bench.proofs.one_thread.put_and_get.Given as goal

abbrev pub invariant-loop-value : goal.invariant-loop-value
invariant-loop-value l = SamePutEnd l.initial.put l.put × SameGetEnd l.initial.get l.get
