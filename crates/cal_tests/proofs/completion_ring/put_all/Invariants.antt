use Rattle.std.proofs.Common.{◌≡◌, ◌≤◌, length, take}
use Rattle.cal_queue.specs.CompletionCalls.{SamePutEnd, put_pass}
use Rattle.cal_tests.proofs.completion_ring.put_all.Given as goal

abbrev pub invariant-loop : goal.invariant-loop
invariant-loop g l = record {
  same_end : SamePutEnd l.initial.put l.put;
  put : (put_pass l.put).put ≡ take l.next l.values;
  within : l.next ≤ length l.values;
}
