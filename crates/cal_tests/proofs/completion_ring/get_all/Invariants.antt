use Rattle.std.proofs.Common.{◌≡◌, ◌≤◌, vec_capacity, vec_len}
use Rattle.cal_queue.specs.CompletionCalls.{SameGetEnd, get_pass}
use Rattle.cal_tests.proofs.completion_ring.get_all.Given as goal

abbrev pub invariant-loop : goal.invariant-loop
invariant-loop g l = record {
  same_end : SameGetEnd l.initial.get l.get;
  got : (get_pass l.get).got ≡ l.got.items;
  within : vec_len l.got ≤ l.count;
  room : l.count ≤ vec_capacity l.got;
}
