use Rattle.std.proofs.Common.{◌≡◌, ℕ, map}
use Rattle.std.specs.List.{range_with_len}
use Rattle.cal_queue.specs.SubmissionCalls.{send_pass, SameSendEnd}
use Rattle.cal_tests.proofs.submission_ring.send_all.Given as goal

abbrev pub invariant-loop-value : goal.invariant-loop-value
invariant-loop-value l = record {
  same_ring : SameSendEnd l.initial.send l.send;
  sent : (send_pass l.send).sent ≡ range_with_len 0 l.value;
  returned : l.returned.items ≡ map (λ (entry : ℕ × ℕ). entry.1) (send_pass l.send).overflowed;
}
