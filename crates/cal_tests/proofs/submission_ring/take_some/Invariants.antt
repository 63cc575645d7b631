use Rattle.std.proofs.Common.{◌≡◌, [], ℕ, map}
use Rattle.cal_queue.specs.SubmissionCalls.{take_pass, SameTakeEnd}
use Rattle.cal_tests.proofs.submission_ring.take_some.Given as goal

-- the wait takes nothing
abbrev pub invariant-loop : goal.invariant-loop
invariant-loop g l = SameTakeEnd l.initial.take l.take × ((take_pass l.take).received ≡ [])

abbrev pub invariant-loop-2 : goal.invariant-loop-2
invariant-loop-2 g l = SameTakeEnd l.initial.take l.take ×
    (l.taken.items ≡ map (λ (entry : ℕ × ℕ). entry.1) (take_pass l.take).received)
