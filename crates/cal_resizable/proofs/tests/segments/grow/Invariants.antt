-- The registry has the memory's segments still, and no more chunks were handed out than steps taken.
use Rattle.std.proofs.Common.{◌+◌, ◌≤◌}
use Rattle.cal_resizable.specs.Memory.{HasAll}
use Rattle.cal_resizable.specs.Slots.{count_at}
use Rattle.cal_resizable.proofs.tests.segments.grow.Given as goal

abbrev pub invariant-loop-step : goal.invariant-loop-step
invariant-loop-step g l = record {
  has : HasAll l.reg l.memory;
  few : count_at l.memory.slots l.memory.current ≤ 1 + l.step;
}
