use Rattle.std.proofs.Common.{◌∙◌}
use Rattle.cal_queue.proofs.StateTries.{Left-after, LeftMark-after, OnlyLooked-next}
use Rattle.cal_queue.proofs.state_table.seat.StateSeat.leave.Goals as goal

pub returns-in-Some-try_leave-clause-marked : goal.returns-in-Some-try_leave-clause-marked
returns-in-Some-try_leave-clause-marked g c = LeftMark-after _ _ _ _ c.loop.invariant.looked c.in-Some-try_leave.marked
    c.in-Some-try_leave.ensures.some

pub returns-in-Some-try_leave-clause-unmarked : goal.returns-in-Some-try_leave-clause-unmarked
returns-in-Some-try_leave-clause-unmarked g c = Left-after _ _ _ _ c.loop.invariant.looked c.in-Some-try_leave.marked
    c.in-Some-try_leave.ensures.some

pub loop-preserved : goal.loop-preserved
loop-preserved g c = record {
  same_table = c.try_leave.ensures.same_table ∙ c.loop.invariant.same_table;
  looked = OnlyLooked-next _ _ _ c.loop.invariant.looked c.in_default.ensures.none;
}
