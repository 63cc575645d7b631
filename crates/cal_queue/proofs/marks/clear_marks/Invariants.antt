use Rattle.cal_queue.proofs.Members.{IsClearedBelow, IsOwed}
use Rattle.cal_queue.proofs.marks.clear_marks.Given as goal

-- The marks so far are cleared and the others stay, and the calls at those are owed.
abbrev pub invariant-loop-index : goal.invariant-loop-index
invariant-loop-index g l = record {
  so_far : IsClearedBelow l.initial.marks l.marks l.index;
  owed : IsOwed g.F.FnMut l.fn.callback l.initial.marks l.callback l.index;
}
