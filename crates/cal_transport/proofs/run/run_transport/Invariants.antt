use Rattle.std.proofs.Common.{◌≡◌, None}
use Rattle.cal_transport.proofs.RunningState.{IsRunning}
use Rattle.cal_transport.proofs.run.run_transport.Given as goal

-- the replies so far are steps, the transport stands for the ledger after them, and no transport is left yet
abbrev pub invariant-loop-index : goal.invariant-loop-index
invariant-loop-index l =
    IsRunning l.settings l.commands l.transport l.replies l.index l.room × (l.end ≡ None)
