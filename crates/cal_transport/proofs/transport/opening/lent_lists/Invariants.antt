use Rattle.std.proofs.Common.{◌≡◌, ◌≤◌, replicate}
use Rattle.cal_queue.specs.UsedChunks.{none_used}
use Rattle.cal_transport.proofs.transport.opening.lent_lists.Given as goal

abbrev pub invariant-loop : goal.invariant-loop
invariant-loop l = (l.lists.items ≡ replicate l.counter (none_used l.capacity)) × (l.counter ≤ l.end)
