use Rattle.std.proofs.Common.{◌≡◌, ◌∷◌, replicate}
use Rattle.cal_queue.proofs.state_table.opening_row.Given as goal

abbrev pub invariant-loop : goal.invariant-loop
invariant-loop l = l.words.items ≡ l.port ∷ replicate l.counter l.each
