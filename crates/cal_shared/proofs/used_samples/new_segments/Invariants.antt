use Rattle.std.proofs.Common.{◌≡◌, ◌≤◌, replicate}
use Rattle.cal_connection.specs.Channel.{new_segment}
use Rattle.cal_shared.proofs.used_samples.new_segments.Given as goal

abbrev pub invariant-loop : goal.invariant-loop
invariant-loop l = (l.segments.items ≡ replicate l.counter (new_segment l.settings)) × (l.counter ≤ l.end)
