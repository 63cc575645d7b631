use Rattle.std.proofs.Common.{◌≡◌, ◌≤◌, replicate}
use Rattle.cal_connection.specs.Channel.{new_channel}
use Rattle.cal_connection.proofs.shared_management_data.SharedManagementData.new.Given as goal

abbrev pub invariant-loop : goal.invariant-loop
invariant-loop l = (l.channels.items ≡ replicate l.counter (new_channel l.settings l.state)) × (l.counter ≤ l.end)
