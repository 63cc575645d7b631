-- The seats of a state table, as contracts see them.
use Rattle.std.specs.Prelude.{◌≡◌}
use Rattle.cal_queue.specs.declared.state_table.pass.StatePass.{StatePass}
use Rattle.cal_queue.specs.declared.state_table.seat.StateSeat.{StateSeat}

-- what the seat knows
abbrev pub pass : StateSeat → StatePass
pass seat = seat.seat.me.0

-- both are seats of one table
abbrev pub ShareTable : StateSeat → StateSeat → Type 0
ShareTable a b = a.seat.table_id ≡ b.seat.table_id
