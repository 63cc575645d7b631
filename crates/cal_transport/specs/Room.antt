-- How much room a command takes.
use Rattle.std.specs.Prelude.{◌≤◌, ◌+◌}
use Rattle.cal_transport.specs.State.{TransportState}

-- A command makes one chunk at most, and puts one more in transit at most.
pub record TakesRoomOfOne (old new : TransportState) : Type 0 where
  pub spare : old.spare ≤ new.spare + 1
  pub in_transit : new.in_transit ≤ old.in_transit + 1
