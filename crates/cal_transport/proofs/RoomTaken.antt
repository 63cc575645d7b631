-- How much room a command takes that makes no chunk.
use Rattle.std.proofs.Common.{◌+◌, ◌-◌, ◌≤◌, ◌≡◌, length, vec_len, vec_capacity, arith}
use Rattle.std.specs.Prelude.{Vec}
use Rattle.cal_transport.specs.Room.{TakesRoomOfOne}
use Rattle.cal_transport.specs.State.{TransportState}

-- there is as much room as before where entries are written in their places
pub same_spare : {X Z : Type 0} (old new : Vec X Z) → vec_capacity new ≡ vec_capacity old →
    length new.items ≡ length old.items → vec_capacity old - vec_len old ≡ vec_capacity new - vec_len new
same_spare old new capacity long = omega (arith, old.ok.0, new.ok.0)

-- no chunk is made, and one more is in transit at most
pub makes_none : (old new : TransportState) → old.spare ≡ new.spare → new.in_transit ≤ old.in_transit + 1 →
    TakesRoomOfOne old new
makes_none old new spare in_transit = record { spare = omega arith; in_transit = in_transit }
