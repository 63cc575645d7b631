use Rattle.std.proofs.Common.{◌≡◌, ◌+◌, ◌++◌, length}
use Rattle.std.specs.List.{flat_map}
use Rattle.cal_transport.specs.Ledger.{Ledger, numbers_below}
use Rattle.cal_transport.specs.State.{Represents}
use Rattle.cal_transport.specs.TransitLines.{lines_on}
use Rattle.cal_transport.proofs.transport.Transport.transit.Given as goal

-- the channels so far are told, and no room is lost
abbrev pub invariant-loop-channel : goal.invariant-loop-channel
invariant-loop-channel l = record {
  listed : (m : Ledger) → Represents l.self m →
      l.into.items ≡ l.fn.into.items ++ flat_map (lines_on m) (numbers_below l.channel);
  total : l.into.spare + length l.into.items ≡ l.fn.into.spare + length l.fn.into.items;
}
