use Rattle.std.proofs.Common.{◌≡◌, ◌+◌, ◌++◌, length}
use Rattle.std.specs.List.{flat_map}
use Rattle.cal_transport.specs.Ledger.{Ledger, numbers_below}
use Rattle.cal_transport.specs.State.{Represents}
use Rattle.cal_transport.specs.TransitLines.{lines_in}
use Rattle.cal_transport.proofs.transport.Transport.channel_transit.Given as goal

-- the segments so far are told, and no room is lost
abbrev pub invariant-loop-segment : goal.invariant-loop-segment
invariant-loop-segment l = record {
  listed : (m : Ledger) → Represents l.self m →
      l.into.items ≡ l.fn.into.items ++ flat_map (lines_in m l.channel) (numbers_below l.segment);
  total : l.into.spare + length l.into.items ≡ l.fn.into.spare + length l.fn.into.items;
}
