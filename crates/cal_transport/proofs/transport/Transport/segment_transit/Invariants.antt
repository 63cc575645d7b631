use Rattle.std.proofs.Common.{◌≡◌, ◌≤◌, ◌+◌, ◌-◌, ◌++◌, length}
use Rattle.cal_transport.specs.Ledger.{Ledger}
use Rattle.cal_transport.specs.State.{Represents}
use Rattle.cal_transport.specs.TransitLines.{lines_below}
use Rattle.cal_transport.proofs.transport.Transport.segment_transit.Given as goal

-- the buckets so far are told, and no room is lost
abbrev pub invariant-loop-bucket : goal.invariant-loop-bucket
invariant-loop-bucket l = record {
  listed : (m : Ledger) → Represents l.self m →
      l.into.items ≡ l.fn.into.items ++ lines_below m l.channel l.segment l.from;
  total : l.into.spare + length l.into.items ≡ l.fn.into.spare + length l.fn.into.items;
  within : l.from ≤ l.self.settings.samples;
}

abbrev pub decreases-loop-bucket : goal.decreases-loop-bucket
decreases-loop-bucket l = l.self.settings.samples - l.from
