use Rattle.std.proofs.Common.{arith}
use Rattle.cal_connection.specs.Channel.{emptied, no_segment}
use Rattle.cal_connection.proofs.Changed.{map-from_IsChangedBelow}
use Rattle.cal_connection.proofs.acquisition.empty_segments.Goals as goal

pub returns : goal.returns
returns c = record {
  emptied = map-from_IsChangedBelow emptied no_segment c.args.segments.now.items c.loop-index.segments.items
      c.loop-index.index (omega arith) c.loop-index.invariant.so_far;
}
