use Rattle.std.proofs.Common.{arith}
use Rattle.cal_connection.specs.Channel.{emptied}
use Rattle.cal_shared.proofs.Changed.{IsChangedBelow-at_start, IsChangedBelow-next, map-from_IsChangedBelow}
use Rattle.cal_shared.proofs.acquisition.empty_segments.Goals as goal

pub loop-index-init : goal.loop-index-init
loop-index-init c = record {
  so_far = IsChangedBelow-at_start emptied c.args.segments.now.items;
  count = omega (arith, c.args.segments.now.ok.0);
  within = omega arith;
}

pub loop-index-preserved : goal.loop-index-preserved
loop-index-preserved c = record {
  so_far = IsChangedBelow-next emptied c.args.segments.now.items c.loop-index.segments.items c.loop-index.index
      c.index_mut.result.now c.empty_segment.new.details (omega arith) c.index_mut.ensures.value
      c.empty_segment.ensures.emptied c.loop-index.invariant.so_far;
  count = c.loop-index.invariant.count;
  within = omega arith;
}

pub returns : goal.returns
returns c = record {
  emptied = map-from_IsChangedBelow emptied c.args.segments.now.items c.loop-index.segments.items
      c.loop-index.index (omega arith) c.loop-index.invariant.so_far;
}
