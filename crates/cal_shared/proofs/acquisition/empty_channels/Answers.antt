use Rattle.std.proofs.Common.{arith}
use Rattle.cal_shared.specs.Acquiring.{after_acquire}
use Rattle.cal_shared.proofs.Changed.{IsChangedBelow-at_start, IsChangedBelow-next, map-from_IsChangedBelow}
use Rattle.cal_shared.proofs.acquisition.empty_channels.Goals as goal

pub loop-index-init : goal.loop-index-init
loop-index-init c = record {
  so_far = IsChangedBelow-at_start after_acquire c.args.channels.now.items;
  count = omega (arith, c.args.channels.now.ok.0);
  within = omega arith;
}

pub loop-index-preserved : goal.loop-index-preserved
loop-index-preserved c = record {
  so_far = IsChangedBelow-next after_acquire c.args.channels.now.items c.loop-index.channels.items c.loop-index.index
      c.index_mut.result.now c.empty_used.new.self (omega arith) c.index_mut.ensures.value
      c.empty_used.ensures.emptied c.loop-index.invariant.so_far;
  count = c.loop-index.invariant.count;
  within = omega arith;
}

pub returns : goal.returns
returns c = record {
  emptied = map-from_IsChangedBelow after_acquire c.args.channels.now.items c.loop-index.channels.items
      c.loop-index.index (omega arith) c.loop-index.invariant.so_far;
}
